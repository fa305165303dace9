use Rattle.std.proofs.Common.{◌≡◌, ◌+◌, sym, ◌∙◌, ap, subst, length}
use Rattle.fair_share.specs.declared.fill.Given.{Given}
use Rattle.fair_share.specs.Shares.{share_rates}
use Rattle.fair_share.specs.Filling.{demands, IsRaised, IsBetweenLevels}
use Rattle.fair_share.proofs.Filling.{shares-long, at-some}
use Rattle.fair_share.proofs.Between.{between-starts, between-raised}
use Rattle.fair_share.proofs.Rates.{rates-long}
use Rattle.fair_share.proofs.fill.take_on.Goals.{in-Some, in_default}
use Rattle.fair_share.proofs.fill.take_on.Goals as goal

pub counts_of-requires-clause-shares : goal.counts_of-requires-clause-shares
counts_of-requires-clause-shares c =
    let same : c.deref.result.now ≡ c.args.given.now.shares.items = c.deref.ensures.value in
    ap (λ ss. length ss) same ∙ sym (rates-long c.args.given.now.shares.items) ∙ shares-long (demands c.args.caps.now c.args.tenants.now) (share_rates c.args.given.now.shares.items) c.requires.filled.feasible

pub at_level-requires-clause-shares : goal.at_level-requires-clause-shares
at_level-requires-clause-shares c =
    let same : c.deref-4.result.now ≡ c.args.given.now.shares.items = c.deref-4.ensures.value in
    ap (λ ss. length ss) same ∙ sym (rates-long c.args.given.now.shares.items) ∙ shares-long (demands c.args.caps.now c.args.tenants.now) (share_rates c.args.given.now.shares.items) c.requires.filled.feasible

pub returns : goal.returns
returns c = elim c.match-branch-4.branch [
  | in-Some w ↦ (
      let same : c.deref-4.result.now ≡ c.args.given.now.shares.items = c.deref-4.ensures.value in
      let easy : c.deref-5.result.now ≡ c.in_ok-easy.easy.items = c.deref-5.ensures.value in
      let found : IsRaised (demands c.args.caps.now c.args.tenants.now) (share_rates c.args.given.now.shares.items) c.in_ok-easy.easy.items (c.args.level + 1) (share_rates w.in-Some.found.shares.items) w.in-Some.found.used.items =
      subst (λ ss. IsRaised (demands c.args.caps.now c.args.tenants.now) (share_rates ss) c.in_ok-easy.easy.items (c.args.level + 1) (share_rates w.in-Some.found.shares.items) w.in-Some.found.used.items) same
      (subst (λ bs. IsRaised (demands c.args.caps.now c.args.tenants.now) (share_rates c.deref-4.result.now) bs (c.args.level + 1) (share_rates w.in-Some.found.shares.items) w.in-Some.found.used.items) easy
      (at-some c.in_ok-found.field-0 w.in-Some.found
      (λ given. IsRaised (demands c.args.caps.now c.args.tenants.now) (share_rates c.deref-4.result.now) c.deref-5.result.now (c.args.level + 1) (share_rates given.shares.items) given.used.items) w.in-Some.is c.in_ok-found.ensures)) in
      subst (λ (g : Given). IsBetweenLevels (demands c.args.caps.now c.args.tenants.now) (share_rates g.shares.items) c.args.rising.now g.used.items c.args.level 0) (sym w.given-is)
      (between-raised (demands c.args.caps.now c.args.tenants.now) (share_rates c.args.given.now.shares.items) (share_rates w.in-Some.found.shares.items) c.args.rising.now c.in_ok-easy.easy.items c.args.given.now.used.items w.in-Some.found.used.items c.args.level
      c.requires.filled found c.in_ok-easy.ensures.rise))
  | in_default w ↦ (
      subst (λ (g : Given). IsBetweenLevels (demands c.args.caps.now c.args.tenants.now) (share_rates g.shares.items) c.args.rising.now g.used.items c.args.level 0) (sym w.given-is)
      (between-starts (demands c.args.caps.now c.args.tenants.now) (share_rates c.args.given.now.shares.items) c.args.rising.now c.args.given.now.used.items c.args.level c.requires.filled))
]
