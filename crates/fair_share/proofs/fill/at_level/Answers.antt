use Rattle.std.proofs.Common.{◌≡◌, ◌≤◌, slice_index, ◌∙◌, subst, arith}
use Rattle.std.proofs.lemmas.Option.{slice_get_within}
use Rattle.fair_share.specs.Shares.{share_rates}
use Rattle.fair_share.specs.Filling.{demands, AreUsed}
use Rattle.fair_share.proofs.Filling.{level-demands}
use Rattle.fair_share.proofs.Rates.{rates-long}
use Rattle.fair_share.proofs.fill.at_level.Goals as goal

pub returns-then-are_within : goal.returns-then-are_within
returns-then-are_within c =
    let next : c.deref.result.now ≡ c.in_ok-next.next.items = c.deref.ensures.value in
    let seen : c.deref-2.result.now ≡ c.in_ok-used.used.items = c.deref-2.ensures.value in
    let used : AreUsed (demands c.args.caps.now c.args.tenants.now) (share_rates c.in_ok-next.next.items) c.in_ok-used.used.items =
    subst (λ ss. AreUsed (demands c.args.caps.now c.args.tenants.now) (share_rates ss) c.in_ok-used.used.items) next c.in_ok-used.ensures in
    let within = c.are_within.ensures.0 c.if-are_within.true in record {
      feasible = record {
        demands = level-demands (demands c.args.caps.now c.args.tenants.now) (share_rates c.args.shares.now) (share_rates c.in_ok-next.next.items) c.args.rising.now c.args.level c.requires.feasible
            (rates-long c.in_ok-next.next.items ∙ c.in_ok-next.ensures.as_many) c.in_ok-next.ensures.each;
        caps = λ k cap stands.
            let sum = used.each k (slice_get_within c.args.caps.now k cap stands) in
            let less : slice_index c.in_ok-used.used.items k ≤ cap.rate = subst (λ us. slice_index us k ≤ cap.rate) seen (within k cap stands) in
            omega arith;
      };
      taken = used;
      each = c.in_ok-next.ensures.each;
    }
