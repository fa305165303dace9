use Rattle.std.proofs.Common.{◌≡◌, ℕ, zero, suc, ◌∷◌, length, true, replicate, refl, ◌∙◌, ap, arith}
use Rattle.std.proofs.lemmas.List.{length-replicate}
use Rattle.fair_share.specs.Shares.{share_rates}
use Rattle.fair_share.specs.Filling.{demands}
use Rattle.fair_share.proofs.Filling.{filled-none, filled-all}
use Rattle.fair_share.proofs.Rates.{no_share}
use Rattle.fair_share.proofs.fill.fill.Goals as goal

rates-none : (n : ℕ) → share_rates (replicate n no_share) ≡ replicate n zero
rates-none zero = refl
rates-none (suc n) = ap (λ xs. zero ∷ xs) (rates-none n)

pub levels-init : goal.levels-init
levels-init c =
    let shares : c.in_ok-shares.shares.items ≡ replicate (length c.args.tenants.now) no_share = c.in_ok-shares.ensures.items_if_clones_equal (λ y e. e) in
    let used : c.in_ok-used.used.items ≡ replicate (length c.args.caps.now) zero = c.in_ok-used.ensures.items_if_clones_equal (λ y e. e) in
    let rising : c.in_ok-rising.rising.items ≡ replicate (length c.args.tenants.now) true = c.in_ok-rising.ensures.items_if_clones_equal (λ y e. e) in (
      filled-none c.args.caps.now c.args.tenants.now (share_rates c.in_ok-shares.shares.items) c.in_ok-used.used.items c.in_ok-rising.rising.items (ap share_rates shares ∙ rates-none (length c.args.tenants.now)) used rising
          (ap (λ l. length l) used ∙ length-replicate (length c.args.caps.now) zero) (ap (λ l. length l) rising ∙ length-replicate (length c.args.tenants.now) true),
      omega arith,
    )

pub returns-clause-settled : goal.returns-clause-settled
returns-clause-settled c i tenant e = filled-all (demands c.args.caps.now c.args.tenants.now) (share_rates c.levels.given.shares.items) c.levels.given.used.items c.levels.rising.items c.levels.level c.levels.invariant.0
    (λ k t f. let a = c.greatest_demand-top.ensures k t f in let b = c.levels-test.false in omega arith) i tenant e
