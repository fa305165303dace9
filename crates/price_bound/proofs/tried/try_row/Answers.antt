use Rattle.std.proofs.Common.{Bool, List, ℕ, ℤ, pos, negsuc, ◌≡◌, ◌⊎◌, inl, inr, Option, None, Some, subst}
use Rattle.std.specs.Option.{option_copied}
use Rattle.merlin_model.specs.declared.certificate.Weight.{Weight}
use Rattle.merlin_model.specs.Programs.{Program}
use Rattle.merlin_model.specs.Trees.{RefutesBox}
use Rattle.cutoff_program.specs.Flows.{program_at}
use Rattle.price_candidates.specs.Tried.{one_weight}
use Rattle.price_bound.specs.Numbers.{IsLeafTried, IsRowTried}
use Rattle.price_bound.proofs.Steps.{ok-so}
use Rattle.price_bound.proofs.tried.try_row.Goals as goal

pub returns-in-None-clause-tried : goal.returns-in-None-clause-tried
returns-in-None-clause-tried c =
    let program = program_at c.args.program.now.problem (option_copied c.args.cutoff) in
    let box = c.args.fixed.now in
    let row = c.args.row in
    let above = subst (IsLeafTried program box (one_weight row (pos 1))) c.in-None.is c.in_ok-weights.ensures.tried in
    ok-so (IsLeafTried program box (one_weight row (negsuc 0))) (IsRowTried program box row) c.try_weight-in-None.result (λ o. by program box row above o) c.try_weight-in-None.ensures.tried
  where
    by : (program : Program) (box : List (Option Bool)) (row : ℕ) → (¬ RefutesBox program box (one_weight row (pos 1))) → (o : Option (List Weight)) → IsLeafTried program box (one_weight row (negsuc 0)) o → IsRowTried program box row o
    by program box row above (Some weights) r = r
    by program box row above None below = each
      where
        each : (weight : ℤ) → (weight ≡ pos 1) ⊎ (weight ≡ negsuc 0) → ¬ RefutesBox program box (one_weight row weight)
        each weight (inl e) r = above (subst (λ w. RefutesBox program box (one_weight row w)) e r)
        each weight (inr e) r = below (subst (λ w. RefutesBox program box (one_weight row w)) e r)
