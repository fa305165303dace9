use Rattle.std.proofs.Common.{◌≡◌, ◌∙◌, ℕ, refl, sym, ap, subst, arith}
use Rattle.std.specs.Option.{option_copied}
use Rattle.std.specs.Result.{IfOk}
use Rattle.merlin_model.specs.declared.policy.Objective.{Objective}
use Rattle.merlin_model.specs.declared.policy.Objective.TheVariants as objective
use Rattle.cutoff_program.specs.declared.flow.Problem.{Problem}
use Rattle.cutoff_program.specs.Flows.{program_at}
use Rattle.price_candidates.specs.Leaves.{Lengths, leaf_from}
use Rattle.price_candidates.specs.Tried.{lengths_by}
use Rattle.price_bound.specs.Numbers.{IsLeafTried}
use Rattle.price_bound.proofs.Flat.{zeros-put}
use Rattle.price_bound.proofs.tried.try_lengths.Goals as goal

pub try_leaf-requires-in_default : goal.try_leaf-requires-in_default
try_leaf-requires-in_default c =
    let problem = c.args.program.now.problem in
    let numbers = c.requires.costs in
    record {
      asked = c.requires.asked;
      room = c.requires.room;
      numbers = record {
        at = λ n u. 0;
        small = record { start = λ n. refl; low = λ n u. omega arith };
        flat = c.as_slice.ensures ∙ zeros-put c.args.costs.now c.new-zeros.result c.push_zeros.new.numbers numbers.at problem.flows numbers.flat c.new-zeros.ensures c.in_ok-push_zeros-in_default.ensures;
      };
      priced = tt;
    }

pub returns-in_ok-push_zeros-in_default : goal.returns-in_ok-push_zeros-in_default
returns-in_ok-push_zeros-in_default c =
    let problem = c.args.program.now.problem in
    let numbers = c.requires.costs in
    let zeros = c.as_slice.ensures ∙ zeros-put c.args.costs.now c.new-zeros.result c.push_zeros.new.numbers numbers.at problem.flows numbers.flat c.new-zeros.ensures c.in_ok-push_zeros-in_default.ensures in
    record {
      same = c.try_leaf-in_default.ensures.same;
      tried = λ at flat.
          subst (λ (l : ℕ → ℕ → ℕ). IfOk c.try_leaf-in_default.result (IsLeafTried (program_at problem (option_copied c.args.cutoff)) c.args.fixed.now (leaf_from problem l Lengths)))
          (sym (none problem.objective at (λ e. c.in_default.not-Shortest (ap (λ (p : Problem). p.objective) c.problem.ensures ∙ e))))
          (c.try_leaf-in_default.ensures.tried (λ n u. 0) zeros);
    }
  where
    none : (o : Objective) (at : ℕ → ℕ → ℕ) → (o ≡ objective.Shortest → ⊥) → lengths_by o at ≡ (λ n u. 0)
    none objective.Shortest at h = absurd (h refl)
    none objective.Ratio at h = refl
    none objective.Reserved at h = refl
