-- The outcome of a search, whatever its chooser.
use Rattle.std.proofs.Common.{◌≡◌, ℕ, Bool, List, Option, None, Some, refl, subst}
use Rattle.merlin_model.specs.declared.certificate.Tree.{Tree}
use Rattle.merlin_model.specs.declared.policy.Value.{Value}
use Rattle.bound_search.specs.declared.outcome.Outcome.{Outcome}
use Rattle.bound_search.specs.declared.outcome.Outcome.TheVariants.{Least, Infeasible, Budget}
use Rattle.bound_search.specs.Outcomes.{IsSearchOutcome, IsSpent}
use Rattle.cutoff_program.specs.Easy.{IsEasy}
use Rattle.cutoff_program.specs.Flows.{program_at, cutoff_of, takes, is_below}
use Rattle.cutoff_program.specs.Limits.{IsProblem}
use Rattle.cutoff_program.specs.Trails.{IsNeat}
use Rattle.cutoff_program.specs.declared.flow.Problem.{Problem}
use Rattle.cutoff_program.proofs.Cutoffs.{has_cutoffs}
use Rattle.merlin_model.specs.Programs.{Takes, variables}
use Rattle.merlin_program.specs.declared.program.MerlinProgram.{MerlinProgram}
use Rattle.walk_search.specs.Found.{IsSpentAt}
use Rattle.walk_search.specs.Searched.{IsOutcomeOf}
use Rattle.walk_search.proofs.Assigned.{some-taken}
use Rattle.std.proofs.Common.{◌+◌, ◌<◌, ◌^◌}

variables-same : (problem : Problem) (cutoff : Option Value) → IsProblem problem → Takes (takes problem.objective) cutoff → variables (program_at problem cutoff) ≡ variables (program_at problem None)
variables-same problem None is t = refl
variables-same problem (Some z) is t = ((has_cutoffs problem is).narrows (Some z) None t tt refl).size

spent-at : (problem : Problem) (cutoff : Option Value) (chose : List (Option Bool) → ℕ → Type 0) (budget : ℕ) (tree : Tree) → IsProblem problem → Takes (takes problem.objective) cutoff →
    IsSpent (program_at problem cutoff) (IsEasy problem cutoff) chose budget tree → IsSpentAt problem cutoff budget tree
spent-at problem cutoff chose budget tree is t s = record {
  in_budget = s.in_budget;
  spent = s.spent;
  open_end = s.open_end;
  kept = s.kept;
  small = subst (λ n. budget + 1 < 2 ^ (n + 1)) (variables-same problem cutoff is t) s.small;
}

pub outcome : (problem : Problem) (chose : List (Option Bool) → ℕ → Type 0) (budget : ℕ) (o : Outcome Value) → IsProblem problem →
    IsSearchOutcome Value (program_at problem) (IsEasy problem) (IsNeat problem) is_below (cutoff_of problem) chose budget o → IsOutcomeOf problem budget o
outcome problem chose budget (Least point value tree) is h = record {
  point_is = record { solution = h.solution; is_neat = h.is_neat };
  own = h.own;
  refutes = record { refutes = h.refutes; in_budget = h.in_budget };
}
outcome problem chose budget (Infeasible tree) is h = record { refutes = h.refutes; in_budget = h.in_budget }
outcome problem chose budget (Budget None tree) is h = spent-at problem None chose budget tree is tt h
outcome problem chose budget (Budget (Some point) tree) is h =
    let z = some-taken problem.objective in
    (record { solution = h.0; is_neat = h.1 }, spent-at problem (Some (cutoff_of problem point)) chose budget tree is ((has_cutoffs problem is).taken z.0 point z.1 h.0.size) h.2)

-- the same where the search kept a program that is the one that was handed in
pub outcome-for : (p q : MerlinProgram) (chose : List (Option Bool) → ℕ → Type 0) (budget : ℕ) (o : Outcome Value) → p ≡ q → IsProblem q.problem →
    IsSearchOutcome Value (program_at p.problem) (IsEasy p.problem) (IsNeat p.problem) is_below (cutoff_of p.problem) chose budget o → IsOutcomeOf q.problem budget o
outcome-for p q chose budget o e is h =
    outcome q.problem chose budget o is
    (subst (λ (x : MerlinProgram). IsSearchOutcome Value (program_at x.problem) (IsEasy x.problem) (IsNeat x.problem) is_below (cutoff_of x.problem) chose budget o) e h)
