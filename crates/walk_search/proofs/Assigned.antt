-- What points and trees say of walks.
use Rattle.std.proofs.Common.{◌≡◌, ℕ, zero, suc, get_or, map, Bool, true, false, List, [], ◌∷◌, Option, None, Some, IsTrue, refl, sym, ◌∙◌, subst}
use Rattle.std.specs.List.{AllZip}
use Rattle.merlin_model.specs.declared.certificate.Tree.{Tree}
use Rattle.merlin_model.specs.declared.policy.Ends.{Ends}
use Rattle.merlin_model.specs.declared.policy.Objective.{Objective}
use Rattle.merlin_model.specs.declared.policy.Objective.TheVariants as objective
use Rattle.merlin_model.specs.declared.policy.Symbol.{Symbol}
use Rattle.merlin_model.specs.declared.policy.Value.{Value}
use Rattle.merlin_model.specs.declared.policy.Value.TheVariants.{Whole, Ratio}
use Rattle.merlin_model.specs.Networks.{Network}
use Rattle.merlin_model.specs.Policies.{Policy}
use Rattle.merlin_model.specs.Programs.{Program, IsSolution}
use Rattle.merlin_model.specs.Trees.{IsInBox, root_box}
use Rattle.merlin_model.specs.Assignments.{IsAssignment, IsFeasible, IsSmaller, value_of}
use Rattle.merlin_model.proofs.Refuting.{refuted}
use Rattle.cutoff_program.specs.declared.flow.Flow.{Flow}
use Rattle.cutoff_program.specs.declared.flow.Problem.{Problem}
use Rattle.cutoff_program.specs.Flows.{program_at, cutoff_of, takes}
use Rattle.cutoff_program.specs.Limits.{IsProblem}
use Rattle.cutoff_program.specs.Walks.{IsFlowOf, IsProblemOf, HasPoint}
use Rattle.cutoff_program.proofs.Bridge.{forth}
use Rattle.cutoff_program.proofs.Cutoffs.{has_cutoffs}
use Rattle.cutoff_program.proofs.Order.{below-smaller}
use Rattle.rules_model.specs.Products.{SymbolAutomaton}
use Rattle.program_walks.specs.Bounds.{IsSeparateBound}
use Rattle.program_walks.specs.Solutions.{AreFlowsWith, IsLaidOut, AreWalksOfPoint}
use Rattle.program_walks.proofs.Below.{not-below}
use Rattle.walk_search.specs.Found.{RefutesAt, AreFoundWalks, NoneIsBelow, IsLeastFound, IsNoneFound}
use Rattle.walk_search.specs.Searched.{IsNeatSolution, IsLeastSolution}

none-mapped : {X : Type 0} (xs : List X) (k : ℕ) → get_or (map (λ (x : X). let o : Option Bool = None in o) xs) k None ≡ None
none-mapped [] k = refl
none-mapped (x ∷ xs) zero = refl
none-mapped (x ∷ xs) (suc k) = none-mapped xs k

none_some : {X : Type 0} {x : X} → None ≡ Some x → ⊥
none_some e = cc

in-root : (program : Program) (point : List Bool) → IsInBox (root_box program) point
in-root program point v to e = absurd (none_some (sym (none-mapped program.upper v) ∙ e))

-- some cutoff is taken
pub some-taken : (o : Objective) → (z : Value) × IsTrue (takes o z)
some-taken objective.Shortest = (Whole 0, refl)
some-taken objective.Ratio = (Ratio 0 1, refl)
some-taken objective.Reserved = (Whole 0, refl)

module _ (net : Network) (policy : Policy) (automata : ℕ → SymbolAutomaton) where
  zipped : (ends : List Ends) (flows : List Flow) (symbols : List (List Symbol)) → AreFlowsWith net policy automata ends flows symbols → AllZip (IsFlowOf net policy automata) ends flows
  zipped [] [] [] are = tt
  zipped (e ∷ ends) (flow ∷ flows) (first ∷ symbols) are = (are.0.of, zipped ends flows symbols are.1)
  zipped [] [] (first ∷ symbols) are = absurd are
  zipped [] (flow ∷ flows) symbols are = absurd are
  zipped (e ∷ ends) [] symbols are = absurd are
  zipped (e ∷ ends) (flow ∷ flows) [] are = absurd are

  pub problem-of : (ends : List Ends) (o : Objective) (problem : Problem) (symbols : List (List Symbol)) → IsLaidOut net policy automata ends o problem symbols → IsProblemOf net policy automata ends o problem
  problem-of ends o problem symbols laid = record { flows = zipped ends problem.flows symbols laid.flows; links_are = laid.links_are; objective_is = laid.objective_is }

module _ (net : Network) (policy : Policy) (automata : ℕ → SymbolAutomaton) (ends : List Ends) (o : Objective) (problem : Problem) (symbols : List (List Symbol)) (is : IsProblem problem) (laid : IsLaidOut net policy automata ends o problem symbols) where
  point-for : (walks : List (List Symbol)) → IsAssignment net policy ends walks → IsFeasible net policy ends walks → HasPoint net policy automata ends o problem walks
  point-for walks assigned feasible = forth net policy automata laid.network ends o problem walks (problem-of net policy automata ends o problem symbols laid) is assigned feasible

  pub found-walks : (point : List Bool) (walks : List (List Symbol)) → IsNeatSolution problem point → AreWalksOfPoint problem symbols point walks → AreFoundWalks net policy automata ends o (cutoff_of problem point) walks
  found-walks point walks good are =
      let a = are net policy automata ends o laid None good.solution in
      record { assignment = a.assignment; simple = a.simple; feasible = a.feasible; value_is = sym (a.neat good.is_neat) }

  -- the value of a solution is a cutoff that is taken
  taken : (point : List Bool) → IsSolution (program_at problem None) point → takes o (cutoff_of problem point) ≡ true
  taken point solution =
      let z = some-taken problem.objective in
      subst (λ q. takes q (cutoff_of problem point) ≡ true) laid.objective_is ((has_cutoffs problem is).taken z.0 point z.1 solution.size)

  none-below : (point : List Bool) (tree : Tree) (budget : ℕ) → IsSolution (program_at problem None) point → RefutesAt problem (Some (cutoff_of problem point)) budget tree → NoneIsBelow net policy automata ends o (cutoff_of problem point)
  none-below point tree budget solution refutes walks assigned feasible smaller =
      let z : Value = cutoff_of problem point in
      let p = point-for walks assigned feasible in
      refuted (program_at problem (Some z)) tree (root_box (program_at problem (Some z))) refutes.refutes p.point
      (p.better z (taken point solution) ((below-smaller (value_of net policy ends o walks) z).1 smaller)) (in-root (program_at problem (Some z)) p.point)

  pub least-found : (budget : ℕ) (point : List Bool) (value : Value) (tree : Tree) (walks : List (List Symbol)) → IsLeastSolution problem budget point value tree → AreWalksOfPoint problem symbols point walks →
      IsLeastFound net policy automata ends o problem budget value walks tree
  least-found budget point value tree walks least are =
      let f = found-walks point walks least.point_is are in
      let r = subst (λ v. RefutesAt problem (Some v) budget tree) least.own least.refutes in
      record {
        found = subst (λ v. AreFoundWalks net policy automata ends o v walks) (sym least.own) f;
        least = record {
          assignment = f.assignment;
          feasible = f.feasible;
          least = λ others assigned feasible smaller. none-below point tree budget least.point_is.solution r others assigned feasible (subst (λ v. IsSmaller (value_of net policy ends o others) v) (sym f.value_is) smaller);
        };
        refutes = least.refutes;
      }

  pub none-found : (budget : ℕ) (tree : Tree) → RefutesAt problem None budget tree → IsNoneFound net policy automata ends o problem budget tree
  none-found budget tree r = record {
    none = λ walks assigned feasible.
        let p = point-for walks assigned feasible in
        refuted (program_at problem None) tree (root_box (program_at problem None)) r.refutes p.point p.solution (in-root (program_at problem None) p.point);
    refutes = r;
  }

  pub bounded : (bound : Value) → IsSeparateBound problem (Some bound) → NoneIsBelow net policy automata ends o bound
  bounded bound b walks assigned feasible smaller =
      let low = (below-smaller (value_of net policy ends o walks) bound).1 smaller in
      let high = not-below net policy automata laid.network problem ends o walks (problem-of net policy automata ends o problem symbols laid) is assigned feasible bound b in
      true-false (sym low ∙ high)
    where
      true-false : true ≡ false → ⊥
      true-false e = cc
