-- What a spent tree says: no flow is without a trail, and where it is grown at all some box can be split.
use Rattle.std.proofs.Common.{◌≡◌, inl, ℕ, Bool, true, false, List, [], ◌∷◌, Option, None, Some, refl, sym, subst}
use Rattle.std.specs.List.{AllByRecursion}
use Rattle.merlin_model.specs.declared.certificate.Tree.{Tree, Leaf, Split', Unclosed, end_of-Tree, more_of-Tree}
use Rattle.merlin_model.specs.declared.policy.Value.{Value}
use Rattle.merlin_model.specs.Programs.{Program, Takes}
use Rattle.merlin_model.specs.Trees.{IsKeptNode, nodes_of, root_box, has_open_end}
use Rattle.cutoff_program.specs.declared.flow.Problem.{Problem}
use Rattle.cutoff_program.specs.Easy.{IsEasy, Cut, MayAt, MayIn}
use Rattle.cutoff_program.specs.Flows.{program_at, cutoff_of, takes}
use Rattle.cutoff_program.specs.Limits.{IsProblem}
use Rattle.cutoff_program.proofs.Cutoffs.{has_cutoffs}
use Rattle.rules_model.specs.Products.{SymbolAutomaton}
use Rattle.merlin_model.specs.declared.policy.Ends.{Ends}
use Rattle.merlin_model.specs.declared.policy.Objective.{Objective}
use Rattle.merlin_model.specs.declared.policy.Symbol.{Symbol}
use Rattle.merlin_model.specs.Networks.{Network}
use Rattle.merlin_model.specs.Policies.{Policy}
use Rattle.program_walks.specs.Bounds.{IsSeparateBound, HasFlowWithoutTrail}
use Rattle.program_walks.specs.Solutions.{IsLaidOut}
use Rattle.walk_search.specs.Found.{IsSpentAt, AreFoundWalks, IsSpentFound}
use Rattle.walk_search.specs.Searched.{IsNeatSolution, IsStoppedAt, AreWalksIf}
use Rattle.walk_search.proofs.Assigned.{some-taken, found-walks, bounded}

false-true : false ≡ true → ⊥
false-true e = cc

-- the box of a tree with an open end is not easy
not-easy : (program : Program) (easy : List (Option Bool) → Type 0) (tree : Tree) (box : List (Option Bool)) → AllByRecursion (λ node. IsKeptNode program easy node.0 node.1) (nodes_of tree box) →
    has_open_end (nodes_of tree box) ≡ true → easy box → ⊥
not-easy program easy (Leaf weights) box kept unclosed is = false-true unclosed
not-easy program easy (Split' variable _ (more_of-Tree zero' end_of-Tree) _ (more_of-Tree one end_of-Tree)) box kept unclosed is = kept.0.1 is
not-easy program easy Unclosed box kept unclosed is = kept.0.1 is

-- what may be 1 at a cutoff may be 1 without one
one_without : (problem : Problem) (cutoff : Option Value) → IsProblem problem → Takes (takes problem.objective) cutoff → (k : ℕ) → MayAt problem cutoff k → MayAt problem None k
one_without problem None is t k may = may
one_without problem (Some z) is t k may = ((has_cutoffs problem is).narrows (Some z) None t tt refl).upper k may

may_without : (problem : Problem) (cutoff : Option Value) (box : List (Option Bool)) → IsProblem problem → Takes (takes problem.objective) cutoff → (trail : List ℕ) → AllByRecursion (MayIn problem cutoff box) trail → AllByRecursion (MayAt problem None) trail
may_without problem cutoff box is t [] all = tt
may_without problem cutoff box is t (k ∷ ks) all = (one_without problem cutoff is t k all.0.0, may_without problem cutoff box is t ks all.1)

-- a flow without a trail makes each box plainly closed
easy-box : (problem : Problem) (cutoff : Option Value) (box : List (Option Bool)) → IsProblem problem → Takes (takes problem.objective) cutoff → HasFlowWithoutTrail problem → IsEasy problem cutoff box
easy-box problem cutoff box is t h = inl (Cut (record {
  n = h.n;
  flow = h.flow;
  stands = h.stands;
  none = λ trail through. h.none trail (record { steps = through.steps; allowed = may_without problem cutoff box is t trail through.allowed });
}))

has-trails : (problem : Problem) (cutoff : Option Value) (budget : ℕ) (tree : Tree) → IsProblem problem → Takes (takes problem.objective) cutoff → IsSpentAt problem cutoff budget tree → HasFlowWithoutTrail problem → ⊥
has-trails problem cutoff budget tree is t spent h =
    not-easy (program_at problem cutoff) (IsEasy problem cutoff) tree (root_box (program_at problem cutoff)) spent.kept spent.open_end (easy-box problem cutoff (root_box (program_at problem cutoff)) is t h)

pub stopped-has-trails : (problem : Problem) (budget : ℕ) (tree : Tree) (best : Option (List Bool)) → IsProblem problem → IsStoppedAt problem budget tree best → HasFlowWithoutTrail problem → ⊥
stopped-has-trails problem budget tree None is stopped h = has-trails problem None budget tree is tt stopped h
stopped-has-trails problem budget tree (Some point) is stopped h =
    let z = some-taken problem.objective in
    has-trails problem (Some (cutoff_of problem point)) budget tree is ((has_cutoffs problem is).taken z.0 point z.1 stopped.0.solution.size) stopped.1 h

pub stopped-neat : (problem : Problem) (budget : ℕ) (tree : Tree) (best : Option (List Bool)) → IsStoppedAt problem budget tree best → (point : List Bool) → best ≡ Some point → IsNeatSolution problem point
stopped-neat problem budget tree None stopped point e = absurd (none_some e)
  where
    none_some : None ≡ Some point → ⊥
    none_some e = cc
stopped-neat problem budget tree (Some other) stopped point e = subst (IsNeatSolution problem) (some_some e) stopped.0
  where
    some_some : Some other ≡ Some point → other ≡ point
    some_some e = cc

module _ (net : Network) (policy : Policy) (automata : ℕ → SymbolAutomaton) (ends : List Ends) (o : Objective) (problem : Problem) (symbols : List (List Symbol)) (is : IsProblem problem) (laid : IsLaidOut net policy automata ends o problem symbols) where
  pub spent-found : (budget : ℕ) (tree : Tree) (best : Option (List Bool)) (found : Option (Value × List (List Symbol))) (bound : Value) → IsStoppedAt problem budget tree best → AreWalksIf problem symbols best found → IsSeparateBound problem (Some bound) →
      IsSpentFound net policy automata ends o problem budget found bound tree
  spent-found budget tree None None bound stopped are b = record { found = tt; spent = stopped; bound_is = b; bounds = bounded net policy automata ends o problem symbols is laid bound b }
  spent-found budget tree (Some point) (Some best) bound stopped are b = record {
    found = subst (λ v. AreFoundWalks net policy automata ends o v best.1) (sym are.0) (found-walks net policy automata ends o problem symbols is laid point best.1 stopped.0 are.1);
    spent = subst (λ v. IsSpentAt problem (Some v) budget tree) (sym are.0) stopped.1;
    bound_is = b;
    bounds = bounded net policy automata ends o problem symbols is laid bound b;
  }
  spent-found budget tree None (Some best) bound stopped are b = absurd are
  spent-found budget tree (Some point) None bound stopped are b = absurd are
