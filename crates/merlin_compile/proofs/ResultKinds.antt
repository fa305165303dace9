-- Which kinds of results an input may have.
use Rattle.std.proofs.Common.{◌≡◌, ◌≤◌, ◌<◌, ◌+◌, ◌^◌, inl, inr, ℕ, zero, suc, Bool, true, false, List, [], ◌∷◌, map, Option, None, Some, refl, sym, ◌∙◌, ap, subst, arith}
use Rattle.std.specs.List.{AllByRecursion}
use Rattle.merlin_model.specs.declared.certificate.Tree.{Tree, Leaf, Split', Unclosed, end_of-Tree, more_of-Tree}
use Rattle.merlin_model.specs.declared.policy.Ends.{Ends}
use Rattle.merlin_model.specs.declared.policy.Objective.{Objective}
use Rattle.merlin_model.specs.declared.policy.Symbol.{Symbol}
use Rattle.merlin_model.specs.declared.policy.Value.{Value}
use Rattle.merlin_model.specs.Networks.{Network}
use Rattle.merlin_model.specs.Policies.{Policy as NumberedPolicy}
use Rattle.merlin_model.specs.Assignments.{AreAllEnds, IsAssignment, IsFeasible, value_of}
use Rattle.merlin_model.specs.Programs.{Program, variables}
use Rattle.merlin_model.specs.Trees.{fixed_at, root_box, nodes_of, has_open_end, IsKeptNode}
use Rattle.cutoff_program.specs.Easy.{IsEasy, IsUncoupled}
use Rattle.cutoff_program.specs.Flows.{program_at}
use Rattle.cutoff_program.specs.declared.flow.Problem.{Problem}
use Rattle.policy_expansion.specs.declared.policy.Policy.{Policy}
use Rattle.policy_check.specs.Checked.{CheckedPolicy}
use Rattle.policy_flows.specs.Layouts.{StatementParts, IsLayout}
use Rattle.topology_rules.specs.Faults.{IsTopology}
use Rattle.walk_search.specs.declared.found.WalksFound.{WalksFound}
use Rattle.walk_search.specs.declared.found.WalksFound.TheVariants as found
use Rattle.walk_search.specs.Found.{IsSpentAt, IsSpentFound, IsFoundFor, AreNoWalks, value_if, AreFoundIf}
use Rattle.walk_search.specs.Parts.{checked_parts}
use Rattle.merlin_compile.specs.declared.outcome.Compiled.{Compiled}
use Rattle.merlin_compile.specs.declared.outcome.Compiled.TheVariants.{Least, Infeasible, Budget}
use Rattle.merlin_compile.specs.Input.{WasChecked, HasOnePairs, IsInput}
use Rattle.merlin_compile.specs.Compiled.{IsCompiledFrom, IsPartialFrom}
use Rattle.merlin_compile.specs.Completeness.{GuaranteesNothing, HasFeasibleWalks, IsProblemFor, NeverCouples, IsLeastResult, IsInfeasibleResult, IsSpentResult}
use Rattle.merlin_compile.proofs.OneInput.{carry, same-problem}

-- A tree of kept nodes whose root is easy is one leaf, and has no open end.

false-true : false ≡ true → ⊥
false-true e = cc

leaf-alone : (program : Program) (easy : List (Option Bool) → Type 0) (tree : Tree) (box : List (Option Bool)) → easy box → AllByRecursion (λ node. IsKeptNode program easy node.0 node.1) (nodes_of tree box) →
    has_open_end (nodes_of tree box) ≡ true → ⊥
leaf-alone program easy (Leaf weights) box is kept ends = false-true ends
leaf-alone program easy (Split' variable _ (more_of-Tree low end_of-Tree) _ (more_of-Tree high end_of-Tree)) box is kept ends = kept.0.1 is
leaf-alone program easy Unclosed box is kept ends = kept.0.1 is

nothing-fixed : (xs : List Bool) (k : ℕ) → fixed_at (map (λ _. None) xs) k ≡ None
nothing-fixed [] k = refl
nothing-fixed (x ∷ xs) zero = refl
nothing-fixed (x ∷ xs) (suc k) = nothing-fixed xs k

not-spent : (problem : Problem) (cutoff : Option Value) (budget : ℕ) (tree : Tree) → IsUncoupled problem cutoff → ¬ IsSpentAt problem cutoff budget tree
not-spent problem cutoff budget tree free h =
    leaf-alone (program_at problem cutoff) (IsEasy problem cutoff) tree (root_box (program_at problem cutoff))
    (inr (free, λ k may. nothing-fixed (program_at problem cutoff).upper k)) h.kept h.open_end

-- what is found is not spent where shortest paths do not hinder one another
module _ (net : Network) (policy : NumberedPolicy) (parts : StatementParts) (ends : List Ends) (o : Objective) (problem : Problem) (budget : ℕ) (bound : Value) (tree : Tree) where
  never : NeverCouples net policy ends o problem → (best : Option (Value × List (List Symbol))) → ¬ IsSpentFound net policy parts.automaton ends o problem budget best bound tree
  never free None h = not-spent problem None budget tree free.without h.spent
  never free (Some best) h =
      let own = h.found in
      not-spent problem (Some best.0) budget tree (subst (λ v. IsUncoupled problem (Some v)) (sym own.value_is) (free.at best.1 own.assignment own.feasible)) h.spent

no-ends : (net : Network) (policy : NumberedPolicy) (ends : List Ends) → GuaranteesNothing policy → AreAllEnds net policy ends → ends ≡ []
no-ends net policy [] none all = refl
no-ends net policy (e ∷ ends) none all = absurd (none e.statement all.each.0.guaranteed)

too-few : (n m budget : ℕ) → n ≤ budget + 1 → m ≡ n → budget + 1 < m → ⊥
too-few n m budget few same more = omega (arith, few, same, more)

-- What is known: a text stands for one topology, two checks of one policy have one program, and without guarantees no walks are found.
pub record KnownKinds : Type 0 where
  pub one : (bytes : List ℕ) (net other : Network) → IsTopology bytes net → IsTopology bytes other → net ≡ other
  pub problem : (net : Network) (raw : Policy) (checked other : CheckedPolicy) (ends : List Ends) (objective : Objective) (problem more : Problem) (symbols spelled : List (List Symbol)) →
      HasOnePairs net raw checked ends → WasChecked net raw other → IsLayout net (checked_parts net checked) ends objective problem symbols → IsLayout net (checked_parts net other) ends objective more spelled → problem ≡ more
  pub nothing : (net : Network) (policy : NumberedPolicy) (parts : StatementParts) (objective : Objective) (budget : ℕ) (outcome : WalksFound) → 0 < budget → IsFoundFor net policy parts [] objective budget outcome →
      AreNoWalks net policy objective outcome

module _ (known : KnownKinds) (p t : List ℕ) (net : Network) (checked : CheckedPolicy) (ends : List Ends) (o : Objective) (budget : ℕ) (i : IsInput p t net checked ends) where
  -- what holds of the input holds of what is compiled
  moved : (P : Network → NumberedPolicy → List Ends → Type 0) (other : Network) (c : CheckedPolicy) (es : List Ends) → IsInput p t other c es → P net checked.policy ends → P other c.policy es
  moved P other c es j h = carry known.one p t P net other checked c ends es i j h

  nothing-found : (other : Network) (c : CheckedPolicy) (es : List Ends) (outcome : WalksFound) → IsInput p t other c es → GuaranteesNothing checked.policy → 0 < budget →
      IsFoundFor other c.policy (checked_parts other c) es o budget outcome → AreNoWalks other c.policy o outcome
  nothing-found other c es outcome j none some h =
      let free = moved (λ n q l. GuaranteesNothing q) other c es j none in
      let bare = no-ends other c.policy es free j.rules.pairs.ends_are.are in
      known.nothing other c.policy (checked_parts other c) o budget outcome some (subst (λ l. IsFoundFor other c.policy (checked_parts other c) l o budget outcome) bare h)

  pub kind-nothing : (compiled : Compiled) → GuaranteesNothing checked.policy → 0 < budget → IsCompiledFrom p t o budget compiled → IsLeastResult compiled
  kind-nothing (Least solved) none some c = tt
  kind-nothing (Infeasible asked tree) none some c = nothing-found c.net c.checked c.ends (found.Infeasible tree) c.input none some c.found
  kind-nothing (Budget partial) none some c = nothing-found partial.net c.checked c.ends (found.Budget partial.best partial.bound partial.tree) c.input none some c.found

  pub kind-feasible : (compiled : Compiled) → HasFeasibleWalks net checked.policy ends → IsCompiledFrom p t o budget compiled → ¬ IsInfeasibleResult compiled
  kind-feasible (Least solved) walks c h = h
  kind-feasible (Infeasible asked tree) walks c h = let own = moved HasFeasibleWalks c.net c.checked c.ends c.input walks in c.none own.0 own.1 own.2
  kind-feasible (Budget partial) walks c h = h

  pub kind-infeasible : (compiled : Compiled) → ¬ HasFeasibleWalks net checked.policy ends → IsCompiledFrom p t o budget compiled → ¬ IsLeastResult compiled
  kind-infeasible (Least solved) none c h =
      moved (λ n q l. ¬ HasFeasibleWalks n q l) solved.net c.checked c.ends c.input none (solved.walks, c.least.assignment, c.least.feasible)
  kind-infeasible (Infeasible asked tree) none c h = h
  kind-infeasible (Budget partial) none c h = h

  module _ (problem : Problem) (is : IsProblemFor net checked ends o problem) where
    own-problem : (partial : _) (c : IsPartialFrom p t o budget partial) → problem ≡ c.found.problem
    own-problem partial c = same-problem known.one p t known.problem net partial.net checked c.checked ends c.ends o problem c.found.problem is.0 c.found.symbols i c.input is.1 c.found.layout

    pub kind-enough : (compiled : Compiled) → 2 ^ (variables (program_at problem None) + 1) ≤ budget + 1 → IsCompiledFrom p t o budget compiled → ¬ IsSpentResult compiled
    kind-enough (Least solved) few c h = h
    kind-enough (Infeasible asked tree) few c h = h
    kind-enough (Budget partial) few c h =
        let same = own-problem partial c in
        too-few (2 ^ (variables (program_at problem None) + 1)) (2 ^ (variables (program_at c.found.problem None) + 1)) budget few
        (ap (λ q. 2 ^ (variables (program_at q None) + 1)) (sym same)) c.found.is.spent.small

    pub kind-uncoupled : (compiled : Compiled) → NeverCouples net checked.policy ends o problem → IsCompiledFrom p t o budget compiled → ¬ IsSpentResult compiled
    kind-uncoupled (Least solved) free c h = h
    kind-uncoupled (Infeasible asked tree) free c h = h
    kind-uncoupled (Budget partial) free c h =
        let own = moved (λ n q l. NeverCouples n q l o problem) partial.net c.checked c.ends c.input free in
        never partial.net c.checked.policy (checked_parts partial.net c.checked) c.ends o c.found.problem budget partial.bound partial.tree
        (subst (NeverCouples partial.net c.checked.policy c.ends o) (own-problem partial c) own) partial.best c.found.is
