-- Where the variables of a problem stand.
use Rattle.std.proofs.Common.{◌≡◌, ℕ, zero, suc, ◌+◌, ◌⊎◌, inl, inr, true, false, List, [], ◌∷◌, ◌++◌, map, None, Some, slice_get, refl, sym, ap, subst, arith}
use Rattle.std.specs.List.{AllByRecursion}
use Rattle.merlin_model.specs.declared.network.DirectedLink.{DirectedLink}
use Rattle.cutoff_program.specs.declared.flow.Problem.{Problem}
use Rattle.cutoff_program.specs.declared.flow.Flow.{Flow}
use Rattle.cutoff_program.specs.declared.flow.FlowEdge.{FlowEdge}
use Rattle.cutoff_program.specs.declared.flow.Variable.{Variable}
use Rattle.cutoff_program.specs.Flows.{variables_from, variables_of, variable_of, last_of}
use Rattle.cutoff_program.specs.Limits.{IsEdgeOf, IsFlow, IsProblem}

pub some_some : {X : Type 0} {x y : X} → Some x ≡ Some y → x ≡ y
some_some e = cc

pub none_some : {X : Type 0} {x : X} → None ≡ Some x → ⊥
none_some e = cc

pub false-true : false ≡ true → ⊥
false-true e = cc

-- the flow of a variable
pub record HasFlow (links : List DirectedLink) (n : ℕ) (flows : List Flow) (v : Variable) : Type 0 where
  pub j : ℕ
  pub flow : Flow
  pub is : v.flow ≡ n + j
  pub stands : slice_get flows j ≡ Some flow
  pub edge : IsEdgeOf links (last_of flow) v.edge

in-edges : (links : List DirectedLink) (n : ℕ) (flow : Flow) (edges : List FlowEdge) (rest : List Variable) (k : ℕ) (v : Variable) → AllByRecursion (IsEdgeOf links (last_of flow)) edges →
    slice_get (map (λ edge. variable_of n flow.rate edge) edges ++ rest) k ≡ Some v → ((v.flow ≡ n) × IsEdgeOf links (last_of flow) v.edge) ⊎ ((j : ℕ) × (slice_get rest j ≡ Some v))
in-edges links n flow [] rest k v all e = inr (k, e)
in-edges links n flow (edge ∷ edges) rest zero v all e = inl (ap (λ (w : Variable). w.flow) (sym (some_some e)), subst (λ (w : Variable). IsEdgeOf links (last_of flow) w.edge) (some_some e) all.0)
in-edges links n flow (edge ∷ edges) rest (suc k) v all e = in-edges links n flow edges rest k v all.1 e

has-flow : (links : List DirectedLink) (n : ℕ) (flows : List Flow) (k : ℕ) (v : Variable) → AllByRecursion (IsFlow links) flows → slice_get (variables_from n flows) k ≡ Some v → HasFlow links n flows v
has-flow links n [] k v all e = absurd (none_some e)
has-flow links n (flow ∷ flows) k v all e = by (in-edges links n flow flow.edges (variables_from (n + 1) flows) k v all.0.edges e) (λ j s. has-flow links (n + 1) flows j v all.1 s)
  where
    by : ((v.flow ≡ n) × IsEdgeOf links (last_of flow) v.edge) ⊎ ((j : ℕ) × (slice_get (variables_from (n + 1) flows) j ≡ Some v)) → ((j : ℕ) → slice_get (variables_from (n + 1) flows) j ≡ Some v → HasFlow links (n + 1) flows v) → HasFlow links n (flow ∷ flows) v
    by (inl h) ih = record { j = 0; flow = flow; is = let s = h.0 in omega arith; stands = refl; edge = h.1 }
    by (inr h) ih = let r = ih h.0 h.1 in record { j = suc r.j; flow = r.flow; is = let s = r.is in omega arith; stands = r.stands; edge = r.edge }

pub flow-of : (problem : Problem) (k : ℕ) (v : Variable) → IsProblem problem → slice_get (variables_of problem) k ≡ Some v → HasFlow problem.links 0 problem.flows v
flow-of problem k v is e = has-flow problem.links 0 problem.flows k v is.flows e
