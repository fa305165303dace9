-- One more flow.
use Rattle.std.proofs.Common.{◌≡◌, ◌<◌, ◌+◌, ℕ, suc, List, [], ◌∷◌, ◌++◌, take, length, get_or, refl, sym, ◌∙◌, ap, subst, arith}
use Rattle.std.proofs.lemmas.List.Sums.{sum_by_push}
use Rattle.merlin_model.specs.declared.policy.Symbol.{Symbol}
use Rattle.merlin_model.specs.declared.policy.Ends.{Ends}
use Rattle.merlin_model.specs.Networks.{Network}
use Rattle.cutoff_program.specs.declared.flow.Flow.{Flow}
use Rattle.product_graph.proofs.Lists.{take-more}
use Rattle.policy_flows.specs.declared.fault.ProgramFault.{ProgramFault}
use Rattle.policy_flows.specs.declared.fault.ProgramFault.TheVariants.{Vertices, Edges, Heavy, OutOfMemory}
use Rattle.policy_flows.specs.declared.layout.FlowList.{FlowList}
use Rattle.policy_flows.specs.declared.limits.TheConstants.{MAX_PRODUCT_VERTICES}
use Rattle.policy_flows.specs.Layouts.{StatementParts, IsFlowBetween, AreFlowsBetween, vertices_of_flows}
use Rattle.policy_flows.specs.Faults.{RefusesStatements}
use Rattle.policy_flows.specs.Adding.{IsAddedFlow, IsPastRoom}

abbrev pub IsFlowFor : Network → StatementParts → Ends → Flow → List Symbol → Type 0
IsFlowFor net parts e flow symbols = IsFlowBetween net (parts.automaton e.statement) (parts.rate e.statement) e.src e.dst flow symbols

pub flows-more : (net : Network) (parts : StatementParts) (ends : List Ends) (flows : List Flow) (symbols : List (List Symbol)) (e : Ends) (flow : Flow) (spelled : List Symbol) → AreFlowsBetween net parts ends flows symbols → IsFlowFor net parts e flow spelled →
    AreFlowsBetween net parts (ends ++ e ∷ []) (flows ++ flow ∷ []) (symbols ++ spelled ∷ [])
flows-more net parts [] [] [] e flow spelled are is = (is, tt)
flows-more net parts (f ∷ ends) (g ∷ flows) (first ∷ symbols) e flow spelled are is = (are.0, flows-more net parts ends flows symbols e flow spelled are.1 is)
flows-more net parts [] [] (first ∷ symbols) e flow spelled are is = absurd are
flows-more net parts [] (g ∷ flows) symbols e flow spelled are is = absurd are
flows-more net parts (f ∷ ends) [] symbols e flow spelled are is = absurd are
flows-more net parts (f ∷ ends) (g ∷ flows) [] e flow spelled are is = absurd are

pub count-flows : (net : Network) (parts : StatementParts) (ends : List Ends) (flows : List Flow) (symbols : List (List Symbol)) → AreFlowsBetween net parts ends flows symbols → length flows ≡ length ends
count-flows net parts [] [] [] are = refl
count-flows net parts (f ∷ ends) (g ∷ flows) (first ∷ symbols) are = ap suc (count-flows net parts ends flows symbols are.1)
count-flows net parts [] [] (first ∷ symbols) are = absurd are
count-flows net parts [] (g ∷ flows) symbols are = absurd are
count-flows net parts (f ∷ ends) [] symbols are = absurd are
count-flows net parts (f ∷ ends) (g ∷ flows) [] are = absurd are

-- the flows of some statements, and how many more vertices there may be
pub record AreSoFar (net : Network) (parts : StatementParts) (ends : List Ends) (room : ℕ) (list : FlowList) : Type 0 where
  pub are : AreFlowsBetween net parts ends list.flows list.symbols
  pub left : room + vertices_of_flows list.flows ≡ MAX_PRODUCT_VERTICES

module _ (net : Network) (parts : StatementParts) (ends : List Ends) (k : ℕ) (d : Ends) (below : k < length ends) (room : ℕ) (old : FlowList) (so : AreSoFar net parts (take k ends) room old) where
  abbrev e : Ends
  e = get_or ends k d

  next : (flow : Flow) (symbols : List Symbol) → IsFlowFor net parts e flow symbols → AreFlowsBetween net parts (take (k + 1) ends) (old.flows ++ flow ∷ []) (old.symbols ++ symbols ∷ [])
  next flow symbols is = subst (λ es. AreFlowsBetween net parts es (old.flows ++ flow ∷ []) (old.symbols ++ symbols ∷ [])) (sym (take-more ends k d below)) (flows-more net parts (take k ends) old.flows old.symbols e flow symbols so.are is)

  pub added : (left : ℕ) (new : FlowList) → IsAddedFlow net (parts.automaton e.statement) (parts.rate e.statement) e room left old new → AreSoFar net parts (take (k + 1) ends) left new
  added left new add = record {
    are = subst (λ fs. AreFlowsBetween net parts (take (k + 1) ends) fs new.symbols) (sym add.flows) (subst (λ ss. AreFlowsBetween net parts (take (k + 1) ends) (old.flows ++ add.flow ∷ []) ss) (sym add.spelled) (next add.flow add.symbols add.is));
    left =
        let total : vertices_of_flows new.flows ≡ vertices_of_flows old.flows + add.flow.vertices = ap vertices_of_flows add.flows ∙ sum_by_push (λ (f : Flow). f.vertices) old.flows add.flow in
        let before = so.left in
        let taken = add.vertices in
        omega (arith, total, before, taken);
  }

  pub beyond : (fault : ProgramFault) → IsPastRoom net (parts.automaton e.statement) (parts.rate e.statement) e room fault → RefusesStatements net parts ends fault
  beyond (Vertices count) past = (
    past.0,
    record {
      count = k + 1;
      flows = old.flows ++ past.1.flow ∷ [];
      symbols = old.symbols ++ past.1.symbols ∷ [];
      are = next past.1.flow past.1.symbols past.1.is;
      many =
          let total : vertices_of_flows (old.flows ++ past.1.flow ∷ []) ≡ vertices_of_flows old.flows + past.1.flow.vertices = sum_by_push (λ (f : Flow). f.vertices) old.flows past.1.flow in
          let before = so.left in
          let more = past.1.many in
          omega (arith, total, before, more);
    },
  )
  beyond (Edges count) past = absurd past
  beyond (Heavy statement link) past = absurd past
  beyond OutOfMemory past = tt
