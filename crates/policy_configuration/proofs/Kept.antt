-- A policy that keeps all rules breaks none.
use Rattle.std.proofs.Common.{◌≡◌, ◌≤◌, ◌+◌, ℕ, List, [], Some, slice_get, refl, sym, ◌∙◌, ap, arith}
use Rattle.merlin_model.specs.declared.policy.Symbol.{Symbol}
use Rattle.merlin_model.specs.Networks.{Network}
use Rattle.path_automaton.specs.declared.exploring.TheConstants.{MAX_STATES}
use Rattle.product_graph.proofs.Lists.{all-get}
use Rattle.policy_expansion.specs.declared.policy.Policy.{Policy as NamedPolicy}
use Rattle.policy_check.specs.declared.fault.CheckFault.{CheckFault}
use Rattle.policy_check.specs.declared.fault.CheckFault.TheVariants.{UnknownName, FunctionUnderNot, TooManyClasses, Overlap, NotTotal, Rate, TooManyStates, OutOfMemory}
use Rattle.policy_check.specs.Rules.{HasFewStates, numbered_paths_of, KeepsAllRules, BreaksRule}
use Rattle.policy_configuration.proofs.Few.{none-some}
use Rattle.policy_configuration.proofs.States.{not-many}

none-first : {X : Type 0} (xs : List X) (x : X) → xs ≡ [] → slice_get xs 0 ≡ Some x → ⊥
none-first xs x none some = none-some (sym (ap (λ l. slice_get l 0) none) ∙ some)

module _ (net : Network) (symbols : List Symbol) (raw : NamedPolicy) (kept : KeepsAllRules net symbols raw) where
  pub unbroken : (fault : CheckFault) → BreaksRule net symbols raw fault → fault ≡ OutOfMemory
  unbroken (UnknownName name) h = absurd (none-first _ _ kept.rated.covering.apart.named h)
  unbroken (FunctionUnderNot name) h = absurd (none-first _ _ kept.rated.covering.apart.named h)
  unbroken (TooManyClasses count) h = let few = kept.rated.covering.apart.preds.few in let many = h.1.0 in absurd (omega (arith, few, many))
  unbroken (Overlap first second packet) h =
      let o = h.2 in
      let shared = o.least.least_packet in
      absurd (kept.rated.covering.apart.preds.apart o.i o.j packet shared.is_packet shared.has)
  unbroken (NotTotal packet) h = absurd (kept.rated.covering.total h.1.no_default packet h.1.least.is_packet h.1.least.has)
  unbroken (Rate fault) h = absurd (none-first _ _ kept.rated.rates h.1)
  unbroken (TooManyStates id count) h =
      let large = h.1.first in
      let few = all-get (HasFewStates symbols) (numbered_paths_of net raw) h.1.place large.path kept.states large.has in
      absurd (over count (not-many symbols large.path count few large.many) large.count_is)
    where
      over : (n : ℕ) → n ≤ MAX_STATES → n ≡ MAX_STATES + 1 → ⊥
      over n le e = omega (arith, le, e)
  unbroken OutOfMemory h = refl
