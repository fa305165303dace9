-- Items that are taken from the end of their reversed list, and the policy that their statements make.
use Rattle.std.proofs.Common.{◌≡◌, ◌++◌, ℕ, List, [], ◌∷◌, reverse, sym, ◌∙◌, ap, subst, append_assoc, append-nil, None, Ok, Err}
use Rattle.std.specs.Prelude.{Option, flat_map}
use Rattle.std.specs.Option.{option_map_or}
use Rattle.std.proofs.lemmas.List.{reverse-append}
use Rattle.std.proofs.lemmas.List.Concat.{flat_map-append}
use Rattle.merlin_model.specs.declared.policy.Term.{Term}
use Rattle.policy_grammar.specs.declared.written.Item.{Item}
use Rattle.policy_grammar.specs.declared.written.Literal.{Literal}
use Rattle.policy_grammar.specs.declared.written.WrittenPolicy.{WrittenPolicy}
use Rattle.policy_expansion.specs.declared.writing.Written.{Written}
use Rattle.policy_expansion.specs.WrittenOut.{without_formula, statements_of, written_out}
use Rattle.policy_expansion.specs.Adding.{Adds}
use Rattle.policy_expansion.specs.Faults.{fault_of}
use Rattle.policy_expansion.specs.Expansion.{terms_of, policy_of, expansion}
use Rattle.policy_expansion.proofs.Numbering.{adds_both}

-- the items before those that are left are written out
pub record Written-out (known : List ℕ → Option (List Literal)) (items left : List Item) (written : Written) : Type 0 where
  pub done : List Item
  pub whole : done ++ reverse left ≡ items
  pub adds : Adds (record { statements = []; terms = [] }) written (flat_map (written_out known) done)

-- the last of those that are left is the next
pub one_more : (known : List ℕ → Option (List Literal)) (items left more : List Item) (item : Item) (a b : Written) → Written-out known items left a → left ≡ more ++ item ∷ [] → Adds a b (written_out known item) → Written-out known items more b
one_more known items left more item a b w e adds = record {
  done = w.done ++ item ∷ [];
  whole = append_assoc w.done (item ∷ []) (reverse more) ∙ (ap (λ (r : List Item). w.done ++ r) (sym (ap reverse e ∙ reverse-append more (item ∷ []))) ∙ w.whole);
  adds = subst (λ xs. Adds (record { statements = []; terms = [] }) b xs)
      (ap (λ xs. flat_map (written_out known) w.done ++ xs) (sym (append-nil (written_out known item))) ∙ sym (flat_map-append (written_out known) w.done (item ∷ [])))
      (adds_both w.adds adds);
}

-- the policy of the statements, where there is no fault
pub expanded : (w : WrittenPolicy) (whole : Written) (terms : List Term) → fault_of (without_formula w.sets w.items w.default_path) ≡ None → Adds (record { statements = []; terms = [] }) whole (statements_of (without_formula w.sets w.items w.default_path))
    → terms ≡ whole.terms ++ w.terms → expansion w ≡ Ok (record { statements = whole.statements; default_path = w.default_path; formula = record { terms = terms } })
expanded w whole terms none adds more =
    let all : terms ≡ flat_map terms_of (statements_of w) ++ w.terms = more ∙ ap (λ ts. ts ++ w.terms) adds.terms in
    ap (λ o. option_map_or Err o (Ok (policy_of w))) none
    ∙ ap Ok (λ k. record { statements = (sym adds.statements) k; default_path = w.default_path; formula = record { terms = (sym all) k } })
