-- The whole text: what stands for a policy is read as that policy, and what is read as a policy stands for it.
use Rattle.std.proofs.Common.{ℕ, ◌≡◌, List, [], ◌∷◌, ◌++◌, map, Result, Ok, length, sym, ap, ◌∙◌, append_assoc, arith}
use Rattle.merlin_text.specs.declared.token.Sign.TheVariants as signs
use Rattle.policy_grammar.specs.declared.written.WrittenPolicy.{WrittenPolicy}
use Rattle.policy_grammar.specs.Lexemes.{Lexeme, sign}
use Rattle.policy_grammar.specs.Grammar.{PolicyPhrase, spell_sets, spell_list, spell_terms, spell_policy, set_value, policy_value, IsListWithin, StandsFor}
use Rattle.policy_grammar.specs.Machine.{Head, run, first_state}
use Rattle.policy_grammar.proofs.SetTexts.{reads_sets, SetsTaken, took_sets}
use Rattle.policy_grammar.proofs.TermTexts.{reads_terms, TermsTaken, took_terms}
use Rattle.policy_grammar.proofs.ItemTexts.{list_value, reads_list, spell_inside, inside, ListTaken, took_list}

reads_policy : (p : PolicyPhrase) → IsListWithin p.list → run (spell_policy p) first_state ≡ Ok (policy_value p)
reads_policy p within =
    ap (λ ts. run ts first_state) (append_assoc (spell_sets p.sets) (spell_list p.list) (spell_terms p.terms))
    ∙ reads_sets p.sets [] (spell_list p.list ++ spell_terms p.terms)
    ∙ reads_list p.list (map set_value p.sets) (spell_terms p.terms) within
    ∙ reads_terms p.terms (list_value (record { sets = map set_value p.sets; items = [] }) p.list)

-- What stands for a policy is read as that policy.
pub complete : (ls : List Lexeme) (w : WrittenPolicy) → StandsFor ls w → run ls first_state ≡ Ok w
complete ls w s =
    ap (λ ts. run ts first_state) (sym s.spelled)
    ∙ reads_policy s.phrase s.within
    ∙ ap (λ v. let r : Result WrittenPolicy ℕ = Ok v in r) s.is

stands : (ls : List Lexeme) (w : WrittenPolicy) (front : SetsTaken ls [] w) (middle : ListTaken front.rest (record { sets = map set_value front.phrases; items = [] }) w) → TermsTaken middle.rest (list_value (record { sets = map set_value front.phrases; items = [] }) middle.phrase) w → StandsFor ls w
stands ls w front middle end = record {
  phrase = record { sets = front.phrases; list = middle.phrase; terms = end.phrases };
  spelled = append_assoc (spell_sets front.phrases) (spell_list middle.phrase) (spell_terms end.phrases)
      ∙ ap (λ ts. spell_sets front.phrases ++ (ts ++ spell_terms end.phrases)) (sym (inside middle.phrase))
      ∙ sym (front.is ∙ ap (λ ts. spell_sets front.phrases ++ (sign signs.OpenList ∷ ts)) (middle.is ∙ ap (λ ts. spell_inside middle.phrase ++ ts) end.is));
  is = end.value;
  within = middle.within;
}

-- What is read as a policy stands for it.
pub sound : (ls : List Lexeme) (w : WrittenPolicy) → run ls first_state ≡ Ok w → StandsFor ls w
sound ls w e =
    let front = took_sets (length ls) ls [] w (omega arith) e in
    let h : Head = record { sets = map set_value front.phrases; items = [] } in
    let middle = took_list (length front.rest) front.rest h w (omega arith) front.goes in
    stands ls w front middle (took_terms middle.rest (list_value h middle.phrase) w middle.goes)
