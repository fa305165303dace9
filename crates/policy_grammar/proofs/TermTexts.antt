-- Terms: what is written is read, and what is read is written.
use Rattle.std.proofs.Common.{ℕ, ◌≡◌, ◌≤◌, suc, zero, List, [], ◌∷◌, ◌++◌, map, Result, Ok, length, refl, sym, ap, ◌∙◌, subst, append_assoc, append-nil, length-append, arith}
use Rattle.merlin_model.specs.declared.policy.Bound.{Bound}
use Rattle.merlin_model.specs.declared.policy.Bound.TheVariants.{Max, Min}
use Rattle.merlin_model.specs.declared.policy.Part.{Part}
use Rattle.merlin_model.specs.declared.policy.Part.TheVariants.{Id, Constant}
use Rattle.merlin_model.specs.declared.policy.Term.{Term}
use Rattle.merlin_text.specs.declared.token.Word.TheVariants as words
use Rattle.merlin_text.specs.declared.token.Sign.TheVariants as signs
use Rattle.policy_grammar.specs.declared.written.WrittenPolicy.{WrittenPolicy}
use Rattle.policy_grammar.specs.Lexemes.{Lexeme, name, word, sign, rate, bound_word}
use Rattle.policy_grammar.specs.Grammar.{NamePhrase, spell_name, Summand, id, constant, TermPhrase, spell_leading, spell_summand, spell_added, spell_term, spell_terms, summand_value, term_value}
use Rattle.policy_grammar.specs.Machine.{this_sign, formula, terms_rest, term, leading, sum_rest, term_rate, with_term, run, awaiting}
use Rattle.policy_grammar.proofs.SingleTexts.{ok_inj, took_sign, RateTaken, preceded, separated-preceded}

-- the policy with these terms after its own
abbrev pub with_terms : WrittenPolicy → List Term → WrittenPolicy
with_terms w terms = record { sets = w.sets; items = w.items; default_path = w.default_path; terms = w.terms ++ terms }

with_none : (w : WrittenPolicy) → with_terms w [] ≡ w
with_none w = ap (λ xs. let v : WrittenPolicy = record { sets = w.sets; items = w.items; default_path = w.default_path; terms = xs } in v) (append-nil w.terms)

with_more : (w : WrittenPolicy) (t : Term) (terms : List Term) → with_terms (with_terms w (t ∷ [])) terms ≡ with_terms w (t ∷ terms)
with_more w t terms = ap (λ xs. let v : WrittenPolicy = record { sets = w.sets; items = w.items; default_path = w.default_path; terms = xs } in v) (append_assoc w.terms (t ∷ []) terms)

-- What is written is read.

reads_leading : (rates : List ℕ) (w : WrittenPolicy) (b : Bound) (parts : List Part) (y : List Lexeme) → run (spell_leading rates ++ y) (awaiting (leading w b parts ∷ []) 0) ≡ run y (awaiting (leading w b (parts ++ map Constant rates) ∷ []) 0)
reads_leading [] w b parts y = ap (λ xs. run y (awaiting (leading w b xs ∷ []) 0)) (sym (append-nil parts))
reads_leading (n ∷ rates) w b parts y =
    reads_leading rates w b (parts ++ Constant n ∷ []) y
    ∙ ap (λ xs. run y (awaiting (leading w b xs ∷ []) 0)) (append_assoc parts (Constant n ∷ []) (map Constant rates))

reads_added : (added : List Summand) (w : WrittenPolicy) (b : Bound) (parts : List Part) (y : List Lexeme) → run (spell_added added ++ y) (awaiting (sum_rest w b parts ∷ []) 0) ≡ run y (awaiting (sum_rest w b (parts ++ map summand_value added) ∷ []) 0)
reads_added [] w b parts y = ap (λ xs. run y (awaiting (sum_rest w b xs ∷ []) 0)) (sym (append-nil parts))
reads_added (id n ∷ added) w b parts y =
    reads_added added w b (parts ++ Id n.text ∷ []) y
    ∙ ap (λ xs. run y (awaiting (sum_rest w b xs ∷ []) 0)) (append_assoc parts (Id n.text ∷ []) (map summand_value added))
reads_added (constant n ∷ added) w b parts y =
    reads_added added w b (parts ++ Constant n ∷ []) y
    ∙ ap (λ xs. run y (awaiting (sum_rest w b xs ∷ []) 0)) (append_assoc parts (Constant n ∷ []) (map summand_value added))

-- what stands after the bracket of a term
abbrev in_term : TermPhrase → List Lexeme → List Lexeme
in_term t y = spell_leading t.leading ++ (spell_name t.first ∷ (spell_added t.added ++ (sign signs.Comma ∷ rate t.rate ∷ sign signs.CloseGroup ∷ y)))

term_spelled : (t : TermPhrase) (y : List Lexeme) → spell_term t ++ y ≡ word (bound_word t.bound) ∷ sign signs.OpenGroup ∷ in_term t y
term_spelled t y = simp append_assoc

reads_in_term : (t : TermPhrase) (w : WrittenPolicy) (y : List Lexeme) → run (in_term t y) (awaiting (leading w t.bound [] ∷ []) 0) ≡ run y (awaiting (terms_rest (with_terms w (term_value t ∷ [])) ∷ []) 0)
reads_in_term t w y =
    reads_leading t.leading w t.bound [] (spell_name t.first ∷ (spell_added t.added ++ (sign signs.Comma ∷ rate t.rate ∷ sign signs.CloseGroup ∷ y)))
    ∙ reads_added t.added w t.bound (map Constant t.leading ++ Id t.first.text ∷ []) (sign signs.Comma ∷ rate t.rate ∷ sign signs.CloseGroup ∷ y)
    ∙ ap (λ xs. run y (awaiting (terms_rest (with_term w t.bound xs t.rate) ∷ []) 0)) (append_assoc (map Constant t.leading) (Id t.first.text ∷ []) (map summand_value t.added))

bounded : (b : Bound) (w : WrittenPolicy) (y : List Lexeme) → run (word (bound_word b) ∷ sign signs.OpenGroup ∷ y) (awaiting (term w ∷ []) 0) ≡ run y (awaiting (leading w b [] ∷ []) 0)
bounded Max w y = refl
bounded Min w y = refl

reads_term : (t : TermPhrase) (w : WrittenPolicy) (y : List Lexeme) → run (spell_term t ++ y) (awaiting (term w ∷ []) 0) ≡ run y (awaiting (terms_rest (with_terms w (term_value t ∷ [])) ∷ []) 0)
reads_term t w y = ap (λ ts. run ts (awaiting (term w ∷ []) 0)) (term_spelled t y) ∙ bounded t.bound w (in_term t y) ∙ reads_in_term t w y

reads_rest : (ts : List TermPhrase) (w : WrittenPolicy) → run (preceded (word words.And) spell_term ts) (awaiting (terms_rest w ∷ []) 0) ≡ Ok (with_terms w (map term_value ts))
reads_rest [] w = ap (λ v. let r : Result WrittenPolicy ℕ = Ok v in r) (sym (with_none w))
reads_rest (t ∷ ts) w =
    reads_term t w (preceded (word words.And) spell_term ts)
    ∙ reads_rest ts (with_terms w (term_value t ∷ []))
    ∙ ap (λ v. let r : Result WrittenPolicy ℕ = Ok v in r) (with_more w (term_value t) (map term_value ts))

pub reads_terms : (ts : List TermPhrase) (w : WrittenPolicy) → run (spell_terms ts) (awaiting (formula w ∷ []) 0) ≡ Ok (with_terms w (map term_value ts))
reads_terms [] w = ap (λ v. let r : Result WrittenPolicy ℕ = Ok v in r) (sym (with_none w))
reads_terms (t ∷ ts) w =
    ap (λ xs. run xs (awaiting (term w ∷ []) 0)) (separated-preceded (word words.And) spell_term t ts)
    ∙ reads_term t w (preceded (word words.And) spell_term ts)
    ∙ reads_rest ts (with_terms w (term_value t ∷ []))
    ∙ ap (λ v. let r : Result WrittenPolicy ℕ = Ok v in r) (with_more w (term_value t) (map term_value ts))

-- What is read is written.

record AddedTaken (ts : List Lexeme) (w : WrittenPolicy) (b : Bound) (parts : List Part) (v : WrittenPolicy) : Type 0 where
  added : List Summand
  rest : List Lexeme
  is : ts ≡ spell_added added ++ sign signs.Comma ∷ rest
  goes : run rest (awaiting (term_rate w b (parts ++ map summand_value added) ∷ []) 0) ≡ Ok v

one_added : (s : Summand) (ts : List Lexeme) (w : WrittenPolicy) (b : Bound) (parts : List Part) (v : WrittenPolicy) → AddedTaken ts w b (parts ++ summand_value s ∷ []) v → AddedTaken (sign signs.Plus ∷ spell_summand s ∷ ts) w b parts v
one_added s ts w b parts v m = record {
  added = s ∷ m.added;
  rest = m.rest;
  is = ap (λ xs. sign signs.Plus ∷ spell_summand s ∷ xs) m.is;
  goes = subst (λ xs. run m.rest (awaiting (term_rate w b xs ∷ []) 0) ≡ Ok v) (append_assoc parts (summand_value s ∷ []) (map summand_value m.added)) m.goes;
}

took_added : (ts : List Lexeme) (w : WrittenPolicy) (b : Bound) (parts : List Part) (v : WrittenPolicy) → run ts (awaiting (sum_rest w b parts ∷ []) 0) ≡ Ok v → AddedTaken ts w b parts v
took_added [] w b parts v e = cc
took_added (sign signs.Comma ∷ ts) w b parts v e = record { added = []; rest = ts; is = refl; goes = subst (λ xs. run ts (awaiting (term_rate w b xs ∷ []) 0) ≡ Ok v) (sym (append-nil parts)) e }
took_added (sign signs.Plus ∷ []) w b parts v e = cc
took_added (sign signs.Plus ∷ name a p ∷ ts) w b parts v e = one_added (id (record { text = a; place = p })) ts w b parts v (took_added ts w b (parts ++ Id a ∷ []) v e)
took_added (sign signs.Plus ∷ rate n ∷ ts) w b parts v e = one_added (constant n) ts w b parts v (took_added ts w b (parts ++ Constant n ∷ []) v e)
took_added (sign signs.Plus ∷ _ ∷ ts) w b parts v e = cc
took_added (_ ∷ ts) w b parts v e = cc

record LeadingTaken (ts : List Lexeme) (w : WrittenPolicy) (b : Bound) (parts : List Part) (v : WrittenPolicy) : Type 0 where
  rates : List ℕ
  first : NamePhrase
  rest : List Lexeme
  is : ts ≡ spell_leading rates ++ spell_name first ∷ rest
  goes : run rest (awaiting (sum_rest w b (parts ++ (map Constant rates ++ Id first.text ∷ [])) ∷ []) 0) ≡ Ok v

one_leading : (n : ℕ) (ts : List Lexeme) (w : WrittenPolicy) (b : Bound) (parts : List Part) (v : WrittenPolicy) → LeadingTaken ts w b (parts ++ Constant n ∷ []) v → LeadingTaken (rate n ∷ sign signs.Plus ∷ ts) w b parts v
one_leading n ts w b parts v m = record {
  rates = n ∷ m.rates;
  first = m.first;
  rest = m.rest;
  is = ap (λ xs. rate n ∷ sign signs.Plus ∷ xs) m.is;
  goes = subst (λ xs. run m.rest (awaiting (sum_rest w b xs ∷ []) 0) ≡ Ok v) (append_assoc parts (Constant n ∷ []) (map Constant m.rates ++ Id m.first.text ∷ [])) m.goes;
}

took_leading : (ts : List Lexeme) (w : WrittenPolicy) (b : Bound) (parts : List Part) (v : WrittenPolicy) → run ts (awaiting (leading w b parts ∷ []) 0) ≡ Ok v → LeadingTaken ts w b parts v
took_leading [] w b parts v e = cc
took_leading (name a p ∷ ts) w b parts v e = record { rates = []; first = record { text = a; place = p }; rest = ts; is = refl; goes = e }
took_leading (rate n ∷ []) w b parts v e = cc
took_leading (rate n ∷ sign signs.Plus ∷ ts) w b parts v e = one_leading n ts w b parts v (took_leading ts w b (parts ++ Constant n ∷ []) v e)
took_leading (rate n ∷ _ ∷ ts) w b parts v e = cc
took_leading (_ ∷ ts) w b parts v e = cc

took_rate : (ts : List Lexeme) (w : WrittenPolicy) (b : Bound) (parts : List Part) (v : WrittenPolicy) → run ts (awaiting (term_rate w b parts ∷ []) 0) ≡ Ok v → RateTaken ts (λ n. awaiting (this_sign signs.CloseGroup ∷ terms_rest (with_term w b parts n) ∷ []) 0) v
took_rate [] w b parts v e = cc
took_rate (rate n ∷ ts) w b parts v e = record { value = n; rest = ts; is = refl; goes = e }
took_rate (_ ∷ ts) w b parts v e = cc

record TermTaken (ts : List Lexeme) (w : WrittenPolicy) (v : WrittenPolicy) : Type 0 where
  phrase : TermPhrase
  rest : List Lexeme
  is : ts ≡ spell_term phrase ++ rest
  goes : run rest (awaiting (terms_rest (with_terms w (term_value phrase ∷ [])) ∷ []) 0) ≡ Ok v

joined : (t : TermPhrase) (ts a b c d rest : List Lexeme) → ts ≡ sign signs.OpenGroup ∷ a → a ≡ spell_leading t.leading ++ spell_name t.first ∷ b → b ≡ spell_added t.added ++ sign signs.Comma ∷ c → c ≡ rate t.rate ∷ d → d ≡ sign signs.CloseGroup ∷ rest → word (bound_word t.bound) ∷ ts ≡ spell_term t ++ rest
joined t ts a b c d rest p q r s u =
    ap (λ xs. word (bound_word t.bound) ∷ xs) (p ∙ ap (λ xs. sign signs.OpenGroup ∷ xs)
    (q ∙ ap (λ xs. spell_leading t.leading ++ spell_name t.first ∷ xs)
    (r ∙ ap (λ xs. spell_added t.added ++ sign signs.Comma ∷ xs)
    (s ∙ ap (λ xs. rate t.rate ∷ xs) u))))
    ∙ sym (term_spelled t rest)

took_bounded : (b : Bound) (ts : List Lexeme) (w v : WrittenPolicy) → run ts (awaiting (this_sign signs.OpenGroup ∷ leading w b [] ∷ []) 0) ≡ Ok v → TermTaken (word (bound_word b) ∷ ts) w v
took_bounded b ts w v e =
    let opened = took_sign signs.OpenGroup ts (leading w b [] ∷ []) 0 v e in
    let front = took_leading opened.rest w b [] v opened.goes in
    let parts : List Part = map Constant front.rates ++ Id front.first.text ∷ [] in
    let more = took_added front.rest w b parts v front.goes in
    let last = took_rate more.rest w b (parts ++ map summand_value more.added) v more.goes in
    let close = took_sign signs.CloseGroup last.rest (terms_rest (with_term w b (parts ++ map summand_value more.added) last.value) ∷ []) 0 v last.goes in
    let phrase : TermPhrase = record { bound = b; leading = front.rates; first = front.first; added = more.added; rate = last.value } in
    record {
      phrase = phrase;
      rest = close.rest;
      is = joined phrase ts opened.rest front.rest more.rest last.rest close.rest opened.is front.is more.is last.is close.is;
      goes = subst (λ xs. run close.rest (awaiting (terms_rest (with_term w b xs last.value) ∷ []) 0) ≡ Ok v) (append_assoc (map Constant front.rates) (Id front.first.text ∷ []) (map summand_value more.added)) close.goes;
    }

took_term : (ts : List Lexeme) (w v : WrittenPolicy) → run ts (awaiting (term w ∷ []) 0) ≡ Ok v → TermTaken ts w v
took_term [] w v e = cc
took_term (word words.Max ∷ ts) w v e = took_bounded Max ts w v e
took_term (word words.Min ∷ ts) w v e = took_bounded Min ts w v e
took_term (_ ∷ ts) w v e = cc

record RestTaken (ts : List Lexeme) (w v : WrittenPolicy) : Type 0 where
  phrases : List TermPhrase
  is : ts ≡ preceded (word words.And) spell_term phrases
  value : with_terms w (map term_value phrases) ≡ v

one_more : (ts : List Lexeme) (w v : WrittenPolicy) (one : TermTaken ts w v) → RestTaken one.rest (with_terms w (term_value one.phrase ∷ [])) v → RestTaken (word words.And ∷ ts) w v
one_more ts w v one more = record {
  phrases = one.phrase ∷ more.phrases;
  is = ap (λ xs. word words.And ∷ xs) (one.is ∙ ap (λ xs. spell_term one.phrase ++ xs) more.is);
  value = sym (with_more w (term_value one.phrase) (map term_value more.phrases)) ∙ more.value;
}

shorter : (ts : List Lexeme) (w v : WrittenPolicy) (one : TermTaken ts w v) → length one.rest ≤ length ts
shorter ts w v one = omega (arith, ap length one.is, length-append (spell_term one.phrase) one.rest)

took_rest : (bound : ℕ) (ts : List Lexeme) (w v : WrittenPolicy) → length ts ≤ bound → run ts (awaiting (terms_rest w ∷ []) 0) ≡ Ok v → RestTaken ts w v
took_rest bound [] w v h e = record { phrases = []; is = refl; value = with_none w ∙ ok_inj e }
took_rest zero (t ∷ ts) w v h e = absurd (omega arith)
took_rest (suc bound) (word words.And ∷ ts) w v h e =
    let one = took_term ts w v e in
    one_more ts w v one (took_rest bound one.rest (with_terms w (term_value one.phrase ∷ [])) v (omega (arith, shorter ts w v one)) one.goes)
took_rest (suc bound) (_ ∷ ts) w v h e = cc

pub record TermsTaken (ts : List Lexeme) (w v : WrittenPolicy) : Type 0 where
  pub phrases : List TermPhrase
  pub is : ts ≡ spell_terms phrases
  pub value : with_terms w (map term_value phrases) ≡ v

first_term : (ts : List Lexeme) (w v : WrittenPolicy) (one : TermTaken ts w v) → RestTaken one.rest (with_terms w (term_value one.phrase ∷ [])) v → TermsTaken (sign signs.Comma ∷ ts) w v
first_term ts w v one more = record {
  phrases = one.phrase ∷ more.phrases;
  is = ap (λ xs. sign signs.Comma ∷ xs) (one.is ∙ ap (λ xs. spell_term one.phrase ++ xs) more.is ∙ sym (separated-preceded (word words.And) spell_term one.phrase more.phrases));
  value = sym (with_more w (term_value one.phrase) (map term_value more.phrases)) ∙ more.value;
}

pub took_terms : (ts : List Lexeme) (w v : WrittenPolicy) → run ts (awaiting (formula w ∷ []) 0) ≡ Ok v → TermsTaken ts w v
took_terms [] w v e = record { phrases = []; is = refl; value = with_none w ∙ ok_inj e }
took_terms (sign signs.Comma ∷ ts) w v e =
    let one = took_term ts w v e in
    first_term ts w v one (took_rest (length one.rest) one.rest (with_terms w (term_value one.phrase ∷ [])) v (omega arith) one.goes)
took_terms (_ ∷ ts) w v e = cc
