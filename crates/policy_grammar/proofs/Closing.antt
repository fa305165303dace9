-- Each state that is reached from the start can be brought to an end: with some lexemes after it there is a policy.
use Rattle.std.proofs.Common.{ℕ, ◌≡◌, ◌≤◌, ◌==◌, ◌||◌, ◌⊎◌, inl, inr, ⊎_elim, zero, suc, Bool, true, false, cond, List, [], ◌∷◌, ◌++◌, Option, Some, None, Ok, codes, bytes_eq, T, nat_lt, length, refl, ap, ◌∙◌, arith}
use Rattle.std.proofs.Math.Dec.{eqb_refl}
use Rattle.std.proofs.lemmas.Slice.Eq.{bytes_eq-Decides}
use Rattle.merlin_model.specs.declared.policy.Bound.{Bound}
use Rattle.merlin_model.specs.declared.policy.Bound.TheVariants.{Max}
use Rattle.merlin_model.specs.declared.policy.Field.TheVariants.{EthSrc, EthDst, IpSrc, IpDst, Proto, Sport, Dport}
use Rattle.merlin_model.specs.declared.policy.Part.{Part}
use Rattle.merlin_model.specs.declared.policy.Part.TheVariants.{Id}
use Rattle.merlin_model.specs.declared.policy.Pred.{Pred, Yes, No, Test as Tests, Not}
use Rattle.merlin_model.specs.declared.policy.Test.TheVariants.{Is, Port}
use Rattle.merlin_text.specs.declared.token.Word.{Word}
use Rattle.merlin_text.specs.declared.token.Word.TheVariants as words
use Rattle.merlin_text.specs.declared.token.Sign.{Sign}
use Rattle.merlin_text.specs.declared.token.Sign.TheVariants as signs
use Rattle.policy_grammar.specs.declared.limits.TheConstants.{MAX_NESTING, MAX_PATH_NAMES, MAX_TESTS}
use Rattle.policy_grammar.specs.declared.written.Literal.{Literal}
use Rattle.policy_grammar.specs.declared.written.Literal.TheVariants.{Ip}
use Rattle.policy_grammar.specs.declared.written.RawPath.{RawPath, Dot, Not as NotPath}
use Rattle.policy_grammar.specs.declared.written.Tested.{Tested}
use Rattle.policy_grammar.specs.declared.written.Tested.TheVariants as tested
use Rattle.policy_grammar.specs.declared.written.WrittenSet.{WrittenSet}
use Rattle.policy_grammar.specs.declared.written.WrittenPolicy.{WrittenPolicy}
use Rattle.std.specs.List.{AllByRecursion}
use Rattle.merlin_base.specs.Lexemes.{IsDigit, AreDigits, IsLetter, IsNameByte, IsName, IsDecimal, IsHexDigit, IsHexPair, IsOctet, IsThen, AreJoined}
use Rattle.std.proofs.lemmas.List.Elements.{All-from_recursion}
use Rattle.policy_grammar.specs.Lexemes.{Lexeme, IsSpelled, name, word, sign, number, rate, mac, ip}
use Rattle.policy_grammar.specs.Predicates.{all_of, any_of, test_of}
use Rattle.policy_grammar.specs.PathTexts.{one_or_cat, one_or_alt}
use Rattle.policy_grammar.specs.Machine.{Head, Heading, Opened, Awaited, this_sign, this_word, any_name, literal, negation, lits, conjs, bracket, second, value_of, rep, prim, path_negation, reps, alts, path_bracket, sets, set_start, set_rest, set_more, item, outer_set, inner_set, each_id, statement_pred, statement_path, default_path, limit, limit_rate, limit_rest, formula, terms_rest, term, leading, sum_rest, summand, term_rate, State, on, opens, sign_number, word_number, put, put_path, repeated, is_first, field_at, then_some, begins_rep, closed, with_list, with_set, with_limit, with_term, feed_sign, feed_word, feed_name, feed_literal, feed_lits, feed_conjs, feed_pred, feed_second, feed_value, feed_rep, feed_prim, feed_sequence, feed_alts, feed_path, feed_opened, feed_end, feed_sets, feed_set_start, feed_set_rest, feed_set_more, feed_item, feed_outer, feed_inner, feed_each_id, feed_limit, feed_limit_rate, feed_limit_rest, feed_formula, feed_terms_rest, feed_term, feed_leading, feed_sum_rest, feed_summand, feed_term_rate, feed_all, next_step, run, awaiting, first_state}

-- The states that can stand.

mutual
  -- what may stand below a literal, and below a whole predicate
  pub data TakesLit : List Awaited → Type 0 where
    banged : {k : List Awaited} → TakesLit k → TakesLit (negation ∷ k)
    in_conj : {ls ps : List Pred} {k : List Awaited} → TakesPred k → TakesLit (lits ls ∷ conjs ps ∷ k)

  pub data TakesPred : List Awaited → Type 0 where
    in_bracket : {k : List Awaited} → TakesLit k → TakesPred (bracket ∷ k)
    in_statement : {h : Heading} → TakesPred (statement_pred h ∷ [])

mutual
  -- what may stand below a rep, and below a whole path
  pub data TakesRep : List Awaited → Type 0 where
    path_banged : {k : List Awaited} → TakesRep k → TakesRep (path_negation ∷ k)
    in_seq : {ls ps : List RawPath} {k : List Awaited} → TakesPath k → TakesRep (reps ls ∷ alts ps ∷ k)

  pub data TakesPath : List Awaited → Type 0 where
    in_path_bracket : {k : List Awaited} → TakesRep k → TakesPath (path_bracket ∷ k)
    of_statement : {h : Heading} {p : Pred} → TakesPath (statement_path h p ∷ [])
    of_default : {h : Head} → TakesPath (default_path h ∷ [])

-- what may be awaited, with the tests or names that may still come: a rep needs one
pub data Good : List Awaited → ℕ → Type 0 where
  good_sign : {s : Sign} {k : List Awaited} {n : ℕ} → Good k n → Good (this_sign s ∷ k) n
  good_word : {s : Word} {k : List Awaited} {n : ℕ} → Good k n → Good (this_word s ∷ k) n
  good_name : {k : List Awaited} {n : ℕ} → Good k n → Good (any_name ∷ k) n
  good_literal : {k : List Awaited} {n : ℕ} → TakesLit k → Good (literal ∷ k) n
  good_lits : {ls ps : List Pred} {k : List Awaited} {n : ℕ} → TakesPred k → Good (lits ls ∷ conjs ps ∷ k) n
  good_second : {a : List ℕ} {k : List Awaited} {n : ℕ} → is_first a ≡ true → TakesLit k → Good (second a ∷ k) n
  good_value : {f : Tested} {k : List Awaited} {n : ℕ} → TakesLit k → Good (value_of f ∷ k) n
  good_rep : {k : List Awaited} {n : ℕ} → 1 ≤ n → TakesRep k → Good (rep ∷ k) n
  good_prim : {p : RawPath} {b : Bool} {k : List Awaited} {n : ℕ} → TakesRep k → Good (prim p b ∷ k) n
  good_sets : {ss : List WrittenSet} {n : ℕ} → Good (sets ss ∷ []) n
  good_set_start : {ss : List WrittenSet} {a : List ℕ} {n : ℕ} → Good (set_start ss a ∷ []) n
  good_set_rest : {ss : List WrittenSet} {a : List ℕ} {ls : List Literal} {n : ℕ} → Good (set_rest ss a ls ∷ []) n
  good_set_more : {ss : List WrittenSet} {a : List ℕ} {ls : List Literal} {n : ℕ} → Good (set_more ss a ls ∷ []) n
  good_item : {h : Head} {n : ℕ} → Good (item h ∷ []) n
  good_outer : {h : Head} {n : ℕ} → Good (outer_set h ∷ []) n
  good_inner : {h : Head} {a : List ℕ} {n : ℕ} → Good (inner_set h a ∷ []) n
  good_each_id : {h : Head} {a b : List ℕ} {n : ℕ} → Good (each_id h a b ∷ []) n
  good_limit : {o : Opened} {n : ℕ} → Good (limit o ∷ []) n
  good_limit_rate : {o : Opened} {b : Bound} {n : ℕ} → Good (limit_rate o b ∷ []) n
  good_limit_rest : {o : Opened} {n : ℕ} → Good (limit_rest o ∷ []) n
  good_formula : {w : WrittenPolicy} {n : ℕ} → Good (formula w ∷ []) n
  good_terms_rest : {w : WrittenPolicy} {n : ℕ} → Good (terms_rest w ∷ []) n
  good_term : {w : WrittenPolicy} {n : ℕ} → Good (term w ∷ []) n
  good_leading : {w : WrittenPolicy} {b : Bound} {ps : List Part} {n : ℕ} → Good (leading w b ps ∷ []) n
  good_sum_rest : {w : WrittenPolicy} {b : Bound} {ps : List Part} {n : ℕ} → Good (sum_rest w b ps ∷ []) n
  good_summand : {w : WrittenPolicy} {b : Bound} {ps : List Part} {n : ℕ} → Good (summand w b ps ∷ []) n
  good_term_rate : {w : WrittenPolicy} {b : Bound} {ps : List Part} {n : ℕ} → Good (term_rate w b ps ∷ []) n

pub start_good : Good first_state.awaited first_state.left
start_good = good_sets

-- A lexeme leads from such a state to such a state.

abbrev pub IsKept : Option State → Type 0
IsKept None = Unit {0}
IsKept (Some s) = Good s.awaited s.left

kept_if : (b : Bool) (s : State) → (b ≡ true → Good s.awaited s.left) → IsKept (cond b (Some s) None)
kept_if true s g = g refl
kept_if false s g = tt

kept_cond : (b : Bool) (x y : Option State) → IsKept x → IsKept y → IsKept (cond b x y)
kept_cond true x y g h = g
kept_cond false x y g h = h

kept_some : {A : Type 0} (o : Option A) (f : A → State) → ((x : A) → Good (f x).awaited (f x).left) → IsKept (then_some o (λ x. Some (f x)))
kept_some None f g = tt
kept_some (Some x) f g = g x

kept_sign : (s : Sign) (k : List Awaited) (n : ℕ) (t : Lexeme) → Good k n → IsKept (feed_sign s k n t)
kept_sign s k n (sign t) g = kept_if (sign_number s == sign_number t) (awaiting k n) (λ _. g)
kept_sign s k n _ g = tt

kept_word : (s : Word) (k : List Awaited) (n : ℕ) (t : Lexeme) → Good k n → IsKept (feed_word s k n t)
kept_word s k n (word t) g = kept_if (word_number s == word_number t) (awaiting k n) (λ _. g)
kept_word s k n _ g = tt

kept_name : (k : List Awaited) (n : ℕ) (t : Lexeme) → Good k n → IsKept (feed_name k n t)
kept_name k n (name _ _) g = g
kept_name k n _ g = tt

good_put : (p : Pred) (k : List Awaited) (n : ℕ) → TakesLit k → Good (put p k) n
good_put p _ n (banged {k = k} g) = good_put (Not p) k n g
good_put p _ n (in_conj g) = good_lits g

kept_literal : (k : List Awaited) (n : ℕ) (t : Lexeme) → TakesLit k → IsKept (feed_literal k n t)
kept_literal k n (sign signs.Bang) g = kept_if (nat_lt (opens k) MAX_NESTING) (awaiting (literal ∷ negation ∷ k) n) (λ _. good_literal (banged g))
kept_literal k n (sign signs.OpenGroup) g = kept_if (nat_lt (opens k) MAX_NESTING) (awaiting (literal ∷ lits [] ∷ conjs [] ∷ bracket ∷ k) n) (λ _. good_literal (in_conj (in_bracket g)))
kept_literal k n (word words.True) g = good_put Yes k n g
kept_literal k n (word words.False) g = good_put No k n g
kept_literal k zero (name a _) g = tt
kept_literal k (suc n) (name a _) g = kept_if (is_first a) (awaiting (this_sign signs.Dot ∷ second a ∷ k) n) (λ e. good_sign (good_second e g))
kept_literal k n _ g = tt

kept_second : (a : List ℕ) (k : List Awaited) (n : ℕ) (t : Lexeme) → TakesLit k → IsKept (feed_second a k n t)
kept_second a k n (name b _) g = kept_some (field_at a b) (λ f. awaiting (this_sign signs.Equals ∷ value_of f ∷ k) n) (λ f. good_sign (good_value g))
kept_second a k n _ g = tt

kept_value : (f : Tested) (k : List Awaited) (n : ℕ) (t : Lexeme) → TakesLit k → IsKept (feed_value f k n t)
kept_value f k n t g = kept_some (test_of f t) (λ p. awaiting (put (Tests p) k) n) (λ p. good_put (Tests p) k n g)

kept_pred : (p : Pred) (k : List Awaited) (n : ℕ) (t : Lexeme) → TakesPred k → IsKept (feed_pred p k n t)
kept_pred p _ n (sign signs.CloseGroup) (in_bracket {k = k} g) = good_put p k n g
kept_pred p _ n _ (in_bracket g) = tt
kept_pred p _ n (sign signs.Arrow) in_statement = good_rep (omega arith) (in_seq of_statement)
kept_pred p _ n _ in_statement = tt

kept_conjs : (ps : List Pred) (k : List Awaited) (n : ℕ) (t : Lexeme) → TakesPred k → IsKept (feed_conjs ps k n t)
kept_conjs ps k n (word words.Or) g = good_literal (in_conj g)
kept_conjs ps k n t g = kept_pred (any_of ps) k n t g

kept_lits : (ls ps : List Pred) (k : List Awaited) (n : ℕ) (t : Lexeme) → TakesPred k → IsKept (feed_lits ls (conjs ps ∷ k) n t)
kept_lits ls ps k n (word words.And) g = good_literal (in_conj g)
kept_lits ls ps k n t g = kept_conjs (ps ++ all_of ls ∷ []) k n t g

kept_rep : (k : List Awaited) (n : ℕ) (t : Lexeme) → TakesRep k → IsKept (feed_rep k n t)
kept_rep k zero t g = tt
kept_rep k (suc n) (sign signs.Bang) g = kept_if (nat_lt (opens k) MAX_NESTING) (awaiting (rep ∷ path_negation ∷ k) (suc n)) (λ _. good_rep (omega arith) (path_banged g))
kept_rep k (suc n) (sign signs.OpenGroup) g = kept_if (nat_lt (opens k) MAX_NESTING) (awaiting (rep ∷ reps [] ∷ alts [] ∷ path_bracket ∷ k) (suc n)) (λ _. good_rep (omega arith) (in_seq (in_path_bracket g)))
kept_rep k (suc n) (sign signs.Dot) g = good_prim g
kept_rep k (suc n) (name a p) g = good_prim g
kept_rep k (suc n) _ g = tt

kept_end : (o : Opened) (t : Lexeme) → IsKept (feed_end o [] t)
kept_end o (sign signs.Semicolon) = good_item
kept_end o (sign signs.CloseList) = good_formula
kept_end o _ = tt

kept_opened : (o : Opened) (t : Lexeme) → IsKept (feed_opened o [] t)
kept_opened o (word words.At) = good_limit
kept_opened o t = kept_end o t

kept_path : (p : RawPath) (k : List Awaited) (n : ℕ) (t : Lexeme) → TakesPath k → IsKept (feed_path p k n t)
kept_path p _ n (sign signs.CloseGroup) (in_path_bracket g) = good_prim g
kept_path p _ n _ (in_path_bracket g) = tt
kept_path p _ n t (of_statement {h = h} {p = pred}) = kept_opened (record { heading = h; pred = pred; path = p; limits = [] }) t
kept_path p _ n (sign signs.Semicolon) of_default = good_sign good_formula
kept_path p _ n (sign signs.CloseList) of_default = good_formula
kept_path p _ n _ of_default = tt

kept_alts : (ps : List RawPath) (k : List Awaited) (n : ℕ) (t : Lexeme) → TakesPath k → IsKept (feed_alts ps k n t)
kept_alts ps k zero t g = kept_path (one_or_alt ps) k zero t g
kept_alts ps k (suc n) (sign signs.Bar) g = good_rep (omega arith) (in_seq g)
kept_alts ps k (suc n) t g = kept_path (one_or_alt ps) k (suc n) t g

kept_sequence : (q : RawPath) (k : List Awaited) (n : ℕ) (t : Lexeme) → TakesRep k → IsKept (feed_sequence (put_path q k) n t)
kept_sequence q _ n t (path_banged {k = k} g) = kept_sequence (NotPath q) k n t g
kept_sequence q _ n t (in_seq {ls = ls} {ps = ps} {k = k} g) =
    kept_cond (begins_rep t) (feed_rep (reps (ls ++ q ∷ []) ∷ alts ps ∷ k) n t) (feed_alts (ps ++ one_or_cat (ls ++ q ∷ []) ∷ []) k n t)
    (kept_rep (reps (ls ++ q ∷ []) ∷ alts ps ∷ k) n t (in_seq g))
    (kept_alts (ps ++ one_or_cat (ls ++ q ∷ []) ∷ []) k n t g)

kept_prim : (p : RawPath) (b : Bool) (k : List Awaited) (n : ℕ) (t : Lexeme) → TakesRep k → IsKept (feed_prim p b k n t)
kept_prim p b k n (sign signs.Star) g = good_prim g
kept_prim p b k n t g = kept_sequence (repeated b p) k n t g

kept_sets : (ss : List WrittenSet) (t : Lexeme) → IsKept (feed_sets ss [] t)
kept_sets ss (name a _) = good_sign (good_sign good_set_start)
kept_sets ss (sign signs.OpenList) = good_item
kept_sets ss _ = tt

kept_set_more : (ss : List WrittenSet) (a : List ℕ) (ls : List Literal) (t : Lexeme) → IsKept (feed_set_more ss a ls [] t)
kept_set_more ss a ls (mac n) = good_set_rest
kept_set_more ss a ls (ip n) = good_set_rest
kept_set_more ss a ls _ = tt

kept_set_start : (ss : List WrittenSet) (a : List ℕ) (t : Lexeme) → IsKept (feed_set_start ss a [] t)
kept_set_start ss a (sign signs.CloseSet) = good_sets
kept_set_start ss a t = kept_set_more ss a [] t

kept_set_rest : (ss : List WrittenSet) (a : List ℕ) (ls : List Literal) (t : Lexeme) → IsKept (feed_set_rest ss a ls [] t)
kept_set_rest ss a ls (sign signs.Comma) = good_set_more
kept_set_rest ss a ls (sign signs.CloseSet) = good_sets
kept_set_rest ss a ls _ = tt

good_statement : {h : Heading} {n : ℕ} → Good (this_sign signs.Colon ∷ literal ∷ lits [] ∷ conjs [] ∷ statement_pred h ∷ []) n
good_statement = good_sign (good_literal (in_conj in_statement))

kept_item : (h : Head) (t : Lexeme) → IsKept (feed_item h [] t)
kept_item h (name id _) = good_statement
kept_item h (word words.Foreach) = good_sign (good_name (good_sign (good_name (good_sign (good_word (good_word (good_sign good_outer)))))))
kept_item h (word words.Default) = good_sign (good_rep (omega arith) (in_seq of_default))
kept_item h (sign signs.CloseList) = good_formula
kept_item h _ = tt

kept_outer : (h : Head) (t : Lexeme) → IsKept (feed_outer h [] t)
kept_outer h (name a _) = good_sign good_inner
kept_outer h _ = tt

kept_inner : (h : Head) (a : List ℕ) (t : Lexeme) → IsKept (feed_inner h a [] t)
kept_inner h a (name b _) = good_sign (good_sign good_each_id)
kept_inner h a _ = tt

kept_each_id : (h : Head) (a b : List ℕ) (t : Lexeme) → IsKept (feed_each_id h a b [] t)
kept_each_id h a b (name id _) = good_statement
kept_each_id h a b _ = tt

kept_limit : (o : Opened) (t : Lexeme) → IsKept (feed_limit o [] t)
kept_limit o (word words.Max) = good_sign good_limit_rate
kept_limit o (word words.Min) = good_sign good_limit_rate
kept_limit o _ = tt

kept_limit_rate : (o : Opened) (b : Bound) (t : Lexeme) → IsKept (feed_limit_rate o b [] t)
kept_limit_rate o b (rate n) = good_sign good_limit_rest
kept_limit_rate o b _ = tt

kept_limit_rest : (o : Opened) (t : Lexeme) → IsKept (feed_limit_rest o [] t)
kept_limit_rest o (word words.And) = good_limit
kept_limit_rest o t = kept_end o t

kept_formula : (w : WrittenPolicy) (t : Lexeme) → IsKept (feed_formula w [] t)
kept_formula w (sign signs.Comma) = good_term
kept_formula w _ = tt

kept_terms_rest : (w : WrittenPolicy) (t : Lexeme) → IsKept (feed_terms_rest w [] t)
kept_terms_rest w (word words.And) = good_term
kept_terms_rest w _ = tt

kept_term : (w : WrittenPolicy) (t : Lexeme) → IsKept (feed_term w [] t)
kept_term w (word words.Max) = good_sign good_leading
kept_term w (word words.Min) = good_sign good_leading
kept_term w _ = tt

kept_leading : (w : WrittenPolicy) (b : Bound) (ps : List Part) (t : Lexeme) → IsKept (feed_leading w b ps [] t)
kept_leading w b ps (rate n) = good_sign good_leading
kept_leading w b ps (name a _) = good_sum_rest
kept_leading w b ps _ = tt

kept_sum_rest : (w : WrittenPolicy) (b : Bound) (ps : List Part) (t : Lexeme) → IsKept (feed_sum_rest w b ps [] t)
kept_sum_rest w b ps (sign signs.Plus) = good_summand
kept_sum_rest w b ps (sign signs.Comma) = good_term_rate
kept_sum_rest w b ps _ = tt

kept_summand : (w : WrittenPolicy) (b : Bound) (ps : List Part) (t : Lexeme) → IsKept (feed_summand w b ps [] t)
kept_summand w b ps (rate n) = good_sum_rest
kept_summand w b ps (name a _) = good_sum_rest
kept_summand w b ps _ = tt

kept_term_rate : (w : WrittenPolicy) (b : Bound) (ps : List Part) (t : Lexeme) → IsKept (feed_term_rate w b ps [] t)
kept_term_rate w b ps (rate n) = good_sign good_terms_rest
kept_term_rate w b ps _ = tt

pub kept : (k : List Awaited) (n : ℕ) (t : Lexeme) → Good k n → IsKept (feed_all k n t)
kept _ _ t (good_sign {s = s} {k = k} {n = n} g) = kept_sign s k n t g
kept _ _ t (good_word {s = s} {k = k} {n = n} g) = kept_word s k n t g
kept _ _ t (good_name {k = k} {n = n} g) = kept_name k n t g
kept _ _ t (good_literal {k = k} {n = n} g) = kept_literal k n t g
kept _ _ t (good_lits {ls = ls} {ps = ps} {k = k} {n = n} g) = kept_lits ls ps k n t g
kept _ _ t (good_second {a = a} {k = k} {n = n} e g) = kept_second a k n t g
kept _ _ t (good_value {f = f} {k = k} {n = n} g) = kept_value f k n t g
kept _ _ t (good_rep {k = k} {n = n} e g) = kept_rep k n t g
kept _ _ t (good_prim {p = p} {b = b} {k = k} {n = n} g) = kept_prim p b k n t g
kept _ _ t (good_sets {ss = ss}) = kept_sets ss t
kept _ _ t (good_set_start {ss = ss} {a = a}) = kept_set_start ss a t
kept _ _ t (good_set_rest {ss = ss} {a = a} {ls = ls}) = kept_set_rest ss a ls t
kept _ _ t (good_set_more {ss = ss} {a = a} {ls = ls}) = kept_set_more ss a ls t
kept _ _ t (good_item {h = h}) = kept_item h t
kept _ _ t (good_outer {h = h}) = kept_outer h t
kept _ _ t (good_inner {h = h} {a = a}) = kept_inner h a t
kept _ _ t (good_each_id {h = h} {a = a} {b = b}) = kept_each_id h a b t
kept _ _ t (good_limit {o = o}) = kept_limit o t
kept _ _ t (good_limit_rate {o = o} {b = b}) = kept_limit_rate o b t
kept _ _ t (good_limit_rest {o = o}) = kept_limit_rest o t
kept _ _ t (good_formula {w = w}) = kept_formula w t
kept _ _ t (good_terms_rest {w = w}) = kept_terms_rest w t
kept _ _ t (good_term {w = w}) = kept_term w t
kept _ _ t (good_leading {w = w} {b = b} {ps = ps}) = kept_leading w b ps t
kept _ _ t (good_sum_rest {w = w} {b = b} {ps = ps}) = kept_sum_rest w b ps t
kept _ _ t (good_summand {w = w} {b = b} {ps = ps}) = kept_summand w b ps t
kept _ _ t (good_term_rate {w = w} {b = b} {ps = ps}) = kept_term_rate w b ps t

-- The lexemes by which a state is brought to an end, as texts spell them.

digits : (cs : List ℕ) → AllByRecursion IsDigit cs → AreDigits cs
digits cs p = All-from_recursion IsDigit cs p

decimal_0 : IsDecimal (codes "0") 0
decimal_0 = record { digits = digits (codes "0") ((omega arith, omega arith), tt); some = omega arith; short = omega arith; plain = λ _. refl; value = refl }

number_0 : IsSpelled (number 0)
number_0 = (codes "0", decimal_0, omega arith)

number_1 : IsSpelled (number 1)
number_1 = (codes "1", record { digits = digits (codes "1") ((omega arith, omega arith), tt); some = omega arith; short = omega arith; plain = λ _. refl; value = refl }, omega arith)

rate_0 : IsSpelled (rate 0)
rate_0 = (codes "0kbps", record { number = codes "0"; unit = codes "kbps"; n = 0; factor = 1; whole = refl; decimal = decimal_0; known = refl; value = refl; few = omega arith })

octet_0 : IsOctet (codes "0") 0
octet_0 = (decimal_0, omega arith)

ip_0 : IsSpelled (ip 0)
ip_0 =
    let then : (rest : List ℕ) → IsThen IsOctet 46 (codes "0." ++ rest) 0 rest = λ rest. (codes "0", octet_0, refl) in
    let joined : AreJoined IsOctet 46 (codes "0.0.0.0") (0 ∷ 0 ∷ 0 ∷ 0 ∷ []) =
    (codes "0.0.0", then (codes "0.0.0"), (codes "0.0", then (codes "0.0"), (codes "0", then (codes "0"), octet_0))) in
    (codes "0.0.0.0", (0 ∷ 0 ∷ 0 ∷ 0 ∷ [], refl, joined, refl))

digit_0 : IsHexDigit 48 0
digit_0 = inl (refl, omega arith)

pair_0 : IsHexPair (codes "00") 0
pair_0 = (0, 0, digit_0, digit_0, refl)

mac_0 : IsSpelled (mac 0)
mac_0 =
    let then : (rest : List ℕ) → IsThen IsHexPair 58 (codes "00:" ++ rest) 0 rest = λ rest. (codes "00", pair_0, refl) in
    let three : AreJoined IsHexPair 58 (codes "00:00:00") (0 ∷ 0 ∷ 0 ∷ []) = (codes "00:00", then (codes "00:00"), (codes "00", then (codes "00"), pair_0)) in
    let six : AreJoined IsHexPair 58 (codes "00:00:00:00:00:00") (0 ∷ 0 ∷ 0 ∷ 0 ∷ 0 ∷ 0 ∷ []) =
    (codes "00:00:00:00:00", then (codes "00:00:00:00:00"), (codes "00:00:00:00", then (codes "00:00:00:00"), (codes "00:00:00", then (codes "00:00:00"), three))) in
    (codes "00:00:00:00:00:00", (0 ∷ 0 ∷ 0 ∷ 0 ∷ 0 ∷ 0 ∷ [], refl, six, refl))

letter : (c : ℕ) → 97 ≤ c → c ≤ 122 → IsLetter c
letter c low high = inr (inl (low, high))

name_a : IsName (codes "a")
name_a = record { identifier = (letter 97 (omega arith) (omega arith), All-from_recursion IsNameByte [] tt); short = omega arith; no_word = λ w. cc }

name_src : IsName (codes "src")
name_src = record {
  identifier = (letter 115 (omega arith) (omega arith), All-from_recursion IsNameByte (codes "rc") (inl (letter 114 (omega arith) (omega arith)), (inl (letter 99 (omega arith) (omega arith)), tt)));
  short = omega arith;
  no_word = λ w. cc;
}

-- Each such state can be brought to an end, by the shortest lexemes.

pub record IsClosable (k : List Awaited) (n : ℕ) : Type 0 where
  pub more : List Lexeme
  pub spelled : AllByRecursion IsSpelled more
  pub policy : WrittenPolicy
  pub goes : run more (awaiting k n) ≡ Ok policy

by_lexeme : {k l : List Awaited} {n m : ℕ} (t : Lexeme) → IsSpelled t → feed_all k n t ≡ on l m → IsClosable l m → IsClosable k n
by_lexeme t h e c = record { more = t ∷ c.more; spelled = (h, c.spelled); policy = c.policy; goes = ap (λ o. next_step o (suc (length c.more)) (λ u. run c.more u)) e ∙ c.goes }

true_of : (b : Bool) → T b → b ≡ true
true_of true h = refl
true_of false h = absurd h

closes_sign : (s : Sign) {k : List Awaited} {n : ℕ} → IsClosable k n → IsClosable (this_sign s ∷ k) n
closes_sign s {k = k} {n = n} c = by_lexeme (sign s) tt (ap (λ b. cond b (on k n) None) (true_of (sign_number s == sign_number s) (eqb_refl (sign_number s)))) c

closes_word : (s : Word) {k : List Awaited} {n : ℕ} → IsClosable k n → IsClosable (this_word s ∷ k) n
closes_word s {k = k} {n = n} c = by_lexeme (word s) tt (ap (λ b. cond b (on k n) None) (true_of (word_number s == word_number s) (eqb_refl (word_number s)))) c

closes_formula : (w : WrittenPolicy) (n : ℕ) → IsClosable (formula w ∷ []) n
closes_formula w n = record { more = []; spelled = tt; policy = w; goes = refl }

closes_item : (h : Head) (n : ℕ) → IsClosable (item h ∷ []) n
closes_item h n = by_lexeme (sign signs.CloseList) tt refl (closes_formula (with_list h None) 0)

closes_sets : (ss : List WrittenSet) (n : ℕ) → IsClosable (sets ss ∷ []) n
closes_sets ss n = by_lexeme (sign signs.OpenList) tt refl (closes_item (record { sets = ss; items = [] }) 0)

closes_set_rest : (ss : List WrittenSet) (a : List ℕ) (ls : List Literal) (n : ℕ) → IsClosable (set_rest ss a ls ∷ []) n
closes_set_rest ss a ls n = by_lexeme (sign signs.CloseSet) tt refl (closes_sets (with_set ss a ls) 0)

-- A path is ended by a bracket or by the end of the list.

record IsPathClosable (k : List Awaited) (n : ℕ) : Type 0 where
  first : Lexeme
  spelled : IsSpelled first
  no_star : (p : RawPath) (b : Bool) (l : List Awaited) → feed_prim p b l n first ≡ feed_sequence (put_path (repeated b p) l) n first
  below : List Awaited
  left : ℕ
  goes : feed_sequence k n first ≡ on below left
  closes : IsClosable below left

closes_prim : (p : RawPath) (b : Bool) (k : List Awaited) (n : ℕ) → IsPathClosable (put_path (repeated b p) k) n → IsClosable (prim p b ∷ k) n
closes_prim p b k n c = by_lexeme c.first c.spelled (c.no_star p b k ∙ c.goes) c.closes

at_bracket : (ps : List RawPath) (k : List Awaited) (n : ℕ) → feed_alts ps (path_bracket ∷ k) n (sign signs.CloseGroup) ≡ on (prim (one_or_alt ps) false ∷ k) n
at_bracket ps k zero = refl
at_bracket ps k (suc n) = refl

at_end : (ps : List RawPath) (k : List Awaited) (n : ℕ) → feed_alts ps k n (sign signs.CloseList) ≡ feed_path (one_or_alt ps) k n (sign signs.CloseList)
at_end ps k zero = refl
at_end ps k (suc n) = refl

closes_rep : (q : RawPath) (k : List Awaited) (n : ℕ) → TakesRep k → IsPathClosable (put_path q k) n
closes_rep q _ n (path_banged {k = k} g) = closes_rep (NotPath q) k n g
closes_rep q _ n (in_seq {ls = ls} {ps = ps} (in_path_bracket {k = k} g)) =
    let p = one_or_alt (ps ++ one_or_cat (ls ++ q ∷ []) ∷ []) in
    record {
      first = sign signs.CloseGroup;
      spelled = tt;
      no_star = λ p b l. refl;
      below = prim p false ∷ k;
      left = n;
      goes = at_bracket (ps ++ one_or_cat (ls ++ q ∷ []) ∷ []) k n;
      closes = closes_prim p false k n (closes_rep p k n g);
    }
closes_rep q _ n (in_seq {ls = ls} {ps = ps} (of_statement {h = h} {p = pred})) =
    let p = one_or_alt (ps ++ one_or_cat (ls ++ q ∷ []) ∷ []) in
    let o : Opened = record { heading = h; pred = pred; path = p; limits = [] } in
    record {
      first = sign signs.CloseList;
      spelled = tt;
      no_star = λ p b l. refl;
      below = formula (with_list (closed o) None) ∷ [];
      left = 0;
      goes = at_end (ps ++ one_or_cat (ls ++ q ∷ []) ∷ []) (statement_path h pred ∷ []) n;
      closes = closes_formula (with_list (closed o) None) 0;
    }
closes_rep q _ n (in_seq {ls = ls} {ps = ps} (of_default {h = h})) =
    let p = one_or_alt (ps ++ one_or_cat (ls ++ q ∷ []) ∷ []) in
    record {
      first = sign signs.CloseList;
      spelled = tt;
      no_star = λ p b l. refl;
      below = formula (with_list h (Some p)) ∷ [];
      left = 0;
      goes = at_end (ps ++ one_or_cat (ls ++ q ∷ []) ∷ []) (default_path h ∷ []) n;
      closes = closes_formula (with_list h (Some p)) 0;
    }

closes_path : (k : List Awaited) (n : ℕ) → 1 ≤ n → TakesRep k → IsClosable (rep ∷ k) n
closes_path k zero h g = absurd (omega arith)
closes_path k (suc n) h g = by_lexeme (sign signs.Dot) tt refl (closes_prim Dot false k n (closes_rep Dot k n g))

-- A predicate is ended by its brackets and a path.

closes_lit : (p : Pred) (k : List Awaited) (n : ℕ) → TakesLit k → IsClosable (put p k) n
closes_lit p _ n (banged {k = k} g) = closes_lit (Not p) k n g
closes_lit p _ n (in_conj {ls = ls} {ps = ps} (in_bracket {k = k} g)) =
    by_lexeme (sign signs.CloseGroup) tt refl (closes_lit (any_of (ps ++ all_of (ls ++ p ∷ []) ∷ [])) k n g)
closes_lit p _ n (in_conj {ls = ls} {ps = ps} (in_statement {h = h})) =
    by_lexeme (sign signs.Arrow) tt refl (closes_path (reps [] ∷ alts [] ∷ statement_path h (any_of (ps ++ all_of (ls ++ p ∷ []) ∷ [])) ∷ []) MAX_PATH_NAMES (omega arith) (in_seq of_statement))

closes_literal : (k : List Awaited) (n : ℕ) → TakesLit k → IsClosable (literal ∷ k) n
closes_literal k n g = by_lexeme (word words.True) tt refl (closes_lit Yes k n g)

closes_value : (f : Tested) (k : List Awaited) (n : ℕ) → TakesLit k → IsClosable (value_of f ∷ k) n
closes_value tested.EthSrc k n g = by_lexeme (mac 0) mac_0 refl (closes_lit (Tests (Is EthSrc 0)) k n g)
closes_value tested.EthDst k n g = by_lexeme (mac 0) mac_0 refl (closes_lit (Tests (Is EthDst 0)) k n g)
closes_value tested.IpSrc k n g = by_lexeme (ip 0) ip_0 refl (closes_lit (Tests (Is IpSrc 0)) k n g)
closes_value tested.IpDst k n g = by_lexeme (ip 0) ip_0 refl (closes_lit (Tests (Is IpDst 0)) k n g)
closes_value tested.IpProto k n g = by_lexeme (number 1) number_1 refl (closes_lit (Tests (Is Proto 1)) k n g)
closes_value tested.TcpSrc k n g = by_lexeme (number 0) number_0 refl (closes_lit (Tests (Port 6 Sport 0)) k n g)
closes_value tested.TcpDst k n g = by_lexeme (number 0) number_0 refl (closes_lit (Tests (Port 6 Dport 0)) k n g)
closes_value tested.UdpSrc k n g = by_lexeme (number 0) number_0 refl (closes_lit (Tests (Port 17 Sport 0)) k n g)
closes_value tested.UdpDst k n g = by_lexeme (number 0) number_0 refl (closes_lit (Tests (Port 17 Dport 0)) k n g)

-- the four first names, each of which has a field `src`
closes_field : (a : List ℕ) (f : Tested) (k : List Awaited) (n : ℕ) → field_at a (codes "src") ≡ Some f → TakesLit k → IsClosable (second a ∷ k) n
closes_field a f k n e g =
    by_lexeme (name (codes "src") 0) name_src (ap (λ o. then_some o (λ f. on (this_sign signs.Equals ∷ value_of f ∷ k) n)) e) (closes_sign signs.Equals (closes_value f k n g))

either : (x y : Bool) → (x || y) ≡ true → (x ≡ true) ⊎ (y ≡ true)
either true y e = inl refl
either false y e = inr e

closes_second : (a : List ℕ) (k : List Awaited) (n : ℕ) → is_first a ≡ true → TakesLit k → IsClosable (second a ∷ k) n
closes_second a k n e g = ⊎_elim
    (λ e. ⊎_elim
    (λ e. ⊎_elim (λ h. this (codes "eth") tested.EthSrc refl h) (λ h. this (codes "ip") tested.IpSrc refl h) (either _ _ e))
    (λ h. this (codes "tcp") tested.TcpSrc refl h)
    (either _ _ e))
    (λ h. this (codes "udp") tested.UdpSrc refl h)
    (either _ _ e)
  where
    this : (b : List ℕ) (f : Tested) → field_at b (codes "src") ≡ Some f → bytes_eq a b ≡ true → IsClosable (second a ∷ k) n
    this b f q h = closes_field a f k n (ap (λ x. field_at x (codes "src")) ((bytes_eq-Decides a b).0 h) ∙ q) g

closes_statement : (h : Heading) (n : ℕ) → IsClosable (this_sign signs.Colon ∷ literal ∷ lits [] ∷ conjs [] ∷ statement_pred h ∷ []) n
closes_statement h n = closes_sign signs.Colon (closes_literal (lits [] ∷ conjs [] ∷ statement_pred h ∷ []) n (in_conj in_statement))

abbrev some_name : Lexeme
some_name = name (codes "a") 0

closes_each_id : (h : Head) (a b : List ℕ) (n : ℕ) → IsClosable (each_id h a b ∷ []) n
closes_each_id h a b n = by_lexeme some_name name_a refl (closes_statement (record { head = h; pair = Some (a, b); id = codes "a" }) MAX_TESTS)

closes_inner : (h : Head) (a : List ℕ) (n : ℕ) → IsClosable (inner_set h a ∷ []) n
closes_inner h a n = by_lexeme some_name name_a refl (closes_sign signs.CloseGroup (closes_sign signs.Colon (closes_each_id h a (codes "a") 0)))

closes_outer : (h : Head) (n : ℕ) → IsClosable (outer_set h ∷ []) n
closes_outer h n = by_lexeme some_name name_a refl (closes_sign signs.Comma (closes_inner h (codes "a") 0))

closes_limit_rest : (o : Opened) (n : ℕ) → IsClosable (limit_rest o ∷ []) n
closes_limit_rest o n = by_lexeme (sign signs.CloseList) tt refl (closes_formula (with_list (closed o) None) 0)

closes_limit_rate : (o : Opened) (b : Bound) (n : ℕ) → IsClosable (limit_rate o b ∷ []) n
closes_limit_rate o b n = by_lexeme (rate 0) rate_0 refl (closes_sign signs.CloseGroup (closes_limit_rest (with_limit o b 0) 0))

closes_terms_rest : (w : WrittenPolicy) (n : ℕ) → IsClosable (terms_rest w ∷ []) n
closes_terms_rest w n = record { more = []; spelled = tt; policy = w; goes = refl }

closes_term_rate : (w : WrittenPolicy) (b : Bound) (ps : List Part) (n : ℕ) → IsClosable (term_rate w b ps ∷ []) n
closes_term_rate w b ps n = by_lexeme (rate 0) rate_0 refl (closes_sign signs.CloseGroup (closes_terms_rest (with_term w b ps 0) 0))

closes_sum_rest : (w : WrittenPolicy) (b : Bound) (ps : List Part) (n : ℕ) → IsClosable (sum_rest w b ps ∷ []) n
closes_sum_rest w b ps n = by_lexeme (sign signs.Comma) tt refl (closes_term_rate w b ps 0)

closes_leading : (w : WrittenPolicy) (b : Bound) (ps : List Part) (n : ℕ) → IsClosable (leading w b ps ∷ []) n
closes_leading w b ps n = by_lexeme some_name name_a refl (closes_sum_rest w b (ps ++ Id (codes "a") ∷ []) 0)

pub closes : (k : List Awaited) (n : ℕ) → Good k n → IsClosable k n
closes _ _ (good_sign {s = s} {k = k} {n = n} g) = closes_sign s (closes k n g)
closes _ _ (good_word {s = s} {k = k} {n = n} g) = closes_word s (closes k n g)
closes _ _ (good_name {k = k} {n = n} g) = by_lexeme some_name name_a refl (closes k n g)
closes _ _ (good_literal {k = k} {n = n} g) = closes_literal k n g
closes _ _ (good_lits {ls = ls} {ps = ps} {n = n} (in_bracket {k = k} g)) = by_lexeme (sign signs.CloseGroup) tt refl (closes_lit (any_of (ps ++ all_of ls ∷ [])) k n g)
closes _ _ (good_lits {ls = ls} {ps = ps} (in_statement {h = h})) = by_lexeme (sign signs.Arrow) tt refl (closes_path (reps [] ∷ alts [] ∷ statement_path h (any_of (ps ++ all_of ls ∷ [])) ∷ []) MAX_PATH_NAMES (omega arith) (in_seq of_statement))
closes _ _ (good_second {a = a} {k = k} {n = n} e g) = closes_second a k n e g
closes _ _ (good_value {f = f} {k = k} {n = n} g) = closes_value f k n g
closes _ _ (good_rep {k = k} {n = n} h g) = closes_path k n h g
closes _ _ (good_prim {p = p} {b = b} {k = k} {n = n} g) = closes_prim p b k n (closes_rep (repeated b p) k n g)
closes _ _ (good_sets {ss = ss} {n = n}) = closes_sets ss n
closes _ _ (good_set_start {ss = ss} {a = a}) = by_lexeme (sign signs.CloseSet) tt refl (closes_sets (with_set ss a []) 0)
closes _ _ (good_set_rest {ss = ss} {a = a} {ls = ls} {n = n}) = closes_set_rest ss a ls n
closes _ _ (good_set_more {ss = ss} {a = a} {ls = ls}) = by_lexeme (ip 0) ip_0 refl (closes_set_rest ss a (ls ++ Ip 0 ∷ []) 0)
closes _ _ (good_item {h = h} {n = n}) = closes_item h n
closes _ _ (good_outer {h = h} {n = n}) = closes_outer h n
closes _ _ (good_inner {h = h} {a = a} {n = n}) = closes_inner h a n
closes _ _ (good_each_id {h = h} {a = a} {b = b} {n = n}) = closes_each_id h a b n
closes _ _ (good_limit {o = o}) = by_lexeme (word words.Max) tt refl (closes_sign signs.OpenGroup (closes_limit_rate o Max 0))
closes _ _ (good_limit_rate {o = o} {b = b} {n = n}) = closes_limit_rate o b n
closes _ _ (good_limit_rest {o = o} {n = n}) = closes_limit_rest o n
closes _ _ (good_formula {w = w} {n = n}) = closes_formula w n
closes _ _ (good_terms_rest {w = w} {n = n}) = closes_terms_rest w n
closes _ _ (good_term {w = w}) = by_lexeme (word words.Max) tt refl (closes_sign signs.OpenGroup (closes_leading w Max [] 0))
closes _ _ (good_leading {w = w} {b = b} {ps = ps} {n = n}) = closes_leading w b ps n
closes _ _ (good_sum_rest {w = w} {b = b} {ps = ps} {n = n}) = closes_sum_rest w b ps n
closes _ _ (good_summand {w = w} {b = b} {ps = ps}) = by_lexeme some_name name_a refl (closes_sum_rest w b (ps ++ Id (codes "a") ∷ []) 0)
closes _ _ (good_term_rate {w = w} {b = b} {ps = ps} {n = n}) = closes_term_rate w b ps n
