-- Sets: what is written is read, and what is read is written.
use Rattle.std.proofs.Common.{ℕ, ◌≡◌, ◌≤◌, suc, zero, List, [], ◌∷◌, ◌++◌, map, Ok, length, refl, sym, ap, ◌∙◌, subst, append_assoc, append-nil, length-append, arith}
use Rattle.merlin_text.specs.declared.token.Sign.TheVariants as signs
use Rattle.policy_grammar.specs.declared.written.Literal.{Literal}
use Rattle.policy_grammar.specs.declared.written.Literal.TheVariants.{Mac, Ip}
use Rattle.policy_grammar.specs.declared.written.WrittenSet.{WrittenSet}
use Rattle.policy_grammar.specs.declared.written.WrittenPolicy.{WrittenPolicy}
use Rattle.policy_grammar.specs.Lexemes.{Lexeme, name, sign, mac, ip, separated}
use Rattle.policy_grammar.specs.Grammar.{NamePhrase, SetPhrase, spell_literal, spell_set, spell_sets, set_value}
use Rattle.policy_grammar.specs.Machine.{this_sign, sets, set_start, set_rest, set_more, item, with_set, run, awaiting}
use Rattle.policy_grammar.proofs.SingleTexts.{took_sign, preceded, separated-preceded}

-- What is written is read.

reads_literal : (l : Literal) (ss : List WrittenSet) (a : List ℕ) (ls : List Literal) (y : List Lexeme) → run (spell_literal l ++ y) (awaiting (set_more ss a ls ∷ []) 0) ≡ run y (awaiting (set_rest ss a (ls ++ l ∷ []) ∷ []) 0)
reads_literal (Mac n) ss a ls y = refl
reads_literal (Ip n) ss a ls y = refl

reads_first : (l : Literal) (ss : List WrittenSet) (a : List ℕ) (y : List Lexeme) → run (spell_literal l ++ y) (awaiting (set_start ss a ∷ []) 0) ≡ run y (awaiting (set_rest ss a (l ∷ []) ∷ []) 0)
reads_first (Mac n) ss a y = refl
reads_first (Ip n) ss a y = refl

reads_literals : (more : List Literal) (ss : List WrittenSet) (a : List ℕ) (ls : List Literal) (y : List Lexeme) → run (preceded (sign signs.Comma) spell_literal more ++ y) (awaiting (set_rest ss a ls ∷ []) 0) ≡ run y (awaiting (set_rest ss a (ls ++ more) ∷ []) 0)
reads_literals [] ss a ls y = ap (λ xs. run y (awaiting (set_rest ss a xs ∷ []) 0)) (sym (append-nil ls))
reads_literals (l ∷ more) ss a ls y =
    ap (λ ts. run ts (awaiting (set_more ss a ls ∷ []) 0)) (append_assoc (spell_literal l) (preceded (sign signs.Comma) spell_literal more) y)
    ∙ reads_literal l ss a ls (preceded (sign signs.Comma) spell_literal more ++ y)
    ∙ reads_literals more ss a (ls ++ l ∷ []) y
    ∙ ap (λ xs. run y (awaiting (set_rest ss a xs ∷ []) 0)) (append_assoc ls (l ∷ []) more)

regroup : (a b y : List Lexeme) → ((a ++ b) ++ sign signs.CloseSet ∷ []) ++ y ≡ a ++ (b ++ sign signs.CloseSet ∷ y)
regroup a b y = simp append_assoc

reads_set_of : (a : NamePhrase) (ls : List Literal) (ss : List WrittenSet) (y : List Lexeme) → run (spell_set (record { name = a; literals = ls }) ++ y) (awaiting (sets ss ∷ []) 0) ≡ run y (awaiting (sets (with_set ss a.text ls) ∷ []) 0)
reads_set_of a [] ss y = refl
reads_set_of a (l ∷ ls) ss y =
    ap (λ ts. run ((ts ++ sign signs.CloseSet ∷ []) ++ y) (awaiting (set_start ss a.text ∷ []) 0)) (separated-preceded (sign signs.Comma) spell_literal l ls)
    ∙ ap (λ ts. run ts (awaiting (set_start ss a.text ∷ []) 0)) (regroup (spell_literal l) (preceded (sign signs.Comma) spell_literal ls) y)
    ∙ reads_first l ss a.text (preceded (sign signs.Comma) spell_literal ls ++ sign signs.CloseSet ∷ y)
    ∙ reads_literals ls ss a.text (l ∷ []) (sign signs.CloseSet ∷ y)

pub reads_sets : (phrases : List SetPhrase) (ss : List WrittenSet) (y : List Lexeme) → run (spell_sets phrases ++ y) (awaiting (sets ss ∷ []) 0) ≡ run y (awaiting (sets (ss ++ map set_value phrases) ∷ []) 0)
reads_sets [] ss y = ap (λ xs. run y (awaiting (sets xs ∷ []) 0)) (sym (append-nil ss))
reads_sets (s ∷ phrases) ss y =
    ap (λ ts. run ts (awaiting (sets ss ∷ []) 0)) (append_assoc (spell_set s) (spell_sets phrases) y)
    ∙ reads_set_of s.name s.literals ss (spell_sets phrases ++ y)
    ∙ reads_sets phrases (ss ++ set_value s ∷ []) y
    ∙ ap (λ xs. run y (awaiting (sets xs ∷ []) 0)) (append_assoc ss (set_value s ∷ []) (map set_value phrases))

-- What is read is written.

record LiteralsTaken (ts : List Lexeme) (ss : List WrittenSet) (a : List ℕ) (ls : List Literal) (w : WrittenPolicy) : Type 0 where
  literals : List Literal
  rest : List Lexeme
  is : ts ≡ preceded (sign signs.Comma) spell_literal literals ++ sign signs.CloseSet ∷ rest
  goes : run rest (awaiting (sets (with_set ss a (ls ++ literals)) ∷ []) 0) ≡ Ok w

more_literals : (l : Literal) (ts : List Lexeme) (ss : List WrittenSet) (a : List ℕ) (ls : List Literal) (w : WrittenPolicy) → LiteralsTaken ts ss a (ls ++ l ∷ []) w → LiteralsTaken (sign signs.Comma ∷ spell_literal l ++ ts) ss a ls w
more_literals l ts ss a ls w m = record {
  literals = l ∷ m.literals;
  rest = m.rest;
  is = ap (λ xs. sign signs.Comma ∷ spell_literal l ++ xs) m.is ∙ ap (λ xs. sign signs.Comma ∷ xs) (sym (append_assoc (spell_literal l) (preceded (sign signs.Comma) spell_literal m.literals) (sign signs.CloseSet ∷ m.rest)));
  goes = subst (λ xs. run m.rest (awaiting (sets (with_set ss a xs) ∷ []) 0) ≡ Ok w) (append_assoc ls (l ∷ []) m.literals) m.goes;
}

took_literals : (ts : List Lexeme) (ss : List WrittenSet) (a : List ℕ) (ls : List Literal) (w : WrittenPolicy) → run ts (awaiting (set_rest ss a ls ∷ []) 0) ≡ Ok w → LiteralsTaken ts ss a ls w
took_literals [] ss a ls w e = cc
took_literals (sign signs.CloseSet ∷ ts) ss a ls w e = record { literals = []; rest = ts; is = refl; goes = subst (λ xs. run ts (awaiting (sets (with_set ss a xs) ∷ []) 0) ≡ Ok w) (sym (append-nil ls)) e }
took_literals (sign signs.Comma ∷ []) ss a ls w e = cc
took_literals (sign signs.Comma ∷ mac n ∷ ts) ss a ls w e = more_literals (Mac n) ts ss a ls w (took_literals ts ss a (ls ++ Mac n ∷ []) w e)
took_literals (sign signs.Comma ∷ ip n ∷ ts) ss a ls w e = more_literals (Ip n) ts ss a ls w (took_literals ts ss a (ls ++ Ip n ∷ []) w e)
took_literals (sign signs.Comma ∷ _ ∷ ts) ss a ls w e = cc
took_literals (_ ∷ ts) ss a ls w e = cc

record BodyTaken (ts : List Lexeme) (ss : List WrittenSet) (a : List ℕ) (w : WrittenPolicy) : Type 0 where
  literals : List Literal
  rest : List Lexeme
  is : ts ≡ separated (sign signs.Comma) spell_literal literals ++ sign signs.CloseSet ∷ rest
  goes : run rest (awaiting (sets (with_set ss a literals) ∷ []) 0) ≡ Ok w

first_literal : (l : Literal) (ts : List Lexeme) (ss : List WrittenSet) (a : List ℕ) (w : WrittenPolicy) → LiteralsTaken ts ss a (l ∷ []) w → BodyTaken (spell_literal l ++ ts) ss a w
first_literal l ts ss a w m = record {
  literals = l ∷ m.literals;
  rest = m.rest;
  is = ap (λ xs. spell_literal l ++ xs) m.is
      ∙ sym (append_assoc (spell_literal l) (preceded (sign signs.Comma) spell_literal m.literals) (sign signs.CloseSet ∷ m.rest))
      ∙ ap (λ xs. xs ++ sign signs.CloseSet ∷ m.rest) (sym (separated-preceded (sign signs.Comma) spell_literal l m.literals));
  goes = m.goes;
}

took_body : (ts : List Lexeme) (ss : List WrittenSet) (a : List ℕ) (w : WrittenPolicy) → run ts (awaiting (set_start ss a ∷ []) 0) ≡ Ok w → BodyTaken ts ss a w
took_body [] ss a w e = cc
took_body (sign signs.CloseSet ∷ ts) ss a w e = record { literals = []; rest = ts; is = refl; goes = e }
took_body (mac n ∷ ts) ss a w e = first_literal (Mac n) ts ss a w (took_literals ts ss a (Mac n ∷ []) w e)
took_body (ip n ∷ ts) ss a w e = first_literal (Ip n) ts ss a w (took_literals ts ss a (Ip n ∷ []) w e)
took_body (_ ∷ ts) ss a w e = cc

record SetTaken (ts : List Lexeme) (ss : List WrittenSet) (a : NamePhrase) (w : WrittenPolicy) : Type 0 where
  phrase : SetPhrase
  rest : List Lexeme
  is : name a.text a.place ∷ ts ≡ spell_set phrase ++ rest
  goes : run rest (awaiting (sets (ss ++ set_value phrase ∷ []) ∷ []) 0) ≡ Ok w

took_set : (ts : List Lexeme) (ss : List WrittenSet) (a : NamePhrase) (w : WrittenPolicy) → run ts (awaiting (this_sign signs.Becomes ∷ this_sign signs.OpenSet ∷ set_start ss a.text ∷ []) 0) ≡ Ok w → SetTaken ts ss a w
took_set ts ss a w e =
    let becomes = took_sign signs.Becomes ts (this_sign signs.OpenSet ∷ set_start ss a.text ∷ []) 0 w e in
    let opened = took_sign signs.OpenSet becomes.rest (set_start ss a.text ∷ []) 0 w becomes.goes in
    let body = took_body opened.rest ss a.text w opened.goes in
    record {
      phrase = record { name = a; literals = body.literals };
      rest = body.rest;
      is = ap (λ xs. name a.text a.place ∷ xs) (becomes.is ∙ ap (λ xs. sign signs.Becomes ∷ xs) (opened.is ∙ ap (λ xs. sign signs.OpenSet ∷ xs)
          (body.is ∙ sym (append_assoc (separated (sign signs.Comma) spell_literal body.literals) (sign signs.CloseSet ∷ []) body.rest))));
      goes = body.goes;
    }

pub record SetsTaken (ts : List Lexeme) (ss : List WrittenSet) (w : WrittenPolicy) : Type 0 where
  pub phrases : List SetPhrase
  pub rest : List Lexeme
  pub is : ts ≡ spell_sets phrases ++ sign signs.OpenList ∷ rest
  pub goes : run rest (awaiting (item (record { sets = ss ++ map set_value phrases; items = [] }) ∷ []) 0) ≡ Ok w

shorter : (ts : List Lexeme) (ss : List WrittenSet) (a : NamePhrase) (w : WrittenPolicy) (one : SetTaken ts ss a w) → length one.rest ≤ length ts
shorter ts ss a w one = omega (arith, ap length one.is, length-append (spell_set one.phrase) one.rest)

more_sets : (ts : List Lexeme) (ss : List WrittenSet) (a : NamePhrase) (w : WrittenPolicy) (one : SetTaken ts ss a w) → SetsTaken one.rest (ss ++ set_value one.phrase ∷ []) w → SetsTaken (name a.text a.place ∷ ts) ss w
more_sets ts ss a w one more = record {
  phrases = one.phrase ∷ more.phrases;
  rest = more.rest;
  is = one.is ∙ ap (λ xs. spell_set one.phrase ++ xs) more.is ∙ sym (append_assoc (spell_set one.phrase) (spell_sets more.phrases) (sign signs.OpenList ∷ more.rest));
  goes = subst (λ xs. run more.rest (awaiting (item (record { sets = xs; items = [] }) ∷ []) 0) ≡ Ok w) (append_assoc ss (set_value one.phrase ∷ []) (map set_value more.phrases)) more.goes;
}

pub took_sets : (bound : ℕ) (ts : List Lexeme) (ss : List WrittenSet) (w : WrittenPolicy) → length ts ≤ bound → run ts (awaiting (sets ss ∷ []) 0) ≡ Ok w → SetsTaken ts ss w
took_sets bound [] ss w h e = cc
took_sets zero (t ∷ ts) ss w h e = absurd (omega arith)
took_sets (suc bound) (sign signs.OpenList ∷ ts) ss w h e = record { phrases = []; rest = ts; is = refl; goes = subst (λ xs. run ts (awaiting (item (record { sets = xs; items = [] }) ∷ []) 0) ≡ Ok w) (sym (append-nil ss)) e }
took_sets (suc bound) (name a p ∷ ts) ss w h e =
    let one = took_set ts ss (record { text = a; place = p }) w e in
    more_sets ts ss (record { text = a; place = p }) w one (took_sets bound one.rest (ss ++ set_value one.phrase ∷ []) w (omega (arith, shorter ts ss (record { text = a; place = p }) w one)) one.goes)
took_sets (suc bound) (_ ∷ ts) ss w h e = cc
