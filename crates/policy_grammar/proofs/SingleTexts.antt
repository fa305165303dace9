-- Where one lexeme is awaited a text that is read begins with it; phrases with a lexeme before each.
use Rattle.std.proofs.Common.{if◌then◌else◌, ℕ, ◌≡◌, Bool, true, false, ◌==◌, List, [], ◌∷◌, ◌++◌, None, Result, Ok, length, suc, refl, sym, ap, ◌∙◌, append-nil, eqb-true}
use Rattle.merlin_text.specs.declared.token.Word.{Word}
use Rattle.merlin_text.specs.declared.token.Word.TheVariants as words
use Rattle.merlin_text.specs.declared.token.Sign.{Sign}
use Rattle.merlin_text.specs.declared.token.Sign.TheVariants as signs
use Rattle.policy_grammar.specs.declared.written.WrittenPolicy.{WrittenPolicy}
use Rattle.policy_grammar.specs.Lexemes.{Lexeme, name, word, sign, rate, separated}
use Rattle.policy_grammar.specs.Grammar.{NamePhrase, spell_name}
use Rattle.policy_grammar.specs.Machine.{Awaited, this_sign, this_word, any_name, State, sign_number, word_number, on, next_step, run, awaiting}

pub ok_inj : {A B : Type 0} {x y : A} → (let r : Result A B = Ok x in r) ≡ Ok y → x ≡ y
ok_inj e = cc

-- A sign is known by its number, and so is a word.

abbrev sign_at : ℕ → Sign
sign_at n =
    if n == 0 then signs.Becomes
    else if n == 1 then signs.Arrow
    else if n == 2 then signs.OpenList
    else if n == 3 then signs.CloseList
    else if n == 4 then signs.OpenGroup
    else if n == 5 then signs.CloseGroup
    else if n == 6 then signs.OpenSet
    else if n == 7 then signs.CloseSet
    else if n == 8 then signs.Colon
    else if n == 9 then signs.Semicolon
    else if n == 10 then signs.Comma
    else if n == 11 then signs.Equals
    else if n == 12 then signs.Plus
    else if n == 13 then signs.Star
    else if n == 14 then signs.Bang
    else if n == 15 then signs.Dot
    else signs.Bar

sign_at-number : (s : Sign) → sign_at (sign_number s) ≡ s
sign_at-number signs.Becomes = refl
sign_at-number _ = refl

pub same_sign : (s t : Sign) → sign_number s ≡ sign_number t → s ≡ t
same_sign s t e = sym (sign_at-number s) ∙ ap sign_at e ∙ sign_at-number t

abbrev word_at : ℕ → Word
word_at n =
    if n == 0 then words.True
    else if n == 1 then words.False
    else if n == 2 then words.And
    else if n == 3 then words.Or
    else if n == 4 then words.Foreach
    else if n == 5 then words.In
    else if n == 6 then words.Cross
    else if n == 7 then words.Default
    else if n == 8 then words.At
    else if n == 9 then words.Max
    else words.Min

word_at-number : (w : Word) → word_at (word_number w) ≡ w
word_at-number words.True = refl
word_at-number _ = refl

pub same_word : (w v : Word) → word_number w ≡ word_number v → w ≡ v
same_word w v e = sym (word_at-number w) ∙ ap word_at e ∙ word_at-number v

-- the text is that lexeme and a rest that is read from there
pub record Taken (t : Lexeme) (ts : List Lexeme) (s : State) (w : WrittenPolicy) : Type 0 where
  pub rest : List Lexeme
  pub is : ts ≡ t ∷ rest
  pub goes : run rest s ≡ Ok w

pub took_sign : (s : Sign) (ts : List Lexeme) (k : List Awaited) (n : ℕ) (w : WrittenPolicy) → run ts (awaiting (this_sign s ∷ k) n) ≡ Ok w → Taken (sign s) ts (awaiting k n) w
took_sign s [] k n w e = cc
took_sign s (sign t ∷ ts) k n w e = by (sign_number s == sign_number t) refl e
  where
    by : (b : Bool) → (sign_number s == sign_number t) ≡ b → next_step (if b then on k n else None) (suc (length ts)) (λ u. run ts u) ≡ Ok w → Taken (sign s) (sign t ∷ ts) (awaiting k n) w
    by true q e = record { rest = ts; is = ap (λ x. sign x ∷ ts) (sym (same_sign s t (eqb-true (sign_number s) (sign_number t) q))); goes = e }
    by false q e = cc
took_sign s (_ ∷ ts) k n w e = cc

pub took_word : (v : Word) (ts : List Lexeme) (k : List Awaited) (n : ℕ) (w : WrittenPolicy) → run ts (awaiting (this_word v ∷ k) n) ≡ Ok w → Taken (word v) ts (awaiting k n) w
took_word v [] k n w e = cc
took_word v (word t ∷ ts) k n w e = by (word_number v == word_number t) refl e
  where
    by : (b : Bool) → (word_number v == word_number t) ≡ b → next_step (if b then on k n else None) (suc (length ts)) (λ u. run ts u) ≡ Ok w → Taken (word v) (word t ∷ ts) (awaiting k n) w
    by true q e = record { rest = ts; is = ap (λ x. word x ∷ ts) (sym (same_word v t (eqb-true (word_number v) (word_number t) q))); goes = e }
    by false q e = cc
took_word v (_ ∷ ts) k n w e = cc

-- the text begins with a name, and with it goes on from the state that it leads to
pub record NameTaken (ts : List Lexeme) (s : List ℕ → State) (w : WrittenPolicy) : Type 0 where
  pub phrase : NamePhrase
  pub rest : List Lexeme
  pub is : ts ≡ spell_name phrase ∷ rest
  pub goes : run rest (s phrase.text) ≡ Ok w

pub took_name : (ts : List Lexeme) (k : List Awaited) (n : ℕ) (w : WrittenPolicy) → run ts (awaiting (any_name ∷ k) n) ≡ Ok w → NameTaken ts (λ _. awaiting k n) w
took_name [] k n w e = cc
took_name (name a p ∷ ts) k n w e = record { phrase = record { text = a; place = p }; rest = ts; is = refl; goes = e }
took_name (_ ∷ ts) k n w e = cc

-- the same of a rate
pub record RateTaken (ts : List Lexeme) (s : ℕ → State) (w : WrittenPolicy) : Type 0 where
  pub value : ℕ
  pub rest : List Lexeme
  pub is : ts ≡ rate value ∷ rest
  pub goes : run rest (s value) ≡ Ok w

-- phrases with that lexeme before each
abbrev pub preceded : {A : Type 0} → Lexeme → (A → List Lexeme) → List A → List Lexeme
preceded before spell [] = []
preceded before spell (x ∷ xs) = before ∷ spell x ++ preceded before spell xs

pub separated-preceded : {A : Type 0} (between : Lexeme) (spell : A → List Lexeme) (x : A) (xs : List A) → separated between spell (x ∷ xs) ≡ spell x ++ preceded between spell xs
separated-preceded between spell x [] = sym (append-nil (spell x))
separated-preceded between spell x (y ∷ ys) = ap (λ ts. spell x ++ between ∷ ts) (separated-preceded between spell y ys)
