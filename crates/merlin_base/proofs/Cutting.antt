-- A byte that a part lacks tells where the part ends.
use Rattle.std.proofs.Common.{◌≡◌, ◌≢◌, ℕ, List, [], ◌∷◌, ◌++◌, Option, None, Some, IfSome, IfNone, MatchOption, refl, sym, ◌∙◌}
use Rattle.std.specs.List.{AllByRecursion}
use Rattle.std.proofs.lemmas.List.Elements.{recursion_from_All, All-from_recursion}
use Rattle.std.specs.Borrow.{Bor}
use Rattle.merlin_base.specs.Lexemes.{Lacks}
use Rattle.merlin_base.specs.Pairs.{IsEmptyOrBegins}

abbrev pub Free : ℕ → List ℕ → Type 0
Free byte = AllByRecursion (λ other. other ≢ byte)

pub free : (byte : ℕ) (text : List ℕ) → Lacks byte text → Free byte text
free byte text lacks = recursion_from_All (λ other. other ≢ byte) text lacks

pub lacks : (byte : ℕ) (text : List ℕ) → Free byte text → Lacks byte text
lacks byte text f = All-from_recursion (λ other. other ≢ byte) text f

pub free_append : (byte : ℕ) (xs ys : List ℕ) → Free byte xs → Free byte ys → Free byte (xs ++ ys)
free_append byte [] ys f g = g
free_append byte (x ∷ xs) ys f g = (f.0, free_append byte xs ys f.1 g)

pub free_left : (byte : ℕ) (xs ys : List ℕ) → Free byte (xs ++ ys) → Free byte xs
free_left byte [] ys f = tt
free_left byte (x ∷ xs) ys f = (f.0, free_left byte xs ys f.1)

-- two cuts at the same byte are one
pub record AreSame (a b x y : List ℕ) : Type 0 where
  pub front : a ≡ b
  pub rest : x ≡ y

pub cut_once : (byte : ℕ) (a b x y : List ℕ) → Free byte a → Free byte b → a ++ byte ∷ x ≡ b ++ byte ∷ y → AreSame a b x y
cut_once byte [] [] x y f g e = record { front = refl; rest = cc }
cut_once byte [] (c ∷ b) x y f g e = let same : byte ≡ c = cc in absurd (g.0 (sym same))
cut_once byte (c ∷ a) [] x y f g e = let same : c ≡ byte = cc in absurd (f.0 same)
cut_once byte (c ∷ a) (d ∷ b) x y f g e =
    let first : c ≡ d = cc in
    let later : a ++ byte ∷ x ≡ b ++ byte ∷ y = cc in
    let ih = cut_once byte a b x y f.1 g.1 later in
    record { front = (let h = ih.front in cc); rest = ih.rest }

-- and so are two cuts before it, or at the end
pub cut_before_once : (byte : ℕ) (a b x y : List ℕ) → Free byte a → Free byte b → IsEmptyOrBegins byte x → IsEmptyOrBegins byte y → a ++ x ≡ b ++ y → AreSame a b x y
cut_before_once byte [] [] x y f g p q e = record { front = refl; rest = e }
cut_before_once byte [] (c ∷ b) [] y f g p q e = absurd (let no_way : [] ≡ c ∷ (b ++ y) → ⊥ = λ h. cc in no_way e)
cut_before_once byte [] (c ∷ b) (d ∷ x) y f g p q e = let same : d ≡ c = cc in absurd (g.0 (sym same ∙ p))
cut_before_once byte (c ∷ a) [] x [] f g p q e = absurd (let no_way : c ∷ (a ++ x) ≡ [] → ⊥ = λ h. cc in no_way e)
cut_before_once byte (c ∷ a) [] x (d ∷ y) f g p q e = let same : c ≡ d = cc in absurd (f.0 (same ∙ q))
cut_before_once byte (c ∷ a) (d ∷ b) x y f g p q e =
    let first : c ≡ d = cc in
    let later : a ++ x ≡ b ++ y = cc in
    let ih = cut_before_once byte a b x y f.1 g.1 p q later in
    record { front = (let h = ih.front in cc); rest = ih.rest }

-- what stands behind a front, or that there is no such front
pub behind_front : (text front : List ℕ) (r : Option (Bor (List ℕ))) → MatchOption r ((rest : List ℕ) → text ≢ front ++ rest) (λ x. text ≡ front ++ x.now) → IfSome r (λ x. text ≡ front ++ x.now)
behind_front text front None h = tt
behind_front text front (Some x) h = h

pub behind_none : (text front : List ℕ) (r : Option (Bor (List ℕ))) → MatchOption r ((rest : List ℕ) → text ≢ front ++ rest) (λ x. text ≡ front ++ x.now) → IfNone r ((rest : List ℕ) → text ≡ front ++ rest → ⊥)
behind_none text front None h = h
behind_none text front (Some x) h = tt

pub free_middle : (byte : ℕ) (xs ys : List ℕ) → Free byte (xs ++ byte ∷ ys) → ⊥
free_middle byte [] ys f = f.0 refl
free_middle byte (x ∷ xs) ys f = free_middle byte xs ys f.1
