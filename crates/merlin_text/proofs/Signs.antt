-- A text begins with one sign at most.
use Rattle.std.proofs.Common.{◌≡◌, ◌<◌, ◌++◌, ◌==◌, ℕ, List, [], ◌∷◌, length, refl, arith, sym, ◌∙◌, ap}
use Rattle.std.specs.Prelude.{Option, Some, None, Bool, true, false, codes, if◌then◌else◌}
use Rattle.std.proofs.lemmas.Bool.{ne_eqb}
use Rattle.merlin_text.specs.Tokens.{written, EndsBefore}
use Rattle.merlin_text.specs.declared.token.Sign.{Sign}
use Rattle.merlin_text.specs.declared.token.Sign.TheVariants as signs

second_is : ℕ → List ℕ → Bool
second_is b [] = false
second_is b (c ∷ cs) = c == b

abbrev short_of : ℕ → Option Sign
short_of c =
    if c == 91 then Some signs.OpenList else
    if c == 93 then Some signs.CloseList else
    if c == 40 then Some signs.OpenGroup else
    if c == 41 then Some signs.CloseGroup else
    if c == 123 then Some signs.OpenSet else
    if c == 125 then Some signs.CloseSet else
    if c == 59 then Some signs.Semicolon else
    if c == 44 then Some signs.Comma else
    if c == 61 then Some signs.Equals else
    if c == 43 then Some signs.Plus else
    if c == 42 then Some signs.Star else
    if c == 33 then Some signs.Bang else
    if c == 46 then Some signs.Dot else
    if c == 124 then Some signs.Bar else None

-- the sign that a text can begin with, by its first two bytes
abbrev sign_of : List ℕ → Option Sign
sign_of [] = None
sign_of (c ∷ rest) =
    if c == 58 then (if second_is 61 rest then Some signs.Becomes else Some signs.Colon) else
    if c == 45 then Some signs.Arrow else short_of c

no_second : (rest : List ℕ) → EndsBefore (λ c. c ≡ 61) rest → second_is 61 rest ≡ false
unfolding second_is
no_second [] ends = refl
no_second (c ∷ cs) ends = ne_eqb c 61 ends

colon : (b : Bool) → b ≡ false → (if b then Some signs.Becomes else Some signs.Colon) ≡ Some signs.Colon
colon true e = cc
colon false e = refl

sign_is : (sign : Sign) (rest : List ℕ) → (written sign ≡ codes ":" → EndsBefore (λ c. c ≡ 61) rest) → sign_of (written sign ++ rest) ≡ Some sign
unfolding second_is
sign_is signs.Becomes rest ends = refl
sign_is signs.Arrow rest ends = refl
sign_is signs.OpenList rest ends = refl
sign_is signs.CloseList rest ends = refl
sign_is signs.OpenGroup rest ends = refl
sign_is signs.CloseGroup rest ends = refl
sign_is signs.OpenSet rest ends = refl
sign_is signs.CloseSet rest ends = refl
sign_is signs.Colon rest ends = colon (second_is 61 rest) (no_second rest (ends refl))
sign_is signs.Semicolon rest ends = refl
sign_is signs.Comma rest ends = refl
sign_is signs.Equals rest ends = refl
sign_is signs.Plus rest ends = refl
sign_is signs.Star rest ends = refl
sign_is signs.Bang rest ends = refl
sign_is signs.Dot rest ends = refl
sign_is signs.Bar rest ends = refl

pub one_sign : (s t : Sign) (r u : List ℕ) → (written s ≡ codes ":" → EndsBefore (λ c. c ≡ 61) r) → (written t ≡ codes ":" → EndsBefore (λ c. c ≡ 61) u) → written s ++ r ≡ written t ++ u → s ≡ t
one_sign s t r u p q e =
    let both : Some s ≡ Some t = sym (sign_is s r p) ∙ ap sign_of e ∙ sign_is t u q in
    cc

pub sign_length : (s : Sign) → 0 < length (written s)
sign_length signs.Becomes = omega arith
sign_length signs.Arrow = omega arith
sign_length signs.OpenList = omega arith
sign_length signs.CloseList = omega arith
sign_length signs.OpenGroup = omega arith
sign_length signs.CloseGroup = omega arith
sign_length signs.OpenSet = omega arith
sign_length signs.CloseSet = omega arith
sign_length signs.Colon = omega arith
sign_length signs.Semicolon = omega arith
sign_length signs.Comma = omega arith
sign_length signs.Equals = omega arith
sign_length signs.Plus = omega arith
sign_length signs.Star = omega arith
sign_length signs.Bang = omega arith
sign_length signs.Dot = omega arith
sign_length signs.Bar = omega arith
