-- What a member is, is told once.
use Rattle.std.proofs.Common.{◌≡◌, inl, inr, ℕ, List, Option, Some, None, IfNone, codes, sym, ◌∙◌, subst}
use Rattle.serde_json.specs.Data.{Data}
use Rattle.serde_json.specs.Find.{get}
use Rattle.topology_shape.specs.Json.{HasText}
use Rattle.topology_shape.specs.Format.{HasLexeme, HasCapacity, HasBack, MaySet, IsSetOf, HasSet}
use Rattle.merlin_model.specs.declared.policy.Field.{Field}

pub some_one : {X : Type 0} {o : Option X} {x y : X} → o ≡ Some x → o ≡ Some y → x ≡ y
some_one {X} {o} {x} {y} e f = let g : Some x ≡ Some y = sym e ∙ f in cc

pub one_text : (key : List ℕ) (d : Data) (s t : List ℕ) → HasText key d s → HasText key d t → s ≡ t
one_text key d s t e f = some_one e f

pub no_lexeme : (form : List ℕ → ℕ → Type 0) (key : List ℕ) (d : Data) (text bytes : List ℕ) → HasText key d text → bytes ≡ text → ((n : ℕ) → form bytes n → ⊥) → (n : ℕ) → HasLexeme form key d n → ⊥
no_lexeme form key d text bytes has same none n (other, has', is) = none n (subst (λ (t : List ℕ). form t n) (one_text key d other text has' has ∙ sym same) is)

pub one_lexeme : (form : List ℕ → ℕ → Type 0) → ((t : List ℕ) (n m : ℕ) → form t n → form t m → n ≡ m) → (key : List ℕ) (d : Data) (text bytes : List ℕ) (m : ℕ) → HasText key d text → bytes ≡ text → form bytes m → (n : ℕ) → HasLexeme form key d n → n ≡ m
one_lexeme form one key d text bytes m has same is n (other, has', is') = one bytes n m (subst (λ (t : List ℕ). form t n) (one_text key d other text has' has ∙ sym same) is') is

-- where the text is of no such form, nothing is there
pub none_lexeme : (form : List ℕ → ℕ → Type 0) (key : List ℕ) (d : Data) (text bytes : List ℕ) → HasText key d text → bytes ≡ text → (o : Option ℕ) → IfNone o ((n : ℕ) → form bytes n → ⊥) → IfNone o ((n : ℕ) → HasLexeme form key d n → ⊥)
none_lexeme form key d text bytes has same None none = no_lexeme form key d text bytes has same none
none_lexeme form key d text bytes has same (Some n) none = tt

-- a member that is there and no capacity carries nothing back
pub no_back : (d : Data) (o : Option ℕ) → (get (codes "back") d ≡ None → ⊥) → IfNone o ((n : ℕ) → HasCapacity (codes "back") d n → ⊥) → IfNone o ((c n : ℕ) → HasBack d c n → ⊥)
no_back d (Some x) there none = tt
no_back d None there none = by
  where
    by : (c n : ℕ) → HasBack d c n → ⊥
    by c n (inl (missing, e)) = there missing
    by c n (inr has) = none n has

-- a member that is there and of no such form sets nothing
pub no_may : (form : List ℕ → Data → ℕ → Type 0) (key : List ℕ) (d : Data) → (get key d ≡ None → ⊥) → ((n : ℕ) → form key d n → ⊥) → (o : Option ℕ) → MaySet form key d o → ⊥
no_may form key d there none None may = there may
no_may form key d there none (Some n) may = none n may

pub no_set : (d it : Data) → get (codes "set") d ≡ Some it → ((set : List (Field × ℕ)) → IsSetOf it set → ⊥) → (set : List (Field × ℕ)) → HasSet d set → ⊥
no_set d it has none set (inl (missing, e)) = let g : Some it ≡ None = sym has ∙ missing in never g
  where
    never : {X : Type 0} {x : X} → Some x ≡ None → ⊥
    never e = cc
no_set d it has none set (inr (other, has', is)) = none set (subst (λ (x : Data). IsSetOf x set) (some_one has' has) is)
