-- Lines that are taken one by one.
use Rattle.std.proofs.Common.{◌≡◌, ℕ, ◌<◌, List, [], ◌∷◌, ◌++◌, length, length-append, refl, sym, ◌∙◌, ap, append_assoc, append-nil, arith}
use Rattle.std.specs.List.{AllByRecursion, flat_map}
use Rattle.config_read.specs.Sections.{TakesAll}

-- these are lawful, and their lines stand before what is left
pub record TakesSome {V : Type 0} (line : V → List ℕ) (Is : V → Type 0) (text : List ℕ) (vs : List V) (rest : List ℕ) : Type 0 where
  pub whole : text ≡ flat_map line vs ++ rest
  pub each : AllByRecursion Is vs

push : {V : Type 0} (line : V → List ℕ) (vs : List V) (v : V) → flat_map line (vs ++ v ∷ []) ≡ flat_map line vs ++ line v
push line [] v = append-nil (line v)
push line (w ∷ vs) v = ap (λ t. line w ++ t) (push line vs v) ∙ sym (append_assoc (line w) (flat_map line vs) (line v))

all_push : {V : Type 0} (Is : V → Type 0) (vs : List V) (v : V) → AllByRecursion Is vs → Is v → AllByRecursion Is (vs ++ v ∷ [])
all_push Is [] v f g = (g, tt)
all_push Is (w ∷ vs) v f g = (f.0, all_push Is vs v f.1 g)

pub none_taken : {V : Type 0} (line : V → List ℕ) (Is : V → Type 0) (text : List ℕ) → TakesSome line Is text [] text
none_taken line Is text = record { whole = refl; each = tt }

pub one_more : {V : Type 0} (line : V → List ℕ) (Is : V → Type 0) (text : List ℕ) (vs : List V) (rest : List ℕ) (v : V) (more : List ℕ) → TakesSome line Is text vs rest → rest ≡ line v ++ more → Is v → TakesSome line Is text (vs ++ v ∷ []) more
one_more line Is text vs rest v more t e is = record {
  whole = t.whole ∙ ap (λ z. flat_map line vs ++ z) e ∙ sym (append_assoc (flat_map line vs) (line v) more) ∙ ap (λ z. z ++ more) (sym (push line vs v));
  each = all_push Is vs v t.each is;
}

pub all_taken : {V : Type 0} (line : V → List ℕ) (Is : V → Type 0) (text : List ℕ) (vs : List V) (rest : List ℕ) → TakesSome line Is text vs rest → ((v : V) (more : List ℕ) → Is v → rest ≡ line v ++ more → ⊥) → TakesAll line Is text vs rest
all_taken line Is text vs rest t none = record { whole = t.whole; each = t.each; ends = none }

-- what stands behind something is shorter
pub shorter : (rest part more : List ℕ) (c : ℕ) (cs : List ℕ) → rest ≡ part ++ more → part ≡ c ∷ cs → length more < length rest
shorter rest part more c cs e f = let l = ap length e ∙ length-append part more in let n = ap length f in omega arith
