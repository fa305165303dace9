-- Different elements of a list are no more than it has.
use Rattle.std.proofs.Common.{◌≡◌, ◌≢◌, ◌≤◌, ◌⊎◌, inl, inr, suc, List, [], ◌∷◌, ◌++◌, length, None, Some, refl, sym, ap, subst, arith}
use Rattle.std.specs.List.{AllZip}
use Rattle.merlin_model.specs.Networks.{Pairwise, AreDifferent}
use Rattle.merlin_model.proofs.Members.{In, in_append, in_append-left, in_append-right, all_in}
use Rattle.product_graph.proofs.Lists.{all-map}

pub none-some : {X : Type 0} {x : X} → None ≡ Some x → ⊥
none-some e = cc

-- what stands around an element
record StandsAmong {X : Type 0} (x : X) (ys : List X) : Type 0 where
  before : List X
  after : List X
  is : ys ≡ before ++ x ∷ after

among : {X : Type 0} (x : X) (ys : List X) → In x ys → StandsAmong x ys
among x [] h = absurd h
among x (y ∷ ys) (inl e) = record { before = []; after = ys; is = ap (λ z. z ∷ ys) (sym e) }
among x (y ∷ ys) (inr h) = let s = among x ys h in record { before = y ∷ s.before; after = s.after; is = ap (λ zs. y ∷ zs) s.is }

one-more : {X : Type 0} (us vs : List X) (x : X) → length (us ++ x ∷ vs) ≡ suc (length (us ++ vs))
one-more [] vs x = refl
one-more (u ∷ us) vs x = ap suc (one-more us vs x)

pub few-different : {X : Type 0} (xs ys : List X) → AreDifferent xs → ((x : X) → In x xs → In x ys) → length xs ≤ length ys
few-different [] ys differ within = omega arith
few-different {X} (x ∷ xs) ys differ within = counted (few-different xs (s.before ++ s.after) differ.1 other) (one-more s.before s.after x) (ap length s.is)
  where
    s : StandsAmong x ys
    s = among x ys (within x (inl refl))

    other : (y : X) → In y xs → In y (s.before ++ s.after)
    other y i = by (in_append s.before (x ∷ s.after) y (subst (In y) s.is (within y (inr i))))
      where
        by : In y s.before ⊎ In y (x ∷ s.after) → In y (s.before ++ s.after)
        by (inl j) = in_append-left s.before s.after y j
        by (inr (inl e)) = absurd (all_in (λ v. x ≢ v) xs y differ.0 i (sym e))
        by (inr (inr j)) = in_append-right s.before s.after y j

    counted : length xs ≤ length (s.before ++ s.after) → length (s.before ++ x ∷ s.after) ≡ suc (length (s.before ++ s.after)) → length ys ≡ length (s.before ++ x ∷ s.after) → length (x ∷ xs) ≤ length ys
    counted rest more all = omega (arith, rest, more, all)

-- what stands in an order that no element has to itself is different
pub ordered-different : {X : Type 0} (R : X → X → Type 0) → ((x : X) → ¬ R x x) → (xs : List X) → Pairwise R xs → AreDifferent xs
ordered-different R apart [] up = tt
ordered-different R apart (x ∷ xs) up = (all-map (R x) (λ y. x ≢ y) (λ y h e. apart x (subst (R x) (sym e) h)) xs up.0, ordered-different R apart xs up.1)

-- two lists that stand to a third are one, where each element of it stands to one thing
pub zipped-one : {X Y : Type 0} (R : X → Y → Type 0) → ((x : X) (y z : Y) → R x y → R x z → y ≡ z) → (xs : List X) (ys zs : List Y) → AllZip R xs ys → AllZip R xs zs → ys ≡ zs
zipped-one R one [] [] [] h g = refl
zipped-one R one [] [] (z ∷ zs) h g = absurd g
zipped-one R one [] (y ∷ ys) zs h g = absurd h
zipped-one R one (x ∷ xs) [] zs h g = absurd h
zipped-one R one (x ∷ xs) (y ∷ ys) [] h g = absurd g
zipped-one R one (x ∷ xs) (y ∷ ys) (z ∷ zs) h g = λ i. one x y z h.0 g.0 i ∷ zipped-one R one xs ys zs h.1 g.1 i
