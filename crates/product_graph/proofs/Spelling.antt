-- The word along some edges, edge by edge.
use Rattle.std.proofs.Common.{◌≡◌, ◌<◌, ◌+◌, ℕ, suc, zero, List, [], ◌∷◌, ◌++◌, length, map, take, get_or, slice_get, Some, None, add-one, refl, ◌∙◌, ap, arith}
use Rattle.std.specs.List.{AllByRecursion}
use Rattle.product_graph.specs.declared.span.Product.{Product}
use Rattle.product_graph.specs.Walks.{LeadsBy}

none-some : {X : Type 0} {a : X} → None ≡ Some a → ⊥
none-some e = cc

get-below : {X : Type 0} (xs : List X) (k : ℕ) (a : X) → slice_get xs k ≡ Some a → k < length xs
get-below [] k a e = absurd (none-some e)
get-below (x ∷ xs) zero a e = omega arith
get-below (x ∷ xs) (suc k) a e = let lt = get-below xs k a e in omega (arith, lt)

-- edges that lead somewhere are edges
pub leads-within : (product : Product) (ks : List ℕ) (v : ℕ) → LeadsBy product v ks → AllByRecursion (λ k. k < length product.edges) ks
leads-within product [] v h = tt
leads-within product (k ∷ ks) v h = (get-below product.edges k h.0 h.1, leads-within product ks h.0.1 h.3)

pub all-at : {X : Type 0} (P : X → Type 0) (xs : List X) (i : ℕ) (d : X) → i < length xs → AllByRecursion P xs → P (get_or xs i d)
all-at P [] i d lt h = absurd (omega (arith, lt))
all-at P (x ∷ xs) zero d lt h = h.0
all-at P (x ∷ xs) (suc i) d lt h = all-at P xs i d (omega arith) h.1

pub map-take : {X Y : Type 0} (f : X → Y) (xs : List X) (i : ℕ) (d : X) → i < length xs → map f (take (i + 1) xs) ≡ map f (take i xs) ++ f (get_or xs i d) ∷ []
map-take {X} f xs i d lt = ap (λ j. map f (take j xs)) (add-one i) ∙ by xs i lt
  where
    by : (ys : List X) (j : ℕ) → j < length ys → map f (take (suc j) ys) ≡ map f (take j ys) ++ f (get_or ys j d) ∷ []
    by [] j below = absurd (omega (arith, below))
    by (y ∷ ys) zero below = refl
    by (y ∷ ys) (suc j) below = ap (λ l. f y ∷ l) (by ys j (omega arith))
