-- Entries, counted vertex by vertex.
use Rattle.std.proofs.Common.{◌≡◌, ◌<◌, ◌≤◌, ◌+◌, ◌==◌, ◌&&◌, ℕ, zero, suc, Bool, true, false, cond, List, [], ◌∷◌, length, map, take, get_or, Option, None, Some, refl, sym, ◌∙◌, ap, subst, arith}
use Rattle.std.specs.Prelude.{is_some, sum_by, slice_set, replicate}
use Rattle.std.specs.List.{slice_index_or}
use Rattle.std.proofs.lemmas.List.Sums.{sum_by-cons, sum_by_more, sum_by-drop_more, sum_by-take-drop, count_by-le-length, count_by_more_yes, count_by_more_no}
use Rattle.rules_model.specs.Products.{loc_of}
use Rattle.product_graph.specs.declared.span.Vertex.{Vertex as ListedVertex}
use Rattle.product_graph.specs.Products.{vertex_of}
use Rattle.openflow_rules.specs.Planning.{vertex_entries, entries_in}
use Rattle.openflow_rules.specs.Gathered.{functions_at, CountsFunctions, IsRoomAfter, IsRoomBeside}

sum-mapped : {X Y : Type 0} (f : Y → ℕ) (g : X → Y) (xs : List X) → sum_by f (map g xs) ≡ sum_by (λ x. f (g x)) xs
sum-mapped f g [] = refl
sum-mapped f g (x ∷ xs) = sum_by-cons f (g x) (map g xs) ∙ ap (λ n. f (g x) + n) (sum-mapped f g xs) ∙ sym (sum_by-cons (λ y. f (g y)) x xs)

sum-same : {X : Type 0} (f g : X → ℕ) → ((x : X) → f x ≡ g x) → (xs : List X) → sum_by f xs ≡ sum_by g xs
sum-same f g same [] = refl
sum-same f g same (x ∷ xs) = sum_by-cons f x xs ∙ ap (λ n. n + sum_by f xs) (same x) ∙ ap (λ n. g x + n) (sum-same f g same xs) ∙ sym (sum_by-cons g x xs)

-- what a listed vertex counts
abbrev pub listed_entries : List ListedVertex → ListedVertex → ℕ
listed_entries vs v = 1 + functions_at vs v.symbol.loc

pub entries-are : (vs : List ListedVertex) → entries_in (map vertex_of vs) ≡ sum_by (listed_entries vs) vs
entries-are vs =
    sum-mapped (vertex_entries (map vertex_of vs)) vertex_of vs
    ∙ sum-same (λ v. vertex_entries (map vertex_of vs) (vertex_of v)) (listed_entries vs) (λ v. ap (λ n. 1 + n) (sum-mapped (λ u. cond ((loc_of u == v.symbol.loc) && is_some u.symbol.fun) 1 0) vertex_of vs)) vs

-- one vertex more
pub left-next : (vs : List ListedVertex) (i : ℕ) (d : ListedVertex) (room left after functions : ℕ) → i < length vs → functions ≡ functions_at vs (get_or vs i d).symbol.loc →
    left + sum_by (listed_entries vs) (take i vs) ≡ room → after + (functions + 1) ≡ left → after + sum_by (listed_entries vs) (take (i + 1) vs) ≡ room
left-next vs i d room left after functions lt is sum now =
    let more = sum_by_more (listed_entries vs) vs i d lt in omega (arith, more, is, sum, now)

-- no room for it
pub left-none : (vs : List ListedVertex) (i : ℕ) (d : ListedVertex) (room left functions : ℕ) → i < length vs → functions ≡ functions_at vs (get_or vs i d).symbol.loc →
    left + sum_by (listed_entries vs) (take i vs) ≡ room → left ≤ functions → room < entries_in (map vertex_of vs)
left-none vs i d room left functions lt is sum full =
    let all = sum_by-take-drop (listed_entries vs) vs i in
    let next = sum_by-drop_more (listed_entries vs) vs i d lt in
    let whole = entries-are vs in omega (arith, all, next, whole, is, sum, full)

pub left-all : (vs : List ListedVertex) (i room left : ℕ) → length vs ≤ i → left + sum_by (listed_entries vs) (take i vs) ≡ room → left + entries_in (map vertex_of vs) ≡ room
left-all vs i room left past sum =
    let whole = entries-are vs in
    let same : sum_by (listed_entries vs) (take i vs) ≡ sum_by (listed_entries vs) vs = ap (sum_by (listed_entries vs)) (taken vs i past) in omega (arith, whole, same, sum)
  where
    taken : (xs : List ListedVertex) (n : ℕ) → length xs ≤ n → take n xs ≡ xs
    taken [] zero le = refl
    taken [] (suc n) le = refl
    taken (x ∷ xs) zero le = absurd (omega (arith, le))
    taken (x ∷ xs) (suc n) le = ap (λ r. x ∷ r) (taken xs n (omega (arith, le)))

-- the room for all entries after those of one product more
pub room-next : (total n : ℕ) (before after : Option ℕ) → IsRoomBeside total before → IsRoomAfter before n after → IsRoomBeside (total + n) after
room-next total n None after h e = subst (IsRoomBeside (total + n)) (sym e) (omega (arith, h))
room-next total n (Some room) None h lt = omega (arith, h, lt)
room-next total n (Some room) (Some left) h e = omega (arith, h, e)

-- Counts by location.

get-set-here : (xs : List ℕ) (i x : ℕ) → i < length xs → slice_index_or (slice_set xs i x) i 0 ≡ x
get-set-here [] i x lt = absurd (omega (arith, lt))
get-set-here (y ∷ xs) zero x lt = refl
get-set-here (y ∷ xs) (suc i) x lt = get-set-here xs i x (omega (arith, lt))

get-set-there : (xs : List ℕ) (i k x : ℕ) → (i ≡ k → ⊥) → slice_index_or (slice_set xs i x) k 0 ≡ slice_index_or xs k 0
get-set-there [] i k x other = refl
get-set-there (y ∷ xs) zero zero x other = absurd (other refl)
get-set-there (y ∷ xs) zero (suc k) x other = refl
get-set-there (y ∷ xs) (suc i) zero x other = refl
get-set-there (y ∷ xs) (suc i) (suc k) x other = get-set-there xs i k x (λ e. other (ap suc e))

length-set : (xs : List ℕ) (i x : ℕ) → length (slice_set xs i x) ≡ length xs
length-set [] i x = refl
length-set (y ∷ xs) zero x = refl
length-set (y ∷ xs) (suc i) x = ap suc (length-set xs i x)

-- whether a vertex is counted at a location
abbrev counted : ℕ → ListedVertex → Bool
counted loc u = (u.symbol.loc == loc) && is_some u.symbol.fun

pub counted-few : (vs : List ListedVertex) (i loc : ℕ) → i ≤ length vs → functions_at (take i vs) loc ≤ i
counted-few vs i loc le = let few = count_by-le-length (counted loc) (take i vs) in let long = length-taken vs i in omega (arith, few, long)
  where
    length-taken : (xs : List ListedVertex) (n : ℕ) → length (take n xs) ≤ n
    length-taken [] zero = omega arith
    length-taken [] (suc n) = omega arith
    length-taken (x ∷ xs) zero = omega arith
    length-taken (x ∷ xs) (suc n) = let rest = length-taken xs n in omega (arith, rest)

pub counts-none : (vs : List ListedVertex) (locations : ℕ) → CountsFunctions (take 0 vs) locations (replicate locations 0)
counts-none vs locations = record { size = long 0 locations; each = λ loc lt. at_zero 0 locations loc ∙ sym (none vs loc) }
  where
    long : (z n : ℕ) → length (replicate n z) ≡ n
    long z zero = refl
    long z (suc n) = ap suc (long z n)

    at_zero : (z n k : ℕ) → slice_index_or (replicate n z) k z ≡ z
    at_zero z zero k = refl
    at_zero z (suc n) zero = refl
    at_zero z (suc n) (suc k) = at_zero z n k

    none : (xs : List ListedVertex) (loc : ℕ) → functions_at (take 0 xs) loc ≡ 0
    none [] loc = refl
    none (x ∷ xs) loc = refl

pub counts-next : (vs : List ListedVertex) (locations i : ℕ) (d : ListedVertex) (old new : List ℕ) → i < length vs → (get_or vs i d).symbol.loc < locations → CountsFunctions (take i vs) locations old →
    new ≡ cond (is_some (get_or vs i d).symbol.fun) (slice_set old (get_or vs i d).symbol.loc (slice_index_or old (get_or vs i d).symbol.loc 0 + 1)) old → CountsFunctions (take (i + 1) vs) locations new
counts-next vs locations i d old new lt within h is = by (is_some v.symbol.fun) refl is
  where
    v : ListedVertex
    v = get_or vs i d

    here : ℕ
    here = v.symbol.loc

    by : (b : Bool) → is_some v.symbol.fun ≡ b → new ≡ cond b (slice_set old here (slice_index_or old here 0 + 1)) old → CountsFunctions (take (i + 1) vs) locations new
    by false fun e = record {
      size = ap length e ∙ h.size;
      each = λ loc at_loc. ap (λ l. slice_index_or l loc 0) e ∙ h.each loc at_loc ∙ sym (count_by_more_no (counted loc) vs i d lt (un (v.symbol.loc == loc)));
    }
      where
        un : (a : Bool) → (a && is_some v.symbol.fun) ≡ false
        un true = fun
        un false = refl
    by true fun e = record {
      size = ap length e ∙ length-set old here (slice_index_or old here 0 + 1) ∙ h.size;
      each = λ loc at_loc. at-loc loc at_loc (v.symbol.loc == loc) refl;
    }
      where
        at-loc : (loc : ℕ) → loc < locations → (b : Bool) → (v.symbol.loc == loc) ≡ b → slice_index_or new loc 0 ≡ functions_at (take (i + 1) vs) loc
        at-loc loc lt_loc true same =
            let one : here ≡ loc = grind arith in
            let size = h.size in
            ap (λ l. slice_index_or l loc 0) e
            ∙ subst (λ k. slice_index_or (slice_set old here (slice_index_or old here 0 + 1)) k 0 ≡ slice_index_or old k 0 + 1) one (get-set-here old here (slice_index_or old here 0 + 1) (omega (arith, within, size)))
            ∙ ap (λ n. n + 1) (h.each loc lt_loc)
            ∙ sym (count_by_more_yes (counted loc) vs i d lt (ap (λ a. a && is_some v.symbol.fun) same ∙ fun))
        at-loc loc lt_loc false other =
            let apart : here ≡ loc → ⊥ = grind arith in
            ap (λ l. slice_index_or l loc 0) e ∙ get-set-there old here loc (slice_index_or old here 0 + 1) apart ∙ h.each loc lt_loc
            ∙ sym (count_by_more_no (counted loc) vs i d lt (ap (λ a. a && is_some v.symbol.fun) other))
