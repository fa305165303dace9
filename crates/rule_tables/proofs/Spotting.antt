-- The rows of spots: which there are, and how two of them differ.
use Rattle.std.proofs.Common.{◌≡◌, ◌≢◌, ℕ, zero, suc, ◌<◌, ◌≤◌, ◌+◌, ◌⊎◌, inl, inr, List, [], ◌∷◌, ◌++◌, append_assoc, append-nil, length, take, get_or, add-one, map, Some, slice_get, refl, sym, ◌∙◌, ap, subst, add-zero, arith}
use Rattle.std.specs.List.{AllByRecursion, flat_map}
use Rattle.std.proofs.lemmas.List.{take_more}
use Rattle.std.proofs.lemmas.List.Concat.{flat_map-append}
use Rattle.merlin_model.specs.Networks.{Network, IsHost, Pairwise}
use Rattle.merlin_model.proofs.Members.{In, in_to, all_in, in_append, in_append-left, in_append-right, in_map, map_in, in_flat_map, flat_map_in}
use Rattle.rules_model.specs.Products.{Vertex, loc_of, Group}
use Rattle.rules_model.specs.Tables.{tag_key_of}
use Rattle.rules_model.proofs.Pieces.{all-from}
use Rattle.product_graph.specs.Products.{vertex_of}
use Rattle.rule_tables.specs.declared.branches.TagKey.{TagKey as ListedKey}
use Rattle.rule_tables.specs.declared.branches.Step.{Step}
use Rattle.rule_tables.specs.declared.branches.Branch.{Branch}
use Rattle.rule_tables.specs.declared.branches.GroupBranches.{GroupBranches}
use Rattle.rule_tables.specs.declared.rows.Row.{Row}
use Rattle.rule_tables.specs.Branches.{key_of, vertex_in, vertex_at, IsBranch, AreGroupBranches}
use Rattle.rule_tables.specs.Rows.{Spot, IsRowOf, AreSpotRows, AddsRows, spots_of_branch, spots_of_group, spots_from}

some-same : {X : Type 0} {a b : X} → Some a ≡ Some b → a ≡ b
some-same e = cc

-- Lists in order.

pub append-up : {X : Type 0} (R : X → X → Type 0) (xs ys : List X) → Pairwise R xs → Pairwise R ys → ((x y : X) → In x xs → In y ys → R x y) → Pairwise R (xs ++ ys)
append-up R [] ys ux uy across = uy
append-up {X} R (x ∷ xs) ys ux uy across = (all xs (λ z i. all_in (R x) xs z ux.0 i), append-up R xs ys ux.1 uy (λ a b i j. across a b (inr i) j))
  where
    all : (zs : List X) → ((z : X) → In z zs → R x z) → AllByRecursion (R x) (zs ++ ys)
    all [] h = all-from (R x) ys (λ y j. across x y (inl refl) j)
    all (z ∷ zs) h = (h z (inl refl), all zs (λ w i. h w (inr i)))

-- pieces that ascend each, and one after the other
pub pieces-up : {X A : Type 0} (R : X → X → Type 0) (S : A → A → Type 0) (f : X → List A) (xs : List X) → Pairwise R xs → ((x : X) → In x xs → Pairwise S (f x)) →
    ((x y : X) (a b : A) → R x y → In a (f x) → In b (f y) → S a b) → Pairwise S (flat_map f xs)
pieces-up R S f [] up each across = tt
pieces-up R S f (x ∷ xs) up each across = append-up S (f x) (flat_map f xs) (each x (inl refl)) (pieces-up R S f xs up.1 (λ y i. each y (inr i)) across)
    (λ a b i j. let m = in_flat_map f xs b j in across x m.0 a b (all_in (R x) xs m.0 up.0 m.1) i m.2)

pub map-up : {X A B : Type 0} (R : A → A → Type 0) (S : B → B → Type 0) (f : X → A) (g : X → B) (xs : List X) → ((x y : X) → R (f x) (f y) → S (g x) (g y)) → Pairwise R (map f xs) → Pairwise S (map g xs)
map-up R S f g [] keeps up = tt
map-up {X} R S f g (x ∷ xs) keeps up = (all xs up.0, map-up R S f g xs keeps up.1)
  where
    all : (ys : List X) → AllByRecursion (R (f x)) (map f ys) → AllByRecursion (S (g x)) (map g ys)
    all [] h = tt
    all (y ∷ ys) h = (keeps x y h.0, all ys h.1)

-- two that stand in the list one after the other
pub upgrade : {X : Type 0} (R S : X → X → Type 0) (xs : List X) → ((x y : X) → In x xs → In y xs → R x y → S x y) → Pairwise R xs → Pairwise S xs
upgrade R S [] keeps up = tt
upgrade R S (x ∷ xs) keeps up = (all-from (S x) xs (λ y i. keeps x y (inl refl) (inr i) (all_in (R x) xs y up.0 i)), upgrade R S xs (λ y z i j. keeps y z (inr i) (inr j)) up.1)

-- Spots.

-- the one spot comes before the other, or differs from it in the vertex
abbrev pub Apart : Spot → Spot → Type 0
Apart a b = (a.0 < b.0) ⊎ ((a.0 ≡ b.0) × ((a.1 < b.1) ⊎ ((a.1 ≡ b.1) × (a.2 ≢ b.2))))

branch-group : (g : ℕ) (branch : Branch) (spot : Spot) → In spot (spots_of_branch g branch) → (spot.0 ≡ g) × (spot.1 ≡ branch.dest)
branch-group g branch spot i = let m = in_map (λ step. (g, branch.dest, vertex_in step)) branch.steps spot i in (ap (λ s. s.0) m.2, ap (λ s. s.1) m.2)

group-group : (g : ℕ) (group : GroupBranches) (spot : Spot) → In spot (spots_of_group g group) → spot.0 ≡ g
group-group g group spot i = let m = in_flat_map (spots_of_branch g) group.branches spot i in (branch-group g m.0 spot m.2).0

from-group : (g : ℕ) (groups : List GroupBranches) (spot : Spot) → In spot (spots_from g groups) → g ≤ spot.0
from-group g [] spot i = absurd i
from-group g (group ∷ groups) spot i = by (in_append (spots_of_group g group) (spots_from (suc g) groups) spot i) (from-group (suc g) groups spot)
  where
    by : In spot (spots_of_group g group) ⊎ In spot (spots_from (suc g) groups) → (In spot (spots_from (suc g) groups) → suc g ≤ spot.0) → g ≤ spot.0
    by (inl j) ih = let e = group-group g group spot j in omega arith
    by (inr j) ih = let le = ih j in omega arith

-- with one tag, at one location, the row is for an earlier destination
abbrev pub IsLater : Row → Row → Type 0
IsLater r s = r.tag ≡ s.tag → r.vertex.symbol.loc ≡ s.vertex.symbol.loc → r.dest < s.dest

module _ (net : Network) (of : List Group) where
  branch-apart : (g : ℕ) (branch : Branch) → IsBranch net of g branch → Pairwise Apart (spots_of_branch g branch)
  branch-apart g branch is = map-up (λ u v. u ≢ v) Apart vertex_in (λ step. (g, branch.dest, vertex_in step)) branch.steps (λ x y differ. inr (refl, inr (refl, differ))) is.differ

  group-apart : (g : ℕ) (group : GroupBranches) → AreGroupBranches net of g group → Pairwise Apart (spots_of_group g group)
  group-apart g group are = pieces-up (λ a b. a.dest < b.dest) Apart (spots_of_branch g) group.branches are.ascend
      (λ branch i. branch-apart g branch (are.each branch (in_to group.branches branch i)))
      (λ x y a b lt i j. let m = branch-group g x a i in let n = branch-group g y b j in inr (m.0 ∙ sym n.0, inl (subst (λ k. k < b.1) (sym m.1) (subst (λ k. x.dest < k) (sym n.1) lt))))

  pub all-apart : (g : ℕ) (groups : List GroupBranches) → ((i : ℕ) (group : GroupBranches) → slice_get groups i ≡ Some group → AreGroupBranches net of (g + i) group) → Pairwise Apart (spots_from g groups)
  all-apart g [] each = tt
  all-apart g (group ∷ groups) each =
      append-up Apart (spots_of_group g group) (spots_from (suc g) groups)
      (group-apart g group (subst (λ n. AreGroupBranches net of n group) (add-zero g) (each 0 group refl)))
      (all-apart (suc g) groups (λ i x e. subst (λ n. AreGroupBranches net of n x) (let s : g + suc i ≡ suc g + i = omega arith in s) (each (suc i) x e)))
      (λ a b i j. let e = group-group g group a i in let le = from-group (suc g) groups b j in inl (omega arith))

  -- each vertex of a branch has its spot
  pub spot-in : (g : ℕ) (groups : List GroupBranches) (i : ℕ) (group : GroupBranches) (branch : Branch) (v : Vertex) → slice_get groups i ≡ Some group → In branch group.branches → In v (map vertex_in branch.steps) → In (g + i, branch.dest, v) (spots_from g groups)
  spot-in g [] i group branch v e ib iv = let no_way : ⊥ = cc in absurd no_way
  spot-in g (x ∷ groups) zero group branch v e ib iv =
      in_append-left (spots_of_group g x) (spots_from (suc g) groups) (g + 0, branch.dest, v)
      (subst (λ n. In (n, branch.dest, v) (spots_of_group g x)) (sym (add-zero g))
      (subst (λ y. In (g, branch.dest, v) (spots_of_group g y)) (sym (some-same e))
      (flat_map_in (spots_of_branch g) group.branches branch (g, branch.dest, v) ib
      (let m = in_map vertex_in branch.steps v iv in
      subst (λ u. In (g, branch.dest, u) (spots_of_branch g branch)) (sym m.2) (map_in (λ step. (g, branch.dest, vertex_in step)) branch.steps m.0 m.1)))))
  spot-in g (x ∷ groups) (suc i) group branch v e ib iv =
      in_append-right (spots_of_group g x) (spots_from (suc g) groups) (g + suc i, branch.dest, v)
      (subst (λ n. In (n, branch.dest, v) (spots_from (suc g) groups)) (let s : suc g + i ≡ g + suc i = omega arith in s)
      (spot-in (suc g) groups i group branch v e ib iv))

  module _ (tags : List ListedKey) where
    abbrev Rows : List Spot → List Row → Type 0
    Rows spots rows = AreSpotRows net of tags spots rows

    abbrev RowOf : Spot → Row → Type 0
    RowOf spot row = IsRowOf net of tags spot row

    -- each row is that of a spot
    pub row-spot : (spots : List Spot) (rows : List Row) → Rows spots rows → (row : Row) → In row rows → (spot : Spot) × In spot spots × RowOf spot row
    row-spot [] rows are row i = absurd (subst (In row) are i)
    row-spot (spot ∷ spots) rows (inl h) row i = let m = row-spot spots rows h.1 row i in (m.0, inr m.1, m.2)
    row-spot (spot ∷ spots) rows (inr h) row i = by (subst (In row) h.2 i) (row-spot spots h.1 h.4 row)
      where
        by : In row (h.0 ∷ h.1) → (In row h.1 → (s : Spot) × In s spots × RowOf s row) → (s : Spot) × In s (spot ∷ spots) × RowOf s row
        by (inl e) ih = (spot, inl refl, subst (RowOf spot) (sym e) h.3)
        by (inr j) ih = let m = ih j in (m.0, inr m.1, m.2)

    -- each spot at no host has its row
    pub spot-row : (spots : List Spot) (rows : List Row) → Rows spots rows → (spot : Spot) → In spot spots → (¬ IsHost net (loc_of spot.2)) → (row : Row) × In row rows × RowOf spot row
    spot-row [] rows are spot i outside = absurd i
    spot-row (x ∷ spots) rows (inl h) spot (inl e) outside = absurd (outside (subst (λ s. IsHost net (loc_of s.2)) (sym e) h.0))
    spot-row (x ∷ spots) rows (inl h) spot (inr i) outside = spot-row spots rows h.1 spot i outside
    spot-row (x ∷ spots) rows (inr h) spot (inl e) outside = (h.0, subst (In h.0) (sym h.2) (inl refl), subst (λ s. RowOf s h.0) (sym e) h.3)
    spot-row (x ∷ spots) rows (inr h) spot (inr i) outside = let m = spot-row spots h.1 h.4 spot i outside in (m.0, subst (In m.0) (sym h.2) (inr m.1), m.2)

    -- rows of two spots with one tag, at one location, have different destinations
    tag-below : (a b : Spot) (r s : Row) → RowOf a r → RowOf b s → Apart a b → r.tag ≡ s.tag → r.vertex.symbol.loc ≡ s.vertex.symbol.loc → r.dest < s.dest
    tag-below a b r s ra rb apart tag loc = by apart
      where
        place : ra.is.tag.0 ≡ rb.is.tag.0
        place = let m = ra.is.tag.2 in let n = rb.is.tag.2 in omega arith

        key : tag_key_of r.group (vertex_of r.vertex) ≡ tag_key_of s.group (vertex_of s.vertex)
        key = some-same (sym ra.is.tag.1 ∙ ap (slice_get (map key_of tags)) place ∙ rb.is.tag.1)

        vertex : vertex_of r.vertex ≡ vertex_of s.vertex
        vertex = λ i. record { symbol = record { loc = loc i; fun = (key i).fun }; state = (key i).state }

        group : a.0 ≡ b.0
        group = sym ra.group ∙ ap (λ k. k.group) key ∙ rb.group

        lower : a.1 < b.1 → r.dest < s.dest
        lower lt = subst (λ k. k < s.dest) (sym ra.dest) (subst (λ k. a.1 < k) (sym rb.dest) lt)

        by : Apart a b → r.dest < s.dest
        by (inl lt) = let e = group in let no_way : ⊥ = omega arith in absurd no_way
        by (inr h) = on h.1
          where
            on : (a.1 < b.1) ⊎ ((a.1 ≡ b.1) × (a.2 ≢ b.2)) → r.dest < s.dest
            on (inl lt) = lower lt
            on (inr k) = absurd (k.1 (sym ra.vertex ∙ vertex ∙ rb.vertex))

    pub rows-later : (spots : List Spot) (rows : List Row) → Pairwise Apart spots → Rows spots rows → Pairwise IsLater rows
    rows-later [] rows up are = subst (Pairwise IsLater) (sym are) tt
    rows-later (spot ∷ spots) rows up (inl h) = rows-later spots rows up.1 h.1
    rows-later (spot ∷ spots) rows up (inr h) = subst (Pairwise IsLater) (sym h.2)
        (all-from (IsLater h.0) h.1 (λ s i. let m = row-spot spots h.1 h.4 s i in tag-below spot m.0 h.0 s h.3 m.2 (all_in (Apart spot) spots m.0 up.0 m.1)), rows-later spots h.1 up.1 h.4)

    -- Rows that are added.

    pub rows-append : (xs ys : List Spot) (rows more : List Row) → Rows xs rows → Rows ys more → Rows (xs ++ ys) (rows ++ more)
    rows-append [] ys rows more h k = subst (λ r. Rows ys (r ++ more)) (sym h) k
    rows-append (x ∷ xs) ys rows more (inl h) k = inl (h.0, rows-append xs ys rows more h.1 k)
    rows-append (x ∷ xs) ys rows more (inr h) k = inr (h.0, h.1 ++ more, ap (λ r. r ++ more) h.2, h.3, rows-append xs ys h.1 more h.4 k)

    pub adds-none : (old : List Row) → AddsRows net of tags [] old old
    adds-none old = ([], sym (append-nil old), refl)

    pub adds-more : (xs ys : List Spot) (old mid new : List Row) → AddsRows net of tags xs old mid → AddsRows net of tags ys mid new → AddsRows net of tags (xs ++ ys) old new
    adds-more xs ys old mid new h k =
        (h.0 ++ k.0, k.1 ∙ ap (λ m. m ++ k.0) h.1 ∙ append_assoc old h.0 k.0, rows-append xs ys h.0 k.0 h.2 k.2)

    pub adds-row : (spot : Spot) (old new : List Row) (row : Row) → new ≡ old ++ row ∷ [] → RowOf spot row → AddsRows net of tags (spot ∷ []) old new
    adds-row spot old new row e is = (row ∷ [], e, inr (row, [], refl, is, refl))

    pub adds-host : (spot : Spot) (old new : List Row) → new ≡ old → IsHost net (loc_of spot.2) → AddsRows net of tags (spot ∷ []) old new
    adds-host spot old new e host = ([], e ∙ sym (append-nil old), inl (host, refl))

-- the spots of one more step
take-map : {X Y : Type 0} (f : X → Y) (xs : List X) (i : ℕ) (d : X) → i < length xs → take (suc i) (map f xs) ≡ take i (map f xs) ++ f (get_or xs i d) ∷ []
take-map f [] i d lt = let no_way : ⊥ = omega arith in absurd no_way
take-map f (x ∷ xs) zero d lt = refl
take-map f (x ∷ xs) (suc i) d lt = ap (λ ys. f x ∷ ys) (take-map f xs i d (omega arith))

pub spots-next : (g : ℕ) (branch : Branch) (i : ℕ) (d : Step) → i < length branch.steps → take (i + 1) (spots_of_branch g branch) ≡ take i (spots_of_branch g branch) ++ (g, branch.dest, vertex_in (get_or branch.steps i d)) ∷ []
spots-next g branch i d lt = ap (λ n. take n (spots_of_branch g branch)) (add-one i) ∙ take-map (λ step. (g, branch.dest, vertex_in step)) branch.steps i d lt

pub vertex-next : (steps : List Step) (i : ℕ) (d : Step) → i < length steps → vertex_at steps i ≡ Some (vertex_in (get_or steps i d))
vertex-next [] i d lt = let no_way : ⊥ = omega arith in absurd no_way
vertex-next (x ∷ xs) zero d lt = refl
vertex-next (x ∷ xs) (suc i) d lt = vertex-next xs i d (omega arith)

-- the spots of one more branch, and of one more group
pub branches-next : (g : ℕ) (branches : List Branch) (i : ℕ) (d : Branch) → i < length branches → flat_map (spots_of_branch g) (take (i + 1) branches) ≡ flat_map (spots_of_branch g) (take i branches) ++ spots_of_branch g (get_or branches i d)
branches-next g branches i d lt =
    ap (flat_map (spots_of_branch g)) (take_more branches i d lt)
    ∙ flat_map-append (spots_of_branch g) (take i branches) (get_or branches i d ∷ [])
    ∙ ap (λ ys. flat_map (spots_of_branch g) (take i branches) ++ ys) (append-nil (spots_of_branch g (get_or branches i d)))

pub groups-next : (g : ℕ) (groups : List GroupBranches) (i : ℕ) (d : GroupBranches) → i < length groups → spots_from g (take (suc i) groups) ≡ spots_from g (take i groups) ++ spots_of_group (g + i) (get_or groups i d)
groups-next g [] i d lt = let no_way : ⊥ = omega arith in absurd no_way
groups-next g (x ∷ xs) zero d lt = append-nil (spots_of_group g x) ∙ ap (λ n. spots_of_group n x) (sym (add-zero g))
groups-next g (x ∷ xs) (suc i) d lt =
    ap (λ ys. spots_of_group g x ++ ys) (groups-next (suc g) xs i d (omega arith) ∙ ap (λ n. spots_from (suc g) (take i xs) ++ spots_of_group n (get_or xs i d)) (let e : suc g + i ≡ g + suc i = omega arith in e))
    ∙ sym (append_assoc (spots_of_group g x) (spots_from (suc g) (take i xs)) (spots_of_group (g + suc i) (get_or xs i d)))
