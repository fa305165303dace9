-- Sink trees: what follows a vertex is one list, and no way to the end is shorter.
use Rattle.std.proofs.Common.{◌≡◌, ◌≢◌, ℕ, suc, ◌<◌, ◌≤◌, ◌⊎◌, inl, inr, List, [], ◌∷◌, ◌++◌, length, Option, None, Some, IsSome, MatchOption, slice_get, refl, sym, ◌∙◌, ap, ap₂, subst, arith}
use Rattle.std.specs.Bool.{⊤}
use Rattle.merlin_model.specs.declared.network.LocationKind.{LocationKind}
use Rattle.merlin_model.specs.Networks.{Network, kind_of, IsHost, address_at, Pairwise}
use Rattle.merlin_model.specs.Words.{at, IsSymbol, MayFollow}
use Rattle.rules_model.specs.Products.{SymbolAutomaton, Vertex, loc_of, start_of, IsEdge, LeadsToEnd, LeadsTo, function_place, IsUpTo, IsInTree, IsFollowedBy, WrittenWalk, IsWrittenWalk, FollowsIn, Group, AreWrittenWalks, FollowsAt, Follows}
use Rattle.merlin_model.proofs.Members.{In, all_in}

suc-zero : (n : ℕ) → suc n ≡ 0 → ⊥
suc-zero n e = omega arith

place-inj : (a b : Option ℕ) → function_place a ≡ function_place b → a ≡ b
place-inj None None e = refl
place-inj None (Some n) e = absurd (suc-zero n (sym e))
place-inj (Some m) None e = absurd (suc-zero m e)
place-inj (Some m) (Some n) e = let same : m ≡ n = omega arith in ap Some same

vertex-path : (u v : Vertex) → loc_of u ≡ loc_of v → function_place u.symbol.fun ≡ function_place v.symbol.fun → u.state ≡ v.state → u ≡ v
vertex-path u v loc place state = let fun : u.symbol.fun ≡ v.symbol.fun = place-inj u.symbol.fun v.symbol.fun place in
    λ i. record { symbol = record { loc = loc i; fun = fun i }; state = state i }

-- each of two vertices up to the other: they are one
pub one_vertex : (u v : Vertex) → IsUpTo u v → IsUpTo v u → u ≡ v
one_vertex u v (inl a) (inl b) = let no_way : ⊥ = omega arith in absurd no_way
one_vertex u v (inl a) (inr b) = let e = b.0 in let no_way : ⊥ = omega arith in absurd no_way
one_vertex u v (inr a) (inl b) = let e = a.0 in let no_way : ⊥ = omega arith in absurd no_way
one_vertex u v (inr a) (inr b) = by a.1 b.1
  where
    abbrev_none : ⊥ → u ≡ v
    abbrev_none x = absurd x

    by : (function_place u.symbol.fun < function_place v.symbol.fun) ⊎ ((function_place u.symbol.fun ≡ function_place v.symbol.fun) × (u.state ≤ v.state)) →
        (function_place v.symbol.fun < function_place u.symbol.fun) ⊎ ((function_place v.symbol.fun ≡ function_place u.symbol.fun) × (v.state ≤ u.state)) → u ≡ v
    by (inl x) (inl y) = let no_way : ⊥ = omega arith in abbrev_none no_way
    by (inl x) (inr y) = let e = y.0 in let no_way : ⊥ = omega arith in abbrev_none no_way
    by (inr x) (inl y) = let e = x.0 in let no_way : ⊥ = omega arith in abbrev_none no_way
    by (inr x) (inr y) = let p = x.1 in let q = y.1 in let state : u.state ≡ v.state = omega arith in vertex-path u v a.0 x.0 state

module _ (net : Network) (a : SymbolAutomaton) (d : ℕ) where
  pub tree-way : (v : Vertex) (us : List Vertex) → IsInTree net a d v us → LeadsToEnd net a d v us
  tree-way v [] h = h
  tree-way v (u ∷ us) h = (h.0.edge, tree-way u us h.1)

  -- no way is shorter
  pub tree-shortest : (v : Vertex) (us other : List Vertex) → IsInTree net a d v us → LeadsToEnd net a d v other → length us ≤ length other
  tree-shortest v [] other h w = omega arith
  tree-shortest v (u ∷ us) [] h w = absurd (h.0.not_end w)
  tree-shortest v (u ∷ us) (x ∷ xs) h w = let s = h.0.fewest x xs w.0 w.1 in omega arith

  pub tree-unique : (v : Vertex) (us vs : List Vertex) → IsInTree net a d v us → IsInTree net a d v vs → us ≡ vs
  tree-unique v [] [] h k = refl
  tree-unique v [] (w ∷ ws) h k = absurd (k.0.not_end h)
  tree-unique v (u ∷ us) [] h k = absurd (h.0.not_end k)
  tree-unique v (u ∷ us) (w ∷ ws) h k =
      let less = h.0.fewest w ws k.0.edge (tree-way w ws k.1) in
      let more = k.0.fewest u us h.0.edge (tree-way u us h.1) in
      let same_length : length ws ≡ length us = omega arith in
      let same : u ≡ w = one_vertex u w (h.0.least w ws k.0.edge (tree-way w ws k.1) same_length) (k.0.least u us h.0.edge (tree-way u us h.1) (sym same_length)) in
      ap₂ (λ x xs. x ∷ xs) same (tree-unique w us ws (subst (λ x. IsInTree net a d x us) same h.1) k.1)

pub leads-on : (net : Network) (a : SymbolAutomaton) (v : Vertex) (path : List Vertex) (u w : Vertex) → LeadsTo net a v path u → IsEdge net a u w → LeadsTo net a v (path ++ w ∷ []) w
leads-on net a v [] u w h e = (subst (λ x. IsEdge net a x w) (sym h) e, refl)
leads-on net a v (x ∷ path) u w h e = (h.0, leads-on net a x path u w h.1 e)

leads-symbol : (net : Network) (a : SymbolAutomaton) (v : Vertex) (path : List Vertex) (u : Vertex) → IsSymbol net v.symbol → LeadsTo net a v path u → IsSymbol net u.symbol
leads-symbol net a v [] u s h = subst (λ x. IsSymbol net x.symbol) h s
leads-symbol net a v (x ∷ path) u s h = leads-symbol net a x path u h.0.symbol h.1

pub host_symbol : (net : Network) (h : ℕ) → IsHost net h → IsSymbol net (at h)
host_symbol net h host = by (kind_of net h) host
  where
    by : (o : Option LocationKind) → IsSome (address_at o) → MatchOption o ⊥ (λ _. ⊤)
    by None n = let no_way : ⊥ = cc in absurd no_way
    by (Some l) n = tt

-- Written walks.

pub after-in : (xs : List Vertex) (v : Vertex) (us : List Vertex) → IsFollowedBy xs v us → In v xs
after-in [] v us h = absurd h
after-in (x ∷ xs) v us (inl h) = inl h.0
after-in (x ∷ xs) v us (inr h) = inr (after-in xs v us h)

pub after-unique : (xs : List Vertex) (v : Vertex) (us vs : List Vertex) → Pairwise (λ u v. u ≢ v) xs → IsFollowedBy xs v us → IsFollowedBy xs v vs → us ≡ vs
after-unique [] v us vs p h k = absurd h
after-unique (x ∷ xs) v us vs p (inl h) (inl k) = h.1 ∙ sym k.1
after-unique (x ∷ xs) v us vs p (inl h) (inr k) = absurd (all_in (λ u. x ≢ u) xs v p.0 (after-in xs v vs k) (sym h.0))
after-unique (x ∷ xs) v us vs p (inr h) (inl k) = absurd (all_in (λ u. x ≢ u) xs v p.0 (after-in xs v us h) (sym k.0))
after-unique (x ∷ xs) v us vs p (inr h) (inr k) = after-unique xs v us vs p.1 h k

after-on : (xs : List Vertex) (v u : Vertex) (us : List Vertex) → IsFollowedBy xs v (u ∷ us) → IsFollowedBy xs u us
after-on [] v u us h = absurd h
after-on (x ∷ xs) v u us (inl h) = inr (subst (λ ys. IsFollowedBy ys u us) h.1 (inl (refl, refl)))
after-on (x ∷ xs) v u us (inr h) = inr (after-on xs v u us h)

after-way : (net : Network) (a : SymbolAutomaton) (d : ℕ) (x : Vertex) (xs : List Vertex) (v : Vertex) (us : List Vertex) → IsSymbol net x.symbol → LeadsToEnd net a d x xs → IsFollowedBy (x ∷ xs) v us → IsSymbol net v.symbol × LeadsToEnd net a d v us
after-way net a d x xs v us s way (inl h) = (subst (λ y. IsSymbol net y.symbol) (sym h.0) s, subst (λ T. T) (λ i. LeadsToEnd net a d (sym h.0 i) (sym h.1 i)) way)
after-way net a d x [] v us s way (inr h) = absurd h
after-way net a d x (y ∷ ys) v us s way (inr h) = after-way net a d y ys v us way.0.symbol way.1 h

module _ (net : Network) (a : SymbolAutomaton) where
  abbrev OkIn : Option WrittenWalk → Type 0
  OkIn o = (w : WrittenWalk) → o ≡ Some w → IsWrittenWalk net a w

  in-unique : (o : Option WrittenWalk) → OkIn o → (d : ℕ) (v : Vertex) (us vs : List Vertex) → FollowsIn net a o d v us → FollowsIn net a o d v vs → us ≡ vs
  in-unique None k d v us vs h j = tree-unique net a d v us vs h.tree j.tree
  in-unique (Some w) k d v us vs h j = after-unique (start_of a w.source ∷ w.after) v us vs (k w refl).different h.1 j.1

  in-goes_on : (o : Option WrittenWalk) → OkIn o → (d : ℕ) (v u : Vertex) (us : List Vertex) → FollowsIn net a o d v (u ∷ us) → FollowsIn net a o d u us
  in-goes_on None k d v u us h = record {
    source = h.source;
    host = h.host;
    dest_host = h.dest_host;
    other = h.other;
    path = h.path ++ u ∷ [];
    reached = leads-on net a (start_of a h.source) h.path v u h.reached h.tree.0.edge;
    tree = h.tree.1;
  }
  in-goes_on (Some w) k d v u us h = (h.0, after-on (start_of a w.source ∷ w.after) v u us h.1)

  in-way : (o : Option WrittenWalk) → OkIn o → (d : ℕ) (v : Vertex) (us : List Vertex) → FollowsIn net a o d v us → IsSymbol net v.symbol × LeadsToEnd net a d v us × IsHost net d
  in-way None k d v us h = (leads-symbol net a (start_of a h.source) h.path v (host_symbol net h.source h.host) h.reached, tree-way net a d v us h.tree, h.dest_host)
  in-way (Some w) k d v us h =
      let ok : IsWrittenWalk net a w = k w refl in
      let way = after-way net a w.dest (start_of a w.source) w.after v us (host_symbol net w.source ok.source) ok.way h.1 in
      (way.0, subst (λ e. LeadsToEnd net a e v us) (sym h.0) way.1, subst (IsHost net) (sym h.0) ok.dest)

module _ (net : Network) where
  abbrev OkAt : Option Group → Type 0
  OkAt o = (g : Group) (w : WrittenWalk) → o ≡ Some g → g.written ≡ Some w → IsWrittenWalk net g.automaton w

  at-unique : (o : Option Group) → OkAt o → (d : ℕ) (v : Vertex) (us vs : List Vertex) → FollowsAt net o d v us → FollowsAt net o d v vs → us ≡ vs
  at-unique None k d v us vs h j = absurd h
  at-unique (Some g) k d v us vs h j = in-unique net g.automaton g.written (λ w e. k g w refl e) d v us vs h j

  at-goes_on : (o : Option Group) → OkAt o → (d : ℕ) (v u : Vertex) (us : List Vertex) → FollowsAt net o d v (u ∷ us) → FollowsAt net o d u us
  at-goes_on None k d v u us h = h
  at-goes_on (Some g) k d v u us h = in-goes_on net g.automaton g.written (λ w e. k g w refl e) d v u us h

  at-symbol : (o : Option Group) → OkAt o → (d : ℕ) (v : Vertex) (us : List Vertex) → FollowsAt net o d v us → IsSymbol net v.symbol × IsHost net d
  at-symbol None k d v us h = absurd h
  at-symbol (Some g) k d v us h = let x = in-way net g.automaton g.written (λ w e. k g w refl e) d v us h in (x.0, x.2)

  at-edge : (o : Option Group) → OkAt o → (d : ℕ) (v u : Vertex) (us : List Vertex) → FollowsAt net o d v (u ∷ us) → MayFollow net (v.symbol, u.symbol) × (¬ IsHost net (loc_of u))
  at-edge None k d v u us h = absurd h
  at-edge (Some g) k d v u us h = let x = in-way net g.automaton g.written (λ w e. k g w refl e) d v (u ∷ us) h in (x.1.0.follows, x.1.0.inside)

-- What the tables lean on, for sink trees and for written walks: what follows a vertex is one list, what follows the next
-- vertex is the rest of it, and it is a way through the network to host d.
pub record IsRouting (net : Network) (groups : List Group) : Type 0 where
  pub unique : (g d : ℕ) (v : Vertex) (us vs : List Vertex) → Follows net groups g d v us → Follows net groups g d v vs → us ≡ vs
  pub goes_on : (g d : ℕ) (v u : Vertex) (us : List Vertex) → Follows net groups g d v (u ∷ us) → Follows net groups g d u us
  pub follows : (g d : ℕ) (v u : Vertex) (us : List Vertex) → Follows net groups g d v (u ∷ us) → MayFollow net (v.symbol, u.symbol)
  pub inside : (g d : ℕ) (v u : Vertex) (us : List Vertex) → Follows net groups g d v (u ∷ us) → ¬ IsHost net (loc_of u)
  pub symbol : (g d : ℕ) (v : Vertex) (us : List Vertex) → Follows net groups g d v us → IsSymbol net v.symbol
  pub dest : (g d : ℕ) (v : Vertex) (us : List Vertex) → Follows net groups g d v us → IsHost net d

pub group_routing : (net : Network) (groups : List Group) → AreWrittenWalks net groups → IsRouting net groups
group_routing net groups k = record {
  unique = λ g d v us vs h j. at-unique net (slice_get groups g) (k g) d v us vs h j;
  goes_on = λ g d v u us h. at-goes_on net (slice_get groups g) (k g) d v u us h;
  follows = λ g d v u us h. (at-edge net (slice_get groups g) (k g) d v u us h).0;
  inside = λ g d v u us h. (at-edge net (slice_get groups g) (k g) d v u us h).1;
  symbol = λ g d v us h. (at-symbol net (slice_get groups g) (k g) d v us h).0;
  dest = λ g d v us h. (at-symbol net (slice_get groups g) (k g) d v us h).1;
}
