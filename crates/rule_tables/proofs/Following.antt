-- What follows a vertex in a product: a link leads on, its vertices have tags, and those at hosts are starts.
use Rattle.std.proofs.Common.{◌≡◌, ◌≢◌, ℕ, ◌==◌, inl, inr, Bool, true, false, cond, List, [], ◌∷◌, map, Contains, Option, None, Some, slice_get, refl, sym, ◌∙◌, ap, subst}
use Rattle.std.proofs.lemmas.Bool.{eqb-true, eq-eqb}
use Rattle.merlin_model.specs.Networks.{Network, IsHost, IsSwitch, IsNetwork, AreLinked}
use Rattle.merlin_model.specs.Words.{at, MayFollow}
use Rattle.merlin_model.proofs.Members.{In}
use Rattle.rules_model.specs.Products.{SymbolAutomaton, Vertex, loc_of, start_of, LeadsToEnd, LeadsTo, IsFollowedBy, WrittenWalk, IsWrittenWalk, FollowsIn, IsVertexIn, Group, AreWrittenWalks, FollowsAt, IsVertexAt, start_at, start_in, Follows, IsVertex}
use Rattle.rules_model.specs.Tables.{tag_key_of, onward, onward_location}
use Rattle.rules_model.proofs.Trees.{tree-way, after-in, IsRouting, group_routing}
use Rattle.rules_model.proofs.Steps.{far_of_host}
use Rattle.rules_model.proofs.Uplinks.{switch-no_host}
use Rattle.rule_tables.specs.declared.branches.TagKey.{TagKey as ListedKey}
use Rattle.rule_tables.specs.Branches.{key_of}
use Rattle.rule_tables.specs.Hops.{IsTagged, CanHop}
use Rattle.rule_tables.specs.Rows.{IsReady}

module _ (net : Network) (a : SymbolAutomaton) (d : ℕ) where
  -- a vertex of a way is reached from its start, and leads to the end
  passing : (x : Vertex) (xs : List Vertex) (v : Vertex) (us : List Vertex) → LeadsToEnd net a d x xs → IsFollowedBy (x ∷ xs) v us → (before : List Vertex) × LeadsTo net a x before v × LeadsToEnd net a d v us
  passing x xs v us way (inl e) = ([], sym e.0, subst (λ T. T) (λ i. LeadsToEnd net a d (sym e.0 i) (sym e.1 i)) way)
  passing x [] v us way (inr h) = absurd h
  passing x (y ∷ ys) v us way (inr h) = let m = passing y ys v us way.1 h in (y ∷ m.0, (way.0, m.1), m.2)

  -- no vertex after the start is at a host
  way-inside : (x : Vertex) (xs : List Vertex) → LeadsToEnd net a d x xs → (v : Vertex) → In v xs → IsHost net (loc_of v) → ⊥
  way-inside x [] way v h host = h
  way-inside x (y ∷ ys) way v (inl e) host = way.0.inside (subst (λ z. IsHost net (loc_of z)) e host)
  way-inside x (y ∷ ys) way v (inr h) host = way-inside y ys way.1 v h host

reached-inside : (net : Network) (a : SymbolAutomaton) (x y : Vertex) (ys : List Vertex) (v : Vertex) → LeadsTo net a x (y ∷ ys) v → IsHost net (loc_of v) → ⊥
reached-inside net a x y [] v h host = h.0.inside (subst (λ z. IsHost net (loc_of z)) (sym h.1) host)
reached-inside net a x y (z ∷ zs) v h host = reached-inside net a y z zs v h.1 host

module _ (net : Network) (a : SymbolAutomaton) where
  abbrev AreOk : Option WrittenWalk → Type 0
  AreOk o = (w : WrittenWalk) → o ≡ Some w → IsWrittenWalk net a w

  in-way : (o : Option WrittenWalk) → AreOk o → (d : ℕ) (v : Vertex) (us : List Vertex) → FollowsIn net a o d v us → LeadsToEnd net a d v us
  in-way None k d v us h = tree-way net a d v us h.tree
  in-way (Some w) k d v us h = subst (λ e. LeadsToEnd net a e v us) (sym h.0) (passing net a w.dest (start_of a w.source) w.after v us (k w refl).way h.1).2

  in-vertex : (o : Option WrittenWalk) → AreOk o → (d : ℕ) (v : Vertex) (us : List Vertex) → FollowsIn net a o d v us → IsVertexIn net a o d v
  in-vertex None k d v us h = (h.source, h.host, h.dest_host, h.other, record { before = h.path; reached = h.reached; after = us; leads = tree-way net a d v us h.tree })
  in-vertex (Some w) k d v us h =
      let m = passing net a w.dest (start_of a w.source) w.after v us (k w refl).way h.1 in
      (h.0, record { before = m.0; reached = m.1; after = us; leads = subst (λ e. LeadsToEnd net a e v us) (sym h.0) m.2 })

  in-start : (o : Option WrittenWalk) → AreOk o → (d : ℕ) (v : Vertex) (us : List Vertex) → FollowsIn net a o d v us → IsHost net (loc_of v) → v ≡ start_of a (loc_of v)
  in-start None k d v us h host = by h.path h.reached
    where
      by : (path : List Vertex) → LeadsTo net a (start_of a h.source) path v → v ≡ start_of a (loc_of v)
      by [] e = sym e ∙ ap (λ x. start_of a (loc_of x)) e
      by (y ∷ ys) r = absurd (reached-inside net a (start_of a h.source) y ys v r host)
  in-start (Some w) k d v us h host = by (after-in (start_of a w.source ∷ w.after) v us h.1)
    where
      by : In v (start_of a w.source ∷ w.after) → v ≡ start_of a (loc_of v)
      by (inl e) = e ∙ ap (λ x. start_of a (loc_of x)) (sym e)
      by (inr i) = absurd (way-inside net a w.dest (start_of a w.source) w.after (k w refl).way v i host)

module _ (net : Network) where
  abbrev AreOkAt : Option Group → Type 0
  AreOkAt o = (g : Group) (w : WrittenWalk) → o ≡ Some g → g.written ≡ Some w → IsWrittenWalk net g.automaton w

  at-last : (o : Option Group) → AreOkAt o → (d : ℕ) (v : Vertex) → FollowsAt net o d v [] → MayFollow net (v.symbol, at d)
  at-last None k d v h = absurd h
  at-last (Some g) k d v h = (in-way net g.automaton g.written (λ w e. k g w refl e) d v [] h).follows

  at-vertex : (o : Option Group) → AreOkAt o → (d : ℕ) (v : Vertex) (us : List Vertex) → FollowsAt net o d v us → IsVertexAt net o d v
  at-vertex None k d v us h = h
  at-vertex (Some g) k d v us h = in-vertex net g.automaton g.written (λ w e. k g w refl e) d v us h

  at-start : (o : Option Group) → AreOkAt o → (d : ℕ) (v : Vertex) (us : List Vertex) → FollowsAt net o d v us → IsHost net (loc_of v) → v ≡ start_at o (loc_of v)
  at-start None k d v us h host = absurd h
  at-start (Some g) k d v us h host = in-start net g.automaton g.written (λ w e. k g w refl e) d v us h host

module _ (net : Network) (groups : List Group) (written_are : AreWrittenWalks net groups) where
  pub is-vertex : (g d : ℕ) (v : Vertex) (us : List Vertex) → Follows net groups g d v us → IsVertex net groups g d v
  is-vertex g d v us h = at-vertex net (slice_get groups g) (written_are g) d v us h

  -- a vertex at a host is the start there
  pub is-start : (g d : ℕ) (v : Vertex) (us : List Vertex) → Follows net groups g d v us → IsHost net (loc_of v) → v ≡ start_in groups g (loc_of v)
  is-start g d v us h host = at-start net (slice_get groups g) (written_are g) d v us h host

  routes : IsRouting net groups
  routes = group_routing net groups written_are

  -- the end doesn't follow a start at once
  pub start-not_last : IsNetwork net → (g d : ℕ) (v : Vertex) → Follows net groups g d v [] → IsHost net (loc_of v) → loc_of v ≢ d → ⊥
  start-not_last ok g d v h host other = by (at-last net (slice_get groups g) (written_are g) d v h)
    where
      by : MayFollow net (v.symbol, at d) → ⊥
      by (inl same) = other same
      by (inr linked) =
          switch-no_host net d (subst (IsSwitch net) linked.ends (far_of_host net ok linked.link linked.present (subst (IsHost net) (sym linked.starts) host)))
          (routes.dest g d v [] h)

  -- a link leads on from the location of a vertex
  leads-on : (g d l : ℕ) (v : Vertex) (us : List Vertex) → loc_of v ≡ l → (¬ IsHost net l) → Follows net groups g d v us → AreLinked net l (onward_location d (onward l us))
  leads-on g d l v [] here outside h = by (at-last net (slice_get groups g) (written_are g) d v h)
    where
      by : MayFollow net (v.symbol, at d) → AreLinked net l d
      by (inl same) = absurd (outside (subst (IsHost net) (sym same ∙ here) (routes.dest g d v [] h)))
      by (inr linked) = subst (λ k. AreLinked net k d) here linked
  leads-on g d l v (u ∷ us) here outside h = by (loc_of u == l) refl (λ same. leads-on g d l u us same outside (routes.goes_on g d v u us h))
    where
      on : (loc_of u == l) ≡ false → MayFollow net (v.symbol, u.symbol) → AreLinked net l (loc_of u)
      on e (inl same) = absurd (apart (sym e ∙ eq-eqb (loc_of u) l (sym same ∙ here)))
        where
          apart : false ≡ true → ⊥
          apart x = cc
      on e (inr linked) = subst (λ k. AreLinked net k (loc_of u)) here linked

      by : (b : Bool) → (loc_of u == l) ≡ b → (loc_of u ≡ l → AreLinked net l (onward_location d (onward l us))) → AreLinked net l (onward_location d (cond b (onward l us) (Some (u, us))))
      by true e ih = ih (eqb-true (loc_of u) l e)
      by false e ih = on e (routes.follows g d v u us h)

  module _ (tags : List ListedKey) (ready : IsReady net groups tags) where
    -- a vertex at no host has a tag
    pub has-tag : (g d : ℕ) (v : Vertex) (us : List Vertex) → Follows net groups g d v us → (¬ IsHost net (loc_of v)) → Contains (map key_of tags) (tag_key_of g v)
    has-tag g d v us h outside = (ready.are (tag_key_of g v)).1 (record { dest = d; vertex = v; stands = is-vertex g d v us h; outside = outside; is = refl })

    tags-on : (g d l : ℕ) (v : Vertex) (us : List Vertex) → Follows net groups g d v us → IsTagged (map key_of tags) g (onward l us)
    tags-on g d l v [] h = tt
    tags-on g d l v (u ∷ us) h = by (loc_of u == l) (tags-on g d l u us (routes.goes_on g d v u us h))
      where
        by : (b : Bool) → IsTagged (map key_of tags) g (onward l us) → IsTagged (map key_of tags) g (cond b (onward l us) (Some (u, us)))
        by true ih = ih
        by false ih = has-tag g d u us (routes.goes_on g d v u us h) (routes.inside g d v u us h)

    pub can-hop : (g d : ℕ) (v : Vertex) (us : List Vertex) → Follows net groups g d v us → (¬ IsHost net (loc_of v)) → CanHop net (map key_of tags) g d v us
    can-hop g d v us h outside = record {
      linked = leads-on g d (loc_of v) v us refl outside h;
      tagged = tags-on g d (loc_of v) v us h;
    }
