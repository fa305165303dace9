-- The plan of some groups in order is determined.
use Rattle.std.proofs.Common.{◌≡◌, ℕ, inl, inr, List, [], ◌∷◌, map, Contains, Option, None, Some, is_some, unwrap_or, slice_get, refl, sym, ◌∙◌, ap, ap₂, subst, arith}
use Rattle.merlin_model.specs.Networks.{Network, address_of, IsHost, IsNetwork}
use Rattle.merlin_model.specs.Machine.{first_of}
use Rattle.merlin_model.proofs.Ascending.{ascending-one}
use Rattle.merlin_model.proofs.Members.{In, in_from, in_to}
use Rattle.merlin_model.proofs.Traces.{Some-inj}
use Rattle.rules_model.specs.Products.{function_place, Vertex, loc_of, start_of, LeadsToEnd, WrittenWalk, IsWrittenWalk, FollowsIn, AllowsWalkIn, Group, AreWrittenWalks, FollowsAt, AllowsWalkAt, start_at, start_in, queue_in}
use Rattle.rules_model.specs.Tables.{TagKey, HasTag, Hop, IsHop, TableRow, HostPair, IsHostPair, IngressEntry, Plan, Cell, IsTableRow, IsIngressEntry, IsFirstHop, IsPlan, IsBelow, IsBelowKey, IsBelowRow, owned_by, IsInOrder, table_rules, table_processes}
use Rattle.rules_model.proofs.Uplinks.{one_from_host}
use Rattle.rules_model.proofs.Setting.{Setting, routing}
use Rattle.rules_model.proofs.Steps.{tag-same, row-one, hop-same}
use Rattle.rules_model.proofs.Trees.{tree-way, after-in}

-- Orders.

below-irreflexive : (x : ℕ × ℕ × ℕ) → ¬ IsBelow x x
below-irreflexive x (inl h) = omega arith
below-irreflexive x (inr (e, inl h)) = omega arith
below-irreflexive x (inr (e, inr (f, h))) = omega arith

below-transitive : (x y z : ℕ × ℕ × ℕ) → IsBelow x y → IsBelow y z → IsBelow x z
below-transitive x y z (inl a) (inl b) = inl (omega arith)
below-transitive x y z (inl a) (inr b) = inl (let e = b.0 in omega arith)
below-transitive x y z (inr a) (inl b) = inl (let e = a.0 in omega arith)
below-transitive x y z (inr (e, inl a)) (inr (f, inl b)) = inr (e ∙ f, inl (omega arith))
below-transitive x y z (inr (e, inl a)) (inr (f, inr b)) = inr (e ∙ f, inl (let g = b.0 in omega arith))
below-transitive x y z (inr (e, inr a)) (inr (f, inl b)) = inr (e ∙ f, inl (let g = a.0 in omega arith))
below-transitive x y z (inr (e, inr a)) (inr (f, inr b)) = inr (e ∙ f, inr (a.0 ∙ b.0, (let m = a.1 in let n = b.1 in omega arith)))

key-irreflexive : (x : TagKey) → ¬ IsBelowKey x x
key-irreflexive x = below-irreflexive (x.group, x.state, function_place x.fun)

key-transitive : (x y z : TagKey) → IsBelowKey x y → IsBelowKey y z → IsBelowKey x z
key-transitive x y z = below-transitive (x.group, x.state, function_place x.fun) (y.group, y.state, function_place y.fun) (z.group, z.state, function_place z.fun)

row-irreflexive : (x : TableRow) → ¬ IsBelowRow x x
row-irreflexive x = below-irreflexive (loc_of x.vertex, x.tag, x.dest)

row-transitive : (x y z : TableRow) → IsBelowRow x y → IsBelowRow y z → IsBelowRow x z
row-transitive x y z = below-transitive (loc_of x.vertex, x.tag, x.dest) (loc_of y.vertex, y.tag, y.dest) (loc_of z.vertex, z.tag, z.dest)

-- Lists.

abbrev tail_of : {X : Type 0} → List X → List X
tail_of [] = []
tail_of (x ∷ xs) = xs

cons-head : {X : Type 0} {x y : X} {xs ys : List X} → x ∷ xs ≡ y ∷ ys → x ≡ y
cons-head {x = x} e = ap (λ l. unwrap_or (first_of l) x) e

-- lists are equal where their images are, and elements with one image are
map-one : {X A : Type 0} (f : X → A) (xs ys : List X) → map f xs ≡ map f ys → ((x y : X) → In x xs → In y ys → f x ≡ f y → x ≡ y) → xs ≡ ys
map-one f [] [] e one = refl
map-one f [] (y ∷ ys) e one = cc
map-one f (x ∷ xs) [] e one = cc
map-one f (x ∷ xs) (y ∷ ys) e one = ap₂ (λ a b. a ∷ b) (one x y (inl refl) (inl refl) (cons-head e)) (map-one f xs ys (ap tail_of e) (λ a b i j. one a b (inr i) (inr j)))

-- What follows the start of a host shows that some walk is allowed.
module _ (net : Network) where
  way-inside : (a : _) (d : ℕ) (v : Vertex) (us : List Vertex) → LeadsToEnd net a d v us → (x : Vertex) → In x us → IsHost net (loc_of x) → ⊥
  way-inside a d v [] way x h host = absurd h
  way-inside a d v (u ∷ us) way x (inl e) host = way.0.inside (subst (λ y. IsHost net (loc_of y)) e host)
  way-inside a d v (u ∷ us) way x (inr h) host = way-inside a d u us way.1 x h host

  opens-in : (a : _) (o : Option WrittenWalk) → ((w : WrittenWalk) → o ≡ Some w → IsWrittenWalk net a w) → (s d : ℕ) (us : List Vertex) → IsHost net s → FollowsIn net a o d (start_of a s) us → AllowsWalkIn net a o s d
  opens-in a None ok s d us host h = (us, tree-way net a d (start_of a s) us h.tree)
  opens-in a (Some w) ok s d us host h = (by (after-in (start_of a w.source ∷ w.after) (start_of a s) us h.1), h.0)
    where
      by : In (start_of a s) (start_of a w.source ∷ w.after) → s ≡ w.source
      by (inl e) = ap loc_of e
      by (inr i) = absurd (way-inside a w.dest (start_of a w.source) w.after (ok w refl).way (start_of a s) i host)

  opens-at : (o : Option Group) → ((g : Group) (w : WrittenWalk) → o ≡ Some g → g.written ≡ Some w → IsWrittenWalk net g.automaton w) → (s d : ℕ) (us : List Vertex) → IsHost net s → FollowsAt net o d (start_at o s) us → AllowsWalkAt net o s d
  opens-at None ok s d us host h = absurd h
  opens-at (Some g) ok s d us host h = opens-in g.automaton g.written (λ w e. ok g w refl e) s d us host h

module _ (net : Network) (ok : IsNetwork net) (groups : List Group) (written_are : AreWrittenWalks net groups) (cells : ℕ → ℕ → List (Cell × ℕ)) where
  abbrev setting_of : (p : Plan) → IsPlan net groups p → Setting
  setting_of p is = record {
    net = net;
    network = ok;
    groups = groups;
    written_are = written_are;
    plan = p;
    plan_is = is;
    config = record { rules = table_rules net p; processes = table_processes net p; queues = []; hosts = [] };
    rules = refl;
    processes = refl;
  }

  tags-one : (p q : Plan) → IsInOrder net groups cells p → IsInOrder net groups cells q → p.tags ≡ q.tags
  tags-one p q a b = ascending-one IsBelowKey key-irreflexive key-transitive p.tags q.tags a.tags b.tags
      (λ k h. in_from q.tags k ((b.tags_are k).1 ((a.tags_are k).0 (in_to p.tags k h))))
      (λ k h. in_from p.tags k ((a.tags_are k).1 ((b.tags_are k).0 (in_to q.tags k h))))

  -- a row of one plan is a row by the tags of the other
  row-by : (p q : Plan) → p.tags ≡ q.tags → (row : TableRow) → IsTableRow net groups q row → IsTableRow net groups p row
  row-by p q e row r = record {
    after = r.after;
    followed = r.followed;
    outside = r.outside;
    tag = subst (λ t. HasTag t row.group row.vertex row.tag) (sym e) r.tag;
    address = r.address;
    dest = r.dest;
    eth = r.eth;
    hop = subst (λ t. IsHop net t row.group row.dest row.vertex r.after row.hop) (sym e) r.hop;
    queue = r.queue;
  }

  rows-in : (p q : Plan) → IsPlan net groups p → IsPlan net groups q → p.tags ≡ q.tags → (x : TableRow) → In x p.rows → In x q.rows
  rows-in p q ip iq e x i = subst (λ y. In y q.rows) (sym same) (in_from q.rows found.0 found.1)
    where
      rx : IsTableRow net groups p x
      rx = ip.rows_are x (in_to p.rows x i)

      found : (row : TableRow) × Contains q.rows row × (row.group ≡ x.group) × (row.dest ≡ x.dest) × (row.vertex ≡ x.vertex)
      found = iq.each_row x.group x.dest x.vertex rx.after rx.followed rx.outside

      ry : IsTableRow net groups p found.0
      ry = row-by p q e found.0 (iq.rows_are found.0 found.1)

      tag : x.tag ≡ found.0.tag
      tag = tag-same (setting_of p ip) x.group x.vertex x.tag found.0.tag rx.tag (subst (λ T. T) (λ j. HasTag p.tags (found.2 j) (found.4 j) found.0.tag) ry.tag)

      eth : x.eth ≡ found.0.eth
      eth = rx.eth ∙ ap (λ a. a.eth) (Some-inj (sym rx.dest ∙ ap (address_of net) (sym found.3) ∙ ry.dest)) ∙ sym ry.eth

      same : x ≡ found.0
      same = row-one (setting_of p ip) x found.0 rx ry (ap loc_of (sym found.4)) tag eth

  -- one first hop
  first-same : (p q : Plan) → IsPlan net groups p → p.tags ≡ q.tags → (g s d : ℕ) → IsHost net s → (x y : Option Hop) → IsFirstHop net groups p g s d x → IsFirstHop net groups q g s d y → x ≡ y
  first-same p q ip tags g s d host None None h k = refl
  first-same p q ip tags g s d host None (Some y) h k = absurd (h (opens-at net (slice_get groups g) (written_are g) s d (k.0 ∷ k.1) host k.2))
  first-same p q ip tags g s d host (Some x) None h k = absurd (k (opens-at net (slice_get groups g) (written_are g) s d (h.0 ∷ h.1) host h.2))
  first-same p q ip tags g s d host (Some x) (Some y) h k =
      let us : h.0 ∷ h.1 ≡ k.0 ∷ k.1 = (routing (setting_of p ip)).unique g d (start_in groups g s) (h.0 ∷ h.1) (k.0 ∷ k.1) h.2 k.2 in
      let hop : IsHop net p.tags g d h.0 h.1 y = subst (λ T. T) (λ i. IsHop net (sym tags i) g d (sym (cons-head us) i) (ap tail_of (sym us) i) y) k.3 in
      ap Some (hop-same (setting_of p ip) g d h.0 h.1 x y h.3 hop)

  pair-same : (x y : HostPair) → IsHostPair net x → IsHostPair net y → x.source ≡ y.source → x.dest ≡ y.dest → x ≡ y
  pair-same x y px py source dest = λ i. record { source = source i; dest = dest i; from = from i; to = to i; link = link i }
    where
      from : x.from ≡ y.from
      from = Some-inj (sym px.source ∙ ap (address_of net) source ∙ py.source)

      to : x.to ≡ y.to
      to = Some-inj (sym px.dest ∙ ap (address_of net) dest ∙ py.dest)

      link : x.link ≡ y.link
      link = one_from_host net ok x.link y.link px.present py.present (subst (IsHost net) (sym px.starts) (ap is_some px.source)) (px.starts ∙ source ∙ sym py.starts)

  pub entry-same : (p q : Plan) → IsPlan net groups p → p.tags ≡ q.tags → (x y : IngressEntry) → IsIngressEntry net groups p x → IsIngressEntry net groups q y → owned_by x ≡ owned_by y → x ≡ y
  entry-same p q ip tags x y ex ey same = λ i. record { pair = pair i; cell = (same i).cell; group = (same i).group; queue = queue i; hop = hop i }
    where
      pair : x.pair ≡ y.pair
      pair = pair-same x.pair y.pair ex.pair ey.pair (ap (λ o. o.source) same) (ap (λ o. o.dest) same)

      queue : x.queue ≡ y.queue
      queue = ex.queue ∙ ap (λ o. queue_in groups o.group) same ∙ sym ey.queue

      hop : x.hop ≡ y.hop
      hop = first-same p q ip tags x.group x.pair.source x.pair.dest (ap is_some ex.pair.source) x.hop y.hop ex.hop
          (subst (λ T. T) (λ i. IsFirstHop net groups q (sym same i).group (sym same i).source (sym same i).dest y.hop) ey.hop)

  pub plan-one : (p q : Plan) → IsPlan net groups p → IsPlan net groups q → IsInOrder net groups cells p → IsInOrder net groups cells q → p ≡ q
  plan-one p q ip iq a b = λ i. record { tags = tags i; rows = rows i; entries = entries i }
    where
      tags : p.tags ≡ q.tags
      tags = tags-one p q a b

      rows : p.rows ≡ q.rows
      rows = ascending-one IsBelowRow row-irreflexive row-transitive p.rows q.rows a.rows b.rows (rows-in p q ip iq tags) (rows-in q p iq ip (sym tags))

      entries : p.entries ≡ q.entries
      entries = map-one owned_by p.entries q.entries (a.entries ∙ sym b.entries)
          (λ x y i j same. entry-same p q ip tags x y (ip.entries_are x (in_to p.entries x i)) (iq.entries_are y (in_to q.entries y j)) same)
