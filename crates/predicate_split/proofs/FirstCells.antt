-- The first cell that fits.
use Rattle.std.proofs.Common.{Option, None, Some, option_map, ◌≡◌, ◌<◌, ◌⊎◌, ◌^◌, ℕ, inl, inr, nat_lt, Bool, true, false, ◌&&◌, ◌==◌, cond, List, [], ◌∷◌, ◌++◌, map, find, refl, sym, ◌∙◌, ap, ap₂, subst, arith}
use Rattle.std.specs.List.{AllByRecursion, flat_map}
use Rattle.merlin_model.specs.declared.network.HostAddress.{HostAddress}
use Rattle.merlin_model.specs.declared.policy.Field.{Field}
use Rattle.merlin_model.specs.declared.policy.Field.TheVariants.{Proto, Sport, Dport}
use Rattle.merlin_model.specs.declared.policy.Pred.{Pred}
use Rattle.merlin_model.specs.Packets.{Packet, IsPacket}
use Rattle.merlin_model.specs.Predicates.{holds, IsPred}
use Rattle.merlin_model.proofs.Members.{In, in_append-left, in_append-right, in_map, map_in, in_flat_map, flat_map_in}
use Rattle.packet_model.specs.Fields.{has_ports}
use Rattle.predicate_logic.specs.Residues.{residues}
use Rattle.predicate_logic.specs.Mentions.{mentions, ascending}
use Rattle.predicate_logic.proofs.Placing.{ascending-pairwise}
use Rattle.predicate_split.specs.declared.pair_cells.Cell.{Cell}
use Rattle.predicate_split.specs.Parts.{least_from}
use Rattle.predicate_split.specs.Cells.{allows, cell_matches, owner_from, between_hosts, packet_between, protos, ports_under, value_of, packet_of_cell, choices, cell_of, cells_under, all_cells, cells_between}
use Rattle.predicate_split.proofs.PartLaws.{decide_in}
use Rattle.predicate_split.proofs.LeastNumbers.{least_from-least, least_from-out}
use Rattle.predicate_split.proofs.Owners.{GoesBetween, StandsFor, owner-alike, alike-between, alike-under, under-pass, unnamed-pass}

-- Searches in lists put together.

abbrev NoneFits : {X : Type 0} → (X → Bool) → List X → Type 0
NoneFits {X} t xs = (x : X) → In x xs → t x ≡ false

find_in : {X : Type 0} (t : X → Bool) (xs ys : List X) (G : X → Type 0) → ((c : X) → In c xs → t c ≡ true → G c) → (NoneFits t xs → (c : X) → find t ys ≡ Some c → G c) → (c : X) → find t (xs ++ ys) ≡ Some c → G c
find_in t [] ys G here there c e = there (λ x i. absurd i) c e
find_in {X} t (x ∷ xs) ys G here there c e = by (t x) refl e (λ none. find_in t xs ys G (λ d i. here d (inr i)) (λ rest. there (all none rest)) c)
  where
    all : t x ≡ false → NoneFits t xs → NoneFits t (x ∷ xs)
    all none rest d (inl same) = ap t same ∙ none
    all none rest d (inr i) = rest d i

    by : (b : Bool) → t x ≡ b → cond b (Some x) (find t (xs ++ ys)) ≡ Some c → (t x ≡ false → find t (xs ++ ys) ≡ Some c → G c) → G c
    by true d f later = let same : x ≡ c = cc in subst G same (here x (inl refl) d)
    by false d f later = later d f

find_some : {X : Type 0} (t : X → Bool) (xs : List X) (c : X) → In c xs → t c ≡ true → (d : X) × (find t xs ≡ Some d)
find_some t [] c i e = absurd i
find_some {X} t (x ∷ xs) c i e = by (t x) refl i (λ j. find_some t xs c j e)
  where
    by : (b : Bool) → t x ≡ b → In c (x ∷ xs) → (In c xs → (d : X) × (find t xs ≡ Some d)) → (d : X) × (cond b (Some x) (find t xs) ≡ Some d)
    by true h j later = (x, refl)
    by false h (inl same) later = let no : true ≡ false = sym e ∙ ap t same ∙ h in cc
    by false h (inr j) later = later j

found_in : {X : Type 0} (t : X → Bool) (xs : List X) (c : X) → find t xs ≡ Some c → In c xs
found_in t [] c e = cc
found_in {X} t (x ∷ xs) c e = by (t x) e (found_in t xs c)
  where
    by : (b : Bool) → cond b (Some x) (find t xs) ≡ Some c → (find t xs ≡ Some c → In c xs) → In c (x ∷ xs)
    by true f later = let same : x ≡ c = cc in inl (sym same)
    by false f later = inr (later f)

-- Stars and values.

pub star-is : (limit : ℕ) (ns : List ℕ) (a : Option ℕ) → In a (choices false limit ns) → a ≡ None
star-is limit ns a i = by (nat_lt (least_from 0 ns) limit) i
  where
    by : (b : Bool) → In a (cond b (None ∷ []) []) → a ≡ None
    by true (inl e) = e
    by true (inr j) = absurd j
    by false j = absurd j

abbrev star : Option ℕ
star = None

star-in : (limit v : ℕ) (ns : List ℕ) → v < limit → (¬ In v ns) → In star (choices false limit ns)
star-in limit v ns lt out = by (nat_lt (least_from 0 ns) limit) refl
  where
    by : (b : Bool) → nat_lt (least_from 0 ns) limit ≡ b → In star (cond b (star ∷ []) [])
    by true e = inl refl
    by false e = let le = least_from-least 0 v ns (omega arith) out in absurd (grind (arith, e, le, lt))

eq_true : (m n : ℕ) → (m == n) ≡ true → m ≡ n
eq_true m n e = grind (arith, e)

eq_refl : (n : ℕ) → (n == n) ≡ true
eq_refl n = grind arith

and_left : (a b : Bool) → (a && b) ≡ true → a ≡ true
and_left true b e = refl
and_left false b e = cc

and_right : (a b : Bool) → (a && b) ≡ true → b ≡ true
and_right true b e = e
and_right false b e = cc

-- the ports that are mentioned, whether the protocol has them or not
abbrev mentioned_under : Field → List Pred → ℕ → List ℕ
mentioned_under f left proto = ascending (flat_map (mentions f) (residues Proto proto left))

-- a star stands for a port that is not mentioned
star-stands : (f : Field) (left : List Pred) (proto v : ℕ) → (has_ports proto ≡ false → v ≡ 0) → (¬ In v (ports_under f left proto)) → StandsFor (mentioned_under f left proto) v (least_from 0 (ports_under f left proto))
star-stands f left proto v none out = by (has_ports proto) refl out
  where
    by : (b : Bool) → has_ports proto ≡ b → (¬ In v (cond b (mentioned_under f left proto) [])) → StandsFor (mentioned_under f left proto) v (least_from 0 (cond b (mentioned_under f left proto) []))
    by true e out = inr (out, least_from-out 0 (mentioned_under f left proto) (ascending-pairwise (flat_map (mentions f) (residues Proto proto left))))
    by false e out = inl (none e)

none-stands : (f : Field) (left : List Pred) (proto v : ℕ) (a : Option ℕ) → In a (choices false (2 ^ 16) (ports_under f left proto)) → (has_ports proto ≡ false → v ≡ 0) → (¬ In v (ports_under f left proto)) →
    StandsFor (mentioned_under f left proto) v (value_of (ports_under f left proto) a)
none-stands f left proto v a i none out =
    subst (λ o. StandsFor (mentioned_under f left proto) v (value_of (ports_under f left proto) o)) (sym (star-is (2 ^ 16) (ports_under f left proto) a i)) (star-stands f left proto v none out)

some-stands : (f : Field) (left : List Pred) (proto v : ℕ) (a : Option ℕ) → In a (choices true (2 ^ 16) (ports_under f left proto)) → allows a v ≡ true →
    (In v (ports_under f left proto)) × StandsFor (mentioned_under f left proto) v (value_of (ports_under f left proto) a)
some-stands f left proto v a i e = let m = in_map Some (ports_under f left proto) a i in by m.0 m.1 m.2
  where
    by : (n : ℕ) → In n (ports_under f left proto) → a ≡ Some n → (In v (ports_under f left proto)) × StandsFor (mentioned_under f left proto) v (value_of (ports_under f left proto) a)
    by n j is =
        let same : n ≡ v = eq_true n v (sym (ap (λ o. allows o v) is) ∙ e) in
        (subst (λ k. In k (ports_under f left proto)) same j, inl (sym same ∙ sym (ap (value_of (ports_under f left proto)) is)))

-- What a cell names of a value: the value itself where it is one of these, and else a star.
abbrev pub Names : List ℕ → ℕ → Option ℕ → Type 0
Names ns v a = (In v ns × (a ≡ Some v)) ⊎ ((¬ In v ns) × (a ≡ None))

some-names : (limit v : ℕ) (ns : List ℕ) (a : Option ℕ) → In a (choices true limit ns) → allows a v ≡ true → Names ns v a
some-names limit v ns a i e = let m = in_map Some ns a i in by m.0 m.1 m.2
  where
    by : (n : ℕ) → In n ns → a ≡ Some n → Names ns v a
    by n j is =
        let same : n ≡ v = eq_true n v (sym (ap (λ o. allows o v) is) ∙ e) in
        inl (subst (λ k. In k ns) same j, is ∙ ap Some same)

none-names : (limit v : ℕ) (ns : List ℕ) (a : Option ℕ) → In a (choices false limit ns) → (¬ In v ns) → Names ns v a
none-names limit v ns a i out = inr (out, star-is limit ns a i)

-- The cell names what is mentioned of the packet: its protocol and then its ports, or nothing.
abbrev pub NamesParts : List Pred → Packet → Cell → Type 0
NamesParts left p c =
    (In p.proto (protos left) × (c.proto ≡ Some p.proto) × Names (ports_under Sport left p.proto) p.sport c.sport × Names (ports_under Dport left p.proto) p.dport c.dport)
    ⊎ ((¬ In p.proto (protos left)) × (c.proto ≡ None) × (c.sport ≡ None) × (c.dport ≡ None))

-- the packet's own cell
pub record IsOwn (src dst : HostAddress) (preds : List Pred) (p : Packet) (c : Cell) : Type 0 where
  pub parts : NamesParts (between_hosts src dst preds) p c
  pub made : c ≡ cell_of preds (between_hosts src dst preds) src dst c.proto c.sport c.dport

module _ (src dst : HostAddress) (preds : List Pred) (well : AllByRecursion IsPred preds) (p : Packet) (packet : IsPacket p) (at : GoesBetween src dst p) where
  abbrev left : List Pred
  left = between_hosts src dst preds

  abbrev own : Cell → Packet
  own c = packet_of_cell left src dst c.proto c.sport c.dport

  -- the packet is judged as the cell's own, which names the owner
  abbrev Right : Cell → Type 0
  Right c = (c.owner ≡ owner_from 0 preds (own c)) × AllByRecursion (λ pred. holds pred p ≡ holds pred (own c)) preds

  abbrev S : ℕ → List ℕ
  S proto = ports_under Sport left proto

  abbrev D : ℕ → List ℕ
  D proto = ports_under Dport left proto

  abbrev cell : ℕ → Option ℕ → Option ℕ → Cell
  cell proto a b = cell_of preds left src dst (Some proto) a b

  port-right : (proto : ℕ) (a b : Option ℕ) → proto ≡ p.proto → StandsFor (mentioned_under Sport left proto) p.sport (value_of (S proto) a) → StandsFor (mentioned_under Dport left proto) p.dport (value_of (D proto) b) → Right (cell proto a b)
  port-right proto a b e s d =
      let q = packet_between src dst proto (value_of (S proto) a) (value_of (D proto) b) in
      let to : GoesBetween src dst q = record { eth_src = refl; eth_dst = refl; ip_src = refl; ip_dst = refl } in
      (refl, alike-under src dst p q proto (sym e) refl at to preds (under-pass src dst preds well proto p q s d))

  true_false : true ≡ false → ⊥
  true_false e = cc

  no_ports : (proto : ℕ) → proto ≡ p.proto → has_ports proto ≡ false → (p.sport ≡ 0) × (p.dport ≡ 0)
  no_ports proto same h = packet.no_ports (λ s. true_false (sym (ap has_ports s) ∙ (sym (ap has_ports same) ∙ h))) (λ s. true_false (sym (ap has_ports s) ∙ (sym (ap has_ports same) ∙ h)))

  -- membership in the lists of cells

  abbrev Ls : Bool → Bool → List Cell
  Ls e f = flat_map (cells_under preds left src dst e f) (protos left)

  record IsPortCell (c : Cell) (e f : Bool) : Type 0 where
    proto : ℕ
    named : In proto (protos left)
    a : Option ℕ
    from : In a (choices e (2 ^ 16) (S proto))
    b : Option ℕ
    to : In b (choices f (2 ^ 16) (D proto))
    is : c ≡ cell proto a b

  from_list : (c : Cell) (e f : Bool) → In c (Ls e f) → IsPortCell c e f
  from_list c e f i =
      let m = in_flat_map (cells_under preds left src dst e f) (protos left) c i in
      let k = in_flat_map (λ a. map (cell m.0 a) (choices f (2 ^ 16) (D m.0))) (choices e (2 ^ 16) (S m.0)) c m.2 in
      let j = in_map (cell m.0 k.0) (choices f (2 ^ 16) (D m.0)) c k.2 in
      record { proto = m.0; named = m.1; a = k.0; from = k.1; b = j.0; to = j.1; is = j.2 }

  to_list : (proto : ℕ) (a b : Option ℕ) (e f : Bool) → In proto (protos left) → In a (choices e (2 ^ 16) (S proto)) → In b (choices f (2 ^ 16) (D proto)) → In (cell proto a b) (Ls e f)
  to_list proto a b e f named i j =
      flat_map_in (cells_under preds left src dst e f) (protos left) proto (cell proto a b) named
      (flat_map_in (λ x. map (cell proto x) (choices f (2 ^ 16) (D proto))) (choices e (2 ^ 16) (S proto)) a (cell proto a b) i (map_in (cell proto a) (choices f (2 ^ 16) (D proto)) b j))

  -- which cells fit
  fits-proto : (proto : ℕ) (a b : Option ℕ) → cell_matches p (cell proto a b) ≡ true → proto ≡ p.proto
  fits-proto proto a b e = eq_true proto p.proto (and_left (proto == p.proto) (allows a p.sport) (and_left ((proto == p.proto) && allows a p.sport) (allows b p.dport) e))

  fits-sport : (proto : ℕ) (a b : Option ℕ) → cell_matches p (cell proto a b) ≡ true → allows a p.sport ≡ true
  fits-sport proto a b e = and_right (proto == p.proto) (allows a p.sport) (and_left ((proto == p.proto) && allows a p.sport) (allows b p.dport) e)

  fits-dport : (proto : ℕ) (a b : Option ℕ) → cell_matches p (cell proto a b) ≡ true → allows b p.dport ≡ true
  fits-dport proto a b e = and_right ((proto == p.proto) && allows a p.sport) (allows b p.dport) e

  fits-cell : (proto : ℕ) (a b : Option ℕ) → proto ≡ p.proto → allows a p.sport ≡ true → allows b p.dport ≡ true → cell_matches p (cell proto a b) ≡ true
  fits-cell proto a b e s d = ap₂ (λ x y. x && y) (ap₂ (λ x y. x && y) (ap (λ n. n == p.proto) e ∙ eq_refl p.proto) s) d

  -- the five lists, by falling priority

  abbrev L1 : List Cell
  L1 = Ls true true

  abbrev L2 : List Cell
  L2 = Ls true false

  abbrev L3 : List Cell
  L3 = Ls false true

  abbrev L4 : List Cell
  L4 = Ls false false

  abbrev last_cell : Option ℕ → Cell
  last_cell s = cell_of preds left src dst s None None

  abbrev L5 : List Cell
  L5 = map last_cell (choices false (2 ^ 8) (protos left))

  -- the packet's own cells
  has1 : In p.proto (protos left) → In p.sport (S p.proto) → In p.dport (D p.proto) → In (cell p.proto (Some p.sport) (Some p.dport)) L1
  has1 n s d = to_list p.proto (Some p.sport) (Some p.dport) true true n (map_in Some (S p.proto) p.sport s) (map_in Some (D p.proto) p.dport d)

  has2 : In p.proto (protos left) → In p.sport (S p.proto) → (¬ In p.dport (D p.proto)) → In (cell p.proto (Some p.sport) None) L2
  has2 n s d = to_list p.proto (Some p.sport) None true false n (map_in Some (S p.proto) p.sport s) (star-in (2 ^ 16) p.dport (D p.proto) packet.dport d)

  has3 : In p.proto (protos left) → (¬ In p.sport (S p.proto)) → In p.dport (D p.proto) → In (cell p.proto None (Some p.dport)) L3
  has3 n s d = to_list p.proto None (Some p.dport) false true n (star-in (2 ^ 16) p.sport (S p.proto) packet.sport s) (map_in Some (D p.proto) p.dport d)

  has4 : In p.proto (protos left) → (¬ In p.sport (S p.proto)) → (¬ In p.dport (D p.proto)) → In (cell p.proto None None) L4
  has4 n s d = to_list p.proto None None false false n (star-in (2 ^ 16) p.sport (S p.proto) packet.sport s) (star-in (2 ^ 16) p.dport (D p.proto) packet.dport d)

  fit1 : cell_matches p (cell p.proto (Some p.sport) (Some p.dport)) ≡ true
  fit1 = fits-cell p.proto (Some p.sport) (Some p.dport) refl (eq_refl p.sport) (eq_refl p.dport)

  fit2 : cell_matches p (cell p.proto (Some p.sport) None) ≡ true
  fit2 = fits-cell p.proto (Some p.sport) None refl (eq_refl p.sport) refl

  fit3 : cell_matches p (cell p.proto None (Some p.dport)) ≡ true
  fit3 = fits-cell p.proto None (Some p.dport) refl refl (eq_refl p.dport)

  fit4 : cell_matches p (cell p.proto None None) ≡ true
  fit4 = fits-cell p.proto None None refl refl refl

  -- each list is right where no list before it fits

  right1 : (c : Cell) → In c L1 → cell_matches p c ≡ true → Right c
  right1 c i e =
      let k = from_list c true true i in
      let f : cell_matches p (cell k.proto k.a k.b) ≡ true = subst (λ d. cell_matches p d ≡ true) k.is e in
      subst Right (sym k.is) (port-right k.proto k.a k.b (fits-proto k.proto k.a k.b f)
      (some-stands Sport left k.proto p.sport k.a k.from (fits-sport k.proto k.a k.b f)).1 (some-stands Dport left k.proto p.dport k.b k.to (fits-dport k.proto k.a k.b f)).1)

  right2 : NoneFits (cell_matches p) L1 → (c : Cell) → In c L2 → cell_matches p c ≡ true → Right c
  right2 none1 c i e =
      let k = from_list c true false i in
      let f : cell_matches p (cell k.proto k.a k.b) ≡ true = subst (λ d. cell_matches p d ≡ true) k.is e in
      let same : k.proto ≡ p.proto = fits-proto k.proto k.a k.b f in
      let s = some-stands Sport left k.proto p.sport k.a k.from (fits-sport k.proto k.a k.b f) in
      let out : ¬ In p.dport (D k.proto) = λ d. true_false (sym fit1 ∙ none1 _ (has1 (subst (λ n. In n (protos left)) same k.named) (subst (λ n. In p.sport (S n)) same s.0) (subst (λ n. In p.dport (D n)) same d))) in
      subst Right (sym k.is) (port-right k.proto k.a k.b same s.1 (none-stands Dport left k.proto p.dport k.b k.to (λ h. (no_ports k.proto same h).1) out))

  right3 : NoneFits (cell_matches p) L1 → (c : Cell) → In c L3 → cell_matches p c ≡ true → Right c
  right3 none1 c i e =
      let k = from_list c false true i in
      let f : cell_matches p (cell k.proto k.a k.b) ≡ true = subst (λ d. cell_matches p d ≡ true) k.is e in
      let same : k.proto ≡ p.proto = fits-proto k.proto k.a k.b f in
      let d = some-stands Dport left k.proto p.dport k.b k.to (fits-dport k.proto k.a k.b f) in
      let out : ¬ In p.sport (S k.proto) = λ s. true_false (sym fit1 ∙ none1 _ (has1 (subst (λ n. In n (protos left)) same k.named) (subst (λ n. In p.sport (S n)) same s) (subst (λ n. In p.dport (D n)) same d.0))) in
      subst Right (sym k.is) (port-right k.proto k.a k.b same (none-stands Sport left k.proto p.sport k.a k.from (λ h. (no_ports k.proto same h).0) out) d.1)

  nobody : NoneFits (cell_matches p) L1 → NoneFits (cell_matches p) L2 → In p.proto (protos left) → ¬ In p.sport (S p.proto)
  nobody none1 none2 n s = by (decide_in p.dport (D p.proto))
    where
      by : In p.dport (D p.proto) ⊎ (¬ In p.dport (D p.proto)) → ⊥
      by (inl d) = true_false (sym fit1 ∙ none1 _ (has1 n s d))
      by (inr d) = true_false (sym fit2 ∙ none2 _ (has2 n s d))

  right4 : NoneFits (cell_matches p) L1 → NoneFits (cell_matches p) L2 → NoneFits (cell_matches p) L3 → (c : Cell) → In c L4 → cell_matches p c ≡ true → Right c
  right4 none1 none2 none3 c i e =
      let k = from_list c false false i in
      let f : cell_matches p (cell k.proto k.a k.b) ≡ true = subst (λ d. cell_matches p d ≡ true) k.is e in
      let same : k.proto ≡ p.proto = fits-proto k.proto k.a k.b f in
      let here : In p.proto (protos left) = subst (λ m. In m (protos left)) same k.named in
      let out_s : ¬ In p.sport (S p.proto) = nobody none1 none2 here in
      let out_d : ¬ In p.dport (D p.proto) = λ d. true_false (sym fit3 ∙ none3 _ (has3 here out_s d)) in
      subst Right (sym k.is) (port-right k.proto k.a k.b same
      (none-stands Sport left k.proto p.sport k.a k.from (λ h. (no_ports k.proto same h).0) (subst (λ m. ¬ In p.sport (S m)) (sym same) out_s))
      (none-stands Dport left k.proto p.dport k.b k.to (λ h. (no_ports k.proto same h).1) (subst (λ m. ¬ In p.dport (D m)) (sym same) out_d)))

  -- a protocol that is mentioned has a cell that fits
  some_fits : NoneFits (cell_matches p) L1 → NoneFits (cell_matches p) L2 → NoneFits (cell_matches p) L3 → NoneFits (cell_matches p) L4 → ¬ In p.proto (protos left)
  some_fits none1 none2 none3 none4 n = by (decide_in p.dport (D p.proto))
    where
      by : In p.dport (D p.proto) ⊎ (¬ In p.dport (D p.proto)) → ⊥
      by (inl d) = true_false (sym fit3 ∙ none3 _ (has3 n (nobody none1 none2 n) d))
      by (inr d) = true_false (sym fit4 ∙ none4 _ (has4 n (nobody none1 none2 n) d))

  right5 : NoneFits (cell_matches p) L1 → NoneFits (cell_matches p) L2 → NoneFits (cell_matches p) L3 → NoneFits (cell_matches p) L4 → (c : Cell) → In c L5 → Right c
  right5 none1 none2 none3 none4 c i =
      let m = in_map last_cell (choices false (2 ^ 8) (protos left)) c i in
      let q = packet_of_cell left src dst star star star in
      let to : GoesBetween src dst q = record { eth_src = refl; eth_dst = refl; ip_src = refl; ip_dst = refl } in
      let named = flat_map (mentions Proto) left in
      subst Right (sym (m.2 ∙ ap last_cell (star-is (2 ^ 8) (protos left) m.0 m.1))) (
        refl,
        alike-between src dst p q at to preds
            (unnamed-pass src dst preds well p q (some_fits none1 none2 none3 none4) (least_from-out 0 (ascending named) (ascending-pairwise named))),
      )

  found : (c : Cell) → find (cell_matches p) (all_cells preds left src dst) ≡ Some c → Right c
  found =
      find_in (cell_matches p) L1 (L2 ++ (L3 ++ (L4 ++ L5))) Right right1
      (λ none1. find_in (cell_matches p) L2 (L3 ++ (L4 ++ L5)) Right (right2 none1)
      (λ none2. find_in (cell_matches p) L3 (L4 ++ L5) Right (right3 none1)
      (λ none3. find_in (cell_matches p) L4 L5 Right (right4 none1 none2 none3)
      (λ none4 c e. right5 none1 none2 none3 none4 c (found_in (cell_matches p) L5 c e)))))

  -- Each list that has the first cell that fits has the packet's own.

  port-own : (proto : ℕ) (a b : Option ℕ) → proto ≡ p.proto → In proto (protos left) → Names (S proto) p.sport a → Names (D proto) p.dport b → IsOwn src dst preds p (cell proto a b)
  port-own proto a b same named s d = record {
    parts = inl (subst (λ m. In m (protos left)) same named, ap Some same, subst (λ m. Names (S m) p.sport a) same s, subst (λ m. Names (D m) p.dport b) same d);
    made = refl;
  }

  abbrev Own : Cell → Type 0
  Own c = IsOwn src dst preds p c

  own1 : (c : Cell) → In c L1 → cell_matches p c ≡ true → Own c
  own1 c i e =
      let k = from_list c true true i in
      let f : cell_matches p (cell k.proto k.a k.b) ≡ true = subst (λ d. cell_matches p d ≡ true) k.is e in
      subst Own (sym k.is) (port-own k.proto k.a k.b (fits-proto k.proto k.a k.b f) k.named
      (some-names (2 ^ 16) p.sport (S k.proto) k.a k.from (fits-sport k.proto k.a k.b f)) (some-names (2 ^ 16) p.dport (D k.proto) k.b k.to (fits-dport k.proto k.a k.b f)))

  own2 : NoneFits (cell_matches p) L1 → (c : Cell) → In c L2 → cell_matches p c ≡ true → Own c
  own2 none1 c i e =
      let k = from_list c true false i in
      let f : cell_matches p (cell k.proto k.a k.b) ≡ true = subst (λ d. cell_matches p d ≡ true) k.is e in
      let same : k.proto ≡ p.proto = fits-proto k.proto k.a k.b f in
      let s = some-stands Sport left k.proto p.sport k.a k.from (fits-sport k.proto k.a k.b f) in
      let out : ¬ In p.dport (D k.proto) = λ d. true_false (sym fit1 ∙ none1 _ (has1 (subst (λ n. In n (protos left)) same k.named) (subst (λ n. In p.sport (S n)) same s.0) (subst (λ n. In p.dport (D n)) same d))) in
      subst Own (sym k.is) (port-own k.proto k.a k.b same k.named
      (some-names (2 ^ 16) p.sport (S k.proto) k.a k.from (fits-sport k.proto k.a k.b f)) (none-names (2 ^ 16) p.dport (D k.proto) k.b k.to out))

  own3 : NoneFits (cell_matches p) L1 → (c : Cell) → In c L3 → cell_matches p c ≡ true → Own c
  own3 none1 c i e =
      let k = from_list c false true i in
      let f : cell_matches p (cell k.proto k.a k.b) ≡ true = subst (λ d. cell_matches p d ≡ true) k.is e in
      let same : k.proto ≡ p.proto = fits-proto k.proto k.a k.b f in
      let d = some-stands Dport left k.proto p.dport k.b k.to (fits-dport k.proto k.a k.b f) in
      let out : ¬ In p.sport (S k.proto) = λ s. true_false (sym fit1 ∙ none1 _ (has1 (subst (λ n. In n (protos left)) same k.named) (subst (λ n. In p.sport (S n)) same s) (subst (λ n. In p.dport (D n)) same d.0))) in
      subst Own (sym k.is) (port-own k.proto k.a k.b same k.named
      (none-names (2 ^ 16) p.sport (S k.proto) k.a k.from out) (some-names (2 ^ 16) p.dport (D k.proto) k.b k.to (fits-dport k.proto k.a k.b f)))

  own4 : NoneFits (cell_matches p) L1 → NoneFits (cell_matches p) L2 → NoneFits (cell_matches p) L3 → (c : Cell) → In c L4 → cell_matches p c ≡ true → Own c
  own4 none1 none2 none3 c i e =
      let k = from_list c false false i in
      let f : cell_matches p (cell k.proto k.a k.b) ≡ true = subst (λ d. cell_matches p d ≡ true) k.is e in
      let same : k.proto ≡ p.proto = fits-proto k.proto k.a k.b f in
      let here : In p.proto (protos left) = subst (λ m. In m (protos left)) same k.named in
      let out_s : ¬ In p.sport (S p.proto) = nobody none1 none2 here in
      let out_d : ¬ In p.dport (D p.proto) = λ d. true_false (sym fit3 ∙ none3 _ (has3 here out_s d)) in
      subst Own (sym k.is) (port-own k.proto k.a k.b same k.named
      (none-names (2 ^ 16) p.sport (S k.proto) k.a k.from (subst (λ m. ¬ In p.sport (S m)) (sym same) out_s))
      (none-names (2 ^ 16) p.dport (D k.proto) k.b k.to (subst (λ m. ¬ In p.dport (D m)) (sym same) out_d)))

  own5 : NoneFits (cell_matches p) L1 → NoneFits (cell_matches p) L2 → NoneFits (cell_matches p) L3 → NoneFits (cell_matches p) L4 → (c : Cell) → In c L5 → Own c
  own5 none1 none2 none3 none4 c i =
      let m = in_map last_cell (choices false (2 ^ 8) (protos left)) c i in
      subst Own (sym (m.2 ∙ ap last_cell (star-is (2 ^ 8) (protos left) m.0 m.1))) (record { parts = inr (some_fits none1 none2 none3 none4, refl, refl, refl); made = refl })

  pub found-own : (c : Cell) → find (cell_matches p) (all_cells preds left src dst) ≡ Some c → Own c
  found-own =
      find_in (cell_matches p) L1 (L2 ++ (L3 ++ (L4 ++ L5))) Own own1
      (λ none1. find_in (cell_matches p) L2 (L3 ++ (L4 ++ L5)) Own (own2 none1)
      (λ none2. find_in (cell_matches p) L3 (L4 ++ L5) Own (own3 none1)
      (λ none3. find_in (cell_matches p) L4 L5 Own (own4 none1 none2 none3)
      (λ none4 c e. own5 none1 none2 none3 none4 c (found_in (cell_matches p) L5 c e)))))

  pub exists : (c : Cell) × (find (cell_matches p) (all_cells preds left src dst) ≡ Some c)
  exists = by (decide_in p.proto (protos left))
    where
      here : (c : Cell) → In c (L1 ++ (L2 ++ (L3 ++ (L4 ++ L5)))) → cell_matches p c ≡ true → (d : Cell) × (find (cell_matches p) (all_cells preds left src dst) ≡ Some d)
      here c i e = find_some (cell_matches p) (all_cells preds left src dst) c i e

      in1 : (c : Cell) → In c L1 → In c (L1 ++ (L2 ++ (L3 ++ (L4 ++ L5))))
      in1 c i = in_append-left L1 (L2 ++ (L3 ++ (L4 ++ L5))) c i

      in2 : (c : Cell) → In c L2 → In c (L1 ++ (L2 ++ (L3 ++ (L4 ++ L5))))
      in2 c i = in_append-right L1 (L2 ++ (L3 ++ (L4 ++ L5))) c (in_append-left L2 (L3 ++ (L4 ++ L5)) c i)

      in3 : (c : Cell) → In c L3 → In c (L1 ++ (L2 ++ (L3 ++ (L4 ++ L5))))
      in3 c i = in_append-right L1 (L2 ++ (L3 ++ (L4 ++ L5))) c (in_append-right L2 (L3 ++ (L4 ++ L5)) c (in_append-left L3 (L4 ++ L5) c i))

      in4 : (c : Cell) → In c L4 → In c (L1 ++ (L2 ++ (L3 ++ (L4 ++ L5))))
      in4 c i = in_append-right L1 (L2 ++ (L3 ++ (L4 ++ L5))) c (in_append-right L2 (L3 ++ (L4 ++ L5)) c (in_append-right L3 (L4 ++ L5) c (in_append-left L4 L5 c i)))

      in5 : (c : Cell) → In c L5 → In c (L1 ++ (L2 ++ (L3 ++ (L4 ++ L5))))
      in5 c i = in_append-right L1 (L2 ++ (L3 ++ (L4 ++ L5))) c (in_append-right L2 (L3 ++ (L4 ++ L5)) c (in_append-right L3 (L4 ++ L5) c (in_append-right L4 L5 c i)))

      ports : In p.proto (protos left) → In p.sport (S p.proto) ⊎ (¬ In p.sport (S p.proto)) → In p.dport (D p.proto) ⊎ (¬ In p.dport (D p.proto)) →
          (d : Cell) × (find (cell_matches p) (all_cells preds left src dst) ≡ Some d)
      ports n (inl s) (inl d) = here _ (in1 _ (has1 n s d)) fit1
      ports n (inl s) (inr d) = here _ (in2 _ (has2 n s d)) fit2
      ports n (inr s) (inl d) = here _ (in3 _ (has3 n s d)) fit3
      ports n (inr s) (inr d) = here _ (in4 _ (has4 n s d)) fit4

      by : In p.proto (protos left) ⊎ (¬ In p.proto (protos left)) → (d : Cell) × (find (cell_matches p) (all_cells preds left src dst) ≡ Some d)
      by (inl n) = ports n (decide_in p.sport (S p.proto)) (decide_in p.dport (D p.proto))
      by (inr out) = here (last_cell None) (in5 (last_cell None) (map_in last_cell (choices false (2 ^ 8) (protos left)) None (star-in (2 ^ 8) p.proto (protos left) packet.proto out))) refl

pub first-judges : (src dst : HostAddress) (preds : List Pred) → AllByRecursion IsPred preds → (p : Packet) → IsPacket p → GoesBetween src dst p → (c : Cell) → find (cell_matches p) (cells_between preds src dst) ≡ Some c →
    (c.owner ≡ owner_from 0 preds (packet_of_cell (between_hosts src dst preds) src dst c.proto c.sport c.dport))
    × AllByRecursion (λ pred. holds pred p ≡ holds pred (packet_of_cell (between_hosts src dst preds) src dst c.proto c.sport c.dport)) preds
first-judges src dst preds well p packet at c e = found src dst preds well p packet at c e

pub first-cell : (src dst : HostAddress) (preds : List Pred) → AllByRecursion IsPred preds → (p : Packet) → IsPacket p → GoesBetween src dst p →
    option_map (λ c. c.owner) (find (cell_matches p) (cells_between preds src dst)) ≡ Some (owner_from 0 preds p)
first-cell src dst preds well p packet at =
    let c = exists src dst preds well p packet at in
    let own : Packet = packet_of_cell (between_hosts src dst preds) src dst c.0.proto c.0.sport c.0.dport in
    let right = found src dst preds well p packet at c.0 c.1 in
    ap (option_map (λ d. d.owner)) c.1 ∙ ap Some (right.0 ∙ sym (owner-alike 0 preds p own right.1))

-- packets with one first cell are judged alike
joined : (p q c : Packet) (preds : List Pred) → AllByRecursion (λ pred. holds pred p ≡ holds pred c) preds → AllByRecursion (λ pred. holds pred q ≡ holds pred c) preds → AllByRecursion (λ pred. holds pred p ≡ holds pred q) preds
joined p q c [] h k = tt
joined p q c (pred ∷ rest) h k = (h.0 ∙ sym k.0, joined p q c rest h.1 k.1)

pub judged-alike : (src dst : HostAddress) (preds : List Pred) → AllByRecursion IsPred preds → (p q : Packet) → IsPacket p → IsPacket q → GoesBetween src dst p → GoesBetween src dst q →
    find (cell_matches p) (cells_between preds src dst) ≡ find (cell_matches q) (cells_between preds src dst) → AllByRecursion (λ pred. holds pred p ≡ holds pred q) preds
judged-alike src dst preds well p q packet other at to same =
    let c = exists src dst preds well p packet at in
    let own : Packet = packet_of_cell (between_hosts src dst preds) src dst c.0.proto c.0.sport c.0.dport in
    joined p q own preds (found src dst preds well p packet at c.0 c.1).1 (found src dst preds well q other to c.0 (sym same ∙ c.1)).1
