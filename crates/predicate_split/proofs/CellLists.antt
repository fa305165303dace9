-- The cells that are made from what is left of the predicates are those of the pair of hosts.
use Rattle.std.proofs.Common.{Option, None, Some, ◌≡◌, ◌<◌, ◌^◌, inl, inr, ℕ, suc, nat_lt, Bool, true, false, ◌&&◌, ◌==◌, cond, List, [], ◌∷◌, ◌++◌, map, refl, sym, ◌∙◌, ap, ap₂, subst}
use Rattle.std.specs.List.{AllByRecursion, flat_map}
use Rattle.merlin_model.specs.declared.network.HostAddress.{HostAddress}
use Rattle.merlin_model.specs.declared.policy.Field.{Field}
use Rattle.merlin_model.specs.declared.policy.Field.TheVariants.{Proto, Sport, Dport}
use Rattle.merlin_model.specs.declared.policy.Test.{Test}
use Rattle.merlin_model.specs.declared.policy.Test.TheVariants.{Is, Port, Within}
use Rattle.merlin_model.specs.declared.policy.Pred.{Pred, Yes, No, Test as Tests, All', AnyOf', Not'}
use Rattle.merlin_model.specs.Packets.{Packet, field_of}
use Rattle.merlin_model.specs.Predicates.{passes, holds, IsPred}
use Rattle.merlin_model.proofs.Members.{In, in_append-left}
use Rattle.packet_model.specs.Fields.{has_ports, replace, packet_with}
use Rattle.predicate_logic.specs.Residues.{is_no, residue, residues}
use Rattle.predicate_logic.specs.Mentions.{tests_of, mentions, ascending}
use Rattle.predicate_logic.proofs.Untested.{tests-decide}
use Rattle.predicate_logic.proofs.Placing.{ascending-in}
use Rattle.predicate_split.specs.declared.pairs.PlacedPred.{PlacedPred}
use Rattle.predicate_split.specs.declared.pair_cells.Cell.{Cell}
use Rattle.predicate_split.specs.declared.grids.Choice.{Choice}
use Rattle.predicate_split.specs.Parts.{least_from}
use Rattle.predicate_split.specs.Walks.{IsFresh, AreFresh}
use Rattle.predicate_split.specs.Classes.{zero_packet}
use Rattle.predicate_split.specs.Overlaps.{preds_in, holder, entry_residue}
use Rattle.predicate_split.specs.Left.{left_between, entries_between, entries_at, named_by}
use Rattle.predicate_split.specs.Cells.{owner_from, between_hosts, packet_between, protos, ports_under, value_of, choices, cell_of, cells_under, cells_between}
use Rattle.predicate_split.specs.Grids.{ports_by, choice_of, port_choices, chosen_packet, chosen_cell, cell_row, rows_of, NamesPorts, rows_under, other_cells, cells_left}
use Rattle.predicate_split.proofs.Splitting.{mentioned-below}
use Rattle.predicate_split.proofs.TwoHolders.{no-holds}
use Rattle.predicate_split.proofs.Owners.{GoesBetween, between-holds, left-fresh, under-fresh, no_block}
use Rattle.predicate_split.proofs.FirstCells.{star-is}
use Rattle.predicate_split.proofs.Lefts.{holder-at}

-- What can hold nowhere mentions nothing.

no-is : (q : Pred) → is_no q ≡ true → q ≡ No
no-is No e = refl
no-is Yes e = cc
no-is (Tests t) e = cc
no-is (All' _ _) e = cc
no-is (AnyOf' _ _) e = cc
no-is (Not' _ _) e = cc

kept-between : (h : Pred → List ℕ) → h No ≡ [] → (src dst : HostAddress) (n : ℕ) (preds : List Pred) →
    flat_map h (preds_in (entries_between src dst n preds)) ≡ flat_map h (between_hosts src dst preds)
unfolding left_between
kept-between h none src dst n [] = refl
kept-between h none src dst n (pred ∷ rest) = by (is_no (left_between src dst pred)) refl (kept-between h none src dst (suc n) rest)
  where
    by : (b : Bool) → is_no (left_between src dst pred) ≡ b → flat_map h (preds_in (entries_between src dst (suc n) rest)) ≡ flat_map h (between_hosts src dst rest) →
        flat_map h (preds_in (cond b (entries_between src dst (suc n) rest) (record { place = n; pred = left_between src dst pred } ∷ entries_between src dst (suc n) rest)))
        ≡ h (left_between src dst pred) ++ flat_map h (between_hosts src dst rest)
    by true e later = later ∙ ap (λ (l : List ℕ). l ++ flat_map h (between_hosts src dst rest)) (sym (ap h (no-is (left_between src dst pred) e) ∙ none))
    by false e later = ap (λ (l : List ℕ). h (left_between src dst pred) ++ l) later

kept-at : (h : Pred → List ℕ) → h No ≡ [] → (f : Field) (v : ℕ) (entries : List PlacedPred) → flat_map h (preds_in (entries_at f v entries)) ≡ flat_map (λ q. h (residue f v q)) (preds_in entries)
kept-at h none f v [] = refl
kept-at h none f v (e ∷ rest) = by (is_no (residue f v e.pred)) refl (kept-at h none f v rest)
  where
    by : (b : Bool) → is_no (residue f v e.pred) ≡ b → flat_map h (preds_in (entries_at f v rest)) ≡ flat_map (λ q. h (residue f v q)) (preds_in rest) →
        flat_map h (preds_in (cond b (entries_at f v rest) (entry_residue f v e ∷ entries_at f v rest))) ≡ h (residue f v e.pred) ++ flat_map (λ q. h (residue f v q)) (preds_in rest)
    by true n later = later ∙ ap (λ (l : List ℕ). l ++ flat_map (λ q. h (residue f v q)) (preds_in rest)) (sym (ap h (no-is (residue f v e.pred) n) ∙ none))
    by false n later = ap (λ (l : List ℕ). h (residue f v e.pred) ++ l) later

through : (h : Pred → List ℕ) (f : Field) (v : ℕ) (preds : List Pred) → flat_map (λ q. h (residue f v q)) preds ≡ flat_map h (residues f v preds)
through h f v [] = refl
through h f v (pred ∷ rest) = ap (λ (l : List ℕ). h (residue f v pred) ++ l) (through h f v rest)

module _ (src dst : HostAddress) (preds : List Pred) where
  abbrev entries : List PlacedPred
  entries = entries_between src dst 0 preds

  abbrev left : List Pred
  left = between_hosts src dst preds

  same-protos : named_by Proto entries ≡ protos left
  same-protos = ap ascending (kept-between (mentions Proto) refl src dst 0 preds)

  same-ports : (f : Field) (proto : ℕ) → ports_by f proto (entries_at Proto proto entries) ≡ ports_under f left proto
  same-ports f proto =
      ap (λ (l : List ℕ). cond (has_ports proto) (ascending l) [])
      (kept-at (mentions f) refl Proto proto entries ∙ kept-between (λ q. mentions f (residue Proto proto q)) refl src dst 0 preds ∙ through (mentions f) Proto proto left)

-- Mentioned values are in range.

all-in : (P : ℕ → Type 0) (ns : List ℕ) → ((n : ℕ) → In n ns → P n) → AllByRecursion P ns
all-in P [] h = tt
all-in P (n ∷ ns) h = (h n (inl refl), all-in P ns (λ m i. h m (inr i)))

pub protos-below : (src dst : HostAddress) (preds : List Pred) → AllByRecursion IsPred preds → AllByRecursion (λ n. n < 2 ^ 8) (named_by Proto (entries_between src dst 0 preds))
protos-below src dst preds well =
    subst (AllByRecursion (λ n. n < 2 ^ 8)) (sym (same-protos src dst preds))
    (all-in (λ n. n < 2 ^ 8) (protos (between_hosts src dst preds)) (λ n i. mentioned-below Proto (Proto ∷ Sport ∷ Dport ∷ []) 0 n (between_hosts src dst preds) (left-fresh src dst preds well) (ascending-in (flat_map (mentions Proto) (between_hosts src dst preds)) n i)))

pub ports-below : (src dst : HostAddress) (preds : List Pred) → AllByRecursion IsPred preds → NamesPorts (entries_between src dst 0 preds)
ports-below src dst preds well proto = (of Sport (λ n i. mentioned-below Sport fs proto n under fresh i), of Dport (λ n i. mentioned-below Dport fs proto n under fresh i))
  where
    fs : List Field
    fs = Sport ∷ Dport ∷ []

    under : List Pred
    under = residues Proto proto (between_hosts src dst preds)

    fresh : AreFresh fs proto under
    fresh = under-fresh src dst preds well proto

    of : (f : Field) → ((n : ℕ) → In n (flat_map (mentions f) under) → n < 2 ^ 16) → AllByRecursion (λ n. n < 2 ^ 16) (ports_by f proto (entries_at Proto proto (entries_between src dst 0 preds)))
    of f below = subst (AllByRecursion (λ n. n < 2 ^ 16)) (sym (same-ports src dst preds f proto)) (by (has_ports proto))
      where
        by : (b : Bool) → AllByRecursion (λ n. n < 2 ^ 16) (cond b (ascending (flat_map (mentions f) under)) [])
        by true = all-in (λ n. n < 2 ^ 16) (ascending (flat_map (mentions f) under)) (λ n i. below n (ascending-in (flat_map (mentions f) under) n i))
        by false = tt

-- Who holds of a packet between the hosts.

between-owner : (src dst : HostAddress) (q : Packet) → GoesBetween src dst q → (n : ℕ) (preds : List Pred) → holder (entries_between src dst n preds) q ≡ owner_from n preds q
between-owner src dst q at n [] = refl
between-owner src dst q at n (pred ∷ rest) = by (is_no (left_between src dst pred)) refl (between-owner src dst q at (suc n) rest)
  where
    same : holds (left_between src dst pred) q ≡ holds pred q
    same = between-holds src dst q at pred

    by : (b : Bool) → is_no (left_between src dst pred) ≡ b → holder (entries_between src dst (suc n) rest) q ≡ owner_from (suc n) rest q →
        holder (cond b (entries_between src dst (suc n) rest) (record { place = n; pred = left_between src dst pred } ∷ entries_between src dst (suc n) rest)) q
        ≡ cond (holds pred q) (Some n) (owner_from (suc n) rest q)
    by true e later = later ∙ ap (λ b. cond b (Some n) (owner_from (suc n) rest q)) (sym (no-holds (left_between src dst pred) q e) ∙ same)
    by false e later = ap₂ (λ b o. cond b (Some n) o) same later

-- the packets have the same protocol and ports
record HaveSame (p q : Packet) : Type 0 where
  proto : p.proto ≡ q.proto
  sport : p.sport ≡ q.sport
  dport : p.dport ≡ q.dport

have-field : (p q : Packet) → HaveSame p q → (f : Field) → In f (Proto ∷ Sport ∷ Dport ∷ []) → field_of f p ≡ field_of f q
have-field p q h f (inl e) = subst (λ g. field_of g p ≡ field_of g q) (sym e) h.proto
have-field p q h f (inr (inl e)) = subst (λ g. field_of g p ≡ field_of g q) (sym e) h.sport
have-field p q h f (inr (inr (inl e))) = subst (λ g. field_of g p ≡ field_of g q) (sym e) h.dport
have-field p q h f (inr (inr (inr j))) = absurd j

-- What is left between two hosts tests no address.
pass-same : (p q : Packet) → HaveSame p q → (t : Test) → IsFresh (Proto ∷ Sport ∷ Dport ∷ []) 0 t → passes t p ≡ passes t q
pass-same p q h (Is f n) fresh = ap (λ m. m == n) (have-field p q h f fresh.0)
pass-same p q h (Port r f n) fresh = ap₂ (λ m k. (m == r) && (k == n)) h.proto (have-field p q h f fresh.1)
pass-same p q h (Within f n length) fresh = absurd (no_block f fresh.1 fresh.0)

same-holder : (src dst : HostAddress) (p q : Packet) → HaveSame p q → (n : ℕ) (preds : List Pred) → AllByRecursion IsPred preds → holder (entries_between src dst n preds) p ≡ holder (entries_between src dst n preds) q
unfolding left_between
same-holder src dst p q h n [] well = refl
same-holder src dst p q h n (pred ∷ rest) well = by (is_no (left_between src dst pred)) (same-holder src dst p q h (suc n) rest well.1)
  where
    same : holds (left_between src dst pred) p ≡ holds (left_between src dst pred) q
    same = tests-decide p q (left_between src dst pred) (λ t i. pass-same p q h t (left-fresh src dst (pred ∷ []) (well.0, tt) t (one t i)))
      where
        one : (t : Test) → In t (tests_of (left_between src dst pred)) → In t (flat_map tests_of (between_hosts src dst (pred ∷ [])))
        one t i = in_append-left (tests_of (left_between src dst pred)) [] t i

    by : (b : Bool) → holder (entries_between src dst (suc n) rest) p ≡ holder (entries_between src dst (suc n) rest) q →
        holder (cond b (entries_between src dst (suc n) rest) (record { place = n; pred = left_between src dst pred } ∷ entries_between src dst (suc n) rest)) p
        ≡ holder (cond b (entries_between src dst (suc n) rest) (record { place = n; pred = left_between src dst pred } ∷ entries_between src dst (suc n) rest)) q
    by true later = later
    by false later = ap₂ (λ b o. cond b (Some n) o) same later

-- The packet of a choice.

abbrev cleared : Packet → Packet
cleared q = record q { sport = 0; dport = 0 }

ported-sport : (q : Packet) (n : ℕ) → has_ports q.proto ≡ true → packet_with q Sport n ≡ replace Sport n q
ported-sport q n e = ap (λ b. cond b (replace Sport n q) (cleared (replace Sport n q))) e

ported-dport : (q : Packet) (n : ℕ) → has_ports q.proto ≡ true → packet_with q Dport n ≡ replace Dport n q
ported-dport q n e = ap (λ b. cond b (replace Dport n q) (cleared (replace Dport n q))) e

bare-sport : (q : Packet) (n : ℕ) → has_ports q.proto ≡ false → packet_with q Sport n ≡ cleared q
bare-sport q n e = ap (λ b. cond b (replace Sport n q) (cleared (replace Sport n q))) e

bare-dport : (q : Packet) (n : ℕ) → has_ports q.proto ≡ false → packet_with q Dport n ≡ cleared q
bare-dport q n e = ap (λ b. cond b (replace Dport n q) (cleared (replace Dport n q))) e

abbrev packet_under : ℕ → Packet
packet_under proto = record { eth_src = 0; eth_dst = 0; ip_src = 0; ip_dst = 0; proto = proto; sport = 0; dport = 0 }

under-is : (proto : ℕ) → packet_with zero_packet Proto proto ≡ packet_under proto
under-is proto = by (has_ports proto)
  where
    by : (b : Bool) → cond b (packet_under proto) (packet_under proto) ≡ packet_under proto
    by true = refl
    by false = refl

chosen-ports : (proto : ℕ) (s d : Choice) → (has_ports proto ≡ false → (s.value ≡ 0) × (d.value ≡ 0)) → HaveSame (chosen_packet (packet_under proto) s d) (record (packet_under proto) { sport = s.value; dport = d.value })
chosen-ports proto s d none = by (has_ports proto) refl
  where
    by : (b : Bool) → has_ports proto ≡ b → HaveSame (chosen_packet (packet_under proto) s d) (record (packet_under proto) { sport = s.value; dport = d.value })
    by true e =
        let is = ap (λ (q : Packet). packet_with q Dport d.value) (ported-sport (packet_under proto) s.value e) ∙ ported-dport (replace Sport s.value (packet_under proto)) d.value e in
        subst (λ (q : Packet). HaveSame q (record (packet_under proto) { sport = s.value; dport = d.value })) (sym is) (record { proto = refl; sport = refl; dport = refl })
    by false e =
        let zero = none e in
        let is = ap (λ (q : Packet). packet_with q Dport d.value) (bare-sport (packet_under proto) s.value e) ∙ bare-dport (cleared (packet_under proto)) d.value e in
        subst (λ (q : Packet). HaveSame q (record (packet_under proto) { sport = s.value; dport = d.value })) (sym is) (record { proto = refl; sport = sym zero.0; dport = sym zero.1 })

have-trans : (p q r : Packet) → HaveSame p q → HaveSame q r → HaveSame p r
have-trans p q r h k = record { proto = h.proto ∙ k.proto; sport = h.sport ∙ k.sport; dport = h.dport ∙ k.dport }

-- Cell by cell.

flat_map-alike : (f g : ℕ → List Cell) → ((n : ℕ) → f n ≡ g n) → (ns : List ℕ) → flat_map f ns ≡ flat_map g ns
flat_map-alike f g same [] = refl
flat_map-alike f g same (n ∷ ns) = ap₂ (λ (a b : List Cell). a ++ b) (same n) (flat_map-alike f g same ns)

row-alike : (es : List PlacedPred) (p : Packet) (s : Choice) (ds : List ℕ) (g : Option ℕ → Cell) (bs : List (Option ℕ)) →
    ((b : Option ℕ) → In b bs → chosen_cell es p s (choice_of ds b) ≡ g b) → cell_row es p s (map (choice_of ds) bs) ≡ map g bs
row-alike es p s ds g [] same = refl
row-alike es p s ds g (b ∷ bs) same = ap₂ (λ (c : Cell) (l : List Cell). c ∷ l) (same b (inl refl)) (row-alike es p s ds g bs (λ d i. same d (inr i)))

rows-alike : (es : List PlacedPred) (p : Packet) (ss ds : List ℕ) (g : Option ℕ → Option ℕ → Cell) (cs bs : List (Option ℕ)) →
    ((a b : Option ℕ) → In a cs → In b bs → chosen_cell es p (choice_of ss a) (choice_of ds b) ≡ g a b) → rows_of es p (map (choice_of ss) cs) (map (choice_of ds) bs) ≡ flat_map (λ a. map (g a) bs) cs
rows-alike es p ss ds g [] bs same = refl
rows-alike es p ss ds g (a ∷ cs) bs same =
    ap₂ (λ (x y : List Cell). x ++ y) (row-alike es p (choice_of ss a) ds (g a) bs (λ b j. same a b (inl refl) j)) (rows-alike es p ss ds g cs bs (λ c b i j. same c b (inr i) j))

-- where no port is mentioned the one choice is a star, for port 0
bare-choice : (is_each : Bool) (ns : List ℕ) (a : Option ℕ) → ns ≡ [] → In a (choices is_each (2 ^ 16) ns) → value_of ns a ≡ 0
bare-choice true ns a e i = absurd (subst (λ (l : List ℕ). In a (map Some l)) e i)
bare-choice false ns a e i = ap (value_of ns) (star-is (2 ^ 16) ns a i) ∙ ap (least_from 0) e

module _ (src dst : HostAddress) (preds : List Pred) (well : AllByRecursion IsPred preds) where
  abbrev made : List PlacedPred
  made = entries_between src dst 0 preds

  abbrev rest : List Pred
  rest = between_hosts src dst preds

  owner-made : (p : Packet) (proto sport dport : ℕ) → HaveSame p (packet_between src dst proto sport dport) → holder made p ≡ owner_from 0 preds (packet_between src dst proto sport dport)
  owner-made p proto sport dport h =
      same-holder src dst p (packet_between src dst proto sport dport) h 0 preds well
      ∙ between-owner src dst (packet_between src dst proto sport dport) (record { eth_src = refl; eth_dst = refl; ip_src = refl; ip_dst = refl }) 0 preds

  owner-at : (proto : ℕ) (s d : Choice) → (has_ports proto ≡ false → (s.value ≡ 0) × (d.value ≡ 0)) →
      holder (entries_at Proto proto made) (chosen_packet (packet_under proto) s d) ≡ owner_from 0 preds (packet_between src dst proto s.value d.value)
  owner-at proto s d none =
      let h = chosen-ports proto s d none in
      holder-at Proto proto (chosen_packet (packet_under proto) s d) h.proto made
      ∙ owner-made (chosen_packet (packet_under proto) s d) proto s.value d.value
      (have-trans (chosen_packet (packet_under proto) s d) (record (packet_under proto) { sport = s.value; dport = d.value }) (packet_between src dst proto s.value d.value) h (record { proto = refl; sport = refl; dport = refl }))

  cell-at : (e f : Bool) (proto : ℕ) (a b : Option ℕ) → In a (choices e (2 ^ 16) (ports_under Sport rest proto)) → In b (choices f (2 ^ 16) (ports_under Dport rest proto)) →
      chosen_cell (entries_at Proto proto made) (packet_under proto) (choice_of (ports_under Sport rest proto) a) (choice_of (ports_under Dport rest proto) b) ≡ cell_of preds rest src dst (Some proto) a b
  cell-at e f proto a b i j =
      ap (λ (o : Option ℕ). record { proto = Some proto; sport = a; dport = b; owner = o })
      (owner-at proto (choice_of (ports_under Sport rest proto) a) (choice_of (ports_under Dport rest proto) b) (λ h. (
        bare-choice e (ports_under Sport rest proto) a (ap (λ t. cond t (ascending (flat_map (mentions Sport) (residues Proto proto rest))) []) h) i,
        bare-choice f (ports_under Dport rest proto) b (ap (λ t. cond t (ascending (flat_map (mentions Dport) (residues Proto proto rest))) []) h) j,
      )))

  rows-made : (e f : Bool) (proto : ℕ) → rows_under made e f proto ≡ cells_under preds rest src dst e f proto
  rows-made e f proto =
      ap (λ (p : Packet). rows_of (entries_at Proto proto made) p (port_choices e (ports_by Sport proto (entries_at Proto proto made))) (port_choices f (ports_by Dport proto (entries_at Proto proto made)))) (under-is proto)
      ∙ ap₂ (λ (ss ds : List ℕ). rows_of (entries_at Proto proto made) (packet_under proto) (port_choices e ss) (port_choices f ds)) (same-ports src dst preds Sport proto) (same-ports src dst preds Dport proto)
      ∙ rows-alike (entries_at Proto proto made) (packet_under proto) (ports_under Sport rest proto) (ports_under Dport rest proto) (cell_of preds rest src dst (Some proto))
      (choices e (2 ^ 16) (ports_under Sport rest proto)) (choices f (2 ^ 16) (ports_under Dport rest proto)) (cell-at e f proto)

  all-made : (e f : Bool) → flat_map (rows_under made e f) (named_by Proto made) ≡ flat_map (cells_under preds rest src dst e f) (protos rest)
  all-made e f = ap (flat_map (rows_under made e f)) (same-protos src dst preds) ∙ flat_map-alike (rows_under made e f) (cells_under preds rest src dst e f) (rows-made e f) (protos rest)

  abbrev star : Option ℕ
  star = None

  other-made : other_cells made (named_by Proto made) ≡ map (λ proto. cell_of preds rest src dst proto None None) (choices false (2 ^ 8) (protos rest))
  other-made =
      ap (other_cells made) (same-protos src dst preds)
      ∙ ap (λ (p : Packet). cond (nat_lt least (2 ^ 8)) (record { proto = star; sport = star; dport = star; owner = holder made p } ∷ []) []) (under-is least)
      ∙ ap (λ (o : Option ℕ). cond (nat_lt least (2 ^ 8)) (record { proto = star; sport = star; dport = star; owner = o } ∷ []) [])
      (owner-made (packet_under least) least 0 0 (record { proto = refl; sport = refl; dport = refl }))
      ∙ by (nat_lt least (2 ^ 8))
    where
      least : ℕ
      least = least_from 0 (protos rest)

      by : (b : Bool) → cond b (cell_of preds rest src dst None None None ∷ []) [] ≡ map (λ proto. cell_of preds rest src dst proto None None) (cond b (star ∷ []) [])
      by true = refl
      by false = refl

  pub cells-made : cells_left made ≡ cells_between preds src dst
  cells-made =
      ap₂ (λ (a b : List Cell). a ++ b) (all-made true true)
      (ap₂ (λ (a b : List Cell). a ++ b) (all-made true false)
      (ap₂ (λ (a b : List Cell). a ++ b) (all-made false true)
      (ap₂ (λ (a b : List Cell). a ++ b) (all-made false false) other-made)))
