-- The parts of a field: each value of the field has a part that is no greater and gives the predicates the same residues.
use Rattle.std.proofs.Common.{◌≡◌, ◌<◌, ◌≤◌, ◌⊎◌, ℕ, ◌-◌, ◌*◌, ◌^◌, inl, inr, Bool, true, false, ◌==◌, cond, List, [], ◌∷◌, refl, sym, ◌∙◌, ap, ap₂, subst, arith}
use Rattle.std.specs.List.{flat_map}
use Rattle.merlin_model.specs.declared.policy.Field.{Field}
use Rattle.merlin_model.specs.declared.policy.Field.TheVariants.{EthSrc, EthDst, IpSrc, IpDst, Proto, Sport, Dport}
use Rattle.merlin_model.specs.declared.policy.Test.{Test}
use Rattle.merlin_model.specs.declared.policy.Test.TheVariants.{Is, Port, Within}
use Rattle.merlin_model.specs.declared.policy.Pred.{Pred, No, Test as Tests}
use Rattle.merlin_model.specs.Packets.{Packet, IsPacket, field_of}
use Rattle.merlin_model.specs.Predicates.{first_bits, IsInRange, IsPort, IsAddress}
use Rattle.merlin_model.specs.Networks.{Pairwise}
use Rattle.merlin_model.proofs.Members.{In, in_append-left, in_append-right, in_flat_map, flat_map_in, in_map}
use Rattle.packet_model.specs.Fields.{has_ports, ports_cleared, replace, packet_with}
use Rattle.predicate_logic.specs.Residues.{same_field, verdict, test_residue, residue, residues}
use Rattle.predicate_logic.specs.Mentions.{tests_of, test_mentions, mentions, test_prefixes, prefixes, ascending}
use Rattle.predicate_logic.proofs.Meanings.{same_field-is}
use Rattle.predicate_logic.proofs.Unmentioned.{AreTogether, residue-alone, residue-tests}
use Rattle.predicate_logic.proofs.Placing.{ascending-pairwise, ascending-in, in-ascending}
use Rattle.predicate_split.specs.Parts.{bits_of, limit_of, has_field, parts_within, field_parts}
use Rattle.predicate_split.specs.Classes.{proto_with}
use Rattle.predicate_split.specs.Walks.{IsRest, IsFresh, AreFresh, IsUnfixed}
use Rattle.predicate_split.proofs.Fields.{by_place}
use Rattle.predicate_split.proofs.Numbers.{finer, ends_before}
use Rattle.predicate_split.proofs.Parting.{IsIn}
use Rattle.predicate_split.proofs.PartLaws.{part-of, part-is, within-pairwise}

-- The part of a value.

pub record IsPartOf (f : Field) (v : ℕ) (parts : List ℕ) (preds : List Pred) : Type 0 where
  pub part : ℕ
  pub is_part : In part parts
  pub up_to : part ≤ v
  pub same : residues f part preds ≡ residues f v preds

residues-alone : (f : Field) (v w : ℕ) (preds : List Pred) → (¬ In v (flat_map (mentions f) preds)) → (¬ In w (flat_map (mentions f) preds)) → AreTogether (flat_map (prefixes f) preds) v w → residues f v preds ≡ residues f w preds
residues-alone f v w [] a b same = refl
residues-alone f v w (pred ∷ rest) a b same =
    ap₂ (λ (q : Pred) qs. q ∷ qs)
    (residue-alone f v w pred (λ i. a (in_append-left (mentions f pred) (flat_map (mentions f) rest) v i)) (λ i. b (in_append-left (mentions f pred) (flat_map (mentions f) rest) w i))
    (λ c i. same c (in_append-left (prefixes f pred) (flat_map (prefixes f) rest) c i)))
    (residues-alone f v w rest (λ i. a (in_append-right (mentions f pred) (flat_map (mentions f) rest) v i)) (λ i. b (in_append-right (mentions f pred) (flat_map (mentions f) rest) w i))
    (λ c i. same c (in_append-right (prefixes f pred) (flat_map (prefixes f) rest) c i)))

-- The blocks that are named for a field are among its values.

address_bits : (f : Field) → IsAddress f → bits_of f ≡ 32
address_bits f (inl e) = ap bits_of e
address_bits f (inr e) = ap bits_of e

address_below : (f : Field) (n : ℕ) → IsAddress f → IsInRange f n → n < 2 ^ 32
address_below f n (inl e) lt = subst (λ g. IsInRange g n) e lt
address_below f n (inr e) lt = subst (λ g. IsInRange g n) e lt

block_in : (n length : ℕ) → length ≤ 31 → n < 2 ^ 32 → n ≡ first_bits length n * 2 ^ (32 - length) → IsIn 32 0 (n, length)
block_in n length le lt at = record {
  block = (le, at);
  from = omega arith;
  to = ends_before (n, length) (2 ^ 32) (le, at) (finer (2 ^ 32) 32 (32 - length) (omega arith) (1, omega arith)) lt;
}

fresh-block : (f : Field) (fs : List Field) (proto : ℕ) (b : ℕ × ℕ) (t : Test) → IsFresh fs proto t → In b (test_prefixes f t) → IsIn (bits_of f) 0 b
fresh-block f fs proto b (Is g n) fresh i = absurd i
fresh-block f fs proto b (Port q g n) fresh i = absurd i
fresh-block f fs proto b (Within g n length) fresh i = by (same_field f g) refl i
  where
    by : (t : Bool) → same_field f g ≡ t → In b (cond t ((n, length) ∷ []) []) → IsIn (bits_of f) 0 b
    by true e (inl same) =
        subst (λ k. IsIn k 0 b) (sym (ap bits_of (same_field-is f g e) ∙ address_bits g fresh.1))
        (subst (IsIn 32 0) (sym same) (block_in n length fresh.2 (address_below g n fresh.1 fresh.3) fresh.4))
    by true e (inr j) = absurd j
    by false e j = absurd j

pub blocks-in : (f : Field) (fs : List Field) (proto : ℕ) (preds : List Pred) → AreFresh fs proto preds → (b : ℕ × ℕ) → In b (flat_map (prefixes f) preds) → IsIn (bits_of f) 0 b
blocks-in f fs proto preds fresh b i =
    let m = in_flat_map (prefixes f) preds b i in
    let k = in_flat_map (test_prefixes f) (tests_of m.0) b m.2 in
    fresh-block f fs proto b k.0 (fresh k.0 (flat_map_in tests_of preds m.0 k.0 m.1 k.1)) k.2

abbrev named_in : Field → List Pred → List ℕ
named_in f preds = flat_map (mentions f) preds

abbrev blocks_in : Field → List Pred → List (ℕ × ℕ)
blocks_in f preds = flat_map (prefixes f) preds

parts-mentioned : (f : Field) (fs : List Field) (proto v : ℕ) (preds : List Pred) → AreFresh fs proto preds → v < limit_of f → IsPartOf f v (parts_within (bits_of f) (blocks_in f preds) (ascending (named_in f preds))) preds
parts-mentioned f fs proto v preds fresh lt = by (part-of (bits_of f) (blocks_in f preds) (ascending (named_in f preds)) (ascending-pairwise (named_in f preds)) (blocks-in f fs proto preds fresh) v lt)
  where
    by : (u : ℕ) × In u (parts_within (bits_of f) (blocks_in f preds) (ascending (named_in f preds))) × (u ≤ v) × ((u ≡ v) ⊎ ((¬ In u (ascending (named_in f preds))) × (¬ In v (ascending (named_in f preds))) × AreTogether (blocks_in f preds) u v)) →
        IsPartOf f v (parts_within (bits_of f) (blocks_in f preds) (ascending (named_in f preds))) preds
    by (u, i, le, e) = record { part = u; is_part = i; up_to = le; same = alike e }
      where
        alike : (u ≡ v) ⊎ ((¬ In u (ascending (named_in f preds))) × (¬ In v (ascending (named_in f preds))) × AreTogether (blocks_in f preds) u v) → residues f u preds ≡ residues f v preds
        alike (inl e) = ap (λ n. residues f n preds) e
        alike (inr (a, b, same)) = residues-alone f u v preds (λ h. a (in-ascending (named_in f preds) u h)) (λ h. b (in-ascending (named_in f preds) v h)) same

-- Where the protocol has no ports, the port is mentioned by nobody.

no_address : (g : Field) → IsPort g → IsAddress g → ⊥
no_address g (inl e) (inl h) = let k : Sport ≡ IpSrc = sym e ∙ h in cc
no_address g (inl e) (inr h) = let k : Sport ≡ IpDst = sym e ∙ h in cc
no_address g (inr e) (inl h) = let k : Dport ≡ IpSrc = sym e ∙ h in cc
no_address g (inr e) (inr h) = let k : Dport ≡ IpDst = sym e ∙ h in cc

in_tests : (f : Field) (n : ℕ) (preds : List Pred) → In n (flat_map (mentions f) preds) → (t : Test) × In t (flat_map tests_of preds) × In n (test_mentions f t)
in_tests f n preds h =
    let m = in_flat_map (mentions f) preds n h in
    let k = in_flat_map (test_mentions f) (tests_of m.0) n m.2 in
    (k.0, flat_map_in tests_of preds m.0 k.0 m.1 k.1, k.2)

has_no_port : (f : Field) (fs : List Field) → IsRest (f ∷ fs) → (proto : ℕ) → has_field f proto ≡ false → (IsPort f) × (¬ In Proto (f ∷ fs)) × (has_ports proto ≡ false)
has_no_port = by_place (λ f fs. (proto : ℕ) → has_field f proto ≡ false → (IsPort f) × (¬ In Proto (f ∷ fs)) × (has_ports proto ≡ false))
    (λ proto e. absurd (true_false e)) (λ proto e. absurd (true_false e)) (λ proto e. absurd (true_false e)) (λ proto e. absurd (true_false e)) (λ proto e. absurd (true_false e))
    (λ proto e. (inl refl, no_s, e)) (λ proto e. (inr refl, no_d, e))
  where
    true_false : true ≡ false → ⊥
    true_false e = cc

    no_s : ¬ In Proto (Sport ∷ Dport ∷ [])
    no_s (inl e) = cc
    no_s (inr (inl e)) = cc
    no_s (inr (inr h)) = h

    no_d : ¬ In Proto (Dport ∷ [])
    no_d (inl e) = cc
    no_d (inr h) = h

fresh-named : (f : Field) (fs : List Field) (proto n : ℕ) (t : Test) → IsPort f → (¬ In Proto (f ∷ fs)) → has_ports proto ≡ false → IsFresh (f ∷ fs) proto t → In n (test_mentions f t) → ⊥
fresh-named f fs proto n (Is g m) port out none fresh h = by (same_field f g) refl h
  where
    true_false : true ≡ false → ⊥
    true_false e = cc

    by : (b : Bool) → same_field f g ≡ b → In n (cond b (m ∷ []) []) → ⊥
    by true e i = true_false (sym (fresh.2 (subst IsPort (same_field-is f g e) port)).1 ∙ none)
    by false e i = i
fresh-named f fs proto n (Port q g m) port out none fresh h = out fresh.0
fresh-named f fs proto n (Within g m length) port out none fresh h = h

fresh-unblocked : (f : Field) (fs : List Field) (proto : ℕ) (b : ℕ × ℕ) (t : Test) → IsPort f → IsFresh fs proto t → In b (test_prefixes f t) → ⊥
fresh-unblocked f fs proto b (Is g m) port fresh h = h
fresh-unblocked f fs proto b (Port q g m) port fresh h = h
fresh-unblocked f fs proto b (Within g m length) port fresh h = by (same_field f g) refl h
  where
    by : (t : Bool) → same_field f g ≡ t → In b (cond t ((m, length) ∷ []) []) → ⊥
    by true e i = no_address g (subst IsPort (same_field-is f g e) port) fresh.1
    by false e i = i

parts-portless : (f : Field) (fs : List Field) (proto v : ℕ) (preds : List Pred) → IsRest (f ∷ fs) → has_field f proto ≡ false → AreFresh (f ∷ fs) proto preds → IsPartOf f v (0 ∷ []) preds
parts-portless f fs proto v preds rest none fresh = record { part = 0; is_part = inl refl; up_to = omega arith; same = residues-alone f 0 v preds (nobody 0) (nobody v) (λ b i. absurd (unblocked b i)) }
  where
    facts : (IsPort f) × (¬ In Proto (f ∷ fs)) × (has_ports proto ≡ false)
    facts = has_no_port f fs rest proto none

    nobody : (n : ℕ) → ¬ In n (flat_map (mentions f) preds)
    nobody n h = let t = in_tests f n preds h in fresh-named f fs proto n t.0 facts.0 facts.1 facts.2 (fresh t.0 t.1) t.2

    unblocked : (b : ℕ × ℕ) → ¬ In b (flat_map (prefixes f) preds)
    unblocked b i =
        let m = in_flat_map (prefixes f) preds b i in
        let k = in_flat_map (test_prefixes f) (tests_of m.0) b m.2 in
        fresh-unblocked f (f ∷ fs) proto b k.0 facts.0 (fresh k.0 (flat_map_in tests_of preds m.0 k.0 m.1 k.1)) k.2

pub parts-cover : (f : Field) (fs : List Field) (proto v : ℕ) (preds : List Pred) → IsRest (f ∷ fs) → AreFresh (f ∷ fs) proto preds → v < limit_of f → IsPartOf f v (field_parts f proto preds) preds
parts-cover f fs proto v preds rest fresh lt = by (has_field f proto) refl
  where
    by : (b : Bool) → has_field f proto ≡ b → IsPartOf f v (cond b (parts_within (bits_of f) (flat_map (prefixes f) preds) (ascending (flat_map (mentions f) preds))) (0 ∷ [])) preds
    by true e = parts-mentioned f (f ∷ fs) proto v preds fresh lt
    by false e = parts-portless f fs proto v preds rest e fresh

-- What a residue keeps.

pub replace-proto : (f : Field) (v : ℕ) (p : Packet) → (replace f v p).proto ≡ proto_with f v p.proto
replace-proto EthSrc v p = refl
replace-proto EthDst v p = refl
replace-proto IpSrc v p = refl
replace-proto IpDst v p = refl
replace-proto Proto v p = refl
replace-proto Sport v p = refl
replace-proto Dport v p = refl

proto-kept : (f : Field) (v proto : ℕ) → (Proto ≡ f → ⊥) → proto_with f v proto ≡ proto
proto-kept Proto v proto h = absurd (h refl)
proto-kept EthSrc v proto h = refl
proto-kept EthDst v proto h = refl
proto-kept IpSrc v proto h = refl
proto-kept IpDst v proto h = refl
proto-kept Sport v proto h = refl
proto-kept Dport v proto h = refl

unlike : (f g : Field) → same_field f g ≡ false → g ≡ f → ⊥
unlike f g e same = true_false (sym (itself f) ∙ ap (same_field f) (sym same) ∙ e)
  where
    true_false : true ≡ false → ⊥
    true_false e = cc

    itself : (f : Field) → same_field f f ≡ true
    itself EthSrc = refl
    itself EthDst = refl
    itself IpSrc = refl
    itself IpDst = refl
    itself Proto = refl
    itself Sport = refl
    itself Dport = refl

-- the order of the fields
pub record InOrder (f : Field) (fs : List Field) : Type 0 where
  pub once : ¬ In f fs
  pub ports_last : IsPort f → ¬ In Proto (f ∷ fs)

pub in_order : (f : Field) (fs : List Field) → IsRest (f ∷ fs) → InOrder f fs
in_order = by_place InOrder (record { once = l0; ports_last = p0 }) (record { once = l1; ports_last = p1 }) (record { once = l2; ports_last = p2 }) (record { once = l3; ports_last = p3 })
    (record { once = l4; ports_last = p4 }) (record { once = l5; ports_last = p5 }) (record { once = λ h. h; ports_last = p6 })
  where
    l5 : ¬ In Sport (Dport ∷ [])
    l5 (inl e) = cc
    l5 (inr h) = h

    l4 : ¬ In Proto (Sport ∷ Dport ∷ [])
    l4 (inl e) = cc
    l4 (inr (inl e)) = cc
    l4 (inr (inr h)) = h

    l3 : ¬ In IpDst (Proto ∷ Sport ∷ Dport ∷ [])
    l3 (inl e) = cc
    l3 (inr (inl e)) = cc
    l3 (inr (inr (inl e))) = cc
    l3 (inr (inr (inr h))) = h

    l2 : ¬ In IpSrc (IpDst ∷ Proto ∷ Sport ∷ Dport ∷ [])
    l2 (inl e) = cc
    l2 (inr (inl e)) = cc
    l2 (inr (inr (inl e))) = cc
    l2 (inr (inr (inr (inl e)))) = cc
    l2 (inr (inr (inr (inr h)))) = h

    l1 : ¬ In EthDst (IpSrc ∷ IpDst ∷ Proto ∷ Sport ∷ Dport ∷ [])
    l1 (inl e) = cc
    l1 (inr (inl e)) = cc
    l1 (inr (inr (inl e))) = cc
    l1 (inr (inr (inr (inl e)))) = cc
    l1 (inr (inr (inr (inr (inl e))))) = cc
    l1 (inr (inr (inr (inr (inr h))))) = h

    l0 : ¬ In EthSrc (EthDst ∷ IpSrc ∷ IpDst ∷ Proto ∷ Sport ∷ Dport ∷ [])
    l0 (inl e) = cc
    l0 (inr (inl e)) = cc
    l0 (inr (inr (inl e))) = cc
    l0 (inr (inr (inr (inl e)))) = cc
    l0 (inr (inr (inr (inr (inl e))))) = cc
    l0 (inr (inr (inr (inr (inr (inl e)))))) = cc
    l0 (inr (inr (inr (inr (inr (inr h)))))) = h

    none : (g : Field) → (g ≡ Sport → ⊥) → (g ≡ Dport → ⊥) → IsPort g → ⊥
    none g a b (inl e) = a e
    none g a b (inr e) = b e

    p0 : IsPort EthSrc → ¬ In Proto (EthSrc ∷ EthDst ∷ IpSrc ∷ IpDst ∷ Proto ∷ Sport ∷ Dport ∷ [])
    p0 port = absurd (none EthSrc (λ e. cc) (λ e. cc) port)

    p1 : IsPort EthDst → ¬ In Proto (EthDst ∷ IpSrc ∷ IpDst ∷ Proto ∷ Sport ∷ Dport ∷ [])
    p1 port = absurd (none EthDst (λ e. cc) (λ e. cc) port)

    p2 : IsPort IpSrc → ¬ In Proto (IpSrc ∷ IpDst ∷ Proto ∷ Sport ∷ Dport ∷ [])
    p2 port = absurd (none IpSrc (λ e. cc) (λ e. cc) port)

    p3 : IsPort IpDst → ¬ In Proto (IpDst ∷ Proto ∷ Sport ∷ Dport ∷ [])
    p3 port = absurd (none IpDst (λ e. cc) (λ e. cc) port)

    p4 : IsPort Proto → ¬ In Proto (Proto ∷ Sport ∷ Dport ∷ [])
    p4 port = absurd (none Proto (λ e. cc) (λ e. cc) port)

    p5 : IsPort Sport → ¬ In Proto (Sport ∷ Dport ∷ [])
    p5 port = l4

    p6 : IsPort Dport → ¬ In Proto (Dport ∷ [])
    p6 port h = l4 (inr h)

not_port : (g : Field) → IsPort g → g ≡ Proto → ⊥
not_port g (inl e) h = let k : Sport ≡ Proto = sym e ∙ h in cc
not_port g (inr e) h = let k : Dport ≡ Proto = sym e ∙ h in cc

port_range : (g : Field) (n : ℕ) → IsPort g → n < 2 ^ 16 → IsInRange g n
port_range g n (inl e) lt = subst (λ h. IsInRange h n) (sym e) lt
port_range g n (inr e) lt = subst (λ h. IsInRange h n) (sym e) lt

ported : (v q : ℕ) → v ≡ q → (q ≡ 6) ⊎ (q ≡ 17) → has_ports v ≡ true
ported v q e (inl h) = ap has_ports (e ∙ h)
ported v q e (inr h) = ap has_ports (e ∙ h)

later : (f g : Field) (fs : List Field) → same_field f g ≡ false → In g (f ∷ fs) → In g fs
later f g fs e (inl same) = absurd (unlike f g e same)
later f g fs e (inr i) = i

test-fresh : (f : Field) (fs : List Field) → InOrder f fs → (proto v : ℕ) (s t : Test) → IsFresh (f ∷ fs) proto s → In t (tests_of (test_residue f v s)) → IsFresh fs (proto_with f v proto) t
test-fresh f fs order proto v (Is g n) t fresh h = by (same_field f g) refl h
  where
    settled : (b : Bool) → In t (tests_of (verdict b)) → ⊥
    settled true i = i
    settled false i = i

    kept : same_field f g ≡ false → IsFresh fs (proto_with f v proto) (Is g n)
    kept e = (later f g fs e fresh.0, fresh.1, λ port. (λ i. (fresh.2 port).0 (inr i), ap has_ports (proto-kept f v proto (λ same. (fresh.2 port).0 (inl same))) ∙ (fresh.2 port).1))

    by : (b : Bool) → same_field f g ≡ b → In t (tests_of (cond b (verdict (v == n)) (Tests (Is g n)))) → IsFresh fs (proto_with f v proto) t
    by true e i = absurd (settled (v == n) i)
    by false e (inl same) = subst (IsFresh fs (proto_with f v proto)) (sym same) (kept e)
    by false e (inr i) = absurd i
test-fresh f fs order proto v (Port q g n) t fresh h = by (same_field f Proto) (same_field f g) (v == q) (v == n) refl refl refl h
  where
    opened : same_field f Proto ≡ true → (v == q) ≡ true → IsFresh fs (proto_with f v proto) (Is g n)
    opened e d =
        let at : f ≡ Proto = same_field-is f Proto e in
        let is : v ≡ q = grind (arith, d) in
        (elsewhere fresh.1 at, port_range g n fresh.3 fresh.4, λ port. (λ i. order.once (subst (λ k. In k fs) (sym at) i), ap (λ k. has_ports (proto_with k v proto)) at ∙ ported v q is fresh.2))
      where
        elsewhere : In g (f ∷ fs) → f ≡ Proto → In g fs
        elsewhere (inl same) at = absurd (not_port g fresh.3 (same ∙ at))
        elsewhere (inr i) at = i

    by : (a b c d : Bool) → same_field f Proto ≡ a → same_field f g ≡ b → (v == q) ≡ c →
        In t (tests_of (cond a (cond c (Tests (Is g n)) No) (cond b (cond d (Tests (Is Proto q)) No) (Tests (Port q g n))))) → IsFresh fs (proto_with f v proto) t
    by true b true d e r k (inl same) = subst (IsFresh fs (proto_with f v proto)) (sym same) (opened e k)
    by true b true d e r k (inr i) = absurd i
    by true b false d e r k i = absurd i
    by false true c d e r k i = absurd (order.ports_last (subst IsPort (sym (same_field-is f g r)) fresh.3) fresh.0)
    by false false c d e r k (inl same) = subst (IsFresh fs (proto_with f v proto)) (sym same) (later f Proto fs e fresh.0, later f g fs r fresh.1, fresh.2, fresh.3, fresh.4)
    by false false c d e r k (inr i) = absurd i
test-fresh f fs order proto v (Within g n length) t fresh h = by (same_field f g) refl h
  where
    settled : (b : Bool) → In t (tests_of (verdict b)) → ⊥
    settled true i = i
    settled false i = i

    by : (b : Bool) → same_field f g ≡ b → In t (tests_of (cond b (verdict (first_bits length v == first_bits length n)) (Tests (Within g n length)))) → IsFresh fs (proto_with f v proto) t
    by true e i = absurd (settled (first_bits length v == first_bits length n) i)
    by false e (inl same) = subst (IsFresh fs (proto_with f v proto)) (sym same) (later f g fs e fresh.0, fresh.1, fresh.2, fresh.3, fresh.4)
    by false e (inr i) = absurd i

pub residues-fresh : (f : Field) (fs : List Field) → IsRest (f ∷ fs) → (proto v : ℕ) (preds : List Pred) → AreFresh (f ∷ fs) proto preds → AreFresh fs (proto_with f v proto) (residues f v preds)
residues-fresh f fs rest proto v preds fresh t i =
    let m = in_flat_map tests_of (residues f v preds) t i in
    let k = in_map (residue f v) preds m.0 m.1 in
    let s = residue-tests f v k.0 t (subst (λ q. In t (tests_of q)) k.2 m.2) in
    test-fresh f fs (in_order f fs rest) proto v s.0 t (fresh s.0 (flat_map_in tests_of preds k.0 s.0 k.1 s.1)) s.2

-- The parts are values of the field.

limit_positive : (f : Field) → 0 < limit_of f
limit_positive EthSrc = omega arith
limit_positive EthDst = omega arith
limit_positive IpSrc = omega arith
limit_positive IpDst = omega arith
limit_positive Proto = omega arith
limit_positive Sport = omega arith
limit_positive Dport = omega arith

pub in_range : (f : Field) (n : ℕ) → n < limit_of f → IsInRange f n
in_range EthSrc n lt = lt
in_range EthDst n lt = lt
in_range IpSrc n lt = lt
in_range IpDst n lt = lt
in_range Proto n lt = lt
in_range Sport n lt = lt
in_range Dport n lt = lt

below_limit : (f : Field) (n : ℕ) → IsInRange f n → n < limit_of f
below_limit EthSrc n lt = lt
below_limit EthDst n lt = lt
below_limit IpSrc n lt = lt
below_limit IpDst n lt = lt
below_limit Proto n lt = lt
below_limit Sport n lt = lt
below_limit Dport n lt = lt

pub packet-below : (f : Field) (p : Packet) → IsPacket p → field_of f p < limit_of f
packet-below EthSrc p h = h.eth_src
packet-below EthDst p h = h.eth_dst
packet-below IpSrc p h = h.ip_src
packet-below IpDst p h = h.ip_dst
packet-below Proto p h = h.proto
packet-below Sport p h = h.sport
packet-below Dport p h = h.dport

proto_below : (q : ℕ) → (q ≡ 6) ⊎ (q ≡ 17) → q < 2 ^ 8
proto_below q (inl e) = subst (λ n. n < 2 ^ 8) (sym e) (omega arith)
proto_below q (inr e) = subst (λ n. n < 2 ^ 8) (sym e) (omega arith)

fresh-below : (f : Field) (fs : List Field) (proto n : ℕ) (t : Test) → IsFresh fs proto t → In n (test_mentions f t) → n < limit_of f
fresh-below f fs proto n (Is g m) fresh h = by (same_field f g) refl h
  where
    by : (b : Bool) → same_field f g ≡ b → In n (cond b (m ∷ []) []) → n < limit_of f
    by true e (inl same) = below_limit f n (subst (λ k. IsInRange k n) (sym (same_field-is f g e)) (subst (IsInRange g) (sym same) fresh.1))
    by true e (inr i) = absurd i
    by false e i = absurd i
fresh-below f fs proto n (Port q g m) fresh h = by (same_field f Proto) (same_field f g) refl refl h
  where
    by : (a b : Bool) → same_field f Proto ≡ a → same_field f g ≡ b → In n (cond a (q ∷ []) (cond b (m ∷ []) [])) → n < limit_of f
    by true b e r (inl same) = below_limit f n (subst (λ k. IsInRange k n) (sym (same_field-is f Proto e)) (subst (λ k. k < 2 ^ 8) (sym same) (proto_below q fresh.2)))
    by true b e r (inr i) = absurd i
    by false true e r (inl same) = below_limit f n (subst (λ k. IsInRange k n) (sym (same_field-is f g r)) (port_range g n fresh.3 (subst (λ k. k < 2 ^ 16) (sym same) fresh.4)))
    by false true e r (inr i) = absurd i
    by false false e r i = absurd i
fresh-below f fs proto n (Within g m length) fresh h = absurd h

pub mentioned-below : (f : Field) (fs : List Field) (proto n : ℕ) (preds : List Pred) → AreFresh fs proto preds → In n (flat_map (mentions f) preds) → n < limit_of f
mentioned-below f fs proto n preds fresh i = let t = in_tests f n preds i in fresh-below f fs proto n t.0 (fresh t.0 t.1) t.2

pub parts-below : (f : Field) (fs : List Field) (proto v : ℕ) (preds : List Pred) → AreFresh fs proto preds → In v (field_parts f proto preds) → v < limit_of f
parts-below f fs proto v preds fresh h = by (has_field f proto) h
  where
    named : List ℕ
    named = flat_map (mentions f) preds

    new : In v (ascending named) ⊎ ((v < limit_of f) × (¬ In v (ascending named)) × ((u : ℕ) → (¬ In u (ascending named)) → AreTogether (flat_map (prefixes f) preds) v u → v ≤ u)) → v < limit_of f
    new (inl i) = mentioned-below f fs proto v preds fresh (ascending-in named v i)
    new (inr h) = h.0

    by : (b : Bool) → In v (cond b (parts_within (bits_of f) (flat_map (prefixes f) preds) (ascending named)) (0 ∷ [])) → v < limit_of f
    by true i = new (part-is (bits_of f) (flat_map (prefixes f) preds) (ascending named) (ascending-pairwise named) (blocks-in f fs proto preds fresh) v i)
    by false (inl same) = subst (λ n. n < limit_of f) (sym same) (limit_positive f)
    by false (inr i) = absurd i

-- a port that the protocol does not have is 0
pub parts-zero : (f : Field) (proto v : ℕ) (preds : List Pred) → In v (field_parts f proto preds) → has_field f proto ≡ false → v ≡ 0
parts-zero f proto v preds h e = by (subst (λ b. In v (cond b (parts_within (bits_of f) (flat_map (prefixes f) preds) (ascending (flat_map (mentions f) preds))) (0 ∷ []))) e h)
  where
    by : In v (0 ∷ []) → v ≡ 0
    by (inl same) = same
    by (inr i) = absurd i

-- The packet with a field set is the packet with that field replaced.

set_alike : (p : Packet) → (has_ports p.proto ≡ false → (p.sport ≡ 0) × (p.dport ≡ 0)) → ports_cleared p ≡ p
set_alike p h = by (has_ports p.proto) refl
  where
    by : (b : Bool) → has_ports p.proto ≡ b → cond b p (record p { sport = 0; dport = 0 }) ≡ p
    by true e = refl
    by false e = let z = h e in λ i. record p { sport = sym z.0 i; dport = sym z.1 i }

no_ports : (p : Packet) → IsPacket p → has_ports p.proto ≡ false → (p.sport ≡ 0) × (p.dport ≡ 0)
no_ports p h e = h.no_ports (λ s. true_false (sym (ap has_ports s) ∙ e)) (λ s. true_false (sym (ap has_ports s) ∙ e))
  where
    true_false : true ≡ false → ⊥
    true_false e = cc

pub set-replaces : (f : Field) (fs : List Field) → IsRest (f ∷ fs) → (v : ℕ) (p : Packet) → IsPacket p → IsUnfixed (f ∷ fs) p → (has_field f p.proto ≡ false → v ≡ 0) → packet_with p f v ≡ replace f v p
set-replaces = by_place (λ f fs. (v : ℕ) (p : Packet) → IsPacket p → IsUnfixed (f ∷ fs) p → (has_field f p.proto ≡ false → v ≡ 0) → packet_with p f v ≡ replace f v p)
    (λ v p h opened z. set_alike (replace EthSrc v p) (λ e. no_ports p h e))
    (λ v p h opened z. set_alike (replace EthDst v p) (λ e. no_ports p h e))
    (λ v p h opened z. set_alike (replace IpSrc v p) (λ e. no_ports p h e))
    (λ v p h opened z. set_alike (replace IpDst v p) (λ e. no_ports p h e))
    (λ v p h opened z. set_alike (replace Proto v p) (λ e. (opened Sport (inr (inl refl)), opened Dport (inr (inr (inl refl))))))
    (λ v p h opened z. set_alike (replace Sport v p) (λ e. (z e, (no_ports p h e).1)))
    (λ v p h opened z. set_alike (replace Dport v p) (λ e. ((no_ports p h e).0, z e)))

pub parts-pairwise : (f : Field) (proto : ℕ) (preds : List Pred) → Pairwise (λ a b. a < b) (field_parts f proto preds)
parts-pairwise f proto preds = by (has_field f proto)
  where
    by : (b : Bool) → Pairwise (λ a b. a < b) (cond b (parts_within (bits_of f) (flat_map (prefixes f) preds) (ascending (flat_map (mentions f) preds))) (0 ∷ []))
    by true = within-pairwise (bits_of f) (flat_map (prefixes f) preds) (ascending (flat_map (mentions f) preds))
    by false = (tt, tt)
