-- A cell's own packet is the least for which the cell is the first that fits.
use Rattle.std.proofs.Common.{Option, Some, ◌≡◌, ◌≢◌, ◌≤◌, ◌<◌, ◌⊎◌, ◌^◌, ℕ, inl, inr, Bool, true, false, cond, List, [], ◌∷◌, find, refl, sym, ◌∙◌, ap, ap₂, subst, arith}
use Rattle.std.specs.List.{AllByRecursion, flat_map}
use Rattle.merlin_model.specs.declared.network.HostAddress.{HostAddress}
use Rattle.merlin_model.specs.declared.policy.Field.{Field}
use Rattle.merlin_model.specs.declared.policy.Field.TheVariants.{Proto, Sport, Dport}
use Rattle.merlin_model.specs.declared.policy.Pred.{Pred}
use Rattle.merlin_model.specs.Networks.{Pairwise}
use Rattle.merlin_model.specs.Packets.{Packet, IsPacket, IsLeastPacket, fields_of, source_of, destination_of}
use Rattle.merlin_model.specs.Predicates.{IsPred}
use Rattle.packet_model.specs.Fields.{has_ports}
use Rattle.predicate_logic.specs.Residues.{residues}
use Rattle.predicate_logic.specs.Mentions.{mentions, ascending}
use Rattle.predicate_logic.proofs.Placing.{ascending-pairwise}
use Rattle.predicate_split.specs.declared.pair_cells.Cell.{Cell}
use Rattle.predicate_split.specs.Parts.{least_from}
use Rattle.predicate_split.specs.Walks.{IsNotAfter}
use Rattle.predicate_split.specs.Cells.{cell_matches, between_hosts, packet_between, protos, ports_under, value_of, packet_of_cell, own_packet, cell_of, cells_between, FitsFirst}
use Rattle.predicate_split.proofs.LeastNumbers.{least_from-least, least_from-out}
use Rattle.predicate_split.proofs.Properties.{up_to-packet}
use Rattle.predicate_split.proofs.Owners.{GoesBetween, goes}
use Rattle.predicate_split.proofs.FirstCells.{Names, NamesParts, IsOwn, found-own, exists}

-- What a cell names of a value.

names-one : (ns : List ℕ) (v : ℕ) (a b : Option ℕ) → Names ns v a → Names ns v b → a ≡ b
names-one ns v a b (inl (i, e)) (inl (j, f)) = e ∙ sym f
names-one ns v a b (inl (i, e)) (inr (j, f)) = absurd (j i)
names-one ns v a b (inr (i, e)) (inl (j, f)) = absurd (i j)
names-one ns v a b (inr (i, e)) (inr (j, f)) = e ∙ sym f

value-below : (ns : List ℕ) (v : ℕ) (a : Option ℕ) → Names ns v a → value_of ns a ≤ v
value-below ns v a (inl (i, e)) = subst (λ o. value_of ns o ≤ v) (sym e) (omega arith)
value-below ns v a (inr (out, e)) = subst (λ o. value_of ns o ≤ v) (sym e) (least_from-least 0 v ns (omega arith) out)

value-named : (ns : List ℕ) (v : ℕ) (a : Option ℕ) → Pairwise (λ m n. m < n) ns → Names ns v a → Names ns (value_of ns a) a
value-named ns v a up (inl (i, e)) = subst (λ o. Names ns (value_of ns o) o) (sym e) (inl (i, refl))
value-named ns v a up (inr (out, e)) = subst (λ o. Names ns (value_of ns o) o) (sym e) (inr (least_from-out 0 ns up, refl))

ports-up : (f : Field) (left : List Pred) (proto : ℕ) → Pairwise (λ m n. m < n) (ports_under f left proto)
ports-up f left proto = by (has_ports proto)
  where
    by : (b : Bool) → Pairwise (λ m n. m < n) (cond b (ascending (flat_map (mentions f) (residues Proto proto left))) [])
    by true = ascending-pairwise (flat_map (mentions f) (residues Proto proto left))
    by false = tt

-- A packet has one own cell.

parts-one : (src dst : HostAddress) (preds left : List Pred) (p : Packet) (b c : Cell) → NamesParts left p b → NamesParts left p c → cell_of preds left src dst b.proto b.sport b.dport ≡ cell_of preds left src dst c.proto c.sport c.dport
parts-one src dst preds left p b c (inl (i, e, s, d)) (inl (j, f, t, u)) =
    ap (λ o. cell_of preds left src dst o b.sport b.dport) (e ∙ sym f)
    ∙ ap (λ o. cell_of preds left src dst c.proto o b.dport) (names-one (ports_under Sport left p.proto) p.sport b.sport c.sport s t)
    ∙ ap (λ o. cell_of preds left src dst c.proto c.sport o) (names-one (ports_under Dport left p.proto) p.dport b.dport c.dport d u)
parts-one src dst preds left p b c (inl h) (inr k) = absurd (k.0 h.0)
parts-one src dst preds left p b c (inr h) (inl k) = absurd (h.0 k.0)
parts-one src dst preds left p b c (inr (i, e, s, d)) (inr (j, f, t, u)) =
    ap (λ o. cell_of preds left src dst o b.sport b.dport) (e ∙ sym f)
    ∙ ap (λ o. cell_of preds left src dst c.proto o b.dport) (s ∙ sym t)
    ∙ ap (λ o. cell_of preds left src dst c.proto c.sport o) (d ∙ sym u)

own-one : (src dst : HostAddress) (preds : List Pred) (p : Packet) (b c : Cell) → IsOwn src dst preds p b → IsOwn src dst preds p c → b ≡ c
own-one src dst preds p b c h k = h.made ∙ parts-one src dst preds (between_hosts src dst preds) p b c h.parts k.parts ∙ sym k.made

-- The cell's own packet beside a packet of which this is the own cell.

pub record IsLeastOwn (src dst : HostAddress) (left : List Pred) (p : Packet) (c : Cell) (o : Packet) : Type 0 where
  is_packet : IsPacket o
  goes : GoesBetween src dst o
  parts : NamesParts left o c
  below : IsNotAfter (fields_of o) (fields_of p)

at_most : (a b : ℕ) → a ≤ b → (a < b) ⊎ (a ≡ b)
at_most a b le = grind (arith, le)

step-below : (a b : ℕ) (xs ys : List ℕ) → a ≤ b → IsNotAfter xs ys → IsNotAfter (a ∷ xs) (b ∷ ys)
step-below a b xs ys le h = by (at_most a b le)
  where
    by : (a < b) ⊎ (a ≡ b) → IsNotAfter (a ∷ xs) (b ∷ ys)
    by (inl less) = inl less
    by (inr same) = inr (same, h)

below-limit : (a b n : ℕ) → a ≤ b → b < n → a < n
below-limit a b n le lt = omega arith

below-zero : (a b : ℕ) → a ≤ b → b ≡ 0 → a ≡ 0
below-zero a b le e = omega arith

not_above : (a b : ℕ) → a ≡ b → a ≤ b
not_above a b e = omega arith

between-below : (src dst : HostAddress) (p : Packet) (proto sport dport : ℕ) → GoesBetween src dst p → proto ≤ p.proto → sport ≤ p.sport → dport ≤ p.dport → IsNotAfter (fields_of (packet_between src dst proto sport dport)) (fields_of p)
between-below src dst p proto sport dport at m s d =
    inr (
      sym at.eth_src,
      inr (
        sym at.eth_dst,
        inr (
          sym at.ip_src,
          inr (
            sym at.ip_dst,
            step-below proto p.proto (sport ∷ dport ∷ []) (p.sport ∷ p.dport ∷ []) m (step-below sport p.sport (dport ∷ []) (p.dport ∷ []) s (step-below dport p.dport [] [] d tt)),
          ),
        ),
      ),
    )

between-packet : (src dst : HostAddress) (p : Packet) (proto sport dport : ℕ) → IsPacket p → GoesBetween src dst p → proto ≤ p.proto → sport ≤ p.sport → dport ≤ p.dport →
    (proto ≢ 6 → proto ≢ 17 → (sport ≡ 0) × (dport ≡ 0)) → IsPacket (packet_between src dst proto sport dport)
between-packet src dst p proto sport dport packet at m s d none = record {
  eth_src = subst (λ n. n < 2 ^ 48) at.eth_src packet.eth_src;
  eth_dst = subst (λ n. n < 2 ^ 48) at.eth_dst packet.eth_dst;
  ip_src = subst (λ n. n < 2 ^ 32) at.ip_src packet.ip_src;
  ip_dst = subst (λ n. n < 2 ^ 32) at.ip_dst packet.ip_dst;
  proto = below-limit proto p.proto (2 ^ 8) m packet.proto;
  sport = below-limit sport p.sport (2 ^ 16) s packet.sport;
  dport = below-limit dport p.dport (2 ^ 16) d packet.dport;
  no_ports = none;
}

between-goes : (src dst : HostAddress) (proto sport dport : ℕ) → GoesBetween src dst (packet_between src dst proto sport dport)
between-goes src dst proto sport dport = record { eth_src = refl; eth_dst = refl; ip_src = refl; ip_dst = refl }

parts-least : (src dst : HostAddress) (left : List Pred) (p : Packet) (c : Cell) → IsPacket p → GoesBetween src dst p → NamesParts left p c → IsLeastOwn src dst left p c (packet_of_cell left src dst c.proto c.sport c.dport)
parts-least src dst left p c packet at (inl (i, e, s, d)) = subst (λ o. IsLeastOwn src dst left p c (packet_of_cell left src dst o c.sport c.dport)) (sym e) least
  where
    S : List ℕ
    S = ports_under Sport left p.proto

    D : List ℕ
    D = ports_under Dport left p.proto

    sport : value_of S c.sport ≤ p.sport
    sport = value-below S p.sport c.sport s

    dport : value_of D c.dport ≤ p.dport
    dport = value-below D p.dport c.dport d

    none : p.proto ≢ 6 → p.proto ≢ 17 → (value_of S c.sport ≡ 0) × (value_of D c.dport ≡ 0)
    none x y = let z = packet.no_ports x y in (below-zero (value_of S c.sport) p.sport sport z.0, below-zero (value_of D c.dport) p.dport dport z.1)

    least : IsLeastOwn src dst left p c (packet_between src dst p.proto (value_of S c.sport) (value_of D c.dport))
    least = record {
      is_packet = between-packet src dst p p.proto (value_of S c.sport) (value_of D c.dport) packet at (omega arith) sport dport none;
      goes = between-goes src dst p.proto (value_of S c.sport) (value_of D c.dport);
      parts = inl (i, e, value-named S p.sport c.sport (ports-up Sport left p.proto) s, value-named D p.dport c.dport (ports-up Dport left p.proto) d);
      below = between-below src dst p p.proto (value_of S c.sport) (value_of D c.dport) at (omega arith) sport dport;
    }
parts-least src dst left p c packet at (inr (out, e, s, d)) = subst (λ o. IsLeastOwn src dst left p c (packet_of_cell left src dst o c.sport c.dport)) (sym e) least
  where
    proto : ℕ
    proto = least_from 0 (protos left)

    below : proto ≤ p.proto
    below = least_from-least 0 p.proto (protos left) (omega arith) out

    least : IsLeastOwn src dst left p c (packet_between src dst proto 0 0)
    least = record {
      is_packet = between-packet src dst p proto 0 0 packet at below (omega arith) (omega arith) (λ x y. (refl, refl));
      goes = between-goes src dst proto 0 0;
      parts = inr (least_from-out 0 (protos left) (ascending-pairwise (flat_map (mentions Proto) left)), e, s, d);
      below = between-below src dst p proto 0 0 at below (omega arith) (omega arith);
    }

module _ (preds : List Pred) (src dst : HostAddress) (c : Cell) (well : AllByRecursion IsPred preds) where
  least-of : (q : Packet) → IsPacket q → FitsFirst preds src dst c q → IsLeastOwn src dst (between_hosts src dst preds) q c (own_packet preds src dst c)
  least-of q packet h = parts-least src dst (between_hosts src dst preds) q c packet (goes q src dst h.0) (found-own src dst preds well q packet (goes q src dst h.0) c h.1).parts

  own-found : (p : Packet) → IsPacket p → FitsFirst preds src dst c p → find (cell_matches (own_packet preds src dst c)) (cells_between preds src dst) ≡ Some c
  own-found p packet h =
      let o = own_packet preds src dst c in
      let least = least-of p packet h in
      let f = exists src dst preds well o least.is_packet least.goes in
      let own : IsOwn src dst preds o c = record { parts = least.parts; made = (found-own src dst preds well p packet (goes p src dst h.0) c h.1).made } in
      f.1 ∙ ap Some (own-one src dst preds o f.0 c (found-own src dst preds well o least.is_packet least.goes f.0 f.1) own)

  pub own-least : (p : Packet) → IsPacket p → FitsFirst preds src dst c p → IsLeastPacket (FitsFirst preds src dst c) (own_packet preds src dst c)
  own-least p packet h =
      let o = own_packet preds src dst c in
      let least = least-of p packet h in record {
        is_packet = least.is_packet;
        has = ((h.0.0, source-is least.goes, dest-is least.goes), own-found p packet h);
        least = λ q other k. up_to-packet o q (least-of q other k).below;
      }
    where
      source-is : GoesBetween src dst (own_packet preds src dst c) → source_of (own_packet preds src dst c) ≡ src
      source-is at = ap₂ (λ (e i : ℕ). record { eth = e; ip = i }) at.eth_src at.ip_src

      dest-is : GoesBetween src dst (own_packet preds src dst c) → destination_of (own_packet preds src dst c) ≡ dst
      dest-is at = ap₂ (λ (e i : ℕ). record { eth = e; ip = i }) at.eth_dst at.ip_dst
