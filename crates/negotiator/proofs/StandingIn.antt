-- The packets that are found stand for all others.
use Rattle.std.proofs.Common.{◌≡◌, ◌≢◌, ◌≤◌, ◌<◌, ◌⊎◌, inl, inr, ℕ, ◌^◌, Bool, true, false, nat_lt, cond, List, [], ◌∷◌, ◌++◌, Contains, refl, sym, ◌∙◌, ap, subst, arith}
use Rattle.std.specs.List.{AllByRecursion, flat_map}
use Rattle.merlin_model.specs.declared.network.HostAddress.{HostAddress}
use Rattle.merlin_model.specs.declared.policy.Field.{Field}
use Rattle.merlin_model.specs.declared.policy.Field.TheVariants.{Proto, Sport, Dport}
use Rattle.merlin_model.specs.declared.policy.Pred.{Pred}
use Rattle.merlin_model.specs.Networks.{Pairwise}
use Rattle.merlin_model.specs.Packets.{Packet, IsPacket}
use Rattle.merlin_model.specs.Predicates.{IsPred}
use Rattle.merlin_model.proofs.Members.{In, in_to, in_append-left, in_append-right, in_map, map_in, in_flat_map, flat_map_in, all_both}
use Rattle.packet_model.specs.Fields.{IsBetween, has_ports}
use Rattle.predicate_logic.specs.Mentions.{mentions, ascending}
use Rattle.predicate_logic.specs.Residues.{residues}
use Rattle.predicate_logic.proofs.Placing.{ascending-pairwise, ascending-in}
use Rattle.predicate_split.specs.Parts.{least_from}
use Rattle.predicate_split.specs.Cells.{between_hosts, packet_between, protos}
use Rattle.predicate_split.specs.Walks.{AreFresh}
use Rattle.predicate_split.proofs.LeastNumbers.{least_from-least, least_from-out}
use Rattle.predicate_split.proofs.PartLaws.{decide_in}
use Rattle.predicate_split.proofs.Splitting.{mentioned-below}
use Rattle.predicate_split.proofs.Owners.{GoesBetween, StandsFor, goes, left-fresh, under-fresh, alike-between, alike-under, under-pass, unnamed-pass}
use Rattle.negotiator.specs.StandIns.{IsHostAddress, AreJudgedAlike, IsNoLaterThan, AreStandIns, least_other, ports_told, HasSmallPorts, AreFreeOfPorts, packets_to, packets_under, other_packets, stand_ins}

all-in : {X : Type 0} (P : X → Type 0) (xs : List X) → ((x : X) → In x xs → P x) → AllByRecursion P xs
all-in P [] h = tt
all-in P (x ∷ xs) h = (h x (inl refl), all-in P xs (λ y i. h y (inr i)))

-- The least other number.

other-small : (limit : ℕ) (named : List ℕ) → AllByRecursion (λ n. n < limit) (least_other limit named)
other-small limit named = by (nat_lt (least_from 0 named) limit) refl
  where
    by : (b : Bool) → nat_lt (least_from 0 named) limit ≡ b → AllByRecursion (λ n. n < limit) (cond b (least_from 0 named ∷ []) [])
    by true e = let less : least_from 0 named < limit = grind (arith, e) in (less, tt)
    by false e = tt

other-in : (limit v : ℕ) (named : List ℕ) → v < limit → (¬ In v named) → In (least_from 0 named) (least_other limit named)
other-in limit v named small out = by (nat_lt (least_from 0 named) limit) refl
  where
    by : (b : Bool) → nat_lt (least_from 0 named) limit ≡ b → In (least_from 0 named) (cond b (least_from 0 named ∷ []) [])
    by true e = inl refl
    by false e = let le = least_from-least 0 v named (omega arith) out in absurd (grind (arith, e, le, small))

-- The numbers that are named and the least other stand for each below a limit.
told-for : (limit v : ℕ) (named : List ℕ) → Pairwise (λ a b. a < b) named → v < limit →
    (u : ℕ) × In u (named ++ least_other limit named) × (u ≤ v) × StandsFor named v u
told-for limit v named up small = by (decide_in v named)
  where
    by : In v named ⊎ (¬ In v named) → (u : ℕ) × In u (named ++ least_other limit named) × (u ≤ v) × StandsFor named v u
    by (inl i) = (v, in_append-left named (least_other limit named) v i, omega arith, inl refl)
    by (inr out) = (
      least_from 0 named,
      in_append-right named (least_other limit named) (least_from 0 named) (other-in limit v named small out),
      least_from-least 0 v named (omega arith) out,
      inr (out, least_from-out 0 named up),
    )

abbrev mentioned : Field → List Pred → List ℕ
mentioned f under = ascending (flat_map (mentions f) under)

ports-for : (f : Field) (under : List Pred) (proto v : ℕ) → v < 2 ^ 16 → (has_ports proto ≡ false → v ≡ 0) →
    (u : ℕ) × In u (ports_told f under proto) × (u ≤ v) × StandsFor (mentioned f under) v u
ports-for f under proto v small free = by (has_ports proto) refl
  where
    by : (b : Bool) → has_ports proto ≡ b →
        (u : ℕ) × In u (cond b (mentioned f under ++ least_other (2 ^ 16) (mentioned f under)) (0 ∷ [])) × (u ≤ v) × StandsFor (mentioned f under) v u
    by true e = told-for (2 ^ 16) v (mentioned f under) (ascending-pairwise (flat_map (mentions f) under)) small
    by false e = (0, inl refl, omega arith, inl (free e))

-- What the code asks of ports.

told-small : (f : Field) (under : List Pred) (proto : ℕ) → ((n : ℕ) → In n (flat_map (mentions f) under) → n < 2 ^ 16) → AllByRecursion (λ n. n < 2 ^ 16) (ports_told f under proto)
told-small f under proto below = by (has_ports proto)
  where
    by : (b : Bool) → AllByRecursion (λ n. n < 2 ^ 16) (cond b (mentioned f under ++ least_other (2 ^ 16) (mentioned f under)) (0 ∷ []))
    by true =
        all_both (λ n. n < 2 ^ 16) (mentioned f under) (least_other (2 ^ 16) (mentioned f under))
        (all-in (λ n. n < 2 ^ 16) (mentioned f under) (λ n i. below n (ascending-in (flat_map (mentions f) under) n i))) (other-small (2 ^ 16) (mentioned f under))
    by false = let less : 0 < 65536 = omega arith in (less, tt)

pub told-free : (f : Field) (under : List Pred) (proto : ℕ) → AreFreeOfPorts proto (ports_told f under proto)
told-free f under proto e =
    subst (λ b. AllByRecursion (λ n. n ≡ 0) (cond b (mentioned f under ++ least_other (2 ^ 16) (mentioned f under)) (0 ∷ []))) (sym e) (refl, tt)

pub small-ports : (src dst : HostAddress) (preds : List Pred) → AllByRecursion IsPred preds → (proto : ℕ) → HasSmallPorts (between_hosts src dst preds) proto
small-ports src dst preds well proto = record {
  sports = told-small Sport under proto (λ n i. mentioned-below Sport fs proto n under fresh i);
  dports = told-small Dport under proto (λ n i. mentioned-below Dport fs proto n under fresh i);
}
  where
    fs : List Field
    fs = Sport ∷ Dport ∷ []

    under : List Pred
    under = residues Proto proto (between_hosts src dst preds)

    fresh : AreFresh fs proto under
    fresh = under-fresh src dst preds well proto

pub small-protos : (src dst : HostAddress) (preds : List Pred) → AllByRecursion IsPred preds → AllByRecursion (λ n. n < 2 ^ 8) (protos (between_hosts src dst preds))
small-protos src dst preds well =
    all-in (λ n. n < 2 ^ 8) (protos left) (λ n i. mentioned-below Proto (Proto ∷ Sport ∷ Dport ∷ []) 0 n left (left-fresh src dst preds well) (ascending-in (flat_map (mentions Proto) left) n i))
  where
    left : List Pred
    left = between_hosts src dst preds

-- Packets with no greater protocol and ports come no later.

same-packet : (p : Packet) (a b c d e f g : ℕ) → p.eth_src ≡ a → p.eth_dst ≡ b → p.ip_src ≡ c → p.ip_dst ≡ d → p.proto ≡ e → f ≡ p.sport → g ≡ p.dport →
    (record { eth_src = a; eth_dst = b; ip_src = c; ip_dst = d; proto = e; sport = f; dport = g }) ≡ p
same-packet p a b c d e f g ea eb ec ed ee ef eg =
    ap (λ (x : ℕ). record { eth_src = x; eth_dst = b; ip_src = c; ip_dst = d; proto = e; sport = f; dport = g }) (sym ea)
    ∙ ap (λ (x : ℕ). record { eth_src = p.eth_src; eth_dst = x; ip_src = c; ip_dst = d; proto = e; sport = f; dport = g }) (sym eb)
    ∙ ap (λ (x : ℕ). record { eth_src = p.eth_src; eth_dst = p.eth_dst; ip_src = x; ip_dst = d; proto = e; sport = f; dport = g }) (sym ec)
    ∙ ap (λ (x : ℕ). record { eth_src = p.eth_src; eth_dst = p.eth_dst; ip_src = p.ip_src; ip_dst = x; proto = e; sport = f; dport = g }) (sym ed)
    ∙ ap (λ (x : ℕ). record { eth_src = p.eth_src; eth_dst = p.eth_dst; ip_src = p.ip_src; ip_dst = p.ip_dst; proto = x; sport = f; dport = g }) (sym ee)
    ∙ ap (λ (x : ℕ). record { eth_src = p.eth_src; eth_dst = p.eth_dst; ip_src = p.ip_src; ip_dst = p.ip_dst; proto = p.proto; sport = x; dport = g }) ef
    ∙ ap (λ (x : ℕ). record { eth_src = p.eth_src; eth_dst = p.eth_dst; ip_src = p.ip_src; ip_dst = p.ip_dst; proto = p.proto; sport = p.sport; dport = x }) eg

no-later : (src dst : HostAddress) (p : Packet) (proto sport dport : ℕ) → GoesBetween src dst p → (proto < p.proto) ⊎ ((p.proto ≡ proto) × (sport ≤ p.sport) × (dport ≤ p.dport)) →
    IsNoLaterThan (packet_between src dst proto sport dport) p
no-later src dst p proto sport dport at (inl less) =
    inr (inr (sym at.eth_src, inr (sym at.eth_dst, inr (sym at.ip_src, inr (sym at.ip_dst, inl less)))))
no-later src dst p proto sport dport at (inr (same, s, d)) = by (ports s d)
  where
    ports : sport ≤ p.sport → dport ≤ p.dport → (sport < p.sport) ⊎ ((sport ≡ p.sport) × ((dport < p.dport) ⊎ (dport ≡ p.dport)))
    ports a b = sports (nat_lt sport p.sport) refl
      where
        dports : (c : Bool) → nat_lt dport p.dport ≡ c → (dport < p.dport) ⊎ (dport ≡ p.dport)
        dports true e = inl (grind (arith, e))
        dports false e = inr (grind (arith, e, b))

        sports : (c : Bool) → nat_lt sport p.sport ≡ c → (sport < p.sport) ⊎ ((sport ≡ p.sport) × ((dport < p.dport) ⊎ (dport ≡ p.dport)))
        sports true e = inl (grind (arith, e))
        sports false e = let equal : sport ≡ p.sport = grind (arith, e, a) in inr (equal, dports (nat_lt dport p.dport) refl)

    by : (sport < p.sport) ⊎ ((sport ≡ p.sport) × ((dport < p.dport) ⊎ (dport ≡ p.dport))) → IsNoLaterThan (packet_between src dst proto sport dport) p
    by (inl less) = inr (inr (sym at.eth_src, inr (sym at.eth_dst, inr (sym at.ip_src, inr (sym at.ip_dst, inr (sym same, inl less))))))
    by (inr (e, inl less)) = inr (inr (sym at.eth_src, inr (sym at.eth_dst, inr (sym at.ip_src, inr (sym at.ip_dst, inr (sym same, inr (e, inl less)))))))
    by (inr (e, inr f)) = inl (same-packet p src.eth dst.eth src.ip dst.ip proto sport dport at.eth_src at.eth_dst at.ip_src at.ip_dst same e f)

module _ (src dst : HostAddress) (preds : List Pred) (well : AllByRecursion IsPred preds) (differ : src ≢ dst) (is_src : IsHostAddress src) (is_dst : IsHostAddress dst) where
  abbrev left : List Pred
  left = between_hosts src dst preds

  abbrev under : ℕ → List Pred
  under proto = residues Proto proto left

  abbrev sports : ℕ → List ℕ
  sports proto = ports_told Sport (under proto) proto

  abbrev dports : ℕ → List ℕ
  dports proto = ports_told Dport (under proto) proto

  at-packet : (proto sport dport : ℕ) → GoesBetween src dst (packet_between src dst proto sport dport)
  at-packet proto sport dport = record { eth_src = refl; eth_dst = refl; ip_src = refl; ip_dst = refl }

  -- each is a packet between the hosts

  is-packet : (proto sport dport : ℕ) → proto < 2 ^ 8 → sport < 2 ^ 16 → dport < 2 ^ 16 → (has_ports proto ≡ false → (sport ≡ 0) × (dport ≡ 0)) → IsPacket (packet_between src dst proto sport dport)
  is-packet proto sport dport p s d free = record {
    eth_src = is_src.0;
    eth_dst = is_dst.0;
    ip_src = is_src.1;
    ip_dst = is_dst.1;
    proto = p;
    sport = s;
    dport = d;
    no_ports = λ a b. let none : has_ports proto ≡ false = grind (arith, a, b) in free none;
  }

  abbrev Sound : Packet → Type 0
  Sound c = IsPacket c × IsBetween c src dst

  sound : (proto sport dport : ℕ) → proto < 2 ^ 8 → sport < 2 ^ 16 → dport < 2 ^ 16 → (has_ports proto ≡ false → (sport ≡ 0) × (dport ≡ 0)) → Sound (packet_between src dst proto sport dport)
  sound proto sport dport p s d free = (is-packet proto sport dport p s d free, (differ, refl, refl))

  all-from : {X : Type 0} (P : X → Type 0) (xs : List X) (x : X) → AllByRecursion P xs → In x xs → P x
  all-from P [] x h i = absurd i
  all-from P (y ∷ ys) x h (inl e) = subst P (sym e) h.0
  all-from P (y ∷ ys) x h (inr i) = all-from P ys x h.1 i

  under-sound : (c : Packet) → In c (flat_map (packets_under src dst left) (protos left)) → Sound c
  under-sound c i =
      let m = in_flat_map (packets_under src dst left) (protos left) c i in
      let k = in_flat_map (packets_to src dst (dports m.0) m.0) (sports m.0) c m.2 in
      let j = in_map (packet_between src dst m.0 k.0) (dports m.0) c k.2 in
      subst Sound (sym j.2)
      (sound m.0 k.0 j.0 (all-from (λ n. n < 2 ^ 8) (protos left) m.0 (small-protos src dst preds well) m.1)
      (all-from (λ n. n < 2 ^ 16) (sports m.0) k.0 (small-ports src dst preds well m.0).sports k.1)
      (all-from (λ n. n < 2 ^ 16) (dports m.0) j.0 (small-ports src dst preds well m.0).dports j.1)
      (λ e. (all-from (λ n. n ≡ 0) (sports m.0) k.0 (told-free Sport (under m.0) m.0 e) k.1, all-from (λ n. n ≡ 0) (dports m.0) j.0 (told-free Dport (under m.0) m.0 e) j.1)))

  other-sound : (c : Packet) → In c (other_packets src dst (protos left)) → Sound c
  other-sound c i =
      let m = in_map (λ proto. packet_between src dst proto 0 0) (least_other (2 ^ 8) (protos left)) c i in
      subst Sound (sym m.2)
      (sound m.0 0 0 (all-from (λ n. n < 2 ^ 8) (least_other (2 ^ 8) (protos left)) m.0 (other-small (2 ^ 8) (protos left)) m.1) (omega arith) (omega arith) (λ e. (refl, refl)))

  all-sound : AllByRecursion Sound (stand_ins preds src dst)
  all-sound =
      all_both Sound (flat_map (packets_under src dst left) (protos left)) (other_packets src dst (protos left))
      (all-in Sound (flat_map (packets_under src dst left) (protos left)) under-sound) (all-in Sound (other_packets src dst (protos left)) other-sound)

  -- each packet has one that stands for it

  abbrev HasStandIn : Packet → Type 0
  HasStandIn p = (c : Packet) × In c (stand_ins preds src dst) × IsNoLaterThan c p × AreJudgedAlike preds p c

  named : (p : Packet) → IsPacket p → GoesBetween src dst p → In p.proto (protos left) → HasStandIn p
  named p packet at i =
      let free = no-ports packet in
      let s = ports-for Sport (under p.proto) p.proto p.sport packet.sport (λ e. (free e).0) in
      let d = ports-for Dport (under p.proto) p.proto p.dport packet.dport (λ e. (free e).1) in
      let c = packet_between src dst p.proto s.0 d.0 in (
        c,
        in_append-left (flat_map (packets_under src dst left) (protos left)) (other_packets src dst (protos left)) c
            (flat_map_in (packets_under src dst left) (protos left) p.proto c i
            (flat_map_in (packets_to src dst (dports p.proto) p.proto) (sports p.proto) s.0 c s.1
            (map_in (packet_between src dst p.proto s.0) (dports p.proto) d.0 d.1))),
        no-later src dst p p.proto s.0 d.0 at (inr (refl, s.2, d.2)),
        alike-under src dst p c p.proto refl refl at (at-packet p.proto s.0 d.0) preds (under-pass src dst preds well p.proto p c s.3 d.3),
      )
    where
      no-ports : IsPacket p → has_ports p.proto ≡ false → (p.sport ≡ 0) × (p.dport ≡ 0)
      no-ports packet e = packet.no_ports (λ s. clash (sym (ap has_ports s) ∙ e)) (λ s. clash (sym (ap has_ports s) ∙ e))
        where
          clash : true ≡ false → ⊥
          clash e = cc

  unnamed : (p : Packet) → IsPacket p → GoesBetween src dst p → (¬ In p.proto (protos left)) → HasStandIn p
  unnamed p packet at out =
      let least = least_from 0 (protos left) in
      let c = packet_between src dst least 0 0 in
      let le = least_from-least 0 p.proto (protos left) (omega arith) out in (
        c,
        in_append-right (flat_map (packets_under src dst left) (protos left)) (other_packets src dst (protos left)) c
            (map_in (λ proto. packet_between src dst proto 0 0) (least_other (2 ^ 8) (protos left)) least (other-in (2 ^ 8) p.proto (protos left) packet.proto out)),
        no-later src dst p least 0 0 at (order le),
        alike-between src dst p c at (at-packet least 0 0) preds (unnamed-pass src dst preds well p c out (least_from-out 0 (protos left) (ascending-pairwise (flat_map (mentions Proto) left)))),
      )
    where
      order : least_from 0 (protos left) ≤ p.proto →
          (least_from 0 (protos left) < p.proto) ⊎ ((p.proto ≡ least_from 0 (protos left)) × (0 ≤ p.sport) × (0 ≤ p.dport))
      order le = by (nat_lt (least_from 0 (protos left)) p.proto) refl
        where
          by : (b : Bool) → nat_lt (least_from 0 (protos left)) p.proto ≡ b →
              (least_from 0 (protos left) < p.proto) ⊎ ((p.proto ≡ least_from 0 (protos left)) × (0 ≤ p.sport) × (0 ≤ p.dport))
          by true e = inl (grind (arith, e))
          by false e = let same : p.proto ≡ least_from 0 (protos left) = grind (arith, e, le) in inr (same, omega arith, omega arith)

  stand-in : (p : Packet) → IsPacket p → IsBetween p src dst → (c : Packet) × Contains (stand_ins preds src dst) c × IsNoLaterThan c p × AreJudgedAlike preds p c
  stand-in p packet between =
      let h = by (decide_in p.proto (protos left)) in
      (h.0, in_to (stand_ins preds src dst) h.0 h.1, h.2, h.3)
    where
      by : In p.proto (protos left) ⊎ (¬ In p.proto (protos left)) → HasStandIn p
      by (inl i) = named p packet (goes p src dst between) i
      by (inr out) = unnamed p packet (goes p src dst between) out

  pub stood-in : AreStandIns preds src dst (stand_ins preds src dst)
  stood-in = record { between = all-sound; each = stand-in }
