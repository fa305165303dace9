-- Texts of packets, part by part.
use Rattle.std.proofs.Common.{◌≡◌, ◌+◌, ◌<◌, ◌≤◌, ◌⊎◌, inl, inr, ℕ, zero, suc, Bool, true, false, cond, List, [], ◌∷◌, ◌++◌, length, take, drop, get_or, refl, sym, ap, ◌∙◌, subst, arith, add-one}
use Rattle.std.specs.List.{AllByRecursion}
use Rattle.merlin_model.specs.declared.policy.Field.{Field}
use Rattle.merlin_model.specs.declared.policy.Field.TheVariants.{EthSrc, EthDst, IpSrc, IpDst, Proto, Sport, Dport}
use Rattle.merlin_model.specs.Packets.{Packet, IsPacket, field_of}
use Rattle.merlin_model.specs.Predicates.{IsPort}
use Rattle.merlin_base.proofs.Unique.{IsMac-one, IsIp-one, IsDecimal-one}
use Rattle.packet_model.specs.Fields.{has_ports, ports_cleared, packet_with}
use Rattle.packet_model.specs.Texts.{all_fields, IsValueText, AreValueTexts, IsPacketText, BeginsPacket, IsFirstWrong, parts_of}

-- one more element of a list that is taken from the front
next_at : {X : Type 0} (xs : List X) (i : ℕ) (x : X) (ys : List X) → drop i xs ≡ x ∷ ys → (i < length xs) × (take (suc i) xs ≡ take i xs ++ x ∷ []) × (drop (suc i) xs ≡ ys)
next_at [] zero x ys e = cc
next_at [] (suc i) x ys e = cc
next_at (z ∷ xs) zero x ys e = (omega arith, cc, cc)
next_at (z ∷ xs) (suc i) x ys e = let r = next_at xs i x ys e in (omega arith, ap (λ zs. z ∷ zs) r.1, r.2)

pub next_part : {X : Type 0} (xs : List X) (i : ℕ) (x : X) (ys : List X) → drop i xs ≡ x ∷ ys → (i < length xs) × (take (i + 1) xs ≡ take i xs ++ x ∷ []) × (drop (i + 1) xs ≡ ys)
next_part xs i x ys e = subst (λ j. (i < length xs) × (take j xs ≡ take i xs ++ x ∷ []) × (drop j xs ≡ ys)) (sym (add-one i)) (next_at xs i x ys e)

-- the first of such parts are such parts
pub AreValueTexts-take : (p : Packet) (k : ℕ) (fields : List Field) (parts : List (List ℕ)) → AreValueTexts p fields parts → AreValueTexts p fields (take k parts)
AreValueTexts-take p zero fields parts h = tt
AreValueTexts-take p (suc k) fields [] h = tt
AreValueTexts-take p (suc k) [] (part ∷ parts) h = absurd h
AreValueTexts-take p (suc k) (field ∷ fields) (part ∷ parts) h = (h.0, AreValueTexts-take p k fields parts h.1)

AreValueTexts-front : (p : Packet) (fields : List Field) (parts more : List (List ℕ)) → AreValueTexts p fields (parts ++ more) → AreValueTexts p fields parts
AreValueTexts-front p fields [] more h = tt
AreValueTexts-front p [] (part ∷ parts) more h = absurd h
AreValueTexts-front p (field ∷ fields) (part ∷ parts) more h = (h.0, AreValueTexts-front p fields parts more h.1)

-- no more parts than fields
pub AreValueTexts-length : (p : Packet) (fields : List Field) (parts : List (List ℕ)) → AreValueTexts p fields parts → length parts ≤ length fields
AreValueTexts-length p fields [] h = omega arith
AreValueTexts-length p [] (part ∷ parts) h = absurd h
AreValueTexts-length p (field ∷ fields) (part ∷ parts) h = let l : length parts ≤ length fields = AreValueTexts-length p fields parts h.1 in omega arith

-- the part after some, and back
AreValueTexts-last : (p : Packet) (fields : List Field) (parts : List (List ℕ)) (part : List ℕ) (d : Field) → AreValueTexts p fields (parts ++ part ∷ []) → IsValueText (get_or fields (length parts) d) part (field_of (get_or fields (length parts) d) p)
AreValueTexts-last p [] [] part d h = absurd h
AreValueTexts-last p (field ∷ fields) [] part d h = h.0
AreValueTexts-last p [] (other ∷ parts) part d h = absurd h
AreValueTexts-last p (field ∷ fields) (other ∷ parts) part d h = AreValueTexts-last p fields parts part d h.1

AreValueTexts-add : (p : Packet) (fields : List Field) (parts : List (List ℕ)) (part : List ℕ) (d : Field) → length parts < length fields → AreValueTexts p fields parts → IsValueText (get_or fields (length parts) d) part (field_of (get_or fields (length parts) d) p) → AreValueTexts p fields (parts ++ part ∷ [])
AreValueTexts-add p [] parts part d lt h is = absurd (omega arith)
AreValueTexts-add p (field ∷ fields) [] part d lt h is = (is, tt)
AreValueTexts-add p (field ∷ fields) (other ∷ parts) part d lt h is = (h.0, AreValueTexts-add p fields parts part d (omega arith) h.1 is)

-- a packet with the same values has the same texts
AreValueTexts-same : (p q : Packet) (fields : List Field) (parts : List (List ℕ)) → AllByRecursion (λ field. field_of field q ≡ field_of field p) (take (length parts) fields) → AreValueTexts p fields parts → AreValueTexts q fields parts
AreValueTexts-same p q fields [] same h = tt
AreValueTexts-same p q [] (part ∷ parts) same h = absurd h
AreValueTexts-same p q (field ∷ fields) (part ∷ parts) same h = (subst (λ n. IsValueText field part n) (sym same.0) h.0, AreValueTexts-same p q fields parts same.1 h.1)

-- fields are set in order: setting one changes none that is set before
rank : Field → ℕ
rank EthSrc = 0
rank EthDst = 1
rank IpSrc = 2
rank IpDst = 3
rank Proto = 4
rank Sport = 5
rank Dport = 6

rank-at : (i : ℕ) → i < 7 → rank (get_or all_fields i EthSrc) ≡ i
unfolding rank
rank-at zero lt = refl
rank-at (suc zero) lt = refl
rank-at (suc (suc zero)) lt = refl
rank-at (suc (suc (suc zero))) lt = refl
rank-at (suc (suc (suc (suc zero)))) lt = refl
rank-at (suc (suc (suc (suc (suc zero))))) lt = refl
rank-at (suc (suc (suc (suc (suc (suc zero)))))) lt = refl
rank-at (suc (suc (suc (suc (suc (suc (suc i))))))) lt = absurd (omega arith)

-- clearing ports changes nothing that comes before them
front : (p : Packet) → AllByRecursion (λ field. field_of field (ports_cleared p) ≡ field_of field p) (take 5 all_fields)
front p = by (has_ports p.proto)
  where
    by : (b : Bool) → AllByRecursion (λ field. field_of field (cond b p (record p { sport = 0; dport = 0 })) ≡ field_of field p) (take 5 all_fields)
    by true = (refl, (refl, (refl, (refl, (refl, tt)))))
    by false = (refl, (refl, (refl, (refl, (refl, tt)))))

source_port : (p : Packet) (n : ℕ) → IsPacket p → (packet_with p Dport n).sport ≡ p.sport
source_port p n is = by (has_ports p.proto) refl
  where
    by : (b : Bool) → has_ports p.proto ≡ b → (cond b (record p { dport = n }) (record p { sport = 0; dport = 0 })).sport ≡ p.sport
    by true e = refl
    by false e = sym (is.no_ports (grind arith) (grind arith)).0

unchanged : (field : Field) (p : Packet) (n : ℕ) → IsPacket p → AllByRecursion (λ other. field_of other (packet_with p field n) ≡ field_of other p) (take (rank field) all_fields)
unfolding rank
unchanged EthSrc p n is = tt
unchanged EthDst p n is = let f = front (record p { eth_dst = n }) in (f.0, tt)
unchanged IpSrc p n is = let f = front (record p { ip_src = n }) in (f.0, (f.1.0, tt))
unchanged IpDst p n is = let f = front (record p { ip_dst = n }) in (f.0, (f.1.0, (f.1.1.0, tt)))
unchanged Proto p n is = let f = front (record p { proto = n }) in (f.0, (f.1.0, (f.1.1.0, (f.1.1.1.0, tt))))
unchanged Sport p n is = front (record p { sport = n })
unchanged Dport p n is = let f = front (record p { dport = n }) in (f.0, (f.1.0, (f.1.1.0, (f.1.1.1.0, (f.1.1.1.1.0, (source_port p n is, tt))))))

-- the next part is read: its text and those before it are texts of the packet with this field
pub next_value : (p q : Packet) (field : Field) (parts : List (List ℕ)) (part : List ℕ) → length parts < 7 → field ≡ get_or all_fields (length parts) EthSrc → IsPacket p → q ≡ packet_with p field (field_of field q) → IsValueText field part (field_of field q) → AreValueTexts p all_fields parts → AreValueTexts q all_fields (parts ++ part ∷ [])
next_value p q field parts part lt e is with_it text values =
    AreValueTexts-add q all_fields parts part EthSrc lt
    (AreValueTexts-same p q all_fields parts
    (subst (λ r. AllByRecursion (λ other. field_of other r ≡ field_of other p) (take (length parts) all_fields)) (sym with_it)
    (subst (λ k. AllByRecursion (λ other. field_of other (packet_with p field (field_of field q)) ≡ field_of other p) (take k all_fields)) (ap rank e ∙ rank-at (length parts) lt)
    (unchanged field p (field_of field q) is)))
    values)
    (subst (λ f. IsValueText f part (field_of f q)) e text)

-- the protocol is told by its text
same_proto : (p q : Packet) (parts : List (List ℕ)) → 5 ≤ length parts → AreValueTexts p all_fields parts → AreValueTexts q all_fields parts → q.proto ≡ p.proto
same_proto p q (a ∷ b ∷ c ∷ d ∷ e ∷ parts) long h g = g.1.1.1.1.0.0.value ∙ sym h.1.1.1.1.0.0.value
same_proto p q [] long h g = absurd (omega arith)
same_proto p q (a ∷ []) long h g = absurd (omega arith)
same_proto p q (a ∷ b ∷ []) long h g = absurd (omega arith)
same_proto p q (a ∷ b ∷ c ∷ []) long h g = absurd (omega arith)
same_proto p q (a ∷ b ∷ c ∷ d ∷ []) long h g = absurd (omega arith)

port_rank : (field : Field) → IsPort field → 5 ≤ rank field
unfolding rank
port_rank field (inl e) = subst (λ f. 5 ≤ rank f) (sym e) (omega arith)
port_rank field (inr e) = subst (λ f. 5 ≤ rank f) (sym e) (omega arith)

-- the next part is wrong: no packet's text begins with it and those before it
pub no_value : (p : Packet) (field : Field) (parts : List (List ℕ)) (part : List ℕ) → length parts < 7 → field ≡ get_or all_fields (length parts) EthSrc → AreValueTexts p all_fields parts → ((q : Packet) → IsPacket q → (IsPort field → q.proto ≡ p.proto) → IsValueText field part (field_of field q) → ⊥) → BeginsPacket (parts ++ part ∷ []) → ⊥
no_value p field parts part lt e values none begin =
    none begin.packet begin.is_packet
    (λ port. same_proto p begin.packet parts (subst (λ k. 5 ≤ k) (ap rank e ∙ rank-at (length parts) lt) (port_rank field port)) values (AreValueTexts-front begin.packet all_fields parts (part ∷ []) begin.values))
    (subst (λ f. IsValueText f part (field_of f begin.packet)) (sym e) (AreValueTexts-last begin.packet all_fields parts part EthSrc begin.values))

-- a text that stands for a packet has no wrong part
pub IsFirstWrong-no_packet : (text : List ℕ) (at : ℕ) (p : Packet) → IsFirstWrong text at → IsPacketText text p → ⊥
IsFirstWrong-no_packet text at p fault is = by fault.wrong
  where
    by : ((fault.number < length (parts_of text)) × (BeginsPacket (take (fault.number + 1) (parts_of text)) → ⊥)) ⊎ ((fault.number ≡ length (parts_of text)) × (fault.number < 7)) → ⊥
    by (inl (within, none)) = none (record { packet = p; is_packet = is.packet; values = AreValueTexts-take p (fault.number + 1) all_fields (parts_of text) is.values })
    by (inr (end, few)) = omega (arith, is.seven)

-- a text has one value of a field, and stands for one packet
one_value : (field : Field) (text : List ℕ) (n m : ℕ) → IsValueText field text n → IsValueText field text m → n ≡ m
one_value EthSrc text n m h k = IsMac-one text n m h k
one_value EthDst text n m h k = IsMac-one text n m h k
one_value IpSrc text n m h k = IsIp-one text n m h k
one_value IpDst text n m h k = IsIp-one text n m h k
one_value Proto text n m h k = IsDecimal-one text n m h.0 k.0
one_value Sport text n m h k = IsDecimal-one text n m h.0 k.0
one_value Dport text n m h k = IsDecimal-one text n m h.0 k.0

same_values : (p q : Packet) (fields : List Field) (parts : List (List ℕ)) → length fields ≤ length parts → AreValueTexts p fields parts → AreValueTexts q fields parts → AllByRecursion (λ field. field_of field p ≡ field_of field q) fields
same_values p q [] parts long h k = tt
same_values p q (field ∷ fields) [] long h k = absurd (omega arith)
same_values p q (field ∷ fields) (part ∷ parts) long h k = (one_value field part (field_of field p) (field_of field q) h.0 k.0, same_values p q fields parts (omega arith) h.1 k.1)

pub one_packet : (text : List ℕ) (p q : Packet) → IsPacketText text p → IsPacketText text q → p ≡ q
one_packet text p q h k =
    let e = same_values p q all_fields (parts_of text) (omega (arith, h.seven)) h.values k.values in
    λ i. record { eth_src = e.0 i; eth_dst = e.1.0 i; ip_src = e.1.1.0 i; ip_dst = e.1.1.1.0 i; proto = e.1.1.1.1.0 i; sport = e.1.1.1.1.1.0 i; dport = e.1.1.1.1.1.1.0 i }
