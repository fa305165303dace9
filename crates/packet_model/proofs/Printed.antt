-- A packet's text is read as that packet.
use Rattle.std.proofs.Common.{◌≡◌, ◌≢◌, ◌+◌, ◌/◌, ◌%◌, ◌<◌, ◌^◌, inl, inr, nat_lt, cond, Bool, true, false, ℕ, zero, suc, List, [], ◌∷◌, ◌++◌, length, get_or, map, refl, sym, ap, subst, arith, lit<}
use Rattle.std.proofs.Math.Nat.{div-div-eq-div-mul}
use Rattle.std.specs.List.{AllByRecursion, join_with_byte}
use Rattle.std.specs.Fmt.{decimal, digit_glyph}
use Rattle.std.specs.Int.{bytes_high_first, byte_at}
use Rattle.std.proofs.lemmas.List.Elements.{All-nil, All-cons, All-append, All-weaker}
use Rattle.merlin_model.specs.Packets.{Packet, IsPacket}
use Rattle.merlin_base.specs.Lexemes.{IsDigit, IsHexDigit, IsHexPair, IsOctet, Lacks, AreJoined, of_octets, IsMac, IsIp}
use Rattle.merlin_base.specs.Addresses.{hex_pair, mac_text, ip_text}
use Rattle.merlin_base.proofs.Decimals.{is_decimal}
use Rattle.packet_model.specs.Texts.{all_fields, AreValueTexts, IsPacketText, parts_of, packet_text}
use Rattle.packet_model.proofs.Parts.{parts_of-join}

-- Decimal numbers.

decimal_lacks : (n byte : ℕ) → n < 10 ^ 19 → byte < 48 → Lacks byte (decimal n)
decimal_lacks n byte h low = All-weaker IsDigit (λ c. c ≢ byte) (λ c is e. omega arith) (decimal n) (is_decimal n h).digits

-- Octets, joined by a byte.

octets_below : (k n : ℕ) → AllByRecursion (λ byte. byte < 256) (bytes_high_first k n)
octets_below zero n = tt
octets_below (suc zero) n = (omega arith, tt)
octets_below (suc (suc k)) n = (omega arith, octets_below (suc k) n)

octets_joined : (part : List ℕ → ℕ → Type 0) (shown : ℕ → List ℕ) (byte n : ℕ) (ns : List ℕ) → ((m : ℕ) → m < 256 → part (shown m) m) → AllByRecursion (λ m. m < 256) (n ∷ ns) → AreJoined part byte (join_with_byte byte (map shown (n ∷ ns))) (n ∷ ns)
octets_joined part shown byte n [] reads h = reads n h.0
octets_joined part shown byte n (m ∷ ns) reads h = (join_with_byte byte (map shown (m ∷ ns)), (shown n, reads n h.0, refl), octets_joined part shown byte m ns reads h.1)

lacks_cons : (byte c : ℕ) (cs : List ℕ) → c ≢ byte → Lacks byte cs → Lacks byte (c ∷ cs)
lacks_cons byte c cs = All-cons (λ other. other ≢ byte) c cs

lacks_append : (byte : ℕ) (cs ds : List ℕ) → Lacks byte cs → Lacks byte ds → Lacks byte (cs ++ ds)
lacks_append byte cs ds = All-append (λ other. other ≢ byte) cs ds

joined_lacks : (byte between : ℕ) (parts : List (List ℕ)) → between ≢ byte → AllByRecursion (Lacks byte) parts → Lacks byte (join_with_byte between parts)
joined_lacks byte between [] other h = All-nil _
joined_lacks byte between (part ∷ []) other h = h.0
joined_lacks byte between (part ∷ next ∷ parts) other h = lacks_append byte part (between ∷ join_with_byte between (next ∷ parts)) h.0 (lacks_cons byte between _ other (joined_lacks byte between (next ∷ parts) other h.1))

shown_lack : (shown : ℕ → List ℕ) (byte : ℕ) (ns : List ℕ) → ((m : ℕ) → m < 256 → Lacks byte (shown m)) → AllByRecursion (λ m. m < 256) ns → AllByRecursion (Lacks byte) (map shown ns)
shown_lack shown byte [] lacks h = tt
shown_lack shown byte (n ∷ ns) lacks h = (lacks n h.0, shown_lack shown byte ns lacks h.1)

-- Macs.

glyph_digit : (v : ℕ) → v < 16 → IsHexDigit (digit_glyph false v) v
glyph_digit v h = by (nat_lt v 10) refl
  where
    by : (b : Bool) → nat_lt v 10 ≡ b → IsHexDigit (cond b (48 + v) (87 + v)) v
    by true e = inl (refl, grind arith)
    by false e = inr (inl (refl, grind arith, h))

pair_text : (n : ℕ) → n < 256 → IsHexPair (hex_pair n) n
pair_text n h = (n / 16, n % 16, glyph_digit (n / 16) (omega arith), glyph_digit (n % 16) (omega arith), omega arith)

glyph_lacks : (v : ℕ) → v < 16 → digit_glyph false v ≢ 44
glyph_lacks v h e = by (glyph_digit v h)
  where
    by : IsHexDigit (digit_glyph false v) v → ⊥
    by (inl a) = omega arith
    by (inr (inl a)) = omega arith
    by (inr (inr a)) = omega arith

pair_lacks : (n : ℕ) → n < 256 → Lacks 44 (hex_pair n)
pair_lacks n h = lacks_cons 44 (digit_glyph false (n / 16)) (digit_glyph false (n % 16) ∷ []) (glyph_lacks (n / 16) (omega arith)) (lacks_cons 44 (digit_glyph false (n % 16)) [] (glyph_lacks (n % 16) (omega arith)) (All-nil _))

six_octets : (n : ℕ) → n < 2 ^ 48 → n ≡ of_octets (bytes_high_first 6 n)
six_octets n h =
    let b : n / 256 / 256 ≡ n / 65536 = div-div-eq-div-mul n 256 256 in
    let c : n / 65536 / 256 ≡ n / 16777216 = div-div-eq-div-mul n 65536 256 in
    let d : n / 16777216 / 256 ≡ n / 4294967296 = div-div-eq-div-mul n 16777216 256 in
    let e : n / 4294967296 / 256 ≡ n / 1099511627776 = div-div-eq-div-mul n 4294967296 256 in
    omega arith

pub mac_reads_back : (n : ℕ) → n < 2 ^ 48 → IsMac (mac_text n) n
unfolding mac_text
mac_reads_back n h = (bytes_high_first 6 n, refl, octets_joined IsHexPair hex_pair 58 (byte_at 5 n) (bytes_high_first 5 n) pair_text (octets_below 6 n), six_octets n h)

pub mac_lacks : (n : ℕ) → Lacks 44 (mac_text n)
unfolding mac_text
mac_lacks n = joined_lacks 44 58 (map hex_pair (bytes_high_first 6 n)) (λ e. omega arith) (shown_lack hex_pair 44 (bytes_high_first 6 n) pair_lacks (octets_below 6 n))

-- IPv4 addresses.

octet_text : (n : ℕ) → n < 256 → IsOctet (decimal n) n
octet_text n h = (is_decimal n (omega arith), omega arith)

four_octets : (n : ℕ) → n < 2 ^ 32 → n ≡ of_octets (bytes_high_first 4 n)
four_octets n h =
    let b : n / 256 / 256 ≡ n / 65536 = div-div-eq-div-mul n 256 256 in
    let c : n / 65536 / 256 ≡ n / 16777216 = div-div-eq-div-mul n 65536 256 in
    omega arith

pub ip_reads_back : (n : ℕ) → n < 2 ^ 32 → IsIp (ip_text n) n
unfolding ip_text
ip_reads_back n h = (bytes_high_first 4 n, refl, octets_joined IsOctet decimal 46 (byte_at 3 n) (bytes_high_first 3 n) octet_text (octets_below 4 n), four_octets n h)

pub ip_lacks : (n : ℕ) → Lacks 44 (ip_text n)
unfolding ip_text
ip_lacks n = joined_lacks 44 46 (map decimal (bytes_high_first 4 n)) (λ e. omega arith) (shown_lack decimal 44 (bytes_high_first 4 n) (λ m h. decimal_lacks m 44 (omega arith) (lit< tt)) (octets_below 4 n))

-- Packets.

pub packet_reads_back : (p : Packet) → IsPacket p → IsPacketText (packet_text p) p
packet_reads_back p is =
    let parts = mac_text p.eth_src ∷ mac_text p.eth_dst ∷ ip_text p.ip_src ∷ ip_text p.ip_dst ∷ decimal p.proto ∷ decimal p.sport ∷ decimal p.dport ∷ [] in
    let split : parts_of (packet_text p) ≡ parts = parts_of-join _ _ (mac_lacks p.eth_src, (mac_lacks p.eth_dst, (ip_lacks p.ip_src, (ip_lacks p.ip_dst, (number_lacks p.proto (omega arith), (number_lacks p.sport is.sport, (number_lacks p.dport is.dport, tt))))))) in
    record {
      packet = is;
      seven = ap length split;
      values = subst (λ ps. AreValueTexts p all_fields ps) (sym split) (
        mac_reads_back p.eth_src is.eth_src,
        (
          mac_reads_back p.eth_dst is.eth_dst,
          (
            ip_reads_back p.ip_src is.ip_src,
            (
              ip_reads_back p.ip_dst is.ip_dst,
              ((is_decimal p.proto (omega arith), is.proto), ((is_decimal p.sport (omega arith), is.sport), ((is_decimal p.dport (omega arith), is.dport), tt))),
            ),
          ),
        ),
      );
    }
  where
    number_lacks : (n : ℕ) → n < 2 ^ 16 → Lacks 44 (decimal n)
    number_lacks n h = decimal_lacks n 44 (omega arith) (lit< tt)
