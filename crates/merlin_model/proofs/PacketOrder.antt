-- Packets stand in one order.
use Rattle.std.proofs.Common.{◌≡◌, ℕ, ◌<◌, ◌⊎◌, inl, inr, List, [], ◌∷◌, slice_index_or, refl, sym, ◌∙◌, ap, ap₂, arith}
use Rattle.std.proofs.lemmas.Bool.{cases_order}
use Rattle.merlin_model.specs.Packets.{Packet, fields_of, NumbersComeBefore, ComesBefore, IsLeastPacket}

not-before-itself : (xs : List ℕ) → ¬ NumbersComeBefore xs xs
not-before-itself [] h = absurd h
not-before-itself (x ∷ xs) (inl h) = omega arith
not-before-itself (x ∷ xs) (inr (e, h)) = not-before-itself xs h

onwards : (xs ys zs : List ℕ) → NumbersComeBefore xs ys → NumbersComeBefore ys zs → NumbersComeBefore xs zs
onwards xs ys [] a b = absurd b
onwards [] ys (z ∷ zs) a b = tt
onwards (x ∷ xs) [] (z ∷ zs) a b = absurd a
onwards (x ∷ xs) (y ∷ ys) (z ∷ zs) (inl a) (inl b) = inl (omega arith)
onwards (x ∷ xs) (y ∷ ys) (z ∷ zs) (inl a) (inr b) = inl (let e = b.0 in omega arith)
onwards (x ∷ xs) (y ∷ ys) (z ∷ zs) (inr a) (inl b) = inl (let e = a.0 in omega arith)
onwards (x ∷ xs) (y ∷ ys) (z ∷ zs) (inr a) (inr b) = inr (a.0 ∙ b.0, onwards xs ys zs a.1 b.1)

pub irreflexive : (p : Packet) → ¬ ComesBefore p p
irreflexive p = not-before-itself (fields_of p)

pub transitive : (p q r : Packet) → ComesBefore p q → ComesBefore q r → ComesBefore p r
transitive p q r = onwards (fields_of p) (fields_of q) (fields_of r)

-- the packet of seven numbers
abbrev packet_of : List ℕ → Packet
packet_of ns = record {
  eth_src = slice_index_or ns 0 0;
  eth_dst = slice_index_or ns 1 0;
  ip_src = slice_index_or ns 2 0;
  ip_dst = slice_index_or ns 3 0;
  proto = slice_index_or ns 4 0;
  sport = slice_index_or ns 5 0;
  dport = slice_index_or ns 6 0;
}

-- two lists are the same, or one comes before the other
compared : (xs ys : List ℕ) → (xs ≡ ys) ⊎ (NumbersComeBefore xs ys ⊎ NumbersComeBefore ys xs)
compared [] [] = inl refl
compared [] (y ∷ ys) = inr (inl tt)
compared (x ∷ xs) [] = inr (inr tt)
compared (x ∷ xs) (y ∷ ys) = by (cases_order x y) (compared xs ys)
  where
    by : (x ≡ y) ⊎ ((x < y) ⊎ (y < x)) → (xs ≡ ys) ⊎ (NumbersComeBefore xs ys ⊎ NumbersComeBefore ys xs) →
        (x ∷ xs ≡ y ∷ ys) ⊎ (NumbersComeBefore (x ∷ xs) (y ∷ ys) ⊎ NumbersComeBefore (y ∷ ys) (x ∷ xs))
    by (inl e) (inl same) = inl (ap₂ (λ a b. a ∷ b) e same)
    by (inl e) (inr (inl h)) = inr (inl (inr (e, h)))
    by (inl e) (inr (inr h)) = inr (inr (inr (sym e, h)))
    by (inr (inl h)) later = inr (inl (inl h))
    by (inr (inr h)) later = inr (inr (inl h))

pub total : (p q : Packet) → (p ≡ q) ⊎ (ComesBefore p q ⊎ ComesBefore q p)
total p q = by (compared (fields_of p) (fields_of q))
  where
    by : (fields_of p ≡ fields_of q) ⊎ (ComesBefore p q ⊎ ComesBefore q p) → (p ≡ q) ⊎ (ComesBefore p q ⊎ ComesBefore q p)
    by (inl e) = inl (ap packet_of e)
    by (inr h) = inr h

pub one-least : (Has : Packet → Type 0) (p q : Packet) → IsLeastPacket Has p → IsLeastPacket Has q → p ≡ q
one-least Has p q a b = by (a.least q b.is_packet b.has) (b.least p a.is_packet a.has)
  where
    by : (q ≡ p) ⊎ ComesBefore p q → (p ≡ q) ⊎ ComesBefore q p → p ≡ q
    by (inl e) _ = sym e
    by (inr h) (inl e) = e
    by (inr h) (inr k) = absurd (irreflexive p (transitive p q p h k))
