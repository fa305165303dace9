-- Properties of packets, and their least packets.
use Rattle.std.proofs.Common.{Option, None, Some, IfSome, IfNone, ◌≡◌, ◌⊎◌, ℕ, inl, inr, Bool, true, false, not, ◌&&◌, ◌||◌, List, [], ◌∷◌, refl, sym, ◌∙◌, ap, arith}
use Rattle.std.specs.List.{list_all, list_any}
use Rattle.merlin_model.specs.declared.policy.Pred.{Pred, All, AnyOf, Not}
use Rattle.merlin_model.specs.Packets.{Packet, IsPacket, fields_of, NumbersComeBefore, ComesBefore, IsLeastPacket}
use Rattle.merlin_model.specs.Predicates.{holds, All-holds, AnyOf-holds, Not-holds}
use Rattle.merlin_model.proofs.PacketOrder.{total}
use Rattle.packet_model.specs.Texts.{all_fields}
use Rattle.predicate_split.specs.Least.{AllHold, NoneHolds, IsNowhere}
use Rattle.predicate_split.specs.Walks.{IsNotAfter, HoldsAt, IsLeastFrom}

-- one property in other words
pub least-same : (Has Is : Packet → Type 0) → ((p : Packet) → Has p → Is p) → ((p : Packet) → Is p → Has p) → (c : Packet) → IsLeastPacket Has c → IsLeastPacket Is c
least-same Has Is to from c l = record { is_packet = l.is_packet; has = to c l.has; least = λ q packet h. l.least q packet (from q h) }

pub some-same : (Has Is : Packet → Type 0) → ((p : Packet) → Has p → Is p) → ((p : Packet) → Is p → Has p) → (o : Option Packet) → IfSome o (IsLeastPacket Has) → IfSome o (IsLeastPacket Is)
some-same Has Is to from None h = tt
some-same Has Is to from (Some c) h = least-same Has Is to from c h

pub none-same : (Has Is : Packet → Type 0) → ((p : Packet) → Is p → Has p) → (o : Option Packet) → IfNone o (IsNowhere Has) → IfNone o (IsNowhere Is)
none-same Has Is from None h = λ q packet is. h q packet (from q is)
none-same Has Is from (Some c) h = tt

-- Lists of predicates as one.

true_false : true ≡ false → ⊥
true_false e = cc

and_true : (a b : Bool) → (a && b) ≡ true → (a ≡ true) × (b ≡ true)
and_true true b e = (refl, e)
and_true false b e = cc

or_false : (a b : Bool) → (a || b) ≡ false → (a ≡ false) × (b ≡ false)
or_false true b e = cc
or_false false b e = (refl, e)

not_true : (a : Bool) → not a ≡ true → a ≡ false
not_true true e = cc
not_true false e = refl

each_holds : (preds : List Pred) (p : Packet) → list_all (λ q. holds q p) preds ≡ true → AllHold preds p
each_holds [] p e = tt
each_holds (pred ∷ rest) p e = let m = and_true (holds pred p) (list_all (λ q. holds q p) rest) e in (m.0, each_holds rest p m.1)

all_hold : (preds : List Pred) (p : Packet) → AllHold preds p → list_all (λ q. holds q p) preds ≡ true
all_hold [] p h = refl
all_hold (pred ∷ rest) p h = ap (λ b. b && list_all (λ q. holds q p) rest) h.0 ∙ all_hold rest p h.1

pub all-from : (preds : List Pred) (p : Packet) → HoldsAt (All preds) p → AllHold preds p
all-from preds p h = each_holds preds p (sym (All-holds preds p) ∙ h)

pub all-to : (preds : List Pred) (p : Packet) → AllHold preds p → HoldsAt (All preds) p
all-to preds p h = All-holds preds p ∙ all_hold preds p h

none_each : (preds : List Pred) (p : Packet) → list_any (λ q. holds q p) preds ≡ false → NoneHolds preds p
none_each [] p e = tt
none_each (pred ∷ rest) p e = let m = or_false (holds pred p) (list_any (λ q. holds q p) rest) e in (m.0, none_each rest p m.1)

none_hold : (preds : List Pred) (p : Packet) → NoneHolds preds p → list_any (λ q. holds q p) preds ≡ false
none_hold [] p h = refl
none_hold (pred ∷ rest) p h = ap (λ b. b || list_any (λ q. holds q p) rest) h.0 ∙ none_hold rest p h.1

pub none-from : (preds : List Pred) (p : Packet) → HoldsAt (Not (AnyOf preds)) p → NoneHolds preds p
none-from preds p h = none_each preds p (sym (AnyOf-holds preds p) ∙ not_true (holds (AnyOf preds) p) (sym (Not-holds (AnyOf preds) p) ∙ h))

pub none-to : (preds : List Pred) (p : Packet) → NoneHolds preds p → HoldsAt (Not (AnyOf preds)) p
none-to preds p h = Not-holds (AnyOf preds) p ∙ ap not (AnyOf-holds preds p ∙ none_hold preds p h)

-- From the order of lists to the order of packets.

up_to-before : (xs ys : List ℕ) → IsNotAfter xs ys → NumbersComeBefore ys xs → ⊥
up_to-before [] ys h b = absurd b
up_to-before (x ∷ xs) [] h b = absurd h
up_to-before (x ∷ xs) (y ∷ ys) (inl h) (inl b) = omega arith
up_to-before (x ∷ xs) (y ∷ ys) (inl h) (inr b) = let e = b.0 in omega arith
up_to-before (x ∷ xs) (y ∷ ys) (inr h) (inl b) = let e = h.0 in omega arith
up_to-before (x ∷ xs) (y ∷ ys) (inr h) (inr b) = up_to-before xs ys h.1 b.1

pub up_to-packet : (c q : Packet) → IsNotAfter (fields_of c) (fields_of q) → (q ≡ c) ⊎ ComesBefore c q
up_to-packet c q h = by (total c q)
  where
    by : (c ≡ q) ⊎ (ComesBefore c q ⊎ ComesBefore q c) → (q ≡ c) ⊎ ComesBefore c q
    by (inl e) = inl (sym e)
    by (inr (inl b)) = inr b
    by (inr (inr b)) = absurd (up_to-before (fields_of c) (fields_of q) h b)

pub start-least : (pred : Pred) (z : Packet) (o : Option Packet) → IfSome o IsPacket → IfSome o (IsLeastFrom all_fields z pred) → IfSome o (IsLeastPacket (HoldsAt pred))
start-least pred z None p h = tt
start-least pred z (Some c) p h = record { is_packet = p; has = h.meets; least = λ q packet meets. up_to-packet c q (h.least q packet meets) }
