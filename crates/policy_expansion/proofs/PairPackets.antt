-- The statement of a pair, and the packets that it speaks of.
use Rattle.std.proofs.Common.{◌≡◌, ◌+◌, ◌↔◌, ℕ, zero, suc, Bool, true, false, ◌&&◌, List, [], ◌∷◌, slice_get, Option, None, Some, option_map, refl, sym, ◌∙◌, ap, subst, add-zero, arith}
use Rattle.std.specs.Prelude.{unwrap_or}
use Rattle.std.specs.List.{enumerate_from}
use Rattle.std.proofs.lemmas.Bool.{eqb-true, eq-eqb}
use Rattle.std.proofs.lemmas.Option.{slice_get-map}
use Rattle.merlin_model.specs.Packets.{Packet}
use Rattle.merlin_model.specs.Predicates.{holds, All-holds}
use Rattle.merlin_model.specs.declared.policy.Pred.{Pred}
use Rattle.policy_grammar.specs.declared.written.Literal.{Literal}
use Rattle.policy_grammar.specs.declared.written.Literal.TheVariants.{Mac, Ip}
use Rattle.policy_grammar.specs.declared.written.WrittenStatement.{WrittenStatement}
use Rattle.policy_grammar.specs.declared.written.Item.TheVariants.{ForEach}
use Rattle.policy_expansion.specs.WrittenOut.{pairs, from_source, to_destination, between, for_pair, written_out}
use Rattle.policy_expansion.specs.Packets.{ComesFrom, GoesTo, IsForPair}

source_holds : (a : Literal) (p : Packet) → (holds (from_source a) p ≡ true) ↔ ComesFrom p a
source_holds (Mac a) p = (λ e. eqb-true p.eth_src a e, λ e. eq-eqb p.eth_src a e)
source_holds (Ip a) p = (λ e. eqb-true p.ip_src a e, λ e. eq-eqb p.ip_src a e)

destination_holds : (b : Literal) (p : Packet) → (holds (to_destination b) p ≡ true) ↔ GoesTo p b
destination_holds (Mac b) p = (λ e. eqb-true p.eth_dst b e, λ e. eq-eqb p.eth_dst b e)
destination_holds (Ip b) p = (λ e. eqb-true p.ip_dst b e, λ e. eq-eqb p.ip_dst b e)

all_three : (x y z : Bool) → ((x && (y && (z && true))) ≡ true) ↔ ((x ≡ true) × (y ≡ true) × (z ≡ true))
all_three true true true = (λ e. (refl, refl, refl), λ h. refl)
all_three true true false = (λ e. cc, λ h. h.2)
all_three true false z = (λ e. cc, λ h. h.1)
all_three false y z = (λ e. cc, λ h. h.0)

between_holds : (pair : Literal × Literal) (pred : Pred) (p : Packet) → (holds (between pair pred) p ≡ true) ↔ (ComesFrom p pair.0 × GoesTo p pair.1 × (holds pred p ≡ true))
between_holds pair pred p =
    let three = all_three (holds (from_source pair.0) p) (holds (to_destination pair.1) p) (holds pred p) in
    let opened : holds (between pair pred) p ≡ (holds (from_source pair.0) p && (holds (to_destination pair.1) p && (holds pred p && true))) = All-holds (from_source pair.0 ∷ to_destination pair.1 ∷ pred ∷ []) p in
    let source = source_holds pair.0 p in
    let destination = destination_holds pair.1 p in (
      λ e. let h = three.0 (sym opened ∙ e) in (source.0 h.0, destination.0 h.1, h.2),
      λ h. opened ∙ three.1 (source.1 h.0, destination.1 h.1, h.2),
    )

numbered_at : {X : Type 0} (n : ℕ) (xs : List X) (k : ℕ) → slice_get (enumerate_from n xs) k ≡ option_map (λ x. (n + k, x)) (slice_get xs k)
numbered_at n [] k = refl
numbered_at n (x ∷ xs) zero = ap (λ m. Some (m, x)) (sym (add-zero n))
numbered_at {X} n (x ∷ xs) (suc k) =
    let next : (n + 1) + k ≡ n + suc k = omega arith in
    numbered_at (n + 1) xs k ∙ ap (λ (m : ℕ). option_map (λ (y : X). (m, y)) (slice_get xs k)) next

some_below : {X Y : Type 0} (f : X → Y) (o : Option X) (y : Y) → option_map f o ≡ Some y → (x : X) × (o ≡ Some x) × (f x ≡ y)
some_below f None y e = absurd (never y e)
  where
    never : {Z : Type 0} (z : Z) → None ≡ Some z → ⊥
    never z e = cc
some_below f (Some x) y e = (x, refl, cc)

pub for_each_pair : (known : List ℕ → Option (List Literal)) (outer inner : List ℕ) (s : WrittenStatement) (place : ℕ) (t : WrittenStatement) → slice_get (written_out known (ForEach outer inner s)) place ≡ Some t → IsForPair known outer inner s place t
for_each_pair known outer inner s place t e =
    let ps = pairs (unwrap_or (known outer) []) (unwrap_or (known inner) []) in
    let entry = some_below (for_pair s) (slice_get (enumerate_from 1 ps) place) t (sym (slice_get-map (for_pair s) (enumerate_from 1 ps) place) ∙ e) in
    let found = some_below (λ (x : Literal × Literal). (1 + place, x)) (slice_get ps place) entry.0 (sym (numbered_at 1 ps place) ∙ entry.1) in
    let number : 1 + place ≡ place + 1 = omega arith in
    let is : for_pair s (place + 1, found.0) ≡ t = ap (λ m. for_pair s (m, found.0)) (sym number) ∙ (ap (for_pair s) found.2 ∙ entry.2) in
    subst (λ (u : WrittenStatement). IsForPair known outer inner s place u) is (record {
      pair = found.0;
      stands = found.1;
      id = refl;
      pred = between_holds found.0 s.pred;
      path = refl;
      limits = refl;
    })
