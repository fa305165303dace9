-- The least number, from one on, that is not among ascending ones.
use Rattle.std.proofs.Common.{◌≡◌, ◌≢◌, ◌≤◌, ◌<◌, inl, inr, ℕ, suc, Bool, true, false, nat_lt, ◌==◌, cond, List, [], ◌∷◌, refl, arith}
use Rattle.merlin_model.specs.Networks.{Pairwise}
use Rattle.merlin_model.proofs.Members.{In, all_in}
use Rattle.predicate_split.specs.Parts.{least_from}

pub least_from-above : (n : ℕ) (ns : List ℕ) → n ≤ least_from n ns
least_from-above n [] = omega arith
least_from-above n (m ∷ rest) = by (nat_lt m n) (n == m) (least_from-above n rest) (least_from-above (suc n) rest)
  where
    by : (a b : Bool) → n ≤ least_from n rest → suc n ≤ least_from (suc n) rest → n ≤ cond a (least_from n rest) (cond b (least_from (suc n) rest) n)
    by true b h k = h
    by false true h k = omega arith
    by false false h k = omega arith

-- whatever is not among them is not below it
pub least_from-least : (n v : ℕ) (ns : List ℕ) → n ≤ v → (¬ In v ns) → least_from n ns ≤ v
least_from-least n v [] le out = le
least_from-least n v (m ∷ rest) le out = by (nat_lt m n) (n == m) refl (least_from-least n v rest le (λ i. out (inr i))) (λ less. least_from-least (suc n) v rest less (λ i. out (inr i)))
  where
    by : (a b : Bool) → (n == m) ≡ b → least_from n rest ≤ v → (suc n ≤ v → least_from (suc n) rest ≤ v) → cond a (least_from n rest) (cond b (least_from (suc n) rest) n) ≤ v
    by true b e h later = h
    by false true e h later = let same : n ≡ m = grind (arith, e) in let apart : v ≢ m = (λ f. out (inl f)) in later (omega (arith, apart))
    by false false e h later = le

pub least_from-out : (n : ℕ) (ns : List ℕ) → Pairwise (λ a b. a < b) ns → ¬ In (least_from n ns) ns
least_from-out n [] up h = h
least_from-out n (m ∷ rest) up h = by (nat_lt m n) (n == m) refl refl h (least_from-out n rest up.1) (least_from-out (suc n) rest up.1)
  where
    above : (k : ℕ) → In k rest → m < k
    above k i = all_in (λ j. m < j) rest k up.0 i

    by : (a b : Bool) → nat_lt m n ≡ a → (n == m) ≡ b → In (cond a (least_from n rest) (cond b (least_from (suc n) rest) n)) (m ∷ rest) → (¬ In (least_from n rest) rest) → (¬ In (least_from (suc n) rest) rest) → ⊥
    by true b e f (inl same) h k = let less : m < n = grind (arith, e) in let le = least_from-above n rest in omega arith
    by true b e f (inr i) h k = h i
    by false true e f (inl same) h k = let le = least_from-above (suc n) rest in let at : n ≡ m = grind (arith, f) in omega arith
    by false true e f (inr i) h k = k i
    by false false e f (inl same) h k = grind (arith, f, same)
    by false false e f (inr i) h k = let lt = above n i in grind (arith, e, f, lt)
