use Rattle.std.proofs.Common.{◌≡◌, ℕ, zero, suc, ◌≤◌, ◌∷◌, take, replicate, length, refl, ap, arith}
use Rattle.fair_share.proofs.judge.judged.Goals as goal

take-zeros : (n m : ℕ) → n ≤ m → take n (replicate m zero) ≡ replicate n zero
take-zeros zero zero l = refl
take-zeros zero (suc m) l = refl
take-zeros (suc n) zero l = let no : ⊥ = omega arith in absurd no
take-zeros (suc n) (suc m) l = ap (λ xs. zero ∷ xs) (take-zeros n m (omega arith))

pub sum_up-requires-clause-zeros : goal.sum_up-requires-clause-zeros
sum_up-requires-clause-zeros c = take-zeros (length c.args.caps.now) 256 c.requires.few

pub top_all-requires-clause-zeros : goal.top_all-requires-clause-zeros
top_all-requires-clause-zeros c = take-zeros (length c.args.caps.now) 256 c.requires.few
