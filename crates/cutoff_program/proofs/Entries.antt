-- The rows of the program as sums over the variables themselves.
use Rattle.std.proofs.Common.{◌≡◌, ℕ, zero, suc, ◌+◌, Bool, true, false, ℤ, pos, negsuc, ◌+ℤ◌, List, [], ◌∷◌, refl, sym, ◌∙◌, ap, arith}
use Rattle.std.proofs.lemmas.Int.{ints}
use Rattle.merlin_model.specs.Programs.{is_chosen, coefficient_if, left_side}
use Rattle.cutoff_program.specs.Flows.{Variable, with_entry, entries_from, chosen_from}

nothing : (b : Bool) (t : ℤ) → coefficient_if b (pos 0) +ℤ t ≡ t
nothing true t = omega (arith, ints)
nothing false t = omega (arith, ints)

entry : (n : ℕ) (z : ℤ) (entries : List (ℕ × ℤ)) (point : List Bool) → left_side (with_entry n z entries) point ≡ coefficient_if (is_chosen point n) z +ℤ left_side entries point
entry n (pos zero) entries point = sym (nothing (is_chosen point n) (left_side entries point))
entry n (pos (suc m)) entries point = refl
entry n (negsuc m) entries point = refl

pub left-entries : (n : ℕ) (f : Variable → ℤ) (variables : List Variable) (point : List Bool) → left_side (entries_from n f variables) point ≡ chosen_from n f variables point
left-entries n f [] point = refl
left-entries n f (v ∷ vs) point =
    entry n (f v) (entries_from (n + 1) f vs) point ∙ ap (λ t. coefficient_if (is_chosen point n) (f v) +ℤ t) (left-entries (n + 1) f vs point)
