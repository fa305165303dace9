-- The left side of a row, entry by entry.
use Rattle.std.proofs.Common.{◌≡◌, ℕ, ◌+◌, ◌*◌, ◌^◌, ◌<◌, ◌↔◌, Bool, ℤ, pos, ◌+ℤ◌, List, length, get_or, take, ◌∙◌, ap, sym, subst, arith}
use Rattle.merlin_model.specs.Programs.{coefficient_if, is_chosen, left_side, Compares}
use Rattle.integer_program.specs.Bounds.{IsBounded}
use Rattle.integer_program.proofs.Bounds.{within-add, within-more, within-taken, total-more}

pub record IsLeft (entries : List (ℕ × ℤ)) (point : List Bool) (k : ℕ) (left : ℤ) : Type 0 where
  pub sum : left ≡ left_side (take k entries) point
  pub bound : IsBounded (k * 10 ^ 9) left

pub left_more : (entries : List (ℕ × ℤ)) (point : List Bool) (k : ℕ) (before after : ℤ) → k < length entries →
    IsBounded (10 ^ 9) (get_or entries k (0, pos 0)).1 → IsLeft entries point k before →
    after ≡ before +ℤ coefficient_if (is_chosen point (get_or entries k (0, pos 0)).0) (get_or entries k (0, pos 0)).1 → IsLeft entries point (k + 1) after
left_more entries point k before after h small is e = record {
  sum = e ∙ ap (λ z. z +ℤ coefficient_if (is_chosen point (get_or entries k (0, pos 0)).0) (get_or entries k (0, pos 0)).1) is.sum ∙ sym (total-more (λ x. coefficient_if (is_chosen point x.0) x.1) entries k (0, pos 0) h);
  bound = subst (IsBounded ((k + 1) * 10 ^ 9)) (sym e)
      (within-more (k * 10 ^ 9 + 10 ^ 9) ((k + 1) * 10 ^ 9) _ (omega arith)
      (within-add (k * 10 ^ 9) (10 ^ 9) before _ is.bound (within-taken (10 ^ 9) _ _ small)));
}

pub compares-at : (R : Type 0) (a b : Bool) (l m r s : ℤ) → a ≡ b → l ≡ m → r ≡ s → R ↔ Compares a l r → R ↔ Compares b m s
compares-at R a b l m r s e f g h = subst (λ x. R ↔ Compares x m s) e (subst (λ x. R ↔ Compares a x s) f (subst (λ x. R ↔ Compares a l x) g h))
