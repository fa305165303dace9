-- A list that is read up to an element, one element more.
use Rattle.std.proofs.Common.{◌≡◌, suc, ◌+◌, Bool, true, cond, List, ◌∷◌, Option, None, Some, take, filter_map, take_while, refl, ◌∙◌, ap, arith}
use Rattle.std.specs.List.{last_or, cons_option, prefix_len}
use Rattle.std.specs.Option.{option_or}

longer : {X : Type 0} (goes_on : X → Bool) (x : X) (xs : List X) → goes_on x ≡ true → take_while goes_on (x ∷ xs) ≡ x ∷ take_while goes_on xs
longer goes_on x xs e =
    let count : 1 + prefix_len goes_on xs ≡ suc (prefix_len goes_on xs) = omega arith in
    ap (λ b. take (cond b (1 + prefix_len goes_on xs) 0) (x ∷ xs)) e ∙ ap (λ n. take n (x ∷ xs)) count

-- an element that goes on is the last so far where it says something
pub read_on : {X Y : Type 0} (goes_on : X → Bool) (says : X → Option Y) (last : Option Y) (x : X) (xs : List X) → goes_on x ≡ true →
    last_or last (filter_map says (take_while goes_on (x ∷ xs))) ≡ last_or (option_or (says x) last) (filter_map says (take_while goes_on xs))
read_on {X} {Y} goes_on says last x xs e = ap (λ read. last_or last (filter_map says read)) (longer goes_on x xs e) ∙ by (says x)
  where
    by : (o : Option Y) → last_or last (cons_option o (filter_map says (take_while goes_on xs))) ≡ last_or (option_or o last) (filter_map says (take_while goes_on xs))
    by None = refl
    by (Some y) = refl
