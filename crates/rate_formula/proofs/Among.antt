-- The rate of an id, found by going over the ids.
use Rattle.std.proofs.Common.{◌≡◌, ◌+◌, ◌<◌, ℕ, false, List, length, drop, get_or, bytes_eq, refl, arith, drop-cons, add-one}
use Rattle.rate_formula.specs.Usage.{rate_among}

pub rate_among-next : (ids : List (List ℕ)) (rates : List ℕ) (i : ℕ) (id d : List ℕ) → length ids ≡ length rates → i < length ids → bytes_eq (get_or ids i d) id ≡ false → rate_among (drop (i + 1) ids) (drop (i + 1) rates) id ≡ rate_among (drop i ids) (drop i rates) id
rate_among-next ids rates i id d same lt other =
    rw (add-one, drop-cons ids i d lt, drop-cons rates i 0 (omega arith), other) refl
