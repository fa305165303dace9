-- The bits of a number from some place on, as a list of bits gives them.
use Rattle.std.proofs.Common.{ℕ, zero, suc, ◌+◌, ◌*◌, ◌/◌, ◌%◌, ◌^◌, ◌≡◌, ◌<◌, Bool, true, false, List, [], ◌∷◌, take, drop, ap, ◌∙◌, arith}
use Rattle.std.proofs.Math.Nat.{pow-succ'}
use Rattle.std.proofs.lemmas.Nat.{div-mul-add, mod-mul-add}
use Rattle.openflow_wire.specs.Messages.{bit_number, number_of_bits}

bit_small : (b : Bool) → bit_number b < 2
bit_small true = omega arith
bit_small false = omega arith

pub below : (k : ℕ) (bits : List Bool) → number_of_bits (take k bits) < 2 ^ k
below zero bits = omega arith
below (suc k) [] = rw (pow-succ' 2 k) (let h = below k [] in omega (arith, h))
below (suc k) (b ∷ bits) = rw (pow-succ' 2 k) (let h = below k bits in let s = bit_small b in omega (arith, h, s))

parted : (k : ℕ) (bits : List Bool) → number_of_bits bits ≡ number_of_bits (drop k bits) * 2 ^ k + number_of_bits (take k bits)
parted zero bits = omega arith
parted (suc k) [] = omega arith
parted (suc k) (b ∷ bits) =
    ap (λ n. bit_number b + 2 * n) (parted k bits) ∙ rw (pow-succ' 2 k) (omega arith)

pub bits_above : (k : ℕ) (bits : List Bool) → number_of_bits bits / 2 ^ k ≡ number_of_bits (drop k bits)
bits_above k bits =
    ap (λ n. n / 2 ^ k) (parted k bits) ∙ div-mul-add (number_of_bits (drop k bits)) (2 ^ k) (number_of_bits (take k bits)) (below k bits)

bits_below : (k : ℕ) (bits : List Bool) → number_of_bits bits % 2 ^ k ≡ number_of_bits (take k bits)
bits_below k bits =
    ap (λ n. n % 2 ^ k) (parted k bits) ∙ mod-mul-add (number_of_bits (drop k bits)) (2 ^ k) (number_of_bits (take k bits)) (below k bits)

-- so many bits from a place on
pub bits_from : (at count : ℕ) (bits : List Bool) → number_of_bits bits / 2 ^ at % 2 ^ count ≡ number_of_bits (take count (drop at bits))
bits_from at count bits = ap (λ n. n % 2 ^ count) (bits_above at bits) ∙ bits_below count (drop at bits)
