-- A unit has four bytes, so the number is what stands before them.
use Rattle.std.proofs.Common.{◌≡◌, ◌⊎◌, refl, ◌-◌, ℕ, List, length, take, inl, inr, arith, length-append, ap, sym, subst}
use Rattle.std.specs.Prelude.{Option, Some, None, Bool, true, false, codes, if◌then◌else◌}
use Rattle.std.specs.Str.{bytes_eq}
use Rattle.std.proofs.lemmas.Slice.Eq.{bytes_eq-Decides}
use Rattle.std.proofs.Math.Seq.{take-append_seam}
use Rattle.merlin_base.specs.Lexemes.{unit_of, IsRate, IsDecimal}

choice : (b : Bool) (f g : ℕ) (rest : Option ℕ) → (if b then Some f else rest) ≡ Some g → (b ≡ true) ⊎ (rest ≡ Some g)
choice true f g rest e = inl refl
choice false f g rest e = inr e

at : (P : List ℕ → Type 0) (text word : List ℕ) → P word → bytes_eq text word ≡ true → P text
at P text word p e = subst P (sym ((bytes_eq-Decides text word).0 e)) p

-- what holds of the six units holds of each unit
pub of_units : (P : List ℕ → Type 0) → P (codes "kbps") → P (codes "Mbps") → P (codes "Gbps") → P (codes "KB/s") → P (codes "MB/s") → P (codes "GB/s")
    → (text : List ℕ) (factor : ℕ) → unit_of text ≡ Some factor → P text
of_units P p1 p2 p3 p4 p5 p6 text factor known =
    elim (choice (bytes_eq text (codes "kbps")) 1 factor _ known) [
      | inl e ↦ at P text (codes "kbps") p1 e
      | inr k2 ↦ elim (choice (bytes_eq text (codes "Mbps")) 1000 factor _ k2) [
        | inl e ↦ at P text (codes "Mbps") p2 e
        | inr k3 ↦ elim (choice (bytes_eq text (codes "Gbps")) 1000000 factor _ k3) [
          | inl e ↦ at P text (codes "Gbps") p3 e
          | inr k4 ↦ elim (choice (bytes_eq text (codes "KB/s")) 8 factor _ k4) [
            | inl e ↦ at P text (codes "KB/s") p4 e
            | inr k5 ↦ elim (choice (bytes_eq text (codes "MB/s")) 8000 factor _ k5) [
              | inl e ↦ at P text (codes "MB/s") p5 e
              | inr k6 ↦ elim (choice (bytes_eq text (codes "GB/s")) 8000000 factor None k6) [
                | inl e ↦ at P text (codes "GB/s") p6 e
                | inr none ↦ cc
              ]
            ]
          ]
        ]
      ]
    ]

pub unit-length : (text : List ℕ) (factor : ℕ) → unit_of text ≡ Some factor → length text ≡ 4
unit-length text factor known = of_units (λ unit. length unit ≡ 4) refl refl refl refl refl refl text factor known

pub IsRate-length : (text : List ℕ) (rate : ℕ) (is : IsRate text rate) → length text - 4 ≡ length is.number
IsRate-length text rate is =
    let four = unit-length is.unit is.factor is.known in
    omega (arith, ap length is.whole, length-append is.number is.unit)

pub IsRate-front : (text : List ℕ) (rate : ℕ) (is : IsRate text rate) → take (length text - 4) text ≡ is.number
IsRate-front text rate is = rw (IsRate-length text rate is, is.whole) (take-append_seam is.number is.unit)

pub IsRate-number : (text : List ℕ) (rate : ℕ) (is : IsRate text rate) → IsDecimal (take (length text - 4) text) is.n
IsRate-number text rate is = rw (IsRate-front text rate is) is.decimal
