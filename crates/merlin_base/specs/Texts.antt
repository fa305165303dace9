-- Texts as lists of bytes.
use Rattle.std.specs.Prelude.{ℕ, List}
use Rattle.std.specs.List.{flat_map}

-- the bytes of texts, one after another
abbrev pub joined : List (List ℕ) → List ℕ
joined = flat_map (λ text. text)
