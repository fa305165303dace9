-- The words of a command line.
use Rattle.std.specs.Prelude.{ℕ, List, map}
use Rattle.std.specs.String.{string_bytes}
use Rattle.std.specs.declared.string.String.{String}
use Rattle.std.specs.declared.alloc.Global.{Global}

-- the texts of words
abbrev pub word_texts : List (String Global) → List (List ℕ)
word_texts words = map (λ (word : String Global). string_bytes word) words
