-- The words of paths side by side.
use Rattle.std.specs.Prelude.{◌↔◌, List, ◌∷◌}
use Rattle.merlin_model.specs.declared.policy.Symbol.{Symbol}
use Rattle.merlin_model.specs.declared.policy.Path.{Path}
use Rattle.merlin_model.specs.Paths.{InLanguage}

-- the other path takes exactly the words of the path
abbrev pub TakesSameWords : Path → Path → Type 0
TakesSameWords path other = (w : List Symbol) → InLanguage other w ↔ InLanguage path w

-- the rest takes the words that the path takes behind the symbol
abbrev pub IsQuotient : Path → Symbol → Path → Type 0
IsQuotient path x rest = (w : List Symbol) → InLanguage rest w ↔ InLanguage path (x ∷ w)
