-- The states of a path are the normal forms to which words lead from it.
use Rattle.std.specs.Prelude.{ℕ, suc, ◌≡◌, List, [], ◌∷◌, take, slice_get, Some}
use Rattle.merlin_model.specs.declared.policy.Symbol.{Symbol}
use Rattle.merlin_model.specs.declared.policy.Path.{Path}
use Rattle.path_regex.specs.Normal.{normal_of}
use Rattle.path_regex.specs.Derivatives.{derivative_of}

-- what may follow after a word
abbrev pub rest_after : Path → List Symbol → Path
rest_after path [] = path
rest_after path (x ∷ w) = rest_after (derivative_of path x) w

-- the state to which a word leads
abbrev pub state_reached : Path → List Symbol → Path
state_reached path w = rest_after (normal_of path) w

-- No two prefixes of the word that end in the same symbol lead to the same state of the path.
abbrev pub IsSimpleFor : Path → List Symbol → Type 0
IsSimpleFor path w =
    (i j : ℕ) (x : Symbol) → slice_get w i ≡ Some x → slice_get w j ≡ Some x →
    state_reached path (take (suc i) w) ≡ state_reached path (take (suc j) w) → i ≡ j
