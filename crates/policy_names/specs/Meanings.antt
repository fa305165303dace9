-- What the table of names holds.
use Rattle.std.specs.Prelude.{ℕ, List, find, Option, bytes_eq}
use Rattle.std.specs.List.{enumerate_from}
use Rattle.std.specs.Option.{option_map}
use Rattle.std.specs.Ordering.{nat_cmp}
use Rattle.std.specs.BTreeMap.{BTreeMap, get_by}
use Rattle.std.specs.Cmp.Lexicographic.{slice_cmp}
use Rattle.merlin_model.specs.declared.network.Location.{Location as Place}
use Rattle.merlin_model.specs.declared.network.FnDecl.{FnDecl}
use Rattle.merlin_model.specs.declared.policy.Path.{Path, Loc, Fun}
use Rattle.policy_names.specs.declared.names.Meaning.{Meaning}
use Rattle.policy_names.specs.declared.names.Meaning.TheVariants.{Location, Function}
use denote.Ref.{Bor}

-- what the table holds under a name
abbrev pub meaning_held : BTreeMap (Bor (List ℕ)) Meaning → List ℕ → Option Meaning
meaning_held table name = get_by (λ key. slice_cmp nat_cmp name key.now) table

abbrev pub path_to : Meaning → Path
path_to (Location loc) = Loc loc
path_to (Function fun) = Fun fun

-- the path to what a name stands for
abbrev pub meaning_in : BTreeMap (Bor (List ℕ)) Meaning → List ℕ → Option Path
meaning_in table name = option_map path_to (meaning_held table name)

-- the first location, or the first function, of a name
abbrev pub location_called : List Place → List ℕ → Option Meaning
location_called locations name = option_map (λ l. Location l.0) (find (λ l. bytes_eq l.1.name name) (enumerate_from 0 locations))

abbrev pub function_called : List FnDecl → List ℕ → Option Meaning
function_called functions name = option_map (λ f. Function f.0) (find (λ f. bytes_eq f.1.name name) (enumerate_from 0 functions))
