-- What the names in the paths of a policy stand for, and which of them are at fault.
use Rattle.std.specs.Prelude.{ℕ, ◌≡◌, Bool, true, false, ◌&&◌, ⊤, List, ◌++◌, map, filter, find, Option, None, Some, is_some, slice_get, bytes_eq, if◌then◌else◌}
use Rattle.std.specs.List.{enumerate_from, flat_map}
use Rattle.std.specs.Option.{option_map, option_to_list}
use Rattle.merlin_model.specs.declared.policy.Path.{Path, Loc, Fun}
use Rattle.merlin_model.specs.Networks.{Network}
use Rattle.policy_grammar.specs.declared.written.RawPath.{RawPath}
use Rattle.policy_grammar.specs.NumberedPaths.{PathName, names_of}
use Rattle.policy_expansion.specs.declared.policy.Policy.{Policy}
use Rattle.policy_names.specs.declared.fault.NameFault.{NameFault}
use Rattle.policy_names.specs.declared.fault.NameFault.TheVariants.{UnknownName, FunctionUnderNot, OutOfMemory}

-- the locations and then the functions of a network, by their names
abbrev pub named_places : Network → List (List ℕ × Path)
named_places net =
    map (λ l. (l.1.name, Loc l.0)) (enumerate_from 0 net.locations)
    ++ map (λ f. (f.1.name, Fun f.0)) (enumerate_from 0 net.functions)

-- what a name stands for, if the network has it
abbrev pub meaning_of : Network → List ℕ → Option Path
meaning_of net name = option_map (λ place. place.1) (find (λ place. bytes_eq place.0 name) (named_places net))

abbrev pub leads_to_function : Path → Bool
leads_to_function (Fun fun) = true
leads_to_function _ = false

-- A name is at fault that stands for nothing, or for a function under a `!`.
abbrev pub is_faulty_at : Bool → Option Path → Bool
is_faulty_at negated None = true
is_faulty_at negated (Some path) = negated && leads_to_function path

abbrev pub is_faulty : (List ℕ → Option Path) → PathName → Bool
is_faulty known name = is_faulty_at name.negated (known name.text)

-- the names at fault in a path, in the order of the text
abbrev pub faulty_in : (List ℕ → Option Path) → Bool → RawPath → List (List ℕ)
faulty_in known negated path = map (λ name. name.text) (filter (is_faulty known) (names_of negated path))

abbrev pub fault_of_name : (List ℕ → Option Path) → List ℕ → NameFault
fault_of_name known name = if is_some (known name) then FunctionUnderNot name else UnknownName name

-- the faults of some paths, in the order of the text
abbrev pub name_faults : (List ℕ → Option Path) → List RawPath → List NameFault
name_faults known paths = map (fault_of_name known) (flat_map (faulty_in known false) paths)

-- the path of each statement, and that of the default last
abbrev pub raw_paths : Policy → List RawPath
raw_paths policy = map (λ s. s.path) policy.statements ++ option_to_list policy.default_path

-- A part of the work fails for want of memory, or with the first of these faults.
abbrev pub IsFirstFault : List NameFault → NameFault → Type 0
IsFirstFault all (UnknownName name) = slice_get all 0 ≡ Some (UnknownName name)
IsFirstFault all (FunctionUnderNot name) = slice_get all 0 ≡ Some (FunctionUnderNot name)
IsFirstFault all OutOfMemory = ⊤
