-- Why a policy as it is written stands for none. Each kind of fault is looked for over the whole text, and its first place counts.
use Rattle.std.specs.Prelude.{ℕ, ◌≡◌, ◌+◌, nat_lt, Bool, true, false, not, ◌&&◌, ⊤, List, [], ◌∷◌, map, take, length, flat_map, find, Option, None, Some, option_map, is_some, bytes_eq, if◌then◌else◌}
use Rattle.std.specs.List.{enumerate_from, list_any}
use Rattle.std.specs.Option.{option_or}
use Rattle.policy_expansion.specs.declared.limits.TheConstants.{MAX_STATEMENTS}
use Rattle.policy_grammar.specs.declared.written.Literal.{Literal}
use Rattle.policy_grammar.specs.declared.written.Literal.TheVariants.{Mac, Ip}
use Rattle.policy_grammar.specs.declared.written.WrittenSet.{WrittenSet}
use Rattle.policy_grammar.specs.declared.written.Item.{Item}
use Rattle.policy_grammar.specs.declared.written.Item.TheVariants.{One, ForEach}
use Rattle.policy_grammar.specs.declared.written.RawPath.{RawPath}
use Rattle.policy_grammar.specs.declared.written.WrittenPolicy.{WrittenPolicy}
use Rattle.policy_expansion.specs.declared.policy.ExpansionFault.{ExpansionFault}
use Rattle.policy_expansion.specs.declared.policy.ExpansionFault.TheVariants.{DuplicateSet, MixedSet, UnknownSet, TooManyStatements, DuplicateId, OutOfMemory}
use Rattle.policy_expansion.specs.WrittenOut.{known_literals, statements_of}

-- whether a name with its place stands before that place
abbrev pub stands_before : List (List ℕ) → ℕ × List ℕ → Bool
stands_before names name = list_any (λ other. bytes_eq other name.1) (take name.0 names)

-- the first name that stands before its place
abbrev pub first_repeat : List (List ℕ) → Option (List ℕ)
first_repeat names = option_map (λ name. name.1) (find (stands_before names) (enumerate_from 0 names))

-- the first set whose name an earlier set bears
abbrev pub duplicate_set : List WrittenSet → Option ExpansionFault
duplicate_set sets = option_map DuplicateSet (first_repeat (map (λ set. set.name) sets))

abbrev pub is_mac : Literal → Bool
is_mac (Mac a) = true
is_mac (Ip a) = false

abbrev pub is_mixed : WrittenSet → Bool
is_mixed set = list_any is_mac set.literals && list_any (λ a. not (is_mac a)) set.literals

-- the first set with addresses of both kinds
abbrev pub mixed_set : List WrittenSet → Option ExpansionFault
mixed_set sets = option_map (λ set. MixedSet set.name) (find is_mixed sets)

-- the names of sets that an item uses, the outer one first
abbrev pub names_in : Item → List (List ℕ)
names_in (One s) = []
names_in (ForEach outer inner s) = outer ∷ inner ∷ []

-- whether no set bears a name
abbrev pub is_unknown : (List ℕ → Option (List Literal)) → List ℕ → Bool
is_unknown known name = not (is_some (known name))

-- the first name that no set bears
abbrev pub unknown_set : (List ℕ → Option (List Literal)) → List Item → Option ExpansionFault
unknown_set known items = option_map UnknownSet (find (is_unknown known) (flat_map names_in items))

-- how many statements the default is
abbrev pub count_of_default : Option RawPath → ℕ
count_of_default path = if is_some path then 1 else 0

-- more than 4,096 statements, with the default
abbrev pub too_many : ℕ → Option ExpansionFault
too_many count = if nat_lt MAX_STATEMENTS count then Some (TooManyStatements (MAX_STATEMENTS + 1)) else None

-- the first statement whose id an earlier one bears
abbrev pub duplicate_id : List (List ℕ) → Option ExpansionFault
duplicate_id ids = option_map DuplicateId (first_repeat ids)

-- the fault that counts, if there is one: the kinds in their order
abbrev pub fault_of : WrittenPolicy → Option ExpansionFault
fault_of w =
    option_or (duplicate_set w.sets)
    (option_or (mixed_set w.sets)
    (option_or (unknown_set (known_literals w.sets) w.items)
    (option_or (too_many (length (statements_of w) + count_of_default w.default_path))
    (duplicate_id (map (λ s. s.id) (statements_of w))))))

-- A part of the work fails for want of memory, or with this fault.
abbrev pub IsFault : Option ExpansionFault → ExpansionFault → Type 0
IsFault expected (DuplicateSet name) = expected ≡ Some (DuplicateSet name)
IsFault expected (MixedSet name) = expected ≡ Some (MixedSet name)
IsFault expected (UnknownSet name) = expected ≡ Some (UnknownSet name)
IsFault expected (TooManyStatements count) = expected ≡ Some (TooManyStatements count)
IsFault expected (DuplicateId id) = expected ≡ Some (DuplicateId id)
IsFault expected OutOfMemory = ⊤
