-- The statements that a policy as it is written stands for.
use Rattle.std.specs.Prelude.{ℕ, Bool, true, not, ◌==◌, List, [], ◌∷◌, ◌++◌, map, filter, flat_map, find, Option, option_map, unwrap_or, bytes_eq, codes, decimal}
use Rattle.std.specs.List.{enumerate_from}
use Rattle.merlin_model.specs.declared.policy.Field.TheVariants.{EthSrc, EthDst, IpSrc, IpDst}
use Rattle.merlin_model.specs.declared.policy.Test.TheVariants.{Is}
use Rattle.merlin_model.specs.declared.policy.Pred.{Pred, Test as Tests, All}
use Rattle.policy_grammar.specs.declared.written.Literal.{Literal}
use Rattle.policy_grammar.specs.declared.written.Literal.TheVariants.{Mac, Ip}
use Rattle.policy_grammar.specs.declared.written.WrittenSet.{WrittenSet}
use Rattle.policy_grammar.specs.declared.written.WrittenStatement.{WrittenStatement}
use Rattle.policy_grammar.specs.declared.written.Item.{Item}
use Rattle.policy_grammar.specs.declared.written.RawPath.{RawPath}
use Rattle.policy_grammar.specs.declared.written.Item.TheVariants.{One, ForEach}
use Rattle.policy_grammar.specs.declared.written.WrittenPolicy.{WrittenPolicy}

-- whether two literals differ; an Ethernet address is unlike every IPv4 address
abbrev pub unlike : Literal → Literal → Bool
unlike (Mac a) (Mac b) = not (a == b)
unlike (Mac a) (Ip b) = true
unlike (Ip a) (Mac b) = true
unlike (Ip a) (Ip b) = not (a == b)

-- each literal at its first place
abbrev pub first_places : List Literal → List Literal
first_places [] = []
first_places (a ∷ others) = a ∷ filter (unlike a) (first_places others)

-- whether a set bears a name
abbrev pub has_name : List ℕ → WrittenSet → Bool
has_name name set = bytes_eq set.name name

-- the literals of the set of this name, if there is one
abbrev pub known_literals : List WrittenSet → List ℕ → Option (List Literal)
known_literals sets name = option_map (λ set. first_places set.literals) (find (has_name name) sets)

-- The pairs of unlike literals from two sets: each literal of the outer set in turn, with each of the inner one.

abbrev pub pairs_from : List Literal → Literal → List (Literal × Literal)
pairs_from inner a = map (λ b. (a, b)) (filter (unlike a) inner)

abbrev pub pairs : List Literal → List Literal → List (Literal × Literal)
pairs outer inner = flat_map (pairs_from inner) outer

-- `eth.src = a` or `ip.src = a`, by the kind of the literal
abbrev pub from_source : Literal → Pred
from_source (Mac a) = Tests (Is EthSrc a)
from_source (Ip a) = Tests (Is IpSrc a)

-- `eth.dst = b` or `ip.dst = b`
abbrev pub to_destination : Literal → Pred
to_destination (Mac b) = Tests (Is EthDst b)
to_destination (Ip b) = Tests (Is IpDst b)

-- the predicate of a pair: its addresses and the written predicate
abbrev pub between : Literal × Literal → Pred → Pred
between pair pred = All (from_source pair.0 ∷ to_destination pair.1 ∷ pred ∷ [])

-- `w_1`, `w_2` and so on
abbrev pub numbered : List ℕ → ℕ → List ℕ
numbered id number = id ++ codes "_" ++ decimal number

-- the statement of a pair with its number
abbrev pub for_pair : WrittenStatement → ℕ × (Literal × Literal) → WrittenStatement
for_pair s pair = record s { id = numbered s.id pair.0; pred = between pair.1 s.pred }

-- The statements that an item stands for. Sets are known by their names, and a set that is not known has no literals.
abbrev pub written_out : (List ℕ → Option (List Literal)) → Item → List WrittenStatement
written_out known (One s) = s ∷ []
written_out known (ForEach outer inner s) = map (for_pair s) (enumerate_from 1 (pairs (unwrap_or (known outer) []) (unwrap_or (known inner) [])))

-- all statements of a policy, each with its limits
abbrev pub statements_of : WrittenPolicy → List WrittenStatement
statements_of w = flat_map (written_out (known_literals w.sets)) w.items

-- a policy of these sets, items and default, without a formula
abbrev pub without_formula : List WrittenSet → List Item → Option RawPath → WrittenPolicy
without_formula sets items default = record { sets = sets; items = items; default_path = default; terms = [] }
