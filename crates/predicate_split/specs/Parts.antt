-- What a field of packets is split into, so that predicates do not tell the values of one part apart: each value that is
-- mentioned, and of all others those that are in the same blocks of addresses. The least value of a part stands for it.
use Rattle.std.specs.Prelude.{ℕ, zero, suc, ◌≡◌, ◌<◌, ◌+◌, ◌^◌, ◌⊎◌, ◌↔◌, Bool, true, false, not, ◌&&◌, ◌==◌, nat_lt, List, [], ◌∷◌, ◌++◌, filter, Contains, Option, None, Some, option_to_list, if◌then◌else◌}
use Rattle.std.specs.Option.{option_or}
use Rattle.std.specs.List.{AllByRecursion, flat_map, list_any}
use Rattle.merlin_model.specs.declared.policy.Field.{Field}
use Rattle.merlin_model.specs.declared.policy.Field.TheVariants.{EthSrc, EthDst, IpSrc, IpDst, Proto, Sport, Dport}
use Rattle.merlin_model.specs.declared.policy.Pred.{Pred}
use Rattle.merlin_model.specs.Networks.{Pairwise}
use Rattle.packet_model.specs.Fields.{has_ports}
use Rattle.predicate_logic.specs.Mentions.{mentions, prefixes, is_within, ascending}

-- how many bits a value of the field has
abbrev pub bits_of : Field → ℕ
bits_of EthSrc = 48
bits_of EthDst = 48
bits_of IpSrc = 32
bits_of IpDst = 32
bits_of Proto = 8
bits_of Sport = 16
bits_of Dport = 16

-- how many values a field has
abbrev pub limit_of : Field → ℕ
limit_of f = 2 ^ bits_of f

-- only TCP and UDP have ports
abbrev pub has_field : Field → ℕ → Bool
has_field Sport proto = has_ports proto
has_field Dport proto = has_ports proto
has_field _ proto = true

-- the values are in the same of the blocks
abbrev pub AreInSame : List (ℕ × ℕ) → ℕ → ℕ → Type 0
AreInSame blocks u v = AllByRecursion (λ b. is_within b u ≡ is_within b v) blocks

-- The value stands for its part: it is mentioned, or it is the least that is not mentioned and is in the same blocks.
abbrev pub StandsForPart : List (ℕ × ℕ) → List ℕ → ℕ → Type 0
StandsForPart blocks named v =
    Contains named v ⊎ ((¬ Contains named v) × ((u : ℕ) → u < v → AreInSame blocks u v → Contains named u))

-- all values below 2 ^ bits that stand for their parts, ascending
pub record AreParts (bits : ℕ) (blocks : List (ℕ × ℕ)) (named parts : List ℕ) : Type 0 where
  pub ascending : Pairwise (λ a b. a < b) parts
  pub exactly : (v : ℕ) → Contains parts v ↔ ((v < 2 ^ bits) × StandsForPart blocks named v)

-- How they are found: by halving the values until no block is left.

-- the least number, from n on, that is not among ascending ones
abbrev pub least_from : ℕ → List ℕ → ℕ
least_from n [] = n
least_from n (m ∷ rest) =
    if nat_lt m n then least_from n rest
    else if n == m then least_from (suc n) rest
    else n

-- the least of the 2 ^ bits values from low on that is not mentioned
abbrev pub least_within : ℕ → ℕ → List ℕ → Option ℕ
least_within bits low named =
    if nat_lt (least_from low named) (low + 2 ^ bits) then Some (least_from low named) else None

-- the block has 2 ^ bits addresses
abbrev pub is_whole : ℕ → ℕ × ℕ → Bool
is_whole bits block = block.1 + bits == 32

abbrev pub begins_below : ℕ → ℕ × ℕ → Bool
begins_below middle block = nat_lt block.0 middle

abbrev pub has_none : List (ℕ × ℕ) → Bool
has_none [] = true
has_none (b ∷ rest) = false

-- A finding is the least value that is in no block, if there is one, and the least values of all parts within blocks.

abbrev pub joined_findings : Option ℕ × List ℕ → Option ℕ × List ℕ → Option ℕ × List ℕ
joined_findings left right = (option_or left.0 right.0, left.1 ++ right.1)

-- where one block has all values
abbrev pub closed_finding : Bool → Option ℕ × List ℕ → Option ℕ × List ℕ
closed_finding true found = (None, found.1 ++ option_to_list found.0)
closed_finding false found = found

-- what is found among the 2 ^ bits values from low on
abbrev pub find_others : ℕ → ℕ → List (ℕ × ℕ) → List ℕ → Option ℕ × List ℕ
find_others zero low blocks named = (least_within zero low named, [])
find_others (suc k) low blocks named =
    closed_finding (list_any (is_whole (suc k)) blocks)
    (if has_none (filter (λ b. not (is_whole (suc k) b)) blocks) then (least_within (suc k) low named, []) else
    joined_findings
    (find_others k low (filter (begins_below (low + 2 ^ k)) (filter (λ b. not (is_whole (suc k) b)) blocks)) named)
    (find_others k (low + 2 ^ k) (filter (λ b. not (begins_below (low + 2 ^ k) b)) (filter (λ b. not (is_whole (suc k) b)) blocks)) named))

-- what is found among the 2 ^ suc bits values from low on, from the blocks of both halves
abbrev pub find_in_halves : ℕ → ℕ → List (ℕ × ℕ) → List (ℕ × ℕ) → List ℕ → Option ℕ × List ℕ
find_in_halves bits low left right named =
    if has_none left && has_none right then (least_within (suc bits) low named, []) else
    joined_findings (find_others bits low left named) (find_others bits (low + 2 ^ bits) right named)

-- the parts of the values below 2 ^ bits: those that are mentioned, in ascending order, and what else is found
unfoldable pub parts_within : ℕ → List (ℕ × ℕ) → List ℕ → List ℕ
parts_within bits blocks named =
    ascending ((named ++ (find_others bits 0 blocks named).1) ++ option_to_list (find_others bits 0 blocks named).0)

-- The parts of a field, each by its least value. A port that the protocol does not have is 0.
abbrev pub field_parts : Field → ℕ → List Pred → List ℕ
field_parts f proto preds =
    if has_field f proto then parts_within (bits_of f) (flat_map (prefixes f) preds) (ascending (flat_map (mentions f) preds))
    else 0 ∷ []
