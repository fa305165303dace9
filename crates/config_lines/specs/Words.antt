-- What the words of a line may name: numbers within their limits, locations and functions of a network.
use Rattle.std.specs.Prelude.{ℕ, ◌≤◌, ◌<◌, ◌^◌, Option, None, Some, length}
use Rattle.merlin_model.specs.Networks.{Network}
use Rattle.merlin_base.specs.Lexemes.{IsIdentifier}
use Rattle.merlin_base.specs.declared.limits.TheConstants.{MAX_DIGITS}
use Rattle.topology_shape.specs.declared.limits.TheConstants.{MAX_PORT}
use Rattle.config_text.specs.Lines.{name_at, function_name}
use Rattle.config_lines.specs.declared.limits.TheConstants.{MAX_TAG, MAX_QUEUE}

-- the number is within a range
pub record IsLimited (least most n : ℕ) : Type 0 where
  pub low : least ≤ n
  pub high : n ≤ most

abbrev pub IsPortNumber : ℕ → Type 0
IsPortNumber = IsLimited 1 MAX_PORT

abbrev pub IsTag : ℕ → Type 0
IsTag = IsLimited 1 MAX_TAG

abbrev pub IsQueue : ℕ → Type 0
IsQueue = IsLimited 1 MAX_QUEUE

-- a number with at most so many digits
abbrev pub HasFewDigits : ℕ → Type 0
HasFewDigits n = n < 10 ^ MAX_DIGITS

-- it is so, if it is there
abbrev pub IsOptional : {X : Type 0} → (X → Type 0) → Option X → Type 0
IsOptional Is None = Unit {0}
IsOptional Is (Some x) = Is x

-- A location that a word can name. The names in a network that was read are identifiers.
pub record IsLocation (net : Network) (loc : ℕ) : Type 0 where
  pub within : loc < length net.locations
  pub word : IsIdentifier (name_at net loc)

-- a packet function that a word can name
pub record IsLineFunction (net : Network) (function : ℕ) : Type 0 where
  pub within : function < length net.functions
  pub word : IsIdentifier (function_name net.functions function)
