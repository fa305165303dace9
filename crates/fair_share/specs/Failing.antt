-- How parts of the reader fail.
use Rattle.std.specs.Prelude.{◌≡◌, ℕ, ◌≤◌, ⊤, List, Vec, map}
use Rattle.std.specs.List.{AllByRecursion}
use Rattle.std.specs.declared.alloc.Global.{Global}
use Rattle.merlin_base.specs.Lexemes.{IsName}
use Rattle.merlin_model.specs.declared.limits.TheConstants.{MAX_RATE}
use Rattle.fair_share.specs.declared.entry.NamedRate.{NamedRate}
use Rattle.fair_share.specs.declared.entry.NamedRates.{NamedRates}
use Rattle.fair_share.specs.declared.fault.DemandFault.{DemandFault}
use Rattle.fair_share.specs.declared.fault.DemandFault.TheVariants.{Json, Shape, TooLarge, DuplicateName, UnknownCap, OutOfMemory}
use Rattle.fair_share.specs.declared.entry.ElementPart.{ElementPart}
use Rattle.fair_share.specs.declared.entry.PartFault.{PartFault}
use Rattle.fair_share.specs.declared.entry.PartFault.TheVariants as part

-- memory ran out, or these are the words for what is missing or wrong
abbrev pub FailsAsShape : (List ℕ → Type 0) → DemandFault → Type 0
FailsAsShape IsWrong Json = ⊥
FailsAsShape IsWrong (Shape what) = IsWrong what
FailsAsShape IsWrong (TooLarge what count) = ⊥
FailsAsShape IsWrong (DuplicateName name) = ⊥
FailsAsShape IsWrong (UnknownCap name) = ⊥
FailsAsShape IsWrong OutOfMemory = ⊤

-- memory ran out, or this part is missing or wrong
abbrev pub FailsAsPart : (ElementPart → Type 0) → PartFault → Type 0
FailsAsPart IsWrong (part.Wrong which) = IsWrong which
FailsAsPart IsWrong part.OutOfMemory = ⊤

-- memory ran out, or this name stands twice
abbrev pub FailsAsRepeated : (List ℕ → Type 0) → DemandFault → Type 0
FailsAsRepeated IsRepeated Json = ⊥
FailsAsRepeated IsRepeated (Shape what) = ⊥
FailsAsRepeated IsRepeated (TooLarge what count) = ⊥
FailsAsRepeated IsRepeated (DuplicateName name) = IsRepeated name
FailsAsRepeated IsRepeated (UnknownCap name) = ⊥
FailsAsRepeated IsRepeated OutOfMemory = ⊤

-- memory ran out, or this is the name of no cap
abbrev pub FailsAsUnknown : (List ℕ → Type 0) → DemandFault → Type 0
FailsAsUnknown IsUnknown Json = ⊥
FailsAsUnknown IsUnknown (Shape what) = ⊥
FailsAsUnknown IsUnknown (TooLarge what count) = ⊥
FailsAsUnknown IsUnknown (DuplicateName name) = ⊥
FailsAsUnknown IsUnknown (UnknownCap name) = IsUnknown name
FailsAsUnknown IsUnknown OutOfMemory = ⊤

-- a name, and a rate within its limit
abbrev pub IsLawfulRate : NamedRate → Type 0
IsLawfulRate entry = IsName entry.name × (entry.rate ≤ MAX_RATE)

abbrev pub AreLawful : NamedRates → Type 0
AreLawful entries = AllByRecursion IsLawfulRate entries.caps.items × AllByRecursion IsLawfulRate entries.tenants.items

-- the texts that a table has as keys
abbrev pub key_texts : List (Vec ℕ Global) → List (List ℕ)
key_texts keys = map (λ key. key.items) keys

-- memory ran out, or there are more of these than may be
abbrev pub FailsAsTooLarge : List ℕ → ℕ → DemandFault → Type 0
FailsAsTooLarge words limit Json = ⊥
FailsAsTooLarge words limit (Shape what) = ⊥
FailsAsTooLarge words limit (TooLarge what count) = (what ≡ words) × (count ≡ limit)
FailsAsTooLarge words limit (DuplicateName name) = ⊥
FailsAsTooLarge words limit (UnknownCap name) = ⊥
FailsAsTooLarge words limit OutOfMemory = ⊤
