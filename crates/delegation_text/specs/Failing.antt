-- How parts of the reader fail.
use Rattle.std.specs.Prelude.{ℕ, ⊤, List}
use Rattle.delegation_text.specs.declared.fault.EntryFault.{EntryFault}
use Rattle.delegation_text.specs.declared.fault.EntryFault.TheVariants.{Json, Shape, DuplicateName, UnknownNode, TooManyNodes, OutOfMemory}
use Rattle.delegation_text.specs.declared.fault.NodePart.{NodePart}
use Rattle.delegation_text.specs.declared.fault.NodePartFault.{NodePartFault}
use Rattle.delegation_text.specs.declared.fault.NodePartFault.TheVariants as part

-- memory ran out, or these are the words for what is missing or wrong
abbrev pub FailsAsMisshapen : (List ℕ → Type 0) → EntryFault → Type 0
FailsAsMisshapen IsWrong Json = ⊥
FailsAsMisshapen IsWrong (Shape what) = IsWrong what
FailsAsMisshapen IsWrong (DuplicateName name) = ⊥
FailsAsMisshapen IsWrong (UnknownNode name) = ⊥
FailsAsMisshapen IsWrong (TooManyNodes count) = ⊥
FailsAsMisshapen IsWrong OutOfMemory = ⊤

-- memory ran out, or this part is missing or wrong
abbrev pub FailsAsNodePart : (NodePart → Type 0) → NodePartFault → Type 0
FailsAsNodePart IsWrong (part.Wrong which) = IsWrong which
FailsAsNodePart IsWrong part.OutOfMemory = ⊤

-- memory ran out, or this name stands twice
abbrev pub FailsAsDoubled : (List ℕ → Type 0) → EntryFault → Type 0
FailsAsDoubled IsDoubled Json = ⊥
FailsAsDoubled IsDoubled (Shape what) = ⊥
FailsAsDoubled IsDoubled (DuplicateName name) = IsDoubled name
FailsAsDoubled IsDoubled (UnknownNode name) = ⊥
FailsAsDoubled IsDoubled (TooManyNodes count) = ⊥
FailsAsDoubled IsDoubled OutOfMemory = ⊤

-- memory ran out, or this is the name of no earlier node
abbrev pub FailsAsUnknownNode : (List ℕ → Type 0) → EntryFault → Type 0
FailsAsUnknownNode IsUnknown Json = ⊥
FailsAsUnknownNode IsUnknown (Shape what) = ⊥
FailsAsUnknownNode IsUnknown (DuplicateName name) = ⊥
FailsAsUnknownNode IsUnknown (UnknownNode name) = IsUnknown name
FailsAsUnknownNode IsUnknown (TooManyNodes count) = ⊥
FailsAsUnknownNode IsUnknown OutOfMemory = ⊤
