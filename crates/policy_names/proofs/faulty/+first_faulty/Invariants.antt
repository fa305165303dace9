use Rattle.std.proofs.Common.{◌≡◌, drop}
use Rattle.std.specs.List.{flat_map}
use Rattle.policy_names.specs.Names.{faulty_in}
use Rattle.policy_names.specs.Meanings.{meaning_in}
use Rattle.policy_names.proofs.faulty.+first_faulty.Given as goal

-- no name was at fault so far
abbrev pub invariant-first_among-loop-part : goal.invariant-first_among-loop-part
invariant-first_among-loop-part l = flat_map (faulty_in (meaning_in l.names) l.negated) (drop l.part-index l.parts) ≡ flat_map (faulty_in (meaning_in l.names) l.negated) l.parts
