use Rattle.std.proofs.Common.{◌≡◌, take, map}
use Rattle.policy_grammar.specs.NumberedPaths.{numbered}
use Rattle.policy_names.specs.Meanings.{meaning_in}
use Rattle.policy_names.proofs.numbering.+numbered.Given as goal

abbrev pub invariant-each_numbered-loop-part : goal.invariant-each_numbered-loop-part
invariant-each_numbered-loop-part l = l.all ≡ map (numbered (meaning_in l.names)) (take l.part-index l.parts)
