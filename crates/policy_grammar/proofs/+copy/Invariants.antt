use Rattle.std.proofs.Common.{◌≡◌, take}
use Rattle.policy_grammar.proofs.+copy.Given as goal

abbrev pub invariant-path_copy::copies-loop-part : goal.invariant-path_copy::copies-loop-part
invariant-path_copy::copies-loop-part l = l.copies ≡ take l.part-index l.parts
