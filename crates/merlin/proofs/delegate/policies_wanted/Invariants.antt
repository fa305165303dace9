use Rattle.std.proofs.Common.{◌≡◌, take}
use Rattle.merlin.specs.Reading.{files_wanted}
use Rattle.merlin.specs.Delegate.{policy_files}
use Rattle.merlin.proofs.delegate.policies_wanted.Given as goal

abbrev pub invariant-loop-entry : goal.invariant-loop-entry
invariant-loop-entry l = files_wanted l.wanted.items ≡ policy_files (take l.entry-index l.entries)
