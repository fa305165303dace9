use Rattle.std.proofs.Common.{take}
use Rattle.path_regex.specs.Normal.{normal_of}
use Rattle.path_regex.proofs.Joined.{AreCollected}
use Rattle.path_regex.proofs.forms.Forms.+normal.Given as goal

abbrev pub invariant-loop-path : goal.invariant-loop-path
invariant-loop-path l = AreCollected normal_of l.fn.self l.self (take l.path-index l.path-items) l.forms
