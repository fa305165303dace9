use Rattle.std.proofs.Common.{◌+◌, ◌*◌}
use Rattle.path_regex.proofs.Joined.{IsWriting}
use Rattle.path_regex.proofs.forms.Forms.+writing.Given as goal

abbrev pub decreases-path_of : goal.decreases-path_of
decreases-path_of l = l.form * 2 + 1

abbrev pub decreases-members_of : goal.decreases-members_of
decreases-members_of l = l.all * 2

abbrev pub invariant-members_of-loop-first : goal.invariant-members_of-loop-first
invariant-members_of-loop-first l = IsWriting l.fn.self l.fn.all l.paths l.left

abbrev pub decreases-members_of-loop-first : goal.decreases-members_of-loop-first
decreases-members_of-loop-first l = l.left
