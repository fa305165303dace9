use Rattle.std.proofs.Common.{length}
use Rattle.path_regex.proofs.Joined.{IsChaining}
use Rattle.path_regex.proofs.forms.Forms.choice_of.Given as goal

abbrev pub invariant-loop-form : goal.invariant-loop-form
invariant-loop-form l = IsChaining l.fn.self l.self l.fn.forms l.forms l.all

abbrev pub decreases-loop-form : goal.decreases-loop-form
decreases-loop-form l = length l.forms
