use Rattle.std.proofs.Common.{take}
use Rattle.path_regex.proofs.Joined.{AreCollected}
use Rattle.path_regex.proofs.forms.Forms.+form_of.Given as goal

abbrev pub invariant-loop-path : goal.invariant-loop-path
invariant-loop-path l = AreCollected (λ a. a) l.fn.self l.self (take l.path-index l.path-items) l.forms
