use Rattle.std.proofs.Common.{◌+◌, ◌*◌}
use Rattle.path_regex.proofs.forms.Forms.+comparing.Given as goal

abbrev pub decreases-compare : goal.decreases-compare
decreases-compare l = l.first * 2 + 1

abbrev pub decreases-compare_both : goal.decreases-compare_both
decreases-compare_both l = l.forms.0 * 2
