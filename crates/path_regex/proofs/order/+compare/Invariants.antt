use Rattle.std.proofs.Common.{◌≡◌, drop}
use Rattle.std.specs.Cmp.Lexicographic.{slice_cmp}
use Rattle.path_regex.specs.Order.{order}
use Rattle.path_regex.proofs.order.+compare.Given as goal

abbrev pub invariant-compare_members-loop-path : goal.invariant-compare_members-loop-path
invariant-compare_members-loop-path l = slice_cmp order l.paths l.others ≡ slice_cmp order (drop l.path-index l.paths) l.left
