use Rattle.std.proofs.Common.{◌≡◌, drop}
use Rattle.std.specs.List.{list_any}
use Rattle.path_regex.specs.Derivatives.{takes_empty}
use Rattle.path_regex.proofs.empty_word.+takes_empty.Given as goal

abbrev pub invariant-loop-path : goal.invariant-loop-path
invariant-loop-path l = list_any takes_empty l.path-items ≡ list_any takes_empty (drop l.path-index l.path-items)
