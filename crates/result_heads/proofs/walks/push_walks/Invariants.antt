use Rattle.std.proofs.Common.{◌≡◌, ◌++◌, length, zip}
use Rattle.std.specs.List.{AllByRecursion}
use Rattle.merlin_model.specs.Words.{IsSymbol}
use Rattle.result_heads.specs.Heads.{walk_lines}
use Rattle.result_heads.proofs.walks.push_walks.Given as goal

abbrev pub invariant-walks : goal.invariant-walks
invariant-walks l = record {
  written : l.lines.items ++ walk_lines l.net (zip l.ids_left l.walks_left) ≡ l.fn.lines.items ++ walk_lines l.net (zip l.ids l.walks);
  symbols : AllByRecursion (AllByRecursion (IsSymbol l.net)) l.walks_left;
}

abbrev pub decreases-walks : goal.decreases-walks
decreases-walks l = length l.walks_left
