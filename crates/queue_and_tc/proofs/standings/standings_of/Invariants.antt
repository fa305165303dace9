use Rattle.std.proofs.Common.{◌≡◌, ◌+◌, ◌≤◌, map}
use Rattle.std.specs.List.{range_with_len}
use Rattle.queue_and_tc.specs.Shares.{count_before, has_class, standing_of}
use Rattle.queue_and_tc.proofs.standings.standings_of.Given as goal

abbrev pub invariant-loop-statement : goal.invariant-loop-statement
invariant-loop-statement l = record {
  made : l.standings.items ≡ map (standing_of l.net l.checked.policy l.sources l.host) (range_with_len 0 l.statement);
  number : l.number ≡ 1 + count_before (has_class l.net l.checked.policy l.sources l.host) l.statement;
  low : l.number ≤ 1 + l.statement;
}
