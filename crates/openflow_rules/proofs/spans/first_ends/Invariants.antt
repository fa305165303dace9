use Rattle.std.proofs.Common.{◌≡◌, ◌==◌, find, drop}
use Rattle.openflow_rules.proofs.spans.first_ends.Given as goal

abbrev pub invariant-loop-pair : goal.invariant-loop-pair
invariant-loop-pair l = find (λ e. e.statement == l.statement) (drop l.pair-index l.ends) ≡ find (λ e. e.statement == l.statement) l.ends
