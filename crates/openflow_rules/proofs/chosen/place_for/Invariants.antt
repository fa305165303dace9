use Rattle.std.proofs.Common.{◌≡◌, ◌==◌, find, drop}
use Rattle.openflow_rules.proofs.chosen.place_for.Given as goal

abbrev pub invariant-loop-place : goal.invariant-loop-place
invariant-loop-place l = find (λ e. e.statement == l.statement) (drop l.place l.ends) ≡ find (λ e. e.statement == l.statement) l.ends
