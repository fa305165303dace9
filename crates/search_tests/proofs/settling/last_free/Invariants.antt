use Rattle.std.proofs.Common.{◌≡◌, ℕ, ◌<◌, ◌≤◌, get_or, length, None}
use Rattle.search_tests.proofs.settling.last_free.Given as goal

abbrev pub invariant-loop-variable : goal.invariant-loop-variable
invariant-loop-variable l = (k : ℕ) → l.variable ≤ k → k < length l.fixed → get_or l.fixed k None ≡ None → ⊥
