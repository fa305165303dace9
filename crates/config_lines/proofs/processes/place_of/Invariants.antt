use Rattle.std.proofs.Common.{◌≡◌, ℕ, ◌<◌}
use Rattle.config_text.specs.Lines.{function_name}
use Rattle.config_lines.proofs.processes.place_of.Given as goal

abbrev pub invariant-loop-place : goal.invariant-loop-place
invariant-loop-place l = (f : ℕ) → f < l.place → function_name l.declared f ≡ l.name → ⊥
