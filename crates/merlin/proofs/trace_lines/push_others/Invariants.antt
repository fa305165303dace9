use Rattle.std.proofs.Common.{◌≡◌, ◌++◌, ◌∷◌, take}
use Rattle.std.specs.List.{flat_map}
use Rattle.config_text.specs.Lines.{function_name}
use Rattle.merlin.proofs.trace_lines.push_others.Given as goal

abbrev pub invariant-loop-function : goal.invariant-loop-function
invariant-loop-function l = l.bytes.items ≡ l.initial.bytes.items ++ flat_map (λ other. 44 ∷ function_name l.net.functions other) (take l.function-index l.functions)
