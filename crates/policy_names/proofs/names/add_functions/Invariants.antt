use Rattle.std.proofs.Common.{◌≡◌, ℕ, List, take}
use Rattle.std.specs.Option.{option_or}
use Rattle.policy_names.specs.Meanings.{meaning_held, function_called}
use Rattle.policy_names.proofs.names.add_functions.Given as goal

abbrev pub invariant-loop-number : goal.invariant-loop-number
invariant-loop-number l = (other : List ℕ) → meaning_held l.names other ≡ option_or (meaning_held l.initial.names other) (function_called (take l.number l.functions) other)
