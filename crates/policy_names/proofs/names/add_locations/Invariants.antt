use Rattle.std.proofs.Common.{◌≡◌, ℕ, List, take}
use Rattle.std.specs.Option.{option_or}
use Rattle.policy_names.specs.Meanings.{meaning_held, location_called}
use Rattle.policy_names.proofs.names.add_locations.Given as goal

abbrev pub invariant-loop-loc : goal.invariant-loop-loc
invariant-loop-loc l = (other : List ℕ) → meaning_held l.names other ≡ option_or (meaning_held l.initial.names other) (location_called (take l.loc l.net.locations) other)
