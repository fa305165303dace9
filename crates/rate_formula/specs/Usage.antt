-- Rates that some ids use.
use Rattle.std.specs.Prelude.{ℕ, List, [], ◌∷◌, map, bytes_eq, if◌then◌else◌}
use Rattle.merlin_model.specs.Packets.{Packet}
use Rattle.merlin_model.specs.Policies.{Policy}
use Rattle.merlin_model.specs.Rates.{rate_of_id}

-- the rate of an id among some ids and their rates; any other id uses nothing
abbrev pub rate_among : List (List ℕ) → List ℕ → List ℕ → ℕ
rate_among [] rates id = 0
rate_among (other ∷ ids) [] id = 0
rate_among (other ∷ ids) (rate ∷ rates) id = if bytes_eq other id then rate else rate_among ids rates id

-- the ids of a policy, and the rate that some traffic gives to each
abbrev pub ids_in : Policy → List (List ℕ)
ids_in policy = map (λ s. s.id) policy.statements

abbrev pub rates_of : Policy → List (Packet × ℕ) → List ℕ
rates_of policy traffic = map (rate_of_id policy traffic) (ids_in policy)
