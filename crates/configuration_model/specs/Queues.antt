-- The queues: for each directed link, the guarantees whose walks cross it.
use Rattle.std.specs.Prelude.{ℕ, suc, ◌*◌, nat_lt, List, [], ◌∷◌, ◌++◌, if◌then◌else◌}
use Rattle.std.specs.List.{flat_map}
use Rattle.merlin_model.specs.declared.policy.Symbol.{Symbol}
use Rattle.merlin_model.specs.declared.policy.Ends.{Ends}
use Rattle.merlin_model.specs.declared.config.Queue.{Queue}
use Rattle.merlin_model.specs.declared.network.DirectedLink.{DirectedLink}
use Rattle.merlin_model.specs.Networks.{Network, directed_links}
use Rattle.merlin_model.specs.Words.{crossings}
use Rattle.merlin_model.specs.Policies.{Policy}
use Rattle.merlin_model.specs.Rates.{min_of}

module _ (policy : Policy) where
  -- the line of the guaranteed statement with this queue, where its walk crosses the link
  abbrev pub queue_line : DirectedLink → ℕ → Ends → List Symbol → List Queue
  queue_line link q e w =
      if nat_lt 0 (crossings w link.from link.to)
      then record { loc = link.from; port = link.out_port; queue = q; rate = min_of policy e.statement * crossings w link.from link.to } ∷ []
      else []

  abbrev pub queues_on : DirectedLink → ℕ → List Ends → List (List Symbol) → List Queue
  queues_on link q [] walks = []
  queues_on link q (e ∷ ends) [] = []
  queues_on link q (e ∷ ends) (w ∷ walks) = queue_line link q e w ++ queues_on link (suc q) ends walks

abbrev pub reserved_queues : Network → Policy → List Ends → List (List Symbol) → List Queue
reserved_queues net policy ends walks = flat_map (λ link. queues_on policy link 1 ends walks) (directed_links net)
