-- What is asked of guarantees and their walks, and the queues of a link in both directions.
use Rattle.std.specs.Prelude.{◌≤◌, ◌<◌, ◌^◌, ◌++◌, List, length, Vec}
use Rattle.std.specs.declared.alloc.Global.{Global}
use Rattle.merlin_model.specs.declared.config.Queue.{Queue}
use Rattle.merlin_model.specs.declared.network.Link.{Link}
use Rattle.merlin_model.specs.declared.policy.Ends.{Ends}
use Rattle.merlin_model.specs.declared.policy.Symbol.{Symbol}
use Rattle.merlin_model.specs.Networks.{from_a, from_b}
use Rattle.merlin_model.specs.Policies.{Policy}
use Rattle.merlin_model.specs.Rates.{min_of}
use Rattle.configuration_model.specs.Queues.{queues_on}

-- the minimum of a guaranteed statement is a rate that a text can name
abbrev pub IsWithinRates : Policy → Ends → Type 0
IsWithinRates policy ends = min_of policy ends.statement ≤ 1000000000

-- the walk has less than 2 ^ 32 symbols, so that what it reserves on a link is a number of 64 bits
abbrev pub IsShort : Vec Symbol Global → Type 0
IsShort walk = length walk.items < 2 ^ 32

-- the queues of a link, first from its end a
abbrev pub queues_of_both : Policy → List Ends → List (List Symbol) → Link → List Queue
queues_of_both policy ends walks link = queues_on policy (from_a link) 1 ends walks ++ queues_on policy (from_b link) 1 ends walks
