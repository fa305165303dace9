-- Of which policy the parts of statements are.
use Rattle.std.specs.Prelude.{◌≡◌}
use Rattle.merlin_model.specs.declared.policy.Ends.{Ends}
use Rattle.merlin_model.specs.Networks.{Network}
use Rattle.merlin_model.specs.Policies.{Policy}
use Rattle.merlin_model.specs.Rates.{min_of}
use Rattle.cutoff_program.specs.Walks.{AreTwoHosts, IsAutomatonFor}
use Rattle.policy_flows.specs.Layouts.{StatementParts}

-- the statement is between two hosts, the automaton takes the words on its path, and the rate is its localised minimum
pub record ArePartsIn (net : Network) (policy : Policy) (parts : StatementParts) (ends : Ends) : Type 0 where
  pub hosts : AreTwoHosts net ends
  pub automaton : IsAutomatonFor net policy ends.statement (parts.automaton ends.statement)
  pub rate : parts.rate ends.statement ≡ min_of policy ends.statement
