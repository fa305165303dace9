-- What keeps the contracts is compiled.
use Rattle.std.proofs.Common.{List}
use Rattle.merlin_model.specs.declared.policy.Symbol.{Symbol}
use Rattle.merlin_model.specs.declared.policy.Ends.{Ends}
use Rattle.merlin_model.specs.declared.config.Config.{Config}
use Rattle.merlin_model.specs.Networks.{Network}
use Rattle.merlin_model.specs.Policies.{Policy, match_of}
use Rattle.merlin_model.specs.Headline.{DeliversPackets}
use Rattle.rules_model.specs.Promise.{IsCompiled}
use Rattle.rules_model.proofs.Promise.{delivers}
use Rattle.configuration_model.specs.Compiled.{IsMade}
use Rattle.configuration_model.proofs.Grouped.{are-written, has-group}
use Rattle.configuration_model.proofs.Decided.{decided}
use Rattle.configuration_model.proofs.Dropped.{drops}

module _ (net : Network) (policy : Policy) (ends : List Ends) (walks : List (List Symbol)) (config : Config) (m : IsMade net policy ends walks config) where
  pub compiled : IsCompiled net policy ends walks m.tables.groups m.tables.group_of m.tables.plan config
  compiled = record {
    network = m.network;
    total = λ p valid. has-group net policy ends walks config m (match_of policy p) (m.checked.total p valid);
    written_are = are-written net policy ends walks config m;
    cells = λ s d p number valid proper listed. decided net policy ends walks config m s d p number valid proper listed;
    plan_is = m.tables.plan_is;
    rules = m.tables.rules_are;
    processes = m.tables.processes_are;
    drops = λ s d p valid proper. drops net policy ends walks config m s d p valid proper;
  }

  pub delivered : DeliversPackets net policy ends walks config
  delivered = delivers net policy ends walks m.tables.groups m.tables.group_of m.tables.plan config compiled
