-- What is made is over its network.
use Rattle.std.proofs.Common.{◌≡◌, ◌<◌, List, length, All, sym, subst}
use Rattle.std.specs.List.{AllByRecursion}
use Rattle.std.proofs.lemmas.List.Elements.{All-from_recursion}
use Rattle.merlin_model.specs.declared.policy.Symbol.{Symbol}
use Rattle.merlin_model.specs.declared.policy.Ends.{Ends}
use Rattle.merlin_model.specs.declared.config.Config.{Config}
use Rattle.merlin_model.specs.declared.config.Process.{Process}
use Rattle.merlin_model.specs.Networks.{Network}
use Rattle.merlin_model.specs.Policies.{Policy}
use Rattle.product_graph.proofs.Lists.{all-map}
use Rattle.rules_model.specs.Products.{AreWrittenWalks}
use Rattle.rules_model.specs.Tables.{table_rules, table_processes}
use Rattle.config_text.specs.Lines.{IsConfigOver, host_of}
use Rattle.configuration_model.specs.Queues.{reserved_queues}
use Rattle.configuration_model.specs.Hosts.{host_lines}
use Rattle.configuration_model.specs.Compiled.{IsMade}
use Rattle.policy_configuration.proofs.Lines.{rules-stand, processes-stand, processes-run, queues-stand}
use Rattle.policy_configuration.proofs.HostLines.{hosts-stand}

moved : {X : Type 0} (P : X → Type 0) (xs ys : List X) → xs ≡ ys → AllByRecursion P ys → All P xs
moved P xs ys same h = All-from_recursion P xs (subst (AllByRecursion P) (sym same) h)

pub printable : (net : Network) (policy : Policy) (ends : List Ends) (walks : List (List Symbol)) (config : Config) (m : IsMade net policy ends walks config) → AreWrittenWalks net m.tables.groups → IsConfigOver net config
printable net policy ends walks config m written = record {
  rules = moved (λ r. r.loc < length net.locations) config.rules (table_rules net m.tables.plan) m.tables.rules_are (rules-stand net m.tables.plan);
  processes = moved (λ p. p.loc < length net.locations) config.processes (table_processes net m.tables.plan) m.tables.processes_are (processes-stand net m.tables.groups m.tables.plan m.tables.plan_is written);
  functions = moved (λ p. All (λ f. f < length net.functions) p.functions) config.processes (table_processes net m.tables.plan) m.tables.processes_are
      (all-map (λ (p : Process). AllByRecursion (λ f. f < length net.functions) p.functions) (λ p. All (λ f. f < length net.functions) p.functions) (λ p h. All-from_recursion (λ f. f < length net.functions) p.functions h)
      (table_processes net m.tables.plan) (processes-run net m.tables.groups m.tables.plan m.tables.plan_is written));
  queues = moved (λ q. q.loc < length net.locations) config.queues (reserved_queues net policy ends walks) m.queues (queues-stand net policy m.network ends walks);
  hosts = moved (λ h. host_of h < length net.locations) config.hosts (host_lines net policy m.sources m.cells) m.hosts (hosts-stand net policy m.sources m.cells);
}
