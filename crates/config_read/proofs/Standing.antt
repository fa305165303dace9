-- A configuration that was read names locations and functions of its network alone.
use Rattle.std.proofs.Common.{ℕ, ◌<◌, List, [], ◌∷◌, length, Result, Ok, Err, IfOk, IfErr, sym, subst}
use Rattle.std.proofs.lemmas.List.Elements.{All-from_recursion}
use Rattle.std.specs.List.{All, AllByRecursion}
use Rattle.merlin_model.specs.declared.config.Config.{Config}
use Rattle.merlin_model.specs.Networks.{Network}
use Rattle.config_text.specs.Lines.{host_of, IsConfigOver}
use Rattle.config_lines.specs.Words.{IsLineFunction}
use Rattle.config_lines.specs.Lines.{IsRuleLine, IsProcessLine, IsQueueLine, IsHostLine}
use Rattle.config_read.specs.declared.result.Head.{Head}
use Rattle.config_read.specs.declared.result.Head.TheVariants.{Least, Infeasible}
use Rattle.config_read.specs.declared.fault.ConfigFault.{ConfigFault}
use Rattle.config_read.specs.declared.result.ResultText.{ResultText}
use Rattle.config_read.specs.Results.{IsConfig, IsConfigOf}
use Rattle.config_read.specs.Answers.{IsTextOfResult, IsConfigFault}
use Rattle.config_read.proofs.Wholes.{no_config, config_is}

weaker : {X : Type 0} (P Q : X → Type 0) → ((x : X) → P x → Q x) → (xs : List X) → AllByRecursion P xs → AllByRecursion Q xs
weaker P Q from [] all = tt
weaker P Q from (x ∷ xs) all = (from x all.0, weaker P Q from xs all.1)

each : {X : Type 0} (P Q : X → Type 0) → ((x : X) → P x → Q x) → (xs : List X) → AllByRecursion P xs → All Q xs
each P Q from xs all = All-from_recursion Q xs (weaker P Q from xs all)

config_over : (net : Network) (config : Config) → IsConfig net config → IsConfigOver net config
config_over net config is = record {
  rules = each (IsRuleLine net) (λ r. r.loc < length net.locations) (λ r line. line.loc.within) config.rules is.rules;
  processes = each (IsProcessLine net) (λ p. p.loc < length net.locations) (λ p line. line.loc.within) config.processes is.processes;
  functions = each (IsProcessLine net) (λ p. All (λ f. f < length net.functions) p.functions) (λ p line. each (IsLineFunction net) (λ f. f < length net.functions) (λ f named. named.within) p.functions line.functions) config.processes is.processes;
  queues = each (IsQueueLine net) (λ q. q.loc < length net.locations) (λ q line. line.loc.within) config.queues is.queues;
  hosts = each (IsHostLine net) (λ h. host_of h < length net.locations) (λ h line. line.loc.within) config.hosts is.hosts;
}

over_by : (net : Network) (head : Head) (config : Config) → IsConfigOf net head config → IsConfigOver net config
over_by net (Least objective value walks loads) config is = config_over net config is
over_by net (Infeasible objective) config is =
    subst (IsConfigOver net) (sym (config_is config is)) (config_over net no_config (record { rules = tt; processes = tt; queues = tt; hosts = tt }))

pub result_over : (net : Network) (bytes : List ℕ) (r : ResultText) → IsTextOfResult net bytes r → IsConfigOver net r.config
result_over net bytes r is = over_by net r.head r.config is.is.config

pub answer_over : (net : Network) (bytes : List ℕ) (answer : Result ResultText ConfigFault) → IfOk answer (IsTextOfResult net bytes) → IfOk answer (λ r. IsConfigOver net r.config)
answer_over net bytes (Ok r) is = result_over net bytes r is
answer_over net bytes (Err e) is = tt

-- What holds over any network.
pub ok_over : (net : Network) (bytes : List ℕ) (answer : Result ResultText ConfigFault) → IfOk answer (λ r. (net : Network) → IsTextOfResult net bytes r) → IfOk answer (IsTextOfResult net bytes)
ok_over net bytes (Ok r) all = all net
ok_over net bytes (Err e) all = tt

pub err_over : (net : Network) (bytes : List ℕ) (answer : Result ResultText ConfigFault) → IfErr answer (λ fault. (net : Network) → IsConfigFault net bytes fault) → IfErr answer (IsConfigFault net bytes)
err_over net bytes (Ok r) all = tt
err_over net bytes (Err fault) all = all net
