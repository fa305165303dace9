use Rattle.std.proofs.Common.{◌∙◌, map, Vec, Global, ℕ, subst}
use Rattle.configuration_model.specs.Tables.{AreSources}
use Rattle.openflow_rules.specs.Planning.{Planned}
use Rattle.policy_configuration.proofs.Cells.{few-between}
use Rattle.policy_configuration.proofs.configuration.host_lines_of.Goals as goal

pub host_lines-requires-clause-cells : goal.host_lines-requires-clause-cells
host_lines-requires-clause-cells c = few-between c.args.net.now c.args.checked.now.policy c.requires.cells

pub returns : goal.returns
returns c =
    let sources = map (λ (hosts : Vec ℕ Global). hosts.items) c.sources-live.result.now in
    record {
      sources = sources;
      sources_are = subst (λ (p : Planned). AreSources p.net p.checked.policy sources) c.requires.plan c.sources-live.ensures;
      is = c.from_vec.ensures ∙ c.in_ok-lines.ensures;
    }
