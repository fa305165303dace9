use Rattle.std.proofs.Common.{List, ◌++◌, map, ◌∙◌, ap, ap₂}
use Rattle.std.specs.List.{flat_map}
use Rattle.delegation.specs.declared.rating.RatedStatement.{RatedStatement}
use Rattle.delegation.specs.NamedJoins.{statements_of_child, statement_elsewhere}
use Rattle.delegation.specs.NamedTrees.{children_with, scopes_under}
use Rattle.delegation.proofs.Steps.{join-same}
use Rattle.delegation.proofs.joining.join.Goals as goal

pub returns : goal.returns
returns c = ap₂ (λ statements path. record { statements = statements; default_path = path }) (c.in_ok-statements.ensures
    ∙ ap (λ (own : List RatedStatement). flat_map statements_of_child (children_with c.args.nodes.now c.args.policies.now c.args.place) ++ map (statement_elsewhere (scopes_under c.args.nodes.now c.args.place)) own) c.as_slice.ensures
    ∙ join-same c.args.place c.args.nodes.now c.args.policies.now c.args.own.now c.requires) c.in_ok-default_path.ensures
