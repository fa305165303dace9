use Rattle.std.proofs.Common.{IfOk, sym, subst}
use Rattle.topology.specs.Symbols.{network_symbols}
use Rattle.policy_expansion.specs.Kept.{IsExpanded, IsWellFormed}
use Rattle.policy_expansion.specs.declared.policy.Policy.{Policy}
use Rattle.policy_check.specs.Checked.{IsCheckOf}
use Rattle.delegation.proofs.Formed.{join-expanded, join-formed}
use Rattle.delegation.proofs.judging.check_join.Goals as goal

pub check_joined-requires-clause-expanded : goal.check_joined-requires-clause-expanded
check_joined-requires-clause-expanded c =
    subst IsExpanded (sym c.in_ok-policy.ensures) (join-expanded c.args.net.now (network_symbols c.args.net.now) c.args.nodes.now c.requires.tree c.requires.sizes c.args.place c.args.node.now c.requires.stands)

pub check_joined-requires-clause-formed : goal.check_joined-requires-clause-formed
check_joined-requires-clause-formed c =
    subst IsWellFormed (sym c.in_ok-policy.ensures) (join-formed c.args.net.now (network_symbols c.args.net.now) c.args.nodes.now c.requires.tree c.requires.sizes c.args.place c.args.node.now c.requires.stands)

pub returns-clause-ok : goal.returns-clause-ok
returns-clause-ok c = subst (λ (p : Policy). IfOk c.check_joined.result (IsCheckOf c.args.net.now (network_symbols c.args.net.now) p)) c.in_ok-policy.ensures c.check_joined.ensures.ok

pub returns-clause-err : goal.returns-clause-err
returns-clause-err c = c.check_joined.ensures.err c.args.nodes.now c.args.node.now c.in_ok-policy.ensures
