use Rattle.topology.specs.Symbols.{network_symbols}
use Rattle.delegation.specs.TreeRules.{KeepsOwnRules}
use Rattle.delegation.proofs.Own.{stands-at, so-more}
use Rattle.delegation.proofs.Accepting.{so-at-each, own-more}
use Rattle.delegation.proofs.own_policies.rate_each.Goals as goal

pub loop-number-preserved : goal.loop-number-preserved
loop-number-preserved c =
    let node = c.index-nodes-number.result in
    record {
      rated = own-more c.args.nodes.now c.loop-number.number node c.in_ok-rate_own.field-0 c.loop-number.rated c.push.new.self c.loop-number-test.true c.index-nodes-number.is c.in_ok-rate_own.ensures.ok c.loop-number.invariant.rated
          c.in_ok-push.ensures.ok;
      kept = so-more (KeepsOwnRules c.args.net.now (network_symbols c.args.net.now) c.args.nodes.now) c.args.nodes.now c.loop-number.number node
          (stands-at c.args.nodes.now c.loop-number.number node c.loop-number-test.true c.index-nodes-number.is) c.in_ok-rate_own.ensures.kept c.loop-number.invariant.kept;
    }

pub returns-clause-kept : goal.returns-clause-kept
returns-clause-kept c = so-at-each (KeepsOwnRules c.args.net.now (network_symbols c.args.net.now) c.args.nodes.now) c.args.nodes.now c.loop-number.number c.loop-number-test.false c.loop-number.invariant.kept
