use Rattle.std.proofs.Common.{◌≡◌, length, subst, arith}
use Rattle.std.proofs.lemmas.Result.{err_from_is_err_and}
use Rattle.topology.specs.Symbols.{network_symbols}
use Rattle.delegation.specs.JoinChecks.{AreJoinChecks}
use Rattle.delegation.specs.TreeRules.{KeepsJoinedRules}
use Rattle.delegation.proofs.Own.{stands-at}
use Rattle.delegation.proofs.Accepting.{so-at-each}
use Rattle.delegation.proofs.Judgement.{join-more, joins-keep, join-breaks}
use Rattle.delegation.proofs.judging.check_joins.Goals as goal

pub check_join-requires-clause-stands : goal.check_join-requires-clause-stands
check_join-requires-clause-stands c = stands-at c.args.nodes.now c.loop-place.place c.index-nodes-place.result c.loop-place-test.true c.index-nodes-place.is

pub returns-in_err-check_join-clause-err : goal.returns-in_err-check_join-clause-err
returns-in_err-check_join-clause-err c =
    let node = c.index-nodes-place.result in
    let p = err_from_is_err_and c.from_residual.result c.from_residual.ensures.1 in
    rw (p.1, p.2) (join-breaks c.args.net.now (network_symbols c.args.net.now) c.args.nodes.now c.loop-place.place node c.loop-place.joins.items c.requires.sizes c.loop-place.invariant
    (stands-at c.args.nodes.now c.loop-place.place node c.loop-place-test.true c.index-nodes-place.is) _ c.in_err-check_join.ensures.err)

pub loop-place-preserved : goal.loop-place-preserved
loop-place-preserved c =
    let node = c.index-nodes-place.result in
    join-more c.args.net.now (network_symbols c.args.net.now) c.args.nodes.now c.loop-place.place node c.loop-place.joins.items c.push.new.self.items c.in_ok-check_join.field-0 c.loop-place.invariant
    (stands-at c.args.nodes.now c.loop-place.place node c.loop-place-test.true c.index-nodes-place.is) c.in_ok-check_join.ensures.ok c.in_ok-push.ensures.items

pub returns-clause-ok : goal.returns-clause-ok
returns-clause-ok c =
    let end : c.loop-place.place ≡ length c.args.nodes.now = omega arith in
    subst (λ k. AreJoinChecks c.args.net.now (network_symbols c.args.net.now) c.args.nodes.now k c.loop-place.joins.items) end c.loop-place.invariant

pub returns-clause-sound : goal.returns-clause-sound
returns-clause-sound c =
    let symbols = network_symbols c.args.net.now in
    record {
      sizes = c.requires.sizes;
      joined = so-at-each (KeepsJoinedRules c.args.net.now symbols c.args.nodes.now) c.args.nodes.now c.loop-place.place c.loop-place-test.false (joins-keep c.args.net.now symbols c.args.nodes.now c.loop-place.place c.loop-place.joins.items c.loop-place.invariant);
    }
