use Rattle.std.proofs.Common.{◌+◌, sym, subst}
use Rattle.std.proofs.lemmas.Result.{err_from_is_err_and}
use Rattle.topology.specs.Symbols.{network_symbols}
use Rattle.delegation.specs.Acceptances.{AreAsked}
use Rattle.delegation.proofs.Own.{stands-at}
use Rattle.delegation.proofs.Accepting.{rated-at, check-at, asked-more, cells-break}
use Rattle.delegation.proofs.judging.first_refusal.Goals as goal

pub refusal_at-requires-clause-own : goal.refusal_at-requires-clause-own
refusal_at-requires-clause-own c =
    let node = c.index-nodes-place.result in
    rated-at c.args.net.now (network_symbols c.args.net.now) c.args.nodes.now c.args.rated.now c.loop-place.place node c.index-rated-place.result c.requires.tree c.requires.sound.sizes.parts.scopes.own c.requires.rated
    (stands-at c.args.nodes.now c.loop-place.place node c.loop-place-test.true c.index-nodes-place.is) c.index-rated-place.is

pub refusal_at-requires-clause-join : goal.refusal_at-requires-clause-join
refusal_at-requires-clause-join c =
    let node = c.index-nodes-place.result in
    (check-at c.args.net.now (network_symbols c.args.net.now) c.args.nodes.now c.args.joins.now c.loop-place.place node c.index-joins-place.result c.requires.joins c.loop-place-test.true c.index-nodes-place.is c.index-joins-place.is).automata

pub returns-in_err-refused-clause-err : goal.returns-in_err-refused-clause-err
returns-in_err-refused-clause-err c =
    let node = c.index-nodes-place.result in
    let join = c.index-joins-place.result in
    let check = check-at c.args.net.now (network_symbols c.args.net.now) c.args.nodes.now c.args.joins.now c.loop-place.place node join c.requires.joins c.loop-place-test.true c.index-nodes-place.is c.index-joins-place.is in
    let p = err_from_is_err_and c.from_residual.result c.from_residual.ensures.1 in
    rw (p.1, p.2) (cells-break c.args.net.now (network_symbols c.args.net.now) c.args.nodes.now c.loop-place.place node (stands-at c.args.nodes.now c.loop-place.place node c.loop-place-test.true c.index-nodes-place.is) join.policy check.policy
    c.loop-place.first c.requires.sound c.loop-place.invariant _ c.in_err-refused.ensures.err)

pub loop-place-preserved : goal.loop-place-preserved
loop-place-preserved c =
    let node = c.index-nodes-place.result in
    let join = c.index-joins-place.result in
    let check = check-at c.args.net.now (network_symbols c.args.net.now) c.args.nodes.now c.args.joins.now c.loop-place.place node join c.requires.joins c.loop-place-test.true c.index-nodes-place.is c.index-joins-place.is in
    subst (AreAsked c.args.net.now (network_symbols c.args.net.now) c.args.nodes.now (c.loop-place.place + 1)) (sym c.or-first.ensures)
    (asked-more c.args.net.now (network_symbols c.args.net.now) c.args.nodes.now c.loop-place.place node (stands-at c.args.nodes.now c.loop-place.place node c.loop-place-test.true c.index-nodes-place.is) join.policy check.policy
    c.loop-place.first c.in_ok-refused.refused c.loop-place.invariant c.in_ok-refused.ensures.ok)
