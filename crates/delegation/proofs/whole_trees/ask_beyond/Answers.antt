use Rattle.std.proofs.lemmas.Result.{err_from_is_err_and}
use Rattle.topology.specs.Symbols.{network_symbols}
use Rattle.delegation.proofs.whole_trees.ask_beyond.Goals as goal

pub returns-in_err-count-clause-err : goal.returns-in_err-count-clause-err
returns-in_err-count-clause-err c =
    let p = err_from_is_err_and c.from_residual-in_err-count.result c.from_residual-in_err-count.ensures.1 in
    rw (p.1, p.2) (c.in_err-count.ensures.err c.args.net.now (network_symbols c.args.net.now)
    (record { scopes = record { own = c.requires.own; classes = c.in_ok-ask_scopes.ensures.few }; apart = c.in_ok-ask_scopes.ensures.apart }))
