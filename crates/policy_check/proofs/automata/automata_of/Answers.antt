use Rattle.policy_check.proofs.Forms.{large-at}
use Rattle.policy_check.proofs.automata.automata_of.Goals as goal

pub returns-in-Err-clause-err : goal.returns-in-Err-clause-err
returns-in-Err-clause-err c =
    large-at c.args.ids.now c.args.symbols.now c.args.paths.now c.loop-place.place c.index-paths-place.result c.loop-place.automata c.in-Err.fault c.fault_at.result
    c.loop-place-test.true c.index-paths-place.is c.loop-place.invariant c.in-Err.ensures.err c.fault_at.ensures
