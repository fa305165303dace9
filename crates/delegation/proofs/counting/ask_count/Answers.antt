use Rattle.std.proofs.Common.{refl, arith}
use Rattle.delegation.proofs.Compositions.{small-each, large-first}
use Rattle.delegation.proofs.counting.ask_count.Goals as goal

pub returns-in-Some-clause-ok : goal.returns-in-Some-clause-ok
returns-in-Some-clause-ok c = small-each c.args.nodes.now c.requires (let h = c.in-Some.ensures.some in omega arith)

pub returns-in-None-clause-err : goal.returns-in-None-clause-err
returns-in-None-clause-err c net symbols sound = (sound, large-first c.args.nodes.now c.requires c.in-None.ensures.none, refl)
