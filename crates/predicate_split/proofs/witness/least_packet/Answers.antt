use Rattle.std.proofs.Common.{rules}
use Rattle.predicate_split.proofs.Starting.{pred-starts}
use Rattle.predicate_split.proofs.Properties.{start-least}
use Rattle.predicate_split.proofs.witness.least_packet.Goals as goal

pub least_from-requires-clause-fresh : goal.least_from-requires-clause-fresh
least_from-requires-clause-fresh c = pred-starts c.in-Some.zero.proto c.args.pred.now c.requires

pub returns-clause-some : goal.returns-clause-some
returns-clause-some c = start-least c.args.pred.now c.in-Some.zero c.in_ok-found.found (search rules) c.in_ok-found.ensures.some
