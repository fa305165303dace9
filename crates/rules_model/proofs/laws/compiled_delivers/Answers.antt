use Rattle.rules_model.proofs.Promise.{delivers, goes_through}
use Rattle.rules_model.proofs.laws.compiled_delivers.Goals as goal

pub returns-clause-delivers : goal.returns-clause-delivers
returns-clause-delivers c = delivers

pub returns-clause-queues : goal.returns-clause-queues
returns-clause-queues c = goes_through
