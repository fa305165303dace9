use Rattle.merlin.proofs.Divisions.{Divides-done, IsFairReply-divides, IsFairReply-one}
use Rattle.merlin.proofs.laws.fair_replies.Goals as goal

pub returns-clause-done : goal.returns-clause-done
returns-clause-done c = λ bytes demands reply is replied. Divides-done bytes demands is reply (IsFairReply-divides bytes reply replied)

pub returns-clause-one : goal.returns-clause-one
returns-clause-one c = IsFairReply-one
