use Rattle.merlin.proofs.Delegating.{delegates, one_status}
use Rattle.merlin.proofs.laws.delegation_replies.Goals as goal

pub returns-clause-accepted : goal.returns-clause-accepted
returns-clause-accepted c = λ tree topology policies net nodes reply stand all h.
    c.delegate_replies.ensures.accepted tree topology policies net nodes reply stand all (delegates tree topology policies reply h)

pub returns-clause-wider : goal.returns-clause-wider
returns-clause-wider c = λ tree topology policies net nodes reply stand few not h.
    c.delegate_replies.ensures.wider tree topology policies net nodes reply stand few not (delegates tree topology policies reply h)

pub returns-clause-refused : goal.returns-clause-refused
returns-clause-refused c = λ tree topology policies net nodes reply stand many h.
    c.delegate_replies.ensures.refused tree topology policies net nodes reply stand many (delegates tree topology policies reply h)

pub returns-clause-one : goal.returns-clause-one
returns-clause-one c = one_status c.delegate_replies.ensures.one
