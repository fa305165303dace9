use Rattle.merlin.proofs.Rewiring.{Wires-written, IsWireReply-wires, IsWireReply-one}
use Rattle.merlin.proofs.laws.wire_replies.Goals as goal

pub returns-clause-written : goal.returns-clause-written
returns-clause-written c = λ form topology result net read switch reply texts named replied.
    Wires-written (record { one = c.one_network.ensures.one; apart = c.one_network.ensures.apart }) c.one_network.ensures.lawful form topology result net read switch texts named reply (IsWireReply-wires form topology result reply replied)

pub returns-clause-one : goal.returns-clause-one
returns-clause-one c = IsWireReply-one (record { one = c.one_network.ensures.one; apart = c.one_network.ensures.apart }) c.one_network.ensures.lawful
