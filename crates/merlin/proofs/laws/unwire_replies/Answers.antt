use Rattle.merlin.proofs.Rereading.{Unwires-read, IsUnwireReply-unwires, IsUnwireReply-one}
use Rattle.merlin.proofs.laws.unwire_replies.Goals as goal

pub returns-clause-read : goal.returns-clause-read
returns-clause-read c = λ form topology messages net switch rules reply is named all replied.
    Unwires-read (record { one = c.one_network.ensures.one; apart = c.one_network.ensures.apart }) c.one_network.ensures.lawful form topology messages net switch rules is named all reply (IsUnwireReply-unwires form topology messages reply replied)

pub returns-clause-one : goal.returns-clause-one
returns-clause-one c = IsUnwireReply-one (record { one = c.one_network.ensures.one; apart = c.one_network.ensures.apart }) c.one_network.ensures.lawful
