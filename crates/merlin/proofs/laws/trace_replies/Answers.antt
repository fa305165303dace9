use Rattle.merlin.proofs.OneTrace.{Traces-ended, Traces-endless, IsTraceReply-traces, IsTraceReply-one}
use Rattle.merlin.proofs.laws.trace_replies.Goals as goal

pub returns-clause-ended : goal.returns-clause-ended
returns-clause-ended c = λ answer form topology result of visits end reply runs few replied.
    Traces-ended (record { one = c.one_network.ensures.one; apart = c.one_network.ensures.apart }) c.one_network.ensures.lawful form topology result of answer visits end runs few reply (IsTraceReply-traces answer form topology result reply replied)

pub returns-clause-endless : goal.returns-clause-endless
returns-clause-endless c = λ answer form topology result of reply many replied.
    Traces-endless (record { one = c.one_network.ensures.one; apart = c.one_network.ensures.apart }) c.one_network.ensures.lawful form topology result of answer many reply (IsTraceReply-traces answer form topology result reply replied)

pub returns-clause-one : goal.returns-clause-one
returns-clause-one c = IsTraceReply-one (record { one = c.one_network.ensures.one; apart = c.one_network.ensures.apart }) c.one_network.ensures.lawful
