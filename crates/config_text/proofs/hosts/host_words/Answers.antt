use Rattle.config_text.proofs.hosts.host_words.Goals as goal

pub returns-in_ok-target-in-Classify : goal.returns-in_ok-target-in-Classify
returns-in_ok-target-in-Classify c =
    rw c.in-Classify.is (rw (c.as_bytes-in-Classify.ensures.value, c.in_ok-target-in-Classify.ensures) at c.list_words.ensures)

pub returns-in-Leave : goal.returns-in-Leave
returns-in-Leave c = rw c.in-Leave.is c.list_words-in-Leave.ensures

pub returns-in-Output : goal.returns-in-Output
returns-in-Output c = rw c.in-Output.is (rw c.verdict_text.ensures at c.list_words-in-Output.ensures)
