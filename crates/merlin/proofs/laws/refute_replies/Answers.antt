use Rattle.merlin.proofs.Refuting.{Checks-refuted, Checks-short, IsRefuteReply-checks, IsRefuteReply-one}
use Rattle.merlin.proofs.laws.refute_replies.Goals as goal

pub returns-clause-refuted : goal.returns-clause-refuted
returns-clause-refuted c = λ program_bytes tree_bytes program tree reply is_program is_tree refutes replied.
    Checks-refuted program_bytes tree_bytes program tree is_program is_tree refutes reply (IsRefuteReply-checks program_bytes tree_bytes reply replied)

pub returns-clause-short : goal.returns-clause-short
returns-clause-short c = λ program_bytes tree_bytes program tree reply is_program is_tree short replied.
    Checks-short program_bytes tree_bytes program tree is_program is_tree short reply (IsRefuteReply-checks program_bytes tree_bytes reply replied)

pub returns-clause-one : goal.returns-clause-one
returns-clause-one c = IsRefuteReply-one
