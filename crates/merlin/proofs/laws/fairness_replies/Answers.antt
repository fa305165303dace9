use Rattle.merlin.proofs.Divisions.{Judges-sound, Judges-unsound, IsFairnessReply-judges, IsFairnessReply-one}
use Rattle.merlin.proofs.laws.fairness_replies.Goals as goal

pub returns-clause-sound : goal.returns-clause-sound
returns-clause-sound c = λ bytes text demands shares reply read sound replied.
    Judges-sound bytes text demands shares read sound reply (IsFairnessReply-judges bytes text reply replied)

pub returns-clause-unsound : goal.returns-clause-unsound
returns-clause-unsound c = λ bytes text demands shares reply read unsound replied.
    Judges-unsound bytes text demands shares read unsound reply (IsFairnessReply-judges bytes text reply replied)

pub returns-clause-one : goal.returns-clause-one
returns-clause-one c = IsFairnessReply-one
