use Rattle.merlin_model.proofs.Members.{in_from, in_to}
use Rattle.merlin_model.proofs.Acting.{acting-is}
use Rattle.merlin_model.proofs.laws.highest_rule_acts.Goals as goal

pub returns : goal.returns
returns c = λ rules f r present fits best. acting-is rules f r (in_from rules r present) fits (λ q i. best q (in_to rules q i))
