use Rattle.rules_model.proofs.Determined.{plan-one}
use Rattle.rules_model.proofs.laws.one_plan.Goals as goal

pub returns : goal.returns
returns c net groups cells plan other ok written is is_other order order_other = plan-one net ok groups written cells plan other is is_other order order_other
