use Rattle.std.proofs.Common.{[]}
use Rattle.rules_model.proofs.Determined.{entry-same}
use Rattle.rules_model.proofs.laws.one_entry.Goals as goal

pub returns : goal.returns
returns c net groups plan other x y ok written is tags is_x is_y same = entry-same net ok groups written (λ s d. []) plan other is tags x y is_x is_y same
