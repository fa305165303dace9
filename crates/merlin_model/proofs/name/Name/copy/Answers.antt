use Rattle.std.proofs.Common.{◌≡◌, IfOk, subst}
use Rattle.merlin_model.proofs.name.Name.copy.Goals as goal

pub returns : goal.returns
returns c = subst (λ text. IfOk c.name_from.result (λ name. name ≡ text)) c.bytes.ensures c.name_from.ensures
