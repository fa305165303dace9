use Rattle.std.proofs.Common.{◌∙◌}
use Rattle.merlin_text.proofs.Rest.{one_rest}
use Rattle.merlin_text.proofs.cursor.Cursor.copy.Goals as goal

pub invariant_of-result : goal.invariant_of-result
invariant_of-result c = (c.self.inside.rest, (c.self.inside.counted, tt))

pub returns : goal.returns
returns c = one_rest _ _ _ _ (assumption) c.self.inside.rest.1 ∙ c.self.view_is
