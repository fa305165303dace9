use Rattle.path_regex.proofs.Ascending.{equal-same}
use Rattle.path_regex.proofs.laws.equal_order_is_equality.Goals as goal

pub returns : goal.returns
returns c = equal-same
