use Rattle.path_regex.proofs.Ascending.{ascending-are, ascending-ascend, normal-ascends}
use Rattle.path_regex.proofs.laws.normal_members_ascend.Goals as goal

pub returns : goal.returns
returns c = record { order = ascending-ascend; same = ascending-are; members = normal-ascends }
