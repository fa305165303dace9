use Rattle.std.proofs.Common.{refl}
use Rattle.merlin_model.proofs.DirectedLinks as directed_links
use Rattle.merlin_model.proofs.laws.directed_links_of_a_network.Goals as goal

pub returns-clause-back : goal.returns-clause-back
returns-clause-back c = directed_links.way_back

pub returns-clause-port : goal.returns-clause-port
returns-clause-port c = λ net v w ok. directed_links.same_by_port net ok v w

pub returns-clause-ends : goal.returns-clause-ends
returns-clause-ends c = λ net v w ok. directed_links.same_by_ends net ok v w

pub returns-clause-by_port : goal.returns-clause-by_port
returns-clause-by_port c = λ net w ok present. directed_links.link_at-is net ok w w.from w.out_port present refl refl

pub returns-clause-of_host : goal.returns-clause-of_host
returns-clause-of_host c = λ net w ok host present. directed_links.uplink_of-present net ok w host present
