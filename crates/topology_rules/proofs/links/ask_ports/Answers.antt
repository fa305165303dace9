use Rattle.topology_shape.specs.Described.{described_by}
use Rattle.topology_rules.proofs.KeyClashes.{found_at}
use Rattle.topology_rules.proofs.Broken.{broken_port, name_there}
use Rattle.topology_rules.proofs.links.ask_ports.Goals as goal

pub returns-in_ok-name-in-Some-clause-err : goal.returns-in_ok-name-in-Some-clause-err
returns-in_ok-name-in-Some-clause-err c =
    broken_port (described_by c.args.shape.now) c.args.directed_links.now c.in-Some.place _ c.in_ok-name-in-Some.name c.requires.links c.requires.earlier
    (found_at _ c.in_ok-place.field-0 c.in-Some.place c.in-Some.is c.in_ok-place.ensures.some)
    (name_there c.args.shape.now.named c.locations.result.now _ c.in_ok-name-in-Some.name c.locations.ensures c.in_ok-name-in-Some.ensures)
