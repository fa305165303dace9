use Rattle.merlin_compile.proofs.Provided.{named-guaranteed}
use Rattle.walk_search.specs.Parts.{checked_parts}
use Rattle.merlin_compile.proofs.provisioning.provision_by.Goals as goal

pub find_walks-requires-clause-checked : goal.find_walks-requires-clause-checked
find_walks-requires-clause-checked c =
    let was = c.requires.rules.1.pairs.was in
    c.checked_policies_are_sound.ensures c.args.net.now c.requires.rules.0 c.args.checked.now was.is_check was.sound was.numbers

pub program_fault_of-requires : goal.program_fault_of-requires
program_fault_of-requires c =
    named-guaranteed c.args.net.now c.args.checked.now.policy (checked_parts c.args.net.now c.args.checked.now) c.args.ends.now c.in-Err.fault
    c.requires.rules.1.pairs.ends_are.are c.in-Err.ensures.err

pub returns-in-Err-clause-err : goal.returns-in-Err-clause-err
returns-in-Err-clause-err c = c.program_fault_of.ensures c.args.net.now c.args.ends.now c.in-Err.ensures.err
