use Rattle.merlin_compile.proofs.provisioning.config_of.Goals as goal

pub configuration_of-requires-clause-checked : goal.configuration_of-requires-clause-checked
configuration_of-requires-clause-checked c =
    let was = c.requires.rules.1.pairs.was in
    c.checked_policies_are_sound.ensures c.args.net.now c.requires.rules.0 c.args.checked.now was.is_check was.sound was.numbers
