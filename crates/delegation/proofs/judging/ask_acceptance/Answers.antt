use Rattle.std.proofs.Common.{length, subst}
use Rattle.topology.specs.Symbols.{network_symbols}
use Rattle.delegation.specs.Acceptances.{AreAsked}
use Rattle.delegation.proofs.Accepting.{all-accepted, refusal-breaks}
use Rattle.delegation.proofs.judging.ask_acceptance.Goals as goal

pub returns-in-Some-clause-err : goal.returns-in-Some-clause-err
returns-in-Some-clause-err c =
    refusal-breaks c.args.net.now (network_symbols c.args.net.now) c.args.nodes.now c.in-Some.refusal c.requires.sound
    (subst (AreAsked c.args.net.now (network_symbols c.args.net.now) c.args.nodes.now (length c.args.nodes.now)) c.in-Some.is c.in_ok-refusal.ensures.ok)

pub returns-in-None-clause-ok : goal.returns-in-None-clause-ok
returns-in-None-clause-ok c =
    all-accepted c.args.net.now (network_symbols c.args.net.now) c.args.nodes.now c.requires.sound
    (subst (AreAsked c.args.net.now (network_symbols c.args.net.now) c.args.nodes.now (length c.args.nodes.now)) c.in-None.is c.in_ok-refusal.ensures.ok)
