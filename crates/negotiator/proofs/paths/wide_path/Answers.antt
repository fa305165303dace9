use Rattle.negotiator.proofs.Straying.{keeps-paths, wide-answer}
use Rattle.negotiator.proofs.paths.wide_path.Goals as goal

pub returns-in_default : goal.returns-in_default
returns-in_default c = keeps-paths c.args.case.now.net.now c.args.case.now.parent.now.policy c.args.case.now.child.now.policy c.args.found.now c.in_default.is c.requires.found

pub returns : goal.returns
returns c =
    wide-answer c.args.case.now.net.now c.args.case.now.parent.now.policy c.args.case.now.child.now.policy c.args.case.now.symbols.now c.args.found.now c.in-Some.wide c.in-Some.is c.requires.found
    c.in_ok-word.word c.in_ok-word.ensures c.with_packet.result c.with_packet.ensures
