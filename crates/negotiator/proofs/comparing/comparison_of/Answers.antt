use Rattle.negotiator.proofs.Finding.{exact-contacts}
use Rattle.negotiator.proofs.comparing.comparison_of.Goals as goal

pub returns-clause-touching : goal.returns-clause-touching
returns-clause-touching c = exact-contacts c.args.case.now.net.now c.args.case.now.parent.now.policy c.args.case.now.child.now.policy c.args.found c.requires.found
