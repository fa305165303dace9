use Rattle.std.proofs.Common.{subst}
use Rattle.policy_flows.specs.Faults.{RefusesStatements}
use Rattle.walk_search.specs.Parts.{checked_parts}
use Rattle.merlin_compile.proofs.provisioning.program_fault_of.Goals as goal

pub returns-in-Heavy : goal.returns-in-Heavy
returns-in-Heavy c = λ net ends h. c.heavy_fault.ensures net ends (subst (RefusesStatements net (checked_parts net c.args.checked.now) ends) c.in-Heavy.is h)
