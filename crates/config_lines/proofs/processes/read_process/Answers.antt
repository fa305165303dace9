use Rattle.config_lines.proofs.FrameLines.{no_functions}
use Rattle.config_lines.proofs.processes.read_process.Goals as goal

pub returns-in_default-2-clause-none : goal.returns-in_default-2-clause-none
returns-in_default-2-clause-none c =
    no_functions c.args.net.now c.in-Some.frame c.args.text.now c.in-Some.rest.now c.in-Some.ensures.some.0 c.in-Some.ensures.some.1 (rw c.in_default-2.is at c.in_ok-functions.ensures.none)
