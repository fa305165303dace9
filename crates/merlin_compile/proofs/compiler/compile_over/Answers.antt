use Rattle.merlin_compile.proofs.Provided.{refused-over}
use Rattle.merlin_compile.proofs.compiler.compile_over.Goals as goal

pub returns-in-Ok-clause-ok : goal.returns-in-Ok-clause-ok
returns-in-Ok-clause-ok c = λ text stands.
    c.compiled_with.ensures text c.args.topology.now c.args.policy.now c.args.budget (record { stands = stands; network = c.in_ok-net.ensures.ok }) c.in-Ok.ensures.ok

pub returns-in-Err-clause-err : goal.returns-in-Err-clause-err
returns-in-Err-clause-err c = λ text stands.
    refused-over text c.args.topology.now c.args.policy.now c.in_ok-net.net (record { stands = stands; network = c.in_ok-net.ensures.ok }) c.in-Err.fault c.in-Err.ensures.err
