use Rattle.merlin_compile.proofs.ResultKinds.{KnownKinds, kind-nothing, kind-feasible, kind-infeasible, kind-enough, kind-uncoupled}
use Rattle.merlin_compile.proofs.laws.inputs_have_results.Goals as goal

pub returns-clause-nothing : goal.returns-clause-nothing
returns-clause-nothing c =
    let known : KnownKinds = record { one = c.one_network.ensures.one; problem = c.one_program.ensures.problem; nothing = c.without_guarantees_no_walks_are_least.ensures } in
    λ p t net checked ends o budget compiled i none some is. kind-nothing known p t net checked ends o budget i compiled none some is

pub returns-clause-feasible : goal.returns-clause-feasible
returns-clause-feasible c =
    let known : KnownKinds = record { one = c.one_network.ensures.one; problem = c.one_program.ensures.problem; nothing = c.without_guarantees_no_walks_are_least.ensures } in
    λ p t net checked ends o budget compiled i walks is. kind-feasible known p t net checked ends o budget i compiled walks is

pub returns-clause-infeasible : goal.returns-clause-infeasible
returns-clause-infeasible c =
    let known : KnownKinds = record { one = c.one_network.ensures.one; problem = c.one_program.ensures.problem; nothing = c.without_guarantees_no_walks_are_least.ensures } in
    λ p t net checked ends o budget compiled i none is. kind-infeasible known p t net checked ends o budget i compiled none is

pub returns-clause-enough : goal.returns-clause-enough
returns-clause-enough c =
    let known : KnownKinds = record { one = c.one_network.ensures.one; problem = c.one_program.ensures.problem; nothing = c.without_guarantees_no_walks_are_least.ensures } in
    λ p t net checked ends o budget problem compiled i of few is. kind-enough known p t net checked ends o budget i problem of compiled few is

pub returns-clause-uncoupled : goal.returns-clause-uncoupled
returns-clause-uncoupled c =
    let known : KnownKinds = record { one = c.one_network.ensures.one; problem = c.one_program.ensures.problem; nothing = c.without_guarantees_no_walks_are_least.ensures } in
    λ p t net checked ends o budget problem compiled i of free is. kind-uncoupled known p t net checked ends o budget i problem of compiled free is
