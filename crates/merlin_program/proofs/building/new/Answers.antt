use Rattle.std.proofs.Common.{List, map}
use Rattle.path_automaton.specs.Automata.{AutomatonTables}
use Rattle.policy_flows.specs.Layouts.{statement_parts}
use Rattle.merlin_program.proofs.Layouts.{layout-problem, count-symbols}
use Rattle.merlin_program.proofs.building.new.Goals as goal

pub program_of-requires-clause-is : goal.program_of-requires-clause-is
program_of-requires-clause-is c =
    let automata : List AutomatonTables = map (λ a. a.now) c.args.automata.now in
    layout-problem c.args.net.now automata c.args.rates.now c.args.ends.now c.args.objective c.in_ok-problem.field-0.problem c.in_ok-problem.field-0.symbols c.locations.ensures.lawful c.requires.few c.requires.parts c.in_ok-problem.ensures.layout c.in_ok-problem.ensures.limits

pub program_of-requires-clause-symbols : goal.program_of-requires-clause-symbols
program_of-requires-clause-symbols c =
    let automata : List AutomatonTables = map (λ a. a.now) c.args.automata.now in
    count-symbols c.args.net.now (statement_parts c.args.net.now automata c.args.rates.now) c.args.ends.now c.in_ok-problem.field-0.problem.flows c.in_ok-problem.field-0.symbols c.in_ok-problem.ensures.layout.flows
