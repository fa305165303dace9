use Rattle.std.proofs.Common.{List, map}
use Rattle.path_automaton.specs.Automata.{AutomatonTables}
use Rattle.policy_flows.specs.Layouts.{StatementParts, statement_parts}
use Rattle.walk_search.proofs.finding.find_walks_of.Goals as goal

pub returns-clause-ok : goal.returns-clause-ok
returns-clause-ok c = λ policy own.
    let automata : List AutomatonTables = map (λ a. a.now) c.args.automata.now in
    let parts : StatementParts = statement_parts c.args.net.now automata c.args.rates.now in
    let laid = c.layouts_are_of_policies.ensures c.args.net.now policy parts c.args.ends.now c.args.objective c.in_ok-program.program.problem c.in_ok-program.program.symbols c.locations.ensures.lawful.lawful own c.in_ok-program.ensures.layout in
    record {
      problem = c.in_ok-program.program.problem;
      symbols = c.in_ok-program.program.symbols;
      layout = c.in_ok-program.ensures.layout;
      laid = laid;
      limits = c.in_ok-program.ensures.limits;
      within = c.in_ok-program.program.is;
      is = c.in_ok-search_of.ensures c.args.net.now policy parts.automaton c.args.ends.now c.args.objective laid;
    }
