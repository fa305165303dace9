use Rattle.graph_search.specs.Departures.{AreDepartures}
use Rattle.graph_search.proofs.departures.departures_of.Given as goal

abbrev pub invariant-loop-number : goal.invariant-loop-number
invariant-loop-number l = AreDepartures l.vertices l.edges l.number (record { last = l.last; previous = l.previous })
