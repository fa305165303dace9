use Rattle.std.proofs.Common.{◌∙◌, sym, ◌++◌, ◌∷◌, [], ap, map, slice_get, List}
use Rattle.path_automaton.specs.Automata.{AutomatonTables}
use Rattle.walk_search.proofs.Owned.{value-next, map-more}
use Rattle.walk_search.proofs.checked_policy.automata_of.Goals as goal

pub loop-statement-preserved : goal.loop-statement-preserved
loop-statement-preserved c =
    ap (map (λ a. a.now)) c.in_ok-push.ensures.items ∙ map-more (λ a. a.now) c.loop-statement.automata.items c.automaton.result
    ∙ ap (λ (l : List AutomatonTables). l ++ c.automaton.result.now ∷ []) c.loop-statement.invariant
    ∙ sym (value-next (slice_get c.args.checked.now.automata) c.args.checked.now.automaton_numbers c.loop-statement.statement c.automaton.result.now c.automaton.ensures)
