use Rattle.std.proofs.Common.{◌≡◌, ◌∙◌, ℕ, List, map, ap, subst, sym, IfOk, IfErr}
use Rattle.std.specs.List.{AllByRecursion}
use Rattle.localise.specs.declared.localising.Rates.{Rates}
use Rattle.path_automaton.specs.Automata.{AutomatonTables}
use Rattle.policy_flows.specs.Faults.{RefusesStatements}
use Rattle.policy_flows.specs.Layouts.{HasParts, StatementParts, statement_parts}
use Rattle.merlin_program.specs.Guaranteed.{ArePartsIn}
use Rattle.openflow_rules.specs.Planning.{statement_automata}
use Rattle.walk_search.specs.Found.{IsFoundFor}
use Rattle.walk_search.specs.Parts.{checked_parts}
use Rattle.walk_search.proofs.Owned.{mins_of, have-parts, own-parts}
use Rattle.walk_search.proofs.checked_policy.find_walks.Goals as goal

pub find_walks_of-requires-clause-parts : goal.find_walks_of-requires-clause-parts
find_walks_of-requires-clause-parts c =
    let net = c.args.net.now in
    let checked = c.args.checked.now in
    let ends = c.args.ends.now in
    let given : List AutomatonTables = map (λ a. a.now) c.as_slice.result.now in
    let tables : given ≡ statement_automata checked = ap (map (λ a. a.now)) c.as_slice.ensures.value ∙ c.in_ok-automata.ensures in
    let rates : c.as_slice-rates.result.now ≡ mins_of checked = c.as_slice-rates.ensures ∙ ap (λ (r : Rates). r.min) c.rates.ensures in
    subst (λ (a : List AutomatonTables). AllByRecursion (HasParts net a c.as_slice-rates.result.now) ends) (sym tables)
    (subst (λ (r : List ℕ). AllByRecursion (HasParts net (statement_automata checked) r) ends) (sym rates)
    (have-parts net checked c.requires.automata c.requires.checked c.automata-numbers.ensures.numbers c.rates_of_statements.ensures.min
    (λ i. c.localised_rates_are_small.ensures.guarantees checked.policy i c.statements-sound.ensures.sound) c.automata_recognise_paths.ensures ends c.requires.ends.each))

pub returns-clause-ok : goal.returns-clause-ok
returns-clause-ok c =
    let net = c.args.net.now in
    let checked = c.args.checked.now in
    let ends = c.args.ends.now in
    let given : List AutomatonTables = map (λ a. a.now) c.as_slice.result.now in
    let tables : given ≡ statement_automata checked = ap (map (λ a. a.now)) c.as_slice.ensures.value ∙ c.in_ok-automata.ensures in
    let rates : c.as_slice-rates.result.now ≡ mins_of checked = c.as_slice-rates.ensures ∙ ap (λ (r : Rates). r.min) c.rates.ensures in
    let same : statement_parts net given c.as_slice-rates.result.now ≡ checked_parts net checked =
    ap (λ a. statement_parts net a c.as_slice-rates.result.now) tables ∙ ap (λ r. statement_parts net (statement_automata checked) r) rates in
    subst (λ (p : StatementParts). AllByRecursion (ArePartsIn net checked.policy p) ends → IfOk c.find_walks_of.result (IsFoundFor net checked.policy p ends c.args.objective c.args.budget)) same
    (c.find_walks_of.ensures.ok checked.policy)
    (own-parts net checked c.requires.automata c.requires.checked c.automata-numbers.ensures.numbers c.rates_of_statements.ensures.min
    (λ i. c.localised_rates_are_small.ensures.guarantees checked.policy i c.statements-sound.ensures.sound) c.automata_recognise_paths.ensures ends c.requires.ends.each)

pub returns-clause-err : goal.returns-clause-err
returns-clause-err c =
    let net = c.args.net.now in
    let checked = c.args.checked.now in
    let given : List AutomatonTables = map (λ a. a.now) c.as_slice.result.now in
    let tables : given ≡ statement_automata checked = ap (map (λ a. a.now)) c.as_slice.ensures.value ∙ c.in_ok-automata.ensures in
    let rates : c.as_slice-rates.result.now ≡ mins_of checked = c.as_slice-rates.ensures ∙ ap (λ (r : Rates). r.min) c.rates.ensures in
    let same : statement_parts net given c.as_slice-rates.result.now ≡ checked_parts net checked =
    ap (λ a. statement_parts net a c.as_slice-rates.result.now) tables ∙ ap (λ r. statement_parts net (statement_automata checked) r) rates in
    subst (λ (p : StatementParts). IfErr c.find_walks_of.result (RefusesStatements net p c.args.ends.now)) same c.find_walks_of.ensures.err
