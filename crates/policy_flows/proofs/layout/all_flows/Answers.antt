use Rattle.std.proofs.Common.{◌<◌, ℕ, List, map, length, get_or, sym, subst, arith}
use Rattle.std.proofs.lemmas.Result.{err_from_is_err_and}
use Rattle.merlin_model.specs.declared.policy.Ends.{Ends}
use Rattle.path_automaton.specs.Automata.{AutomatonTables}
use Rattle.topology.specs.Symbols.{network_symbols}
use Rattle.product_graph.specs.Products.{automaton_of}
use Rattle.product_graph.proofs.Lists.{all-at, map-length}
use Rattle.policy_flows.specs.Layouts.{statement_parts, HasParts, no_tables}
use Rattle.policy_flows.specs.Adding.{IsAddedFlow, IsPastRoom}
use Rattle.policy_flows.proofs.Added.{added, beyond}
use Rattle.policy_flows.proofs.Counted.{mapped-at}
use Rattle.policy_flows.proofs.layout.all_flows.Goals as goal

abbrev no_ends : Ends
no_ends = record { statement = 0; src = 0; dst = 0 }

pub returns-in_err-room-clause-err : goal.returns-in_err-room-clause-err
returns-in_err-room-clause-err c =
    let net = c.args.net.now in
    let automata : List AutomatonTables = map (λ a. a.now) c.args.automata.now in
    let rates : List ℕ = c.args.rates.now in
    let ends : List Ends = c.args.ends.now in
    let k : ℕ = c.loop-named.named-index in
    let e : Ends = get_or ends k no_ends in
    let has = (all-at (HasParts net automata rates) ends k no_ends c.loop-named-test.true c.requires.parts).automaton in
    let size = map-length (λ a. a.now) c.args.automata.now in
    let within : e.statement < length c.args.automata.now = omega (arith, has, size) in
    let is = mapped-at (λ a. a.now) c.args.automata.now e.statement no_tables c.index-automata-named.result _ within c.index-automata-named.is in
    let p = err_from_is_err_and c.from_residual-in_err-room.result c.from_residual-in_err-room.ensures.1 in
    rw (p.1, p.2) (beyond net (statement_parts net automata rates) ends k no_ends c.loop-named-test.true c.loop-named.room c.loop-named.list c.loop-named.invariant c.in_err-room.field-0.0
    (subst (λ t. IsPastRoom net (automaton_of (network_symbols net) t) (get_or rates e.statement 0) e c.loop-named.room c.in_err-room.field-0.0) (sym is) c.in_err-room.ensures.err))

pub loop-named-preserved : goal.loop-named-preserved
loop-named-preserved c =
    let net = c.args.net.now in
    let automata : List AutomatonTables = map (λ a. a.now) c.args.automata.now in
    let rates : List ℕ = c.args.rates.now in
    let ends : List Ends = c.args.ends.now in
    let k : ℕ = c.loop-named.named-index in
    let e : Ends = get_or ends k no_ends in
    let has = (all-at (HasParts net automata rates) ends k no_ends c.loop-named-test.true c.requires.parts).automaton in
    let size = map-length (λ a. a.now) c.args.automata.now in
    let within : e.statement < length c.args.automata.now = omega (arith, has, size) in
    let is = mapped-at (λ a. a.now) c.args.automata.now e.statement no_tables c.index-automata-named.result _ within c.index-automata-named.is in
    added net (statement_parts net automata rates) ends k no_ends c.loop-named-test.true c.loop-named.room c.loop-named.list c.loop-named.invariant c.in_ok-room.room c.add_flow.new.list
    (subst (λ t. IsAddedFlow net (automaton_of (network_symbols net) t) (get_or rates e.statement 0) e c.loop-named.room c.in_ok-room.room c.loop-named.list c.add_flow.new.list) (sym is) c.in_ok-room.ensures.ok)
