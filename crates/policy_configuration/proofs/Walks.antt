-- The walks of an assignment without repeated vertices are short.
use Rattle.std.proofs.Common.{◌≡◌, ◌≤◌, ◌<◌, ◌+◌, ◌*◌, ◌^◌, ℕ, List, length, map, slice_get, Some, Vec, subst, arith}
use Rattle.std.specs.declared.alloc.Global.{Global}
use Rattle.std.specs.List.{AllByRecursion}
use Rattle.std.proofs.Math.Nat.{mul-le-mul_right}
use Rattle.merlin_model.specs.declared.policy.Ends.{Ends}
use Rattle.merlin_model.specs.declared.policy.Symbol.{Symbol}
use Rattle.merlin_model.specs.Networks.{Network}
use Rattle.merlin_model.specs.Words.{at, IsSymbol, IsWalk}
use Rattle.merlin_model.specs.Policies.{paths_of, IsOnPath}
use Rattle.merlin_model.specs.Assignments.{IsAssignment}
use Rattle.merlin_model.proofs.Members.{In, in_from}
use Rattle.topology.specs.Lawful.{IsTopologyNetwork}
use Rattle.topology.specs.Symbols.{network_symbols}
use Rattle.path_automaton.proofs.Building.{get-map, all-from}
use Rattle.path_automaton.specs.declared.exploring.TheConstants.{MAX_STATES}
use Rattle.product_graph.proofs.Lists.{all-map}
use Rattle.policy_check.specs.Checked.{CheckedPolicy, HasAutomata}
use Rattle.configuration_model.specs.Checked.{AreSymbols}
use Rattle.configuration_model.specs.Groups.{HaveDifferentVertices}
use Rattle.configuration_model.proofs.Lists.{zip-left}
use Rattle.openflow_rules.specs.Planning.{statement_automata}
use Rattle.queue_and_tc.specs.Reserved.{IsShort}
use Rattle.policy_configuration.proofs.Sound.{stands}
use Rattle.policy_configuration.proofs.Short.{network-long, word-long}

few-symbols : (net : Network) → IsTopologyNetwork net → length (network_symbols net) ≤ 16640
few-symbols net lawful =
    let locations : length net.locations ≤ 256 = lawful.limits.locations in
    let functions : length net.functions ≤ 64 = lawful.limits.functions in
    let long = network-long net in
    let wide = mul-le-mul_right (length net.functions + 1) locations in
    omega (arith, locations, functions, long, wide)

module _ (net : Network) (checked : CheckedPolicy) (ends : List Ends) (walks : List (Vec Symbol Global)) (lawful : IsTopologyNetwork net) (automata : HasAutomata (network_symbols net) checked) (numbers : length checked.automaton_numbers ≡ length (paths_of checked.policy))
    (symbols_are : AreSymbols net (network_symbols net)) (assigned : IsAssignment net checked.policy ends (map (λ w. w.items) walks)) (simple : HaveDifferentVertices checked.policy (network_symbols net) (statement_automata checked) ends (map (λ w. w.items) walks)) where
  abbrev symbols : List Symbol
  symbols = network_symbols net

  known : (w : List Symbol) → AllByRecursion (IsSymbol net) w → AllByRecursion (λ x. In x symbols) w
  known w h = all-map (IsSymbol net) (λ x. In x symbols) (λ x s. in_from symbols x ((symbols_are x).1 s)) w h

  starts : (e : Ends) (w : List Symbol) → IsWalk net e.src e.dst w → In (at e.src) symbols
  starts e w is = (subst (AllByRecursion (λ x. In x symbols)) is.shape (known w is.symbols)).0

  short : (k : ℕ) (w : List Symbol) → slice_get (map (λ (v : Vec Symbol Global). v.items) walks) k ≡ Some w → length w < 2 ^ 32
  short k w at-w =
      let from = zip-left (λ e w. IsWalk net e.src e.dst w × IsOnPath checked.policy e.statement w) ends (map (λ (v : Vec Symbol Global). v.items) walks) k w assigned at-w in
      let e = from.0 in
      let on = from.2.1 in
      let t = automata e.statement on.path on.has in
      let different = simple k e w t.0 from.1 at-w (stands symbols checked automata numbers e.statement t.0 t.1) in
      let tables = t.2.built in
      let long = word-long symbols t.0 tables.0 tables.1 e w (starts e w from.2.0) (known w from.2.0.symbols) different in
      by (length symbols) (length tables.0) (length w) (few-symbols net lawful) tables.2 long
    where
      by : (m n l : ℕ) → m ≤ 16640 → n ≤ MAX_STATES → l ≤ m * n + 1 → l < 2 ^ 32
      by m n l few states long =
          let first = mul-le-mul_right n few in
          let fewer : n ≤ 2048 = states in
          omega (arith, first, fewer, long)

  pub all-short : AllByRecursion IsShort walks
  all-short = all-from IsShort walks (λ k v at-v. short k v.items (get-map (λ (v : Vec Symbol Global). v.items) walks k v at-v))
