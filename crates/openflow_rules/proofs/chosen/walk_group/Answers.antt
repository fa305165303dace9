use Rattle.std.proofs.Common.{◌≡◌, ◌<◌, ◌+◌, ◌++◌, ◌∷◌, [], ℕ, suc, List, Vec, Global, length, get_or, Some, slice_get, sym, ◌∙◌, ap, subst, arith}
use Rattle.std.specs.Prelude.{Contains}
use Rattle.std.specs.List.{AllByRecursion}
use Rattle.merlin_model.specs.declared.policy.Ends.{Ends}
use Rattle.merlin_model.specs.declared.policy.Symbol.{Symbol}
use Rattle.topology.specs.Symbols.{network_symbols}
use Rattle.path_automaton.proofs.Building.{get-map}
use Rattle.product_graph.specs.Products.{automaton_of}
use Rattle.product_graph.proofs.Lists.{get-at, map-length}
use Rattle.rule_tables.specs.declared.branches.Branch.{Branch}
use Rattle.openflow_rules.specs.WalkBranches.{IsWalkBranch}
use Rattle.openflow_rules.proofs.ChosenWalks.{words, width-of, as-many, walk-symbols}
use Rattle.openflow_rules.proofs.chosen.walk_group.Goals as goal

abbrev none : Ends
none = record { statement = 0; src = 0; dst = 0 }

-- a place among as many walks as ends
within : (walks : List (Vec Symbol Global)) (n k : ℕ) → k < n → n ≡ length (words walks) → k < length walks
within walks n k lt same = let l = map-length (λ (w : Vec Symbol Global). w.items) walks in omega (arith, lt, same, l)

-- the word of the walk at a place
word-at : (walks : List (Vec Symbol Global)) (k : ℕ) (d : Vec Symbol Global) (word : List Symbol) → k < length walks → word ≡ (get_or walks k d).items → slice_get (words walks) k ≡ Some word
word-at walks k d word lt is = get-map (λ (w : Vec Symbol Global). w.items) walks k (get_or walks k d) (get-at walks k d lt) ∙ ap Some (sym is)

pub bounds-chosen-place-2 : goal.bounds-chosen-place-2
bounds-chosen-place-2 c =
    within c.args.chosen.now.walks.now (length c.args.chosen.now.ends.now) c.args.place c.requires.place
    (as-many c.args.chosen.now.net.now c.args.chosen.now.checked.now.policy c.args.chosen.now.ends.now (words c.args.chosen.now.walks.now) c.requires.assigned)

pub walk_branch-requires-clause-width : goal.walk_branch-requires-clause-width
walk_branch-requires-clause-width c =
    width-of (network_symbols c.args.chosen.now.net.now) c.args.chosen.now.checked.now c.requires.automata c.args.leader c.automaton-automaton.result.now c.requires.leader c.automaton-automaton.ensures
    ∙ sym (ap (λ (l : List Symbol). length l) c.symbols.ensures)

pub walk_branch-requires-clause-symbols : goal.walk_branch-requires-clause-symbols
walk_branch-requires-clause-symbols c =
    let walks : List (Vec Symbol Global) = c.args.chosen.now.walks.now in
    let lt = within walks (length c.args.chosen.now.ends.now) c.args.place c.requires.place (as-many c.args.chosen.now.net.now c.args.chosen.now.checked.now.policy c.args.chosen.now.ends.now (words walks) c.requires.assigned) in
    subst (λ (l : List Symbol). AllByRecursion (Contains l) c.as_slice-walk.result.now) (sym c.symbols.ensures)
    (walk-symbols c.args.chosen.now.net.now c.args.chosen.now.checked.now.policy c.args.chosen.now.ends.now (words walks) c.requires.assigned c.args.place c.as_slice-walk.result.now
    (word-at walks c.args.place c.index-chosen-place.result c.as_slice-walk.result.now lt c.as_slice-walk.ensures.value))

pub returns : goal.returns
returns c =
    let walks : List (Vec Symbol Global) = c.args.chosen.now.walks.now in
    let lt = within walks (length c.args.chosen.now.ends.now) c.args.place c.requires.place (as-many c.args.chosen.now.net.now c.args.chosen.now.checked.now.policy c.args.chosen.now.ends.now (words walks) c.requires.assigned) in
    let pair : Ends = get_or c.args.chosen.now.ends.now c.args.place none in
    record {
      pair = pair;
      pair_is = get-at c.args.chosen.now.ends.now c.args.place none c.requires.place;
      walk = c.as_slice-walk.result.now;
      walk_is = word-at walks c.args.place c.index-chosen-place.result c.as_slice-walk.result.now lt c.as_slice-walk.ensures.value;
      table = c.automaton-automaton.result.now;
      table_is = c.automaton-automaton.ensures;
      is = record {
        branch = c.in_ok-branch.branch;
        is = subst (λ (l : List Symbol). IsWalkBranch (automaton_of l c.automaton-automaton.result.now) c.as_slice-walk.result.now pair.dst c.in_ok-branch.branch) c.symbols.ensures c.in_ok-branch.ensures;
        alone = c.in_ok-push.ensures.ok ∙ ap (λ (l : List Branch). l ++ c.in_ok-branch.branch ∷ []) c.new-branches.ensures;
        queue_is = ap Some (let e : c.args.place + 1 ≡ suc c.args.place = omega arith in e);
      };
    }
