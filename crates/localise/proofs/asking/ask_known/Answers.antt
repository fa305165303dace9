use Rattle.std.proofs.Common.{◌≡◌, ◌∙◌, ◌≤◌, ℕ, List, [], ap, sym, map, slice_get, Some, None, is_some, arith}
use Rattle.localise.specs.declared.fault.RateFault.TheVariants.{UnknownId}
use Rattle.localise.specs.Faults.{unknown_in}
use Rattle.localise.specs.Limits.{held_for}
use Rattle.localise.proofs.Through.{found_here, clear_further, first_of_map, none_first}
use Rattle.localise.proofs.asking.ask_known.Goals as goal

pub returns-in-Some-clause-err : goal.returns-in-Some-clause-err
returns-in-Some-clause-err c =
    let first : slice_get (unknown_in (λ name. is_some (held_for c.args.table.now name)) c.term-item.result) 0 ≡ Some c.in-Some.id.now = sym c.in-Some.ensures in
    let here = first_of_map (λ (id : List ℕ). UnknownId id) (unknown_in (λ name. is_some (held_for c.args.table.now name)) c.term-item.result) c.in-Some.id.now first in
    found_here (λ (id : List ℕ). UnknownId id) (unknown_in (λ name. is_some (held_for c.args.table.now name))) c.args.terms.now c.loop-term.term-index c.term-item.result c.loop-term-test.true c.term-item.is c.loop-term.invariant (UnknownId c.in_ok-id.id)
    (here ∙ ap (λ (id : List ℕ). Some (UnknownId id)) (sym c.in_ok-id.ensures))

pub loop-term-preserved : goal.loop-term-preserved
loop-term-preserved c =
    let none : slice_get (unknown_in (λ name. is_some (held_for c.args.table.now name)) c.term-item.result) 0 ≡ None = sym c.in_default.ensures in
    clear_further (λ (id : List ℕ). UnknownId id) (unknown_in (λ name. is_some (held_for c.args.table.now name))) c.args.terms.now c.loop-term.term-index c.term-item.result c.loop-term-test.true c.term-item.is c.loop-term.invariant (none_first _ none)
