use Rattle.std.proofs.Common.{◌≡◌, ◌<◌, ℕ, List, length, get_or, Result, Ok, Err, sym, subst, arith}
use Rattle.std.specs.Result.{IsErrAnd}
use Rattle.merlin_model.specs.declared.policy.Symbol.{Symbol}
use Rattle.merlin_model.specs.declared.policy.Path.{Path, Nothing}
use Rattle.path_regex.specs.Normal.{normal_of}
use Rattle.path_automaton.specs.declared.fault.AutomatonFault.{AutomatonFault}
use Rattle.path_automaton.specs.declared.fault.AutomatonFault.TheVariants.{TooManyStates, OutOfMemory}
use Rattle.path_automaton.specs.declared.exploring.Explored.{Explored}
use Rattle.path_automaton.specs.Followed.{AreExploring, IsFollowed, IsExplored}
use Rattle.path_automaton.proofs.Following.{turn, too_many}
use Rattle.path_automaton.proofs.exploring.explore.Goals as goal

-- a fault that is passed on
passed : (first : Path) (symbols : List Symbol) (states : List Path) (rows : List (List ℕ)) → AreExploring first symbols states rows → length rows < length states → (new : List Path) →
    (e : AutomatonFault) → IsFollowed states (get_or states (length rows) Nothing) symbols new (Err e) → (r : Result Explored AutomatonFault) → IsErrAnd r (λ f. f ≡ e) → IsExplored first symbols r
passed first symbols states rows h lt new e row (Ok x) i = absurd i
passed first symbols states rows h lt new (TooManyStates count) row (Err f) i =
    subst (λ g. IsExplored first symbols (Err g)) (sym i) (row.0, too_many first symbols states rows h lt new count row.2.0 row.0 row.1 row.2.1)
passed first symbols states rows h lt new OutOfMemory row (Err f) i = subst (λ g. IsExplored first symbols (Err g)) (sym i) tt

pub returns-in_err-row : goal.returns-in_err-row
returns-in_err-row c =
    let a = c.len.ensures in
    let b = c.len-in-turns.ensures in
    let d = c.turns-test.true in
    passed (normal_of c.args.path.now) c.args.symbols.now c.turns.states c.turns.rows c.turns.invariant (omega arith) c.row.new.states c.in_err-row.field-0.0
    (subst (λ k. IsFollowed c.turns.states (get_or c.turns.states k Nothing) c.args.symbols.now c.row.new.states (Err c.in_err-row.field-0.0)) c.len-in-turns-2.ensures c.in_err-row.ensures)
    c.from_residual-in_err-row.result c.from_residual-in_err-row.ensures.1

pub turns-preserved : goal.turns-preserved
turns-preserved c =
    let a = c.len.ensures in
    let b = c.len-in-turns.ensures in
    let d = c.turns-test.true in
    let row : List ℕ = c.in_ok-row.field-0 in
    let made = subst (λ k. IsFollowed c.turns.states (get_or c.turns.states k Nothing) c.args.symbols.now c.row.new.states (Ok row)) c.len-in-turns-2.ensures c.in_ok-row.ensures in
    subst (λ (rows : List (List ℕ)). AreExploring (normal_of c.args.path.now) c.args.symbols.now c.row.new.states rows) (sym c.in_ok-push.ensures.ok)
    (turn (normal_of c.args.path.now) c.args.symbols.now c.turns.states c.turns.rows c.turns.invariant (omega arith) c.row.new.states row made.0 made.1 made.2)

out_of_memory : (first : Path) (symbols : List Symbol) (r : Result Explored AutomatonFault) → IsErrAnd r (λ f. f ≡ OutOfMemory) → IsExplored first symbols r
out_of_memory first symbols (Ok x) i = absurd i
out_of_memory first symbols (Err f) i = subst (λ g. IsExplored first symbols (Err g)) (sym i) tt

pub returns-in_err-push : goal.returns-in_err-push
returns-in_err-push c = out_of_memory (normal_of c.args.path.now) c.args.symbols.now c.from_residual-in_err-push.result c.from_residual-in_err-push.ensures.1
