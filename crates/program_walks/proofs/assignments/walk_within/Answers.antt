use Rattle.std.proofs.Common.{◌≡◌, List, IfOk, Ok, Err, Result, inr, subst}
use Rattle.merlin_model.specs.declared.policy.Symbol.{Symbol}
use Rattle.merlin_model.specs.declared.name.OutOfMemory.{OutOfMemory}
use Rattle.cutoff_program.specs.declared.flow.Flow.{Flow}
use Rattle.program_walks.specs.Paths.{IsLeastPathIf}
use Rattle.program_walks.specs.Solutions.{word_over, IsWordAt}
use Rattle.program_walks.proofs.Spelling.{word-at}
use Rattle.program_walks.proofs.assignments.walk_within.Goals as goal

if-ok : (P Q : List Symbol → Type 0) → ((x : List Symbol) → P x → Q x) → (r : Result (List Symbol) OutOfMemory) → IfOk r P → IfOk r Q
if-ok P Q h (Ok x) p = h x p
if-ok P Q h (Err e) p = tt

pub returns-in-Some : goal.returns-in-Some
returns-in-Some c =
    if-ok (λ walk. walk ≡ word_over c.args.variables.now c.args.symbols.now c.as_slice.result.now) (IsWordAt c.args.problem.now c.args.point.now c.args.number c.args.symbols.now)
    (word-at c.args.problem.now c.args.variables.now c.args.point.now c.args.number c.args.symbols.now c.in_ok-found.field-0 c.in-Some.found c.as_slice.result.now c.in_ok-found.ensures c.in-Some.is c.requires.are c.as_slice.ensures)
    c.word_along.result c.word_along.ensures

pub returns-in-None : goal.returns-in-None
returns-in-None c = λ (flow : Flow) stands. inr (subst (IsLeastPathIf c.args.problem.now c.args.point.now c.args.number flow) c.in-None.is (c.in_ok-found.ensures flow stands))
