use Rattle.std.proofs.Common.{◌≡◌, ◌+◌, ◌∷◌, [], ◌++◌, ℕ, List, take, get_or, sym, ◌∙◌, ap}
use Rattle.std.specs.Option.{option_copied}
use Rattle.merlin_model.specs.declared.policy.Symbol.{Symbol}
use Rattle.graph_search.proofs.Places.{take-next, no-more}
use Rattle.program_walks.specs.Solutions.{word_over}
use Rattle.program_walks.proofs.Turning.{get-some}
use Rattle.program_walks.proofs.Spelling.{word-some, word-none}
use Rattle.program_walks.proofs.assignments.word_along.Goals.{in-Some+in_ok-push-2, in_default}
use Rattle.program_walks.proofs.assignments.word_along.Goals as goal

pub loop-number-preserved : goal.loop-number-preserved
loop-number-preserved c =
    let path : List ℕ = c.args.path.now in
    let i : ℕ = c.loop-number.number-index in
    let k : ℕ = get_or path i 0 in
    let next : word_over c.args.variables.now c.args.symbols.now (take i path ++ k ∷ []) ≡ word_over c.args.variables.now c.args.symbols.now (take (i + 1) path) =
    ap (word_over c.args.variables.now c.args.symbols.now) (sym (take-next path i k (get-some path i 0 c.loop-number-test.true))) in
    elim c.match-at.branch [
      | in-Some+in_ok-push-2 w ↦
          w.walk-is ∙ w.in_ok-push-2.ensures.ok ∙ ap (λ (l : List Symbol). l ++ w.symbol_at-in-Some.result ∷ []) c.loop-number.invariant
          ∙ ap (λ (x : Symbol). word_over c.args.variables.now c.args.symbols.now (take i path) ++ x ∷ []) w.symbol_at-in-Some.ensures
          ∙ sym (word-some c.args.variables.now c.args.symbols.now (take i path) k _ (sym c.at.ensures ∙ ap option_copied w.in-Some.is)) ∙ next
      | in_default w ↦
          w.walk-is ∙ c.loop-number.invariant
          ∙ sym (word-none c.args.variables.now c.args.symbols.now (take i path) k (sym c.at.ensures ∙ ap option_copied (no-more c.at.result w.in_default.not-Some))) ∙ next
    ]
