use Rattle.std.proofs.Common.{◌≡◌, ◌<◌, ◌++◌, ◌∷◌, [], ℕ, List, length, append_assoc, sym, ◌∙◌, ap, subst}
use Rattle.std.specs.List.{AllByRecursion}
use Rattle.merlin_model.specs.declared.policy.Symbol.{Symbol}
use Rattle.language_check.specs.Inclusion.{forwards, symbol_at}
use Rattle.language_check.proofs.Between.{forwards-last, all-front}
use Rattle.language_check.proofs.inclusion.word_of.Goals as goal

pub loop-number-preserved : goal.loop-number-preserved
loop-number-preserved c =
    let symbols : List Symbol = c.args.symbols.now in
    let word : List Symbol = c.loop-number.word in
    let rest_of : List ℕ = c.pop.new.self in
    let k : ℕ = c.in-Some.number in
    let e : c.loop-number.trail ≡ rest_of ++ k ∷ [] = c.in-Some.ensures in
    let parts = all-front (λ j. j < length symbols) rest_of k (subst (λ (u : List ℕ). AllByRecursion (λ j. j < length symbols) u) e c.loop-number.invariant.0) in (
      parts.0,
      λ rest.
          ap (λ (l : List Symbol). l ++ forwards symbols rest_of rest) c.in_ok-push.ensures.ok
          ∙ append_assoc word (symbol_at symbols k ∷ []) (forwards symbols rest_of rest)
          ∙ ap (λ (l : List Symbol). word ++ l) (sym (forwards-last symbols rest_of k rest))
          ∙ ap (λ (u : List ℕ). word ++ forwards symbols u rest) (sym e)
          ∙ c.loop-number.invariant.1 rest,
    )
