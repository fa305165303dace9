use Rattle.std.proofs.Common.{ℕ, List}
use Rattle.std.proofs.lemmas.Result.{err_from_is_err_and}
use Rattle.merlin_model.specs.declared.policy.Term.{Term}
use Rattle.merlin_model.specs.Rates.{ids_of}
use Rattle.localise.specs.declared.fault.RateFault.TheVariants.{RepeatedId}
use Rattle.localise.specs.Faults.{repeats_in}
use Rattle.localise.proofs.Through.{found_here}
use Rattle.localise.proofs.asking.ask_different.Goals as goal

pub returns-in_err-ask_term-clause-err : goal.returns-in_err-ask_term-clause-err
returns-in_err-ask_term-clause-err c =
    let p = err_from_is_err_and c.from_residual.result c.from_residual.ensures.1 in
    rw (p.1, p.2) (found_here (λ (id : List ℕ). RepeatedId id) (λ (term : Term). repeats_in (ids_of term)) c.args.terms.now c.loop-term.term-index c.term-item.result c.loop-term-test.true c.term-item.is c.loop-term.invariant _ c.in_err-ask_term.ensures.err)
