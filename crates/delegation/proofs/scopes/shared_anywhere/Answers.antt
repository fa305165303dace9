use Rattle.std.proofs.Common.{◌≡◌, ◌<◌, ◌≤◌, length, subst, arith}
use Rattle.std.proofs.lemmas.Option.{slice_get_within}
use Rattle.std.proofs.lemmas.Result.{err_from_is_err_and}
use Rattle.predicate_split.specs.declared.fault.TheConstants.{MAX_CLASSES}
use Rattle.predicate_split.specs.Refusals.{classes_in}
use Rattle.delegation.specs.NamedTrees.{scopes_under}
use Rattle.delegation.specs.ScopesUnder.{IsLeastSharing}
use Rattle.delegation.proofs.Own.{so-more-at}
use Rattle.delegation.proofs.Apart.{parent-more, scopes-break}
use Rattle.delegation.proofs.scopes.shared_anywhere.Goals as goal

pub returns-in_err-found-clause-err : goal.returns-in_err-found-clause-err
returns-in_err-found-clause-err c net symbols own =
    let p = err_from_is_err_and c.from_residual.result c.from_residual.ensures.1 in
    rw (p.1, p.2) (scopes-break c.args.nodes.now net symbols c.loop-place.place own c.loop-place.invariant.few c.loop-place-test.true _ c.in_err-found.ensures.err)

pub loop-place-preserved : goal.loop-place-preserved
loop-place-preserved c = record {
  few = so-more-at (λ k. classes_in (scopes_under c.args.nodes.now k) ≤ MAX_CLASSES) c.args.nodes.now c.loop-place.place c.in_ok-found.ensures.few c.loop-place.invariant.few;
  found = parent-more c.args.nodes.now c.loop-place.place c.loop-place.least c.in_ok-found.found c.earlier_pair-least.result c.loop-place.invariant.found c.in_ok-found.ensures.found
      c.earlier_pair-least.ensures.left c.earlier_pair-least.ensures.right c.earlier_pair-least.ensures.either;
}

pub returns-clause-few : goal.returns-clause-few
returns-clause-few c k node e =
    let within = slice_get_within c.args.nodes.now k node e in
    let all = c.loop-place-test.false in
    c.loop-place.invariant.few k node (omega (arith, within, all)) e

pub returns-clause-found : goal.returns-clause-found
returns-clause-found c =
    let end : c.loop-place.place ≡ length c.args.nodes.now = omega arith in
    subst (λ n. IsLeastSharing c.args.nodes.now (λ parent. parent < n) c.loop-place.least) end c.loop-place.invariant.found
