use Rattle.std.proofs.Common.{IfNone, sym, ◌∙◌, subst}
use Rattle.std.specs.List.{AllByRecursion}
use Rattle.merlin_model.specs.Predicates.{IsPred}
use Rattle.predicate_split.specs.Overlaps.{ShareNothing}
use Rattle.predicate_split.specs.Refusals.{RefusesClasses}
use Rattle.delegation.proofs.Children.{scopes-formed}
use Rattle.delegation.proofs.scopes.places_under.Goals as goal

pub overlap-requires : goal.overlap-requires
overlap-requires c = subst (AllByRecursion IsPred) (sym (c.as_slice.ensures ∙ c.in_ok-scopes.ensures)) (scopes-formed c.args.place c.args.nodes.now c.requires.each)

pub returns-in-Ok-clause-none : goal.returns-in-Ok-clause-none
returns-in-Ok-clause-none c = subst (λ scopes. IfNone c.in-Ok.found (ShareNothing scopes)) (c.as_slice.ensures ∙ c.in_ok-scopes.ensures) c.in-Ok.ensures.none

pub returns-clause-err : goal.returns-clause-err
returns-clause-err c = c.refusal_at.ensures c.args.nodes.now (subst (λ scopes. RefusesClasses scopes c.in-Err.fault) (c.as_slice.ensures ∙ c.in_ok-scopes.ensures) c.in-Err.ensures.err)
