use Rattle.std.proofs.Common.{◌∙◌, drop, sym}
use Rattle.merlin_text.proofs.Rest.{after_gap, first_token, first_before, after_token, one_less, some_front, none_left}
use Rattle.merlin_text.proofs.cursor.Cursor.split_first.Goals as goal

pub returns-in_err-front-clause-none : goal.returns-in_err-front-clause-none
returns-in_err-front-clause-none c = absurd (some_front _ _ _ c.loop-at.invariant c.loop-at-test.true c.in_err-front.ensures.none)

pub overflow_sub-left : goal.overflow_sub-left
overflow_sub-left c = (one_less _ _ _ c.self.inside.counted (first_token _ _ _ _ _ _ c.loop-at.invariant c.in_ok-front.ensures.some c.in-Some.is)).0

pub invariant_of-rest-inside : goal.invariant_of-rest-inside
invariant_of-rest-inside c =
    let first = first_token _ _ _ _ _ _ c.loop-at.invariant c.in_ok-front.ensures.some c.in-Some.is in (
      (drop 1 c.self.inside.rest.0, after_token _ _ _ _ _ _ c.loop-at.invariant c.in_ok-front.ensures.some c.in-Some.is),
      ((one_less _ _ _ c.self.inside.counted first).1, tt),
    )

pub returns-in-Some-clause-some : goal.returns-in-Some-clause-some
returns-in-Some-clause-some c = sym c.self.view_is ∙ first_before _ _ _ _ _ _ _ (assumption) c.loop-at.invariant c.in_ok-front.ensures.some c.in-Some.is

pub loop-at-preserved : goal.loop-at-preserved
loop-at-preserved c = after_gap _ _ _ _ _ c.loop-at.invariant c.in_ok-front.ensures.some c.in_default.is

pub returns-clause-none : goal.returns-clause-none
returns-clause-none c = sym c.self.view_is ∙ none_left _ _ _ c.loop-at.invariant c.loop-at-test.false
