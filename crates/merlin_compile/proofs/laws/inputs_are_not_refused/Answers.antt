use Rattle.merlin_compile.proofs.Unrefused.{input-kept, compiled-kept}
use Rattle.merlin_compile.proofs.laws.inputs_are_not_refused.Goals as goal

pub returns-clause-input : goal.returns-clause-input
returns-clause-input c = input-kept (record {
  one = c.one_network.ensures.one;
  apart = c.one_network.ensures.apart;
  rules = c.kept_rules_are_not_broken.ensures;
  ends = c.ends_that_stand_are_not_refused.ensures;
  limits = c.limits_are_kept_or_passed.ensures;
  one_limit = c.limits_of_one_policy.ensures;
  one_program = c.one_program.ensures.limits;
})

pub returns-clause-compiled : goal.returns-clause-compiled
returns-clause-compiled c = compiled-kept (record {
  one = c.one_network.ensures.one;
  apart = c.one_network.ensures.apart;
  rules = c.kept_rules_are_not_broken.ensures;
  ends = c.ends_that_stand_are_not_refused.ensures;
  limits = c.limits_are_kept_or_passed.ensures;
  one_limit = c.limits_of_one_policy.ensures;
  one_program = c.one_program.ensures.limits;
})
