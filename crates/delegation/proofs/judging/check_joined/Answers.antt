use Rattle.std.proofs.Common.{rules, refl, subst}
use Rattle.topology.specs.Symbols.{network_symbols}
use Rattle.policy_expansion.specs.declared.policy.Policy.{Policy}
use Rattle.policy_check.specs.Rules.{BreaksRule}
use Rattle.delegation.proofs.judging.check_joined.Goals as goal

pub returns-in-Err : goal.returns-in-Err
returns-in-Err c = record {
  ok = tt;
  err = λ nodes node is. (refl, (search rules, subst (λ (p : Policy). BreaksRule c.args.net.now (network_symbols c.args.net.now) p c.in-Err.fault) is c.in-Err.ensures.err));
}
