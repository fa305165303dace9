-- The policy over the numbers of a network that a policy over its names stands for.
use Rattle.std.specs.Prelude.{map}
use Rattle.std.specs.Option.{option_map}
use Rattle.merlin_model.specs.Networks.{Network}
use Rattle.merlin_model.specs.Policies.{Policy as NumberedPolicy, Statement as NumberedStatement}
use Rattle.policy_grammar.specs.NumberedPaths.{numbered}
use Rattle.policy_expansion.specs.declared.policy.Statement.{Statement}
use Rattle.policy_expansion.specs.declared.policy.Policy.{Policy}
use Rattle.policy_names.specs.Names.{meaning_of}

abbrev pub numbered_statement : Network → Statement → NumberedStatement
numbered_statement net s = record { id = s.id; pred = s.pred; path = numbered (meaning_of net) s.path }

abbrev pub numbered_policy : Network → Policy → NumberedPolicy
numbered_policy net raw = record {
  statements = map (numbered_statement net) raw.statements;
  default_path = option_map (numbered (meaning_of net)) raw.default_path;
  terms = raw.formula.terms;
}
