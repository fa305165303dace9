-- Joins of policies as they are written: the policy of a node within which others stand, each for the packets of its scope.
use Rattle.std.specs.Prelude.{ℕ, nat_lt, List, [], ◌∷◌, ◌++◌, map, flat_map, None, if◌then◌else◌}
use Rattle.std.specs.Option.{option_map, option_to_list}
use Rattle.merlin_model.specs.declared.policy.Bound.TheVariants.{Max, Min}
use Rattle.merlin_model.specs.declared.policy.Pred.{Pred, All, AnyOf, Not}
use Rattle.merlin_model.specs.declared.policy.Term.{Term}
use Rattle.policy_grammar.specs.declared.written.RawPath.{RawPath}
use Rattle.policy_expansion.specs.declared.policy.Statement.{Statement}
use Rattle.policy_expansion.specs.declared.policy.Policy.{Policy}
use Rattle.localise.specs.Localised.{max_for, min_for}
use Rattle.refinement_model.specs.Localised.{localised_term}
use Rattle.refinement_model.specs.Delegation.{joined_id, default_id}
use Rattle.delegation.specs.declared.node.Node.{Node}
use Rattle.delegation.specs.declared.rating.RatedStatement.{RatedStatement}
use Rattle.delegation.specs.declared.rating.RatedPolicy.{RatedPolicy}

-- a statement with its localised rates
abbrev pub rated_statement : List Term → Statement → RatedStatement
rated_statement terms s = record { statement = s; cap = max_for terms s.id; guarantee = min_for terms s.id }

abbrev pub rated_policy : Policy → RatedPolicy
rated_policy policy = record {
  statements = map (rated_statement policy.formula.terms) policy.statements;
  default_path = policy.default_path;
}

-- the cap of a statement, if it has one, and its guarantee, if that is above 0, as terms of its id alone
abbrev pub rate_terms : RatedStatement → List Term
rate_terms r =
    option_to_list (option_map (localised_term Max r.statement.id) r.cap)
    ++ (if nat_lt 0 r.guarantee then localised_term Min r.statement.id r.guarantee ∷ [] else [])

-- the policy of some statements with these rates
abbrev pub written_policy : RatedPolicy → Policy
written_policy rated = record {
  statements = map (λ r. r.statement) rated.statements;
  default_path = rated.default_path;
  formula = record { terms = flat_map rate_terms rated.statements };
}

-- the same statement of other packets, under another id
abbrev pub restated : List ℕ → Pred → RatedStatement → RatedStatement
restated id pred r = record {
  statement = record { id = id; pred = pred; path = r.statement.path };
  cap = r.cap;
  guarantee = r.guarantee;
}

-- the default as a statement, of the packets of no other
abbrev pub default_as_statement : RatedPolicy → RawPath → RatedStatement
default_as_statement policy path = record {
  statement = record { id = default_id; pred = Not (AnyOf (map (λ r. r.statement.pred) policy.statements)); path = path };
  cap = None;
  guarantee = 0;
}

abbrev pub statements_and_default : RatedPolicy → List RatedStatement
statements_and_default policy = policy.statements ++ option_to_list (option_map (default_as_statement policy) policy.default_path)

-- a statement of a child, within the child's scope
abbrev pub statement_in_scope : Node → RatedStatement → RatedStatement
statement_in_scope child r = restated (joined_id child.name r.statement.id) (All (child.scope ∷ r.statement.pred ∷ [])) r

-- the statements of a child under a policy of its own or of its composition
abbrev pub statements_of_child : Node × RatedPolicy → List RatedStatement
statements_of_child child = map (statement_in_scope child.0) (statements_and_default child.1)

-- a statement of the node's own, outside all scopes
abbrev pub statement_elsewhere : List Pred → RatedStatement → RatedStatement
statement_elsewhere scopes r = restated r.statement.id (All (r.statement.pred ∷ Not (AnyOf scopes) ∷ [])) r

-- the statements of the children, then those of the node
abbrev pub rated_join : RatedPolicy → List (Node × RatedPolicy) → RatedPolicy
rated_join own children = record {
  statements =
      flat_map statements_of_child children
      ++ map (statement_elsewhere (map (λ c. c.0.scope) children)) own.statements;
  default_path = own.default_path;
}

abbrev pub rated_child : Node × Policy → Node × RatedPolicy
rated_child child = (child.0, rated_policy child.1)

-- the join of a policy with a policy for each child, all in localised form
abbrev pub named_join : Policy → List (Node × Policy) → Policy
named_join policy children = written_policy (rated_join (rated_policy policy) (map rated_child children))
