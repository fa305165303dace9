-- Joins and trees over names, and the same over the numbers of a network.
use Rattle.std.proofs.Common.{◌≡◌, ℕ, zero, suc, Bool, true, false, cond, List, [], ◌∷◌, ◌++◌, map, filter, Option, None, Some, option_map, unwrap_or, slice_get, refl, sym, ◌∙◌, ap, ap₂}
use Rattle.std.specs.Option.{option_to_list}
use Rattle.std.specs.List.{zip, flat_map}
use Rattle.std.proofs.lemmas.List.{map-append, length-map}
use Rattle.std.proofs.lemmas.Option.{slice_get-map}
use Rattle.merlin_model.specs.declared.policy.Path.{Path}
use Rattle.merlin_model.specs.declared.policy.Pred.{Pred, AnyOf, Not}
use Rattle.merlin_model.specs.Networks.{Network}
use Rattle.merlin_model.specs.Policies.{Policy as NumberedPolicy}
use Rattle.policy_grammar.specs.declared.written.RawPath.{RawPath}
use Rattle.policy_grammar.specs.NumberedPaths.{numbered}
use Rattle.policy_names.specs.Names.{meaning_of}
use Rattle.policy_expansion.specs.declared.policy.Statement.{Statement}
use Rattle.policy_expansion.specs.declared.policy.Policy.{Policy}
use Rattle.policy_check.specs.Numbered.{numbered_statement, numbered_policy}
use Rattle.refinement_model.specs.Localised.{Rated, localised_terms, policy_of_rated, rated, localised_form}
use Rattle.refinement_model.specs.Delegation.{Child, default_id, default_statement, all_rated, within, outside, scopes_of, join, composed, children_of, is_child_of, DelegationNode, AreCompositions}
use Rattle.delegation.specs.declared.node.Node.{Node}
use Rattle.delegation.specs.declared.rating.RatedStatement.{RatedStatement}
use Rattle.delegation.specs.declared.rating.RatedPolicy.{RatedPolicy}
use Rattle.delegation.specs.NamedJoins.{rated_statement, rated_policy, rate_terms, written_policy, default_as_statement, statements_and_default, statement_in_scope, statements_of_child, statement_elsewhere, rated_join, rated_child, named_join}
use Rattle.delegation.specs.NamedTrees.{has_parent, children_with, composed_with, numbered_node, AreNamedCompositions}

module _ (net : Network) where
  abbrev pub numbered_rated : RatedStatement → Rated
  numbered_rated r = record { statement = numbered_statement net r.statement; cap = r.cap; guarantee = r.guarantee }

  abbrev pub numbered_path : RawPath → Path
  numbered_path = numbered (meaning_of net)

  abbrev pub numbered_child : Node × Policy → Child
  numbered_child c = record { name = c.0.name; scope = c.0.scope; policy = numbered_policy net c.1 }

  terms-same : (rs : List RatedStatement) → flat_map rate_terms rs ≡ flat_map localised_terms (map numbered_rated rs)
  terms-same [] = refl
  terms-same (r ∷ rs) = ap (λ l. rate_terms r ++ l) (terms-same rs)

  statements-same : (rs : List RatedStatement) → map (numbered_statement net) (map (λ r. r.statement) rs) ≡ map (λ r. r.statement) (map numbered_rated rs)
  statements-same [] = refl
  statements-same (r ∷ rs) = ap (λ l. numbered_statement net r.statement ∷ l) (statements-same rs)

  -- a policy that is written with its rates
  pub numbered-written : (r : RatedPolicy) → numbered_policy net (written_policy r) ≡ policy_of_rated (map numbered_rated r.statements) (option_map numbered_path r.default_path)
  numbered-written r = ap₂ (λ ss ts. record { statements = ss; default_path = option_map numbered_path r.default_path; terms = ts }) (statements-same r.statements) (terms-same r.statements)

  rated-same : (raw : Policy) (ss : List Statement) → map numbered_rated (map (rated_statement raw.formula.terms) ss) ≡ map (rated (numbered_policy net raw)) (map (numbered_statement net) ss)
  rated-same raw [] = refl
  rated-same raw (s ∷ ss) = ap (λ l. rated (numbered_policy net raw) (numbered_statement net s) ∷ l) (rated-same raw ss)

  -- the localised form
  pub numbered-form : (raw : Policy) → numbered_policy net (written_policy (rated_policy raw)) ≡ localised_form (numbered_policy net raw)
  numbered-form raw = numbered-written (rated_policy raw) ∙ ap (λ rs. policy_of_rated rs (option_map numbered_path raw.default_path)) (rated-same raw raw.statements)

  preds-same : (raw : Policy) (ss : List Statement) → map (λ r. r.statement.pred) (map (rated_statement raw.formula.terms) ss) ≡ map (λ s. s.pred) (map (numbered_statement net) ss)
  preds-same raw [] = refl
  preds-same raw (s ∷ ss) = ap (λ l. s.pred ∷ l) (preds-same raw ss)

  default-same : (raw : Policy) (o : Option RawPath) →
      map numbered_rated (option_to_list (option_map (default_as_statement (rated_policy raw)) o)) ≡ option_to_list (option_map (default_statement (numbered_policy net raw)) (option_map numbered_path o))
  default-same raw None = refl
  default-same raw (Some path) = ap (λ (preds : List Pred). record { statement = record { id = default_id; pred = Not (AnyOf preds); path = numbered_path path }; cap = None; guarantee = 0 } ∷ []) (preds-same raw raw.statements)

  all-same : (raw : Policy) → map numbered_rated (statements_and_default (rated_policy raw)) ≡ all_rated (numbered_policy net raw)
  all-same raw =
      map-append numbered_rated (rated_policy raw).statements (option_to_list (option_map (default_as_statement (rated_policy raw)) raw.default_path))
      ∙ ap₂ (λ a b. a ++ b) (rated-same raw raw.statements) (default-same raw raw.default_path)

  in-scope-same : (c : Node × Policy) (rs : List RatedStatement) → map numbered_rated (map (statement_in_scope c.0) rs) ≡ map (within (numbered_child c)) (map numbered_rated rs)
  in-scope-same c [] = refl
  in-scope-same c (r ∷ rs) = ap (λ l. within (numbered_child c) (numbered_rated r) ∷ l) (in-scope-same c rs)

  child-same : (c : Node × Policy) → map numbered_rated (statements_of_child (rated_child c)) ≡ map (within (numbered_child c)) (all_rated (numbered_policy net c.1))
  child-same c = in-scope-same c (statements_and_default (rated_policy c.1)) ∙ ap (map (within (numbered_child c))) (all-same c.1)

  children-same : (cs : List (Node × Policy)) → map numbered_rated (flat_map statements_of_child (map rated_child cs)) ≡ flat_map (λ c. map (within c) (all_rated c.policy)) (map numbered_child cs)
  children-same [] = refl
  children-same (c ∷ cs) = map-append numbered_rated (statements_of_child (rated_child c)) (flat_map statements_of_child (map rated_child cs)) ∙ ap₂ (λ a b. a ++ b) (child-same c) (children-same cs)

  scopes-same : (cs : List (Node × Policy)) → map (λ c. c.0.scope) (map rated_child cs) ≡ scopes_of (map numbered_child cs)
  scopes-same [] = refl
  scopes-same (c ∷ cs) = ap (λ l. c.0.scope ∷ l) (scopes-same cs)

  elsewhere-same : (cs : List Child) (scopes : List Pred) (rs : List RatedStatement) → scopes ≡ scopes_of cs → map numbered_rated (map (statement_elsewhere scopes) rs) ≡ map (outside cs) (map numbered_rated rs)
  elsewhere-same cs scopes [] e = refl
  elsewhere-same cs scopes (r ∷ rs) e = ap₂ (λ (preds : List Pred) (l : List Rated). numbered_rated (statement_elsewhere preds r) ∷ l) e (elsewhere-same cs scopes rs e)

  -- the join
  pub numbered-join : (raw : Policy) (cs : List (Node × Policy)) → numbered_policy net (named_join raw cs) ≡ join (numbered_policy net raw) (map numbered_child cs)
  numbered-join raw cs =
      numbered-written (rated_join (rated_policy raw) (map rated_child cs))
      ∙ ap (λ rs. policy_of_rated rs (option_map numbered_path raw.default_path))
      (map-append numbered_rated (flat_map statements_of_child (map rated_child cs)) (map (statement_elsewhere (map (λ c. c.0.scope) (map rated_child cs))) (rated_policy raw).statements)
      ∙ ap₂ (λ a b. a ++ b) (children-same cs)
      (elsewhere-same (map numbered_child cs) (map (λ c. c.0.scope) (map rated_child cs)) (rated_policy raw).statements (scopes-same cs) ∙ ap (map (outside (map numbered_child cs))) (rated-same raw raw.statements)))

  pub numbered-composed : (raw : Policy) (cs : List (Node × Policy)) → numbered_policy net (composed_with raw cs) ≡ composed (numbered_policy net raw) (map numbered_child cs)
  numbered-composed raw [] = refl
  numbered-composed raw (c ∷ cs) = numbered-join raw (c ∷ cs)

  -- the children of a node
  pub numbered-children : (k : ℕ) (nodes : List Node) (ps : List Policy) → children_of (map (numbered_node net) nodes) (map (numbered_policy net) ps) k ≡ map numbered_child (children_with nodes ps k)
  numbered-children k [] ps = refl
  numbered-children k (n ∷ nodes) [] = refl
  numbered-children k (n ∷ nodes) (p ∷ ps) = by (has_parent k n) (numbered-children k nodes ps)
    where
      as_child : DelegationNode × NumberedPolicy → Child
      as_child q = record { name = q.0.name; scope = q.0.scope; policy = q.1 }

      by : (b : Bool) → children_of (map (numbered_node net) nodes) (map (numbered_policy net) ps) k ≡ map numbered_child (children_with nodes ps k) →
          map (λ (q : DelegationNode × NumberedPolicy). record { name = q.0.name; scope = q.0.scope; policy = q.1 }) (cond b ((numbered_node net n, numbered_policy net p) ∷ filter (λ q. is_child_of k q.0) (zip (map (numbered_node net) nodes) (map (numbered_policy net) ps))) (filter (λ q. is_child_of k q.0) (zip (map (numbered_node net) nodes) (map (numbered_policy net) ps))))
          ≡ map numbered_child (cond b ((n, p) ∷ children_with nodes ps k) (children_with nodes ps k))
      by true ih = ap (λ l. numbered_child (n, p) ∷ l) ih
      by false ih = ih

  Some-same : {X : Type 0} {a b : X} → Some a ≡ Some b → a ≡ b
  Some-same {X} {a} {b} e = ap (λ o. unwrap_or o a) e

  -- a node over numbers stands for one over names
  pub node-at : (nodes : List Node) (k : ℕ) (m : DelegationNode) → slice_get (map (numbered_node net) nodes) k ≡ Some m → (n : Node) × (slice_get nodes k ≡ Some n) × (m ≡ numbered_node net n)
  node-at [] k m e = let no : ⊥ = cc in absurd no
  node-at (n ∷ nodes) zero m e = (n, refl, sym (Some-same e))
  node-at (n ∷ nodes) (suc k) m e = node-at nodes k m e

  pub numbered-compositions : (nodes : List Node) (ps : List Policy) → AreNamedCompositions nodes ps → AreCompositions (map (numbered_node net) nodes) (map (numbered_policy net) ps)
  numbered-compositions nodes ps are = record {
    as_many = length-map ps (numbered_policy net) ∙ are.as_many ∙ sym (length-map nodes (numbered_node net));
    each = each;
  }
    where
      each : (k : ℕ) (m : DelegationNode) → slice_get (map (numbered_node net) nodes) k ≡ Some m → slice_get (map (numbered_policy net) ps) k ≡ Some (composed m.policy (children_of (map (numbered_node net) nodes) (map (numbered_policy net) ps) k))
      each k m e = by (node-at nodes k m e)
        where
          by : (n : Node) × (slice_get nodes k ≡ Some n) × (m ≡ numbered_node net n) → slice_get (map (numbered_policy net) ps) k ≡ Some (composed m.policy (children_of (map (numbered_node net) nodes) (map (numbered_policy net) ps) k))
          by (n, f, g) =
              slice_get-map (numbered_policy net) ps k ∙ ap (option_map (numbered_policy net)) (are.each k n f)
              ∙ ap Some (numbered-composed n.policy (children_with nodes ps k) ∙ ap (composed (numbered_policy net n.policy)) (sym (numbered-children k nodes ps))
              ∙ ap (λ (d : DelegationNode). composed d.policy (children_of (map (numbered_node net) nodes) (map (numbered_policy net) ps) k)) (sym g))
