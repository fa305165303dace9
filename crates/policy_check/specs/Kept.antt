-- What the fields of a checked policy keep.
use Rattle.std.specs.Prelude.{ℕ, suc, ◌≡◌, ◌<◌, ◌⊎◌, List, [], ◌∷◌, length, slice_get}
use Rattle.std.specs.List.{AllByRecursion}
use Rattle.merlin_model.specs.declared.policy.Path.{Path}
use Rattle.merlin_model.specs.declared.policy.Pred.{Pred}
use Rattle.merlin_model.specs.Policies.{Policy, Statement}
use Rattle.localise.specs.Localised.{localised}
use Rattle.policy_check.specs.declared.checked.Checked.TheInside.{Inside}
use Rattle.policy_check.specs.Checked.{CheckedPolicy, IsSoundPolicy}

-- statements from their parts
abbrev pub statements_from : List (List ℕ) → List Pred → List Path → List Statement
statements_from (id ∷ ids) (pred ∷ preds) (path ∷ paths) = record { id = id; pred = pred; path = path } ∷ statements_from ids preds paths
statements_from _ _ _ = []

abbrev pub policy_in : Inside → Policy
policy_in c = record {
  statements = statements_from c.listing.ids c.listing.preds c.paths;
  default_path = slice_get c.paths (length c.listing.ids);
  terms = c.formula.terms;
}

abbrev pub checked_in : Inside → CheckedPolicy
checked_in c = record { policy = policy_in c; automata = c.automata.built; automaton_numbers = c.automata.numbers }

-- There are as many ids as predicates, as many paths or one more, and for each path the number of an automaton.
pub record IsWholeCheck (c : Inside) : Type 0 where
  pub preds : length c.listing.preds ≡ length c.listing.ids
  pub paths : (length c.paths ≡ length c.listing.ids) ⊎ (length c.paths ≡ suc (length c.listing.ids))
  pub numbers : length c.automata.numbers ≡ length c.paths
  pub automata : AllByRecursion (λ n. n < length c.automata.built) c.automata.numbers
  pub rates : c.rates ≡ localised c.formula.terms c.listing.ids
  pub sound : IsSoundPolicy (policy_in c)
