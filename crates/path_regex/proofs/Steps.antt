-- What is kept of what follows an Alt after a symbol.
use Rattle.std.proofs.Common.{Result, ◌≡◌, OnErr, Option, None, Some, IfSome, OnOk, ℕ, true, List, [], rules}
use Rattle.std.specs.List.{AllByRecursion}
use Rattle.std.specs.Map.{lookup}
use Rattle.indexmap.specs.IndexMap.{insert_entry}
use Rattle.std.specs.declared.cmp.Ordering.{Ordering}
use Rattle.merlin_model.specs.declared.policy.Path.{Path}
use Rattle.path_regex.specs.declared.forms.FormNode.{FormNode}
use Rattle.path_regex.specs.declared.forms.FormStep.{FormStep}
use Rattle.path_regex.specs.contracts.forms.FormStepPartialEq.TheImpl.{eq-value}
use Rattle.path_regex.specs.Shared.{form_at, meanings, members_after, step_symbol, IsFormAt, IsKnownStep, AreForms}
use Rattle.path_regex.proofs.Entries.{entry-noted, entry-found}

same : (x y : FormStep) → eq-value.it x y ≡ true → x ≡ y
same x y e = search rules

-- what is found is true
pub step-found : (forms : List Path) (taken : List (FormStep × ℕ)) (step : FormStep) (r : Option ℕ) → AllByRecursion (IsKnownStep forms) taken → r ≡ lookup (λ k. eq-value.it step k) taken → IfSome r (λ rest. IsFormAt forms rest (members_after (form_at forms step.all) (step_symbol step)))
step-found forms taken step None h e = tt
step-found forms taken step (Some rest) h e = (entry-found FormStep ℕ eq-value.it same (IsKnownStep forms) taken step (Some rest) h e).1

-- what is known after a step was noted
pub step-noted : (all : List FormNode) (compared : List ((ℕ × ℕ) × Ordering)) (old new : List (FormStep × ℕ)) {X E : Type 0} (r : Result X E) (step : FormStep) (rest : ℕ) → AreForms all compared old → IsKnownStep (meanings [] all) (step, rest) → OnOk r (new ≡ insert_entry eq-value.it old step rest) → OnErr r (new ≡ old) → AreForms all compared new
step-noted all compared old new r step rest h k e f = record { nodes = h.nodes; orders = h.orders; steps = entry-noted FormStep ℕ eq-value.it same (IsKnownStep (meanings [] all)) old new r step rest k h.steps e f }
