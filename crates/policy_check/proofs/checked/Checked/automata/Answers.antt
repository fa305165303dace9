use Rattle.std.proofs.Common.{length, sym, ◌∙◌, ap}
use Rattle.merlin_model.specs.Policies.{paths_of}
use Rattle.policy_check.specs.Checked.{CheckedPolicy}
use Rattle.policy_check.proofs.Keeping.{paths-view}
use Rattle.policy_check.proofs.checked.Checked.automata.Goals as goal

pub returns-clause-numbers : goal.returns-clause-numbers
returns-clause-numbers c =
    ap (λ (checked : CheckedPolicy). length checked.automaton_numbers) (sym c.self.view_is)
    ∙ (c.self.invariant.numbers
    ∙ (ap length (sym (paths-view c.self.inside c.self.invariant))
    ∙ ap (λ (checked : CheckedPolicy). length (paths_of checked.policy)) c.self.view_is))
