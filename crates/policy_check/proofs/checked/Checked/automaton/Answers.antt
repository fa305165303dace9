use Rattle.std.proofs.Common.{length, sym, ◌∙◌, ap, arith}
use Rattle.merlin_model.specs.Policies.{paths_of}
use Rattle.policy_check.specs.Checked.{CheckedPolicy}
use Rattle.policy_check.proofs.Keeping.{paths-view}
use Rattle.policy_check.proofs.checked.Checked.automaton.Goals as goal

pub automaton_at-requires-clause-place : goal.automaton_at-requires-clause-place
automaton_at-requires-clause-place c =
    let many = ap length c.as_slice.ensures ∙ (c.self.invariant.numbers ∙ (ap length (sym (paths-view c.self.inside c.self.invariant)) ∙ ap (λ (checked : CheckedPolicy). length (paths_of checked.policy)) c.self.view_is)) in
    let asked = c.requires in
    omega (arith, many, asked)

pub automaton_at-requires-clause-numbers : goal.automaton_at-requires-clause-numbers
automaton_at-requires-clause-numbers c = rw (c.as_slice-built.ensures, c.as_slice.ensures) c.self.invariant.automata
