use Rattle.std.proofs.Common.{◌++◌, ◌∷◌, [], List, sym, ◌∙◌, ap, append_assoc}
use Rattle.merlin_model.specs.declared.policy.Path.{Path, Cat}
use Rattle.policy_grammar.specs.NumberedPaths.{in_sequence}
use Rattle.policy_names.proofs.Shapes.{in_sequence-last}
use Rattle.policy_names.proofs.numbering.in_sequence.Goals as goal

pub loop-first-preserved : goal.loop-first-preserved
loop-first-preserved c =
    let left = c.pop-in-loop-first.new.self in
    let first = c.in-Some-pop.first in
    let sequence = c.loop-first.sequence in
    (λ k. in_sequence (left ++ Cat (c.in_ok-new.ensures k) (c.in_ok-new-2.ensures k) ∷ []))
    ∙ (sym (in_sequence-last left first sequence)
    ∙ (ap in_sequence (sym (append_assoc left (first ∷ []) (sequence ∷ [])))
    ∙ (ap (λ (paths : List Path). in_sequence (paths ++ sequence ∷ [])) (sym c.in-Some-pop.ensures)
    ∙ c.loop-first.invariant)))
