use Rattle.std.proofs.Common.{List, map, sym, ◌∙◌, ap}
use Rattle.merlin_model.specs.declared.policy.Path.{Path, Alt, Star, Not}
use Rattle.policy_grammar.specs.declared.written.RawPath.{RawPath}
use Rattle.policy_grammar.specs.NumberedPaths.{in_sequence, numbered}
use Rattle.policy_names.specs.Meanings.{meaning_in}
use Rattle.policy_names.proofs.Shapes.{numbered-Cat, numbered-Alt, numbered-Star, numbered-Not}
use Rattle.policy_names.proofs.numbering.+numbered.Goals as goal
use Rattle.policy_names.proofs.numbering.+numbered.Goals.{numbered-in-Dot, numbered-in-Named, numbered-in-Cat+in_ok-each_numbered-in-Cat+in_ok-in_sequence-in-Cat, numbered-in-Alt+in_ok-each_numbered-in-Alt, numbered-in-Star+in_ok-numbered-in-Star+in_ok-new-in-Star, numbered-in-Not+in_ok-numbered-in-Not+in_ok-new-in-Not}

pub numbered-returns : goal.numbered-returns
numbered-returns t c =
    let known = meaning_in c.args.names.now in
    elim c.match-path.branch [
      | numbered-in-Dot w ↦ w.result-is ∙ sym (ap (λ (p : RawPath). numbered known p) w.in-Dot.is)
      | numbered-in-Named w ↦ w.result-is ∙ (w.path_of.ensures ∙ sym (ap (λ (p : RawPath). numbered known p) w.in-Named.is))
      | numbered-in-Cat+in_ok-each_numbered-in-Cat+in_ok-in_sequence-in-Cat w ↦
          w.result-is
          ∙ (w.in_ok-in_sequence-in-Cat.ensures
          ∙ (ap in_sequence (w.in_ok-each_numbered-in-Cat.ensures ∙ ap (λ (ps : List RawPath). map (numbered known) ps) w.as_slice.ensures)
          ∙ sym (ap (λ (p : RawPath). numbered known p) w.in-Cat.is ∙ numbered-Cat known _)))
      | numbered-in-Alt+in_ok-each_numbered-in-Alt w ↦
          w.result-is
          ∙ (ap (λ (ps : List Path). Alt ps) (w.in_ok-each_numbered-in-Alt.ensures ∙ ap (λ (ps : List RawPath). map (numbered known) ps) w.as_slice-in-Alt.ensures)
          ∙ sym (ap (λ (p : RawPath). numbered known p) w.in-Alt.is ∙ numbered-Alt known _))
      | numbered-in-Star+in_ok-numbered-in-Star+in_ok-new-in-Star w ↦
          w.result-is
          ∙ (ap (λ (p : Path). Star p) (w.in_ok-new-in-Star.ensures ∙ (w.in_ok-numbered-in-Star.ensures ∙ ap (λ (p : RawPath). numbered known p) w.get.ensures))
          ∙ sym (ap (λ (p : RawPath). numbered known p) w.in-Star.is ∙ numbered-Star known _))
      | numbered-in-Not+in_ok-numbered-in-Not+in_ok-new-in-Not w ↦
          w.result-is
          ∙ (ap (λ (p : Path). Not p) (w.in_ok-new-in-Not.ensures ∙ (w.in_ok-numbered-in-Not.ensures ∙ ap (λ (p : RawPath). numbered known p) w.get-in-Not.ensures))
          ∙ sym (ap (λ (p : RawPath). numbered known p) w.in-Not.is ∙ numbered-Not known _))
    ]
