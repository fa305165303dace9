use Rattle.std.specs.Prelude.{codes}
use Rattle.config_text.specs.Result.{objective_word}
use Rattle.config_lines.proofs.Then.{no_byte, same_part, behind_word}
use Rattle.config_read.proofs.HeadTexts.{objective_free}
use Rattle.config_read.proofs.heads.objective_then.Goals as goal

pub returns-in_err-word-clause-none : goal.returns-in_err-word-clause-none
returns-in_err-word-clause-none c =
    rw c.from_residual-in_err-word.ensures (λ o rest e. no_byte c.args.byte c.in_ok-rest.rest.now (objective_word o) rest c.in_err-word.ensures.none (behind_word (codes "objective ") c.args.text.now c.in_ok-rest.rest.now _ c.in_ok-rest.ensures.some e))

pub returns-in_err-objective-clause-none : goal.returns-in_err-objective-clause-none
returns-in_err-objective-clause-none c =
    rw c.from_residual-in_err-objective.ensures (λ o rest e. c.in_err-objective.ensures.none o
    (same_part c.args.byte c.in_ok-rest.rest.now c.in_ok-word.word.now c.in_ok-word.rest.now (objective_word o) rest c.in_ok-word.ensures.some.0 c.in_ok-word.ensures.some.1 (objective_free c.args.byte o c.requires)
    (behind_word (codes "objective ") c.args.text.now c.in_ok-rest.rest.now _ c.in_ok-rest.ensures.some e)).front)
