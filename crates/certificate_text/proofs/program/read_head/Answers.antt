use Rattle.certificate_text.proofs.RowLines.{no_program, bad_count, no_count, no_number_there, too_many_variables}
use Rattle.certificate_text.proofs.program.read_head.Goals as goal

pub returns-in_default-clause-err : goal.returns-in_default-clause-err
returns-in_default-clause-err c = no_program c.args.text.now c.in_default.ensures.none

pub returns-in_default-strip_front-clause-err : goal.returns-in_default-strip_front-clause-err
returns-in_default-strip_front-clause-err c = bad_count c.args.text.now c.in-Some.rest.now c.in-Some.ensures.some (no_count c.in-Some.rest.now c.in_default-strip_front.ensures.none)

pub returns-then-count-gt-MAX_VARIABLES-clause-err : goal.returns-then-count-gt-MAX_VARIABLES-clause-err
returns-then-count-gt-MAX_VARIABLES-clause-err c =
    bad_count c.args.text.now c.in-Some.rest.now c.in-Some.ensures.some
    (too_many_variables c.in-Some.rest.now c.in-Some-strip_front.number.now c.in-Some-number_line.rows.now c.in-Some-number_line.count c.in-Some-strip_front.ensures.some c.in-Some-number_line.ensures.some.0 c.in-Some-number_line.ensures.some.1 c.if-count-gt-MAX_VARIABLES.true)

pub returns-in-None-clause-err : goal.returns-in-None-clause-err
returns-in-None-clause-err c =
    bad_count c.args.text.now c.in-Some.rest.now c.in-Some.ensures.some (no_number_there c.in-Some.rest.now c.in-Some-strip_front.number.now c.in-Some-strip_front.ensures.some c.in-None.ensures.none)
