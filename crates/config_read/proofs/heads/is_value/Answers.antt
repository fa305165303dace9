use Rattle.config_read.proofs.HeadTexts.{with_slash, without_slash}
use Rattle.config_read.proofs.heads.is_value.Goals as goal

pub returns-then-is_short-clause-no : goal.returns-then-is_short-clause-no
returns-then-is_short-clause-no c = λ e is.
    let parts = (with_slash c.args.word.now c.in-Some.load.now c.in-Some.capacity.now c.in-Some.ensures.some.0 c.in-Some.ensures.some.1 is).1 in
    c.is_short-then-is_short.ensures.no e parts.0 parts.1 parts.2

pub returns-else-is_short-clause-no : goal.returns-else-is_short-clause-no
returns-else-is_short-clause-no c = λ e is.
    let parts = (with_slash c.args.word.now c.in-Some.load.now c.in-Some.capacity.now c.in-Some.ensures.some.0 c.in-Some.ensures.some.1 is).0 in
    c.is_short.ensures.no e parts.0 parts.1 parts.2

pub returns-in-None-clause-no : goal.returns-in-None-clause-no
returns-in-None-clause-no c = λ e is.
    let parts = without_slash c.args.word.now c.in-None.ensures.none is in
    c.is_short-in-None.ensures.no e parts.0 parts.1 parts.2
