use Rattle.std.proofs.Common.{length, true, refl, sym, ◌∙◌, ap, subst}
use Rattle.config_read.specs.Heads.{IsWrittenValue, least_then}
use Rattle.config_read.proofs.Wholes.{no_least}
use Rattle.config_read.proofs.Ends.{wrong_behind, least_ends_wrong, least_read}
use Rattle.config_read.proofs.reader.read_least.Goals as goal

pub returns-in_default-clause-err : goal.returns-in_default-clause-err
returns-in_default-clause-err c =
    (wrong_behind c.args.net.now c.args.bytes.now c.args.text.now c.args.version true (length c.args.text.now) c.requires.text (no_least c.args.net.now c.args.version c.args.text.now c.requires.version c.in_default.ensures.none)).1

pub overflow_sub-result-in-Err-end_with_tree : goal.overflow_sub-result-in-Err-end_with_tree
overflow_sub-result-in-Err-end_with_tree c =
    (least_ends_wrong c.args.net.now c.args.bytes.now c.args.text.now c.in-Some.rest.now c.in-Ok.tree.now c.args.version c.in-Some.objective c.in-Some.word.now c.read_body.new.body c.in-Err-end_with_tree.left c.requires.version c.requires.text
    c.in-Some.ensures.some.0 c.in-Some.ensures.some.1 c.in-Ok.ensures c.in-Err-end_with_tree.ensures.err).0

pub returns-in-Err-end_with_tree-clause-err : goal.returns-in-Err-end_with_tree-clause-err
returns-in-Err-end_with_tree-clause-err c =
    (least_ends_wrong c.args.net.now c.args.bytes.now c.args.text.now c.in-Some.rest.now c.in-Ok.tree.now c.args.version c.in-Some.objective c.in-Some.word.now c.read_body.new.body c.in-Err-end_with_tree.left c.requires.version c.requires.text
    c.in-Some.ensures.some.0 c.in-Some.ensures.some.1 c.in-Ok.ensures c.in-Err-end_with_tree.ensures.err).1

pub returns-in-Ok-end_with_tree-clause-ok : goal.returns-in-Ok-end_with_tree-clause-ok
returns-in-Ok-end_with_tree-clause-ok c =
    least_read c.args.net.now c.args.bytes.now c.args.text.now c.in-Some.rest.now c.in-Ok.tree.now c.args.version c.in-Some.objective c.in_ok-value.value c.read_body.new.body _ c.requires.version c.requires.text
    (c.in-Some.ensures.some.0 ∙ ap (λ word. least_then c.in-Some.objective word c.in-Some.rest.now) (sym c.in_ok-value.ensures)) (subst IsWrittenValue (sym c.in_ok-value.ensures) c.in-Some.ensures.some.1) c.in-Ok.ensures c.in-Ok-end_with_tree.ensures.ok refl
