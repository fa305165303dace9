use Rattle.std.proofs.Common.{rules, arith, ◌<◌, sym, subst, true}
use Rattle.bound_search.proofs.BoxLaws.{fix_keeps}
use Rattle.bound_search.proofs.Trees.{second_half, fewer, whole-split}
use Rattle.std.specs.Option.{option_copied}
use Rattle.bound_search.specs.Boxes.{AreBoxes}
use Rattle.bound_search.proofs.grow.+grow.Goals as goal

pub grow-requires-in-Undecided : goal.grow-requires-in-Undecided
grow-requires-in-Undecided g t c κs within =
    let whole = rw c.in-Whole.is at c.in_ok-tree-in-Undecided.ensures.grown in
    let left : c.grow.new.left < t = let f = fewer _ _ _ _ _ _ _ _ whole in let r = c.if-left-lt2.false in omega arith in
    let boxes : AreBoxes (g.P.Program.instance c.args.program.now (option_copied c.args.cutoff)) c.fix_both-in-Undecided.new.boxes =
    subst (AreBoxes _) (sym (second_half _ _ _ c.args.boxes.now _ _ _ c.choose-variable.result _ _ _ c.fix_both.ensures whole c.fix_both-in-Undecided.ensures))
    (fix_keeps _ c.args.boxes.now c.choose-variable.result true c.requires.boxes c.choose-variable.ensures.is_open) in
    (left, (search rules, (search rules, (search rules, (search rules, (c.in_ok-tree-in-Undecided.ensures.of, (c.requires.takes, (c.requires.callable, (c.requires.chooses, boxes)))))))))

pub returns-in_ok-split-in-Undecided-clause-grown : goal.returns-in_ok-split-in-Undecided-clause-grown
returns-in_ok-split-in-Undecided-clause-grown g t c =
    let undecided = rw c.in-Undecided.is at c.in_ok-weights.ensures.lawful in
    let low = rw c.in-Whole.is at c.in_ok-tree-in-Undecided.ensures.grown in
    let high = rw c.in-Whole-2.is at c.in_ok-tree-in-Undecided-2.ensures.grown in
    whole-split _ _ _ c.args.boxes.now _ _ _ _ _ c.choose-variable.result c.args.left.now _ _ _ _ _
    c.requires.boxes c.choose-variable.ensures.is_open undecided.1 c.choose-variable.ensures.chosen c.if-left-lt2.false
    c.fix_both.ensures low c.fix_both-in-Undecided.ensures high c.fix_both-in-Undecided-2.ensures c.in_ok-split-in-Undecided.ensures
