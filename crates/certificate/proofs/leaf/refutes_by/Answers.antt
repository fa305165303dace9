use Rattle.std.proofs.Common.{◌<◌, sym, ◌∙◌, subst, length, rules}
use Rattle.std.specs.List.{AllByRecursion}
use mir.Syntax.{w128}
use mir.Val.{SFits}
use Rattle.std.specs.Option.{option_copied}
use Rattle.certificate.proofs.AtCutoffs.{is-at}
use Rattle.certificate.proofs.Totals.{sum_none, sum_least}
use Rattle.certificate.proofs.Clearing.{only_of}
use Rattle.certificate.proofs.Leaves.{leaf_answer}
use Rattle.certificate.proofs.RightSides.{sum_fits}
use Rattle.certificate.proofs.WeightsAt.{few_weights}
use Rattle.certificate.proofs.leaf.refutes_by.Goals as goal

pub add_rows-requires-clause-none : goal.add_rows-requires-clause-none
add_rows-requires-clause-none g c =
    let at = is-at _ _ _ _ _ (option_copied c.args.cutoff) (g.met.P.Program.cutoffs c.args.program.now) (g.met.P.Program.is_program c.args.program.now) c.requires.takes in
    sum_none _ c.args.fixed.now c.args.sums.now _ c.requires.clear (sym at.variables_same)

pub clear_rows-requires-clause-exist : goal.clear_rows-requires-clause-exist
clear_rows-requires-clause-exist g c =
    let at = is-at _ _ _ _ _ (option_copied c.args.cutoff) (g.met.P.Program.cutoffs c.args.program.now) (g.met.P.Program.is_program c.args.program.now) c.requires.takes in
    subst (λ n. AllByRecursion (λ w. w.row < n) c.args.weights.now) at.rows_same (c.are_weights.ensures.0 c.if-not-are_weights.false).exist

pub clear_rows-requires-clause-only : goal.clear_rows-requires-clause-only
clear_rows-requires-clause-only g c =
    let at = is-at _ _ _ _ _ (option_copied c.args.cutoff) (g.met.P.Program.cutoffs c.args.program.now) (g.met.P.Program.is_program c.args.program.now) c.requires.takes in
    let exist = subst (λ n. AllByRecursion (λ w. w.row < n) c.args.weights.now) at.rows_same (c.are_weights.ensures.0 c.if-not-are_weights.false).exist in
    only_of _ _ c.args.fixed.now c.args.weights.now _ c.add_rows.new.sums at exist c.add_rows.ensures

pub returns-clause-clear : goal.returns-clause-clear
returns-clause-clear g c = c.clear_rows.ensures ∙ sym c.requires.clear

pub returns-clause-answer : goal.returns-clause-answer
returns-clause-answer g c =
    let at = is-at _ _ _ _ _ (option_copied c.args.cutoff) (g.met.P.Program.cutoffs c.args.program.now) (g.met.P.Program.is_program c.args.program.now) c.requires.takes in
    let are = c.are_weights.ensures.0 c.if-not-are_weights.false in
    let few = few_weights _ _ c.args.weights.now at are in
    let right : SFits w128 c.right_side.result = search rules in
    let least : SFits w128 c.add_rows.new.sums.least = sum_fits (length c.args.weights.now) _ few c.add_rows.ensures.small.least in
    leaf_answer _ c.args.fixed.now c.args.weights.now c.right_side.result c.add_rows.new.sums.least are c.right_side.ensures (sum_least _ _ _ _ _ c.add_rows.ensures) right least
