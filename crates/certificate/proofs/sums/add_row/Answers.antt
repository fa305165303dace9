use Rattle.std.proofs.Common.{◌≡◌, ◌<◌, ◌≤◌, ◌+◌, ◌^◌, ℕ, ℤ, pos, ◌+ℤ◌, ◌*ℤ◌, nat_abs, get_or, refl, ap, sym, ◌∙◌, subst, to_z, of_z, w64, arith}
use Rattle.std.proofs.lemmas.Int.{ints}
use Rattle.std.specs.Option.{option_copied}
use Rattle.merlin_model.specs.Programs.{variables, row_at}
use Rattle.merlin_model.specs.Trees.{coefficient_in}
use Rattle.certificate.specs.Adding.{sum_at}
use Rattle.certificate.proofs.Places.{added-at}
use Rattle.integer_program.specs.Bounds.{IsBounded}
use Rattle.integer_program.proofs.Bounds.{all_at}
use Rattle.certificate.proofs.AtCutoffs.{is-at, are-entries}
use Rattle.certificate.proofs.RowSteps.{is-product, row_none, row_more, row_small, small-more, row_whole}
use Rattle.certificate.proofs.sums.add_row.Goals as goal

pub loop-variable-init : goal.loop-variable-init
loop-variable-init g c =
    let at = is-at _ _ _ _ _ (option_copied c.args.cutoff) (g.met.P.Program.cutoffs c.args.program.now) (g.met.P.Program.is_program c.args.program.now) c.requires.takes in
    row_none _ _ _ _ c.args.sums.now (c.requires.sums ∙ sym at.variables_same) c.requires.least

pub upper-may_be_one-requires-clause-in_range : goal.upper-may_be_one-requires-clause-in_range
upper-may_be_one-requires-clause-in_range g c =
    let at = is-at _ _ _ _ _ (option_copied c.args.cutoff) (g.met.P.Program.cutoffs c.args.program.now) (g.met.P.Program.is_program c.args.program.now) c.requires.takes in
    let entries = are-entries _ _ c.args.row _ at c.requires.in_range c.entries-variable-items.ensures in
    let h = all_at (λ (e : ℕ × ℤ). e.0 < variables (g.P.Program.instance c.args.program.now (option_copied c.args.cutoff))) c.entries-variable-items.result.now c.loop-variable.variable-index (0, pos 0) entries.exist c.loop-variable-test.true in
    let same = at.variables_same in omega arith

pub get-requires : goal.get-requires
get-requires g c =
    let at = is-at _ _ _ _ _ (option_copied c.args.cutoff) (g.met.P.Program.cutoffs c.args.program.now) (g.met.P.Program.is_program c.args.program.now) c.requires.takes in
    let entries = are-entries _ _ c.args.row _ at c.requires.in_range c.entries-variable-items.ensures in
    let h = all_at (λ (e : ℕ × ℤ). e.0 < variables (g.P.Program.instance c.args.program.now (option_copied c.args.cutoff))) c.entries-variable-items.result.now c.loop-variable.variable-index (0, pos 0) entries.exist c.loop-variable-test.true in
    let same = at.variables_same in let size = c.requires.size in omega arith

pub add_entry-requires-clause-in_range : goal.add_entry-requires-clause-in_range
add_entry-requires-clause-in_range g c =
    let at = is-at _ _ _ _ _ (option_copied c.args.cutoff) (g.met.P.Program.cutoffs c.args.program.now) (g.met.P.Program.is_program c.args.program.now) c.requires.takes in
    let entries = are-entries _ _ c.args.row _ at c.requires.in_range c.entries-variable-items.ensures in
    let h = all_at (λ (e : ℕ × ℤ). e.0 < variables (g.P.Program.instance c.args.program.now (option_copied c.args.cutoff))) c.entries-variable-items.result.now c.loop-variable.variable-index (0, pos 0) entries.exist c.loop-variable-test.true in
    let size = c.loop-variable.invariant.size in omega arith

pub add_entry-requires-clause-small : goal.add_entry-requires-clause-small
add_entry-requires-clause-small g c =
    let at = is-at _ _ _ _ _ (option_copied c.args.cutoff) (g.met.P.Program.cutoffs c.args.program.now) (g.met.P.Program.is_program c.args.program.now) c.requires.takes in
    let entries = are-entries _ _ c.args.row _ at c.requires.in_range c.entries-variable-items.ensures in
    let few = entries.few in let h = c.loop-variable-test.true in
    small-more (2 ^ 124 + 2 ^ 105) (2 ^ 125) c.loop-variable.sums (omega arith) (row_small _ _ _ _ _ _ c.loop-variable.variable-index (2 ^ 124) c.loop-variable.invariant (omega arith) c.requires.small)

pub add_entry-requires-clause-amount : goal.add_entry-requires-clause-amount
add_entry-requires-clause-amount g c =
    let at = is-at _ _ _ _ _ (option_copied c.args.cutoff) (g.met.P.Program.cutoffs c.args.program.now) (g.met.P.Program.is_program c.args.program.now) c.requires.takes in
    let entries = are-entries _ _ c.args.row _ at c.requires.in_range c.entries-variable-items.ensures in
    let weight : c.from.result ≡ c.args.weight = let e = c.from.ensures in omega (arith, ints) in
    let product = is-product c.args.weight (get_or c.entries-variable-items.result.now c.loop-variable.variable-index (0, pos 0)).1 c.from.result c.from-in-loop-variable.result _ c.requires.weight
    (all_at (λ (e : ℕ × ℤ). nat_abs e.1 ≤ 10 ^ 9) c.entries-variable-items.result.now c.loop-variable.variable-index (0, pos 0) entries.small c.loop-variable-test.true) weight c.from-in-loop-variable.ensures refl in
    product.small

pub loop-variable-preserved : goal.loop-variable-preserved
loop-variable-preserved g c =
    let items = c.entries-variable-items.result.now in
    let k = c.loop-variable.variable-index in
    let at = is-at _ _ _ _ _ (option_copied c.args.cutoff) (g.met.P.Program.cutoffs c.args.program.now) (g.met.P.Program.is_program c.args.program.now) c.requires.takes in
    let entries = are-entries _ _ c.args.row _ at c.requires.in_range c.entries-variable-items.ensures in
    let exists = all_at (λ (e : ℕ × ℤ). e.0 < variables (g.P.Program.instance c.args.program.now (option_copied c.args.cutoff))) items k (0, pos 0) entries.exist c.loop-variable-test.true in
    let weight : to_z w64 (of_z w64 c.args.weight) ≡ c.args.weight = omega (arith, ints) in
    let product = is-product (to_z w64 (of_z w64 c.args.weight)) (get_or items k (0, pos 0)).1 c.from.result c.from-in-loop-variable.result _ (subst (IsBounded (2 ^ 60)) (sym weight) c.requires.weight)
    (all_at (λ (e : ℕ × ℤ). nat_abs e.1 ≤ 10 ^ 9) items k (0, pos 0) entries.small c.loop-variable-test.true) c.from.ensures c.from-in-loop-variable.ensures refl in
    row_more _ _ items (to_z w64 (of_z w64 c.args.weight)) _ c.args.sums.now c.loop-variable.sums c.add_entry.new.sums k c.loop-variable-test.true c.loop-variable.invariant exists product.is product.small
    (added-at c.get.result _ c.upper-may_be_one.result _ _ _ c.loop-variable.sums c.add_entry.new.sums c.get.ensures c.upper-may_be_one.ensures (record { coefficient = c.add_entry.ensures.coefficient; least = c.add_entry.ensures.least }))

pub returns-clause-sums : goal.returns-clause-sums
returns-clause-sums g c =
    let at = is-at _ _ _ _ _ (option_copied c.args.cutoff) (g.met.P.Program.cutoffs c.args.program.now) (g.met.P.Program.is_program c.args.program.now) c.requires.takes in
    c.loop-variable.invariant.size ∙ at.variables_same

pub returns-clause-each : goal.returns-clause-each
returns-clause-each g c =
    let at = is-at _ _ _ _ _ (option_copied c.args.cutoff) (g.met.P.Program.cutoffs c.args.program.now) (g.met.P.Program.is_program c.args.program.now) c.requires.takes in
    let entries = are-entries _ _ c.args.row _ at c.requires.in_range c.entries-variable-items.ensures in
    let weight : to_z w64 (of_z w64 c.args.weight) ≡ c.args.weight = omega (arith, ints) in
    λ v. row_whole _ _ c.args.row _ _ c.args.sums.now c.loop-variable.sums c.loop-variable.variable-index c.loop-variable.invariant c.loop-variable-test.false entries.is v
    ∙ ap (λ w. sum_at c.args.sums.now v +ℤ (w *ℤ coefficient_in v (row_at (g.P.Program.instance c.args.program.now (option_copied c.args.cutoff)) c.args.row).entries)) weight

pub returns-clause-small : goal.returns-clause-small
returns-clause-small g c = λ bound small.
    let at = is-at _ _ _ _ _ (option_copied c.args.cutoff) (g.met.P.Program.cutoffs c.args.program.now) (g.met.P.Program.is_program c.args.program.now) c.requires.takes in
    let entries = are-entries _ _ c.args.row _ at c.requires.in_range c.entries-variable-items.ensures in
    let few = entries.few in let h = c.loop-variable.auto.variable-index-end in
    row_small _ _ _ _ _ _ c.loop-variable.variable-index bound c.loop-variable.invariant (omega arith) small
