use Rattle.std.proofs.Common.{ℕ, ◌≡◌, ◌++◌, ◌==◌, Bool, List, [], true, false, length, replicate, sym, ◌∙◌, ap, subst, arith}
use Rattle.std.specs.List.{AllByRecursion}
use Rattle.std.proofs.lemmas.List.{length-replicate}
use Rattle.integer_program.specs.Plain.{plain_program}
use Rattle.certificate_text.specs.ProgramTexts.{head_text, IsRowLine}
use Rattle.certificate_text.specs.Outcomes.{IsLineFault}
use Rattle.certificate_text.specs.declared.fault.LineFault.TheVariants.{Wrong}
use Rattle.certificate_text.proofs.NodeReads.{err_to}
use Rattle.certificate_text.proofs.WholePrograms.{IsWrongWhole, rows_text, bad_head, wrong_rows, extra, is_row}
use Rattle.certificate_text.proofs.program.read_whole_program.Goals as goal

pub rows-init : goal.rows-init
rows-init c =
    let none = ap (λ p. p.rows) c.new-program.ensures in
    let count : c.new-program.result.variables ≡ c.in_ok-count.count = sym (length-replicate c.new-program.result.variables true) ∙ ap (λ p. length p.upper) c.new-program.ensures ∙ length-replicate c.in_ok-count.count true in
    record {
      text = c.in_ok-count.ensures.ok.0 ∙ ap (λ rows. head_text c.in_ok-count.count ++ (rows_text rows ++ c.in_ok-count.rest.now)) (sym none);
      upper = count;
      few = c.in_ok-count.ensures.ok.1;
      each = subst (AllByRecursion (IsRowLine c.in_ok-count.count)) (sym none) tt;
    }

pub returns-in_err-count-clause-err : goal.returns-in_err-count-clause-err
returns-in_err-count-clause-err c =
    err_to (IsLineFault (IsWrongWhole c.args.text.now)) c.from_residual.result (Wrong c.in_err-count.field-0.0) c.from_residual.ensures.1 (bad_head c.args.text.now (Wrong c.in_err-count.field-0.0) c.in_err-count.ensures.err)

true-false : true ≡ false → ⊥
true-false e = cc

some : (rest : List ℕ) (b : Bool) → b ≡ (length rest == 0) → b ≡ false → rest ≡ [] → ⊥
some rest b e f g = true-false (sym (ap (λ (xs : List ℕ). length xs == 0) g) ∙ sym e ∙ f)

pub returns-in-Some-clause-err : goal.returns-in-Some-clause-err
returns-in-Some-clause-err c =
    extra c.args.text.now c.rows.rest.now c.in-Some.more.now c.in_ok-count.count (plain_program c.rows.program.variables c.rows.program.rows) (ap (λ n. replicate n true) c.rows.invariant.upper) c.rows.invariant.text c.in-Some.ensures.some
    c.rows.invariant.few c.rows.program.form.few_rows c.rows.invariant.each (some c.in-Some.more.now c.is_empty.result c.is_empty.ensures c.if-is_empty.false)

pub returns-then-rows-eq-MAX_ROWS-clause-err : goal.returns-then-rows-eq-MAX_ROWS-clause-err
returns-then-rows-eq-MAX_ROWS-clause-err c =
    wrong_rows c.args.text.now c.rows.rest.now c.in_ok-count.count c.rows.program.rows c.rows.invariant.text c.rows.invariant.few c.rows.program.form.few_rows c.rows.invariant.each c.in_default.ensures.none
    (λ few row more is e. let n = c.rows-in-rows.ensures in let full = c.if-rows-eq-MAX_ROWS.true in omega arith)

pub returns-in_default-2-clause-err : goal.returns-in_default-2-clause-err
returns-in_default-2-clause-err c =
    wrong_rows c.args.text.now c.rows.rest.now c.in_ok-count.count c.rows.program.rows c.rows.invariant.text c.rows.invariant.few c.rows.program.form.few_rows c.rows.invariant.each c.in_default.ensures.none
    (λ few. rw c.in_default-2.is at c.in_ok-row.ensures.none)

pub push-requires-clause-row : goal.push-requires-clause-row
push-requires-clause-row c =
    is_row c.in_ok-count.count (plain_program c.rows.program.variables c.rows.program.rows) c.in-Some-2.row (ap (λ n. replicate n true) c.rows.invariant.upper) (rw c.in-Some-2.is at c.in_ok-row.ensures.some).1
