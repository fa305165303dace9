use Rattle.std.proofs.Common.{◌≡◌, ◌++◌, ◌∙◌, ◌^◌, to_z, of_z, w64, refl, sym, subst, arith}
use Rattle.std.proofs.lemmas.Int.{ints}
use Rattle.integer_program.proofs.Bounds.{within}
use Rattle.merlin_model.specs.Programs.{Row}
use Rattle.certificate_text.specs.ProgramTexts.{row_line, IsRowLine}
use Rattle.certificate_text.proofs.RowLines.{row_as, no_newline, row_text_is}
use Rattle.certificate_text.proofs.program.read_row.Goals as goal

pub returns-in_default-split_at_byte-clause-none : goal.returns-in_default-split_at_byte-clause-none
returns-in_default-split_at_byte-clause-none c = λ row rest is e. no_newline c.args.text.now c.in-Some.words.now c.in-Some.is_equality row rest c.in-Some.ensures.some c.in_default-split_at_byte.ensures.none e

pub returns-in_default-read_whole-clause-none : goal.returns-in_default-read_whole-clause-none
returns-in_default-read_whole-clause-none c = λ row rest is e.
    let same = row_as c.args.count c.args.text.now c.in-Some.words.now c.in-Some-split_at_byte.line.now c.in-Some-split_at_byte.rest.now c.cut_before.result.0.now c.cut_before.result.1.now c.in-Some.is_equality row rest c.requires is c.in-Some.ensures.some c.in-Some-split_at_byte.ensures.some.0 c.in-Some-split_at_byte.ensures.some.1
    c.cut_before.ensures.whole c.cut_before.ensures.lacks c.cut_before.ensures.begins e in
    c.in_default-read_whole.ensures.none row.right is.right same.right

pub returns-in-None-clause-none : goal.returns-in-None-clause-none
returns-in-None-clause-none c = λ row rest is e.
    let same = row_as c.args.count c.args.text.now c.in-Some.words.now c.in-Some-split_at_byte.line.now c.in-Some-split_at_byte.rest.now c.cut_before.result.0.now c.cut_before.result.1.now c.in-Some.is_equality row rest c.requires is c.in-Some.ensures.some c.in-Some-split_at_byte.ensures.some.0 c.in-Some-split_at_byte.ensures.some.1
    c.cut_before.ensures.whole c.cut_before.ensures.lacks c.cut_before.ensures.begins e in
    (rw c.in-None.is at c.in_ok-entries.ensures.none) row.entries is.entries same.entries

pub returns-in-Some-2 : goal.returns-in-Some-2
returns-in-Some-2 c =
    let read = c.in-Some-read_whole.ensures.some in
    let size = read.1 in
    let w = within (2 ^ 45) c.in-Some-read_whole.right (omega arith) in
    let low = w.low in let high = w.high in
    let same : to_z w64 (of_z w64 c.in-Some-read_whole.right) ≡ c.in-Some-read_whole.right = omega (arith, ints) in
    let entries = rw c.in-Some-2.is at c.in_ok-entries.ensures.some in
    let row : Row = record { entries = c.in-Some-2.entries; is_equality = c.in-Some.is_equality; right = c.in-Some-read_whole.right } in
    let is : row ≡ c.new.result = (λ i. record { entries = c.in-Some-2.entries; is_equality = c.in-Some.is_equality; right = sym same i }) ∙ sym c.new.ensures in
    subst (λ r. record { some : (c.args.text.now ≡ row_line r ++ c.in-Some-split_at_byte.rest.now) × IsRowLine c.args.count r; none : Unit {0} }) is
    (record { some = (row_text_is c.args.text.now c.in-Some.words.now c.in-Some-split_at_byte.line.now c.in-Some-split_at_byte.rest.now c.cut_before.result.0.now c.cut_before.result.1.now c.in-Some.is_equality row c.in-Some.ensures.some c.in-Some-split_at_byte.ensures.some.0 c.cut_before.ensures.whole refl read.0 entries.0, record { entries = entries.1; right = read.1 }); none = tt })
