use Rattle.config_text.proofs.Separators.{written_then}
use Rattle.config_text.proofs.fields.match_word.Goals as goal

pub returns : goal.returns
returns c =
    let two = written_then c.in_ok-separator.ensures c.in_ok-separator-2.ensures in
    let three = written_then two c.in_ok-separator-3.ensures in
    let four = written_then three c.in_ok-separator-4.ensures in
    let five = written_then four c.in_ok-separator-5.ensures in
    let six = written_then five c.in_ok-separator-6.ensures in
    let seven = written_then six c.in_ok-separator-7.ensures in
    let eight = written_then seven c.in_ok-separator-8.ensures in
    let nine = written_then eight c.in_ok-separator-9.ensures in
    c.end_list.ensures _ _ (written_then nine c.in_ok-separator-10.ensures)
