use Rattle.std.proofs.Common.{◌≡◌, ◌≤◌, ◌++◌, length}
use Rattle.std.specs.List.{AllByRecursion}
use Rattle.certificate_text.specs.ProgramTexts.{head_text, IsRowLine}
use Rattle.certificate_text.proofs.WholePrograms.{rows_text}
use Rattle.certificate_text.proofs.program.read_whole_program.Given as goal

abbrev pub invariant-rows : goal.invariant-rows
invariant-rows l = record {
  text : l.text ≡ head_text l.count ++ (rows_text l.program.rows ++ l.rest);
  upper : l.program.variables ≡ l.count;
  few : l.count ≤ 32768;
  each : AllByRecursion (IsRowLine l.count) l.program.rows;
}

abbrev pub decreases-rows : goal.decreases-rows
decreases-rows l = length l.rest
