use Rattle.std.proofs.Common.{rules}
use Rattle.contract_edits.proofs.files.whole_file.Goals as goal

pub returns-in-Err-TooLong-clause-outside : goal.returns-in-Err-TooLong-clause-outside
returns-in-Err-TooLong-clause-outside c = search rules
