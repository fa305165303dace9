use Rattle.std.proofs.Common.{rules}
use Rattle.language_check.proofs.search.note.Goals as goal

pub returns-in_ok-push : goal.returns-in_ok-push
returns-in_ok-push c = search rules
