use Rattle.std.proofs.Common.{length}
use Rattle.config_lines.proofs.MatchReads.{IsReadTo}
use Rattle.config_lines.proofs.fields.read_match.Given as goal

abbrev pub invariant-fields : goal.invariant-fields
invariant-fields l = IsReadTo l.fn.word l.fits l.least l.rest

abbrev pub decreases-fields : goal.decreases-fields
decreases-fields l = length l.rest
