use Rattle.std.proofs.Common.{Err, ap}
use Rattle.merlin.proofs.Files.{IsUnread-one}
use Rattle.merlin.proofs.reading.read_one.Goals as goal

pub returns-in-Err-clause-err : goal.returns-in-Err-clause-err
returns-in-Err-clause-err g c =
    IsUnread-one _ _ _ _ _ _ _ c.why_unread.ensures (λ same. c.in-Err.ensures.outside (ap (λ f. Err f) same)) (λ same. c.in-Err.ensures.too_long (ap (λ f. Err f) same))
