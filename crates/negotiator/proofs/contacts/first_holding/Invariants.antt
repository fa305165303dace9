use Rattle.std.proofs.Common.{◌≡◌, ◌+◌, drop}
use Rattle.negotiator.specs.Contacts.{first_holding}
use Rattle.negotiator.proofs.contacts.first_holding.Given as goal

abbrev pub invariant-loop-place : goal.invariant-loop-place
invariant-loop-place l = first_holding l.preds l.packet ≡ l.place + first_holding (drop l.place l.preds) l.packet
