use Rattle.std.proofs.Common.{◌≡◌, take, map}
use Rattle.policy_check.proofs.listing.listing_of.Given as goal

abbrev pub invariant-loop-statement : goal.invariant-loop-statement
invariant-loop-statement l = record {
  ids : l.listing.ids ≡ map (λ s. s.id) (take l.statement-index l.statement-items);
  preds : l.listing.preds ≡ map (λ s. s.pred) (take l.statement-index l.statement-items);
}
