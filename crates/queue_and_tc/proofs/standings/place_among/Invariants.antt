use Rattle.std.proofs.Common.{◌≡◌, ◌+◌, drop, option_map}
use Rattle.configuration_model.specs.Hosts.{place_among}
use Rattle.queue_and_tc.proofs.standings.place_among.Given as goal

abbrev pub invariant-loop-place : goal.invariant-loop-place
invariant-loop-place l = place_among l.hosts l.host ≡ option_map (λ k. l.place + k) (place_among (drop l.place l.hosts) l.host)
