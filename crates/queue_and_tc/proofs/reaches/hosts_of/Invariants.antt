use Rattle.std.proofs.Common.{◌≡◌, map, filter}
use Rattle.std.specs.List.{range_with_len}
use Rattle.merlin_model.specs.Networks.{kind_of}
use Rattle.rules_model.specs.Tables.{is_host_kind}
use Rattle.queue_and_tc.specs.HostTexts.{host_in}
use Rattle.queue_and_tc.proofs.reaches.hosts_of.Given as goal

abbrev pub invariant-loop-loc : goal.invariant-loop-loc
invariant-loop-loc l = l.hosts.items ≡ map (host_in l.net) (filter (λ h. is_host_kind (kind_of l.net h)) (range_with_len 0 l.loc))
