use Rattle.std.proofs.Common.{◌≡◌, filter}
use Rattle.std.specs.List.{range_with_len}
use Rattle.merlin_model.specs.Networks.{kind_of}
use Rattle.rules_model.specs.Tables.{is_host_kind}
use Rattle.openflow_rules.proofs.spans.host_locations.Given as goal

abbrev pub invariant-loop-loc : goal.invariant-loop-loc
invariant-loop-loc l = l.hosts ≡ filter (λ h. is_host_kind (kind_of l.net h)) (range_with_len 0 l.loc)
