use Rattle.merlin_text.proofs.Rest.{more_scanned, scan_stops, all_scanned, rest_is_all}
use Rattle.merlin_text.proofs.cursor.scan.Goals as goal

pub returns-in_default-clause-fault : goal.returns-in_default-clause-fault
returns-in_default-clause-fault c = c.fault_of.ensures.fault _ (scan_stops _ _ _ c.loop-at-test.true c.loop-at.invariant c.in_default.ensures.none)

pub loop-at-preserved : goal.loop-at-preserved
loop-at-preserved c = more_scanned _ _ _ _ _ _ c.loop-at.invariant c.in-Some.ensures.some c.count_of-left.ensures

pub invariant_of-result : goal.invariant_of-result
invariant_of-result c = let all = all_scanned _ _ _ c.loop-at-test.false c.loop-at.invariant in (all.0, (all.1, tt))

pub returns-clause-tokens : goal.returns-clause-tokens
returns-clause-tokens c = rest_is_all _ _ _ _ (assumption) c.loop-at-test.false c.loop-at.invariant
