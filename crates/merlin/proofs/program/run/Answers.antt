use Rattle.merlin.proofs.Outcomes.{IsOutcome-from_result, SaysByStatus-from_outcome}
use Rattle.merlin.proofs.Runs.{KeepsPromises-from_outcome}
use Rattle.std.proofs.lemmas.Result.{IfOk-weaker}
use Rattle.merlin.proofs.program.run.Goals as goal

pub hand_over-requires : goal.hand_over-requires
hand_over-requires g c = IfOk-weaker c.report_to-report.result _ _ (λ report to. to.is_report.lines.writable) c.report_to-report.ensures

pub returns-clause-outcome : goal.returns-clause-outcome
returns-clause-outcome g c = IsOutcome-from_result _ _ _ _ c.report_to-report.result c.report_to-report.ensures c.hand_over.ensures

pub returns-clause-says : goal.returns-clause-says
returns-clause-says g c = SaysByStatus-from_outcome _ _ _ _ (IsOutcome-from_result _ _ _ _ c.report_to-report.result c.report_to-report.ensures c.hand_over.ensures)

pub returns-clause-promises : goal.returns-clause-promises
returns-clause-promises g c = KeepsPromises-from_outcome _ _ _ _ (SaysByStatus-from_outcome _ _ _ _ (IsOutcome-from_result _ _ _ _ c.report_to-report.result c.report_to-report.ensures c.hand_over.ensures))
