-- What is reported of a reply.
use Rattle.std.specs.Prelude.{◌≡◌, ⊤, ℕ, List, ◌++◌}
use Rattle.std.specs.List.{All}
use Rattle.merlin_base.specs.declared.status.Status.{Status}
use Rattle.config_text.specs.Lines.{config_lines, IsConfigOver}
use Rattle.result_heads.specs.Heads.{certificate_lines}
use Rattle.openflow_wire.specs.Rules.{IsRule}
use Rattle.merlin.specs.declared.report.ReportBody.{ReportBody}
use Rattle.merlin.specs.declared.report.ReportBody.TheVariants.{Lines, Certified, Configured, Configuration, Messages}
use Rattle.merlin.specs.declared.report.Report.{Report}
use Rattle.merlin.specs.Wire.{rules_at, message_lines}

-- all lines of what is written
abbrev pub body_lines : ReportBody → List (List ℕ)
body_lines (Lines lines) = lines.items
body_lines (Certified head tree) = head.items ++ certificate_lines tree
body_lines (Configured head net config tree) =
    head.items ++ config_lines net config ++ certificate_lines tree
body_lines (Configuration net config) = config_lines net config
body_lines (Messages switch rules) = message_lines 1 (rules_at switch rules)

-- each line can be made
abbrev pub CanBeMade : ReportBody → Type 0
CanBeMade (Lines lines) = ⊤
CanBeMade (Certified head tree) = ⊤
CanBeMade (Configured head net config tree) = IsConfigOver net config
CanBeMade (Configuration net config) = IsConfigOver net config
CanBeMade (Messages switch rules) = All IsRule rules

-- these are the lines, and each can be made
pub record IsWrittenAs (body : ReportBody) (lines : List (List ℕ)) : Type 0 where
  pub are : body_lines body ≡ lines
  pub writable : CanBeMade body

-- the report has the lines and the status of a reply of which this is true
pub record IsReportWith {R : Type 0} (IsTrueOf : R → Type 0) (lines_of : R → List (List ℕ))
    (status_of : R → Status) (report : Report) : Type 0 where
  pub reply : R
  pub is_true : IsTrueOf reply
  pub lines : IsWrittenAs report.body (lines_of reply)
  pub status : report.status ≡ status_of reply
