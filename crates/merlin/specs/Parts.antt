-- What the parts of the program report, on the way to the whole outcome. Nothing is said of want of
-- memory.
use Rattle.std.specs.Prelude.{◌≡◌, ◌⊎◌, ℕ, ⊤, List, Result, Ok, Err, IfOk}
use Rattle.merlin_model.specs.Functions.{Behaviour}
use Rattle.merlin_base.specs.Texts.{joined}
use Rattle.merlin_base.specs.Outside.{Grows, GrowsByPrefix}
use Rattle.merlin_base.specs.declared.status.Status.{Status}
use Rattle.merlin_compile.specs.Written.{IsCompiledFromSome}
use Rattle.merlin.specs.declared.report.Report.{Report}
use Rattle.merlin.specs.declared.reading.Unread.{Unread}
use Rattle.merlin.specs.declared.reading.Unread.TheVariants as unread
use Rattle.merlin.specs.declared.compile.CompileReply.{CompileReply}
use Rattle.merlin.specs.declared.compile.CompileReply.TheVariants as reply
use Rattle.merlin.specs.Reports.{IsReportWith, IsWrittenAs, CanBeMade, body_lines}
use Rattle.merlin.specs.Commands.{Form, Means, reply_lines, reply_status}
use Rattle.merlin.specs.Outcome.{World, Taking, IsBrokenOff, LacksMemory, Answer, NotRead, TooLong, IsAnswerTo, answer_lines, answer_status}

-- what is reported of a reply to a form over these contents
abbrev pub IsReplyReport : Behaviour → Form → List (List ℕ) → Report → Type 0
IsReplyReport behaviour form contents =
    IsReportWith (Means behaviour form contents) (reply_lines form) (reply_status form)

-- the report has the lines and the status of an answer
pub record IsReportOf (answer : Answer) (report : Report) : Type 0 where
  pub lines : IsWrittenAs report.body (answer_lines answer)
  pub status : report.status ≡ answer_status answer

-- what is reported where files were not all read
abbrev pub Tells : Unread → Report → Type 0
Tells unread.Fault report = IsReportOf NotRead report
Tells (unread.TooLong name) report = IsReportOf (TooLong name) report
Tells unread.OutOfMemory report = ⊥

-- the report has the lines and the status of the answer to the words
pub record IsReportTo (world : World) (words : List (List ℕ)) (report : Report) : Type 0 where
  pub answer : Answer
  pub is_answer : IsAnswerTo world words answer
  pub is_report : IsReportOf answer report

-- what is replied is the result of some texts, so that it can be printed
abbrev pub IsPrintable : CompileReply → Type 0
IsPrintable (reply.Refused fault) = ⊤
IsPrintable (reply.Compiled compiled) = IsCompiledFromSome compiled

-- each line of the report can be made
abbrev pub CanBeWritten : {E : Type 0} → Result Report E → Type 0
CanBeWritten result = IfOk result (λ report. CanBeMade report.body)

-- The sink took the lines of the report, whose status it is, or a prefix of them.
abbrev pub EndsBy : Taking → Report → Status → Type 0
EndsBy sink report ended =
    ((ended ≡ report.status) × Grows sink.before sink.after (joined (body_lines report.body)))
    ⊎ (IsBrokenOff sink ended × GrowsByPrefix sink.before sink.after (joined (body_lines report.body)))

-- the same, or there was no memory for a report
abbrev pub EndsByResult : {E : Type 0} → Taking → Result Report E → Status → Type 0
EndsByResult sink (Ok report) ended = EndsBy sink report ended
EndsByResult sink (Err e) ended = LacksMemory sink ended
