-- The commands. A new one has a name, what it is, and its form here.
use Rattle.std.specs.Prelude.{ℕ, ⊤, List, codes}
use Rattle.merlin_base.specs.declared.status.Status.{Status}
use Rattle.merlin_model.specs.Functions.{Behaviour}
use Rattle.merlin.specs.declared.commands.Command.{Command}
use Rattle.merlin.specs.declared.commands.Command.TheVariants as commands
use Rattle.merlin.specs.declared.compile.CompileReply.{CompileReply}
use Rattle.merlin.specs.declared.refine.RefineReply.{RefineReply}
use Rattle.merlin.specs.declared.refute.RefuteReply.{RefuteReply}
use Rattle.merlin.specs.declared.fair.FairReply.{FairReply}
use Rattle.merlin.specs.declared.fairness.FairnessReply.{FairnessReply}
use Rattle.merlin.specs.declared.trace.TraceReply.{TraceReply}
use Rattle.merlin.specs.declared.wire.WireReply.{WireReply}
use Rattle.merlin.specs.declared.unwire.UnwireReply.{UnwireReply}
use Rattle.delegation_verdict.specs.declared.reply.DelegateReply.{DelegateReply}
use Rattle.delegation_verdict.specs.Lines.{delegate_status}
use Rattle.merlin.specs.Compile.{CompileForm, IsInBudget, IsCompileForm, compile_files, IsCompileReply, compile_lines, compile_status, compile_form}
use Rattle.merlin.specs.Refine.{RefineForm, IsRefineForm, refine_files, IsRefineReply, refine_lines, refine_status, refine_form}
use Rattle.merlin.specs.Refute.{RefuteForm, IsRefuteForm, refute_files, IsRefuteReply, refute_lines, refute_status, refute_form}
use Rattle.merlin.specs.Fair.{FairForm, IsFairForm, fair_files, IsFairReply, fair_lines, fair_status, fair_form}
use Rattle.merlin.specs.Fairness.{FairnessForm, IsFairnessForm, fairness_files, IsFairnessReply, fairness_lines, fairness_status, fairness_form}
use Rattle.merlin.specs.Trace.{TraceForm, IsTraceForm, trace_files, IsTraceReply, trace_lines, trace_status, trace_form}
use Rattle.merlin.specs.Wire.{WireForm, IsWireForm, wire_files, IsWireReply, wire_lines, wire_status, wire_form}
use Rattle.merlin.specs.Unwire.{UnwireForm, IsUnwireForm, unwire_files, IsUnwireReply, unwire_lines, unwire_status, unwire_form}
use Rattle.merlin.specs.Delegate.{DelegateForm, IsDelegateForm, delegate_files, NamesPolicies, IsDelegateReply, delegate_lines, delegate_form}
use Rattle.merlin.specs.Reading.{NamesNone}

pub data CommandName : Type 0 where
  Compiling : CommandName
  Refining : CommandName
  Refuting : CommandName
  Dividing : CommandName
  Judging : CommandName
  Tracing : CommandName
  Wiring : CommandName
  Unwiring : CommandName
  Delegating : CommandName

-- What a command is: the word that stands first, what its words may ask for, its files in the order
-- of the words, each with the most bytes that it may have, which further files the contents of these
-- name, in the same form, what may be replied, what a reply means of the contents of all files, first
-- those of the words and then the further ones, and the lines and the status of a reply.
pub record CommandMeaning : Type 1 where
  pub word : List ℕ
  pub Request : Type 0
  pub IsRequest : List (List ℕ) → Request → Type 0
  pub files : Request → List (List ℕ × ℕ)
  pub NamesFiles : Request → List (List ℕ) → List (List ℕ × ℕ) → Type 0
  pub ReplyTo : Type 0
  pub IsReply : Behaviour → Request → List (List ℕ) → ReplyTo → Type 0
  pub lines : ReplyTo → List (List ℕ)
  pub status : ReplyTo → Status

abbrev pub command_meaning : CommandName → CommandMeaning
command_meaning Compiling = record {
  word = codes "compile";
  Request = CompileForm;
  IsRequest = IsCompileForm;
  files = compile_files;
  NamesFiles = λ form. NamesNone;
  ReplyTo = CompileReply;
  IsReply = λ behaviour. IsCompileReply;
  lines = compile_lines;
  status = compile_status;
}
command_meaning Refining = record {
  word = codes "refine";
  Request = RefineForm;
  IsRequest = IsRefineForm;
  files = refine_files;
  NamesFiles = λ form. NamesNone;
  ReplyTo = RefineReply;
  IsReply = λ behaviour form. IsRefineReply;
  lines = refine_lines;
  status = refine_status;
}
command_meaning Refuting = record {
  word = codes "refute";
  Request = RefuteForm;
  IsRequest = IsRefuteForm;
  files = refute_files;
  NamesFiles = λ form. NamesNone;
  ReplyTo = RefuteReply;
  IsReply = λ behaviour form. IsRefuteReply;
  lines = refute_lines;
  status = refute_status;
}
command_meaning Dividing = record {
  word = codes "fair";
  Request = FairForm;
  IsRequest = IsFairForm;
  files = fair_files;
  NamesFiles = λ form. NamesNone;
  ReplyTo = FairReply;
  IsReply = λ behaviour form. IsFairReply;
  lines = fair_lines;
  status = fair_status;
}
command_meaning Judging = record {
  word = codes "fairness";
  Request = FairnessForm;
  IsRequest = IsFairnessForm;
  files = fairness_files;
  NamesFiles = λ form. NamesNone;
  ReplyTo = FairnessReply;
  IsReply = λ behaviour form. IsFairnessReply;
  lines = fairness_lines;
  status = fairness_status;
}
command_meaning Tracing = record {
  word = codes "trace";
  Request = TraceForm;
  IsRequest = IsTraceForm;
  files = trace_files;
  NamesFiles = λ form. NamesNone;
  ReplyTo = TraceReply;
  IsReply = IsTraceReply;
  lines = trace_lines;
  status = trace_status;
}
command_meaning Wiring = record {
  word = codes "wire";
  Request = WireForm;
  IsRequest = IsWireForm;
  files = wire_files;
  NamesFiles = λ form. NamesNone;
  ReplyTo = WireReply;
  IsReply = λ behaviour. IsWireReply;
  lines = wire_lines;
  status = wire_status;
}
command_meaning Unwiring = record {
  word = codes "unwire";
  Request = UnwireForm;
  IsRequest = IsUnwireForm;
  files = unwire_files;
  NamesFiles = λ form. NamesNone;
  ReplyTo = UnwireReply;
  IsReply = λ behaviour. IsUnwireReply;
  lines = unwire_lines;
  status = unwire_status;
}
command_meaning Delegating = record {
  word = codes "delegate";
  Request = DelegateForm;
  IsRequest = IsDelegateForm;
  files = delegate_files;
  NamesFiles = λ form. NamesPolicies;
  ReplyTo = DelegateReply;
  IsReply = λ behaviour form. IsDelegateReply;
  lines = delegate_lines;
  status = delegate_status;
}

-- a command, as its words ask for it
pub record Form : Type 0 where
  pub name : CommandName
  pub request : (command_meaning name).Request

abbrev pub form_of : Command → Form
form_of (commands.Compile words) = record { name = Compiling; request = compile_form words }
form_of (commands.Refine words) = record { name = Refining; request = refine_form words }
form_of (commands.Refute words) = record { name = Refuting; request = refute_form words }
form_of (commands.Fair words) = record { name = Dividing; request = fair_form words }
form_of (commands.Fairness words) = record { name = Judging; request = fairness_form words }
form_of (commands.Trace words) = record { name = Tracing; request = trace_form words }
form_of (commands.Wire words) = record { name = Wiring; request = wire_form words }
form_of (commands.Unwire words) = record { name = Unwiring; request = unwire_form words }
form_of (commands.Delegate words) = record { name = Delegating; request = delegate_form words }

-- the words ask for this
abbrev pub IsForm : List (List ℕ) → Form → Type 0
IsForm words form = (command_meaning form.name).IsRequest words form.request

-- what a search may be given, where the command has a budget
abbrev pub HasLawfulBudget : (name : CommandName) → (command_meaning name).Request → Type 0
HasLawfulBudget Compiling form = IsInBudget form.budget
HasLawfulBudget Refining form = ⊤
HasLawfulBudget Refuting form = ⊤
HasLawfulBudget Dividing form = ⊤
HasLawfulBudget Judging form = ⊤
HasLawfulBudget Tracing form = ⊤
HasLawfulBudget Wiring form = ⊤
HasLawfulBudget Unwiring form = ⊤
HasLawfulBudget Delegating form = ⊤

abbrev pub IsLawfulForm : Form → Type 0
IsLawfulForm form = HasLawfulBudget form.name form.request

-- the files that the words name
abbrev pub files_of : Form → List (List ℕ × ℕ)
files_of form = (command_meaning form.name).files form.request

-- the contents of these name further files
abbrev pub NamesFurther : Form → List (List ℕ) → List (List ℕ × ℕ) → Type 0
NamesFurther form contents more = (command_meaning form.name).NamesFiles form.request contents more

abbrev pub Reply : Form → Type 0
Reply form = (command_meaning form.name).ReplyTo

abbrev pub Means : Behaviour → (form : Form) → List (List ℕ) → Reply form → Type 0
Means behaviour form contents reply = (command_meaning form.name).IsReply behaviour form.request contents reply

abbrev pub reply_lines : (form : Form) → Reply form → List (List ℕ)
reply_lines form reply = (command_meaning form.name).lines reply

abbrev pub reply_status : (form : Form) → Reply form → Status
reply_status form reply = (command_meaning form.name).status reply
