use Rattle.std.proofs.Common.{◌≡◌, ℕ, List, length, ◌∙◌, ap, subst}
use Rattle.std.specs.declared.vec.Vec.{Vec}
use Rattle.std.specs.declared.alloc.Global.{Global}
use Rattle.merlin_base.specs.Outside.{KnownContents}
use Rattle.merlin.specs.declared.commands.Command.{Command}
use Rattle.merlin.specs.Reading.{texts_read}
use Rattle.merlin.specs.Commands.{form_of, files_of, IsLawfulForm}
use Rattle.merlin.specs.Contents.{AreContentsOf, NamesNothing}
use Rattle.merlin.proofs.Contents.{length_by_words, HasTextForEach-read}
use Rattle.merlin.proofs.commands.report_over.Goals as goal

-- what was read for a command
abbrev HasRead : Command → List (Vec ℕ Global) → Type 0
HasRead command contents = (known : KnownContents) × AreContentsOf known (form_of command) (texts_read contents)

-- a command that names no further files has as many as its words name
many : (contents : List (Vec ℕ Global)) {command known : Command} → NamesNothing (form_of known) → HasRead command contents → command ≡ known
    → length contents ≡ length (files_of (form_of known))
many contents {known = known} nothing read is =
    let here : HasRead known contents = subst (λ (x : Command). HasRead x contents) is read in
    length_by_words here.0 (form_of known) contents nothing here.1

pub compile_report-requires-clause-two : goal.compile_report-requires-clause-two
compile_report-requires-clause-two g c = many c.args.contents.now (λ first more names. names) c.requires.read c.in-Compile.is

-- a command keeps its budget
budget : {command known : Command} → IsLawfulForm (form_of command) → command ≡ known → IsLawfulForm (form_of known)
budget lawful is = subst (λ (x : Command). IsLawfulForm (form_of x)) is lawful

pub compile_report-requires-clause-budget : goal.compile_report-requires-clause-budget
compile_report-requires-clause-budget g c = budget c.requires.lawful c.in-Compile.is

pub returns-in-Compile : goal.returns-in-Compile
returns-in-Compile g c = rw c.in-Compile.is c.compile_report.ensures

pub refine_report-requires : goal.refine_report-requires
refine_report-requires g c = many c.args.contents.now (λ first more names. names) c.requires.read c.in-Refine.is

pub returns-in-Refine : goal.returns-in-Refine
returns-in-Refine g c = rw c.in-Refine.is c.refine_report.ensures

pub refute_report-requires : goal.refute_report-requires
refute_report-requires g c = many c.args.contents.now (λ first more names. names) c.requires.read c.in-Refute.is

pub returns-in-Refute : goal.returns-in-Refute
returns-in-Refute g c = rw c.in-Refute.is c.refute_report.ensures

pub fair_report-requires : goal.fair_report-requires
fair_report-requires g c = many c.args.contents.now (λ first more names. names) c.requires.read c.in-Fair.is

pub returns-in-Fair : goal.returns-in-Fair
returns-in-Fair g c = rw c.in-Fair.is c.fair_report.ensures

pub fairness_report-requires : goal.fairness_report-requires
fairness_report-requires g c = many c.args.contents.now (λ first more names. names) c.requires.read c.in-Fairness.is

pub returns-in-Fairness : goal.returns-in-Fairness
returns-in-Fairness g c = rw c.in-Fairness.is c.fairness_report.ensures

pub trace_report-requires-clause-read : goal.trace_report-requires-clause-read
trace_report-requires-clause-read g c = many c.args.contents.now (λ first more names. names) c.requires.read c.in-Trace.is

pub returns-in-Trace : goal.returns-in-Trace
returns-in-Trace g c = rw c.in-Trace.is c.trace_report.ensures

pub wire_report-requires : goal.wire_report-requires
wire_report-requires g c = many c.args.contents.now (λ first more names. names) c.requires.read c.in-Wire.is

pub returns-in-Wire : goal.returns-in-Wire
returns-in-Wire g c = rw c.in-Wire.is c.wire_report.ensures

pub unwire_report-requires : goal.unwire_report-requires
unwire_report-requires g c = many c.args.contents.now (λ first more names. names) c.requires.read c.in-Unwire.is

pub returns-in-Unwire : goal.returns-in-Unwire
returns-in-Unwire g c = rw c.in-Unwire.is c.unwire_report.ensures

pub delegate_report-requires : goal.delegate_report-requires
delegate_report-requires g c =
    let here = subst (λ (x : Command). HasRead x c.args.contents.now) c.in-Delegate.is c.requires.read in
    HasTextForEach-read here.0 _ (texts_read c.args.contents.now) here.1

pub returns-in-Delegate : goal.returns-in-Delegate
returns-in-Delegate g c = rw c.in-Delegate.is c.delegate_report.ensures
