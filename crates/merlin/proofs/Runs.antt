-- What the runs of each command leave.
use Rattle.std.proofs.Common.{◌≡◌, ℕ, List, [], ◌∷◌, refl, sym, ◌∙◌, ap, subst}
use Rattle.merlin_base.specs.Texts.{joined}
use Rattle.merlin_base.specs.Outside.{Grows}
use Rattle.merlin_base.specs.declared.status.Status.{Status}
use Rattle.merlin_base.specs.declared.status.Status.TheVariants as status
use Rattle.merlin_compile.specs.declared.outcome.Compiled.{Compiled}
use Rattle.merlin_compile.specs.declared.outcome.Compiled.TheVariants as results
use Rattle.merlin_compile.specs.Compiled.{IsCompiledFrom}
use Rattle.merlin_compile.specs.Written.{compiled_lines}
use Rattle.merlin.specs.declared.compile.CompileReply.{CompileReply}
use Rattle.merlin.specs.declared.compile.CompileReply.TheVariants as compile
use Rattle.merlin.specs.declared.refute.RefuteReply.{RefuteReply}
use Rattle.merlin.specs.declared.refute.RefuteReply.TheVariants.{BadProgram, BadTree, Refuted, NotRefuted}
use Rattle.merlin.specs.Reading.{AreContents}
use Rattle.merlin.specs.Compile.{CompileForm, compile_files, compile_lines, compiled_status, compile_status, IsCompileReply}
use Rattle.merlin.specs.Refute.{RefuteForm, refute_files, refute_lines, refute_status, IsRefuted, IsNotRefuted, IsRefuteReply}
use Rattle.merlin.specs.declared.fair.FairReply.{FairReply}
use Rattle.merlin.specs.declared.fair.FairReply.TheVariants as fair
use Rattle.merlin.specs.declared.fairness.FairnessReply.{FairnessReply}
use Rattle.merlin.specs.declared.fairness.FairnessReply.TheVariants as fairness
use Rattle.merlin.specs.declared.fairness.FairnessReply.TheVariants.{BadShares, Sound, Unsound}
use Rattle.merlin.specs.Fair.{FairForm, fair_files, fair_lines, fair_status, IsDivided, IsFairReply}
use Rattle.merlin.specs.Fairness.{FairnessForm, fairness_files, fairness_lines, fairness_status, HasSoundShares, HasUnsoundShares, IsFairnessReply}
use Rattle.merlin.specs.Refine.{RefineForm}
use Rattle.merlin.specs.Refinings.{HasRefined, HasFoundWider}
use Rattle.merlin.proofs.Refining.{refined_by, wider_by}
use Rattle.merlin.specs.Delegate.{DelegateForm}
use Rattle.merlin.specs.Delegations.{HasDelegated, HasFoundWiderNode}
use Rattle.merlin.proofs.Delegating.{accepted_by, wider_node_by}
use Rattle.merlin.specs.Contents.{AreContentsOf, NamesNothing}
use Rattle.merlin.proofs.Contents.{AreContents-by_words}
use Rattle.merlin.specs.Commands.{CommandName, Compiling, Refining, Refuting, Dividing, Judging, command_meaning, Form, Reply, IsForm, files_of, Means, reply_lines, reply_status, Tracing, Wiring, Unwiring, Delegating}
use Rattle.merlin_model.specs.Functions.{Behaviour}
use Rattle.merlin.specs.declared.trace.TraceReply.{TraceReply}
use Rattle.merlin.specs.declared.trace.TraceReply.TheVariants as trace
use Rattle.merlin.specs.declared.wire.WireReply.{WireReply}
use Rattle.merlin.specs.declared.wire.WireReply.TheVariants as wire
use Rattle.merlin.specs.declared.unwire.UnwireReply.{UnwireReply}
use Rattle.merlin.specs.declared.unwire.UnwireReply.TheVariants as unwire
use Rattle.merlin.specs.Wire.{WireForm, wire_files, wire_lines, wire_status, rules_at, message_lines, HasMessages, IsWireReply}
use Rattle.config_text.specs.Lines.{config_lines}
use Rattle.merlin.proofs.Unwiring.{has_rules}
use Rattle.merlin.specs.Unwire.{UnwireForm, unwire_files, unwire_lines, unwire_status, HasSwitch, HasRules, IsUnwireReply}
use Rattle.merlin.specs.Trace.{TraceForm, trace_files, trace_lines, trace_status, HasEnded, HasNoEnd, IsTraceReply}
use Rattle.merlin.specs.Outcome.{World, Taking, IsReplied, IsOfRepliesAlone, SaysByStatus}
use Rattle.merlin.specs.Runs.{HasCompiled, HasNoAssignment, HasSpentBudget, HasChecked, HasRefuted, HasFoundFailure, HasDivided, HasFoundSound, HasFoundUnsound, HasTraced, HasFoundNoEnd, HasWritten, HasWired, HasUnwired, KeepsPromises}
use Rattle.merlin.proofs.Unique.{IsForm-same}

done_refused : {A : Type 0} → status.Done ≡ status.Refused → A
done_refused e = cc

done_infeasible : {A : Type 0} → status.Done ≡ status.Infeasible → A
done_infeasible e = cc

done_spent : {A : Type 0} → status.Done ≡ status.Budget → A
done_spent e = cc

infeasible_spent : {A : Type 0} → status.Infeasible ≡ status.Budget → A
infeasible_spent e = cc

infeasible_refused : {A : Type 0} → status.Infeasible ≡ status.Refused → A
infeasible_refused e = cc

spent_refused : {A : Type 0} → status.Budget ≡ status.Refused → A
spent_refused e = cc

done_no : {A : Type 0} → status.Done ≡ status.CheckNo → A
done_no e = cc

no_refused : {A : Type 0} → status.CheckNo ≡ status.Refused → A
no_refused e = cc

done_running : {A : Type 0} → status.Done ≡ status.StillRunning → A
done_running e = cc

running_refused : {A : Type 0} → status.StillRunning ≡ status.Refused → A
running_refused e = cc

-- Which reply it was, by its status.

record WasCompiled (form : CompileForm) (contents : List (List ℕ)) (reply : CompileReply) : Type 0 where
  policy : List ℕ
  topology : List ℕ
  two : contents ≡ policy ∷ topology ∷ []
  result : Compiled
  from : IsCompiledFrom policy topology form.objective form.budget result
  is : reply ≡ compile.Compiled result

was_compiled : (form : CompileForm) (contents : List (List ℕ)) (reply : CompileReply) → IsCompileReply form contents reply → (compile_status reply ≡ status.Refused → ⊥)
    → WasCompiled form contents reply
was_compiled form contents (compile.Refused fault) means other = absurd (other refl)
was_compiled form contents (compile.Compiled result) (p, t, two, from) other =
    record { policy = p; topology = t; two = two; result = result; from = from; is = refl }

-- The reply was this one, and this holds of the texts of the two files.
record WasOver {R : Type 0} (contents : List (List ℕ)) (reply known : R) (Holds : List ℕ → List ℕ → Type 0) : Type 0 where
  first : List ℕ
  second : List ℕ
  two : contents ≡ first ∷ second ∷ []
  holds : Holds first second
  is : reply ≡ known

was_refuted : (contents : List (List ℕ)) (reply : RefuteReply) → IsRefuteReply contents reply
    → status.Done ≡ refute_status reply → WasOver contents reply Refuted IsRefuted
was_refuted contents (BadProgram place) means e = done_refused e
was_refuted contents (BadTree place) means e = done_refused e
was_refuted contents Refuted (p, t, two, refuted) e =
    record { first = p; second = t; two = two; holds = refuted; is = refl }
was_refuted contents (NotRefuted node) means e = done_no e

was_not_refuted : (contents : List (List ℕ)) (reply : RefuteReply) → IsRefuteReply contents reply
    → status.CheckNo ≡ refute_status reply
    → (node : ℕ) × WasOver contents reply (NotRefuted node) (λ p t. IsNotRefuted p t node)
was_not_refuted contents (BadProgram place) means e = no_refused e
was_not_refuted contents (BadTree place) means e = no_refused e
was_not_refuted contents Refuted means e = done_no (sym e)
was_not_refuted contents (NotRefuted node) (p, t, two, fails) e =
    (node, record { first = p; second = t; two = two; holds = fails; is = refl })

record WasDivided (contents : List (List ℕ)) (reply : FairReply) : Type 0 where
  demands : List ℕ
  one : contents ≡ demands ∷ []
  lines : List (List ℕ)
  divided : IsDivided demands lines
  is : fair_lines reply ≡ lines

was_divided : (contents : List (List ℕ)) (reply : FairReply) → IsFairReply contents reply
    → status.Done ≡ fair_status reply → WasDivided contents reply
was_divided contents (fair.Refused fault) means e = done_refused e
was_divided contents (fair.Divided lines) (demands, one, divided) e =
    record { demands = demands; one = one; lines = lines.items; divided = divided; is = refl }

was_sound : (contents : List (List ℕ)) (reply : FairnessReply) → IsFairnessReply contents reply
    → status.Done ≡ fairness_status reply → WasOver contents reply Sound HasSoundShares
was_sound contents (fairness.Refused fault) means e = done_refused e
was_sound contents (BadShares place) means e = done_refused e
was_sound contents Sound (d, s, two, sound) e =
    record { first = d; second = s; two = two; holds = sound; is = refl }
was_sound contents (Unsound name) means e = done_no e

was_unsound : (contents : List (List ℕ)) (reply : FairnessReply) → IsFairnessReply contents reply
    → status.CheckNo ≡ fairness_status reply
    → (name : List ℕ) × WasOver contents reply (Unsound name) (λ d s. HasUnsoundShares d s name)
was_unsound contents (fairness.Refused fault) means e = no_refused e
was_unsound contents (BadShares place) means e = no_refused e
was_unsound contents Sound means e = done_no (sym e)
was_unsound contents (Unsound name) (d, s, two, unsound) e =
    (name, record { first = d; second = s; two = two; holds = unsound; is = refl })

record WasTraced (behaviour : Behaviour) (form : TraceForm) (contents : List (List ℕ)) (reply : TraceReply) : Type 0 where
  topology : List ℕ
  result : List ℕ
  two : contents ≡ topology ∷ result ∷ []
  lines : List (List ℕ)
  ended : HasEnded behaviour form topology result lines
  is : trace_lines reply ≡ lines

was_traced : (behaviour : Behaviour) (form : TraceForm) (contents : List (List ℕ)) (reply : TraceReply) → IsTraceReply behaviour form contents reply
    → status.Done ≡ trace_status reply → WasTraced behaviour form contents reply
was_traced behaviour form contents (trace.BadTopology fault) means e = done_refused e
was_traced behaviour form contents (trace.BadResult place) means e = done_refused e
was_traced behaviour form contents (trace.UnknownHost name) means e = done_refused e
was_traced behaviour form contents (trace.BadPacket place) means e = done_refused e
was_traced behaviour form contents (trace.Ended lines) (t, r, two, ended) e =
    record { topology = t; result = r; two = two; lines = lines.items; ended = ended; is = refl }
was_traced behaviour form contents trace.StillRunning means e = done_running e

was_endless : (behaviour : Behaviour) (form : TraceForm) (contents : List (List ℕ)) (reply : TraceReply) → IsTraceReply behaviour form contents reply
    → status.StillRunning ≡ trace_status reply
    → WasOver contents reply trace.StillRunning (λ t r. HasNoEnd behaviour form t r)
was_endless behaviour form contents (trace.BadTopology fault) means e = running_refused e
was_endless behaviour form contents (trace.BadResult place) means e = running_refused e
was_endless behaviour form contents (trace.UnknownHost name) means e = running_refused e
was_endless behaviour form contents (trace.BadPacket place) means e = running_refused e
was_endless behaviour form contents (trace.Ended lines) means e = done_running (sym e)
was_endless behaviour form contents trace.StillRunning (t, r, two, hops) e =
    record { first = t; second = r; two = two; holds = hops; is = refl }

record WasWritten (contents lines : List (List ℕ)) (Holds : List ℕ → List ℕ → List (List ℕ) → Type 0) : Type 0 where
  first : List ℕ
  second : List ℕ
  two : contents ≡ first ∷ second ∷ []
  told : List (List ℕ)
  holds : Holds first second told
  is : lines ≡ told

was_wired : (form : WireForm) (contents : List (List ℕ)) (reply : WireReply) → IsWireReply form contents reply
    → status.Done ≡ wire_status reply → WasWritten contents (wire_lines reply) (HasMessages form)
was_wired form contents (wire.BadTopology fault) means e = done_refused e
was_wired form contents (wire.BadResult place) means e = done_refused e
was_wired form contents (wire.UnknownSwitch name) means e = done_refused e
was_wired form contents (wire.Written switch rules) (t, r, two, has) e =
    record {
      first = t;
      second = r;
      two = two;
      told = message_lines 1 (rules_at switch rules);
      holds = record { net = has.net; read = has.read; texts = has.texts; switch = switch; is_switch = has.is_switch; written = ap (λ rs. message_lines 1 (rules_at switch rs)) has.are };
      is = refl;
    }

was_unwired : (form : UnwireForm) (contents : List (List ℕ)) (reply : UnwireReply) → IsUnwireReply form contents reply
    → status.Done ≡ unwire_status reply → WasWritten contents (unwire_lines reply) (λ t m lines. HasSwitch form t (HasRules m lines))
was_unwired form contents (unwire.BadTopology fault) means e = done_refused e
was_unwired form contents (unwire.UnknownSwitch name) means e = done_refused e
was_unwired form contents (unwire.NoDigits number) means e = done_refused e
was_unwired form contents (unwire.BadMessage number place) means e = done_refused e
was_unwired form contents (unwire.Written over config) (t, m, two, has) e =
    record {
      first = t;
      second = m;
      two = two;
      told = config_lines over config;
      holds = record { net = has.net; is_network = has.is_network; switch = has.switch; is_switch = has.is_switch; holds = has_rules m over config has.net has.switch has.holds };
      is = refl;
    }

-- The same of a run.

module _ (world : World) (sink : Taking) (ended : Status) where
  -- what a reply to this form with this status gives, over these contents of its files
  abbrev GivesOver : (List (List ℕ) → Type 0) → Type 0 → Form → Type 0
  GivesOver Are fact form = (contents : List (List ℕ)) → Are contents
      → (reply : Reply form) → Means world.behaviour form contents reply → ended ≡ reply_status form reply
      → Grows sink.before sink.after (joined (reply_lines form reply)) → fact

  abbrev GivesAll : Type 0 → Form → Type 0
  GivesAll fact form = GivesOver (AreContentsOf world.known form) fact form

  -- the same of a command whose files name no others
  abbrev Gives : Type 0 → Form → Type 0
  Gives fact form = GivesOver (AreContents world.known (files_of form)) fact form

  by_words : (fact : Type 0) (form : Form) → NamesNothing form → Gives fact form → GivesAll fact form
  by_words fact form nothing gives contents are = gives contents (AreContents-by_words world.known form contents nothing are)

  by_form : (fact : Type 0) (words : List (List ℕ)) (form : Form) → GivesAll fact form → IsForm words form
      → IsReplied world sink words ended → fact
  by_form fact words form gives is replied =
      let same : form ≡ replied.form = IsForm-same words form replied.form is replied.asked.is_form in
      let there : GivesAll fact replied.form = subst (GivesAll fact) same gives in
      there replied.contents replied.asked.are_contents replied.reply replied.means replied.status replied.written

  -- by the kind of the result
  solved_by : (form : CompileForm) (p t : List ℕ) (result : Compiled) → AreContents world.known (compile_files form) (p ∷ t ∷ []) → IsCompiledFrom p t form.objective form.budget result
      → Grows sink.before sink.after (joined (compiled_lines result)) → status.Done ≡ compiled_status result → HasCompiled world sink form
  solved_by form p t (results.Least solved) are from grows e = record { policy = p; topology = t; are_contents = are; solved = solved; from = from; written = grows }
  solved_by form p t (results.Infeasible objective tree) are from grows e = done_infeasible e
  solved_by form p t (results.Budget partial) are from grows e = done_spent e

  infeasible_by : (form : CompileForm) (p t : List ℕ) (result : Compiled) → AreContents world.known (compile_files form) (p ∷ t ∷ []) → IsCompiledFrom p t form.objective form.budget result
      → Grows sink.before sink.after (joined (compiled_lines result)) → status.Infeasible ≡ compiled_status result → HasNoAssignment world sink form
  infeasible_by form p t (results.Least solved) are from grows e = done_infeasible (sym e)
  infeasible_by form p t (results.Infeasible objective tree) are from grows e =
      record { policy = p; topology = t; are_contents = are; objective = objective; tree = tree; from = from; written = grows }
  infeasible_by form p t (results.Budget partial) are from grows e = infeasible_spent e

  spent_by : (form : CompileForm) (p t : List ℕ) (result : Compiled) → AreContents world.known (compile_files form) (p ∷ t ∷ []) → IsCompiledFrom p t form.objective form.budget result
      → Grows sink.before sink.after (joined (compiled_lines result)) → status.Budget ≡ compiled_status result → HasSpentBudget world sink form
  spent_by form p t (results.Least solved) are from grows e = done_spent (sym e)
  spent_by form p t (results.Infeasible objective tree) are from grows e = infeasible_spent (sym e)
  spent_by form p t (results.Budget partial) are from grows e = record { policy = p; topology = t; are_contents = are; partial = partial; from = from; written = grows }

  written_of : (form : CompileForm) (contents : List (List ℕ)) (reply : CompileReply) (was : WasCompiled form contents reply) → Grows sink.before sink.after (joined (compile_lines reply))
      → Grows sink.before sink.after (joined (compiled_lines was.result))
  written_of form contents reply was grows = subst (λ r. Grows sink.before sink.after (joined (compile_lines r))) was.is grows

  compiled : (form : CompileForm) → ended ≡ status.Done
      → Gives (HasCompiled world sink form) (record { name = Compiling; request = form })
  compiled form e contents are reply means same grows =
      let was = was_compiled form contents reply means (λ r. done_refused (sym e ∙ same ∙ r)) in
      solved_by form was.policy was.topology was.result (subst (AreContents world.known (compile_files form)) was.two are) was.from (written_of form contents reply was grows)
      (sym e ∙ same ∙ ap compile_status was.is)

  infeasible : (form : CompileForm) → ended ≡ status.Infeasible
      → Gives (HasNoAssignment world sink form) (record { name = Compiling; request = form })
  infeasible form e contents are reply means same grows =
      let was = was_compiled form contents reply means (λ r. infeasible_refused (sym e ∙ same ∙ r)) in
      infeasible_by form was.policy was.topology was.result (subst (AreContents world.known (compile_files form)) was.two are) was.from (written_of form contents reply was grows)
      (sym e ∙ same ∙ ap compile_status was.is)

  spent : (form : CompileForm) → ended ≡ status.Budget
      → Gives (HasSpentBudget world sink form) (record { name = Compiling; request = form })
  spent form e contents are reply means same grows =
      let was = was_compiled form contents reply means (λ r. spent_refused (sym e ∙ same ∙ r)) in
      spent_by form was.policy was.topology was.result (subst (AreContents world.known (compile_files form)) was.two are) was.from (written_of form contents reply was grows)
      (sym e ∙ same ∙ ap compile_status was.is)

  refined : (form : RefineForm) → ended ≡ status.Done
      → Gives (HasRefined world sink form) (record { name = Refining; request = form })
  refined form e contents are reply means same grows = refined_by world sink form contents reply means (sym e ∙ same) are grows

  wider : (form : RefineForm) → ended ≡ status.RefineNo
      → Gives (HasFoundWider world sink form) (record { name = Refining; request = form })
  wider form e contents are reply means same grows = wider_by world sink form contents reply means (sym e ∙ same) are grows

  checked : {R : Type 0} (lines_of : R → List (List ℕ)) (files : List (List ℕ × ℕ)) (contents : List (List ℕ))
      (reply known : R) (Holds : List ℕ → List ℕ → Type 0) → WasOver contents reply known Holds
      → AreContents world.known files contents → Grows sink.before sink.after (joined (lines_of reply))
      → HasChecked world sink files (lines_of known) Holds
  checked lines_of files contents reply known Holds was are grows = record {
    first = was.first;
    second = was.second;
    are_contents = subst (AreContents world.known files) was.two are;
    holds = was.holds;
    written = subst (λ r. Grows sink.before sink.after (joined (lines_of r))) was.is grows;
  }

  refuted : (form : RefuteForm) → ended ≡ status.Done
      → Gives (HasRefuted world sink form) (record { name = Refuting; request = form })
  refuted form e contents are reply means same grows =
      checked refute_lines (refute_files form) contents reply Refuted IsRefuted (was_refuted contents reply means (sym e ∙ same)) are grows

  failed : (form : RefuteForm) → ended ≡ status.CheckNo
      → Gives (HasFoundFailure world sink form) (record { name = Refuting; request = form })
  failed form e contents are reply means same grows =
      let was = was_not_refuted contents reply means (sym e ∙ same) in
      (was.0, checked refute_lines (refute_files form) contents reply (NotRefuted was.0) (λ p t. IsNotRefuted p t was.0) was.1 are grows)

  divided : (form : FairForm) → ended ≡ status.Done
      → Gives (HasDivided world sink form) (record { name = Dividing; request = form })
  divided form e contents are reply means same grows =
      let was = was_divided contents reply means (sym e ∙ same) in
      record {
        demands = was.demands;
        are_contents = subst (AreContents world.known (fair_files form)) was.one are;
        lines = was.lines;
        divided = was.divided;
        written = subst (λ lines. Grows sink.before sink.after (joined lines)) was.is grows;
      }

  judged : (form : FairnessForm) → ended ≡ status.Done
      → Gives (HasFoundSound world sink form) (record { name = Judging; request = form })
  judged form e contents are reply means same grows =
      checked fairness_lines (fairness_files form) contents reply Sound HasSoundShares (was_sound contents reply means (sym e ∙ same)) are grows

  unsound : (form : FairnessForm) → ended ≡ status.CheckNo
      → Gives (HasFoundUnsound world sink form) (record { name = Judging; request = form })
  unsound form e contents are reply means same grows =
      let was = was_unsound contents reply means (sym e ∙ same) in
      (was.0, checked fairness_lines (fairness_files form) contents reply (Unsound was.0) (λ d s. HasUnsoundShares d s was.0) was.1 are grows)

  traced : (form : TraceForm) → ended ≡ status.Done
      → Gives (HasTraced world sink form) (record { name = Tracing; request = form })
  traced form e contents are reply means same grows =
      let was = was_traced world.behaviour form contents reply means (sym e ∙ same) in
      record {
        topology = was.topology;
        result = was.result;
        are_contents = subst (AreContents world.known (trace_files form)) was.two are;
        lines = was.lines;
        ended = was.ended;
        written = subst (λ lines. Grows sink.before sink.after (joined lines)) was.is grows;
      }

  endless : (form : TraceForm) → ended ≡ status.StillRunning
      → Gives (HasFoundNoEnd world sink form) (record { name = Tracing; request = form })
  endless form e contents are reply means same grows =
      checked trace_lines (trace_files form) contents reply trace.StillRunning (λ t r. HasNoEnd world.behaviour form t r) (was_endless world.behaviour form contents reply means (sym e ∙ same)) are grows

  wrote : (files : List (List ℕ × ℕ)) (contents lines : List (List ℕ)) (Holds : List ℕ → List ℕ → List (List ℕ) → Type 0)
      → WasWritten contents lines Holds → AreContents world.known files contents → Grows sink.before sink.after (joined lines)
      → HasWritten world sink files Holds
  wrote files contents lines Holds was are grows = record {
    first = was.first;
    second = was.second;
    are_contents = subst (AreContents world.known files) was.two are;
    lines = was.told;
    holds = was.holds;
    written = subst (λ ls. Grows sink.before sink.after (joined ls)) was.is grows;
  }

  wired : (form : WireForm) → ended ≡ status.Done
      → Gives (HasWired world sink form) (record { name = Wiring; request = form })
  wired form e contents are reply means same grows =
      wrote (wire_files form) contents (wire_lines reply) (HasMessages form) (was_wired form contents reply means (sym e ∙ same)) are grows

  unwired : (form : UnwireForm) → ended ≡ status.Done
      → Gives (HasUnwired world sink form) (record { name = Unwiring; request = form })
  unwired form e contents are reply means same grows =
      wrote (unwire_files form) contents (unwire_lines reply) (λ t m lines. HasSwitch form t (HasRules m lines)) (was_unwired form contents reply means (sym e ∙ same)) are grows

  delegated : (form : DelegateForm) → ended ≡ status.Done
      → GivesAll (HasDelegated world sink form) (record { name = Delegating; request = form })
  delegated form e contents are reply means same grows = accepted_by world sink form contents reply means (sym e ∙ same) are grows

  wider_node : (form : DelegateForm) → ended ≡ status.RefineNo
      → GivesAll (HasFoundWiderNode world sink form) (record { name = Delegating; request = form })
  wider_node form e contents are reply means same grows = wider_node_by world sink form contents reply means (sym e ∙ same) are grows

  -- a status that replies alone have is that of a reply
  of_reply_over_all : (fact : Type 0) (words : List (List ℕ)) (name : CommandName) (request : (command_meaning name).Request) (known : Status)
      → IsOfRepliesAlone known → ended ≡ known → GivesAll fact (record { name = name; request = request })
      → (command_meaning name).IsRequest words request → SaysByStatus world sink words ended → fact
  of_reply_over_all fact words name request known alone e gives is says =
      by_form fact words (record { name = name; request = request }) gives is (says.replied (subst IsOfRepliesAlone (sym e) alone))

  of_reply : (fact : Type 0) (words : List (List ℕ)) (name : CommandName) (request : (command_meaning name).Request) (known : Status)
      → NamesNothing (record { name = name; request = request }) → IsOfRepliesAlone known → ended ≡ known → Gives fact (record { name = name; request = request })
      → (command_meaning name).IsRequest words request → SaysByStatus world sink words ended → fact
  of_reply fact words name request known nothing alone e gives is says =
      of_reply_over_all fact words name request known alone e (by_words fact (record { name = name; request = request }) nothing gives) is says

pub KeepsPromises-from_outcome : (world : World) (sink : Taking) (words : List (List ℕ)) (ended : Status)
    → SaysByStatus world sink words ended → KeepsPromises world sink words ended
KeepsPromises-from_outcome world sink words ended says =
    record {
      compiled = λ form is e. of_reply world sink ended _ words Compiling form status.Done (λ first more names. names) tt e (compiled world sink ended form e) is says;
      infeasible = λ form is e. of_reply world sink ended _ words Compiling form status.Infeasible (λ first more names. names) tt e (infeasible world sink ended form e) is says;
      spent = λ form is e. of_reply world sink ended _ words Compiling form status.Budget (λ first more names. names) tt e (spent world sink ended form e) is says;
      refined = λ form is e. of_reply world sink ended _ words Refining form status.Done (λ first more names. names) tt e (refined world sink ended form e) is says;
      wider = λ form is e. of_reply world sink ended _ words Refining form status.RefineNo (λ first more names. names) tt e (wider world sink ended form e) is says;
      refuted = λ form is e. of_reply world sink ended _ words Refuting form status.Done (λ first more names. names) tt e (refuted world sink ended form e) is says;
      failed = λ form is e. of_reply world sink ended _ words Refuting form status.CheckNo (λ first more names. names) tt e (failed world sink ended form e) is says;
      divided = λ form is e. of_reply world sink ended _ words Dividing form status.Done (λ first more names. names) tt e (divided world sink ended form e) is says;
      judged = λ form is e. of_reply world sink ended _ words Judging form status.Done (λ first more names. names) tt e (judged world sink ended form e) is says;
      unsound = λ form is e. of_reply world sink ended _ words Judging form status.CheckNo (λ first more names. names) tt e (unsound world sink ended form e) is says;
      traced = λ form is e. of_reply world sink ended _ words Tracing form status.Done (λ first more names. names) tt e (traced world sink ended form e) is says;
      endless = λ form is e. of_reply world sink ended _ words Tracing form status.StillRunning (λ first more names. names) tt e (endless world sink ended form e) is says;
      wired = λ form is e. of_reply world sink ended _ words Wiring form status.Done (λ first more names. names) tt e (wired world sink ended form e) is says;
      unwired = λ form is e. of_reply world sink ended _ words Unwiring form status.Done (λ first more names. names) tt e (unwired world sink ended form e) is says;
      delegated = λ form is e. of_reply_over_all world sink ended _ words Delegating form status.Done tt e (delegated world sink ended form e) is says;
      wider_node = λ form is e. of_reply_over_all world sink ended _ words Delegating form status.RefineNo tt e (wider_node world sink ended form e) is says;
    }
