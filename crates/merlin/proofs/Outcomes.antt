-- What follows from the outcome of a run, whatever the commands are.
use Rattle.std.proofs.Common.{◌≡◌, ◌⊎◌, ℕ, List, Option, Some, sym, ◌∙◌, subst, inl, inr, Result, Ok, Err, IfOk}
use Rattle.merlin_base.specs.Texts.{joined}
use Rattle.merlin_base.specs.Outside.{Grows, GrowsByPrefix, Rose}
use Rattle.merlin_base.specs.declared.status.Status.{Status}
use Rattle.merlin_base.specs.declared.status.Status.TheVariants as status
use Rattle.merlin.specs.Contents.{AreContentsOf, IsFirstTooLongOf, RoseInFilesOf}
use Rattle.merlin.specs.Commands.{CommandName, Compiling, Refining, Refuting, Dividing, Judging, command_meaning, Form, Reply, Means, reply_status, Tracing, Wiring, Unwiring, Delegating}
use Rattle.merlin.specs.Outcome.{World, Taking, Answer, NoForm, NotRead, TooLong, Replied, IsNoForm, IsAsked, IsAnswerTo, answer_status, answer_text, IsBrokenOff, EndsWith, IsOutcome, EndsAs, IsOfRepliesAlone, IsReplied, IsRefusedFile, IsGiven, IsReplyOver, IsEndOver, IsTooLong, RoseForAFile, SaysByStatus}
use Rattle.merlin.specs.Parts.{IsReportTo, EndsBy, EndsByResult}
use Rattle.merlin.specs.declared.report.Report.{Report}
use Rattle.merlin.specs.declared.compile.CompileReply.TheVariants as compile
use Rattle.merlin_compile.specs.declared.outcome.Compiled.TheVariants as results
use Rattle.merlin.specs.declared.refine.RefineReply.TheVariants as refine
use Rattle.merlin.specs.declared.refute.RefuteReply.TheVariants as refute
use Rattle.merlin.specs.declared.fair.FairReply.TheVariants as fair
use Rattle.merlin.specs.declared.fairness.FairnessReply.TheVariants as fairness
use Rattle.merlin.specs.declared.trace.TraceReply.TheVariants as trace
use Rattle.merlin.specs.declared.wire.WireReply.TheVariants as wire
use Rattle.merlin.specs.declared.unwire.UnwireReply.TheVariants as unwire
use Rattle.delegation_verdict.specs.declared.reply.DelegateReply.TheVariants as delegate
use Rattle.merlin.proofs.Unique.{IsForm-same, AreContentsOf-same, AreContentsOf-short}

-- No reply has one of these statuses.
abbrev IsOther : Status → Type 0
IsOther status.Usage = Unit {0}
IsOther status.ReadFault = Unit {0}
IsOther status.WriteFault = Unit {0}
IsOther status.Memory = Unit {0}
IsOther ended = ⊥

not_other : (name : CommandName) (reply : (command_meaning name).ReplyTo)
    → IsOther ((command_meaning name).status reply) → ⊥
not_other Compiling (compile.Refused fault) h = h
not_other Compiling (compile.Compiled (results.Least solved)) h = h
not_other Compiling (compile.Compiled (results.Infeasible objective tree)) h = h
not_other Compiling (compile.Compiled (results.Budget partial)) h = h
not_other Refining (refine.UnreadParent fault) h = h
not_other Refining (refine.UnreadChild fault) h = h
not_other Refining (refine.UnreadTopology fault) h = h
not_other Refining (refine.WrongParent fault) h = h
not_other Refining (refine.WrongChild fault) h = h
not_other Refining refine.TooManyCells h = h
not_other Refining (refine.Wider text) h = h
not_other Refining refine.Refines h = h
not_other Refuting (refute.BadProgram at) h = h
not_other Refuting (refute.BadTree at) h = h
not_other Refuting refute.Refuted h = h
not_other Refuting (refute.NotRefuted node) h = h
not_other Dividing (fair.Refused fault) h = h
not_other Dividing (fair.Divided lines) h = h
not_other Judging (fairness.Refused fault) h = h
not_other Judging (fairness.BadShares at) h = h
not_other Judging fairness.Sound h = h
not_other Judging (fairness.Unsound name) h = h
not_other Tracing (trace.BadTopology fault) h = h
not_other Tracing (trace.BadResult at) h = h
not_other Tracing (trace.UnknownHost name) h = h
not_other Tracing (trace.BadPacket at) h = h
not_other Tracing (trace.Ended lines) h = h
not_other Tracing trace.StillRunning h = h
not_other Wiring (wire.BadTopology fault) h = h
not_other Wiring (wire.BadResult at) h = h
not_other Wiring (wire.UnknownSwitch name) h = h
not_other Wiring (wire.Written switch rules) h = h
not_other Unwiring (unwire.BadTopology fault) h = h
not_other Unwiring (unwire.UnknownSwitch name) h = h
not_other Unwiring (unwire.NoDigits number) h = h
not_other Unwiring (unwire.BadMessage number at) h = h
not_other Unwiring (unwire.Written net config) h = h
not_other Delegating (delegate.UnreadTree fault) h = h
not_other Delegating (delegate.UnreadScope node fault) h = h
not_other Delegating (delegate.UnreadPolicy node fault) h = h
not_other Delegating (delegate.UnreadTopology fault) h = h
not_other Delegating (delegate.WrongPolicy node fault) h = h
not_other Delegating (delegate.TooManyClasses node) h = h
not_other Delegating (delegate.SharedScopes first second packet) h = h
not_other Delegating (delegate.TooManyStatements node) h = h
not_other Delegating (delegate.WrongJoin node fault) h = h
not_other Delegating (delegate.TooManyCells node) h = h
not_other Delegating (delegate.Wider node text) h = h
not_other Delegating (delegate.Accepted nodes statements) h = h

other : {A : Type 0} (form : Form) (reply : Reply form) (ended wanted : Status) → ended ≡ wanted
    → ended ≡ reply_status form reply → IsOther wanted → A
other form reply ended wanted e same h = absurd (not_other form.name reply (subst IsOther (sym e ∙ same) h))

module _ (world : World) (sink : Taking) (words : List (List ℕ)) (ended : Status) where
  broken : {A : Type 0} → IsBrokenOff sink ended → (ended ≡ status.WriteFault → A)
      → (ended ≡ status.Memory → A) → A
  broken (inl h) write memory = write h.0
  broken (inr e) write memory = memory e

  by_usage : (answer : Answer) → ended ≡ status.Usage → IsAnswerTo world words answer
      → ended ≡ answer_status answer → IsNoForm words
  by_usage NoForm e is same = is
  by_usage NotRead e is same = cc
  by_usage (TooLong name) e is same = cc
  by_usage (Replied form reply) e is same = other form reply ended status.Usage e same tt

  -- usage comes only where the words are no form
  IsNoForm-from_usage : IsOutcome world sink words ended → ended ≡ status.Usage → IsNoForm words
  IsNoForm-from_usage (inl lacks) e = cc
  IsNoForm-from_usage (inr (answer, is, inl ends)) e = by_usage answer e is ends.0
  IsNoForm-from_usage (inr (answer, is, inr breaks)) e = broken breaks.0 (λ h. cc) (λ h. cc)

  by_no_form : (answer : Answer) → IsNoForm words → IsAnswerTo world words answer
      → ended ≡ answer_status answer → ended ≡ status.Usage
  by_no_form NoForm none is same = same
  by_no_form NotRead none (form, form_is, rose) same = absurd (none form form_is)
  by_no_form (TooLong name) none (form, form_is, long) same = absurd (none form form_is)
  by_no_form (Replied form reply) none (contents, asked, means) same = absurd (none form asked.is_form)

  -- and where they are none it comes, unless the run broke off
  usage-from_no_form : IsOutcome world sink words ended → IsNoForm words
      → EndsAs sink ended status.Usage
  usage-from_no_form (inl lacks) none = inr (inr lacks.0)
  usage-from_no_form (inr (answer, is, inl ends)) none = inl (by_no_form answer none is ends.0)
  usage-from_no_form (inr (answer, is, inr breaks)) none = inr breaks.0

  by_read_fault : (answer : Answer) → ended ≡ status.ReadFault → IsAnswerTo world words answer
      → ended ≡ answer_status answer → RoseForAFile world words
  by_read_fault NoForm e is same = cc
  by_read_fault NotRead e is same = is
  by_read_fault (TooLong name) e is same = cc
  by_read_fault (Replied form reply) e is same = other form reply ended status.ReadFault e same tt

  RoseForAFile-from_read_fault : IsOutcome world sink words ended → ended ≡ status.ReadFault
      → RoseForAFile world words
  RoseForAFile-from_read_fault (inl lacks) e = cc
  RoseForAFile-from_read_fault (inr (answer, is, inl ends)) e = by_read_fault answer e is ends.0
  RoseForAFile-from_read_fault (inr (answer, is, inr breaks)) e = broken breaks.0 (λ h. cc) (λ h. cc)

  by_write_fault : {A : Type 0} (answer : Answer) → ended ≡ status.WriteFault
      → ended ≡ answer_status answer → A
  by_write_fault NoForm e same = cc
  by_write_fault NotRead e same = cc
  by_write_fault (TooLong name) e same = cc
  by_write_fault (Replied form reply) e same = other form reply ended status.WriteFault e same tt

  rose_by : IsBrokenOff sink ended → ended ≡ status.WriteFault
      → Rose sink.faults_before sink.faults_after
  rose_by (inl h) e = h.1
  rose_by (inr memory) e = cc

  Rose-from_write_fault : IsOutcome world sink words ended → ended ≡ status.WriteFault
      → Rose sink.faults_before sink.faults_after
  Rose-from_write_fault (inl lacks) e = cc
  Rose-from_write_fault (inr (answer, is, inl ends)) e = by_write_fault answer e ends.0
  Rose-from_write_fault (inr (answer, is, inr breaks)) e = rose_by breaks.0 e

  by_reply : (answer : Answer) → IsOfRepliesAlone ended → IsAnswerTo world words answer
      → ended ≡ answer_status answer → Grows sink.before sink.after (answer_text answer)
      → IsReplied world sink words ended
  by_reply NoForm h is e grows = absurd (subst IsOfRepliesAlone e h)
  by_reply NotRead h is e grows = absurd (subst IsOfRepliesAlone e h)
  by_reply (TooLong name) h is e grows = absurd (subst IsOfRepliesAlone e h)
  by_reply (Replied form reply) h (contents, asked, means) e grows =
      record { form = form; contents = contents; asked = asked; reply = reply; means = means; status = e; written = grows }

  IsReplied-from_status : IsOutcome world sink words ended → IsOfRepliesAlone ended
      → IsReplied world sink words ended
  IsReplied-from_status (inl lacks) h = absurd (subst IsOfRepliesAlone lacks.0 h)
  IsReplied-from_status (inr (answer, is, inl ends)) h = by_reply answer h is ends.0 ends.1
  IsReplied-from_status (inr (answer, is, inr breaks)) h = broken breaks.0 (λ e. absurd (subst IsOfRepliesAlone e h)) (λ e. absurd (subst IsOfRepliesAlone e h))

  by_refused : (answer : Answer) → ended ≡ status.Refused → IsAnswerTo world words answer
      → ended ≡ answer_status answer → Grows sink.before sink.after (answer_text answer)
      → IsReplied world sink words ended ⊎ IsRefusedFile world sink words
  by_refused NoForm e is same grows = cc
  by_refused NotRead e is same grows = cc
  by_refused (TooLong name) e (form, form_is, long) same grows =
      inr (record { form = form; is_form = form_is; name = name; long = long; written = grows })
  by_refused (Replied form reply) e (contents, asked, means) same grows =
      inl (record { form = form; contents = contents; asked = asked; reply = reply; means = means; status = same; written = grows })

  refusal-from_status : IsOutcome world sink words ended → ended ≡ status.Refused
      → IsReplied world sink words ended ⊎ IsRefusedFile world sink words
  refusal-from_status (inl lacks) e = cc
  refusal-from_status (inr (answer, is, inl ends)) e = by_refused answer e is ends.0 ends.1
  refusal-from_status (inr (answer, is, inr breaks)) e = broken breaks.0 (λ h. cc) (λ h. cc)

-- Over contents that are told.

module _ (world : World) (sink : Taking) (words : List (List ℕ)) (ended : Status) (form : Form) (contents : List (List ℕ)) where
  of_reply : (form' : Form) → form' ≡ form → (contents' : List (List ℕ)) → contents' ≡ contents
      → (reply : Reply form') → Means world.behaviour form' contents' reply
      → EndsWith (Replied form' reply) sink ended → (r : Reply form)
      × Means world.behaviour form contents r × EndsWith (Replied form r) sink ended
  of_reply form' same contents' one reply means ends =
      subst (λ f. (r : Reply f) × Means world.behaviour f contents r × EndsWith (Replied f r) sink ended) same
      (reply, subst (λ c. Means world.behaviour form' c reply) one means, ends)

  over_answer : (known : List ℕ → Option (List ℕ)) → world.known ≡ Some known
      → IsAsked world words form contents → (answer : Answer)
      → IsAnswerTo world words answer → EndsWith answer sink ended
      → IsEndOver world sink form contents ended
  over_answer known told asked NoForm none ends = absurd (none form asked.is_form)
  over_answer known told asked NotRead (form', is, rose) ends =
      let same : form' ≡ form = IsForm-same words form' form is asked.is_form in
      inl (subst (λ f. RoseInFilesOf world.known f world.before world.after) same rose, ends)
  over_answer known told asked (TooLong name) (form', is, long) ends =
      let same : form' ≡ form = IsForm-same words form' form is asked.is_form in
      let here : IsFirstTooLongOf world.known form name = subst (λ f. IsFirstTooLongOf world.known f name) same long in
      absurd (AreContentsOf-short known form contents name
      (subst (λ k. AreContentsOf k form contents) told asked.are_contents) (subst
      (λ k. IsFirstTooLongOf k form name) told here))
  over_answer known told asked (Replied form' reply) (contents', asked', means) ends =
      let same : form' ≡ form = IsForm-same words form' form asked'.is_form asked.is_form in
      let here : AreContentsOf world.known form contents' = subst (λ f. AreContentsOf world.known f contents') same asked'.are_contents in
      let one : contents' ≡ contents = AreContentsOf-same known form contents contents'
      (subst (λ k. AreContentsOf k form contents) told asked.are_contents) (subst
      (λ k. AreContentsOf k form contents') told here) in
      inr (inr (of_reply form' same contents' one reply means ends))

  IsEndOver-from_given : IsOutcome world sink words ended → IsGiven world words form contents
      → IsEndOver world sink form contents ended
  IsEndOver-from_given (inl lacks) given = inr (inl lacks)
  IsEndOver-from_given (inr (answer, is, ends)) given = over_answer given.known_contents given.is_known given.asked answer is ends

  -- a text that blames a file is written only where a count rose
  reply-from_end : (¬ RoseInFilesOf world.known form world.before world.after)
      → IsEndOver world sink form contents ended → IsReplyOver world sink form contents ended
  reply-from_end still (inl blames) = absurd (still blames.0)
  reply-from_end still (inr replied) = replied

  -- where each reply has one status, it comes, unless the run broke off or a file failed
  status-from_end : (wanted : Status) → ((reply : Reply form)
      → Means world.behaviour form contents reply → reply_status form reply ≡ wanted)
      → IsEndOver world sink form contents ended → (ended ≡ status.ReadFault)
      ⊎ EndsAs sink ended wanted
  status-from_end wanted each (inl (rose, inl ends)) = inl ends.0
  status-from_end wanted each (inl (rose, inr breaks)) = inr (inr breaks.0)
  status-from_end wanted each (inr (inl lacks)) = inr (inr (inr lacks.0))
  status-from_end wanted each (inr (inr (reply, means, inl ends))) = inr (inl (ends.0 ∙ each reply means))
  status-from_end wanted each (inr (inr (reply, means, inr breaks))) = inr (inr breaks.0)

-- A file that is too long.

module _ (world : World) (sink : Taking) (words : List (List ℕ)) (ended : Status) (given : IsTooLong world words) where
  not_read : {A : Type 0} (form : Form) (contents : List (List ℕ))
      → IsAsked world words form contents → A
  not_read form contents asked =
      let same : given.form ≡ form = IsForm-same words given.form form given.is_form asked.is_form in
      let here : IsFirstTooLongOf world.known form given.name = subst (λ f. IsFirstTooLongOf world.known f given.name) same given.long in
      absurd (AreContentsOf-short given.known_contents form contents given.name
      (subst (λ k. AreContentsOf k form contents) given.is_known asked.are_contents) (subst
      (λ k. IsFirstTooLongOf k form given.name) given.is_known here))

  too_long : (answer : Answer) → IsAnswerTo world words answer → ended ≡ answer_status answer
      → (ended ≡ status.ReadFault) ⊎ EndsAs sink ended status.Refused
  too_long NoForm none same = absurd (none given.form given.is_form)
  too_long NotRead is same = inl same
  too_long (TooLong name) is same = inr (inl same)
  too_long (Replied form reply) (contents, asked, means) same = not_read form contents asked

  status-from_too_long : IsOutcome world sink words ended → (ended ≡ status.ReadFault)
      ⊎ EndsAs sink ended status.Refused
  status-from_too_long (inl lacks) = inr (inr (inr lacks.0))
  status-from_too_long (inr (answer, is, inl ends)) = too_long answer is ends.0
  status-from_too_long (inr (answer, is, inr breaks)) = inr (inr breaks.0)

-- All together.

pub SaysByStatus-from_outcome : (world : World) (sink : Taking) (words : List (List ℕ))
    (ended : Status) → IsOutcome world sink words ended → SaysByStatus world sink words ended
SaysByStatus-from_outcome world sink words ended outcome =
    record {
      usage = IsNoForm-from_usage world sink words ended outcome;
      usage_given = usage-from_no_form world sink words ended outcome;
      read_fault = RoseForAFile-from_read_fault world sink words ended outcome;
      write_fault = Rose-from_write_fault world sink words ended outcome;
      too_long_given = λ given. status-from_too_long world sink words ended given outcome;
      refused = refusal-from_status world sink words ended outcome;
      replied = IsReplied-from_status world sink words ended outcome;
      given = λ form contents given. IsEndOver-from_given world sink words ended form contents outcome given;
      no_blame = λ form contents given still. reply-from_end world sink words ended form contents still (IsEndOver-from_given world sink words ended form contents outcome given);
      status_given = λ form contents wanted given each. status-from_end world sink words ended form contents wanted each (IsEndOver-from_given world sink words ended form contents outcome given);
    }

-- From what is reported to the outcome.

pub IsOutcome-from_report : (world : World) (sink : Taking) (words : List (List ℕ)) (ended : Status)
    (report : Report) → IsReportTo world words report → EndsBy sink report ended
    → IsOutcome world sink words ended
IsOutcome-from_report world sink words ended report to (inl ends) =
    inr (to.answer, to.is_answer, inl (ends.0 ∙ to.is_report.status, subst (λ lines. Grows sink.before sink.after (joined lines)) to.is_report.lines.are ends.1))
IsOutcome-from_report world sink words ended report to (inr breaks) =
    inr (to.answer, to.is_answer, inr (breaks.0, subst (λ lines. GrowsByPrefix sink.before sink.after (joined lines)) to.is_report.lines.are breaks.1))

pub IsOutcome-from_result : {E : Type 0} (world : World) (sink : Taking) (words : List (List ℕ))
    (ended : Status) (result : Result Report E) → IfOk result (IsReportTo world words)
    → EndsByResult sink result ended
    → IsOutcome world sink words ended
IsOutcome-from_result world sink words ended (Ok report) to ends = IsOutcome-from_report world sink words ended report to ends
IsOutcome-from_result world sink words ended (Err e) to lacks = inl lacks
