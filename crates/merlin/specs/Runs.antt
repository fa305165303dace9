-- What the runs of each command leave, by their status.
use Rattle.std.specs.Prelude.{◌≡◌, ℕ, List, [], ◌∷◌}
use Rattle.merlin_base.specs.Texts.{joined}
use Rattle.merlin_base.specs.Outside.{Grows}
use Rattle.merlin_model.specs.declared.certificate.Tree.{Tree}
use Rattle.merlin_model.specs.declared.policy.Objective.{Objective}
use Rattle.merlin_compile.specs.declared.outcome.Solved.{Solved}
use Rattle.merlin_compile.specs.declared.outcome.Partial.{Partial}
use Rattle.merlin_compile.specs.Compiled.{IsSolvedFrom, IsInfeasibleFrom, IsPartialFrom}
use Rattle.merlin_compile.specs.Written.{solved_lines, partial_lines}
use Rattle.result_heads.specs.Heads.{infeasible_lines}
use Rattle.merlin.specs.declared.refute.RefuteReply.TheVariants.{Refuted, NotRefuted}
use Rattle.merlin.specs.Reading.{AreContents}
use Rattle.merlin.specs.Compile.{CompileForm, IsCompileForm, compile_files}
use Rattle.merlin.specs.Refute.{RefuteForm, IsRefuteForm, refute_files, refute_lines, IsRefuted, IsNotRefuted}
use Rattle.merlin.specs.declared.fairness.FairnessReply.TheVariants.{Sound, Unsound}
use Rattle.merlin.specs.Fair.{FairForm, IsFairForm, fair_files, IsDivided}
use Rattle.merlin.specs.Fairness.{FairnessForm, IsFairnessForm, fairness_files, fairness_lines, HasSoundShares, HasUnsoundShares}
use Rattle.merlin.specs.Trace.{TraceForm, IsTraceForm, trace_files, trace_lines, HasEnded, HasNoEnd}
use Rattle.merlin.specs.declared.trace.TraceReply.TheVariants.{StillRunning}
use Rattle.merlin.specs.Wire.{WireForm, IsWireForm, wire_files, HasMessages}
use Rattle.merlin.specs.Unwire.{UnwireForm, IsUnwireForm, unwire_files, HasSwitch, HasRules}
use Rattle.merlin_base.specs.declared.status.Status.{Status}
use Rattle.merlin_base.specs.declared.status.Status.TheVariants as status
use Rattle.merlin.specs.Outcome.{World, Taking}
use Rattle.merlin.specs.Refine.{RefineForm, IsRefineForm}
use Rattle.merlin.specs.Refinings.{HasRefined, HasFoundWider}
use Rattle.merlin.specs.Delegate.{DelegateForm, IsDelegateForm}
use Rattle.merlin.specs.Delegations.{HasDelegated, HasFoundWiderNode}

-- The sink took exactly the text of the result for these files. It keeps the whole promise: of packets, guarantees and caps,
-- and that no assignment is better.
pub record HasCompiled (world : World) (sink : Taking) (form : CompileForm) : Type 0 where
  pub policy : List ℕ
  pub topology : List ℕ
  pub are_contents : AreContents world.known (compile_files form) (policy ∷ topology ∷ [])
  pub solved : Solved
  pub from : IsSolvedFrom policy topology form.objective form.budget solved
  pub written : Grows sink.before sink.after (joined (solved_lines solved))

-- The sink took the text that says that no assignment is feasible, with a tree that shows it.
pub record HasNoAssignment (world : World) (sink : Taking) (form : CompileForm) : Type 0 where
  pub policy : List ℕ
  pub topology : List ℕ
  pub are_contents : AreContents world.known (compile_files form) (policy ∷ topology ∷ [])
  pub objective : Objective
  pub tree : Tree
  pub from : IsInfeasibleFrom policy topology form.objective form.budget objective tree
  pub written : Grows sink.before sink.after (joined (infeasible_lines objective tree))

-- The sink took the text of a budget that was spent, with the best walks so far and a bound.
pub record HasSpentBudget (world : World) (sink : Taking) (form : CompileForm) : Type 0 where
  pub policy : List ℕ
  pub topology : List ℕ
  pub are_contents : AreContents world.known (compile_files form) (policy ∷ topology ∷ [])
  pub partial : Partial
  pub from : IsPartialFrom policy topology form.objective form.budget partial
  pub written : Grows sink.before sink.after (joined (partial_lines partial))

-- The sink took these lines, and this holds of the texts of the two files.
pub record HasChecked (world : World) (sink : Taking) (files : List (List ℕ × ℕ))
    (lines : List (List ℕ)) (Holds : List ℕ → List ℕ → Type 0) : Type 0 where
  pub first : List ℕ
  pub second : List ℕ
  pub are_contents : AreContents world.known files (first ∷ second ∷ [])
  pub holds : Holds first second
  pub written : Grows sink.before sink.after (joined lines)

-- The sink took the one line, and the program of the first file has no solution.
abbrev pub HasRefuted : World → Taking → RefuteForm → Type 0
HasRefuted world sink form =
    HasChecked world sink (refute_files form) (refute_lines Refuted) IsRefuted

-- The sink took the number of the first node of the tree that fails.
abbrev pub HasFoundFailure : World → Taking → RefuteForm → Type 0
HasFoundFailure world sink form = (node : ℕ)
    × HasChecked world sink (refute_files form) (refute_lines (NotRefuted node))
    (λ program tree. IsNotRefuted program tree node)

-- The sink took the lines of a best division of the demands in the file.
pub record HasDivided (world : World) (sink : Taking) (form : FairForm) : Type 0 where
  pub demands : List ℕ
  pub are_contents : AreContents world.known (fair_files form) (demands ∷ [])
  pub lines : List (List ℕ)
  pub divided : IsDivided demands lines
  pub written : Grows sink.before sink.after (joined lines)

-- The sink took the one line, and the division of the second file is the best.
abbrev pub HasFoundSound : World → Taking → FairnessForm → Type 0
HasFoundSound world sink form =
    HasChecked world sink (fairness_files form) (fairness_lines Sound) HasSoundShares

-- The sink took the name of the first tenant at fault.
abbrev pub HasFoundUnsound : World → Taking → FairnessForm → Type 0
HasFoundUnsound world sink form = (name : List ℕ)
    × HasChecked world sink (fairness_files form) (fairness_lines (Unsound name))
    (λ demands shares. HasUnsoundShares demands shares name)

-- The sink took the lines of the machine's run by the world's packet functions, up to its end.
pub record HasTraced (world : World) (sink : Taking) (form : TraceForm) : Type 0 where
  pub topology : List ℕ
  pub result : List ℕ
  pub are_contents : AreContents world.known (trace_files form) (topology ∷ result ∷ [])
  pub lines : List (List ℕ)
  pub ended : HasEnded world.behaviour form topology result lines
  pub written : Grows sink.before sink.after (joined lines)

-- The sink took the one line, and by the world's packet functions the machine makes the most hops.
abbrev pub HasFoundNoEnd : World → Taking → TraceForm → Type 0
HasFoundNoEnd world sink form =
    HasChecked world sink (trace_files form) (trace_lines StillRunning)
    (λ topology result. HasNoEnd world.behaviour form topology result)

-- The sink took lines of which this holds, beside the texts of the two files.
pub record HasWritten (world : World) (sink : Taking) (files : List (List ℕ × ℕ))
    (Holds : List ℕ → List ℕ → List (List ℕ) → Type 0) : Type 0 where
  pub first : List ℕ
  pub second : List ℕ
  pub are_contents : AreContents world.known files (first ∷ second ∷ [])
  pub lines : List (List ℕ)
  pub holds : Holds first second lines
  pub written : Grows sink.before sink.after (joined lines)

-- The sink took the messages of the switch's rules.
abbrev pub HasWired : World → Taking → WireForm → Type 0
HasWired world sink form = HasWritten world sink (wire_files form) (HasMessages form)

-- The sink took the rules of the messages, and each line of the file is one.
abbrev pub HasUnwired : World → Taking → UnwireForm → Type 0
HasUnwired world sink form = HasWritten world sink (unwire_files form)
    (λ topology messages lines. HasSwitch form topology (HasRules messages lines))

-- What a reader asks of each command. To compile: with Done the sink took exactly the text of a
-- result that keeps its promise, with Infeasible no assignment is feasible, and with Budget the text
-- says what was found and a bound. To refute: with
-- Done the program has no solution, and with CheckNo the first node that fails was named. To divide:
-- with Done the division is the best. To judge: with Done it is, and with CheckNo the first tenant at
-- fault was named. To refine: with Done the child refines the parent, and with RefineNo the first rule
-- that fails was named. To trace: with Done the lines are those of the machine's run to its end, and
-- with StillRunning the machine makes the most hops. To wire: with Done the lines are the messages of
-- the switch's rules. To unwire: with Done the lines are the rules of the messages. To delegate: with
-- Done each node of the tree is accepted and the composition refines what the first was handed, and
-- with RefineNo the first node that is not accepted was named, with the first rule that fails.
pub record KeepsPromises (world : World) (sink : Taking) (words : List (List ℕ)) (ended : Status)
    : Type 0 where
  pub compiled : (form : CompileForm) → IsCompileForm words form → ended ≡ status.Done
      → HasCompiled world sink form
  pub infeasible : (form : CompileForm) → IsCompileForm words form → ended ≡ status.Infeasible
      → HasNoAssignment world sink form
  pub spent : (form : CompileForm) → IsCompileForm words form → ended ≡ status.Budget
      → HasSpentBudget world sink form
  pub refined : (form : RefineForm) → IsRefineForm words form → ended ≡ status.Done
      → HasRefined world sink form
  pub wider : (form : RefineForm) → IsRefineForm words form → ended ≡ status.RefineNo
      → HasFoundWider world sink form
  pub refuted : (form : RefuteForm) → IsRefuteForm words form → ended ≡ status.Done
      → HasRefuted world sink form
  pub failed : (form : RefuteForm) → IsRefuteForm words form → ended ≡ status.CheckNo
      → HasFoundFailure world sink form
  pub divided : (form : FairForm) → IsFairForm words form → ended ≡ status.Done
      → HasDivided world sink form
  pub judged : (form : FairnessForm) → IsFairnessForm words form → ended ≡ status.Done
      → HasFoundSound world sink form
  pub unsound : (form : FairnessForm) → IsFairnessForm words form → ended ≡ status.CheckNo
      → HasFoundUnsound world sink form
  pub traced : (form : TraceForm) → IsTraceForm words form → ended ≡ status.Done
      → HasTraced world sink form
  pub endless : (form : TraceForm) → IsTraceForm words form → ended ≡ status.StillRunning
      → HasFoundNoEnd world sink form
  pub wired : (form : WireForm) → IsWireForm words form → ended ≡ status.Done
      → HasWired world sink form
  pub unwired : (form : UnwireForm) → IsUnwireForm words form → ended ≡ status.Done
      → HasUnwired world sink form
  pub delegated : (form : DelegateForm) → IsDelegateForm words form → ended ≡ status.Done
      → HasDelegated world sink form
  pub wider_node : (form : DelegateForm) → IsDelegateForm words form → ended ≡ status.RefineNo
      → HasFoundWiderNode world sink form
