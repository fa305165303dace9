-- What a command line is answered, how its run ends, and what the sink took.
use Rattle.std.specs.Prelude.{◌≡◌, ◌⊎◌, ℕ, ⊤, List, [], ◌∷◌, ◌++◌, Option, Some, codes}
use Rattle.merlin_base.specs.Texts.{joined}
use Rattle.merlin_base.specs.Outside.{KnownContents, Rose, Grows, GrowsByPrefix}
use Rattle.merlin_base.specs.declared.status.Status.{Status}
use Rattle.merlin_base.specs.declared.status.Status.TheVariants as status
use Rattle.merlin_model.specs.Functions.{Behaviour}
use Rattle.config_text.specs.Words.{line}
use Rattle.merlin.specs.Commands.{Form, Reply, IsForm, Means, reply_lines, reply_status}
use Rattle.merlin.specs.Contents.{AreContentsOf, IsFirstTooLongOf, RoseInFilesOf}

-- What a run is over: the contents of files by name, where they are told, the counts of their
-- faults before and after, and what packet
-- functions do.
pub record World : Type 1 where
  pub known : KnownContents
  pub before : List ℕ → ℕ
  pub after : List ℕ → ℕ
  pub behaviour : Behaviour

-- what became of a sink in a run: the counts of its faults, and the bytes taken, where they are
-- told
pub record Taking : Type 0 where
  pub faults_before : ℕ
  pub faults_after : ℕ
  pub before : Option (List ℕ)
  pub after : Option (List ℕ)

abbrev pub world_of : KnownContents → (List ℕ → ℕ) → (List ℕ → ℕ) → Behaviour → World
world_of known before after behaviour =
    record { known = known; before = before; after = after; behaviour = behaviour }

abbrev pub taking_of : ℕ → ℕ → Option (List ℕ) → Option (List ℕ) → Taking
taking_of faults_before faults_after before after =
    record {
      faults_before = faults_before;
      faults_after = faults_after;
      before = before;
      after = after;
    }

-- what words may be answered
pub data Answer : Type 0 where
  NoForm : Answer
  NotRead : Answer
  TooLong : List ℕ → Answer
  Replied : (form : Form) → Reply form → Answer

-- the words are no form of a command
abbrev pub IsNoForm : List (List ℕ) → Type 0
IsNoForm words = (form : Form) → ¬ IsForm words form

-- The words ask for this, and these are the contents of all its files, where contents are told.
pub record IsAsked (world : World) (words : List (List ℕ)) (form : Form)
    (contents : List (List ℕ)) : Type 0 where
  pub is_form : IsForm words form
  pub are_contents : AreContentsOf world.known form contents

-- The cause of each answer.
abbrev pub IsAnswerTo : World → List (List ℕ) → Answer → Type 0
IsAnswerTo world words NoForm = IsNoForm words
IsAnswerTo world words NotRead =
    (form : Form) × IsForm words form × RoseInFilesOf world.known form world.before world.after
IsAnswerTo world words (TooLong name) =
    (form : Form) × IsForm words form × IsFirstTooLongOf world.known form name
IsAnswerTo world words (Replied form reply) =
    (contents : List (List ℕ)) × IsAsked world words form contents
    × Means world.behaviour form contents reply

-- The lines of an answer, and its status.

abbrev pub usage_text : List ℕ
usage_text = codes "usage: compile POLICY TOPOLOGY shortest|ratio|reserved [BUDGET]; check POLICY TOPOLOGY RESULT; trace TOPOLOGY RESULT HOST PACKET; refine PARENT CHILD TOPOLOGY; refute PROGRAM TREE; grow N; wire TOPOLOGY RESULT SWITCH; unwire TOPOLOGY SWITCH MESSAGES; delegate TREE TOPOLOGY; fair DEMANDS; fairness DEMANDS SHARES"

abbrev pub answer_lines : Answer → List (List ℕ)
answer_lines NoForm = line usage_text ∷ []
answer_lines NotRead = line (codes "fault: read") ∷ []
answer_lines (TooLong name) = line (codes "refused: too long " ++ name) ∷ []
answer_lines (Replied form reply) = reply_lines form reply

abbrev pub answer_status : Answer → Status
answer_status NoForm = status.Usage
answer_status NotRead = status.ReadFault
answer_status (TooLong name) = status.Refused
answer_status (Replied form reply) = reply_status form reply

abbrev pub answer_text : Answer → List ℕ
answer_text answer = joined (answer_lines answer)

-- the run broke off: the sink failed, or memory ran out
abbrev pub IsBrokenOff : Taking → Status → Type 0
IsBrokenOff sink ended =
    ((ended ≡ status.WriteFault) × Rose sink.faults_before sink.faults_after) ⊎ (ended ≡ status.Memory)

-- The sink took the text of the answer, whose status it is, or a prefix of it.
abbrev pub EndsWith : Answer → Taking → Status → Type 0
EndsWith answer sink ended =
    ((ended ≡ answer_status answer) × Grows sink.before sink.after (answer_text answer))
    ⊎ (IsBrokenOff sink ended × GrowsByPrefix sink.before sink.after (answer_text answer))

-- memory ran out before anything was written
abbrev pub LacksMemory : Taking → Status → Type 0
LacksMemory sink ended = (ended ≡ status.Memory) × (sink.after ≡ sink.before)

-- Each run has an answer with its cause, unless memory ran out before anything was written.
abbrev pub IsOutcome : World → Taking → List (List ℕ) → Status → Type 0
IsOutcome world sink words ended =
    LacksMemory sink ended
    ⊎ ((answer : Answer) × IsAnswerTo world words answer × EndsWith answer sink ended)

-- The status, unless the run broke off.
abbrev pub EndsAs : Taking → Status → Status → Type 0
EndsAs sink ended wanted = (ended ≡ wanted) ⊎ IsBrokenOff sink ended

-- A command was replied to with this status, and the sink took exactly the lines of the reply.
pub record IsReplied (world : World) (sink : Taking) (words : List (List ℕ)) (ended : Status)
    : Type 0 where
  pub form : Form
  pub contents : List (List ℕ)
  pub asked : IsAsked world words form contents
  pub reply : Reply form
  pub means : Means world.behaviour form contents reply
  pub status : ended ≡ reply_status form reply
  pub written : Grows sink.before sink.after (joined (reply_lines form reply))

-- a status that replies alone have
abbrev pub IsOfRepliesAlone : Status → Type 0
IsOfRepliesAlone status.Done = ⊤
IsOfRepliesAlone status.Infeasible = ⊤
IsOfRepliesAlone status.Budget = ⊤
IsOfRepliesAlone status.CheckNo = ⊤
IsOfRepliesAlone status.RefineNo = ⊤
IsOfRepliesAlone status.StillRunning = ⊤
IsOfRepliesAlone ended = ⊥

-- A file of the command is too long, and the sink took the line that says so.
pub record IsRefusedFile (world : World) (sink : Taking) (words : List (List ℕ)) : Type 0 where
  pub form : Form
  pub is_form : IsForm words form
  pub name : List ℕ
  pub long : IsFirstTooLongOf world.known form name
  pub written : Grows sink.before sink.after (answer_text (TooLong name))

-- These contents are told, and the words ask for this over them.
pub record IsGiven (world : World) (words : List (List ℕ)) (form : Form)
    (contents : List (List ℕ)) : Type 0 where
  pub known_contents : List ℕ → Option (List ℕ)
  pub is_known : world.known ≡ Some known_contents
  pub asked : IsAsked world words form contents

-- The contents were replied to, unless memory ran out before.
abbrev pub IsReplyOver : World → Taking → (form : Form) → List (List ℕ) → Status → Type 0
IsReplyOver world sink form contents ended =
    LacksMemory sink ended
    ⊎ ((reply : Reply form) × Means world.behaviour form contents reply
    × EndsWith (Replied form reply) sink ended)

-- How a run may end over contents that are told.
abbrev pub IsEndOver : World → Taking → (form : Form) → List (List ℕ) → Status → Type 0
IsEndOver world sink form contents ended =
    (RoseInFilesOf world.known form world.before world.after × EndsWith NotRead sink ended)
    ⊎ IsReplyOver world sink form contents ended

-- These contents are told, and a file of the command is too long.
pub record IsTooLong (world : World) (words : List (List ℕ)) : Type 0 where
  pub known_contents : List ℕ → Option (List ℕ)
  pub is_known : world.known ≡ Some known_contents
  pub form : Form
  pub is_form : IsForm words form
  pub name : List ℕ
  pub long : IsFirstTooLongOf world.known form name

-- the count of a file of the command has risen
abbrev pub RoseForAFile : World → List (List ℕ) → Type 0
RoseForAFile world words =
    (form : Form) × IsForm words form × RoseInFilesOf world.known form world.before world.after

-- What the end of a run says, whatever the commands are.
pub record SaysByStatus (world : World) (sink : Taking) (words : List (List ℕ)) (ended : Status)
    : Type 0 where
  -- Usage comes exactly where the words are no form of a command, unless the run broke off.
  pub usage : ended ≡ status.Usage → IsNoForm words
  pub usage_given : IsNoForm words → EndsAs sink ended status.Usage
  -- A fault comes only where a count rose in the run: that of a file which the words name, or which
  -- the contents of such files name, or that of the sink.
  pub read_fault : ended ≡ status.ReadFault → RoseForAFile world words
  pub write_fault : ended ≡ status.WriteFault → Rose sink.faults_before sink.faults_after
  -- Where a file is too long, and contents are told, the run is refused.
  pub too_long_given : IsTooLong world words → (ended ≡ status.ReadFault)
      ⊎ EndsAs sink ended status.Refused
  -- A status other than these has a reply that was written whole, and whose meaning is true of the
  -- files.
  pub refused : ended ≡ status.Refused → IsReplied world sink words ended
      ⊎ IsRefusedFile world sink words
  pub replied : IsOfRepliesAlone ended → IsReplied world sink words ended
  -- Over contents that are told, the run blames a file whose count rose, or replies by the
  -- contents.
  pub given : (form : Form) (contents : List (List ℕ)) → IsGiven world words form contents
      → IsEndOver world sink form contents ended
  -- No text blames a file where no count rose.
  pub no_blame : (form : Form) (contents : List (List ℕ)) → IsGiven world words form contents →
      ¬ RoseInFilesOf world.known form world.before world.after →
      IsReplyOver world sink form contents ended
  -- Where each reply to the contents has one status, that comes.
  pub status_given : (form : Form) (contents : List (List ℕ)) (wanted : Status)
      → IsGiven world words form contents →
      ((reply : Reply form) → Means world.behaviour form contents reply
      → reply_status form reply ≡ wanted) →
      (ended ≡ status.ReadFault) ⊎ EndsAs sink ended wanted
