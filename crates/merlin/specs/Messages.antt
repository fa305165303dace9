-- What the parts of the command `unwire` report, on the way to its reply.
use Rattle.std.specs.Prelude.{◌≡◌, ◌++◌, ℕ, ⊤, List, ◌∷◌, Ok, Some}
use Rattle.hex.specs.Hex.{decode_of}
use Rattle.merlin_base.specs.Lexemes.{Lacks}
use Rattle.merlin_model.specs.Networks.{Network}
use Rattle.merlin_model.specs.declared.config.Rule.{Rule}
use Rattle.openflow_wire.specs.Messages.{message_fault}
use Rattle.merlin.specs.declared.unwire.DigitsFault.{DigitsFault}
use Rattle.merlin.specs.declared.unwire.DigitsFault.TheVariants as faults
use Rattle.merlin.specs.declared.unwire.MessageFault.{MessageFault}
use Rattle.merlin.specs.declared.unwire.UnwireReply.{UnwireReply}
use Rattle.merlin.specs.declared.unwire.UnwireReply.TheVariants.{BadTopology, UnknownSwitch, NoDigits, BadMessage, Written}
use Rattle.merlin.specs.Unwire.{IsLineOfRule, HasNoDigits, HasNoMessage, HasConfigOf}

-- why digits are no message of a rule
abbrev pub IsDigitsFault : List ℕ → DigitsFault → Type 0
IsDigitsFault digits faults.NoDigits = (message : List ℕ) → ¬ (decode_of digits ≡ Ok message)
IsDigitsFault digits (faults.BadMessage at) =
    (message : List ℕ) × (decode_of digits ≡ Ok message) × (message_fault message ≡ Some at)
IsDigitsFault digits faults.OutOfMemory = ⊤

-- The text begins with the line of the message of a rule.
pub record IsLineBefore (switch : ℕ) (text : List ℕ) (rule : Rule) (rest : List ℕ) : Type 0 where
  pub digits : List ℕ
  pub whole : text ≡ digits ++ 10 ∷ rest
  pub is_line : IsLineOfRule switch digits rule

-- The text begins with a line whose digits stand for no message, by the field at this place.
pub record BeginsWrong (text : List ℕ) (at : ℕ) : Type 0 where
  pub digits : List ℕ
  pub more : List ℕ
  pub whole : text ≡ digits ++ 10 ∷ more
  pub message : List ℕ
  pub stand_for : decode_of digits ≡ Ok message
  pub wrong : message_fault message ≡ Some at

-- why a text begins with no line of a rule's message
abbrev pub IsFaultBefore : List ℕ → DigitsFault → Type 0
IsFaultBefore text faults.NoDigits = (digits message more : List ℕ) → Lacks 10 digits →
    text ≡ digits ++ 10 ∷ more → ¬ (decode_of digits ≡ Ok message)
IsFaultBefore text (faults.BadMessage at) = BeginsWrong text at
IsFaultBefore text faults.OutOfMemory = ⊤

-- why a text is not all lines of messages
abbrev pub IsFaultIn : ℕ → List ℕ → ℕ → DigitsFault → Type 0
IsFaultIn switch text number faults.NoDigits = HasNoDigits switch text number
IsFaultIn switch text number (faults.BadMessage at) = HasNoMessage switch text number at
IsFaultIn switch text number faults.OutOfMemory = ⊤

abbrev pub IsMessageFault : ℕ → List ℕ → MessageFault → Type 0
IsMessageFault switch text fault = IsFaultIn switch text fault.line fault.fault

-- what is replied to messages for a switch of a network
abbrev pub Unwired : Network → ℕ → List ℕ → UnwireReply → Type 0
Unwired net switch messages (BadTopology fault) = ⊥
Unwired net switch messages (UnknownSwitch name) = ⊥
Unwired net switch messages (NoDigits number) = HasNoDigits switch messages number
Unwired net switch messages (BadMessage number at) = HasNoMessage switch messages number at
Unwired net switch messages (Written over config) = HasConfigOf messages over config net switch
