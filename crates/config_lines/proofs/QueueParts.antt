-- The line of a queue, from each of its parts on, with what stands behind it.
use Rattle.std.proofs.Common.{◌≡◌, ℕ, List, ◌∷◌, ◌++◌, ◌∙◌, append_assoc, arith}
use Rattle.std.proofs.lemmas.List.{append_cancel_left}
use Rattle.std.specs.Prelude.{codes}
use Rattle.std.specs.Fmt.{decimal}
use Rattle.merlin_model.specs.declared.config.Queue.{Queue}
use Rattle.merlin_model.specs.Networks.{Network}
use Rattle.config_text.specs.Lines.{name_at, rate_with_unit}
use Rattle.config_lines.specs.Words.{IsPortNumber, IsQueue, HasFewDigits, IsLocation}
use Rattle.config_lines.specs.Lines.{queue_line, IsQueueLine}
use Rattle.config_lines.proofs.Then.{behind_word, behind_part, behind_rate, location_free, short_free}

abbrev pub from_rate : Network → Queue → List ℕ → List ℕ
from_rate net q more = rate_with_unit q.rate ++ (codes "\n" ++ more)

abbrev pub from_queue : Network → Queue → List ℕ → List ℕ
from_queue net q more = decimal q.queue ++ 32 ∷ from_rate net q more

abbrev pub from_port : Network → Queue → List ℕ → List ℕ
from_port net q more = decimal q.port ++ 32 ∷ from_queue net q more

abbrev pub from_loc : Network → Queue → List ℕ → List ℕ
from_loc net q more = name_at net q.loc ++ 32 ∷ from_port net q more

pub parts : (net : Network) (q : Queue) (more : List ℕ) → queue_line net q ++ more ≡ codes "queue " ++ from_loc net q more
parts net q more = simp append_assoc

pub start : (net : Network) (text r : List ℕ) (q : Queue) (more : List ℕ) → text ≡ codes "queue " ++ r → text ≡ queue_line net q ++ more → r ≡ from_loc net q more
start net text r q more e h = behind_word (codes "queue ") text r _ e (h ∙ parts net q more)

pub after_loc : (net : Network) (text rest : List ℕ) (loc : ℕ) (q : Queue) (more : List ℕ) → text ≡ name_at net loc ++ 32 ∷ rest → IsLocation net loc → IsQueueLine net q → text ≡ from_loc net q more → rest ≡ from_port net q more
after_loc net text rest loc q more e f is h = behind_part 32 text (name_at net loc) rest (name_at net q.loc) _ e (location_free 32 net loc (omega arith) f) (location_free 32 net q.loc (omega arith) is.loc) h

pub after_port : (net : Network) (text rest : List ℕ) (port : ℕ) (q : Queue) (more : List ℕ) → text ≡ decimal port ++ 32 ∷ rest → IsPortNumber port → IsQueueLine net q → text ≡ from_port net q more → rest ≡ from_queue net q more
after_port net text rest port q more e f is h = behind_part 32 text (decimal port) rest (decimal q.port) _ e (short_free 32 1 65279 port (omega arith) (omega arith) f) (short_free 32 1 65279 q.port (omega arith) (omega arith) is.port) h

pub after_queue : (net : Network) (text rest : List ℕ) (queue : ℕ) (q : Queue) (more : List ℕ) → text ≡ decimal queue ++ 32 ∷ rest → IsQueue queue → IsQueueLine net q → text ≡ from_queue net q more → rest ≡ from_rate net q more
after_queue net text rest queue q more e f is h = behind_part 32 text (decimal queue) rest (decimal q.queue) _ e (short_free 32 1 64 queue (omega arith) (omega arith) f) (short_free 32 1 64 q.queue (omega arith) (omega arith) is.queue) h

pub after_rate : (net : Network) (text rest : List ℕ) (rate : ℕ) (q : Queue) (more : List ℕ) → text ≡ rate_with_unit rate ++ (codes "\n" ++ rest) → HasFewDigits rate → IsQueueLine net q → text ≡ from_rate net q more → rest ≡ more
after_rate net text rest rate q more e f is h = append_cancel_left (codes "\n") rest _ (behind_rate text _ _ rate q.rate e f is.rate h)
