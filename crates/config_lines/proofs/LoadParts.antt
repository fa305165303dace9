-- The line of a load, from each of its parts on, with what stands behind it.
use Rattle.std.proofs.Common.{◌≡◌, ℕ, List, ◌∷◌, ◌++◌, ◌∙◌, append_assoc, arith}
use Rattle.std.specs.Prelude.{codes}
use Rattle.std.specs.Fmt.{decimal}
use Rattle.merlin_model.specs.Networks.{Network}
use Rattle.config_text.specs.declared.loads.Load.{Load}
use Rattle.config_text.specs.Lines.{name_at}
use Rattle.config_lines.specs.Words.{IsPortNumber, HasFewDigits, IsLocation}
use Rattle.config_lines.specs.Lines.{load_line, IsLoadLine}
use Rattle.config_lines.proofs.Then.{behind_word, behind_part, location_free, short_free, number_free}

abbrev pub from_capacity : Network → Load → List ℕ → List ℕ
from_capacity net l more = decimal l.capacity ++ 10 ∷ more

abbrev pub from_load : Network → Load → List ℕ → List ℕ
from_load net l more = decimal l.load ++ 47 ∷ from_capacity net l more

abbrev pub from_port : Network → Load → List ℕ → List ℕ
from_port net l more = decimal l.port ++ 32 ∷ from_load net l more

abbrev pub from_loc : Network → Load → List ℕ → List ℕ
from_loc net l more = name_at net l.loc ++ 32 ∷ from_port net l more

pub parts : (net : Network) (l : Load) (more : List ℕ) → load_line net l ++ more ≡ codes "load " ++ from_loc net l more
parts net l more = simp append_assoc

pub start : (net : Network) (text r : List ℕ) (l : Load) (more : List ℕ) → text ≡ codes "load " ++ r → text ≡ load_line net l ++ more → r ≡ from_loc net l more
start net text r l more e h = behind_word (codes "load ") text r _ e (h ∙ parts net l more)

pub after_loc : (net : Network) (text rest : List ℕ) (loc : ℕ) (l : Load) (more : List ℕ) → text ≡ name_at net loc ++ 32 ∷ rest → IsLocation net loc → IsLoadLine net l → text ≡ from_loc net l more → rest ≡ from_port net l more
after_loc net text rest loc l more e f is h = behind_part 32 text (name_at net loc) rest (name_at net l.loc) _ e (location_free 32 net loc (omega arith) f) (location_free 32 net l.loc (omega arith) is.loc) h

pub after_port : (net : Network) (text rest : List ℕ) (port : ℕ) (l : Load) (more : List ℕ) → text ≡ decimal port ++ 32 ∷ rest → IsPortNumber port → IsLoadLine net l → text ≡ from_port net l more → rest ≡ from_load net l more
after_port net text rest port l more e f is h = behind_part 32 text (decimal port) rest (decimal l.port) _ e (short_free 32 1 65279 port (omega arith) (omega arith) f) (short_free 32 1 65279 l.port (omega arith) (omega arith) is.port) h

pub after_load : (net : Network) (text rest : List ℕ) (load : ℕ) (l : Load) (more : List ℕ) → text ≡ decimal load ++ 47 ∷ rest → HasFewDigits load → IsLoadLine net l → text ≡ from_load net l more → rest ≡ from_capacity net l more
after_load net text rest load l more e f is h = behind_part 47 text (decimal load) rest (decimal l.load) _ e (number_free 47 load (omega arith) f) (number_free 47 l.load (omega arith) is.load) h

pub after_capacity : (net : Network) (text rest : List ℕ) (capacity : ℕ) (l : Load) (more : List ℕ) → text ≡ decimal capacity ++ 10 ∷ rest → HasFewDigits capacity → IsLoadLine net l → text ≡ from_capacity net l more → rest ≡ more
after_capacity net text rest capacity l more e f is h = behind_part 10 text (decimal capacity) rest (decimal l.capacity) _ e (number_free 10 capacity (omega arith) f) (number_free 10 l.capacity (omega arith) is.capacity) h
