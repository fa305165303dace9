-- The line of a middlebox, from each of its parts on, with what stands behind it.
use Rattle.std.proofs.Common.{◌≡◌, ℕ, List, ◌∷◌, ◌++◌, ◌∙◌, append_assoc, arith}
use Rattle.std.specs.Prelude.{codes}
use Rattle.std.specs.Fmt.{decimal}
use Rattle.merlin_model.specs.declared.config.Process.{Process}
use Rattle.merlin_model.specs.Networks.{Network}
use Rattle.merlin_base.specs.Addresses.{mac_text}
use Rattle.merlin_base.proofs.Cutting.{Free}
use Rattle.config_text.specs.Lines.{name_at, functions_text}
use Rattle.config_lines.specs.Words.{IsLimited, IsPortNumber, IsTag, IsLocation}
use Rattle.config_lines.specs.Parts.{IsMacNumber}
use Rattle.config_lines.specs.Lines.{process_line, IsProcessLine}
use Rattle.config_lines.proofs.Then.{behind_word, behind_part, location_free, short_free}
use Rattle.config_lines.proofs.AddressTexts.{mac_free}
use Rattle.config_lines.proofs.FunctionTexts.{functions_free}

abbrev pub from_queue : Network → Process → List ℕ → List ℕ
from_queue net p more = decimal p.queue ++ 10 ∷ more

abbrev pub from_port : Network → Process → List ℕ → List ℕ
from_port net p more = decimal p.port ++ 32 ∷ from_queue net p more

abbrev pub from_next_tag : Network → Process → List ℕ → List ℕ
from_next_tag net p more = decimal p.next_tag ++ 32 ∷ from_port net p more

abbrev pub from_functions : Network → Process → List ℕ → List ℕ
from_functions net p more = functions_text net.functions p.functions ++ 32 ∷ from_next_tag net p more

abbrev pub from_eth_dst : Network → Process → List ℕ → List ℕ
from_eth_dst net p more = mac_text p.eth_dst ++ 32 ∷ from_functions net p more

abbrev pub from_tag : Network → Process → List ℕ → List ℕ
from_tag net p more = decimal p.tag ++ 32 ∷ from_eth_dst net p more

abbrev pub from_loc : Network → Process → List ℕ → List ℕ
from_loc net p more = name_at net p.loc ++ 32 ∷ from_tag net p more

pub parts : (net : Network) (p : Process) (more : List ℕ) → process_line net p ++ more ≡ codes "process " ++ from_loc net p more
parts net p more = simp append_assoc

pub start : (net : Network) (text r : List ℕ) (p : Process) (more : List ℕ) → text ≡ codes "process " ++ r → text ≡ process_line net p ++ more → r ≡ from_loc net p more
start net text r p more e h = behind_word (codes "process ") text r _ e (h ∙ parts net p more)

pub after_loc : (net : Network) (text rest : List ℕ) (loc : ℕ) (p : Process) (more : List ℕ) → text ≡ name_at net loc ++ 32 ∷ rest → IsLocation net loc → IsProcessLine net p → text ≡ from_loc net p more → rest ≡ from_tag net p more
after_loc net text rest loc p more e f is h = behind_part 32 text (name_at net loc) rest (name_at net p.loc) _ e (location_free 32 net loc (omega arith) f) (location_free 32 net p.loc (omega arith) is.loc) h

pub after_tag : (net : Network) (text rest : List ℕ) (tag : ℕ) (p : Process) (more : List ℕ) → text ≡ decimal tag ++ 32 ∷ rest → IsTag tag → IsProcessLine net p → text ≡ from_tag net p more → rest ≡ from_eth_dst net p more
after_tag net text rest tag p more e f is h = behind_part 32 text (decimal tag) rest (decimal p.tag) _ e (short_free 32 1 4094 tag (omega arith) (omega arith) f) (short_free 32 1 4094 p.tag (omega arith) (omega arith) is.tag) h

pub after_eth_dst : (net : Network) (text rest : List ℕ) (eth_dst : ℕ) (p : Process) (more : List ℕ) → text ≡ mac_text eth_dst ++ 32 ∷ rest → IsMacNumber eth_dst → IsProcessLine net p → text ≡ from_eth_dst net p more → rest ≡ from_functions net p more
after_eth_dst net text rest eth_dst p more e f is h = behind_part 32 text (mac_text eth_dst) rest (mac_text p.eth_dst) _ e (mac_free 32 eth_dst (omega arith)) (mac_free 32 p.eth_dst (omega arith)) h

pub after_functions : (net : Network) (text rest : List ℕ) (functions : List ℕ) (p : Process) (more : List ℕ) → text ≡ functions ++ 32 ∷ rest → Free 32 functions → IsProcessLine net p → text ≡ from_functions net p more → rest ≡ from_next_tag net p more
after_functions net text rest functions p more e f is h = behind_part 32 text functions rest (functions_text net.functions p.functions) _ e (f) (functions_free 32 net p.functions (omega arith) is.functions) h

pub after_next_tag : (net : Network) (text rest : List ℕ) (next_tag : ℕ) (p : Process) (more : List ℕ) → text ≡ decimal next_tag ++ 32 ∷ rest → IsTag next_tag → IsProcessLine net p → text ≡ from_next_tag net p more → rest ≡ from_port net p more
after_next_tag net text rest next_tag p more e f is h = behind_part 32 text (decimal next_tag) rest (decimal p.next_tag) _ e (short_free 32 1 4094 next_tag (omega arith) (omega arith) f) (short_free 32 1 4094 p.next_tag (omega arith) (omega arith) is.next_tag) h

pub after_port : (net : Network) (text rest : List ℕ) (port : ℕ) (p : Process) (more : List ℕ) → text ≡ decimal port ++ 32 ∷ rest → IsPortNumber port → IsProcessLine net p → text ≡ from_port net p more → rest ≡ from_queue net p more
after_port net text rest port p more e f is h = behind_part 32 text (decimal port) rest (decimal p.port) _ e (short_free 32 1 65279 port (omega arith) (omega arith) f) (short_free 32 1 65279 p.port (omega arith) (omega arith) is.port) h

pub after_queue : (net : Network) (text rest : List ℕ) (queue : ℕ) (p : Process) (more : List ℕ) → text ≡ decimal queue ++ 10 ∷ rest → IsLimited 0 64 queue → IsProcessLine net p → text ≡ from_queue net p more → rest ≡ more
after_queue net text rest queue p more e f is h = behind_part 10 text (decimal queue) rest (decimal p.queue) _ e (short_free 10 0 64 queue (omega arith) (omega arith) f) (short_free 10 0 64 p.queue (omega arith) (omega arith) is.queue) h
