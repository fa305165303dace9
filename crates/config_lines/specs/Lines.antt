-- The lines of a result over a network, of each kind: which values have a line.
use Rattle.std.specs.Prelude.{ℕ, ◌≢◌, List, []}
use Rattle.std.specs.List.{AllByRecursion}
use Rattle.merlin_model.specs.declared.policy.Symbol.{Symbol}
use Rattle.merlin_model.specs.declared.config.Rule.{Rule}
use Rattle.merlin_model.specs.declared.config.Process.{Process}
use Rattle.merlin_model.specs.declared.config.Queue.{Queue}
use Rattle.merlin_model.specs.declared.config.HostLine.{HostLine}
use Rattle.merlin_model.specs.declared.config.HostLine.TheVariants as on_host
use Rattle.merlin_model.specs.Networks.{Network}
use Rattle.merlin_base.specs.Lexemes.{IsIdentifier}
use Rattle.config_text.specs.declared.loads.Load.{Load}
use Rattle.config_text.specs.Words.{line}
use Rattle.config_text.specs.Lines.{name_at, rule_text, process_text, queue_text, host_text, host_of}
use Rattle.config_text.specs.Loads.{load_text}
use Rattle.config_text.specs.Result.{walk_text}
use Rattle.config_lines.specs.declared.limits.TheConstants.{MAX_QUEUE}
use Rattle.config_lines.specs.Words.{IsLimited, IsPortNumber, IsTag, IsQueue, HasFewDigits, IsLocation, IsLineFunction}
use Rattle.config_lines.specs.Parts.{IsMacNumber, HasTwoBytes, IsLineMatch, AreLineActions, IsHostMatch, IsLineSymbol}

abbrev pub rule_line : Network → Rule → List ℕ
rule_line net r = line (rule_text (name_at net r.loc) r)

pub record IsRuleLine (net : Network) (r : Rule) : Type 0 where
  pub loc : IsLocation net r.loc
  pub priority : HasTwoBytes r.priority
  pub fits : IsLineMatch r.fits
  pub actions : AreLineActions r.actions

abbrev pub process_line : Network → Process → List ℕ
process_line net p = line (process_text (name_at net p.loc) net.functions p)

-- any functions, also one twice; the queue is 0 for none
pub record IsProcessLine (net : Network) (p : Process) : Type 0 where
  pub loc : IsLocation net p.loc
  pub tag : IsTag p.tag
  pub eth_dst : IsMacNumber p.eth_dst
  pub functions : AllByRecursion (IsLineFunction net) p.functions
  pub next_tag : IsTag p.next_tag
  pub port : IsPortNumber p.port
  pub queue : IsLimited 0 MAX_QUEUE p.queue

abbrev pub queue_line : Network → Queue → List ℕ
queue_line net q = line (queue_text (name_at net q.loc) q)

pub record IsQueueLine (net : Network) (q : Queue) : Type 0 where
  pub loc : IsLocation net q.loc
  pub port : IsPortNumber q.port
  pub queue : IsQueue q.queue
  pub rate : HasFewDigits q.rate

abbrev pub host_line : Network → HostLine → List ℕ
host_line net h = line (host_text (name_at net (host_of h)) h)

-- the number of a class is from 1 on and has 16 bits
abbrev pub IsClass : ℕ → Type 0
IsClass = IsLimited 1 65535

abbrev pub AreHostNumbers : HostLine → Type 0
AreHostNumbers (on_host.Root host) = Unit {0}
AreHostNumbers (on_host.Class host class rate ceil) = IsClass class × HasFewDigits rate × HasFewDigits ceil
AreHostNumbers (on_host.Classify host m class) = IsHostMatch m × IsClass class
AreHostNumbers (on_host.Leave host m) = IsHostMatch m
AreHostNumbers (on_host.Output host m drop) = IsHostMatch m

pub record IsHostLine (net : Network) (h : HostLine) : Type 0 where
  pub loc : IsLocation net (host_of h)
  pub numbers : AreHostNumbers h

abbrev pub load_line : Network → Load → List ℕ
load_line net l = line (load_text (name_at net l.loc) l)

pub record IsLoadLine (net : Network) (l : Load) : Type 0 where
  pub loc : IsLocation net l.loc
  pub port : IsPortNumber l.port
  pub load : HasFewDigits l.load
  pub capacity : HasFewDigits l.capacity

-- a walk beside the id of its statement
abbrev pub walk_line : Network → List ℕ × List Symbol → List ℕ
walk_line net walk = line (walk_text net walk)

pub record IsWalkLine (net : Network) (walk : List ℕ × List Symbol) : Type 0 where
  pub id : IsIdentifier walk.0
  pub some : walk.1 ≢ []
  pub symbols : AllByRecursion (IsLineSymbol net) walk.1
