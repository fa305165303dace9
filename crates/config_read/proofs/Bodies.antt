-- The lines of a result behind its second line, kind by kind, up to the tree.
use Rattle.std.proofs.Common.{◌≡◌, ◌≢◌, ℕ, ◌⊎◌, inl, inr, List, ◌∷◌, refl, arith}
use Rattle.merlin_model.specs.declared.config.Rule.{Rule}
use Rattle.merlin_model.specs.declared.config.Process.{Process}
use Rattle.merlin_model.specs.declared.config.Queue.{Queue}
use Rattle.merlin_model.specs.declared.config.HostLine.{HostLine}
use Rattle.merlin_model.specs.declared.config.HostLine.TheVariants as on_host
use Rattle.merlin_model.specs.declared.config.Config.{Config}
use Rattle.merlin_model.specs.declared.certificate.Tree.{Tree}
use Rattle.merlin_model.specs.Networks.{Network}
use Rattle.merlin_base.specs.Faults.{GoesWrong}
use Rattle.merlin_model.specs.declared.policy.Symbol.{Symbol}
use Rattle.config_text.specs.declared.loads.Load.{Load}
use Rattle.config_lines.specs.Lines.{rule_line, IsRuleLine, process_line, IsProcessLine, queue_line, IsQueueLine, host_line, IsHostLine, load_line, walk_line, IsWalkLine}
use Rattle.config_read.specs.declared.body.Body.{Body}
use Rattle.config_read.specs.Sections.{TakesConfig, IsVersionLoad}
use Rattle.config_read.specs.Bodies.{TakesBody}
use Rattle.config_read.specs.Tails.{closing_tree, IsTree}
use Rattle.config_read.proofs.Stars.{AreLines, AreApart, Begin, star_text, IsStar, star_wrong, begin_apart, star_begin}
use Rattle.config_read.proofs.LineKinds.{rule_lines, process_lines, queue_lines, load_lines, walk_lines}
use Rattle.config_read.proofs.HostKinds.{host_lines}

-- From each kind of line on, to the end.

abbrev pub from_hosts : Network → List HostLine × Tree → List ℕ
from_hosts net = star_text (host_line net) closing_tree

abbrev pub AreHosts : Network → List HostLine × Tree → Type 0
AreHosts net = IsStar (IsHostLine net) IsTree

abbrev pub from_queues : Network → List Queue × (List HostLine × Tree) → List ℕ
from_queues net = star_text (queue_line net) (from_hosts net)

abbrev pub AreQueues : Network → List Queue × (List HostLine × Tree) → Type 0
AreQueues net = IsStar (IsQueueLine net) (AreHosts net)

abbrev pub from_processes : Network → List Process × (List Queue × (List HostLine × Tree)) → List ℕ
from_processes net = star_text (process_line net) (from_queues net)

abbrev pub AreProcesses : Network → List Process × (List Queue × (List HostLine × Tree)) → Type 0
AreProcesses net = IsStar (IsProcessLine net) (AreQueues net)

abbrev pub from_rules : Network → List Rule × (List Process × (List Queue × (List HostLine × Tree))) → List ℕ
from_rules net = star_text (rule_line net) (from_processes net)

abbrev pub AreRules : Network → List Rule × (List Process × (List Queue × (List HostLine × Tree))) → Type 0
AreRules net = IsStar (IsRuleLine net) (AreProcesses net)

abbrev pub from_loads : Network → List Load × (List Rule × (List Process × (List Queue × (List HostLine × Tree)))) → List ℕ
from_loads net = star_text (load_line net) (from_rules net)

abbrev pub AreLoads : Network → ℕ → List Load × (List Rule × (List Process × (List Queue × (List HostLine × Tree)))) → Type 0
AreLoads net version = IsStar (IsVersionLoad net version) (AreRules net)

-- all that stands behind the second line of a result with an assignment
abbrev pub Lists : Type 0
Lists = List (List ℕ × List Symbol) × (List Load × (List Rule × (List Process × (List Queue × (List HostLine × Tree)))))

abbrev pub from_walks : Network → Lists → List ℕ
from_walks net = star_text (walk_line net) (from_loads net)

abbrev pub AreWalks : Network → ℕ → Lists → Type 0
AreWalks net version = IsStar (IsWalkLine net) (AreLoads net version)

-- Their first bytes: t of `tree`, h of `host`, q of `queue`, p of `process`, r of `rule`, l of `load`, w of `walk`.

Tree_begins : ℕ → Type 0
Tree_begins c = c ≡ 116

Hosts_begin : ℕ → Type 0
Hosts_begin c = (c ≡ 104) ⊎ Tree_begins c

Queues_begin : ℕ → Type 0
Queues_begin c = (c ≡ 113) ⊎ Hosts_begin c

Processes_begin : ℕ → Type 0
Processes_begin c = (c ≡ 112) ⊎ Queues_begin c

Rules_begin : ℕ → Type 0
Rules_begin c = (c ≡ 114) ⊎ Processes_begin c

Loads_begin : ℕ → Type 0
Loads_begin c = (c ≡ 108) ⊎ Rules_begin c

tree_begins : Begin Tree_begins closing_tree IsTree
unfolding Tree_begins
tree_begins t is = (116, _, refl, refl)

host_heads : (net : Network) (h : HostLine) → (cs : List ℕ) × (host_line net h ≡ 104 ∷ cs)
host_heads net (on_host.Root host) = (_, refl)
host_heads net (on_host.Class host class rate ceil) = (_, refl)
host_heads net (on_host.Classify host m class) = (_, refl)
host_heads net (on_host.Leave host m) = (_, refl)
host_heads net (on_host.Output host m drop) = (_, refl)

walk_heads : (net : Network) (walk : List ℕ × List Symbol) → (cs : List ℕ) × (walk_line net walk ≡ 119 ∷ cs)
walk_heads net walk = (_, refl)

hosts_begin : (net : Network) → Begin Hosts_begin (from_hosts net) (AreHosts net)
unfolding Hosts_begin
hosts_begin net = star_begin (host_line net) (IsHostLine net) closing_tree IsTree 104 Tree_begins Hosts_begin (host_heads net) tree_begins (inl refl) (λ c p. inr p)

queues_begin : (net : Network) → Begin Queues_begin (from_queues net) (AreQueues net)
unfolding Queues_begin
queues_begin net = star_begin (queue_line net) (IsQueueLine net) (from_hosts net) (AreHosts net) 113 Hosts_begin Queues_begin (λ q. (_, refl)) (hosts_begin net) (inl refl) (λ c p. inr p)

processes_begin : (net : Network) → Begin Processes_begin (from_processes net) (AreProcesses net)
unfolding Processes_begin
processes_begin net = star_begin (process_line net) (IsProcessLine net) (from_queues net) (AreQueues net) 112 Queues_begin Processes_begin (λ p. (_, refl)) (queues_begin net) (inl refl) (λ c p. inr p)

rules_begin : (net : Network) → Begin Rules_begin (from_rules net) (AreRules net)
unfolding Rules_begin
rules_begin net = star_begin (rule_line net) (IsRuleLine net) (from_processes net) (AreProcesses net) 114 Processes_begin Rules_begin (λ r. (_, refl)) (processes_begin net) (inl refl) (λ c p. inr p)

loads_begin : (net : Network) (version : ℕ) → Begin Loads_begin (from_loads net) (AreLoads net version)
unfolding Loads_begin
loads_begin net version = star_begin (load_line net) (IsVersionLoad net version) (from_rules net) (AreRules net) 108 Rules_begin Loads_begin (λ l. (_, refl)) (rules_begin net) (inl refl) (λ c p. inr p)

pub hosts_apart : (net : Network) → AreApart (host_line net) (IsHostLine net) closing_tree IsTree
unfolding Tree_begins
hosts_apart net = begin_apart (host_line net) (IsHostLine net) closing_tree IsTree 104 Tree_begins (host_heads net) tree_begins (λ c p e. omega arith)

pub queues_apart : (net : Network) → AreApart (queue_line net) (IsQueueLine net) (from_hosts net) (AreHosts net)
unfolding Tree_begins Hosts_begin
queues_apart net = begin_apart (queue_line net) (IsQueueLine net) (from_hosts net) (AreHosts net) 113 Hosts_begin (λ q. (_, refl)) (hosts_begin net) differ
  where
    differ : (c : ℕ) → Hosts_begin c → c ≢ 113
    differ c (inl p) e = omega arith
    differ c (inr p) e = omega arith

pub processes_apart : (net : Network) → AreApart (process_line net) (IsProcessLine net) (from_queues net) (AreQueues net)
unfolding Tree_begins Hosts_begin Queues_begin
processes_apart net = begin_apart (process_line net) (IsProcessLine net) (from_queues net) (AreQueues net) 112 Queues_begin (λ p. (_, refl)) (queues_begin net) differ
  where
    differ : (c : ℕ) → Queues_begin c → c ≢ 112
    differ c (inl p) e = omega arith
    differ c (inr (inl p)) e = omega arith
    differ c (inr (inr p)) e = omega arith

pub rules_apart : (net : Network) → AreApart (rule_line net) (IsRuleLine net) (from_processes net) (AreProcesses net)
unfolding Tree_begins Hosts_begin Queues_begin Processes_begin
rules_apart net = begin_apart (rule_line net) (IsRuleLine net) (from_processes net) (AreProcesses net) 114 Processes_begin (λ r. (_, refl)) (processes_begin net) differ
  where
    differ : (c : ℕ) → Processes_begin c → c ≢ 114
    differ c (inl p) e = omega arith
    differ c (inr (inl p)) e = omega arith
    differ c (inr (inr (inl p))) e = omega arith
    differ c (inr (inr (inr p))) e = omega arith

pub loads_apart : (net : Network) (version : ℕ) → AreApart (load_line net) (IsVersionLoad net version) (from_rules net) (AreRules net)
unfolding Tree_begins Hosts_begin Queues_begin Processes_begin Rules_begin
loads_apart net version = begin_apart (load_line net) (IsVersionLoad net version) (from_rules net) (AreRules net) 108 Rules_begin (λ l. (_, refl)) (rules_begin net) differ
  where
    differ : (c : ℕ) → Rules_begin c → c ≢ 108
    differ c (inl p) e = omega arith
    differ c (inr (inl p)) e = omega arith
    differ c (inr (inr (inl p))) e = omega arith
    differ c (inr (inr (inr (inl p)))) e = omega arith
    differ c (inr (inr (inr (inr p)))) e = omega arith

pub walks_apart : (net : Network) (version : ℕ) → AreApart (walk_line net) (IsWalkLine net) (from_loads net) (AreLoads net version)
unfolding Tree_begins Hosts_begin Queues_begin Processes_begin Rules_begin Loads_begin
walks_apart net version = begin_apart (walk_line net) (IsWalkLine net) (from_loads net) (AreLoads net version) 119 Loads_begin (walk_heads net) (loads_begin net version) differ
  where
    differ : (c : ℕ) → Loads_begin c → c ≢ 119
    differ c (inl p) e = omega arith
    differ c (inr (inl p)) e = omega arith
    differ c (inr (inr (inl p))) e = omega arith
    differ c (inr (inr (inr (inl p)))) e = omega arith
    differ c (inr (inr (inr (inr (inl p))))) e = omega arith
    differ c (inr (inr (inr (inr (inr p))))) e = omega arith

-- Where the tree goes wrong, so do all lines from the rules on.
pub config_wrong : (net : Network) (text rest : List ℕ) (config : Config) (left : ℕ) → TakesConfig net text config rest → GoesWrong closing_tree IsTree rest left → GoesWrong (from_rules net) (AreRules net) text left
config_wrong net text rest config left t g =
    star_wrong (rule_line net) (IsRuleLine net) (from_processes net) (AreProcesses net) (rule_lines net) (rules_apart net) text config.rules t.behind_rules left t.rules
    (star_wrong (process_line net) (IsProcessLine net) (from_queues net) (AreQueues net) (process_lines net) (processes_apart net) t.behind_rules config.processes t.behind_processes left t.processes
    (star_wrong (queue_line net) (IsQueueLine net) (from_hosts net) (AreHosts net) (queue_lines net) (queues_apart net) t.behind_processes config.queues t.behind_queues left t.queues
    (star_wrong (host_line net) (IsHostLine net) closing_tree IsTree (host_lines net) (hosts_apart net) t.behind_queues config.hosts rest left t.hosts g)))

pub loads_are : (net : Network) (version : ℕ) → AreLines (load_line net) (IsVersionLoad net version)
loads_are net version = let lines = load_lines net in record { front = lines.front; is = lines.is; free = λ load is. lines.free load is.0 }

-- Where the tree goes wrong, so do all lines behind the second one.
pub body_wrong : (net : Network) (version : ℕ) (text rest : List ℕ) (body : Body) (left : ℕ) → TakesBody net version text body rest → GoesWrong closing_tree IsTree rest left → GoesWrong (from_walks net) (AreWalks net version) text left
body_wrong net version text rest body left t g =
    star_wrong (walk_line net) (IsWalkLine net) (from_loads net) (AreLoads net version) (walk_lines net) (walks_apart net version) text body.walks t.behind_walks left t.walks
    (star_wrong (load_line net) (IsVersionLoad net version) (from_rules net) (AreRules net) (loads_are net version) (loads_apart net version) t.behind_walks body.loads t.behind_loads left t.loads
    (config_wrong net t.behind_loads rest body.config left t.config g))
