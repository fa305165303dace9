-- A text has one result.
use Rattle.std.proofs.Common.{◌≡◌, ℕ, Bool, true, false, List, [], ◌∷◌, ◌++◌, Result, Ok, Err, IfOk, refl, sym, ◌∙◌, ap, arith}
use Rattle.merlin_model.specs.declared.policy.Objective.{Objective}
use Rattle.merlin_model.specs.declared.policy.Objective.TheVariants.{Shortest, Ratio, Reserved}
use Rattle.merlin_model.specs.declared.certificate.Tree.{Tree}
use Rattle.merlin_model.specs.Networks.{Network, IsNetwork}
use Rattle.merlin_base.specs.NodeTexts.{node_lines, end_line, nodes_text}
use Rattle.merlin_base.proofs.NodeTexts.{tree_once}
use Rattle.config_text.specs.declared.loads.Load.{Load}
use Rattle.config_text.specs.Result.{objective_word}
use Rattle.config_lines.specs.Lines.{rule_line, IsRuleLine, process_line, IsProcessLine, queue_line, IsQueueLine, host_line, IsHostLine, load_line, walk_line, IsWalkLine}
use Rattle.config_read.specs.declared.result.ResultText.{ResultText}
use Rattle.config_read.specs.declared.fault.ConfigFault.{ConfigFault}
use Rattle.config_read.specs.Sections.{IsVersionLoad}
use Rattle.config_read.specs.Tails.{closing_tree, IsTree}
use Rattle.config_read.specs.Heads.{first_line}
use Rattle.config_read.specs.Results.{is_feasible, result_text, IsResult}
use Rattle.config_read.specs.Answers.{IsTextOfResult}
use Rattle.config_read.proofs.Stars.{star_once}
use Rattle.config_read.proofs.LineKinds.{rule_lines, process_lines, queue_lines, walk_lines}
use Rattle.config_read.proofs.HostKinds.{host_lines}
use Rattle.config_read.proofs.Bodies.{Lists, from_hosts, AreHosts, from_queues, AreQueues, from_processes, AreProcesses, from_rules, AreRules, from_loads, AreLoads, from_walks, AreWalks, hosts_apart, queues_apart, processes_apart, rules_apart, loads_apart, walks_apart, loads_are}
use Rattle.config_read.proofs.FirstLines.{first_once, behind_first, IsForm}
use Rattle.config_read.proofs.Wholes.{least_of, infeasible_of, as_least, as_infeasible, least_rest, infeasible_rest, least_tail, infeasible_tail}
use Rattle.config_read.proofs.Ends.{tree_rest, behind_whole}
use Rattle.config_read.proofs.OneLine.{rule_once, process_once, queue_once, load_once, walk_once}
use Rattle.config_read.proofs.OneHost.{host_once}

heads : (a b : ℕ) (x y : List ℕ) → a ∷ x ≡ b ∷ y → a ≡ b
heads a b x y e = cc

thirds : (a b c d f g : ℕ) (x y : List ℕ) → a ∷ b ∷ c ∷ x ≡ d ∷ f ∷ g ∷ y → c ≡ g
thirds a b c d f g x y e = cc

objective_same : (o p : Objective) → objective_word o ≡ objective_word p → o ≡ p
objective_same Shortest Shortest e = refl
objective_same Ratio Ratio e = refl
objective_same Reserved Reserved e = refl
objective_same Shortest Ratio e = absurd (let h = heads 115 114 _ _ e in omega arith)
objective_same Shortest Reserved e = absurd (let h = heads 115 114 _ _ e in omega arith)
objective_same Ratio Shortest e = absurd (let h = heads 114 115 _ _ e in omega arith)
objective_same Ratio Reserved e = absurd (let h = thirds 114 97 116 114 101 115 _ _ e in omega arith)
objective_same Reserved Shortest e = absurd (let h = heads 114 115 _ _ e in omega arith)
objective_same Reserved Ratio e = absurd (let h = thirds 114 101 115 114 97 116 _ _ e in omega arith)

-- Lines, kind by kind, and the tree behind them are told by their text.
lists_once : (net : Network) → IsNetwork net → (version : ℕ) (p q : Lists) (x y : List ℕ) → AreWalks net version p → AreWalks net version q → from_walks net p ++ x ≡ from_walks net q ++ y → (p ≡ q) × (x ≡ y)
lists_once net is version =
    star_once (walk_line net) (IsWalkLine net) (from_loads net) (AreLoads net version) (walk_lines net) (walks_apart net version) (walk_once net is)
    (star_once (load_line net) (IsVersionLoad net version) (from_rules net) (AreRules net) (loads_are net version) (loads_apart net version) (λ a b f g. load_once net is a b f.0 g.0)
    (star_once (rule_line net) (IsRuleLine net) (from_processes net) (AreProcesses net) (rule_lines net) (rules_apart net) (rule_once net is)
    (star_once (process_line net) (IsProcessLine net) (from_queues net) (AreQueues net) (process_lines net) (processes_apart net) (process_once net is)
    (star_once (queue_line net) (IsQueueLine net) (from_hosts net) (AreHosts net) (queue_lines net) (queues_apart net) (queue_once net is)
    (star_once (host_line net) (IsHostLine net) closing_tree IsTree (host_lines net) (hosts_apart net) (host_once net is) tree_rest)))))

form_once : (net : Network) → IsNetwork net → (version : ℕ) (feasible : Bool) (r s : ResultText × Tree) (x y : List ℕ) → IsForm net version feasible r → IsForm net version feasible s → behind_first net r ++ x ≡ behind_first net s ++ y → r ≡ s
form_once net is version true r s x y f g e =
    let a = as_least net version r f in let b = as_least net version s g in
    let second = least_rest a.objective b.objective a.value b.value (from_walks net a.lists ++ x) (from_walks net b.lists ++ y) a.written b.written (sym (least_tail net version r a x) ∙ e ∙ least_tail net version s b y) in
    let objectives = objective_same a.objective b.objective second.0 in
    let lists = (lists_once net is version a.lists b.lists x y a.are b.are second.2).0 in
    a.is ∙ (λ i. least_of net version (objectives i) (second.1 i) (lists i)) ∙ sym b.is
form_once net is version false r s x y f g e =
    let a = as_infeasible net version r f in let b = as_infeasible net version s g in
    let second = infeasible_rest a.objective b.objective (closing_tree a.tree ++ x) (closing_tree b.tree ++ y) (sym (infeasible_tail net version r a x) ∙ e ∙ infeasible_tail net version s b y) in
    let objectives = objective_same a.objective b.objective second.0 in
    let trees = (tree_rest a.tree b.tree x y a.tree_is b.tree_is second.1).0 in
    a.is ∙ (λ i. infeasible_of net version (objectives i) (trees i)) ∙ sym b.is

whole_once : (net : Network) → IsNetwork net → (r s : ResultText × Tree) → IsResult net r → IsResult net s → result_text net r ≡ result_text net s → r ≡ s
whole_once net is r s f g e =
    let same = first_once r.0.version s.0.version (is_feasible r.0.head) (is_feasible s.0.head) (behind_first net r ++ []) (behind_first net s ++ []) (sym (behind_whole net r []) ∙ ap (λ t. t ++ []) e ∙ behind_whole net s []) in
    form_once net is s.0.version (is_feasible s.0.head) r s [] [] (record { is = f; same_version = same.version; same_kind = same.feasible }) (record { is = g; same_version = refl; same_kind = refl }) same.rest

pub result_once : (net : Network) → IsNetwork net → (bytes : List ℕ) (r s : ResultText) → IsTextOfResult net bytes r → IsTextOfResult net bytes s → r ≡ s
result_once net is bytes r s f g = ap (λ (p : ResultText × Tree). p.0) (whole_once net is (r, f.tree) (s, g.tree) f.is g.is (sym f.text ∙ g.text))

-- what was answered is the one
pub answer_only : (net : Network) → IsNetwork net → (bytes : List ℕ) (answer : Result ResultText ConfigFault) → IfOk answer (IsTextOfResult net bytes) → IfOk answer (λ r. (other : ResultText) → IsTextOfResult net bytes other → other ≡ r)
answer_only net is bytes (Ok r) text = λ other also. result_once net is bytes other r also text
answer_only net is bytes (Err e) text = tt
