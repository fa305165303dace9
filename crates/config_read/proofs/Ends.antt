-- The end of a result: where the tree is, what stands behind it, and where the whole goes wrong.
use Rattle.std.proofs.Common.{◌≡◌, ◌≢◌, ℕ, ◌-◌, ◌≤◌, inl, inr, Bool, true, false, List, [], ◌∷◌, ◌++◌, length, length-append, refl, sym, ◌∙◌, ap, subst, append_assoc, append-nil, arith}
use Rattle.std.proofs.lemmas.List.{append_cancel_left}
use Rattle.std.specs.Prelude.{codes}
use Rattle.std.specs.List.{flat_map}
use Rattle.merlin_model.specs.declared.policy.Objective.{Objective}
use Rattle.merlin_model.specs.declared.certificate.Tree.{Tree}
use Rattle.merlin_model.specs.Networks.{Network}
use Rattle.merlin_base.specs.Faults.{IsWholeLines, IsFirstWrongLine, GoesWrong}
use Rattle.merlin_base.specs.NodeTexts.{node_lines, end_line, nodes_text}
use Rattle.merlin_base.proofs.NodeTexts.{tree_once}
use Rattle.merlin_base.proofs.WrongLines.{whole_wrong, past_end}
use Rattle.config_lines.specs.Lines.{rule_line, IsRuleLine, process_line, IsProcessLine, queue_line, IsQueueLine, host_line, IsHostLine, load_line, walk_line, IsWalkLine}
use Rattle.config_read.specs.declared.result.Head.TheVariants.{Least, Infeasible}
use Rattle.config_read.specs.declared.result.ResultText.{ResultText}
use Rattle.config_read.specs.declared.body.Body.{Body}
use Rattle.config_read.specs.Heads.{IsVersion, first_line, IsWrittenValue, least_then, infeasible_then}
use Rattle.config_read.specs.Sections.{IsVersionLoad, IsEmptyConfig}
use Rattle.config_read.specs.Bodies.{TakesBody}
use Rattle.config_read.specs.Tails.{closing_tree, IsTree, IsLastTree, IsNoLastTree}
use Rattle.config_read.specs.Results.{is_feasible, start_text, result_text, IsResult}
use Rattle.config_read.specs.Answers.{IsTextOfResult}
use Rattle.config_read.proofs.HostKinds.{host_lines}
use Rattle.config_read.proofs.LineKinds.{rule_lines, process_lines, queue_lines, walk_lines}
use Rattle.config_read.proofs.Stars.{star_rest}
use Rattle.config_read.proofs.Bodies.{Lists, from_hosts, AreHosts, from_queues, AreQueues, from_processes, AreProcesses, from_rules, AreRules, from_loads, AreLoads, from_walks, AreWalks, hosts_apart, queues_apart, processes_apart, rules_apart, loads_apart, walks_apart, loads_are, body_wrong}
use Rattle.config_read.proofs.FirstLines.{first_once, behind_first, whole_is, IsForm, behind_wrong}
use Rattle.config_read.proofs.Wholes.{least_of, infeasible_of, least_text, infeasible_text, least_is, infeasible_is, as_least, as_infeasible, least_rest, infeasible_rest, least_more, infeasible_more, least_tail, infeasible_tail, least_wrong, infeasible_wrong, config_is}

-- What stands behind a whole text is the same, however the text is read.

pub tree_rest : (a b : Tree) (x y : List ℕ) → IsTree a → IsTree b → closing_tree a ++ x ≡ closing_tree b ++ y → (a ≡ b) × (x ≡ y)
tree_rest a b x y f g e =
    let nodes = append_cancel_left (codes "tree\n") (nodes_text a ++ x) (nodes_text b ++ y) e in
    let same = tree_once a b (end_line ++ x) (end_line ++ y) f.within.each g.within.each (sym (append_assoc (node_lines a) end_line x) ∙ nodes ∙ append_assoc (node_lines b) end_line y) in
    (same.tree, append_cancel_left end_line x y same.rest)

pub lists_rest : (net : Network) (version : ℕ) (p q : Lists) (x y : List ℕ) → AreWalks net version p → AreWalks net version q → from_walks net p ++ x ≡ from_walks net q ++ y → x ≡ y
lists_rest net version =
    star_rest (walk_line net) (IsWalkLine net) (from_loads net) (AreLoads net version) (walk_lines net) (walks_apart net version)
    (star_rest (load_line net) (IsVersionLoad net version) (from_rules net) (AreRules net) (loads_are net version) (loads_apart net version)
    (star_rest (rule_line net) (IsRuleLine net) (from_processes net) (AreProcesses net) (rule_lines net) (rules_apart net)
    (star_rest (process_line net) (IsProcessLine net) (from_queues net) (AreQueues net) (process_lines net) (processes_apart net)
    (star_rest (queue_line net) (IsQueueLine net) (from_hosts net) (AreHosts net) (queue_lines net) (queues_apart net)
    (star_rest (host_line net) (IsHostLine net) closing_tree IsTree (host_lines net) (hosts_apart net) (λ a b x y f g e. (tree_rest a b x y f g e).1))))))

pub behind_whole : (net : Network) (r : ResultText × Tree) (x : List ℕ) → result_text net r ++ x ≡ first_line r.0.version (is_feasible r.0.head) ++ (behind_first net r ++ x)
behind_whole net r x = ap (λ z. z ++ x) (whole_is net r) ∙ append_assoc (first_line r.0.version (is_feasible r.0.head)) (behind_first net r) x

pub result_rest : (net : Network) (r s : ResultText × Tree) (x y : List ℕ) → IsResult net r → IsResult net s → result_text net r ++ x ≡ result_text net s ++ y → x ≡ y
result_rest net r s x y f g e =
    let same = first_once r.0.version s.0.version (is_feasible r.0.head) (is_feasible s.0.head) (behind_first net r ++ x) (behind_first net s ++ y) (sym (behind_whole net r x) ∙ e ∙ behind_whole net s y) in
    by (is_feasible s.0.head) (record { is = f; same_version = same.version; same_kind = same.feasible }) (record { is = g; same_version = refl; same_kind = refl }) same.rest
  where
    by : (feasible : Bool) → IsForm net s.0.version feasible r → IsForm net s.0.version feasible s → behind_first net r ++ x ≡ behind_first net s ++ y → x ≡ y
    by true f g h =
        let a = as_least net s.0.version r f in let b = as_least net s.0.version s g in
        lists_rest net s.0.version a.lists b.lists x y a.are b.are
        (least_rest a.objective b.objective a.value b.value (from_walks net a.lists ++ x) (from_walks net b.lists ++ y) a.written b.written (sym (least_tail net s.0.version r a x) ∙ h ∙ least_tail net s.0.version s b y)).2
    by false f g h =
        let a = as_infeasible net s.0.version r f in let b = as_infeasible net s.0.version s g in
        (tree_rest a.tree b.tree x y a.tree_is b.tree_is
        (infeasible_rest a.objective b.objective (closing_tree a.tree ++ x) (closing_tree b.tree ++ y) (sym (infeasible_tail net s.0.version r a x) ∙ h ∙ infeasible_tail net s.0.version s b y)).1).1

-- Text behind the end.

abbrev pub IsWrongAt : Network → List ℕ → ℕ → Type 0
IsWrongAt net text left = (left ≤ length text) × IsFirstWrongLine (result_text net) (IsResult net) text (length text - left)

result_whole : (net : Network) (r : ResultText × Tree) → IsWholeLines (result_text net r)
result_whole net r = inr (start_text net r.0 ++ (node_lines r.1 ++ codes "end"), by (start_text net r.0) (node_lines r.1))
  where
    by : (a b : List ℕ) → a ++ (b ++ (codes "end" ++ 10 ∷ [])) ≡ (a ++ (b ++ codes "end")) ++ 10 ∷ []
    by a b = simp append_assoc

pub past : (net : Network) (text more : List ℕ) (r : ResultText × Tree) (left : ℕ) → IsResult net r → text ≡ result_text net r ++ more → more ≢ [] → left ≡ length more → IsWrongAt net text left
past net text more r left is e some at =
    past_end (result_text net) (IsResult net) text more r left is e (result_whole net r) some at
    (λ s x lawful h. sym (result_rest net s r [] x lawful is (append-nil (result_text net s) ∙ h)))

-- Going wrong behind the first line, in the whole.
pub wrong_behind : (net : Network) (bytes text : List ℕ) (version : ℕ) (feasible : Bool) (left : ℕ) → bytes ≡ first_line version feasible ++ text → GoesWrong (behind_first net) (IsForm net version feasible) text left → IsWrongAt net bytes left
wrong_behind net bytes text version feasible left e g = whole_wrong (result_text net) (IsResult net) bytes left (behind_wrong net bytes text version feasible left e g)

-- The lists of a body and a tree.
abbrev pub lists_of : Body → Tree → Lists
lists_of body tree = (body.walks, (body.loads, (body.config.rules, (body.config.processes, (body.config.queues, (body.config.hosts, tree))))))

body_are : (net : Network) (version : ℕ) (text rest : List ℕ) (body : Body) (tree : Tree) → TakesBody net version text body rest → IsTree tree → AreWalks net version (lists_of body tree)
body_are net version text rest body tree t is = (t.walks.each, (t.loads.each, (t.config.rules.each, (t.config.processes.each, (t.config.queues.each, (t.config.hosts.each, is))))))

body_text : (net : Network) (version : ℕ) (text rest more : List ℕ) (body : Body) (tree : Tree) → TakesBody net version text body rest → rest ≡ closing_tree tree ++ more → text ≡ from_walks net (lists_of body tree) ++ more
body_text net version text rest more body tree t e =
    t.walks.whole ∙ ap (λ z. w ++ z) (t.loads.whole ∙ ap (λ z. l ++ z) (t.config.rules.whole ∙ ap (λ z. r ++ z) (t.config.processes.whole ∙ ap (λ z. p ++ z) (t.config.queues.whole ∙ ap (λ z. q ++ z) (t.config.hosts.whole ∙ ap (λ z. h ++ z) e)))))
    ∙ by w l r p q h (closing_tree tree)
  where
    w : List ℕ
    w = flat_map (walk_line net) body.walks

    l : List ℕ
    l = flat_map (load_line net) body.loads

    r : List ℕ
    r = flat_map (rule_line net) body.config.rules

    p : List ℕ
    p = flat_map (process_line net) body.config.processes

    q : List ℕ
    q = flat_map (queue_line net) body.config.queues

    h : List ℕ
    h = flat_map (host_line net) body.config.hosts

    by : (a b c d e f g : List ℕ) → a ++ (b ++ (c ++ (d ++ (e ++ (f ++ (g ++ more)))))) ≡ (a ++ (b ++ (c ++ (d ++ (e ++ (f ++ g)))))) ++ more
    by a b c d e f g = simp append_assoc

least_bytes : (net : Network) (bytes text rest tree_text more : List ℕ) (version : ℕ) (objective : Objective) (value : List ℕ) (body : Body) (tree : Tree) → bytes ≡ first_line version true ++ text → text ≡ least_then objective value rest →
    TakesBody net version rest body tree_text → tree_text ≡ closing_tree tree ++ more → bytes ≡ result_text net (least_of net version objective value (lists_of body tree)) ++ more
least_bytes net bytes text rest tree_text more version objective value body tree e f t g =
    e ∙ ap (λ z. first_line version true ++ z) (f ∙ ap (least_then objective value) (body_text net version rest tree_text more body tree t g) ∙ sym (least_more objective value (from_walks net (lists_of body tree)) more)
    ∙ ap (λ z. z ++ more) (sym (least_text net version objective value (lists_of body tree)))) ∙ sym (behind_whole net (least_of net version objective value (lists_of body tree)) more)

-- A wrong place in the tree, or behind it.
pub least_ends_wrong : (net : Network) (bytes text rest tree_text : List ℕ) (version : ℕ) (objective : Objective) (value : List ℕ) (body : Body) (left : ℕ) → IsVersion version → bytes ≡ first_line version true ++ text → text ≡ least_then objective value rest → IsWrittenValue value →
    TakesBody net version rest body tree_text → IsNoLastTree tree_text left → IsWrongAt net bytes left
least_ends_wrong net bytes text rest tree_text version objective value body left v e f written t (inl g) =
    wrong_behind net bytes text version true left e (least_wrong net version text rest objective value left v written f (body_wrong net version rest tree_text body left t g))
least_ends_wrong net bytes text rest tree_text version objective value body left v e f written t (inr g) =
    past net bytes g.more (least_of net version objective value (lists_of body g.tree)) left (least_is net version objective value (lists_of body g.tree) v written (body_are net version rest tree_text body g.tree t g.is)).is
    (least_bytes net bytes text rest tree_text g.more version objective value body g.tree e f t g.whole) g.some g.at

infeasible_bytes : (net : Network) (bytes text tree_text more : List ℕ) (version : ℕ) (objective : Objective) (tree : Tree) → bytes ≡ first_line version false ++ text → text ≡ infeasible_then objective tree_text → tree_text ≡ closing_tree tree ++ more →
    bytes ≡ result_text net (infeasible_of net version objective tree) ++ more
infeasible_bytes net bytes text tree_text more version objective tree e f g =
    e ∙ ap (λ z. first_line version false ++ z) (f ∙ ap (infeasible_then objective) g ∙ sym (infeasible_more objective (closing_tree tree) more) ∙ ap (λ z. z ++ more) (sym (infeasible_text net version objective tree)))
    ∙ sym (behind_whole net (infeasible_of net version objective tree) more)

pub infeasible_ends_wrong : (net : Network) (bytes text tree_text : List ℕ) (version : ℕ) (objective : Objective) (left : ℕ) → IsVersion version → bytes ≡ first_line version false ++ text → text ≡ infeasible_then objective tree_text → IsNoLastTree tree_text left → IsWrongAt net bytes left
infeasible_ends_wrong net bytes text tree_text version objective left v e f (inl g) = wrong_behind net bytes text version false left e (infeasible_wrong net version text tree_text objective left v f g)
infeasible_ends_wrong net bytes text tree_text version objective left v e f (inr g) =
    past net bytes g.more (infeasible_of net version objective g.tree) left (infeasible_is net version objective g.tree v g.is).is (infeasible_bytes net bytes text tree_text g.more version objective g.tree e f g.whole) g.some g.at

-- The place of the first node.
pub tree_place : (bytes start tree_text : List ℕ) (tree : Tree) → bytes ≡ start ++ nodes_text tree → tree_text ≡ closing_tree tree → length bytes - (length tree_text - 5) ≡ length start
tree_place bytes start tree_text tree e f =
    let a = ap length e ∙ length-append start (nodes_text tree) in let b = ap length f ∙ length-append (codes "tree\n") (nodes_text tree) in let five : length (codes "tree\n") ≡ 5 = refl in omega arith

pub least_read : (net : Network) (bytes text rest tree_text : List ℕ) (version : ℕ) (objective : Objective) (value : List ℕ) (body : Body) (place : ℕ) → IsVersion version → bytes ≡ first_line version true ++ text → text ≡ least_then objective value rest → IsWrittenValue value →
    TakesBody net version rest body tree_text → IsLastTree tree_text → place ≡ length bytes - (length tree_text - 5) →
    IsTextOfResult net bytes (record { version = version; head = Least objective value body.walks body.loads; config = body.config; tree_start = place })
least_read net bytes text rest tree_text version objective value body place v e f written t last at =
    let p = lists_of body last.tree in
    let form = least_is net version objective value p v written (body_are net version rest tree_text body last.tree t last.is) in
    let whole = least_bytes net bytes text rest tree_text [] version objective value body last.tree e f t (last.whole ∙ sym (append-nil (closing_tree last.tree))) ∙ append-nil (result_text net (least_of net version objective value p)) in
    record {
      tree = last.tree;
      is = record {
        version = form.is.version;
        head = form.is.head;
        config = form.is.config;
        tree = form.is.tree;
        tree_start = at ∙ tree_place bytes (start_text net (least_of net version objective value p).0) tree_text last.tree whole last.whole;
      };
      text = whole;
    }

pub infeasible_read : (net : Network) (bytes text tree_text : List ℕ) (version : ℕ) (objective : Objective) (config : _) (place : ℕ) → IsVersion version → bytes ≡ first_line version false ++ text → text ≡ infeasible_then objective tree_text → IsEmptyConfig config → IsLastTree tree_text →
    place ≡ length bytes - (length tree_text - 5) → IsTextOfResult net bytes (record { version = version; head = Infeasible objective; config = config; tree_start = place })
infeasible_read net bytes text tree_text version objective config place v e f empty last at =
    subst (λ k. IsTextOfResult net bytes (record { version = version; head = Infeasible objective; config = k; tree_start = place })) (sym (config_is config empty)) (
    let form = infeasible_is net version objective last.tree v last.is in
    let whole = infeasible_bytes net bytes text tree_text [] version objective last.tree e f (last.whole ∙ sym (append-nil (closing_tree last.tree))) ∙ append-nil (result_text net (infeasible_of net version objective last.tree)) in
    record {
      tree = last.tree;
      is = record {
        version = form.is.version;
        head = form.is.head;
        config = form.is.config;
        tree = form.is.tree;
        tree_start = at ∙ tree_place bytes (start_text net (infeasible_of net version objective last.tree).0) tree_text last.tree whole last.whole;
      };
      text = whole;
    }
    )
