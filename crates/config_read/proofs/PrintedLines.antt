-- What is printed of a result is a text of it.
use Rattle.std.proofs.Common.{◌≡◌, ℕ, List, [], ◌∷◌, ◌++◌, map, refl, sym, ◌∙◌, ap, append_assoc, append-nil}
use Rattle.std.proofs.lemmas.Grind.{flat_map-append}
use Rattle.std.specs.Prelude.{Bool, Option, codes}
use Rattle.std.specs.List.{flat_map}
use Rattle.merlin_model.specs.declared.policy.Symbol.{Symbol}
use Rattle.merlin_model.specs.declared.policy.Objective.{Objective}
use Rattle.merlin_model.specs.declared.policy.Value.{Value}
use Rattle.merlin_model.specs.declared.config.Config.{Config}
use Rattle.merlin_model.specs.declared.certificate.Weight.{Weight}
use Rattle.merlin_model.specs.declared.certificate.Tree.{Tree}
use Rattle.merlin_model.specs.Networks.{Network}
use Rattle.merlin_model.specs.Trees.{Node, Leaf_node, Split_node, Open_end, nodes_of}
use Rattle.merlin_base.specs.Texts.{joined}
use Rattle.merlin_base.specs.Pairs.{pairs_text}
use Rattle.merlin_base.specs.NodeTexts.{pair_of, node_line, node_lines, end_line}
use Rattle.config_text.specs.Words.{line}
use Rattle.config_text.specs.Lines.{rule_lines, process_lines, queue_lines, host_lines, config_lines}
use Rattle.config_text.specs.Loads.{load_lines}
use Rattle.config_text.specs.Result.{objective_word, value_text, walk_text, weight_text, node_text, tree_lines, result_lines}
use Rattle.config_text.specs.declared.loads.Load.{Load}
use Rattle.config_text.proofs.Joining.{joined_after_first}
use Rattle.config_lines.specs.Lines.{rule_line, process_line, queue_line, host_line, load_line, walk_line}
use Rattle.config_read.specs.declared.result.Head.TheVariants.{Least}
use Rattle.config_read.specs.Results.{lines_of, result_text, IsResult}
use Rattle.config_read.specs.Answers.{IsTextOfResult, TellsParts}
use Rattle.config_read.specs.declared.result.ResultText.{ResultText}
use Rattle.config_read.proofs.FirstLines.{whole_is}
use Rattle.config_read.proofs.Wholes.{result_of, result_is}

-- The lines of nodes, as they are printed and as they are read.

weights_are : (ws : List Weight) → flat_map (λ t. 32 ∷ t) (map weight_text ws) ≡ pairs_text (map pair_of ws)
weights_are [] = refl
weights_are (w ∷ ws) = ap (λ z. (32 ∷ weight_text w) ++ z) (weights_are ws)

node_is : (node : Node) → line (node_text node) ≡ node_line node
node_is (Leaf_node ws) = ap (λ z. z ++ 10 ∷ []) (joined_after_first 32 (codes "leaf") (map weight_text ws)) ∙ ap (λ z. codes "leaf" ++ (z ++ 10 ∷ [])) (weights_are ws)
node_is (Split_node variable) = refl
node_is Open_end = refl

nodes_are : (nodes : List (List (Option Bool) × Node)) → joined (map (λ node. line (node_text node.1)) nodes) ≡ flat_map node_line (map (λ node. node.1) nodes)
nodes_are [] = refl
nodes_are (n ∷ ns) = ap (λ z. z ++ joined (map (λ node. line (node_text node.1)) ns)) (node_is n.1) ∙ ap (λ z. node_line n.1 ++ z) (nodes_are ns)

pub tree_is : (tree : Tree) → joined (tree_lines tree) ≡ node_lines tree
tree_is tree = nodes_are (nodes_of tree [])

-- Lists of lines.

joined_map : {X : Type 0} (text : X → List ℕ) (xs : List X) → joined (map text xs) ≡ flat_map text xs
joined_map text [] = refl
joined_map text (x ∷ xs) = ap (λ z. text x ++ z) (joined_map text xs)

joined_both : (xs ys : List (List ℕ)) → joined (xs ++ ys) ≡ joined xs ++ joined ys
joined_both xs ys = flat_map-append (λ t. t) xs ys

pub config_is : (net : Network) (config : Config) → joined (config_lines net config) ≡ lines_of net config
config_is net config =
    joined_both (rule_lines net config.rules ++ process_lines net config.processes ++ queue_lines net config.queues) (host_lines net config.hosts)
    ∙ ap (λ z. z ++ joined (host_lines net config.hosts)) (joined_both (rule_lines net config.rules ++ process_lines net config.processes) (queue_lines net config.queues)
    ∙ ap (λ z. z ++ joined (queue_lines net config.queues)) (joined_both (rule_lines net config.rules) (process_lines net config.processes)))
    ∙ by (joined_map (rule_line net) config.rules) (joined_map (process_line net) config.processes) (joined_map (queue_line net) config.queues) (joined_map (host_line net) config.hosts)
  where
    regroup : (a b c d : List ℕ) → ((a ++ b) ++ c) ++ d ≡ a ++ (b ++ (c ++ d))
    regroup a b c d = simp append_assoc

    by : {a b c d p q r s : List ℕ} → a ≡ p → b ≡ q → c ≡ r → d ≡ s → ((a ++ b) ++ c) ++ d ≡ p ++ (q ++ (r ++ s))
    by {a} {b} {c} {d} e f g h = regroup a b c d ∙ (λ i. e i ++ (f i ++ (g i ++ h i)))

-- The whole, line by line.
pub printed_is : (net : Network) (objective : Objective) (value : Value) (walks : List (List ℕ × List Symbol)) (loads : List Load) (config : Config) (tree : Tree) →
    joined (result_lines net objective value walks loads config tree) ≡ result_text net (result_of net 2 (Least objective (value_text value) walks loads) config tree)
printed_is net objective value walks loads config tree =
    ap (λ z. codes "merlin 2 ok\n" ++ (second ++ z)) parts ∙ by (objective_word objective) (value_text value) (flat_map (walk_line net) walks) (flat_map (load_line net) loads) (lines_of net config) (node_lines tree)
    ∙ sym (whole_is net (result_of net 2 (Least objective (value_text value) walks loads) config tree))
  where
    second : List ℕ
    second = (codes "objective" ++ 32 ∷ (objective_word objective ++ 32 ∷ value_text value)) ++ 10 ∷ []

    parts : joined (map (λ walk. line (walk_text net walk)) walks ++ load_lines net loads ++ config_lines net config ++ line (codes "tree") ∷ tree_lines tree ++ line (codes "end") ∷ [])
        ≡ flat_map (walk_line net) walks ++ (flat_map (load_line net) loads ++ (lines_of net config ++ (codes "tree\n" ++ (node_lines tree ++ end_line))))
    parts =
        joined_both (front ++ line (codes "tree") ∷ tree_lines tree) (line (codes "end") ∷ []) ∙ ap (λ z. z ++ joined (line (codes "end") ∷ [])) (joined_both front (line (codes "tree") ∷ tree_lines tree))
        ∙ again (joined_both (map (λ walk. line (walk_text net walk)) walks ++ load_lines net loads) (config_lines net config) ∙ ap (λ z. z ++ joined (config_lines net config)) (joined_both (map (λ walk. line (walk_text net walk)) walks) (load_lines net loads)))
        (joined_map (walk_line net) walks) (joined_map (load_line net) loads) (config_is net config) (tree_is tree)
      where
        front : List (List ℕ)
        front = map (λ walk. line (walk_text net walk)) walks ++ load_lines net loads ++ config_lines net config

        again : {w l c t x p q r s : List ℕ} → x ≡ (w ++ l) ++ c → w ≡ p → l ≡ q → c ≡ r → t ≡ s → (x ++ (codes "tree\n" ++ t)) ++ (end_line ++ []) ≡ p ++ (q ++ (r ++ (codes "tree\n" ++ (s ++ end_line))))
        again {w} {l} {c} {t} {x} h e f g k =
            ap (λ z. (x ++ (codes "tree\n" ++ t)) ++ z) (append-nil end_line) ∙ ap (λ z. (z ++ (codes "tree\n" ++ t)) ++ end_line) h ∙ regroup w l c t ∙ (λ i. e i ++ (f i ++ (g i ++ (codes "tree\n" ++ (k i ++ end_line)))))
          where
            regroup : (a b c d : List ℕ) → (((a ++ b) ++ c) ++ (codes "tree\n" ++ d)) ++ end_line ≡ a ++ (b ++ (c ++ (codes "tree\n" ++ (d ++ end_line))))
            regroup a b c d = simp append_assoc

    by : (o v w l c n : List ℕ) → codes "merlin 2 ok\n" ++ (((codes "objective" ++ 32 ∷ (o ++ 32 ∷ v)) ++ 10 ∷ []) ++ (w ++ (l ++ (c ++ (codes "tree\n" ++ (n ++ end_line))))))
        ≡ codes "merlin 2 ok\n" ++ ((codes "objective " ++ (o ++ 32 ∷ (v ++ 10 ∷ (w ++ l)))) ++ (c ++ (codes "tree\n" ++ (n ++ end_line))))
    by o v w l c n = simp append_assoc

pub printed_text : (net : Network) (r : ResultText) (tree : Tree) (objective : Objective) (value : Value) (walks : List (List ℕ × List Symbol)) (loads : List Load) → IsResult net (r, tree) → TellsParts r objective (value_text value) walks loads →
    IsTextOfResult net (joined (result_lines net objective value walks loads r.config tree)) r
printed_text net r tree objective value walks loads is tells = record {
  tree = tree;
  is = is;
  text = printed_is net objective value walks loads r.config tree ∙ ap (result_text net) (sym (result_is net (r, tree) is ∙ (λ i. result_of net (tells.0 i) (tells.1 i) r.config tree)));
}
