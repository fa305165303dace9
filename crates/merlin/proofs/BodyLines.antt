-- What is reported, part by part.
use Rattle.std.proofs.Common.{◌≡◌, ◌≤◌, ◌<◌, ◌+◌, ◌==◌, ℕ, suc, Bool, true, false, cond, List, [], ◌∷◌, ◌++◌, map, length, take, drop, get_or, Option, refl, sym, ◌∙◌, ap, subst, append_assoc, append-nil, arith, length-append, length-take, drop-cons}
use Rattle.std.specs.Prelude.{codes}
use Rattle.std.specs.List.{flat_map}
use Rattle.std.proofs.lemmas.List.{take_more, take-append-drop}
use Rattle.merlin_base.specs.Texts.{joined}
use Rattle.merlin_base.specs.Outside.{Grows, GrowsByPrefix}
use Rattle.merlin_base.specs.Pairs.{pairs_text}
use Rattle.merlin_base.specs.NodeTexts.{pair_of, node_line}
use Rattle.merlin_base.proofs.Taking.{Grows-none, Grows-join, GrowsByPrefix-join}
use Rattle.merlin_model.specs.declared.certificate.Weight.{Weight}
use Rattle.merlin_model.specs.declared.certificate.Tree.{Tree}
use Rattle.merlin_model.specs.declared.config.Rule.{Rule}
use Rattle.merlin_model.specs.Trees.{Node, Leaf_node, Split_node, Open_end, nodes_of}
use Rattle.certificate_text.specs.TreeTexts.{tree_text}
use Rattle.config_text.specs.Words.{words, line}
use Rattle.config_text.specs.Result.{weight_text, node_text, tree_lines}
use Rattle.result_heads.specs.Heads.{certificate_lines}
use Rattle.merlin.specs.Wire.{rules_at, message_line, message_lines}

pub joined_both : (xs ys : List (List ℕ)) → joined (xs ++ ys) ≡ joined xs ++ joined ys
joined_both [] ys = refl
joined_both (x ∷ xs) ys = ap (λ r. x ++ r) (joined_both xs ys) ∙ sym (append_assoc x (joined xs) (joined ys))

-- The text of a certificate.

leaf_words : (front : List ℕ) (weights : List Weight) → words (front ∷ map weight_text weights) ≡ front ++ pairs_text (map pair_of weights)
leaf_words front [] = sym (append-nil front)
leaf_words front (w ∷ weights) = ap (λ t. front ++ 32 ∷ t) (leaf_words (weight_text w) weights)

one_node : (node : Node) → line (node_text node) ≡ node_line node
one_node (Leaf_node weights) = ap line (leaf_words (codes "leaf") weights) ∙ append_assoc (codes "leaf") (pairs_text (map pair_of weights)) (10 ∷ [])
one_node (Split_node variable) = refl
one_node Open_end = refl

all_nodes : (nodes : List (List (Option Bool) × Node)) → joined (map (λ node. line (node_text node.1)) nodes) ≡ flat_map node_line (map (λ node. node.1) nodes)
all_nodes [] = refl
all_nodes (n ∷ nodes) = (λ i. one_node n.1 i ++ all_nodes nodes i)

pub certificate_text : (tree : Tree) → joined (certificate_lines tree) ≡ tree_text tree
certificate_text tree =
    ap (λ t. line (codes "tree") ++ t) (joined_both (tree_lines tree) (line (codes "end") ∷ []) ∙ ap (λ t. t ++ line (codes "end")) (all_nodes (nodes_of tree [])))

-- Of two parts, a prefix of the first was taken, or the first and a prefix of the second.
module _ (from now : Option (List ℕ)) (a b : List (List ℕ)) where
  pub first_broken : GrowsByPrefix from now (joined a) → GrowsByPrefix from now (joined (a ++ b))
  first_broken part = subst (GrowsByPrefix from now) (sym (joined_both a b)) (GrowsByPrefix-join from from now [] (joined a) (joined b) (Grows-none from) part)

  pub second_broken : (mid : Option (List ℕ)) → Grows from mid (joined a) → GrowsByPrefix mid now (joined b) → GrowsByPrefix from now (joined (a ++ b))
  second_broken mid first part =
      subst (GrowsByPrefix from now) (ap (λ t. joined a ++ t) (append-nil (joined b)) ∙ sym (joined_both a b)) (GrowsByPrefix-join from mid now (joined a) (joined b) [] first part)

  pub both_taken : (mid : Option (List ℕ)) → Grows from mid (joined a) → Grows mid now (joined b) → Grows from now (joined (a ++ b))
  both_taken mid first second = subst (Grows from now) (sym (joined_both a b)) (Grows-join from mid now (joined a) (joined b) first second)

-- The messages of a switch's rules, one after another.

rules_both : (switch : ℕ) (xs ys : List Rule) → rules_at switch (xs ++ ys) ≡ rules_at switch xs ++ rules_at switch ys
rules_both switch [] ys = refl
rules_both switch (x ∷ xs) ys = by (x.loc == switch) (rules_both switch xs ys)
  where
    by : (b : Bool) → rules_at switch (xs ++ ys) ≡ rules_at switch xs ++ rules_at switch ys → cond b (x ∷ rules_at switch (xs ++ ys)) (rules_at switch (xs ++ ys)) ≡ cond b (x ∷ rules_at switch xs) (rules_at switch xs) ++ rules_at switch ys
    by true later = ap (λ rs. x ∷ rs) later
    by false later = later

messages_both : (n : ℕ) (xs ys : List Rule) → message_lines n (xs ++ ys) ≡ message_lines n xs ++ message_lines (n + length xs) ys
messages_both n [] ys = ap (λ k. message_lines k ys) (let e : n ≡ n + 0 = omega arith in e)
messages_both n (x ∷ xs) ys =
    ap (λ ls. message_line x n ∷ ls) (messages_both (n + 1) xs ys ∙ ap (λ k. message_lines (n + 1) xs ++ message_lines k ys) (let e : n + 1 + length xs ≡ n + length (x ∷ xs) = omega arith in e))

fewer_at : (switch : ℕ) (rules : List Rule) → length (rules_at switch rules) ≤ length rules
fewer_at switch [] = omega arith
fewer_at switch (rule ∷ rules) = by (rule.loc == switch) (fewer_at switch rules)
  where
    by : (b : Bool) → length (rules_at switch rules) ≤ length rules → length (cond b (rule ∷ rules_at switch rules) (rules_at switch rules)) ≤ length (rule ∷ rules)
    by true later = omega arith
    by false later = omega arith

-- the lines up to a rule, and those from it on
lines_both : (switch : ℕ) (xs ys : List Rule) → message_lines 1 (rules_at switch (xs ++ ys)) ≡ message_lines 1 (rules_at switch xs) ++ message_lines (1 + length (rules_at switch xs)) (rules_at switch ys)
lines_both switch xs ys = ap (message_lines 1) (rules_both switch xs ys) ∙ messages_both 1 (rules_at switch xs) (rules_at switch ys)

here_first : (switch n : ℕ) (rule : Rule) (rules : List Rule) → (rule.loc == switch) ≡ true → message_lines n (rules_at switch (rule ∷ rules)) ≡ message_line rule n ∷ message_lines (n + 1) (rules_at switch rules)
here_first switch n rule rules here = ap (λ b. message_lines n (cond b (rule ∷ rules_at switch rules) (rules_at switch rules))) here

-- What was handed over of the messages of the first rules.
pub record AreHanded (from now : Option (List ℕ)) (switch : ℕ) (rules : List Rule) (index number : ℕ) : Type 0 where
  pub taken : Grows from now (joined (message_lines 1 (rules_at switch (take index rules))))
  pub counted : number ≡ length (rules_at switch (take index rules))

pub none_handed : (from : Option (List ℕ)) (switch : ℕ) (rules : List Rule) → AreHanded from from switch rules 0 0
none_handed from switch rules = record { taken = Grows-none from; counted = refl }

module _ (from before now : Option (List ℕ)) (switch : ℕ) (rules : List Rule) (index number : ℕ) (rule : Rule) (within : index < length rules) (is : rule ≡ get_or rules index rule) (h : AreHanded from before switch rules index number) where
  more : take (index + 1) rules ≡ take index rules ++ rule ∷ []
  more = take_more rules index rule within ∙ ap (λ (r : Rule). take index rules ++ r ∷ []) (sym is)

  module _ (here : (rule.loc == switch) ≡ true) where
    next_number : 1 + length (rules_at switch (take index rules)) ≡ number + 1
    next_number = let e = h.counted in omega arith

    pub one_handed : Grows before now (message_line rule (number + 1)) → AreHanded from now switch rules (index + 1) (number + 1)
    one_handed one = record {
      taken = subst (Grows from now) (sym text) (Grows-join from before now (joined (message_lines 1 (rules_at switch (take index rules)))) (message_line rule (number + 1)) h.taken one);
      counted = sym (ap (λ rs. length (rules_at switch rs)) more ∙ ap length (rules_both switch (take index rules) (rule ∷ []) ∙ ap (λ b. rules_at switch (take index rules) ++ cond b (rule ∷ []) []) here) ∙ long);
    }
      where
        text : joined (message_lines 1 (rules_at switch (take (index + 1) rules))) ≡ joined (message_lines 1 (rules_at switch (take index rules))) ++ message_line rule (number + 1)
        text =
            ap (λ rs. joined (message_lines 1 (rules_at switch rs))) more ∙ ap joined (lines_both switch (take index rules) (rule ∷ [])) ∙ joined_both (message_lines 1 (rules_at switch (take index rules))) (message_lines (1 + length (rules_at switch (take index rules))) (rules_at switch (rule ∷ [])))
            ∙ ap (λ ls. joined (message_lines 1 (rules_at switch (take index rules))) ++ joined ls) (here_first switch (1 + length (rules_at switch (take index rules))) rule [] here)
            ∙ ap (λ t. joined (message_lines 1 (rules_at switch (take index rules))) ++ t) (append-nil (message_line rule (1 + length (rules_at switch (take index rules)))))
            ∙ ap (λ k. joined (message_lines 1 (rules_at switch (take index rules))) ++ message_line rule k) next_number

        long : length (rules_at switch (take index rules) ++ rule ∷ []) ≡ number + 1
        long = let e = h.counted in let l = length-append (rules_at switch (take index rules)) (rule ∷ []) in omega arith

    pub one_broken : GrowsByPrefix before now (message_line rule (number + 1)) → GrowsByPrefix from now (joined (message_lines 1 (rules_at switch rules)))
    one_broken part = subst (GrowsByPrefix from now) (sym text) (GrowsByPrefix-join from before now (joined front) (message_line rule (number + 1)) (joined back) h.taken part)
      where
        front : List (List ℕ)
        front = message_lines 1 (rules_at switch (take index rules))

        back : List (List ℕ)
        back = message_lines (1 + length (rules_at switch (take index rules)) + 1) (rules_at switch (drop (suc index) rules))

        split : rules ≡ take index rules ++ rule ∷ drop (suc index) rules
        split = sym (take-append-drop index rules) ∙ ap (λ rs. take index rules ++ rs) (drop-cons rules index rule within) ∙ ap (λ (r : Rule). take index rules ++ r ∷ drop (suc index) rules) (sym is)

        text : joined (message_lines 1 (rules_at switch rules)) ≡ joined front ++ (message_line rule (number + 1) ++ joined back)
        text =
            ap (λ rs. joined (message_lines 1 (rules_at switch rs))) split ∙ ap joined (lines_both switch (take index rules) (rule ∷ drop (suc index) rules))
            ∙ joined_both front (message_lines (1 + length (rules_at switch (take index rules))) (rules_at switch (rule ∷ drop (suc index) rules)))
            ∙ ap (λ ls. joined front ++ joined ls) (here_first switch (1 + length (rules_at switch (take index rules))) rule (drop (suc index) rules) here)
            ∙ ap (λ k. joined front ++ (message_line rule k ++ joined back)) next_number

  pub passed_over : (rule.loc == switch) ≡ false → before ≡ now → AreHanded from now switch rules (index + 1) number
  passed_over elsewhere still = record {
    taken = subst (λ b. Grows from b (joined (message_lines 1 (rules_at switch (take (index + 1) rules))))) still (subst (λ rs. Grows from before (joined (message_lines 1 rs))) (sym same) h.taken);
    counted = h.counted ∙ ap length (sym same);
  }
    where
      same : rules_at switch (take (index + 1) rules) ≡ rules_at switch (take index rules)
      same = ap (rules_at switch) more ∙ rules_both switch (take index rules) (rule ∷ []) ∙ ap (λ b. rules_at switch (take index rules) ++ cond b (rule ∷ []) []) elsewhere ∙ append-nil (rules_at switch (take index rules))

  pub number_fits : number ≤ index
  number_fits = let a = fewer_at switch (take index rules) in let e = h.counted in let l = length-take index rules in omega arith
