-- Lines of nodes that are passed over.
use Rattle.std.proofs.Common.{◌≡◌, ℕ, ◌^◌, ◌<◌, ℤ, Bool, true, false, List, [], ◌∷◌, ◌++◌, map, refl, sym, ◌∙◌, ap, subst}
use Rattle.std.specs.Prelude.{codes}
use Rattle.std.specs.Fmt.{decimal}
use Rattle.merlin_model.specs.Trees.{Node, Leaf_node, Split_node, Open_end}
use Rattle.merlin_base.specs.Lexemes.{Lacks}
use Rattle.merlin_base.specs.Pairs.{pairs_text, ArePairs}
use Rattle.merlin_base.specs.NodeTexts.{pair_of, node_line, IsNodeLine, MayStand}
use Rattle.merlin_base.specs.Skipping.{is_split, IsPairsText, BeginsNumberLine, BeginsWeightsLine, BeginsNodeLine}
use Rattle.merlin_base.proofs.NodeLines.{bad_split, bad_leaf, split_text, leaf_text, no_number, no_weights, no_end}

pub no_newline : (text : List ℕ) → Lacks 10 text → (rest : List ℕ) → ¬ BeginsNumberLine text rest
no_newline text lacks rest is = no_end text (decimal is.number) rest lacks is.whole

pub no_number_line : (text digits rest : List ℕ) → text ≡ digits ++ 10 ∷ rest → Lacks 10 digits → ((n : ℕ) → n < 10 ^ 19 → digits ≡ decimal n → ⊥) → (more : List ℕ) → ¬ BeginsNumberLine text more
no_number_line text digits rest e lacks none more is = no_number text digits rest e lacks none is.number more is.short is.whole

their_pairs : (pairs : List (ℕ × ℤ)) → map pair_of (map (λ (pair : ℕ × ℤ). record { row = pair.0; weight = pair.1 }) pairs) ≡ pairs
their_pairs [] = refl
their_pairs (p ∷ ps) = ap (λ qs. p ∷ qs) (their_pairs ps)

pub weights_line : (text line rest : List ℕ) → text ≡ line ++ 10 ∷ rest → IsPairsText (10 ^ 19) (2 ^ 60) line → BeginsWeightsLine text rest
weights_line text line rest e is = record {
  weights = map (λ (pair : ℕ × ℤ). record { row = pair.0; weight = pair.1 }) is.pairs;
  are = subst (ArePairs (10 ^ 19) (2 ^ 60)) (sym (their_pairs is.pairs)) is.are;
  whole = e ∙ ap (λ t. t ++ 10 ∷ rest) (is.whole ∙ ap pairs_text (sym (their_pairs is.pairs)));
}

pub no_weights_end : (text : List ℕ) → Lacks 10 text → (rest : List ℕ) → ¬ BeginsWeightsLine text rest
no_weights_end text lacks rest is = no_end text (pairs_text (map pair_of is.weights)) rest lacks is.whole

pub no_weights_line : (text line rest : List ℕ) → text ≡ line ++ 10 ∷ rest → Lacks 10 line → ¬ IsPairsText (10 ^ 19) (2 ^ 60) line → (more : List ℕ) → ¬ BeginsWeightsLine text more
no_weights_line text line rest e lacks none more is =
    no_weights text line rest e lacks (λ pairs are h. none (record { pairs = pairs; are = are; whole = h })) is.weights more is.are is.whole

-- A whole line.

no_open : (unclosed : Bool) (node : Node) → (node ≡ Open_end → ⊥) → MayStand unclosed node
no_open unclosed node differ = λ _. differ

closed_line : (unclosed : Bool) (text rest : List ℕ) (node : Node) → text ≡ node_line node ++ rest → IsNodeLine node → (node ≡ Open_end → ⊥) → BeginsNodeLine unclosed text (is_split node) rest
closed_line unclosed text rest node whole line differ =
    record { node = node; whole = whole; line = line; stands = no_open unclosed node differ; split_is = refl }

pub split_line : (unclosed : Bool) (text digits rest : List ℕ) → text ≡ codes "split " ++ digits → BeginsNumberLine digits rest → BeginsNodeLine unclosed text true rest
split_line unclosed text digits rest e is =
    closed_line unclosed text rest (Split_node is.number) (split_text text digits rest is.number e is.whole) is.short (λ h. let no_way : Split_node is.number ≡ Open_end → ⊥ = λ k. cc in no_way h)

pub leaf_line : (unclosed : Bool) (text pairs rest : List ℕ) → text ≡ codes "leaf" ++ pairs → BeginsWeightsLine pairs rest → BeginsNodeLine unclosed text false rest
leaf_line unclosed text pairs rest e is =
    closed_line unclosed text rest (Leaf_node is.weights) (leaf_text text pairs rest is.weights e is.whole) is.are (λ h. let no_way : Leaf_node is.weights ≡ Open_end → ⊥ = λ k. cc in no_way h)

pub no_split_line : (unclosed : Bool) (text digits : List ℕ) → text ≡ codes "split " ++ digits → ((rest : List ℕ) → ¬ BeginsNumberLine digits rest) → (split : Bool) (rest : List ℕ) → ¬ BeginsNodeLine unclosed text split rest
no_split_line unclosed text digits e none split rest is =
    bad_split text digits e (λ n more short h. none more (record { number = n; short = short; whole = h })) is.node rest is.line is.whole

pub no_leaf_line : (unclosed : Bool) (text pairs : List ℕ) → text ≡ codes "leaf" ++ pairs → ((rest : List ℕ) → ¬ BeginsWeightsLine pairs rest) → (split : Bool) (rest : List ℕ) → ¬ BeginsNodeLine unclosed text split rest
no_leaf_line unclosed text pairs e none split rest is =
    bad_leaf text pairs e (λ weights more are h. none more (record { weights = weights; are = are; whole = h })) is.node rest is.line is.whole
