-- The text of a result: what was asked for, the walks of the guaranteed statements, what they put on the links, the
-- configuration and the certificate.
use Rattle.std.specs.Prelude.{ℕ, List, [], ◌∷◌, ◌++◌, map, Option, None, Some, codes}
use Rattle.std.specs.Fmt.{decimal, signed_decimal}
use Rattle.merlin_model.specs.declared.policy.Symbol.{Symbol}
use Rattle.merlin_model.specs.declared.policy.Objective.{Objective}
use Rattle.merlin_model.specs.declared.policy.Objective.TheVariants.{Shortest, Ratio as ByRatio, Reserved}
use Rattle.merlin_model.specs.declared.policy.Value.{Value}
use Rattle.merlin_model.specs.declared.policy.Value.TheVariants.{Whole, Ratio}
use Rattle.merlin_model.specs.declared.config.Config.{Config}
use Rattle.merlin_model.specs.declared.certificate.Weight.{Weight}
use Rattle.merlin_model.specs.declared.certificate.Tree.{Tree}
use Rattle.merlin_model.specs.Networks.{Network}
use Rattle.merlin_model.specs.Trees.{Node, Leaf_node, Split_node, Open_end, nodes_of}
use Rattle.config_text.specs.Words.{words, line}
use Rattle.config_text.specs.declared.loads.Load.{Load}
use Rattle.config_text.specs.Loads.{ratio_text, load_lines}
use Rattle.config_text.specs.Lines.{name_at, function_name, config_lines}

abbrev pub objective_word : Objective → List ℕ
objective_word Shortest = codes "shortest"
objective_word ByRatio = codes "ratio"
objective_word Reserved = codes "reserved"

abbrev pub value_text : Value → List ℕ
value_text (Whole n) = decimal n
value_text (Ratio load capacity) = ratio_text load capacity

-- a location, with the function that runs there
abbrev pub symbol_text : Network → Symbol → List ℕ
symbol_text net symbol = name_at net symbol.loc ++ with_function symbol.fun
  where
    with_function : Option ℕ → List ℕ
    with_function None = []
    with_function (Some function) = codes ":" ++ function_name net.functions function

-- the walk of the statement that bears the id
abbrev pub walk_text : Network → List ℕ × List Symbol → List ℕ
walk_text net walk = words (codes "walk" ∷ walk.0 ∷ map (symbol_text net) walk.1)

-- The nodes of a certificate, in preorder.

abbrev pub weight_text : Weight → List ℕ
weight_text w = decimal w.row ++ (codes ":" ++ signed_decimal w.weight)

abbrev pub node_text : Node → List ℕ
node_text (Leaf_node weights) = words (codes "leaf" ∷ map weight_text weights)
node_text (Split_node variable) = words (codes "split" ∷ decimal variable ∷ [])
node_text Open_end = codes "open"

abbrev pub tree_lines : Tree → List (List ℕ)
tree_lines tree = map (λ node. line (node_text node.1)) (nodes_of tree [])

abbrev pub objective_text : Objective → Value → List ℕ
objective_text objective value =
    words (codes "objective" ∷ objective_word objective ∷ value_text value ∷ [])

-- The lines of a result over a network, each with its newline. The walks stand beside the ids of their statements.
abbrev pub result_lines : Network → Objective → Value → List (List ℕ × List Symbol) → List Load → Config → Tree
    → List (List ℕ)
result_lines net objective value walks loads config tree =
    line (codes "merlin 2 ok") ∷ line (objective_text objective value)
    ∷ (map (λ walk. line (walk_text net walk)) walks ++ load_lines net loads ++ config_lines net config
    ++ line (codes "tree") ∷ tree_lines tree ++ line (codes "end") ∷ [])
