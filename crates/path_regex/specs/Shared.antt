-- Normal forms that share their parts.
use Rattle.std.specs.Prelude.{ℕ, ◌≡◌, ◌<◌, ⊤, List, [], ◌∷◌, ◌++◌, length, map, slice_get, Some}
use Rattle.std.specs.List.{AllByRecursion, flat_map, slice_index_or}
use Rattle.merlin_model.specs.declared.policy.Symbol.{Symbol}
use Rattle.merlin_model.specs.declared.policy.Path.{Path, Nothing, Empty, Dot, Loc, Fun, Cat, Alt, Star, Not}
use Rattle.std.specs.Ordering.{ordering_then}
use Rattle.std.specs.declared.cmp.Ordering.{Ordering}
use Rattle.path_regex.specs.Normal.{members, in_order_of}
use Rattle.path_regex.specs.Derivatives.{derivative_of}
use Rattle.path_regex.specs.Order.{order}
use Rattle.path_regex.specs.declared.forms.FormStep.{FormStep}
use Rattle.path_regex.specs.declared.forms.FormNode.{FormNode}
use Rattle.path_regex.specs.declared.forms.FormNode.TheVariants.{Nothing as NodeNothing, Empty as NodeEmpty, Dot as NodeDot, Loc as NodeLoc, Fun as NodeFun, Cat as NodeCat, NoChoice as NodeNoChoice, Alt as NodeAlt, Star as NodeStar, Not as NodeNot}

-- the form at a place
abbrev pub form_at : List Path → ℕ → Path
form_at forms k = slice_index_or forms k Nothing

-- an Alt by its members, and Nothing without any
abbrev pub alt_by : List Path → Path
alt_by [] = Nothing
alt_by (a ∷ rest) = Alt (a ∷ rest)

-- the path is Nothing, or an Alt with members
abbrev pub IsChain : Path → Type 0
IsChain a = a ≡ alt_by (members a)

-- the Alt of what may follow the members of a path after a symbol
abbrev pub members_after : Path → Symbol → Path
members_after path x = alt_by (in_order_of (flat_map members (map (λ a. derivative_of a x) (members path))))

-- the form with these parts
abbrev pub meaning : List Path → FormNode → Path
meaning forms NodeNothing = Nothing
meaning forms NodeEmpty = Empty
meaning forms NodeDot = Dot
meaning forms (NodeLoc l) = Loc l
meaning forms (NodeFun f) = Fun f
meaning forms (NodeCat a b) = Cat (form_at forms a) (form_at forms b)
meaning forms NodeNoChoice = Alt []
meaning forms (NodeAlt a t) = Alt (form_at forms a ∷ members (form_at forms t))
meaning forms (NodeStar a) = Star (form_at forms a)
meaning forms (NodeNot a) = Not (form_at forms a)

-- the forms of nodes, each by the forms before it
abbrev pub meanings : List Path → List FormNode → List Path
meanings forms [] = forms
meanings forms (n ∷ nodes) = meanings (forms ++ meaning forms n ∷ []) nodes

-- the parts stand at places below the bound, and the members of an Alt go on with an Alt
abbrev pub PartsStandBefore : ℕ → List Path → FormNode → Type 0
PartsStandBefore bound forms (NodeCat a b) = (a < bound) × (b < bound)
PartsStandBefore bound forms (NodeAlt a t) = (a < bound) × (t < bound) × IsChain (form_at forms t)
PartsStandBefore bound forms (NodeStar a) = a < bound
PartsStandBefore bound forms (NodeNot a) = a < bound
PartsStandBefore bound forms _ = ⊤

-- the node has the parts of the form at the place
abbrev pub IsNode : List Path → ℕ → FormNode → Type 0
IsNode forms k n = PartsStandBefore k forms n × (form_at forms k ≡ meaning forms n)

-- no form stands at two places
abbrev pub AreDistinct : List Path → Type 0
AreDistinct forms = (i j : ℕ) → i < length forms → j < length forms → form_at forms i ≡ form_at forms j → i ≡ j

-- the nodes have the parts of the forms
pub record AreNodes (nodes : List FormNode) (forms : List Path) : Type 0 where
  pub long : length forms ≡ length nodes
  pub each : (k : ℕ) (n : FormNode) → slice_get nodes k ≡ Some n → IsNode forms k n
  pub distinct : AreDistinct forms

-- forms were added behind others
pub record AddsForms (old new : List Path) : Type 0 where
  pub more : List Path
  pub is : new ≡ old ++ more

-- the form stands at the place
abbrev pub IsFormAt : List Path → ℕ → Path → Type 0
IsFormAt forms k a = (k < length forms) × (form_at forms k ≡ a)

-- the place of the node's variant, from 1
abbrev pub node_rank : FormNode → ℕ
node_rank NodeNothing = 1
node_rank NodeEmpty = 2
node_rank NodeDot = 3
node_rank (NodeLoc _) = 4
node_rank (NodeFun _) = 5
node_rank (NodeCat _ _) = 6
node_rank NodeNoChoice = 7
node_rank (NodeAlt _ _) = 7
node_rank (NodeStar _) = 8
node_rank (NodeNot _) = 9

-- the states are named by places of forms
abbrev pub AreFound : List Path → List ℕ → Type 0
AreFound forms found = AllByRecursion (λ form. form < length forms) found

-- how the forms at two places compare is kept
abbrev pub IsKnownOrder : List Path → (ℕ × ℕ) × Ordering → Type 0
IsKnownOrder forms known =
    (known.0.0 < length forms) × (known.0.1 < length forms) × (known.1 ≡ order (form_at forms known.0.0) (form_at forms known.0.1))

-- the symbol of a step
abbrev pub step_symbol : FormStep → Symbol
step_symbol step = record { loc = step.loc; fun = step.fun }

-- what follows the Alt at a place after a symbol is kept
abbrev pub IsKnownStep : List Path → FormStep × ℕ → Type 0
IsKnownStep forms known =
    (known.0.all < length forms) × IsFormAt forms known.1 (members_after (form_at forms known.0.all) (step_symbol known.0))

-- the nodes have the parts of their forms, and what is kept of their order and of what follows is true
pub record AreForms (all : List FormNode) (compared : List ((ℕ × ℕ) × Ordering)) (taken : List (FormStep × ℕ)) : Type 0 where
  pub nodes : AreNodes all (meanings [] all)
  pub orders : AllByRecursion (IsKnownOrder (meanings [] all)) compared
  pub steps : AllByRecursion (IsKnownStep (meanings [] all)) taken

-- two forms compare by the first part of each, and by the rest where these are equal
abbrev pub IsOrderedByParts : List Path → ℕ × ℕ → ℕ × ℕ → ℕ × ℕ → Type 0
IsOrderedByParts forms pair heads rests =
    ordering_then (order (form_at forms heads.0) (form_at forms heads.1)) (order (form_at forms rests.0) (form_at forms rests.1))
    ≡ order (form_at forms pair.0) (form_at forms pair.1)
