-- Kinds of statements, and how statements join groups.
use Rattle.std.specs.Prelude.{ℕ, ◌≡◌, ◌<◌, ◌⊎◌, ◌↔◌, ⊤, List, [], ◌∷◌, ◌++◌, length, slice_get, Contains, Option, None, Some, MatchOption}
use Rattle.merlin_model.specs.declared.policy.Path.{Path}
use Rattle.merlin_model.specs.Policies.{Policy, paths_of}
use Rattle.merlin_model.specs.Rates.{IsGuaranteed}
use Rattle.merlin_model.specs.Networks.{Pairwise}
use Rattle.path_regex.specs.Normal.{normal_of}
use Rattle.path_regex.specs.Shared.{IsFormAt}
use Rattle.configuration_model.specs.Groups.{HaveOneForm, Leads}
use Rattle.openflow_rules.specs.declared.groups.Grouping.{Grouping}

-- none for a guaranteed statement, else the number of the normal form of its path among these
abbrev pub IsKindOf : Policy → List Path → ℕ → Option ℕ → Type 0
IsKindOf policy forms i None = IsGuaranteed policy i
IsKindOf policy forms i (Some k) =
    (¬ IsGuaranteed policy i)
    × ((path : Path) → slice_get (paths_of policy) i ≡ Some path → IsFormAt forms k (normal_of path))

-- the kinds of all statements: two of best effort have one kind exactly where their paths have one normal form
pub record AreKinds (policy : Policy) (kinds : List (Option ℕ)) : Type 0 where
  pub size : length kinds ≡ length (paths_of policy)
  pub guaranteed : (i : ℕ) → slice_get kinds i ≡ Some None → IsGuaranteed policy i
  pub best_effort : (i a : ℕ) → slice_get kinds i ≡ Some (Some a) → ¬ IsGuaranteed policy i
  pub alike : (i j a b : ℕ) → slice_get kinds i ≡ Some (Some a) → slice_get kinds j ≡ Some (Some b) →
      (a ≡ b) ↔ HaveOneForm policy i j

-- the statement joined a group of its kind
pub record IsJoinedTo (kind : Option ℕ) (old new : Grouping) : Type 0 where
  pub group : ℕ
  pub form : ℕ
  pub is : kind ≡ Some form
  pub there : slice_get old.kinds group ≡ Some (Some form)
  pub leaders : new.groups.leaders ≡ old.groups.leaders
  pub kinds : new.kinds ≡ old.kinds
  pub group_of : new.groups.group_of ≡ old.groups.group_of ++ group ∷ []

-- the statement stands for a new group, where there is none of its kind
pub record IsLeading (statement : ℕ) (kind : Option ℕ) (old new : Grouping) : Type 0 where
  pub new_kind : MatchOption kind ⊤ (λ form. ¬ Contains old.kinds (Some form))
  pub leaders : new.groups.leaders ≡ old.groups.leaders ++ statement ∷ []
  pub kinds : new.kinds ≡ old.kinds ++ kind ∷ []
  pub group_of : new.groups.group_of ≡ old.groups.group_of ++ length old.groups.leaders ∷ []

abbrev pub IsStatementAdded : ℕ → Option ℕ → Grouping → Grouping → Type 0
IsStatementAdded statement kind old new = IsJoinedTo kind old new ⊎ IsLeading statement kind old new

-- the groups of the first so many statements
pub record AreGroupedBelow (policy : Policy) (all : List (Option ℕ)) (n : ℕ) (g : Grouping) : Type 0 where
  pub ascending : Pairwise (λ i j. i < j) g.groups.leaders
  pub leaders_are : (j : ℕ) → Contains g.groups.leaders j ↔ ((j < n) × Leads policy j j)
  pub size : length g.groups.group_of ≡ n
  pub each : (i h : ℕ) → slice_get g.groups.group_of i ≡ Some h →
      (j : ℕ) × (slice_get g.groups.leaders h ≡ Some j) × Leads policy i j
  pub long : length g.kinds ≡ length g.groups.leaders
  pub kinds_are : (h j : ℕ) → slice_get g.groups.leaders h ≡ Some j → slice_get g.kinds h ≡ slice_get all j
