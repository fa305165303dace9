-- Owned cells as they are listed are those that the model has.
use Rattle.std.proofs.Common.{◌≡◌, ℕ, ◌==◌, Bool, true, false, cond, List, [], ◌∷◌, ◌++◌, map, refl, ◌∙◌, ap}
use Rattle.std.specs.Prelude.{unwrap_or, slice_get}
use Rattle.std.specs.List.{flat_map}
use Rattle.merlin_model.specs.Networks.{Network}
use Rattle.merlin_model.specs.Policies.{Policy, default_of}
use Rattle.rules_model.specs.Tables.{Cell, Owned}
use Rattle.predicate_split.specs.declared.pair_cells.Cell.{Cell as HostCell}
use Rattle.configuration_model.specs.Cells.{table_cell, owner_of}
use Rattle.configuration_model.specs.Pairs.{pair_cells}
use Rattle.configuration_model.specs.Tables.{grouped_cells}
use Rattle.rule_tables.specs.Branches.{owned_of}
use Rattle.openflow_rules.specs.OwnedCells.{owned_cell, owned_between, owned_from}

map-append : {X Y : Type 0} (f : X → Y) (xs ys : List X) → map f (xs ++ ys) ≡ map f xs ++ map f ys
map-append f [] ys = refl
map-append f (x ∷ xs) ys = ap (λ r. f x ∷ r) (map-append f xs ys)

map-flat : {X Y Z : Type 0} (f : Y → Z) (g : X → List Y) (h : X → List Z) → ((x : X) → map f (g x) ≡ h x) → (xs : List X) → map f (flat_map g xs) ≡ flat_map h xs
map-flat f g h same [] = refl
map-flat f g h same (x ∷ xs) = map-append f (g x) (flat_map g xs) ∙ ap (λ r. r ++ map f (flat_map g xs)) (same x) ∙ ap (λ r. h x ++ r) (map-flat f g h same xs)

abbrev model_cell : ℕ → ℕ → Cell × ℕ → Owned
model_cell s d c = record { source = s; dest = d; cell = c.0; group = c.1 }

module _ (net : Network) (policy : Policy) (group_of : List ℕ) where
  -- the cells of a pair as the model has them
  abbrev pieces : ℕ → ℕ → List Owned
  pieces s d = cond (s == d) [] (map (model_cell s d) (grouped_cells policy group_of (pair_cells net policy) s d))

  each-cell : (s d : ℕ) (cs : List HostCell) →
      map owned_of (map (owned_cell group_of (default_of policy) s d) cs)
      ≡ map (model_cell s d) (map {A = HostCell} {B = Cell × ℕ} (λ c. (table_cell c, unwrap_or (slice_get group_of (owner_of (default_of policy) c)) 0)) cs)
  each-cell s d [] = refl
  each-cell s d (c ∷ cs) = ap (λ r. owned_of (owned_cell group_of (default_of policy) s d c) ∷ r) (each-cell s d cs)

  each-pair : (s d : ℕ) → map owned_of (owned_between net policy group_of s d) ≡ pieces s d
  each-pair s d = by (s == d)
    where
      by : (b : Bool) → map owned_of (cond b [] (map (owned_cell group_of (default_of policy) s d) (pair_cells net policy s d))) ≡ cond b [] (map (model_cell s d) (grouped_cells policy group_of (pair_cells net policy) s d))
      by true = refl
      by false = each-cell s d (pair_cells net policy s d)

  pub owned-are : (hosts : List ℕ) → map owned_of (flat_map (owned_from net policy group_of hosts) hosts) ≡ flat_map (λ s. flat_map (pieces s) hosts) hosts
  owned-are hosts = map-flat owned_of (owned_from net policy group_of hosts) (λ s. flat_map (pieces s) hosts) (λ s. map-flat owned_of (owned_between net policy group_of s) (pieces s) (each-pair s) hosts) hosts
