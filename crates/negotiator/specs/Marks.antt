-- Marks on statements, one for each by its place: those that a term bounds, and those that touch them.
use Rattle.std.specs.Prelude.{ℕ, suc, ◌≡◌, ◌<◌, ◌↔◌, Bool, true, false, List, [], ◌∷◌, length, Contains, if◌then◌else◌}
use Rattle.std.specs.List.{AllByRecursion, slice_index_or}
use Rattle.merlin_model.specs.declared.policy.Term.{Term}
use Rattle.merlin_model.specs.Policies.{Policy, paths_of}
use Rattle.refinement_model.specs.Refinement.{IsIn, IsReserved}
use Rattle.negotiator.specs.declared.contacts.Contact.{Contact}
use Rattle.negotiator.specs.Wider.{contact}

abbrev pub is_marked : List Bool → ℕ → Bool
is_marked marks i = slice_index_or marks i false

-- the places of the marks, where the first one has this place
abbrev pub marked_from : ℕ → List Bool → List ℕ
marked_from n [] = []
marked_from n (mark ∷ marks) = if mark then n ∷ marked_from (suc n) marks else marked_from (suc n) marks

abbrev pub marked : List Bool → List ℕ
marked marks = marked_from 0 marks

-- a statement in touch with one that is chosen
abbrev pub MeetsChosen : List Contact → List Bool → ℕ → Type 0
MeetsChosen contacts chosen i = (j : ℕ) × Contains contacts (contact i j) × (is_marked chosen j ≡ true)

-- so many marks, on exactly the statements in touch with one that is chosen
pub record AreMarks (contacts : List Contact) (chosen : List Bool) (count : ℕ) (marks : List Bool) : Type 0 where
  pub size : length marks ≡ count
  pub exactly : (i : ℕ) → (is_marked marks i ≡ true) ↔ MeetsChosen contacts chosen i

-- the contacts are between so many statements of the child and so many of the parent
abbrev pub AreContactsWithin : ℕ → ℕ → List Contact → Type 0
AreContactsWithin of_child of_parent contacts = AllByRecursion (λ c. (c.child < of_child) × (c.parent < of_parent)) contacts

-- a mark for each of the first statements, which is this exactly where this is true of the statement
pub record AreMarkedUpTo (mark : Bool) (Holds : ℕ → Type 0) (count : ℕ) (marks : List Bool) : Type 0 where
  pub size : length marks ≡ count
  pub exactly : (j : ℕ) → j < count → (is_marked marks j ≡ mark) ↔ Holds j

-- The statements of a policy that a term bounds are marked, or those that no `min` term bounds.
abbrev pub AreBounded : Policy → Term → List Bool → Type 0
AreBounded policy term = AreMarkedUpTo true (IsIn policy term) (length (paths_of policy))

abbrev pub AreUnreserved : Policy → List Bool → Type 0
AreUnreserved policy = AreMarkedUpTo false (IsReserved policy) (length (paths_of policy))
