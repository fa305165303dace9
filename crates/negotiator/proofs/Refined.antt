-- From the rules to the whole of refinement.
use Rattle.std.proofs.Common.{◌<◌, ℕ, List, [], ◌∷◌, length, Contains, Result, Ok, Err, OnOk, IfErr, inl, inr, refl, subst, arith}
use Rattle.merlin_model.specs.declared.policy.Symbol.{Symbol}
use Rattle.merlin_model.specs.declared.policy.Term.{Term}
use Rattle.merlin_model.specs.Networks.{Network, AreDifferent}
use Rattle.merlin_model.specs.Policies.{Policy, paths_of}
use Rattle.merlin_model.specs.Rates.{ids_of}
use Rattle.merlin_model.proofs.Members.{In, in_from, in_to, all_in}
use Rattle.predicate_split.specs.declared.fault.TheConstants.{MAX_CELLS}
use Rattle.policy_check.specs.Checked.{IsSoundPolicy}
use Rattle.refinement_model.specs.Refinement.{Refines}
use Rattle.negotiator.specs.declared.contacts.Contact.{Contact}
use Rattle.negotiator.specs.declared.fault.RefineFault.{RefineFault}
use Rattle.negotiator.specs.declared.fault.RefineFault.TheVariants.{TooManyCells, PathWider, CapWider, ReserveWider, OutOfMemory}
use Rattle.negotiator.specs.Amounts.{KeepsAllCaps, KeepsAllReserves, IsWithinReserves}
use Rattle.negotiator.specs.CellCounts.{cell_count}
use Rattle.negotiator.specs.Contacts.{preds_of_both}
use Rattle.negotiator.specs.Marks.{AreContactsWithin}
use Rattle.negotiator.specs.Refusals.{PassesRoom, RefusesChild}
use Rattle.negotiator.specs.Wider.{KeepsPaths, AreContacts}
use Rattle.negotiator.proofs.InOrder.{all-kept}

pub if-err : {X F : Type 0} (r : Result X F) (P Q : F → Type 0) → ((f : F) → P f → Q f) → IfErr r P → IfErr r Q
if-err (Ok x) P Q f h = tt
if-err (Err e) P Q f h = f e h

module _ (net : Network) (parent child : Policy) where
  pub few-refused : (symbols : List Symbol) (fault : RefineFault) → PassesRoom (cell_count net (preds_of_both parent child)) MAX_CELLS fault → RefusesChild net parent child symbols fault
  few-refused symbols (TooManyCells count) h = ((λ few. let over = h.0 in absurd (omega (arith, over, few))), h.1)
  few-refused symbols (PathWider packet word) h = absurd h
  few-refused symbols (CapWider term sum) h = absurd h
  few-refused symbols (ReserveWider term sum) h = absurd h
  few-refused symbols OutOfMemory h = tt

  pub rules-ok : {X : Type 0} (r : Result X RefineFault) → KeepsPaths net parent child → OnOk r (KeepsAllCaps net parent child) → OnOk r (KeepsAllReserves net parent child) →
      OnOk r ((i : ℕ) → IsWithinReserves net parent child i) → OnOk r (Refines net parent child)
  rules-ok (Ok x) paths caps reserves within = all-kept net parent child paths caps reserves within
  rules-ok (Err e) paths caps reserves within = tt

  -- who touches is a statement, or a default
  pub within-of : (contacts : List Contact) → AreContacts net parent child contacts → IsSoundPolicy parent → IsSoundPolicy child → AreContactsWithin (length (paths_of child)) (length (paths_of parent)) contacts
  within-of contacts are of_parent of_child = go contacts (λ c i. i)
    where
      at : (c : Contact) → Contains contacts c → (c.child < length (paths_of child)) × (c.parent < length (paths_of parent))
      at c h =
          let t = (are c.child c.parent).0 h in
          (subst (λ n. n < length (paths_of child)) t.of_child (of_child.total t.packet t.is_packet), subst (λ n. n < length (paths_of parent)) t.of_parent (of_parent.total t.packet t.is_packet))

      go : (cs : List Contact) → ((c : Contact) → In c cs → In c contacts) → AreContactsWithin (length (paths_of child)) (length (paths_of parent)) cs
      go [] f = tt
      go (c ∷ cs) f = (at c (in_to contacts c (f c (inl refl))), go cs (λ d i. f d (inr i)))

  pub once : IsSoundPolicy parent → (term : Term) → Contains parent.terms term → AreDifferent (ids_of term)
  once sound term contains = all_in (λ (t : Term). AreDifferent (ids_of t)) parent.terms term sound.once (in_from parent.terms term contains)
