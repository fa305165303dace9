use Rattle.std.proofs.Common.{ℕ, ◌≡◌, ◌<◌, Some, slice_get}
use Rattle.merlin_model.specs.declared.policy.Bound.TheVariants.{Max}
use Rattle.merlin_model.specs.declared.policy.Term.{Term}
use Rattle.merlin_model.specs.Networks.{Network}
use Rattle.refinement_model.specs.Refinement.{KeepsCap}
use Rattle.negotiator.specs.Wider.{AreContacts}
use Rattle.negotiator.proofs.asking.ask_caps.Given as goal

abbrev pub invariant-loop-place : goal.invariant-loop-place
invariant-loop-place l = (net : Network) → AreContacts net l.parent.policy l.child.policy l.contacts →
    (k : ℕ) (t : Term) → k < l.place → slice_get l.terms k ≡ Some t → t.bound ≡ Max → KeepsCap net l.parent.policy l.child.policy t
