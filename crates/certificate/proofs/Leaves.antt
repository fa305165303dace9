-- What a leaf's sums say.
use Rattle.std.proofs.Common.{◌≡◌, Bool, ℤ, ◌<ℤ◌, IsTrue, List, Option, sym, subst, arith, to_z, of_z, ◌∙◌}
use mir.Syntax.{w128}
use mir.Val.{SFits}
use lib.Signed.{lt_z}
use Rattle.std.proofs.lemmas.Int.{ints, to_z-of_z}
use Rattle.merlin_model.specs.Programs.{Program}
use Rattle.merlin_model.specs.Trees.{weighted_right, least_value, RefutesBox}
use Rattle.merlin_model.specs.declared.certificate.Weight.{Weight}
use Rattle.certificate.specs.Weights.{AreWeights}

less : (a b : ℤ) → IsTrue (lt_z a b) → a <ℤ b
less a b e = grind (arith, ints)

test : (a b : ℤ) → a <ℤ b → IsTrue (lt_z a b)
test a b h = grind (arith, ints)

pub leaf_answer : (program : Program) (box : List (Option Bool)) (weights : List Weight) (right least : ℤ) → AreWeights program weights → right ≡ weighted_right program weights → least ≡ least_value program box weights →
    SFits w128 right → SFits w128 least → (IsTrue (lt_z (to_z w128 (of_z w128 right)) (to_z w128 (of_z w128 least))) → RefutesBox program box weights) × (RefutesBox program box weights → IsTrue (lt_z (to_z w128 (of_z w128 right)) (to_z w128 (of_z w128 least))))
leaf_answer program box weights right least are r l f g = (
  λ e. record {
    ascend = are.ascend;
    exist = are.exist;
    small = are.small;
    signs = are.signs;
    exceeds = subst (λ z. z <ℤ least_value program box weights) right_is (subst (λ z. to_z w128 (of_z w128 right) <ℤ z) least_is (less _ _ e));
  },
  λ refutes. test _ _ (subst (λ z. z <ℤ to_z w128 (of_z w128 least)) (sym right_is) (subst (λ z. weighted_right program weights <ℤ z) (sym least_is) refutes.exceeds)),
)
  where
    right_is : to_z w128 (of_z w128 right) ≡ weighted_right program weights
    right_is = to_z-of_z w128 right f ∙ r

    least_is : to_z w128 (of_z w128 least) ≡ least_value program box weights
    least_is = to_z-of_z w128 least g ∙ l

-- the weights that the tests of a leaf let through are those that refute
pub weights_of : (program : Program) (box : List (Option Bool)) (weights : List Weight) → RefutesBox program box weights → AreWeights program weights
weights_of program box weights refutes = record { ascend = refutes.ascend; exist = refutes.exist; small = refutes.small; signs = refutes.signs }
