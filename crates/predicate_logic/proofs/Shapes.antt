-- Residues and mentions of put-together predicates, in the words of lists.
use Rattle.std.proofs.Common.{◌≡◌, ℕ, List, [], ◌∷◌, ◌++◌, append_assoc, refl, sym, ◌∙◌, ap}
use Rattle.std.specs.List.{flat_map}
use Rattle.merlin_model.specs.declared.policy.Field.{Field}
use Rattle.merlin_model.specs.declared.policy.Pred.{Pred, All, All', AnyOf, AnyOf', Not}
use Rattle.merlin_model.specs.declared.policy.Pred.TheBlock.{hidden-the_row-Pred-0, hidden-the_row-Pred-1}
use denote.Hole.Carrier.{hidden}
use Rattle.predicate_logic.specs.Residues.{residue, row_residues, residues, folded_all, folded_any, folded_not}
use Rattle.predicate_logic.specs.Mentions.{tests_of, test_mentions, mentions, test_prefixes, prefixes}

abbrev residues-of : Field → ℕ → Pred → List Pred
residues-of f v (All' _ row) = row_residues f v row
residues-of f v (AnyOf' _ row) = row_residues f v row
residues-of f v _ = []

residues-All : (f : Field) (v : ℕ) (preds : List Pred) → residues-of f v (All preds) ≡ residues f v preds
unfolding hidden-the_row-Pred-0 hidden-the_row-Pred-1 hidden
residues-All f v [] = refl
residues-All f v (pred ∷ rest) = ap (λ l. residue f v pred ∷ l) (residues-All f v rest)

residues-AnyOf : (f : Field) (v : ℕ) (preds : List Pred) → residues-of f v (AnyOf preds) ≡ residues f v preds
unfolding hidden-the_row-Pred-0 hidden-the_row-Pred-1 hidden
residues-AnyOf f v [] = refl
residues-AnyOf f v (pred ∷ rest) = ap (λ l. residue f v pred ∷ l) (residues-AnyOf f v rest)

pub residue-All : (f : Field) (v : ℕ) (preds : List Pred) → residue f v (All preds) ≡ folded_all (residues f v preds)
unfolding hidden-the_row-Pred-0 hidden-the_row-Pred-1 hidden
residue-All f v preds = ap folded_all (residues-All f v preds)

pub residue-AnyOf : (f : Field) (v : ℕ) (preds : List Pred) → residue f v (AnyOf preds) ≡ folded_any (residues f v preds)
unfolding hidden-the_row-Pred-0 hidden-the_row-Pred-1 hidden
residue-AnyOf f v preds = ap folded_any (residues-AnyOf f v preds)

pub residue-Not : (f : Field) (v : ℕ) (pred : Pred) → residue f v (Not pred) ≡ folded_not (residue f v pred)
unfolding hidden-the_row-Pred-1 hidden
residue-Not f v pred = refl

pub tests_of-All : (preds : List Pred) → tests_of (All preds) ≡ flat_map tests_of preds
unfolding hidden-the_row-Pred-0 hidden-the_row-Pred-1 hidden
tests_of-All [] = refl
tests_of-All (pred ∷ rest) = ap (λ l. tests_of pred ++ l) (tests_of-All rest)

pub tests_of-AnyOf : (preds : List Pred) → tests_of (AnyOf preds) ≡ flat_map tests_of preds
unfolding hidden-the_row-Pred-0 hidden-the_row-Pred-1 hidden
tests_of-AnyOf [] = refl
tests_of-AnyOf (pred ∷ rest) = ap (λ l. tests_of pred ++ l) (tests_of-AnyOf rest)

pub tests_of-Not : (pred : Pred) → tests_of (Not pred) ≡ tests_of pred
unfolding hidden-the_row-Pred-1 hidden
tests_of-Not pred = refl

flat_map-append : {X Y : Type 0} (f : X → List Y) (xs ys : List X) → flat_map f (xs ++ ys) ≡ flat_map f xs ++ flat_map f ys
flat_map-append f [] ys = refl
flat_map-append f (x ∷ xs) ys = ap (λ l. f x ++ l) (flat_map-append f xs ys) ∙ sym (append_assoc (f x) (flat_map f xs) (flat_map f ys))

flat_map-flat_map : {X Y Z : Type 0} (f : Y → List Z) (g : X → List Y) (xs : List X) → flat_map f (flat_map g xs) ≡ flat_map (λ x. flat_map f (g x)) xs
flat_map-flat_map f g [] = refl
flat_map-flat_map f g (x ∷ xs) = flat_map-append f (g x) (flat_map g xs) ∙ ap (λ l. flat_map f (g x) ++ l) (flat_map-flat_map f g xs)

pub mentions-All : (f : Field) (preds : List Pred) → mentions f (All preds) ≡ flat_map (mentions f) preds
mentions-All f preds = ap (flat_map (test_mentions f)) (tests_of-All preds) ∙ flat_map-flat_map (test_mentions f) tests_of preds

pub mentions-AnyOf : (f : Field) (preds : List Pred) → mentions f (AnyOf preds) ≡ flat_map (mentions f) preds
mentions-AnyOf f preds = ap (flat_map (test_mentions f)) (tests_of-AnyOf preds) ∙ flat_map-flat_map (test_mentions f) tests_of preds

pub mentions-Not : (f : Field) (pred : Pred) → mentions f (Not pred) ≡ mentions f pred
mentions-Not f pred = ap (flat_map (test_mentions f)) (tests_of-Not pred)

pub prefixes-All : (f : Field) (preds : List Pred) → prefixes f (All preds) ≡ flat_map (prefixes f) preds
prefixes-All f preds = ap (flat_map (test_prefixes f)) (tests_of-All preds) ∙ flat_map-flat_map (test_prefixes f) tests_of preds

pub prefixes-AnyOf : (f : Field) (preds : List Pred) → prefixes f (AnyOf preds) ≡ flat_map (prefixes f) preds
prefixes-AnyOf f preds = ap (flat_map (test_prefixes f)) (tests_of-AnyOf preds) ∙ flat_map-flat_map (test_prefixes f) tests_of preds

pub prefixes-Not : (f : Field) (pred : Pred) → prefixes f (Not pred) ≡ prefixes f pred
prefixes-Not f pred = ap (flat_map (test_prefixes f)) (tests_of-Not pred)
