-- Pairs that are made and counted one after another.
use Rattle.std.proofs.Common.{◌≡◌, true, false, List, [], ◌∷◌, ◌++◌, length, ◌==◌, refl, sym, ◌∙◌, append_assoc}
use Rattle.std.proofs.lemmas.List.{nil_from_length}
use Rattle.std.proofs.lemmas.Bool.{eqb-true}
use Rattle.policy_grammar.specs.declared.written.Literal.{Literal}
use Rattle.policy_expansion.specs.WrittenOut.{unlike, pairs, pairs_from}

-- without inner literals there is no pair
pub no_pairs : (outer : List Literal) → pairs outer [] ≡ []
no_pairs [] = refl
no_pairs (a ∷ outer) = no_pairs outer

module _ (found whole : List (Literal × Literal)) (a b : Literal) (others : List Literal) (so_far : found ++ pairs_from (b ∷ others) a ≡ whole) where
  pub pair_found : unlike a b ≡ true → (found ++ (a, b) ∷ []) ++ pairs_from others a ≡ whole
  pair_found e = append_assoc found ((a, b) ∷ []) (pairs_from others a) ∙ (rw e at so_far)

  pub pair_passed : unlike a b ≡ false → found ++ pairs_from others a ≡ whole
  pair_passed e = rw e at so_far

pub pairs_of_empty : (outer inner : List Literal) → true ≡ (length inner == 0) → pairs outer inner ≡ []
pairs_of_empty outer inner e = rw (nil_from_length inner (eqb-true (length inner) 0 (sym e))) (no_pairs outer)
