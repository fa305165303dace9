-- How many places functions have, one function after another.
use Rattle.std.proofs.Common.{◌≡◌, ◌+◌, ◌<◌, ◌≤◌, ℕ, List, [], ◌∷◌, ◌++◌, length, take, get_or, sym, ap, arith}
use Rattle.std.proofs.lemmas.List.Sums.{sum_by-cons, sum_by-append, sum_by-take-le}
use Rattle.merlin_model.specs.declared.network.FnDecl.{FnDecl}
use Rattle.topology_rules.specs.Counts.{placements}
use Rattle.topology_rules.proofs.KeyClashes.{one_more}

pub placements_more : (fs : List FnDecl) (i : ℕ) (f : FnDecl) → i < length fs → f ≡ get_or fs i f → placements (take (i + 1) fs) ≡ placements (take i fs) + length f.places
placements_more fs i f within is =
    let whole : placements (take (i + 1) fs) ≡ placements (take i fs ++ f ∷ []) = ap placements (sym (one_more fs i f within is)) in
    let one : placements (f ∷ []) ≡ length f.places + placements [] = sum_by-cons (λ g. length g.places) f [] in
    omega (arith, whole, sum_by-append (λ g. length g.places) (take i fs) (f ∷ []), one)

pub placements_less : (fs : List FnDecl) (i : ℕ) → placements (take i fs) ≤ placements fs
placements_less fs i = sum_by-take-le (λ f. length f.places) fs i
