-- The place of a vertex among others.
use Rattle.std.proofs.Common.{◌≡◌, ℕ, Bool, true, List, slice_get, Contains, Option, None, Some, MatchOption, position, sym, ◌∙◌, ap}
use Rattle.merlin_model.proofs.Members.{in_from}
use Rattle.topology.proofs.Lookup.{position_at, position_none}
use Rattle.product_graph.specs.declared.vertex_set.NumberedVertex.{NumberedVertex}
use Rattle.product_graph.proofs.Standing.{in-get}

pub place-of : (test : NumberedVertex → Bool) (keys : List NumberedVertex) (v : NumberedVertex) → ((k : NumberedVertex) → test k ≡ true → v ≡ k) → test v ≡ true → (o : Option ℕ) → o ≡ position test keys → MatchOption o (¬ Contains keys v) (λ i. slice_get keys i ≡ Some v)
place-of test keys v same itself None e = λ h. let place = in-get keys v (in_from keys v h) in position_none test keys (sym e) place.0 v place.1 itself
place-of test keys v same itself (Some i) e = let at = position_at test keys i (sym e) in at.1 ∙ ap Some (sym (same at.0 at.2))
