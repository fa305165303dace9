-- A question that is asked of one node after another.
use Rattle.std.specs.Prelude.{ℕ, ◌≡◌, ◌<◌, List, Some, slice_get}
use Rattle.delegation.specs.declared.node.Node.{Node}

-- it is answered yes at each node before this place
abbrev pub IsSoBefore : List Node → (ℕ → Node → Type 0) → ℕ → Type 0
IsSoBefore nodes IsSo k = (i : ℕ) (earlier : Node) → i < k → slice_get nodes i ≡ Some earlier → IsSo i earlier
