-- What packet functions do by what a caller's function answers.
use Rattle.std.specs.Prelude.{◌≡◌}
use Rattle.merlin_model.specs.declared.network.FnDecl.{FnDecl}
use Rattle.merlin_model.specs.Packets.{Packet}
use Rattle.merlin_model.specs.Functions.{Behaviour}

-- by what a function answers that takes a reference to their declaration
abbrev pub behaviour_by : {D : Type 0} → (D → Packet → Packet → Type 0) → (D → FnDecl) → Behaviour
behaviour_by {D} answers decl_of decl packet changed =
    (d : D) × (decl_of d ≡ decl) × answers d packet changed
