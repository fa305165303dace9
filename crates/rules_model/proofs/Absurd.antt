-- Constructors that differ.
use Rattle.std.proofs.Common.{◌≡◌, true, false, None, Some}

pub None-Some : {X : Type 0} {x : X} → None ≡ Some x → ⊥
None-Some e = cc

pub false-true : false ≡ true → ⊥
false-true e = cc
