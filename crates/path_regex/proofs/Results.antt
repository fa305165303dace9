-- What holds of a value holds of an answer that is that value.
use Rattle.std.proofs.Common.{◌≡◌, Result, Ok, Err, IfOk, sym, subst}

pub if_ok : {X E : Type 0} (P : X → Type 0) (r : Result X E) (v : X) → IfOk r (λ x. x ≡ v) → P v → IfOk r P
if_ok P (Ok x) v e p = subst P (sym e) p
if_ok P (Err f) v e p = tt
