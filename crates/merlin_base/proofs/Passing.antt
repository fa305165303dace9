-- What a part answers, for the whole.
use Rattle.std.proofs.Common.{◌≡◌, Result, Ok, Err, IfOk, IfErr, IsErrAnd, sym, subst}

pub pass_ok : {X E : Type 0} (P Q : X → Type 0) (r : Result X E) → ((x : X) → P x → Q x) → IfOk r P → IfOk r Q
pass_ok P Q (Ok x) to h = to x h
pass_ok P Q (Err e) to h = tt

pub pass_err : {X E : Type 0} (P Q : E → Type 0) (r : Result X E) → ((e : E) → P e → Q e) → IfErr r P → IfErr r Q
pass_err P Q (Ok x) to h = tt
pass_err P Q (Err e) to h = to e h

-- the error of a `?`
pub err_to : {X E : Type 0} (P : E → Type 0) (r : Result X E) (f : E) → IsErrAnd r (λ e. e ≡ f) → P f → IfErr r P
err_to P (Ok x) f h p = tt
err_to P (Err e) f h p = subst P (sym h) p
