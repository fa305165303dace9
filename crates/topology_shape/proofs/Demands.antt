-- Members that are asked for in turn.
use Rattle.std.proofs.Common.{◌≡◌, ℕ, List, Option, None, Some, IfSome, IfNone, IfErr, Result, Err, Bor, sym, ◌∙◌, subst}
use Rattle.std.specs.Option.{ok_or}

pub there : {X : Type 0} (P : X → Type 0) (o : Option X) (x : X) → o ≡ Some x → IfSome o P → P x
there P None x e h = absurd (never x e)
  where
    never : {X : Type 0} (x : X) → None ≡ Some x → ⊥
    never x e = cc
there {X} P (Some y) x e h = let same : y ≡ x = cc in subst P same h

pub not_there : {X : Type 0} (P : Type 0) (o : Option X) → o ≡ None → IfNone o P → P
not_there P None e h = h
not_there P (Some x) e h = absurd (never x e)
  where
    never : {X : Type 0} (x : X) → Some x ≡ None → ⊥
    never x e = cc

-- what is missing is the fault
missed : {X E : Type 0} (o : Option X) (e f : E) → o ≡ None → Err f ≡ ok_or o e → f ≡ e
missed {X} {E} None e f missing h = cc
missed {X} {E} (Some x) e f missing h = absurd (never x missing)
  where
    never : {X : Type 0} (x : X) → Some x ≡ None → ⊥
    never x e = cc

pub wrong_member : {X Y : Type 0} (IsWrong : List ℕ → Type 0) (o : Option X) (e f g : Bor (List ℕ)) (r : Result Y (Bor (List ℕ))) → r ≡ Err g → g ≡ f → o ≡ None → Err f ≡ ok_or o e → IsWrong e.now → IfErr r (λ m. IsWrong m.now)
wrong_member {X} {Y} IsWrong o e f g r is same missing h wrong =
    let this : g ≡ e = same ∙ missed o e f missing h in
    subst (λ (x : Result Y (Bor (List ℕ))). IfErr x (λ m. IsWrong m.now)) (sym is) (subst (λ (x : Bor (List ℕ)). IsWrong x.now) (sym this) wrong)
