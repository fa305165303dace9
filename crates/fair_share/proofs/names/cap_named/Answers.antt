use Rattle.std.proofs.Common.{◌≡◌, ℕ, zero, suc, ◌+◌, ◌<◌, ◌⊎◌, inl, inr, true, false, List, [], ◌∷◌, map, Some, length, slice_get, get_or, unwrap_or, sym, ◌∙◌, ap, arith}
use Rattle.fair_share.specs.declared.cap.Cap.{Cap}
use Rattle.fair_share.proofs.names.cap_named.Goals as goal

name-here : (caps : List Cap) (i : ℕ) (cap : Cap) → i < length caps → cap ≡ get_or caps i cap → slice_get (map (λ (c : Cap). c.name) caps) i ≡ Some cap.name
name-here [] i cap l e = let no : ⊥ = omega arith in absurd no
name-here (x ∷ caps) zero cap l e = ap (λ (y : Cap). Some y.name) (sym e)
name-here (x ∷ caps) (suc i) cap l e = name-here caps i cap (omega arith) e

names-within : (caps : List Cap) (c : ℕ) (name : List ℕ) → slice_get (map (λ (c : Cap). c.name) caps) c ≡ Some name → c < length caps
names-within [] c name e = let no : ⊥ = cc in absurd no
names-within (x ∷ caps) zero name e = omega arith
names-within (x ∷ caps) (suc c) name e = let h = names-within caps c name e in omega arith

last : (k n : ℕ) → k < n + 1 → (k ≡ n) ⊎ (k < n)
last k n l = grind arith

clash : true ≡ false → ⊥
clash e = cc

pub returns-then-has_name-clause-some : goal.returns-then-has_name-clause-some
returns-then-has_name-clause-some c =
    name-here c.args.caps.now c.loop-index.index c.index-caps-index.result (let t = c.loop-index-test.true in omega arith) c.index-caps-index.is ∙ ap Some (c.has_name.ensures.0 c.if-has_name.true)

pub loop-index-preserved : goal.loop-index-preserved
loop-index-preserved c k l e = by (last k c.loop-index.index l)
  where
    by : (k ≡ c.loop-index.index) ⊎ (k < c.loop-index.index) → ⊥
    by (inr lt) = c.loop-index.invariant k lt e
    by (inl same) =
        let here = name-here c.args.caps.now c.loop-index.index c.index-caps-index.result (let t = c.loop-index-test.true in omega arith) c.index-caps-index.is in
        let named : c.index-caps-index.result.name ≡ c.args.name.now = ap (λ o. unwrap_or o c.args.name.now) (sym here ∙ ap (slice_get (map (λ (c : Cap). c.name) c.args.caps.now)) (sym same) ∙ e) in
        clash (sym (c.has_name.ensures.1 named) ∙ c.if-has_name.false)

pub returns-clause-none : goal.returns-clause-none
returns-clause-none c = λ k e. c.loop-index.invariant k (let l = names-within c.args.caps.now k c.args.name.now e in let t = c.loop-index-test.false in omega arith) e
