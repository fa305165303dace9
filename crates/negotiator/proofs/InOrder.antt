-- Terms are asked one after another: the first that fails is named, and where none fails all are kept.
use Rattle.std.proofs.Common.{◌≡◌, ◌≢◌, ◌<◌, ◌≤◌, ◌+◌, ◌⊎◌, inl, inr, ℕ, zero, suc, List, length, Contains, Some, slice_get, sym, ◌∙◌, ap, subst, arith}
use Rattle.std.proofs.lemmas.Bool.{cases_eq}
use Rattle.std.proofs.lemmas.Option.{slice_get-get_or}
use Rattle.merlin_model.specs.declared.policy.Bound.TheVariants.{Max, Min}
use Rattle.merlin_model.specs.declared.policy.Symbol.{Symbol}
use Rattle.merlin_model.specs.declared.policy.Term.{Term}
use Rattle.merlin_model.specs.Networks.{Network}
use Rattle.merlin_model.specs.Policies.{Policy}
use Rattle.refinement_model.specs.Refinement.{KeepsCap, KeepsReserve, Refines}
use Rattle.negotiator.specs.declared.fault.RefineFault.{RefineFault}
use Rattle.negotiator.specs.declared.fault.RefineFault.TheVariants.{TooManyCells, PathWider, CapWider, ReserveWider, OutOfMemory}
use Rattle.negotiator.specs.Amounts.{KeepsAllCaps, KeepsAllReserves, IsWithinReserves}
use Rattle.negotiator.specs.CellCounts.{HasFewCellsTogether}
use Rattle.negotiator.specs.Refusals.{RefusesCap, RefusesCaps, RefusesReserve, RefusesReserves, RefusesOutside, RefusesAmounts, RefusesRules, RefusesChild}
use Rattle.negotiator.specs.Wider.{KeepsPaths}

-- what is so of each element before a place, and then of that element
pub one-further : {X : Type 0} (xs : List X) (P : X → Type 0) (n : ℕ) (x : X) → slice_get xs n ≡ Some x → ((k : ℕ) (y : X) → k < n → slice_get xs k ≡ Some y → P y) → P x →
    (k : ℕ) (y : X) → k < n + 1 → slice_get xs k ≡ Some y → P y
one-further {X} xs P n x at before here k y less there = by (cases_eq k n)
  where
    same-some : (a b : X) → Some a ≡ Some b → a ≡ b
    same-some a b e = cc

    by : (k ≡ n) ⊎ (k ≡ n → ⊥) → P y
    by (inl e) = subst P (same-some x y (sym at ∙ (ap (slice_get xs) (sym e) ∙ there))) here
    by (inr other) = before k y (let apart : k ≢ n = other in let r : k < n = omega (arith, less, apart) in r) there

pub one-later : (P : ℕ → Type 0) (n : ℕ) → ((k : ℕ) → k < n → P k) → P n → (k : ℕ) → k < n + 1 → P k
one-later P n before here k less = by (cases_eq k n)
  where
    by : (k ≡ n) ⊎ (k ≡ n → ⊥) → P k
    by (inl e) = subst P (sym e) here
    by (inr other) = before k (let apart : k ≢ n = other in omega (arith, less, apart))

pub of-all : {X : Type 0} (xs : List X) (P : X → Type 0) (n : ℕ) → length xs ≤ n → ((k : ℕ) (y : X) → k < n → slice_get xs k ≡ Some y → P y) → (x : X) → Contains xs x → P x
of-all xs P n all before x c = let less = c.1 in before c.0 x (omega (arith, less, all)) (slice_get-get_or xs c.0 x c.1 ∙ ap Some c.2)

module _ (net : Network) (parent child : Policy) where
  pub first-cap : (place number : ℕ) → number ≡ suc place → (term : Term) → slice_get parent.terms place ≡ Some term → ((k : ℕ) (t : Term) → k < place → slice_get parent.terms k ≡ Some t → t.bound ≡ Max → KeepsCap net parent child t) →
      (fault : RefineFault) → RefusesCap net parent child number term fault → RefusesCaps net parent child fault
  first-cap place number is term at before (CapWider n sum) h = subst (λ m. RefusesCaps net parent child (CapWider m sum)) (sym (h.0 ∙ is)) (record { term = term; stands = at; wide = h.1; before = before })
  first-cap place number is term at before (TooManyCells count) h = h
  first-cap place number is term at before (PathWider packet word) h = h
  first-cap place number is term at before (ReserveWider n sum) h = h
  first-cap place number is term at before OutOfMemory h = tt

  pub first-reserve : (place number : ℕ) → number ≡ suc place → (term : Term) → slice_get parent.terms place ≡ Some term → ((k : ℕ) (t : Term) → k < place → slice_get parent.terms k ≡ Some t → t.bound ≡ Min → KeepsReserve net parent child t) →
      (fault : RefineFault) → RefusesReserve net parent child number term fault → RefusesReserves net parent child fault
  first-reserve place number is term at before (ReserveWider n sum) h = subst (λ m. RefusesReserves net parent child (ReserveWider m sum)) (sym (h.0 ∙ is)) (record { term = term; stands = at; wide = h.1; before = before })
  first-reserve place number is term at before (TooManyCells count) h = h
  first-reserve place number is term at before (PathWider packet word) h = h
  first-reserve place number is term at before (CapWider n sum) h = h
  first-reserve place number is term at before OutOfMemory h = tt

  pub caps-refused : (fault : RefineFault) → RefusesCaps net parent child fault → RefusesAmounts net parent child fault
  caps-refused (CapWider number sum) h = h
  caps-refused (TooManyCells count) h = h
  caps-refused (PathWider packet word) h = h
  caps-refused (ReserveWider number sum) h = absurd h
  caps-refused OutOfMemory h = tt

  pub reserves-refused : KeepsAllCaps net parent child → (fault : RefineFault) → RefusesReserves net parent child fault → RefusesAmounts net parent child fault
  reserves-refused caps (ReserveWider zero sum) h = absurd h
  reserves-refused caps (ReserveWider (suc place) sum) h = (caps, h)
  reserves-refused caps (TooManyCells count) h = h
  reserves-refused caps (PathWider packet word) h = h
  reserves-refused caps (CapWider number sum) h = absurd h
  reserves-refused caps OutOfMemory h = tt

  pub outside-refused : KeepsAllCaps net parent child → KeepsAllReserves net parent child → (fault : RefineFault) → RefusesOutside net parent child fault → RefusesAmounts net parent child fault
  outside-refused caps reserves (ReserveWider zero sum) h = (caps, reserves, h)
  outside-refused caps reserves (ReserveWider (suc place) sum) h = absurd h
  outside-refused caps reserves (TooManyCells count) h = h
  outside-refused caps reserves (PathWider packet word) h = h
  outside-refused caps reserves (CapWider number sum) h = absurd h
  outside-refused caps reserves OutOfMemory h = tt

  pub amounts-refused : (symbols : List Symbol) → KeepsPaths net parent child → (fault : RefineFault) → RefusesAmounts net parent child fault → RefusesRules net parent child symbols fault
  amounts-refused symbols paths (ReserveWider number sum) h = (paths, h)
  amounts-refused symbols paths (CapWider number sum) h = (paths, h)
  amounts-refused symbols paths (TooManyCells count) h = h
  amounts-refused symbols paths (PathWider packet word) h = absurd h
  amounts-refused symbols paths OutOfMemory h = tt

  pub rules-refused : (symbols : List Symbol) → HasFewCellsTogether net parent child → (fault : RefineFault) → RefusesRules net parent child symbols fault → RefusesChild net parent child symbols fault
  rules-refused symbols few (ReserveWider number sum) h = (few, h)
  rules-refused symbols few (CapWider number sum) h = (few, h)
  rules-refused symbols few (TooManyCells count) h = absurd h
  rules-refused symbols few (PathWider packet word) h = (few, h)
  rules-refused symbols few OutOfMemory h = tt

  pub all-kept : KeepsPaths net parent child → KeepsAllCaps net parent child → KeepsAllReserves net parent child → ((i : ℕ) → IsWithinReserves net parent child i) → Refines net parent child
  all-kept paths caps reserves within = record {
    path = λ p s w. paths p s w;
    caps = caps;
    reserves = reserves;
    outside = λ i j guaranteed touches. within i guaranteed j touches;
  }
