-- What holds of each entry of a map.
use Rattle.std.proofs.Common.{Result, Ok, Err, ◌≡◌, OnErr, Option, None, Some, IfSome, OnOk, if◌then◌else◌, Bool, true, false, List, [], ◌∷◌, refl, sym, subst}
use Rattle.std.specs.List.{AllByRecursion}
use Rattle.std.specs.Map.{lookup}
use Rattle.indexmap.specs.IndexMap.{insert_entry}

module _ (K V : Type 0) (eq : K → K → Bool) (same : (x y : K) → eq x y ≡ true → x ≡ y) (P : K × V → Type 0) where
  entry-inserted : (entries : List (K × V)) (key : K) (value : V) → P (key, value) → AllByRecursion P entries → AllByRecursion P (insert_entry eq entries key value)
  entry-inserted [] key value p h = (p, tt)
  entry-inserted (e ∷ entries) key value p h = by (eq key e.0) refl (entry-inserted entries key value p h.1)
    where
      by : (b : Bool) → eq key e.0 ≡ b → AllByRecursion P (insert_entry eq entries key value) → AllByRecursion P (if b then (e.0, value) ∷ entries else e ∷ insert_entry eq entries key value)
      by true t rest = (subst (λ k. P (k, value)) (same key e.0 t) p, h.1)
      by false t rest = (h.0, rest)

  -- what was inserted, or left as it was
  pub entry-noted : (old new : List (K × V)) {X E : Type 0} (r : Result X E) (key : K) (value : V) → P (key, value) → AllByRecursion P old → OnOk r (new ≡ insert_entry eq old key value) → OnErr r (new ≡ old) → AllByRecursion P new
  entry-noted old new (Ok x) key value p h e f = subst (AllByRecursion P) (sym e) (entry-inserted old key value p h)
  entry-noted old new (Err x) key value p h e f = subst (AllByRecursion P) (sym f) h

  -- what is found
  pub entry-found : (entries : List (K × V)) (key : K) (r : Option V) → AllByRecursion P entries → r ≡ lookup (λ k. eq key k) entries → IfSome r (λ value. P (key, value))
  entry-found entries key None h e = tt
  entry-found [] key (Some value) h e = cc
  entry-found (known ∷ entries) key (Some value) h e = by (eq key known.0) refl e (entry-found entries key (Some value) h.1)
    where
      by : (b : Bool) → eq key known.0 ≡ b → Some value ≡ (if b then Some known.1 else lookup (λ k. eq key k) entries) → (Some value ≡ lookup (λ k. eq key k) entries → P (key, value)) → P (key, value)
      by true t f rest =
          let at : known.1 ≡ value = cc in
          subst (λ k. P (k, value)) (sym (same key known.0 t)) (subst (λ v. P (known.0, v)) at h.0)
      by false t f rest = rest f
