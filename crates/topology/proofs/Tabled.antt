-- What a table holds that is filled with entries of different keys, one after another.
use Rattle.std.proofs.Common.{◌≡◌, ◌≢◌, ◌+◌, ◌<◌, ℕ, Bool, true, false, ◌&&◌, List, [], ◌∷◌, ◌++◌, length, take, map, get_or, slice_get, Option, Some, None, is_some, option_map, nat_eq, refl, sym, ◌∙◌, ap}
use Rattle.std.specs.Map.{keys_of}
use Rattle.std.specs.List.{IsDistinct, list_any}
use Rattle.std.specs.Cmp.{IsEquivalence}
use Rattle.std.proofs.lemmas.List.{take_more, take-map}
use Rattle.std.proofs.lemmas.Option.{slice_get_read, slice_get-map}
use Rattle.std.proofs.lemmas.Map.Made.{is_some-lookup}
use Rattle.std.proofs.lemmas.Bool.{eqb-true}
use Rattle.indexmap.specs.IndexMap.{IndexMap, get, insert_entry}
use Rattle.indexmap.proofs.CallerLemmas.{insert_entry-new}
use Rattle.merlin_model.specs.Networks.{Pairwise}
use Rattle.topology_rules.proofs.Distinct.{repeated, distinct_from, pairwise_weaken, pairwise_map}

module _ {K V S : Type 0} {eq : K → K → Bool} (laws : IsEquivalence eq) (m : IndexMap K V S) (es : List (K × V)) (i : ℕ) (e : K × V)
    (same : m.entries ≡ take i es) (within : i < length es) (is : e ≡ get_or es i e) (distinct : IsDistinct eq (keys_of es)) where
  new : get eq m e.0 ≡ None
  new = by (get eq m e.0) refl
    where
      at : slice_get (keys_of es) i ≡ Some e.0
      at = slice_get-map (λ x. x.0) es i ∙ ap (λ o. option_map (λ x. x.0) o) (slice_get_read es (length es) i e refl within is)

      any : is_some (get eq m e.0) ≡ true → list_any (eq e.0) (take i (keys_of es)) ≡ true
      any there =
          ap (list_any (eq e.0)) (take-map (λ x. x.0) i es)
          ∙ (ap (λ front. list_any (eq e.0) (keys_of front)) (sym same)
          ∙ (sym (is_some-lookup (eq e.0) m.entries) ∙ there))

      by : (o : Option V) → get eq m e.0 ≡ o → o ≡ None
      by None g = refl
      by (Some v) g = absurd (repeated laws (keys_of es) i e.0 at (any (ap is_some g)) distinct)

  -- the entry goes last
  pub new_entry : insert_entry eq m.entries e.0 e.1 ≡ take (i + 1) es
  new_entry =
      insert_entry-new eq m e.0 e.1 new
      ∙ (ap (λ front. front ++ e ∷ []) same
      ∙ (ap (λ x. take i es ++ x ∷ []) is
      ∙ sym (take_more es i e within)))

-- Entries of one thing each: their keys differ where the things do.
pub keys_from_apart : {K V W : Type 0} (eq : K → K → Bool) (entry : W → K × V) (R : W → W → Type 0) (ws : List W) → ((v w : W) → R v w → eq (entry v).0 (entry w).0 ≡ false) → Pairwise R ws → IsDistinct eq (keys_of (map entry ws))
keys_from_apart eq entry R ws told p = distinct_from eq (keys_of (map entry ws)) (pairwise_map (λ x. x.0) (λ x y. eq x y ≡ false) (map entry ws) (pairwise_map entry (λ x y. eq x.0 y.0 ≡ false) ws (pairwise_weaken told ws p)))

told_unequal : (a b : ℕ) → a ≢ b → nat_eq a b ≡ false
told_unequal a b ne = by (nat_eq a b) refl
  where
    by : (x : Bool) → nat_eq a b ≡ x → x ≡ false
    by true e = absurd (ne (eqb-true a b e))
    by false e = refl

pub told_pair_unequal : (a b c d : ℕ) → (a ≡ c → b ≢ d) → (nat_eq a c && nat_eq b d) ≡ false
told_pair_unequal a b c d ne = by (nat_eq a c) refl
  where
    by : (x : Bool) → nat_eq a c ≡ x → (x && nat_eq b d) ≡ false
    by true e = told_unequal b d (ne (eqb-true a c e))
    by false e = refl
