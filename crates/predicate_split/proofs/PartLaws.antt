-- The parts of a field: each value has a part that is no greater, and each part is the least of its values.
use Rattle.std.proofs.Common.{◌≡◌, ◌≤◌, ◌<◌, ◌⊎◌, inl, inr, ℕ, ◌^◌, Bool, true, false, ◌==◌, List, [], ◌∷◌, ◌++◌, Contains, Option, None, Some, option_to_list, refl, sym, ◌∙◌, ap, subst, arith}
use Rattle.merlin_model.specs.Networks.{Pairwise}
use Rattle.merlin_model.proofs.Members.{In, in_append, in_append-left, in_append-right, in_from, in_to, all_in}
use Rattle.predicate_logic.specs.Mentions.{is_within}
use Rattle.predicate_logic.proofs.Unmentioned.{AreTogether}
use Rattle.predicate_logic.proofs.Placing.{ascending-pairwise, ascending-in, in-ascending}
use Rattle.predicate_split.specs.Parts.{AreInSame, StandsForPart, find_others, parts_within}
use Rattle.predicate_split.proofs.Parting.{IsOutside, IsInside, IsIn, AreFound, inside_or_outside}
use Rattle.predicate_split.proofs.Found.{found}

pub decide_in : (v : ℕ) (ns : List ℕ) → In v ns ⊎ (¬ In v ns)
decide_in v [] = inr (λ h. h)
decide_in v (n ∷ ns) = by (v == n) refl (decide_in v ns)
  where
    by : (b : Bool) → (v == n) ≡ b → In v ns ⊎ (¬ In v ns) → In v (n ∷ ns) ⊎ (¬ In v (n ∷ ns))
    by true e d = inl (inl (grind (arith, e)))
    by false e (inl i) = inl (inr i)
    by false e (inr out) = inr (λ h. neither h out)
      where
        neither : In v (n ∷ ns) → (¬ In v ns) → ⊥
        neither (inl same) out = grind (arith, e, same)
        neither (inr i) out = out i

own_is : (o : Option ℕ) (u : ℕ) → In u (option_to_list o) → o ≡ Some u
own_is None u i = absurd i
own_is (Some x) u (inl e) = ap Some (sym e)
own_is (Some x) u (inr i) = absurd i

pub within-pairwise : (bits : ℕ) (blocks : List (ℕ × ℕ)) (named : List ℕ) → Pairwise (λ a b. a < b) (parts_within bits blocks named)
unfolding parts_within
within-pairwise bits blocks named = ascending-pairwise ((named ++ (find_others bits 0 blocks named).1) ++ option_to_list (find_others bits 0 blocks named).0)

module _ (bits : ℕ) (blocks : List (ℕ × ℕ)) (named : List ℕ) (up : Pairwise (λ a b. a < b) named) (are : (b : ℕ × ℕ) → In b blocks → IsIn bits 0 b) where
  is_found : AreFound bits 0 blocks named (find_others bits 0 blocks named).0 (find_others bits 0 blocks named).1
  is_found = found bits 0 blocks named up (0, omega arith) are

  in_parts : (v : ℕ) → In v named ⊎ (In v (find_others bits 0 blocks named).1 ⊎ In v (option_to_list (find_others bits 0 blocks named).0)) → In v (parts_within bits blocks named)
  unfolding parts_within
  in_parts v i = in-ascending ((named ++ (find_others bits 0 blocks named).1) ++ option_to_list (find_others bits 0 blocks named).0) v (by i)
    where
      by : In v named ⊎ (In v (find_others bits 0 blocks named).1 ⊎ In v (option_to_list (find_others bits 0 blocks named).0)) → In v ((named ++ (find_others bits 0 blocks named).1) ++ option_to_list (find_others bits 0 blocks named).0)
      by (inl j) = in_append-left (named ++ (find_others bits 0 blocks named).1) (option_to_list (find_others bits 0 blocks named).0) v (in_append-left named (find_others bits 0 blocks named).1 v j)
      by (inr (inl j)) = in_append-left (named ++ (find_others bits 0 blocks named).1) (option_to_list (find_others bits 0 blocks named).0) v (in_append-right named (find_others bits 0 blocks named).1 v j)
      by (inr (inr j)) = in_append-right (named ++ (find_others bits 0 blocks named).1) (option_to_list (find_others bits 0 blocks named).0) v j

  -- the part of a value
  pub part-of : (v : ℕ) → v < 2 ^ bits → (u : ℕ) × In u (parts_within bits blocks named) × (u ≤ v) × ((u ≡ v) ⊎ ((¬ In u named) × (¬ In v named) × AreTogether blocks u v))
  part-of v lt = by (decide_in v named)
    where
      own : (o : Option ℕ) → (find_others bits 0 blocks named).0 ≡ o → (¬ In v named) → IsOutside blocks v → (u : ℕ) × In u (parts_within bits blocks named) × (u ≤ v) × ((u ≡ v) ⊎ ((¬ In u named) × (¬ In v named) × AreTogether blocks u v))
      own None e new out = absurd (is_found.own_none e v (omega arith, omega arith) new out)
      own (Some x) e new out =
          let l = is_found.own_least x e in
          (x, in_parts x (inr (inr (subst (λ o. In x (option_to_list o)) (sym e) (inl refl)))), l.least v (omega arith) new out, inr (l.new, new, λ b i. l.out b i ∙ sym (out b i)))

      other : (¬ In v named) → IsInside blocks v ⊎ IsOutside blocks v → (u : ℕ) × In u (parts_within bits blocks named) × (u ≤ v) × ((u ≡ v) ⊎ ((¬ In u named) × (¬ In v named) × AreTogether blocks u v))
      other new (inl inside) =
          let m = is_found.others_all v (omega arith, omega arith) new inside in
          let l = is_found.others_least m.0 m.1 in
          (m.0, in_parts m.0 (inr (inl m.1)), l.least v new m.2, inr (l.new, new, m.2))
      other new (inr out) = own (find_others bits 0 blocks named).0 refl new out

      by : In v named ⊎ (¬ In v named) → (u : ℕ) × In u (parts_within bits blocks named) × (u ≤ v) × ((u ≡ v) ⊎ ((¬ In u named) × (¬ In v named) × AreTogether blocks u v))
      by (inl i) = (v, in_parts v (inl i), omega arith, inl refl)
      by (inr new) = other new (inside_or_outside blocks v)

  -- what stands in the parts
  pub part-is : (v : ℕ) → In v (parts_within bits blocks named) → In v named ⊎ ((v < 2 ^ bits) × (¬ In v named) × ((u : ℕ) → (¬ In u named) → AreTogether blocks v u → v ≤ u))
  unfolding parts_within
  part-is v i = by (in_append (named ++ (find_others bits 0 blocks named).1) (option_to_list (find_others bits 0 blocks named).0) v (ascending-in ((named ++ (find_others bits 0 blocks named).1) ++ option_to_list (find_others bits 0 blocks named).0) v i))
    where
      other : In v named ⊎ In v (find_others bits 0 blocks named).1 → In v named ⊎ ((v < 2 ^ bits) × (¬ In v named) × ((u : ℕ) → (¬ In u named) → AreTogether blocks v u → v ≤ u))
      other (inl j) = inl j
      other (inr j) = let l = is_found.others_least v j in let end = l.among.1 in inr (omega arith, l.new, l.least)

      by : In v (named ++ (find_others bits 0 blocks named).1) ⊎ In v (option_to_list (find_others bits 0 blocks named).0) → In v named ⊎ ((v < 2 ^ bits) × (¬ In v named) × ((u : ℕ) → (¬ In u named) → AreTogether blocks v u → v ≤ u))
      by (inl j) = other (in_append named (find_others bits 0 blocks named).1 v j)
      by (inr j) =
          let l = is_found.own_least v (own_is (find_others bits 0 blocks named).0 v j) in
          let end = l.among.1 in
          inr (omega arith, l.new, λ u new same. l.least u (omega arith) new (λ b k. sym (same b k) ∙ l.out b k))

  -- in the words of the definition

  together : (u v : ℕ) → AreInSame blocks u v → AreTogether blocks u v
  together u v same b i = all_in (λ c. is_within c u ≡ is_within c v) blocks b same i

  apart : (v : ℕ) (ns : List ℕ) → (¬ In v ns) → ¬ Contains ns v
  apart v ns out c = out (in_from ns v c)

  pub part-stands : (v : ℕ) → ((n : ℕ) → In n named → n < 2 ^ bits) → Contains (parts_within bits blocks named) v → (v < 2 ^ bits) × StandsForPart blocks named v
  part-stands v small c = by (part-is v (in_from (parts_within bits blocks named) v c))
    where
      by : In v named ⊎ ((v < 2 ^ bits) × (¬ In v named) × ((u : ℕ) → (¬ In u named) → AreTogether blocks v u → v ≤ u)) → (v < 2 ^ bits) × StandsForPart blocks named v
      by (inl i) = (small v i, inl (in_to named v i))
      by (inr h) = (h.0, inr (apart v named h.1, λ u lt same. earlier u lt same (decide_in u named)))
        where
          earlier : (u : ℕ) → u < v → AreInSame blocks u v → In u named ⊎ (¬ In u named) → Contains named u
          earlier u lt same (inl i) = in_to named u i
          earlier u lt same (inr new) = let le = h.2 u new (λ b i. sym (together u v same b i)) in absurd (omega arith)

  all_by : (bs : List (ℕ × ℕ)) (u v : ℕ) → AreTogether bs u v → AreInSame bs u v
  all_by [] u v same = tt
  all_by (b ∷ bs) u v same = (same b (inl refl), all_by bs u v (λ c i. same c (inr i)))

  pub stands-part : (v : ℕ) → v < 2 ^ bits → StandsForPart blocks named v → Contains (parts_within bits blocks named) v
  stands-part v lt (inl c) = in_to (parts_within bits blocks named) v (in_parts v (inl (in_from named v c)))
  stands-part v lt (inr h) = by (part-of v lt)
    where
      by : (u : ℕ) × In u (parts_within bits blocks named) × (u ≤ v) × ((u ≡ v) ⊎ ((¬ In u named) × (¬ In v named) × AreTogether blocks u v)) → Contains (parts_within bits blocks named) v
      by (u, i, le, inl same) = in_to (parts_within bits blocks named) v (subst (λ n. In n (parts_within bits blocks named)) same i)
      by (u, i, le, inr m) = order (cases u v le)
        where
          cases : (a b : ℕ) → a ≤ b → (a ≡ b) ⊎ (a < b)
          cases a b le = grind arith

          order : (u ≡ v) ⊎ (u < v) → Contains (parts_within bits blocks named) v
          order (inl same) = in_to (parts_within bits blocks named) v (subst (λ n. In n (parts_within bits blocks named)) same i)
          order (inr less) = absurd (m.0 (in_from named u (h.1 u less (all_by blocks u v m.2))))
