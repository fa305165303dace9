-- Lines that are handed over one by one.
use Rattle.std.proofs.Common.{◌≡◌, ◌++◌, ◌<◌, ◌+◌, ℕ, suc, List, [], map, take, drop, get_or, length, ap, ◌∙◌, sym, refl, append_assoc, append-nil, ◌∷◌, Option, subst}
use Rattle.std.proofs.lemmas.List.{length-map, get_or-map, take-map}
use Rattle.merlin_base.specs.Outside.{Grows, GrowsByPrefix}
use Rattle.merlin_base.specs.Texts.{joined}
use Rattle.merlin_base.proofs.Taking.{joined-split, joined-more, Grows-none, Grows-join, GrowsByPrefix-join}

-- the lines up to a place, the one there, and the others
pub lines_split : {A : Type 0} (f : A → List ℕ) (xs : List A) (i : ℕ) (d : A) → i < length xs →
    joined (map f xs) ≡ joined (map f (take i xs)) ++ (f (get_or xs i d) ++ joined (drop (suc i) (map f xs)))
lines_split f xs i d within =
    joined-split (map f xs) i [] (rw (length-map xs) within) ∙ rw (take-map f i xs, get_or-map f xs i d [] within) refl

-- the lines up to the one at a place
pub lines_more : {A : Type 0} (f : A → List ℕ) (xs : List A) (i : ℕ) (d : A) → i < length xs →
    joined (map f (take (i + 1) xs)) ≡ joined (map f (take i xs)) ++ f (get_or xs i d)
lines_more f xs i d within =
    ap joined (sym (take-map f (i + 1) xs)) ∙ joined-more (map f xs) i [] (rw (length-map xs) within) ∙ rw (take-map f i xs, get_or-map f xs i d [] within) refl

joined_append : (xs ys : List (List ℕ)) → joined (xs ++ ys) ≡ joined xs ++ joined ys
joined_append [] ys = refl
joined_append (x ∷ xs) ys = ap (λ r. x ++ r) (joined_append xs ys) ∙ sym (append_assoc x (joined xs) (joined ys))

four_parts : (a b c d : List (List ℕ)) → joined (a ++ b ++ c ++ d) ≡ joined a ++ (joined b ++ (joined c ++ joined d))
four_parts a b c d =
    joined_append (a ++ b ++ c) d ∙ ap (λ t. t ++ joined d) (joined_append (a ++ b) c ∙ ap (λ t. t ++ joined c) (joined_append a b))
    ∙ append_assoc (joined a ++ joined b) (joined c) (joined d) ∙ append_assoc (joined a) (joined b) (joined c ++ joined d)

-- Of four lists of lines, those before one were taken, and of it a prefix.
module _ (a b c d : List (List ℕ)) where
  pub in_first : (from now : Option (List ℕ)) → GrowsByPrefix from now (joined a) → GrowsByPrefix from now (joined (a ++ b ++ c ++ d))
  in_first from now part =
      subst (GrowsByPrefix from now) (sym (four_parts a b c d)) (GrowsByPrefix-join from from now [] (joined a) (joined b ++ (joined c ++ joined d)) (Grows-none from) part)

  pub in_second : (from mid now : Option (List ℕ)) → Grows from mid (joined a) → GrowsByPrefix mid now (joined b) → GrowsByPrefix from now (joined (a ++ b ++ c ++ d))
  in_second from mid now first part =
      subst (GrowsByPrefix from now) (sym (four_parts a b c d)) (GrowsByPrefix-join from mid now (joined a) (joined b) (joined c ++ joined d) first part)

  pub in_third : (from one two now : Option (List ℕ)) → Grows from one (joined a) → Grows one two (joined b) → GrowsByPrefix two now (joined c) →
      GrowsByPrefix from now (joined (a ++ b ++ c ++ d))
  in_third from one two now first second part =
      let both = Grows-join from one two (joined a) (joined b) first second in
      let whole = append_assoc (joined a) (joined b) (joined c ++ joined d) ∙ sym (four_parts a b c d) in
      subst (GrowsByPrefix from now) whole (GrowsByPrefix-join from two now (joined a ++ joined b) (joined c) (joined d) both part)

  pub in_fourth : (from one two three now : Option (List ℕ)) → Grows from one (joined a) → Grows one two (joined b) → Grows two three (joined c) →
      GrowsByPrefix three now (joined d) → GrowsByPrefix from now (joined (a ++ b ++ c ++ d))
  in_fourth from one two three now first second third part =
      let both = Grows-join from one two (joined a) (joined b) first second in
      let all = Grows-join from two three (joined a ++ joined b) (joined c) both third in
      let whole = ap (λ t. ((joined a ++ joined b) ++ joined c) ++ t) (append-nil (joined d)) ∙ append_assoc (joined a ++ joined b) (joined c) (joined d)
      ∙ append_assoc (joined a) (joined b) (joined c ++ joined d) ∙ sym (four_parts a b c d) in
      subst (GrowsByPrefix from now) whole (GrowsByPrefix-join from three now ((joined a ++ joined b) ++ joined c) (joined d) [] all part)
