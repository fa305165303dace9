-- Lists that are written text by text, each after what stands before it.
use Rattle.std.proofs.Common.{◌≡◌, ◌≢◌, ◌++◌, ◌∷◌, ℕ, List, [], refl, sym, ap, append-nil, append_assoc, ◌∙◌, map, arith, take, get_or, length, ◌<◌, ◌+◌}
use Rattle.std.proofs.lemmas.Grind.{common_steps}
use Rattle.std.specs.List.{flat_map}
use Rattle.config_text.specs.Words.{joined_by_commas}
use Rattle.config_text.specs.Separated.{separated_texts, separator_after, AreTextsAdded}
use Rattle.config_text.proofs.Joining.{joined_after_first}

-- nothing was written
pub written_none : (s : ℕ) (old : List ℕ) → AreTextsAdded s old [] s old
written_none s old = record { line = sym (append-nil old); separator = refl }

flat_map_append : (xs ys : List (List ℕ)) → flat_map (λ t. 44 ∷ t) (xs ++ ys) ≡ flat_map (λ t. 44 ∷ t) xs ++ flat_map (λ t. 44 ∷ t) ys
flat_map_append [] ys = refl
flat_map_append (x ∷ xs) ys = ap (λ r. (44 ∷ x) ++ r) (flat_map_append xs ys) ∙ sym (append_assoc (44 ∷ x) (flat_map (λ t. 44 ∷ t) xs) (flat_map (λ t. 44 ∷ t) ys))

after_comma : (ys : List (List ℕ)) → separated_texts 44 ys ≡ flat_map (λ t. 44 ∷ t) ys
after_comma [] = refl
after_comma (y ∷ ys) = refl

separated_append : (s : ℕ) (xs ys : List (List ℕ)) → separated_texts s (xs ++ ys) ≡ separated_texts s xs ++ separated_texts (separator_after s xs) ys
separated_append s [] ys = refl
separated_append s (x ∷ xs) ys =
    ap (λ r. (s ∷ x) ++ r) (flat_map_append xs ys)
    ∙ sym (append_assoc (s ∷ x) (flat_map (λ t. 44 ∷ t) xs) (flat_map (λ t. 44 ∷ t) ys))
    ∙ ap (λ r. ((s ∷ x) ++ flat_map (λ t. 44 ∷ t) xs) ++ r) (sym (after_comma ys))

after_append : (s : ℕ) (xs ys : List (List ℕ)) → separator_after s (xs ++ ys) ≡ separator_after (separator_after s xs) ys
after_append s [] ys = refl
after_append s (x ∷ xs) [] = refl
after_append s (x ∷ xs) (y ∷ ys) = refl

-- what was written after what was written before
pub written_then : {s t u : ℕ} {a b c : List ℕ} {xs ys : List (List ℕ)} → AreTextsAdded s a xs t b → AreTextsAdded t b ys u c → AreTextsAdded s a (xs ++ ys) u c
written_then {s} {t} {u} {a} {b} {c} {xs} {ys} first next = record {
  line =
      next.line ∙ ap (λ l. l ++ separated_texts t ys) first.line ∙ append_assoc a (separated_texts s xs) (separated_texts t ys)
      ∙ ap (λ r. a ++ (separated_texts s xs ++ separated_texts r ys)) first.separator ∙ ap (λ r. a ++ r) (sym (separated_append s xs ys));
  separator = next.separator ∙ ap (λ r. separator_after r ys) first.separator ∙ sym (after_append s xs ys);
}

-- one text was written
pub written_one : (s : ℕ) (old text : List ℕ) → AreTextsAdded s old (text ∷ []) 44 (old ++ s ∷ text)
written_one s old text = record { line = ap (λ r. old ++ s ∷ r) (sym (append-nil text)); separator = refl }

-- where nothing was written, the word stands for the list
pub ended : (none old new : List ℕ) (texts : List (List ℕ)) (s : ℕ) → AreTextsAdded 32 old texts s new →
    (s ≡ 32 → new ++ 32 ∷ none ≡ old ++ 32 ∷ joined_by_commas none texts) × (s ≢ 32 → new ≡ old ++ 32 ∷ joined_by_commas none texts)
ended none old new [] s w = ((λ same. ap (λ l. l ++ 32 ∷ none) (w.line ∙ append-nil old)), (λ other. absurd (other w.separator)))
ended none old new (text ∷ texts) s w = (
  (λ same. absurd (let comma : s ≡ 44 = w.separator in omega (arith, same, comma))),
  (λ other. w.line ∙ ap (λ r. old ++ 32 ∷ r) (sym (joined_after_first 44 text texts))),
)

-- the next text of a list was written
pub written_next : {A : Type 0} {s t : ℕ} {old mid new : List ℕ} (f : A → List ℕ) (xs : List A) (i : ℕ) (d : A) → i < length xs →
    AreTextsAdded s old (map f (take i xs)) t mid → new ≡ mid ++ t ∷ f (get_or xs i d) → AreTextsAdded s old (map f (take (i + 1) xs)) 44 new
written_next {A} {s} {t} {old} {mid} {new} f xs i d within before is =
    let more : map f (take (i + 1) xs) ≡ map f (take i xs) ++ f (get_or xs i d) ∷ [] = grind (arith, common_steps) in
    rw (more, is) (written_then before (written_one t mid (f (get_or xs i d))))
