-- The parts between commas.
use Rattle.std.proofs.Common.{◌≡◌, ◌+◌, ◌<◌, ◌==◌, ℕ, suc, false, List, [], ◌∷◌, ◌++◌, length, take, drop, get_or, All, refl, sym, ap, ◌∙◌, arith, drop-cons, add-one, flat_map, append_assoc}
use Rattle.std.proofs.Math.Seq.{take-suc}
use Rattle.std.proofs.lemmas.Grind.{flat_map-append}
use Rattle.std.proofs.lemmas.List.{take-append-drop, append-nil}
use Rattle.std.specs.List.{AllByRecursion, join_with_byte}
use Rattle.std.proofs.lemmas.List.Splits.{slice_split_at, slice_split_none}
use Rattle.merlin_base.specs.Lexemes.{Lacks}
use Rattle.packet_model.specs.Texts.{parts_of}

pub no_comma : (xs : List ℕ) → Lacks 44 xs → All (λ byte. (byte == 44) ≡ false) xs
no_comma xs lacks = λ i. λ lt. grind (arith, lacks i lt)

pub first_part-cut : (text : List ℕ) (k : ℕ) → k < length text → Lacks 44 (take k text) → get_or text k 0 ≡ 44 → parts_of text ≡ take k text ∷ parts_of (drop (k + 1) text)
first_part-cut text k lt lacks is =
    let cut : text ≡ take k text ++ 44 ∷ drop (k + 1) text = sym (take-append-drop k text) ∙ ap (λ rest. take k text ++ rest) (drop-cons text k 0 lt ∙ ap (λ byte. byte ∷ drop (suc k) text) is ∙ ap (λ j. 44 ∷ drop j text) (sym (add-one k))) in
    ap parts_of cut ∙ slice_split_at (λ byte. byte == 44) (take k text) 44 (drop (k + 1) text) (no_comma _ lacks) refl

pub first_part-whole : (text : List ℕ) → Lacks 44 text → parts_of text ≡ text ∷ []
first_part-whole text lacks = slice_split_none (λ byte. byte == 44) text (no_comma _ lacks)

-- parts without commas, joined by commas, are the parts of the text
pub parts_of-join : (part : List ℕ) (parts : List (List ℕ)) → AllByRecursion (Lacks 44) (part ∷ parts) → parts_of (join_with_byte 44 (part ∷ parts)) ≡ part ∷ parts
parts_of-join part [] h = slice_split_none (λ byte. byte == 44) part (no_comma part h.0)
parts_of-join part (next ∷ parts) h = slice_split_at (λ byte. byte == 44) part 44 (join_with_byte 44 (next ∷ parts)) (no_comma part h.0) refl ∙ ap (λ ps. part ∷ ps) (parts_of-join next parts h.1)

-- a part and its comma
pub flat_map-next : (parts : List (List ℕ)) (i : ℕ) (d : List ℕ) → i < length parts → flat_map (λ part. part ++ 44 ∷ []) (take (i + 1) parts) ≡ flat_map (λ part. part ++ 44 ∷ []) (take i parts) ++ (get_or parts i d ++ 44 ∷ [])
flat_map-next parts i d lt = rw (add-one, take-suc parts i d lt) (flat_map-append (λ part. part ++ 44 ∷ []) (take i parts) (get_or parts i d ∷ []) ∙ ap (λ end. flat_map (λ part. part ++ 44 ∷ []) (take i parts) ++ end) (append-nil (get_or parts i d ++ 44 ∷ [])))

-- parts with their commas, and a last part
pub flat_map-join : (parts : List (List ℕ)) (last : List ℕ) → flat_map (λ part. part ++ 44 ∷ []) parts ++ last ≡ join_with_byte 44 (parts ++ last ∷ [])
flat_map-join [] last = refl
flat_map-join (part ∷ []) last = simp append_assoc
flat_map-join (part ∷ next ∷ parts) last = append_assoc (part ++ 44 ∷ []) (flat_map (λ p. p ++ 44 ∷ []) (next ∷ parts)) last ∙ append_assoc part (44 ∷ []) _ ∙ ap (λ rest. part ++ 44 ∷ rest) (flat_map-join (next ∷ parts) last)

-- equal parts are joined to equal texts
pub same_parts : {a b c d e v w x y z : List ℕ} → a ≡ v → b ≡ w → c ≡ x → d ≡ y → e ≡ z → join_with_byte 44 (a ∷ b ∷ c ∷ d ∷ e ∷ []) ≡ join_with_byte 44 (v ∷ w ∷ x ∷ y ∷ z ∷ [])
same_parts f g h i j = cc
