-- A text of a match has one match.
use Rattle.std.proofs.Common.{◌≡◌, ◌≢◌, ℕ, ◌+◌, ◌≤◌, ◌<◌, ◌==◌, Bool, true, false, cond, List, [], ◌∷◌, ◌++◌, map, length, get_or, option_map, refl, sym, ◌∙◌, ap, subst, arith}
use Rattle.std.proofs.lemmas.List.{append_cancel_left}
use Rattle.std.specs.Prelude.{Option, None, Some, codes}
use Rattle.std.specs.List.{AllByRecursion}
use Rattle.std.specs.Fmt.{decimal}
use Rattle.merlin_model.specs.declared.config.Vlan.{Vlan}
use Rattle.merlin_model.specs.declared.config.Vlan.TheVariants.{Untagged, Tag}
use Rattle.merlin_model.specs.declared.config.Match.{Match}
use Rattle.merlin_base.proofs.Cutting.{Free, free_middle}
use Rattle.config_text.specs.Words.{joined_by_commas}
use Rattle.config_text.specs.Lines.{match_text}
use Rattle.config_lines.specs.declared.fields.Key.{Key}
use Rattle.config_lines.specs.declared.fields.Key.TheVariants.{InPort, DlSrc, DlDst, DlVlan, DlType, NwProto, NwSrc, NwDst, TpSrc, TpDst}
use Rattle.config_lines.specs.Words.{IsLimited, IsOptional}
use Rattle.config_lines.specs.Parts.{IsLineVlan, IsLineMatch}
use Rattle.config_lines.specs.Fields.{key_word, key_rank, vlan_number_text, field_value_text, IsValue, field_text}
use Rattle.config_lines.proofs.MatchTexts.{key_at, same_rank, text_free, vlan_number, type_number, values, fields_from, fields_of, fields_are, fields_lawful, fields_ascend, text_of, IsField, Ascend, end_of, end_none, next_rank, rank_at, text_at, lawful_at}
use Rattle.config_read.proofs.OneWords.{short_same, double_same, mac_same, ip_same, no_letter, commas_once, IsPart, is_part}

-- A field of a key tells its number.

vlan_text_same : (m n : ℕ) → IsLimited 0 4094 m → IsLimited 0 4094 n → vlan_number_text m ≡ vlan_number_text n → m ≡ n
vlan_text_same m n f g e = by (m == 0) refl (n == 0) refl e
  where
    by : (a : Bool) → (m == 0) ≡ a → (b : Bool) → (n == 0) ≡ b → cond a (codes "none") (decimal m) ≡ cond b (codes "none") (decimal n) → m ≡ n
    by true h true k e = (let p : m ≡ 0 = grind arith in let q : n ≡ 0 = grind arith in p ∙ sym q)
    by true h false k e = absurd (no_letter n (111 ∷ 110 ∷ 101 ∷ []) 110 (let t = g.high in omega arith) (omega arith) (sym e))
    by false h true k e = absurd (no_letter m (111 ∷ 110 ∷ 101 ∷ []) 110 (let t = f.high in omega arith) (omega arith) e)
    by false h false k e = short_same 0 4094 m n (omega arith) f g e

value_same : (key : Key) (m n : ℕ) → IsValue key m → IsValue key n → field_value_text key m ≡ field_value_text key n → m ≡ n
value_same InPort m n f g e = short_same 1 65279 m n (omega arith) f g e
value_same DlSrc m n f g e = mac_same m n f g e
value_same DlDst m n f g e = mac_same m n f g e
value_same DlVlan m n f g e = vlan_text_same m n f g e
value_same DlType m n f g e = f ∙ sym g
value_same NwProto m n f g e = double_same m n (omega arith) (omega arith) e
value_same NwSrc m n f g e = ip_same m n f g e
value_same NwDst m n f g e = ip_same m n f g e
value_same TpSrc m n f g e = double_same m n f g e
value_same TpDst m n f g e = double_same m n f g e

behind_equals : (x y : List ℕ) → 61 ∷ x ≡ 61 ∷ y → x ≡ y
behind_equals x y e = cc

number_same : (key : Key) (m n : ℕ) → IsValue key m → IsValue key n → field_text key m ≡ field_text key n → m ≡ n
number_same key m n f g e = value_same key m n f g (behind_equals (field_value_text key m) (field_value_text key n) (append_cancel_left (key_word key) (61 ∷ field_value_text key m) (61 ∷ field_value_text key n) e))

field_same : (p q : ℕ × ℕ) → IsField p → IsField q → text_of p ≡ text_of q → p ≡ q
field_same p q f g e =
    let a = lawful_at p f in let b = lawful_at q g in
    let texts : field_text (key_at p.0) p.1 ≡ field_text (key_at q.0) q.1 = sym (text_at p) ∙ e ∙ text_at q in
    let ranks : p.0 ≡ q.0 = sym (rank_at p.0 a.0) ∙ same_rank (key_at p.0) (key_at q.0) p.1 q.1 texts ∙ rank_at q.0 b.0 in
    let numbers : p.1 ≡ q.1 = number_same (key_at q.0) p.1 q.1 (subst (λ r. IsValue (key_at r) p.1) ranks a.1) b.1 (ap (λ r. field_text (key_at r) p.1) (sym ranks) ∙ texts) in
    (λ i. (ranks i, numbers i))

fields_same : (ps qs : List (ℕ × ℕ)) → AllByRecursion IsField ps → AllByRecursion IsField qs → map text_of ps ≡ map text_of qs → ps ≡ qs
fields_same [] [] f g e = refl
fields_same [] (q ∷ qs) f g e = absurd (let no_way : [] ≡ text_of q ∷ map text_of qs → ⊥ = λ h. cc in no_way e)
fields_same (p ∷ ps) [] f g e = absurd (let no_way : text_of p ∷ map text_of ps ≡ [] → ⊥ = λ h. cc in no_way e)
fields_same (p ∷ ps) (q ∷ qs) f g e =
    let first : text_of p ≡ text_of q = cc in
    let later : map text_of ps ≡ map text_of qs = cc in
    (λ i. field_same p q f.0 g.0 first i ∷ fields_same ps qs f.1 g.1 later i)

-- The fields of a match tell its numbers.

skipped : (r b : ℕ) (os : List (Option ℕ)) (qs : List (ℕ × ℕ)) → fields_from (r + 1) os ≡ (r, b) ∷ qs → ⊥
skipped r b os qs e =
    let above : end_of (r + 1) [] ≤ r = next_rank (r + 1) [] qs (r, b) (subst (Ascend (r + 1)) e (fields_ascend (r + 1) os)) in
    let same = end_none (r + 1) in omega arith

first_number : (r a b : ℕ) (ps qs : List (ℕ × ℕ)) → (r, a) ∷ ps ≡ (r, b) ∷ qs → a ≡ b
first_number r a b ps qs e = let h : ◌≡◌ {A = ℕ × ℕ} (r, a) (r, b) = cc in ap (λ (p : ℕ × ℕ). p.1) h

later_numbers : (p q : ℕ × ℕ) (ps qs : List (ℕ × ℕ)) → p ∷ ps ≡ q ∷ qs → ps ≡ qs
later_numbers p q ps qs e = cc

values_same : (r : ℕ) (xs ys : List (Option ℕ)) → length xs ≡ length ys → fields_from r xs ≡ fields_from r ys → xs ≡ ys
unfolding fields_from
values_same r [] [] l e = refl
values_same r [] (y ∷ ys) l e = absurd (omega arith)
values_same r (x ∷ xs) [] l e = absurd (omega arith)
values_same r (None ∷ xs) (None ∷ ys) l e = ap (λ os. None ∷ os) (values_same (r + 1) xs ys (omega arith) e)
values_same r (None ∷ xs) (Some b ∷ ys) l e = absurd (skipped r b xs (fields_from (r + 1) ys) e)
values_same r (Some a ∷ xs) (None ∷ ys) l e = absurd (skipped r a ys (fields_from (r + 1) xs) (sym e))
values_same r (Some a ∷ xs) (Some b ∷ ys) l e =
    let first = first_number r a b (fields_from (r + 1) xs) (fields_from (r + 1) ys) e in
    let later = values_same (r + 1) xs ys (omega arith) (later_numbers (r, a) (r, b) (fields_from (r + 1) xs) (fields_from (r + 1) ys) e) in
    (λ i. Some (first i) ∷ later i)

vlan_same : (o p : Option Vlan) → IsOptional IsLineVlan o → IsOptional IsLineVlan p → option_map vlan_number o ≡ option_map vlan_number p → o ≡ p
unfolding vlan_number
vlan_same None None f g e = refl
vlan_same None (Some w) f g e = absurd (let no_way : ◌≡◌ {A = Option ℕ} None (Some (vlan_number w)) → ⊥ = λ h. cc in no_way e)
vlan_same (Some v) None f g e = absurd (let no_way : ◌≡◌ {A = Option ℕ} (Some (vlan_number v)) None → ⊥ = λ h. cc in no_way e)
vlan_same (Some v) (Some w) f g e = ap Some (by v w f g (some_same (vlan_number v) (vlan_number w) e))
  where
    some_same : (m n : ℕ) → ◌≡◌ {A = Option ℕ} (Some m) (Some n) → m ≡ n
    some_same m n h = cc

    by : (v w : Vlan) → IsLineVlan v → IsLineVlan w → vlan_number v ≡ vlan_number w → v ≡ w
    by Untagged Untagged f g e = refl
    by Untagged (Tag n) f g e = absurd (let h = g.low in omega arith)
    by (Tag m) Untagged f g e = absurd (let h = f.low in omega arith)
    by (Tag m) (Tag n) f g e = ap Tag e

type_same : (b c : Bool) → type_number b ≡ type_number c → b ≡ c
unfolding type_number
type_same true true e = refl
type_same false false e = refl
type_same true false e = absurd (let no_way : ◌≡◌ {A = Option ℕ} (Some 0) None → ⊥ = λ h. cc in no_way e)
type_same false true e = absurd (let no_way : ◌≡◌ {A = Option ℕ} None (Some 0) → ⊥ = λ h. cc in no_way e)

-- the number at a place of the list
at : ℕ → List (Option ℕ) → Option ℕ
at k os = get_or os k None

match_of_values : (m n : Match) → IsLineMatch m → IsLineMatch n → values m ≡ values n → m ≡ n
unfolding values at
match_of_values m n f g e =
    let tags = vlan_same m.dl_vlan n.dl_vlan f.dl_vlan g.dl_vlan (ap (at 3) e) in
    let types = type_same m.dl_type n.dl_type (ap (at 4) e) in
    (λ i. record {
      in_port = at 0 (e i);
      dl_src = at 1 (e i);
      dl_dst = at 2 (e i);
      dl_vlan = tags i;
      dl_type = types i;
      nw_proto = at 5 (e i);
      nw_src = at 6 (e i);
      nw_dst = at 7 (e i);
      tp_src = at 8 (e i);
      tp_dst = at 9 (e i);
    })

any_lacks : Free 61 (codes "any")
any_lacks = ((λ e. omega arith), ((λ e. omega arith), ((λ e. omega arith), tt)))

any_free : Free 44 (codes "any")
any_free = ((λ e. omega arith), ((λ e. omega arith), ((λ e. omega arith), tt)))

fields_are_parts : (ps : List (ℕ × ℕ)) → AllByRecursion IsField ps → AllByRecursion (IsPart (codes "any")) (map text_of ps)
fields_are_parts [] all = tt
fields_are_parts (p ∷ ps) all = (
  is_part (codes "any") (text_of p) (text_free 44 p (omega arith) all.0)
      (λ e. free_middle 61 (key_word (key_at p.0)) (field_value_text (key_at p.0) p.1) (subst (Free 61) (sym e ∙ text_at p) any_lacks)),
  fields_are_parts ps all.1,
)

values_of_fields : (m n : Match) → fields_of m ≡ fields_of n → values m ≡ values n
unfolding fields_of values
values_of_fields m n e = values_same 0 (values m) (values n) refl e

pub match_same : (m n : Match) → IsLineMatch m → IsLineMatch n → match_text m ≡ match_text n → m ≡ n
match_same m n f g e =
    let texts = commas_once (codes "any") (map text_of (fields_of m)) (map text_of (fields_of n)) any_free (fields_are_parts (fields_of m) (fields_lawful m f)) (fields_are_parts (fields_of n) (fields_lawful n g))
    (ap (joined_by_commas (codes "any")) (sym (fields_are m f)) ∙ e ∙ ap (joined_by_commas (codes "any")) (fields_are n g)) in
    match_of_values m n f g (values_of_fields m n (fields_same (fields_of m) (fields_of n) (fields_lawful m f) (fields_lawful n g) texts))
