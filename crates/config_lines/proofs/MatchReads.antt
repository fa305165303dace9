-- A match that is read field by field.
use Rattle.std.proofs.Common.{◌≡◌, ℕ, ◌+◌, ◌≤◌, ◌<◌, List, ◌∷◌, ◌++◌, map, sym, ◌∙◌, ap, subst, arith}
use Rattle.std.specs.Prelude.{codes}
use Rattle.std.specs.List.{AllByRecursion}
use Rattle.merlin_model.specs.declared.config.Match.{Match}
use Rattle.merlin_base.specs.Lexemes.{Lacks}
use Rattle.merlin_base.specs.Pairs.{IsEmptyOrBegins}
use Rattle.config_text.specs.Words.{joined_by_commas}
use Rattle.config_text.specs.Lines.{match_text}
use Rattle.config_lines.specs.declared.fields.Key.{Key}
use Rattle.config_lines.specs.Parts.{IsLineMatch}
use Rattle.config_lines.specs.Fields.{key_rank, IsValue, field_text, match_with}
use Rattle.config_lines.proofs.Joined.{each_then, has_next, next_part, all_at, all_front, nothing_behind, one_more, last_one, joined_some, some_parts}
use Rattle.config_lines.proofs.MatchTexts.{key_at, same_rank, fields_of, text_of, IsField, text_free, fields_are, fields_lawful, Ascend, end_of, next_rank, end_last, field_pushed, match_kept, rank_at, end_same, no_field, no_fields, end_none, all_ascend, text_is, text_at, lawful_at}

-- the fields of the match stand before what is left, and the next key has at least this rank
pub record IsReadTo (word : List ℕ) (m : Match) (least : ℕ) (rest : List ℕ) : Type 0 where
  pub text : word ≡ each_then 44 text_of (fields_of m) ++ rest
  pub fits : IsLineMatch m
  pub least_is : least ≡ end_of 0 (fields_of m)

pub nothing_read : (word : List ℕ) → IsReadTo word no_field 0 word
nothing_read word = record {
  text = ap (λ ps. each_then 44 text_of ps ++ word) (sym no_fields);
  fits = record { in_port = tt; dl_src = tt; dl_dst = tt; dl_vlan = tt; nw_proto = tt; nw_src = tt; nw_dst = tt; tp_src = tt; tp_dst = tt };
  least_is = sym (end_none 0) ∙ ap (end_of 0) (sym no_fields);
}

-- What a match that the word stands for has next.
record IsNext (m other : Match) (part : List ℕ) : Type 0 where
  front : List (ℕ × ℕ)
  next : ℕ × ℕ
  later : List (ℕ × ℕ)
  is : fields_of other ≡ front ++ next ∷ later
  same : map text_of front ≡ map text_of (fields_of m)
  lawful : IsField next
  text : part ≡ text_of next

is-next : (word rest part behind : List ℕ) (m : Match) (least : ℕ) → (word ≡ codes "any" → ⊥) → IsReadTo word m least rest → rest ≡ part ++ behind → Lacks 44 part → IsEmptyOrBegins 44 behind → (other : Match) → IsLineMatch other → word ≡ match_text other → IsNext m other part
is-next word rest part behind m least differ so e l b other is h =
    let some = some_parts text_of (fields_of other) (codes "any") word differ (h ∙ ap (joined_by_commas (codes "any")) (fields_are other is)) in
    let has = has_next 44 text_of IsField (λ p f. text_free 44 p (omega arith) f) (fields_of m) (fields_of other) rest (fields_lawful m so.fits) (fields_lawful other is) some.0 (some.1 ∙ so.text) in
    let lawful : IsField has.next = all_at IsField has.front has.later has.next (subst (AllByRecursion IsField) has.is (fields_lawful other is)) in
    record {
      front = has.front;
      next = has.next;
      later = has.later;
      is = has.is;
      same = has.same;
      lawful = lawful;
      text = (next_part 44 text_of IsField (λ p f. text_free 44 p (omega arith) f) (fields_of m) (fields_of other) rest part behind has lawful e l b).front;
    }

pub wrong_field : (word rest part behind : List ℕ) (m : Match) (least : ℕ) → (word ≡ codes "any" → ⊥) → IsReadTo word m least rest → rest ≡ part ++ behind → Lacks 44 part → IsEmptyOrBegins 44 behind →
    ((key : Key) (n : ℕ) → IsValue key n → part ≡ field_text key n → ⊥) → (other : Match) → IsLineMatch other → word ≡ match_text other → ⊥
wrong_field word rest part behind m least differ so e l b none other is h =
    let next = is-next word rest part behind m least differ so e l b other is h in
    none (key_at next.next.0) next.next.1 (lawful_at next.next next.lawful).1 (next.text ∙ text_at next.next)

pub wrong_rank : (word rest part behind : List ℕ) (m : Match) (least : ℕ) (key : Key) (n : ℕ) → (word ≡ codes "any" → ⊥) → IsReadTo word m least rest → rest ≡ part ++ behind → Lacks 44 part → IsEmptyOrBegins 44 behind → part ≡ field_text key n → key_rank key < least →
    (other : Match) → IsLineMatch other → word ≡ match_text other → ⊥
wrong_rank word rest part behind m least key n differ so e l b f low other is h =
    let next = is-next word rest part behind m least differ so e l b other is h in
    let ranks : key_rank (key_at next.next.0) ≡ key_rank key = same_rank (key_at next.next.0) key next.next.1 n (sym (text_at next.next) ∙ sym next.text ∙ f) in
    let at : key_rank (key_at next.next.0) ≡ next.next.0 = rank_at next.next.0 (lawful_at next.next next.lawful).0 in
    let above : end_of 0 next.front ≤ next.next.0 = next_rank 0 next.front next.later next.next (subst (Ascend 0) next.is (all_ascend other)) in
    let ends : end_of 0 next.front ≡ end_of 0 (fields_of m) =
    end_same 0 next.front (fields_of m) (all_front IsField next.front (next.next ∷ next.later) (subst (AllByRecursion IsField) next.is (fields_lawful other is))) (fields_lawful m so.fits) next.same in
    let is_least = so.least_is in omega arith

pub field_read : (word rest part behind more : List ℕ) (m : Match) (least : ℕ) (key : Key) (n : ℕ) → IsReadTo word m least rest → rest ≡ part ++ behind → part ≡ field_text key n → IsValue key n → least ≤ key_rank key → behind ≡ 44 ∷ more →
    IsReadTo word (match_with m key n) (key_rank key + 1) more
field_read word rest part behind more m least key n so e f v low g =
    let pushed = field_pushed m key n v (let is_least = so.least_is in omega arith) in
    record {
      text = one_more 44 text_of (fields_of m) (key_rank key, n) word rest part behind more so.text e (f ∙ sym (text_is key n)) g ∙ ap (λ ps. each_then 44 text_of ps ++ more) (sym pushed);
      fits = match_kept m key n so.fits v;
      least_is = sym (end_last 0 (fields_of m) (key_rank key, n)) ∙ ap (end_of 0) (sym pushed);
    }

pub match_read : (word rest part behind : List ℕ) (m : Match) (least : ℕ) (key : Key) (n : ℕ) → IsReadTo word m least rest → rest ≡ part ++ behind → part ≡ field_text key n → IsValue key n → least ≤ key_rank key → IsEmptyOrBegins 44 behind → ((more : List ℕ) → behind ≡ 44 ∷ more → ⊥) →
    (word ≡ match_text (match_with m key n)) × IsLineMatch (match_with m key n)
match_read word rest part behind m least key n so e f v low b none =
    let pushed = field_pushed m key n v (let is_least = so.least_is in omega arith) in
    let kept = match_kept m key n so.fits v in (
      last_one 44 text_of (fields_of m) (key_rank key, n) word rest part behind so.text e (f ∙ sym (text_is key n)) (nothing_behind 44 behind b none) ∙ joined_some text_of (fields_of m) (key_rank key, n) (codes "any")
          ∙ ap (λ ps. joined_by_commas (codes "any") (map text_of ps)) (sym pushed) ∙ ap (joined_by_commas (codes "any")) (sym (fields_are (match_with m key n) kept)),
      kept,
    )
