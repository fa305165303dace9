-- The ids of a policy that a text stands for are names, or names with a number behind them: none has a slash, and none is `default`.
use Rattle.std.proofs.Common.{ℕ, zero, suc, ◌≡◌, ◌≢◌, ◌≤◌, ◌+◌, ◌/◌, ◌%◌, ◌==◌, inl, inr, nat_lt, Bool, true, false, cond, List, [], ◌∷◌, ◌++◌, map, refl, sym, subst, arith}
use Rattle.std.specs.Prelude.{IsTrue, codes, flat_map, unwrap_or}
use Rattle.std.specs.List.{AllByRecursion, enumerate_from}
use Rattle.std.specs.Fmt.{digit_glyph, digits_onto, decimal, digits}
use Rattle.std.proofs.lemmas.List.Elements.{recursion_from_All}
use Rattle.merlin_base.specs.Lexemes.{IsLetter, IsNameByte, is_word, IsIdentifier, IsName}
use Rattle.refinement_model.specs.Delegation.{slash, default_id, HasNoSlash}
use Rattle.merlin_text.specs.declared.token.Sign.TheVariants as signs
use Rattle.merlin_text.specs.declared.token.Word.TheVariants as words
use Rattle.policy_grammar.specs.declared.written.Literal.{Literal}
use Rattle.policy_grammar.specs.declared.written.WrittenStatement.{WrittenStatement}
use Rattle.policy_grammar.specs.declared.written.Item.{Item}
use Rattle.policy_grammar.specs.declared.written.Item.TheVariants.{One, ForEach}
use Rattle.policy_grammar.specs.Lexemes.{word, sign}
use Rattle.policy_grammar.specs.PathTexts.{spell_path}
use Rattle.policy_grammar.specs.Grammar.{ItemPhrase, one, each, ListPhrase, ended, open_end, with_default, PolicyPhrase, spell_sets, spell_item, semicolons, spell_end, spell_list, spell_terms, spell_policy, item_value, items_of, policy_value}
use Rattle.policy_expansion.specs.declared.policy.Statement.{Statement}
use Rattle.policy_expansion.specs.declared.policy.Policy.{Policy}
use Rattle.policy_expansion.specs.WrittenOut.{pairs, numbered, for_pair, written_out, known_literals, statements_of}
use Rattle.policy_expansion.specs.Faults.{fault_of}
use Rattle.policy_expansion.specs.Expansion.{plain, policy_of}
use Rattle.policy_expansion.specs.Kept.{statement_in}
use Rattle.policy_expansion.proofs.Differing.{told}
use Rattle.policy_parser.specs.Policies.{IsPolicyText}
use Rattle.policy_parser.proofs.Spelled.{all_spelled}
use Rattle.policy_parser.proofs.Formed.{AreSpelled, left, right}

-- no slash, and not `default`
abbrev pub IsPlainId : List ℕ → Type 0
IsPlainId id = HasNoSlash id × (id ≢ default_id)

all-append : {X : Type 0} (P : X → Type 0) (xs ys : List X) → AllByRecursion P xs → AllByRecursion P ys → AllByRecursion P (xs ++ ys)
all-append P [] ys h k = k
all-append P (x ∷ xs) ys h k = (h.0, all-append P xs ys h.1 k)

-- Names.

letter-no_slash : (c : ℕ) → IsLetter c → c ≢ slash
letter-no_slash c (inl h) e = let low = h.0 in omega (arith, low, e)
letter-no_slash c (inr (inl h)) e = let low = h.0 in omega (arith, low, e)
letter-no_slash c (inr (inr h)) e = omega (arith, h, e)

byte-no_slash : (c : ℕ) → IsNameByte c → c ≢ slash
byte-no_slash c (inl h) = letter-no_slash c h
byte-no_slash c (inr h) = λ e. let low = h.0 in omega (arith, low, e)

bytes-no_slash : (cs : List ℕ) → AllByRecursion IsNameByte cs → HasNoSlash cs
bytes-no_slash [] h = tt
bytes-no_slash (c ∷ cs) h = (byte-no_slash c h.0, bytes-no_slash cs h.1)

pub identifier-no_slash : (text : List ℕ) → IsIdentifier text → HasNoSlash text
identifier-no_slash [] h = absurd h
identifier-no_slash (c ∷ cs) h = (letter-no_slash c h.0, bytes-no_slash cs (recursion_from_All IsNameByte cs h.1))

default-word : IsTrue (is_word default_id)
default-word = refl

name-plain : (text : List ℕ) → IsName text → IsPlainId text
name-plain text name = (identifier-no_slash text name.identifier, λ e. name.no_word (subst (λ t. IsTrue (is_word t)) (sym e) default-word))

-- Names with a number behind them.

glyph-high : (d : ℕ) → 48 ≤ digit_glyph false d
glyph-high d = by (nat_lt d 10)
  where
    by : (b : Bool) → 48 ≤ cond b (48 + d) (87 + d)
    by true = omega arith
    by false = omega arith

onto-no_slash : (k n : ℕ) (acc : List ℕ) → HasNoSlash acc → HasNoSlash (digits_onto k 10 false n acc)
onto-no_slash zero n acc h = h
onto-no_slash (suc k) n acc h = by (n / 10 == 0) (onto-no_slash k (n / 10) (digit_glyph false (n % 10) ∷ acc) more)
  where
    glyph : digit_glyph false (n % 10) ≢ slash
    glyph e = omega (arith, glyph-high (n % 10), e)

    more : HasNoSlash (digit_glyph false (n % 10) ∷ acc)
    more = (glyph, h)

    by : (b : Bool) → HasNoSlash (digits_onto k 10 false (n / 10) (digit_glyph false (n % 10) ∷ acc))
        → HasNoSlash (cond b (digit_glyph false (n % 10) ∷ acc) (digits_onto k 10 false (n / 10) (digit_glyph false (n % 10) ∷ acc)))
    by true ih = more
    by false ih = ih

decimal-no_slash : (n : ℕ) → HasNoSlash (decimal n)
unfolding digits
decimal-no_slash n = onto-no_slash 64 n [] tt

-- what holds of a whole list holds of its parts
of-front : (P : ℕ → Type 0) (xs ys : List ℕ) → AllByRecursion P (xs ++ ys) → AllByRecursion P xs
of-front P [] ys h = tt
of-front P (x ∷ xs) ys h = (h.0, of-front P xs ys h.1)

of-back : (P : ℕ → Type 0) (xs ys : List ℕ) → AllByRecursion P (xs ++ ys) → AllByRecursion P ys
of-back P [] ys h = h
of-back P (x ∷ xs) ys h = of-back P xs ys h.1

default-no_underscore : AllByRecursion (λ b. b ≢ 95) default_id
default-no_underscore = ((λ e. omega (arith, e)), ((λ e. omega (arith, e)), ((λ e. omega (arith, e)), ((λ e. omega (arith, e)), ((λ e. omega (arith, e)), ((λ e. omega (arith, e)), ((λ e. omega (arith, e)), tt)))))))

suffix-plain : (id rest : List ℕ) → IsName id → HasNoSlash rest → IsPlainId ((id ++ codes "_") ++ rest)
suffix-plain id rest name behind = (no_slash, no_default)
  where
    no_slash : HasNoSlash ((id ++ codes "_") ++ rest)
    no_slash = all-append (λ b. b ≢ slash) (id ++ codes "_") rest
        (all-append (λ b. b ≢ slash) id (codes "_") (identifier-no_slash id name.identifier) ((λ e. omega (arith, e)), tt)) behind

    no_default : (id ++ codes "_") ++ rest ≢ default_id
    no_default e =
        let front = of-front (λ b. b ≢ 95) (id ++ codes "_") rest (subst (AllByRecursion (λ b. b ≢ 95)) (sym e) default-no_underscore) in
        (of-back (λ b. b ≢ 95) id (codes "_") front).0 refl

numbered-plain : (id : List ℕ) (n : ℕ) → IsName id → IsPlainId (numbered id n)
numbered-plain id n name = suffix-plain id (decimal n) name (decimal-no_slash n)

-- What items stand for.

abbrev HasName : Item → Type 0
HasName item = IsName (statement_in item).id

abbrev HavePlainIds : List WrittenStatement → Type 0
HavePlainIds ss = AllByRecursion (λ s. IsPlainId s.id) ss

each-plain : (s : WrittenStatement) → IsName s.id → (ps : List (ℕ × (Literal × Literal))) → HavePlainIds (map (for_pair s) ps)
each-plain s name [] = tt
each-plain s name (p ∷ ps) = (numbered-plain s.id p.0 name, each-plain s name ps)

out-plain : (known : _) (item : Item) → HasName item → HavePlainIds (written_out known item)
out-plain known (One s) name = (name-plain s.id name, tt)
out-plain known (ForEach outer inner s) name = each-plain s name (enumerate_from 1 (pairs (unwrap_or (known outer) []) (unwrap_or (known inner) [])))

all-plain : (known : _) (items : List Item) → AllByRecursion HasName items → HavePlainIds (flat_map (written_out known) items)
all-plain known [] h = tt
all-plain known (item ∷ items) h = all-append (λ s. IsPlainId s.id) (written_out known item) (flat_map (written_out known) items) (out-plain known item h.0) (all-plain known items h.1)

without-limits : (ss : List WrittenStatement) → HavePlainIds ss → AllByRecursion (λ (s : Statement). IsPlainId s.id) (map plain ss)
without-limits [] h = tt
without-limits (s ∷ ss) h = (h.0, without-limits ss h.1)

-- Items as they are spelled.

item-named : (i : ItemPhrase) → AreSpelled (spell_item i) → HasName (item_value i)
item-named (one s) h = h.0
item-named (each first second outer inner s) h = let rest = h.1.1.1.1.1.1.1.1.1.1.1.1.1.1 in rest.0

abbrev AreNamed : List ItemPhrase → Type 0
AreNamed items = AllByRecursion HasName (map item_value items)

items-named : (items : List ItemPhrase) → AreSpelled (semicolons items) → AreNamed items
items-named [] h = tt
items-named (i ∷ items) h =
    (item-named i (left (spell_item i) (sign signs.Semicolon ∷ semicolons items) h), items-named items (right (spell_item i) (sign signs.Semicolon ∷ semicolons items) h).1)

with-last : (items : List ItemPhrase) (i : ItemPhrase) → AreNamed items → HasName (item_value i) → AreNamed (items ++ i ∷ [])
with-last [] i h last = (last, tt)
with-last (j ∷ items) i h last = (h.0, with-last items i h.1 last)

list-named : (l : ListPhrase) → AreSpelled (spell_list l) → AreNamed (items_of l)
list-named (ended items) h = items-named items (left (semicolons items) (sign signs.CloseList ∷ []) h.1)
list-named (open_end items i) h =
    let front = left (semicolons items ++ spell_item i) (sign signs.CloseList ∷ []) h.1 in
    with-last items i (items-named items (left (semicolons items) (spell_item i) front)) (item-named i (right (semicolons items) (spell_item i) front))
list-named (with_default items path closed) h =
    let front = left (semicolons items ++ word words.Default ∷ sign signs.Arrow ∷ spell_path path) (spell_end closed) h.1 in
    items-named items (left (semicolons items) (word words.Default ∷ sign signs.Arrow ∷ spell_path path) front)

phrase-named : (p : PolicyPhrase) → AreSpelled (spell_policy p) → AllByRecursion HasName (policy_value p).items
phrase-named p h =
    let front = left (spell_sets p.sets ++ spell_list p.list) (spell_terms p.terms) h in
    list-named p.list (right (spell_sets p.sets) (spell_list p.list) front)

pub parsed-ids : (text : List ℕ) (policy : Policy) → IsPolicyText text policy → AllByRecursion (λ s. IsPlainId s.id) policy.statements
parsed-ids text policy p =
    let phrase = p.text_of.stands.phrase in
    let spelled = subst AreSpelled (sym p.text_of.stands.spelled) (all_spelled text p.text_of.tokens p.text_of.cut) in
    let named = subst (λ w. AllByRecursion HasName w.items) p.text_of.stands.is (phrase-named phrase spelled) in
    let is : policy_of p.written ≡ policy = (told (fault_of p.written) (policy_of p.written) policy p.expanded).1 in
    subst (λ q. AllByRecursion (λ s. IsPlainId s.id) q.statements) is (without-limits (statements_of p.written) (all-plain (known_literals p.written.sets) p.written.items named))
