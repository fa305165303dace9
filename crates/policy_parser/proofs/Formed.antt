-- A policy that a text stands for has its values in their ranges, since its lexemes have.
use Rattle.std.proofs.Common.{◌≡◌, ◌≢◌, ◌-◌, ◌*◌, ◌/◌, ◌^◌, ◌<◌, ◌≤◌, ◌⊎◌, inl, inr, ◌&&◌, ℕ, Bool, true, false, cond, List, [], ◌∷◌, ◌++◌, map, Some, None, nat_le, nat_lt, refl, sym, ap, subst, arith}
use Rattle.std.specs.Prelude.{filter_map}
use Rattle.std.specs.List.{AllByRecursion}
use Rattle.std.proofs.lemmas.Bool.{ltb-true, leb-true}
use Rattle.std.proofs.Math.Nat.{div-mul-le_self, mul-div_cancel}
use Rattle.std.proofs.lemmas.Nat.{pow_pos}
use denote.Hole.Carrier.{hidden}
use Rattle.merlin_model.specs.declared.policy.Field.{Field}
use Rattle.merlin_model.specs.declared.policy.Field.TheVariants.{EthSrc, EthDst, IpSrc, IpDst, Proto, Sport, Dport}
use Rattle.merlin_model.specs.declared.policy.Test.{Test}
use Rattle.merlin_model.specs.declared.policy.Test.TheVariants.{Is, Port, Within}
use Rattle.merlin_model.specs.declared.policy.Pred.{Pred, All, AnyOf, Not}
use Rattle.merlin_model.specs.declared.policy.Pred.TheBlock.{hidden-the_row-Pred-0, hidden-the_row-Pred-1}
use Rattle.merlin_model.specs.declared.policy.Part.{Part}
use Rattle.merlin_model.specs.declared.policy.Part.TheVariants.{Id, Constant}
use Rattle.merlin_model.specs.Predicates.{first_bits, IsAddress, IsPort, IsInRange, IsTest, IsPred}
use Rattle.merlin_model.specs.Rates.{id_of_part}
use Rattle.merlin_text.specs.declared.token.Sign.TheVariants as signs
use Rattle.merlin_text.specs.declared.token.Word.TheVariants as words
use Rattle.policy_grammar.specs.declared.written.Literal.{Literal}
use Rattle.policy_grammar.specs.declared.written.Literal.TheVariants.{Mac, Ip}
use Rattle.policy_grammar.specs.declared.written.Limit.{Limit}
use Rattle.policy_grammar.specs.declared.written.Tested.{Tested}
use Rattle.policy_grammar.specs.declared.written.Tested.TheVariants as tested
use Rattle.policy_grammar.specs.Lexemes.{Lexeme, IsSpelled, word, sign, number, rate, mac, ip, prefix, separated}
use Rattle.policy_grammar.specs.Predicates.{test_of, block_test, all_of, any_of, Lit, bang, group, yes, no, test, Conj, lit, and, Disj, conj, or, spell_lit, spell_conj, spell_pred, lit_value, lit_values, conj_values, pred_value}
use Rattle.policy_grammar.specs.PathTexts.{spell_path}
use Rattle.policy_grammar.specs.Grammar.{SetPhrase, StatementPhrase, ItemPhrase, one, each, ListPhrase, ended, open_end, with_default, Summand, id, constant, TermPhrase, PolicyPhrase, spell_name, spell_literal, spell_set, spell_sets, spell_limit, spell_limits, spell_statement, spell_item, semicolons, spell_end, spell_list, spell_leading, spell_added, spell_term, spell_terms, spell_policy, set_value, statement_value, item_value, items_of, summand_value, term_value, policy_value}
use Rattle.policy_expansion.specs.declared.policy.Policy.{Policy}
use Rattle.policy_expansion.specs.Kept.{IsLiteral, IsPart, IsTerm, IsStatement, statement_in, IsWellWritten}
use Rattle.policy_expansion.proofs.Differing.{is_expanded}
use Rattle.policy_expansion.proofs.Forming.{is_well_formed}
use Rattle.policy_parser.specs.Policies.{IsPolicyText, IsParsed}
use Rattle.merlin_base.proofs.Ranges.{mac_below, ip_below}
use Rattle.policy_parser.proofs.Spelled.{all_spelled}

abbrev pub AreSpelled : List Lexeme → Type 0
AreSpelled = AllByRecursion IsSpelled

pub left : (xs ys : List Lexeme) → AreSpelled (xs ++ ys) → AreSpelled xs
left [] ys h = tt
left (x ∷ xs) ys h = (h.0, left xs ys h.1)

pub right : (xs ys : List Lexeme) → AreSpelled (xs ++ ys) → AreSpelled ys
right [] ys h = h
right (x ∷ xs) ys h = right xs ys h.1

-- phrases, one after another
pub each_phrase : {A : Type 0} (P : A → Type 0) (between : Lexeme) (spell : A → List Lexeme) → ((x : A) → AreSpelled (spell x) → P x) → (xs : List A) → AreSpelled (separated between spell xs) → AllByRecursion P xs
each_phrase P between spell step [] h = tt
each_phrase P between spell step (x ∷ []) h = (step x h, tt)
each_phrase P between spell step (x ∷ y ∷ rest) h =
    (step x (left (spell x) (between ∷ separated between spell (y ∷ rest)) h), each_phrase P between spell step (y ∷ rest) (right (spell x) (between ∷ separated between spell (y ∷ rest)) h).1)

-- Tests.

some_inj : {A : Type 0} {x y : A} → Some x ≡ Some y → x ≡ y
some_inj e = cc

chosen : {A : Type 0} (b : Bool) (x y : A) → cond b (Some x) None ≡ Some y → (b ≡ true) × (x ≡ y)
chosen true x y e = (refl, some_inj e)
chosen false x y e = cc

both : (x y : Bool) → (x && y) ≡ true → (x ≡ true) × (y ≡ true)
both true true e = (refl, refl)
both true false e = cc
both false y e = cc

eth_src_no_port : IsPort EthSrc → ⊥
eth_src_no_port (inl e) = cc
eth_src_no_port (inr e) = cc

eth_dst_no_port : IsPort EthDst → ⊥
eth_dst_no_port (inl e) = cc
eth_dst_no_port (inr e) = cc

ip_src_no_port : IsPort IpSrc → ⊥
ip_src_no_port (inl e) = cc
ip_src_no_port (inr e) = cc

ip_dst_no_port : IsPort IpDst → ⊥
ip_dst_no_port (inl e) = cc
ip_dst_no_port (inr e) = cc

proto_no_port : IsPort Proto → ⊥
proto_no_port (inl e) = cc
proto_no_port (inr e) = cc

-- the first address of a block
start_below : (bits value : ℕ) → value < 2 ^ 32 → first_bits bits value * 2 ^ (32 - bits) < 2 ^ 32
start_below bits value h = omega (arith, div-mul-le_self value (2 ^ (32 - bits)))

start_again : (bits value : ℕ) → first_bits bits value * 2 ^ (32 - bits) ≡ first_bits bits (first_bits bits value * 2 ^ (32 - bits)) * 2 ^ (32 - bits)
start_again bits value = sym (ap (λ (n : ℕ). n * 2 ^ (32 - bits)) (mul-div_cancel (value / 2 ^ (32 - bits)) (pow_pos (32 - bits))))

block_formed : (field : Field) (value bits : ℕ) → IsAddress field → (IsPort field → ⊥) → ((n : ℕ) → n < 2 ^ 32 → IsInRange field n) → value < 2 ^ 32 → IsTest (block_test field value bits)
block_formed field value bits address no_port wide h = by (nat_lt bits 32) refl
  where
    by : (b : Bool) → nat_lt bits 32 ≡ b → IsTest (cond b (Within field (first_bits bits value * 2 ^ (32 - bits)) bits) (Is field value))
    by true e = (address, omega (arith, ltb-true bits 32 e), wide (first_bits bits value * 2 ^ (32 - bits)) (start_below bits value h), start_again bits value)
    by false e = (no_port, wide value h)

proto_formed : (n : ℕ) (p : Test) → cond (nat_le 1 n && nat_le n 255) (Some (Is Proto n)) None ≡ Some p → IsTest p
proto_formed n p e =
    let c = chosen (nat_le 1 n && nat_le n 255) (Is Proto n) p e in
    subst IsTest c.1 (proto_no_port, omega (arith, leb-true n 255 (both (nat_le 1 n) (nat_le n 255) c.0).1))

port_formed : (proto : ℕ) (field : Field) (n : ℕ) (p : Test) → (proto ≡ 6) ⊎ (proto ≡ 17) → IsPort field → cond (nat_le n 65535) (Some (Port proto field n)) None ≡ Some p → IsTest p
port_formed proto field n p transport port e =
    let c = chosen (nat_le n 65535) (Port proto field n) p e in
    subst IsTest c.1 (transport, port, omega (arith, leb-true n 65535 c.0))

test_formed : (f : Tested) (v : Lexeme) (p : Test) → test_of f v ≡ Some p → IsSpelled v → IsTest p
test_formed tested.EthSrc (mac n) p e (text, is) = subst IsTest (some_inj e) (eth_src_no_port, mac_below text n is)
test_formed tested.EthDst (mac n) p e (text, is) = subst IsTest (some_inj e) (eth_dst_no_port, mac_below text n is)
test_formed tested.IpSrc (ip n) p e (text, is) = subst IsTest (some_inj e) (ip_src_no_port, ip_below text n is)
test_formed tested.IpDst (ip n) p e (text, is) = subst IsTest (some_inj e) (ip_dst_no_port, ip_below text n is)
test_formed tested.IpSrc (prefix v n) p e (text, is) = subst IsTest (some_inj e) (block_formed IpSrc v n (inl refl) ip_src_no_port (λ n h. h) (ip_below is.address v is.ip))
test_formed tested.IpDst (prefix v n) p e (text, is) = subst IsTest (some_inj e) (block_formed IpDst v n (inr refl) ip_dst_no_port (λ n h. h) (ip_below is.address v is.ip))
test_formed tested.IpProto (number n) p e s = proto_formed n p e
test_formed tested.TcpSrc (number n) p e s = port_formed 6 Sport n p (inl refl) (inl refl) e
test_formed tested.TcpDst (number n) p e s = port_formed 6 Dport n p (inl refl) (inr refl) e
test_formed tested.UdpSrc (number n) p e s = port_formed 17 Sport n p (inr refl) (inl refl) e
test_formed tested.UdpDst (number n) p e s = port_formed 17 Dport n p (inr refl) (inr refl) e
test_formed f v p e s = cc

-- Predicates.

all_formed : (preds : List Pred) → AllByRecursion IsPred preds → IsPred (All preds)
unfolding hidden-the_row-Pred-0 hidden
all_formed [] h = tt
all_formed (pred ∷ rest) h = (h.0, all_formed rest h.1)

any_formed : (preds : List Pred) → AllByRecursion IsPred preds → IsPred (AnyOf preds)
unfolding hidden-the_row-Pred-0 hidden
any_formed [] h = tt
any_formed (pred ∷ rest) h = (h.0, any_formed rest h.1)

not_formed : (pred : Pred) → IsPred pred → IsPred (Not pred)
unfolding hidden-the_row-Pred-1 hidden
not_formed pred h = (h, tt)

all_of_formed : (preds : List Pred) → AllByRecursion IsPred preds → IsPred (all_of preds)
all_of_formed [] h = all_formed [] h
all_of_formed (pred ∷ []) h = h.0
all_of_formed (pred ∷ other ∷ rest) h = all_formed (pred ∷ other ∷ rest) h

any_of_formed : (preds : List Pred) → AllByRecursion IsPred preds → IsPred (any_of preds)
any_of_formed [] h = any_formed [] h
any_of_formed (pred ∷ []) h = h.0
any_of_formed (pred ∷ other ∷ rest) h = any_formed (pred ∷ other ∷ rest) h

mutual
  lit_formed : (l : Lit) → AreSpelled (spell_lit l) → IsPred (lit_value l)
  lit_formed (bang l) h = not_formed (lit_value l) (lit_formed l h.1)
  lit_formed (group d) h = any_of_formed (conj_values d) (disj_formed d (left (spell_pred d) (sign signs.CloseGroup ∷ []) h.1))
  lit_formed yes h = tt
  lit_formed no h = tt
  lit_formed (test f a b v p e) h = test_formed f v p e h.1.1.1.1.0

  conj_formed : (c : Conj) → AreSpelled (spell_conj c) → AllByRecursion IsPred (lit_values c)
  conj_formed (lit l) h = (lit_formed l h, tt)
  conj_formed (and l c) h = (lit_formed l (left (spell_lit l) (word words.And ∷ spell_conj c) h), conj_formed c (right (spell_lit l) (word words.And ∷ spell_conj c) h).1)

  disj_formed : (d : Disj) → AreSpelled (spell_pred d) → AllByRecursion IsPred (conj_values d)
  disj_formed (conj c) h = (all_of_formed (lit_values c) (conj_formed c h), tt)
  disj_formed (or c d) h =
      (all_of_formed (lit_values c) (conj_formed c (left (spell_conj c) (word words.Or ∷ spell_pred d) h)), disj_formed d (right (spell_conj c) (word words.Or ∷ spell_pred d) h).1)

pub pred_formed : (d : Disj) → AreSpelled (spell_pred d) → IsPred (pred_value d)
pred_formed d h = any_of_formed (conj_values d) (disj_formed d h)

-- Sets, statements and terms.

pub rate_few : (n : ℕ) → IsSpelled (rate n) → n ≤ 1000000000
rate_few n (text, is) = is.few

literal_formed : (a : Literal) → AreSpelled (spell_literal a) → IsLiteral a
literal_formed (Mac n) ((text, is), h) = mac_below text n is
literal_formed (Ip n) ((text, is), h) = ip_below text n is

sets_formed : (sets : List SetPhrase) → AreSpelled (spell_sets sets) → AllByRecursion (λ set. AllByRecursion IsLiteral set.literals) (map set_value sets)
sets_formed [] h = tt
sets_formed (s ∷ sets) h =
    let body = left (separated (sign signs.Comma) spell_literal s.literals) (sign signs.CloseSet ∷ []) (left (spell_set s) (spell_sets sets) h).1.1.1 in
    (each_phrase IsLiteral (sign signs.Comma) spell_literal literal_formed s.literals body, sets_formed sets (right (spell_set s) (spell_sets sets) h))

limit_formed : (l : Limit) → AreSpelled (spell_limit l) → l.rate ≤ 1000000000
limit_formed l h = rate_few l.rate h.1.1.0

limits_formed : (ls : List Limit) → AreSpelled (spell_limits ls) → AllByRecursion (λ (l : Limit). l.rate ≤ 1000000000) ls
limits_formed [] h = tt
limits_formed (l ∷ ls) h = each_phrase (λ (l : Limit). l.rate ≤ 1000000000) (word words.And) spell_limit limit_formed (l ∷ ls) h.1

statement_formed : (s : StatementPhrase) → AreSpelled (spell_statement s) → IsStatement (statement_value s)
statement_formed s h =
    let front = left (spell_pred s.pred ++ sign signs.Arrow ∷ spell_path s.path) (spell_limits s.limits) h.1.1 in
    let back = right (spell_pred s.pred ++ sign signs.Arrow ∷ spell_path s.path) (spell_limits s.limits) h.1.1 in
    (pred_formed s.pred (left (spell_pred s.pred) (sign signs.Arrow ∷ spell_path s.path) front), limits_formed s.limits back)

item_formed : (i : ItemPhrase) → AreSpelled (spell_item i) → IsStatement (statement_in (item_value i))
item_formed (one s) h = statement_formed s h
item_formed (each first second outer inner s) h = statement_formed s h.1.1.1.1.1.1.1.1.1.1.1.1.1.1

abbrev AreItems : List ItemPhrase → Type 0
AreItems items = AllByRecursion (λ item. IsStatement (statement_in item)) (map item_value items)

items_formed : (items : List ItemPhrase) → AreSpelled (semicolons items) → AreItems items
items_formed [] h = tt
items_formed (i ∷ items) h =
    (item_formed i (left (spell_item i) (sign signs.Semicolon ∷ semicolons items) h), items_formed items (right (spell_item i) (sign signs.Semicolon ∷ semicolons items) h).1)

with_last : (items : List ItemPhrase) (i : ItemPhrase) → AreItems items → IsStatement (statement_in (item_value i)) → AreItems (items ++ i ∷ [])
with_last [] i h last = (last, tt)
with_last (j ∷ items) i h last = (h.0, with_last items i h.1 last)

list_formed : (l : ListPhrase) → AreSpelled (spell_list l) → AreItems (items_of l)
list_formed (ended items) h = items_formed items (left (semicolons items) (sign signs.CloseList ∷ []) h.1)
list_formed (open_end items i) h =
    let front = left (semicolons items ++ spell_item i) (sign signs.CloseList ∷ []) h.1 in
    with_last items i (items_formed items (left (semicolons items) (spell_item i) front)) (item_formed i (right (semicolons items) (spell_item i) front))
list_formed (with_default items path closed) h =
    let front = left (semicolons items ++ word words.Default ∷ sign signs.Arrow ∷ spell_path path) (spell_end closed) h.1 in
    items_formed items (left (semicolons items) (word words.Default ∷ sign signs.Arrow ∷ spell_path path) front)

leading_formed : (ns : List ℕ) (parts : List Part) → AreSpelled (spell_leading ns) → AllByRecursion IsPart parts → AllByRecursion IsPart (map Constant ns ++ parts)
leading_formed [] parts h rest = rest
leading_formed (n ∷ ns) parts h rest = (rate_few n h.0, leading_formed ns parts h.1.1 rest)

added_formed : (more : List Summand) → AreSpelled (spell_added more) → AllByRecursion IsPart (map summand_value more)
added_formed [] h = tt
added_formed (id n ∷ more) h = (tt, added_formed more h.1.1)
added_formed (constant n ∷ more) h = (rate_few n h.1.0, added_formed more h.1.1)

some_id : (ns : List ℕ) (first : List ℕ) (rest : List Part) → filter_map id_of_part (map Constant ns ++ Id first ∷ rest) ≢ []
some_id [] first rest = λ e. cc
some_id (n ∷ ns) first rest = some_id ns first rest

pub term_formed : (t : TermPhrase) → AreSpelled (spell_term t) → IsTerm (term_value t)
term_formed t h =
    let end = sign signs.Comma ∷ rate t.rate ∷ sign signs.CloseGroup ∷ [] in
    let sum = left (spell_leading t.leading ++ spell_name t.first ∷ spell_added t.added) end h.1.1 in
    let bound = right (spell_leading t.leading ++ spell_name t.first ∷ spell_added t.added) end h.1.1 in
    let added = right (spell_leading t.leading) (spell_name t.first ∷ spell_added t.added) sum in (
      some_id t.leading t.first.text (map summand_value t.added),
      leading_formed t.leading (Id t.first.text ∷ map summand_value t.added) (left (spell_leading t.leading) (spell_name t.first ∷ spell_added t.added) sum) (tt, added_formed t.added added.1),
      rate_few t.rate bound.1.0,
    )

terms_formed : (ts : List TermPhrase) → AreSpelled (spell_terms ts) → AllByRecursion IsTerm (map term_value ts)
terms_formed [] h = tt
terms_formed (t ∷ ts) h = mapped (t ∷ ts) (each_phrase (λ t. IsTerm (term_value t)) (word words.And) spell_term term_formed (t ∷ ts) h.1)
  where
    mapped : (xs : List TermPhrase) → AllByRecursion (λ t. IsTerm (term_value t)) xs → AllByRecursion IsTerm (map term_value xs)
    mapped [] p = tt
    mapped (x ∷ xs) p = (p.0, mapped xs p.1)

phrase_formed : (p : PolicyPhrase) → AreSpelled (spell_policy p) → IsWellWritten (policy_value p)
phrase_formed p h =
    let front = left (spell_sets p.sets ++ spell_list p.list) (spell_terms p.terms) h in
    record {
      literals = sets_formed p.sets (left (spell_sets p.sets) (spell_list p.list) front);
      statements = list_formed p.list (right (spell_sets p.sets) (spell_list p.list) front);
      terms = terms_formed p.terms (right (spell_sets p.sets ++ spell_list p.list) (spell_terms p.terms) h);
    }

pub parsed_formed : (text : List ℕ) (policy : Policy) → IsPolicyText text policy → IsParsed policy
parsed_formed text policy p =
    let phrase = p.text_of.stands.phrase in
    let spelled = subst AreSpelled (sym p.text_of.stands.spelled) (all_spelled text p.text_of.tokens p.text_of.cut) in
    let formed = subst IsWellWritten p.text_of.stands.is (phrase_formed phrase spelled) in
    record { expanded = is_expanded p.written policy p.expanded; formed = is_well_formed p.written policy formed p.expanded }
