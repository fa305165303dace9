-- Predicates: the run over the lexemes of one goes on as the grammar says, and a run that ends well has read one.
use Rattle.std.proofs.Common.{if◌then◌else◌, ℕ, ◌≡◌, ◌+◌, ◌<◌, ◌≤◌, ◌&&◌, ◌⊎◌, inl, inr, ⊎_elim, zero, suc, Bool, true, false, cond, List, [], ◌∷◌, ◌++◌, Option, Some, None, Result, Ok, nat_lt, length, length-append, refl, sym, ap, ◌∙◌, subst, append_assoc, arith}
use Rattle.std.specs.Prelude.{bytes_eq}
use Rattle.std.proofs.lemmas.Bool.{lt-ltb, ltb-true}
use Rattle.std.proofs.lemmas.Slice.Eq.{bytes_eq-Decides}
use Rattle.merlin_model.specs.declared.policy.Test.{Test}
use Rattle.merlin_model.specs.declared.policy.Pred.{Pred, Yes, No, Test as Tests}
use Rattle.merlin_text.specs.declared.token.Word.TheVariants as words
use Rattle.merlin_text.specs.declared.token.Sign.TheVariants as signs
use Rattle.policy_grammar.specs.declared.limits.TheConstants.{MAX_NESTING}
use Rattle.policy_grammar.specs.declared.written.Tested.{Tested}
use Rattle.policy_grammar.specs.declared.written.Tested.TheVariants as tested
use Rattle.policy_grammar.specs.declared.written.WrittenPolicy.{WrittenPolicy}
use Rattle.policy_grammar.specs.Lexemes.{Lexeme, name, word, sign}
use Rattle.policy_grammar.specs.Predicates.{first_name, second_name, test_of, Lit, bang, group, yes, no, test, Conj, lit, and, Disj, conj, or, spell_lit, spell_conj, spell_pred, lit_value, lit_values, conj_values, pred_value, lit_depth, conj_depth, pred_depth, lit_tests, conj_tests, pred_tests, all_of, any_of}
use Rattle.policy_grammar.specs.Machine.{Awaited, this_sign, literal, negation, lits, conjs, whole_pred, bracket, second, value_of, State, opens, put, is_first, field_at, then_some, on, next_step, run, awaiting}
use Rattle.policy_grammar.proofs.SingleTexts.{took_sign}

some_inj : {A : Type 0} {x y : A} → Some x ≡ Some y → x ≡ y
some_inj e = cc

-- The lexemes of a predicate are read, whatever stands around them.

-- no predicate goes on so
abbrev pub ends_pred : List Lexeme → Bool
ends_pred [] = true
ends_pred (word words.And ∷ _) = false
ends_pred (word words.Or ∷ _) = false
ends_pred (_ ∷ _) = true

abbrev no_and : List Lexeme → Bool
no_and [] = true
no_and (word words.And ∷ _) = false
no_and (_ ∷ _) = true

abbrev no_or : List Lexeme → Bool
no_or [] = true
no_or (word words.Or ∷ _) = false
no_or (_ ∷ _) = true

neither : (y : List Lexeme) → ends_pred y ≡ true → (no_and y ≡ true) × (no_or y ≡ true)
neither [] h = (refl, refl)
neither (word words.And ∷ _) h = cc
neither (word words.Or ∷ _) h = cc
neither (_ ∷ _) h = (refl, refl)

-- where no `and` follows the conjunction is whole
ends_conj : (y : List Lexeme) (ls ps : List Pred) (k : List Awaited) (n : ℕ) → no_and y ≡ true → run y (awaiting (lits ls ∷ conjs ps ∷ k) n) ≡ run y (awaiting (conjs (ps ++ all_of ls ∷ []) ∷ k) n)
ends_conj [] ls ps k n h = refl
ends_conj (word words.And ∷ y) ls ps k n h = cc
ends_conj (_ ∷ y) ls ps k n h = refl

-- where no `or` follows the predicate is whole
ends_disj : (y : List Lexeme) (ps : List Pred) (k : List Awaited) (n : ℕ) → no_or y ≡ true → run y (awaiting (conjs ps ∷ k) n) ≡ run y (awaiting (whole_pred (any_of ps) ∷ k) n)
ends_disj [] ps k n h = refl
ends_disj (word words.Or ∷ y) ps k n h = cc
ends_disj (_ ∷ y) ps k n h = refl

opening : {A : Type 0} (m : ℕ) (x y : A) → m < MAX_NESTING → (if nat_lt m MAX_NESTING then x else y) ≡ x
opening m x y h = ap (λ b. cond b x y) (lt-ltb m MAX_NESTING h)

-- the value of a test
valued : (f : Tested) (v : Lexeme) (p : Test) (y : List Lexeme) (k : List Awaited) (n : ℕ) → test_of f v ≡ Some p → run (v ∷ y) (awaiting (value_of f ∷ k) n) ≡ run y (awaiting (put (Tests p) k) n)
valued f v p y k n e = ap (λ o. next_step (then_some o (λ t. on (put (Tests t) k) n)) (suc (length y)) (λ u. run y u)) e

test_complete : (f : Tested) (a b : ℕ) (v : Lexeme) (p : Test) (y : List Lexeme) (k : List Awaited) (n : ℕ) (e : test_of f v ≡ Some p) → run (spell_lit (test f a b v p e) ++ y) (awaiting (literal ∷ k) (suc n)) ≡ run y (awaiting (put (Tests p) k) n)
test_complete tested.EthSrc a b v p y k n e = valued tested.EthSrc v p y k n e
test_complete tested.EthDst a b v p y k n e = valued tested.EthDst v p y k n e
test_complete tested.IpSrc a b v p y k n e = valued tested.IpSrc v p y k n e
test_complete tested.IpDst a b v p y k n e = valued tested.IpDst v p y k n e
test_complete tested.IpProto a b v p y k n e = valued tested.IpProto v p y k n e
test_complete tested.TcpSrc a b v p y k n e = valued tested.TcpSrc v p y k n e
test_complete tested.TcpDst a b v p y k n e = valued tested.TcpDst v p y k n e
test_complete tested.UdpSrc a b v p y k n e = valued tested.UdpSrc v p y k n e
test_complete tested.UdpDst a b v p y k n e = valued tested.UdpDst v p y k n e

mutual
  lit_complete : (l : Lit) (y : List Lexeme) (k : List Awaited) (n left : ℕ) → left ≡ lit_tests l + n → opens k + lit_depth l ≤ MAX_NESTING → run (spell_lit l ++ y) (awaiting (literal ∷ k) left) ≡ run y (awaiting (put (lit_value l) k) n)
  lit_complete (bang l) y k n left e h =
      let room : opens k < MAX_NESTING = omega arith in
      ap (λ o. next_step o (suc (length (spell_lit l ++ y))) (λ u. run (spell_lit l ++ y) u)) (opening (opens k) (on (literal ∷ negation ∷ k) left) None room)
      ∙ lit_complete l y (negation ∷ k) n left e (omega arith)
  lit_complete (group d) y k n left e h =
      let room : opens k < MAX_NESTING = omega arith in
      let rest = (spell_pred d ++ sign signs.CloseGroup ∷ []) ++ y in
      ap (λ o. next_step o (suc (length rest)) (λ u. run rest u)) (opening (opens k) (on (literal ∷ lits [] ∷ conjs [] ∷ bracket ∷ k) left) None room)
      ∙ ap (λ ts. run ts (awaiting (literal ∷ lits [] ∷ conjs [] ∷ bracket ∷ k) left)) (append_assoc (spell_pred d) (sign signs.CloseGroup ∷ []) y)
      ∙ pred_goes d (sign signs.CloseGroup ∷ y) [] (bracket ∷ k) n left refl refl e (omega arith)
  lit_complete yes y k n left e h = let same : left ≡ n = omega arith in ap (λ m. run y (awaiting (put Yes k) m)) same
  lit_complete no y k n left e h = let same : left ≡ n = omega arith in ap (λ m. run y (awaiting (put No k) m)) same
  lit_complete (test f a b v p q) y k n left e h =
      let same : left ≡ suc n = omega arith in
      ap (λ m. run (spell_lit (test f a b v p q) ++ y) (awaiting (literal ∷ k) m)) same ∙ test_complete f a b v p y k n q

  conj_complete : (c : Conj) (y : List Lexeme) (ls ps : List Pred) (k : List Awaited) (n left : ℕ) → no_and y ≡ true → left ≡ conj_tests c + n → opens k + conj_depth c ≤ MAX_NESTING → run (spell_conj c ++ y) (awaiting (literal ∷ lits ls ∷ conjs ps ∷ k) left) ≡ run y (awaiting (conjs (ps ++ all_of (ls ++ lit_values c) ∷ []) ∷ k) n)
  conj_complete (lit l) y ls ps k n left a e h = lit_complete l y (lits ls ∷ conjs ps ∷ k) n left e (omega arith) ∙ ends_conj y (ls ++ lit_value l ∷ []) ps k n a
  conj_complete (and l c) y ls ps k n left a e h =
      ap (λ ts. run ts (awaiting (literal ∷ lits ls ∷ conjs ps ∷ k) left)) (append_assoc (spell_lit l) (word words.And ∷ spell_conj c) y)
      ∙ lit_complete l (word words.And ∷ spell_conj c ++ y) (lits ls ∷ conjs ps ∷ k) (conj_tests c + n) left (omega arith) (omega arith)
      ∙ conj_complete c y (ls ++ lit_value l ∷ []) ps k n (conj_tests c + n) a refl (omega arith)
      ∙ ap (λ vs. run y (awaiting (conjs (ps ++ all_of vs ∷ []) ∷ k) n)) (append_assoc ls (lit_value l ∷ []) (lit_values c))

  pred_goes : (d : Disj) (y : List Lexeme) (ps : List Pred) (k : List Awaited) (n left : ℕ) → no_and y ≡ true → no_or y ≡ true → left ≡ pred_tests d + n → opens k + pred_depth d ≤ MAX_NESTING → run (spell_pred d ++ y) (awaiting (literal ∷ lits [] ∷ conjs ps ∷ k) left) ≡ run y (awaiting (whole_pred (any_of (ps ++ conj_values d)) ∷ k) n)
  pred_goes (conj c) y ps k n left a o e h = conj_complete c y [] ps k n left a e h ∙ ends_disj y (ps ++ all_of (lit_values c) ∷ []) k n o
  pred_goes (or c d) y ps k n left a o e h =
      ap (λ ts. run ts (awaiting (literal ∷ lits [] ∷ conjs ps ∷ k) left)) (append_assoc (spell_conj c) (word words.Or ∷ spell_pred d) y)
      ∙ conj_complete c (word words.Or ∷ spell_pred d ++ y) [] ps k (pred_tests d + n) left refl (omega arith) (omega arith)
      ∙ pred_goes d y (ps ++ all_of (lit_values c) ∷ []) k n (pred_tests d + n) a o refl (omega arith)
      ∙ ap (λ vs. run y (awaiting (whole_pred (any_of vs) ∷ k) n)) (append_assoc ps (all_of (lit_values c) ∷ []) (conj_values d))

-- the lexemes of a predicate are read as that predicate, where neither `and` nor `or` follows
pub pred_complete : (d : Disj) (y : List Lexeme) (k : List Awaited) (n : ℕ) → ends_pred y ≡ true → opens k + pred_depth d ≤ MAX_NESTING → run (spell_pred d ++ y) (awaiting (literal ∷ lits [] ∷ conjs [] ∷ k) (pred_tests d + n)) ≡ run y (awaiting (whole_pred (pred_value d) ∷ k) n)
pred_complete d y k n e h = let ends = neither y e in pred_goes d y [] k n (pred_tests d + n) ends.0 ends.1 refl h

-- What a run that ends well reads. Each lemma on a place before some phrase gives the phrase, the lexemes after it, and the run from there.

next_ok : (b : Bool) (s : State) (m : ℕ) (f : State → Result WrittenPolicy ℕ) (w : WrittenPolicy) → next_step (cond b (Some s) None) m f ≡ Ok w → (b ≡ true) × (f s ≡ Ok w)
next_ok true s m f w e = (refl, e)
next_ok false s m f w e = cc

found : {A : Type 0} (o : Option A) (g : A → State) (m : ℕ) (f : State → Result WrittenPolicy ℕ) (w : WrittenPolicy) → next_step (then_some o (λ x. Some (g x))) m f ≡ Ok w → (x : A) × (o ≡ Some x) × (f (g x) ≡ Ok w)
found None g m f w e = cc
found (Some x) g m f w e = (x, refl, e)

-- The field that two names give has these names.

abbrev AreNames : List ℕ → List ℕ → Tested → Type 0
AreNames a b f = (first_name f ≡ a) × (second_name f ≡ b)

picked : (b : Bool) (f g : Tested) (rest : Option Tested) → cond b (Some f) rest ≡ Some g → ((b ≡ true) × (f ≡ g)) ⊎ (rest ≡ Some g)
picked true f g rest e = inl (refl, some_inj e)
picked false f g rest e = inr e

both : (x y : Bool) → (x && y) ≡ true → (x ≡ true) × (y ≡ true)
both true true e = (refl, refl)
both true false e = cc
both false y e = cc

named : (a b : List ℕ) (f g : Tested) → (bytes_eq a (first_name f) && bytes_eq b (second_name f)) ≡ true → f ≡ g → AreNames a b g
named a b f g e same =
    let c = both (bytes_eq a (first_name f)) (bytes_eq b (second_name f)) e in
    subst (λ x. AreNames a b x) same (sym ((bytes_eq-Decides a (first_name f)).0 c.0), sym ((bytes_eq-Decides b (second_name f)).0 c.1))

field_names : (a b : List ℕ) (g : Tested) → field_at a b ≡ Some g → AreNames a b g
field_names a b g e = ⊎_elim (λ h. named a b tested.EthSrc g h.0 h.1)
    (λ e. ⊎_elim (λ h. named a b tested.EthDst g h.0 h.1)
    (λ e. ⊎_elim (λ h. named a b tested.IpSrc g h.0 h.1)
    (λ e. ⊎_elim (λ h. named a b tested.IpDst g h.0 h.1)
    (λ e. ⊎_elim (λ h. named a b tested.IpProto g h.0 h.1)
    (λ e. ⊎_elim (λ h. named a b tested.TcpSrc g h.0 h.1)
    (λ e. ⊎_elim (λ h. named a b tested.TcpDst g h.0 h.1)
    (λ e. ⊎_elim (λ h. named a b tested.UdpSrc g h.0 h.1)
    (λ e. ⊎_elim (λ h. named a b tested.UdpDst g h.0 h.1)
    (λ e. cc)
    (picked _ _ _ _ e))
    (picked _ _ _ _ e))
    (picked _ _ _ _ e))
    (picked _ _ _ _ e))
    (picked _ _ _ _ e))
    (picked _ _ _ _ e))
    (picked _ _ _ _ e))
    (picked _ _ _ _ e))
    (picked _ _ _ _ e)

-- the second name of a field
record SecondRead (a : List ℕ) (ts : List Lexeme) (k : List Awaited) (n : ℕ) (w : WrittenPolicy) : Type 0 where
  field : Tested
  place : ℕ
  rest : List Lexeme
  first : first_name field ≡ a
  spelled : ts ≡ name (second_name field) place ∷ rest
  goes : run rest (awaiting (this_sign signs.Equals ∷ value_of field ∷ k) n) ≡ Ok w

second_sound : (a : List ℕ) (ts : List Lexeme) (k : List Awaited) (n : ℕ) (w : WrittenPolicy) → run ts (awaiting (second a ∷ k) n) ≡ Ok w → SecondRead a ts k n w
second_sound a [] k n w e = cc
second_sound a (name b q ∷ ts) k n w e =
    let r = found (field_at a b) (λ f. awaiting (this_sign signs.Equals ∷ value_of f ∷ k) n) (suc (length ts)) (λ u. run ts u) w e in
    let names = field_names a b r.0 r.1 in
    record { field = r.0; place = q; rest = ts; first = names.0; spelled = ap (λ x. name x q ∷ ts) (sym names.1); goes = r.2 }
second_sound a (_ ∷ ts) k n w e = cc

record ValueRead (f : Tested) (ts : List Lexeme) (k : List Awaited) (n : ℕ) (w : WrittenPolicy) : Type 0 where
  value : Lexeme
  made : Test
  takes : test_of f value ≡ Some made
  rest : List Lexeme
  spelled : ts ≡ value ∷ rest
  goes : run rest (awaiting (put (Tests made) k) n) ≡ Ok w

value_sound : (f : Tested) (ts : List Lexeme) (k : List Awaited) (n : ℕ) (w : WrittenPolicy) → run ts (awaiting (value_of f ∷ k) n) ≡ Ok w → ValueRead f ts k n w
value_sound f [] k n w e = cc
value_sound f (v ∷ ts) k n w e =
    let r = found (test_of f v) (λ p. awaiting (put (Tests p) k) n) (suc (length ts)) (λ u. run ts u) w e in
    record { value = v; made = r.0; takes = r.1; rest = ts; spelled = refl; goes = r.2 }

-- a literal, a conjunction, a predicate
record LitRead (ts : List Lexeme) (k : List Awaited) (left : ℕ) (w : WrittenPolicy) : Type 0 where
  tree : Lit
  rest : List Lexeme
  spare : ℕ
  spelled : ts ≡ spell_lit tree ++ rest
  tests : left ≡ lit_tests tree + spare
  deep : opens k + lit_depth tree ≤ MAX_NESTING
  goes : run rest (awaiting (put (lit_value tree) k) spare) ≡ Ok w

record ConjRead (ts : List Lexeme) (ls ps : List Pred) (k : List Awaited) (left : ℕ) (w : WrittenPolicy) : Type 0 where
  tree : Conj
  rest : List Lexeme
  spare : ℕ
  spelled : ts ≡ spell_conj tree ++ rest
  tests : left ≡ conj_tests tree + spare
  deep : opens k + conj_depth tree ≤ MAX_NESTING
  goes : run rest (awaiting (conjs (ps ++ all_of (ls ++ lit_values tree) ∷ []) ∷ k) spare) ≡ Ok w

record DisjRead (ts : List Lexeme) (ps : List Pred) (k : List Awaited) (left : ℕ) (w : WrittenPolicy) : Type 0 where
  tree : Disj
  rest : List Lexeme
  spare : ℕ
  spelled : ts ≡ spell_pred tree ++ rest
  tests : left ≡ pred_tests tree + spare
  deep : opens k + pred_depth tree ≤ MAX_NESTING
  goes : run rest (awaiting (whole_pred (any_of (ps ++ conj_values tree)) ∷ k) spare) ≡ Ok w

test_spelled : (a : List ℕ) (p : ℕ) (f : Tested) (q : ℕ) (ts us vs : List Lexeme) {ys : List Lexeme} → first_name f ≡ a → ts ≡ sign signs.Dot ∷ us → us ≡ name (second_name f) q ∷ vs → vs ≡ ys → name a p ∷ ts ≡ name (first_name f) p ∷ sign signs.Dot ∷ name (second_name f) q ∷ ys
test_spelled a p f q ts us vs first dot names equals =
    ap (λ x. name x p ∷ ts) (sym first)
    ∙ ap (λ xs. name (first_name f) p ∷ xs) dot
    ∙ ap (λ xs. name (first_name f) p ∷ sign signs.Dot ∷ xs) names
    ∙ ap (λ xs. name (first_name f) p ∷ sign signs.Dot ∷ name (second_name f) q ∷ xs) equals

test_sound : (a : List ℕ) (p : ℕ) (ts : List Lexeme) (k : List Awaited) (left : ℕ) (w : WrittenPolicy) → opens k ≤ MAX_NESTING → run (name a p ∷ ts) (awaiting (literal ∷ k) left) ≡ Ok w → LitRead (name a p ∷ ts) k left w
test_sound a p ts k zero w h e = cc
test_sound a p ts k (suc n) w h e =
    let r = next_ok (is_first a) (awaiting (this_sign signs.Dot ∷ second a ∷ k) n) (suc (length ts)) (λ u. run ts u) w e in
    let dot = took_sign signs.Dot ts (second a ∷ k) n w r.1 in
    let names = second_sound a dot.rest k n w dot.goes in
    let equals = took_sign signs.Equals names.rest (value_of names.field ∷ k) n w names.goes in
    let v = value_sound names.field equals.rest k n w equals.goes in
    record {
      tree = test names.field p names.place v.value v.made v.takes;
      rest = v.rest;
      spare = n;
      spelled = test_spelled a p names.field names.place ts dot.rest names.rest names.first dot.is names.spelled (equals.is ∙ ap (λ xs. sign signs.Equals ∷ xs) v.spelled);
      tests = omega arith;
      deep = omega arith;
      goes = v.goes;
    }

abbrev ConjSound : ℕ → Type 0
ConjSound m = (ts : List Lexeme) (ls ps : List Pred) (k : List Awaited) (left : ℕ) (w : WrittenPolicy) → length ts ≤ m → opens k ≤ MAX_NESTING → run ts (awaiting (literal ∷ lits ls ∷ conjs ps ∷ k) left) ≡ Ok w → ConjRead ts ls ps k left w

abbrev DisjSound : ℕ → Type 0
DisjSound m = (ts : List Lexeme) (ps : List Pred) (k : List Awaited) (left : ℕ) (w : WrittenPolicy) → length ts ≤ m → opens k ≤ MAX_NESTING → run ts (awaiting (literal ∷ lits [] ∷ conjs ps ∷ k) left) ≡ Ok w → DisjRead ts ps k left w

lit_sound : (m : ℕ) → DisjSound m → (ts : List Lexeme) (k : List Awaited) (left : ℕ) (w : WrittenPolicy) → length ts ≤ suc m → opens k ≤ MAX_NESTING → run ts (awaiting (literal ∷ k) left) ≡ Ok w → LitRead ts k left w
lit_sound m ih [] k left w few h e = cc
lit_sound m ih (sign signs.Bang ∷ ts) k left w few h e =
    let r = next_ok (nat_lt (opens k) MAX_NESTING) (awaiting (literal ∷ negation ∷ k) left) (suc (length ts)) (λ u. run ts u) w e in
    let room = ltb-true (opens k) MAX_NESTING r.0 in
    let l = lit_sound m ih ts (negation ∷ k) left w (omega arith) (omega arith) r.1 in
    record { tree = bang l.tree; rest = l.rest; spare = l.spare; spelled = ap (λ xs. sign signs.Bang ∷ xs) l.spelled; tests = l.tests; deep = omega (arith, l.deep); goes = l.goes }
lit_sound m ih (sign signs.OpenGroup ∷ ts) k left w few h e =
    let r = next_ok (nat_lt (opens k) MAX_NESTING) (awaiting (literal ∷ lits [] ∷ conjs [] ∷ bracket ∷ k) left) (suc (length ts)) (λ u. run ts u) w e in
    let room = ltb-true (opens k) MAX_NESTING r.0 in
    let d = ih ts [] (bracket ∷ k) left w (omega arith) (omega arith) r.1 in
    let c = group_ends (pred_value d.tree) d.rest k d.spare w d.goes in
    record {
      tree = group d.tree;
      rest = c.0;
      spare = d.spare;
      spelled = ap (λ xs. sign signs.OpenGroup ∷ xs) (d.spelled ∙ ap (λ xs. spell_pred d.tree ++ xs) c.1 ∙ sym (append_assoc (spell_pred d.tree) (sign signs.CloseGroup ∷ []) c.0));
      tests = d.tests;
      deep = omega (arith, d.deep);
      goes = c.2;
    }
  where
    group_ends : (p : Pred) (rest : List Lexeme) (k : List Awaited) (n : ℕ) (w : WrittenPolicy) → run rest (awaiting (whole_pred p ∷ bracket ∷ k) n) ≡ Ok w → (after : List Lexeme) × (rest ≡ sign signs.CloseGroup ∷ after) × (run after (awaiting (put p k) n) ≡ Ok w)
    group_ends p [] k n w e = cc
    group_ends p (sign signs.CloseGroup ∷ after) k n w e = (after, refl, e)
    group_ends p (_ ∷ after) k n w e = cc
lit_sound m ih (word words.True ∷ ts) k left w few h e = record { tree = yes; rest = ts; spare = left; spelled = refl; tests = omega arith; deep = omega arith; goes = e }
lit_sound m ih (word words.False ∷ ts) k left w few h e = record { tree = no; rest = ts; spare = left; spelled = refl; tests = omega arith; deep = omega arith; goes = e }
lit_sound m ih (name a p ∷ ts) k left w few h e = test_sound a p ts k left w h e
lit_sound m ih (_ ∷ ts) k left w few h e = cc

-- a literal has a lexeme, so the rest is shorter
lit_some : (l : Lit) → 1 ≤ length (spell_lit l)
lit_some (bang l) = omega arith
lit_some (group d) = omega arith
lit_some yes = omega arith
lit_some no = omega arith
lit_some (test _ _ _ _ _ _) = omega arith

conj_some : (c : Conj) → 1 ≤ length (spell_conj c)
conj_some (lit l) = lit_some l
conj_some (and l c) = omega (arith, lit_some l, length-append (spell_lit l) (word words.And ∷ spell_conj c))

conj_given : (m : ℕ) → ConjSound m → DisjSound m → ConjSound (suc m)
conj_given m ihc ihd ts ls ps k left w few h e =
    let l = lit_sound m ihd ts (lits ls ∷ conjs ps ∷ k) left w few (omega (arith, h)) e in
    let size : length ts ≡ length (spell_lit l.tree) + length l.rest = ap length l.spelled ∙ length-append (spell_lit l.tree) l.rest in
    by l.tree l.rest l.spare l.spelled l.tests (omega (arith, l.deep)) l.goes (omega (arith, lit_some l.tree, size))
  where
    by : (l : Lit) (rest : List Lexeme) (n : ℕ) → ts ≡ spell_lit l ++ rest → left ≡ lit_tests l + n → opens k + lit_depth l ≤ MAX_NESTING → run rest (awaiting (lits (ls ++ lit_value l ∷ []) ∷ conjs ps ∷ k) n) ≡ Ok w → length rest ≤ m → ConjRead ts ls ps k left w
    by l [] n spelled tests depth goes short = cc
    by l (word words.And ∷ rest) n spelled tests depth goes short =
        let c = ihc rest (ls ++ lit_value l ∷ []) ps k n w (omega arith) h goes in
        record {
          tree = and l c.tree;
          rest = c.rest;
          spare = c.spare;
          spelled = spelled ∙ ap (λ xs. spell_lit l ++ (word words.And ∷ xs)) c.spelled ∙ sym (append_assoc (spell_lit l) (word words.And ∷ spell_conj c.tree) c.rest);
          tests = omega (arith, c.tests);
          deep = omega (arith, c.deep);
          goes = ap (λ vs. run c.rest (awaiting (conjs (ps ++ all_of vs ∷ []) ∷ k) c.spare)) (sym (append_assoc ls (lit_value l ∷ []) (lit_values c.tree))) ∙ c.goes;
        }
    by l (_ ∷ rest) n spelled tests depth goes short = record { tree = lit l; rest = _ ∷ rest; spare = n; spelled = spelled; tests = tests; deep = depth; goes = goes }

disj_given : (m : ℕ) → ConjSound m → DisjSound m → DisjSound (suc m)
disj_given m ihc ihd ts ps k left w few h e =
    let c = conj_given m ihc ihd ts [] ps k left w few h e in
    let size : length ts ≡ length (spell_conj c.tree) + length c.rest = ap length c.spelled ∙ length-append (spell_conj c.tree) c.rest in
    by c.tree c.rest c.spare c.spelled c.tests c.deep c.goes (omega (arith, conj_some c.tree, size))
  where
    by : (c : Conj) (rest : List Lexeme) (n : ℕ) → ts ≡ spell_conj c ++ rest → left ≡ conj_tests c + n → opens k + conj_depth c ≤ MAX_NESTING → run rest (awaiting (conjs (ps ++ all_of (lit_values c) ∷ []) ∷ k) n) ≡ Ok w → length rest ≤ m → DisjRead ts ps k left w
    by c [] n spelled tests depth goes short = cc
    by c (word words.Or ∷ rest) n spelled tests depth goes short =
        let d = ihd rest (ps ++ all_of (lit_values c) ∷ []) k n w (omega arith) h goes in
        record {
          tree = or c d.tree;
          rest = d.rest;
          spare = d.spare;
          spelled = spelled ∙ ap (λ xs. spell_conj c ++ (word words.Or ∷ xs)) d.spelled ∙ sym (append_assoc (spell_conj c) (word words.Or ∷ spell_pred d.tree) d.rest);
          tests = omega (arith, d.tests);
          deep = omega (arith, d.deep);
          goes = ap (λ vs. run d.rest (awaiting (whole_pred (any_of vs) ∷ k) d.spare)) (sym (append_assoc ps (all_of (lit_values c) ∷ []) (conj_values d.tree))) ∙ d.goes;
        }
    by c (_ ∷ rest) n spelled tests depth goes short = record { tree = conj c; rest = _ ∷ rest; spare = n; spelled = spelled; tests = tests; deep = depth; goes = goes }

all_sound : (m : ℕ) → ConjSound m × DisjSound m
all_sound zero = (none_conj, none_disj)
  where
    none_conj : ConjSound 0
    none_conj [] ls ps k left w few h e = cc
    none_conj (t ∷ ts) ls ps k left w few h e = absurd (omega arith)

    none_disj : DisjSound 0
    none_disj [] ps k left w few h e = cc
    none_disj (t ∷ ts) ps k left w few h e = absurd (omega arith)
all_sound (suc m) = let ih = all_sound m in (conj_given m ih.0 ih.1, disj_given m ih.0 ih.1)

-- a run that ends well from before a predicate reads one
pub record PredRead (ts : List Lexeme) (k : List Awaited) (left : ℕ) (w : WrittenPolicy) : Type 0 where
  pub tree : Disj
  pub rest : List Lexeme
  pub spare : ℕ
  pub spelled : ts ≡ spell_pred tree ++ rest
  pub tests : pred_tests tree + spare ≡ left
  pub deep : opens k + pred_depth tree ≤ MAX_NESTING
  pub goes : run rest (awaiting (whole_pred (pred_value tree) ∷ k) spare) ≡ Ok w

pub pred_sound : (ts : List Lexeme) (k : List Awaited) (left : ℕ) (w : WrittenPolicy) → opens k ≤ MAX_NESTING → run ts (awaiting (literal ∷ lits [] ∷ conjs [] ∷ k) left) ≡ Ok w → PredRead ts k left w
pred_sound ts k left w h e =
    let d = (all_sound (length ts)).1 ts [] k left w (omega arith) h e in
    record { tree = d.tree; rest = d.rest; spare = d.spare; spelled = d.spelled; tests = sym d.tests; deep = d.deep; goes = d.goes }
