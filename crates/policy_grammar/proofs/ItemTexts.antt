-- Items and their list: what is written is read, and what is read is written.
use Rattle.std.proofs.Common.{ℕ, ◌≡◌, ◌+◌, ◌-◌, ◌≤◌, suc, zero, Bool, true, false, List, [], ◌∷◌, ◌++◌, map, Option, Some, None, Ok, length, refl, sym, ap, ◌∙◌, subst, append_assoc, append-nil, length-append, arith}
use Rattle.std.specs.List.{AllByRecursion}
use Rattle.std.proofs.lemmas.List.{map_push}
use Rattle.merlin_text.specs.declared.token.Word.TheVariants as words
use Rattle.merlin_text.specs.declared.token.Sign.TheVariants as signs
use Rattle.policy_grammar.specs.declared.limits.TheConstants.{MAX_PATH_NAMES, MAX_TESTS}
use Rattle.policy_grammar.specs.declared.written.Item.{Item}
use Rattle.policy_grammar.specs.declared.written.RawPath.{RawPath}
use Rattle.policy_grammar.specs.declared.written.WrittenSet.{WrittenSet}
use Rattle.policy_grammar.specs.declared.written.WrittenPolicy.{WrittenPolicy}
use Rattle.policy_grammar.specs.Lexemes.{Lexeme, name, word, sign}
use Rattle.policy_grammar.specs.PathTexts.{Alts, spell_path, path_value, path_names, IsPathWithin}
use Rattle.policy_grammar.specs.Grammar.{NamePhrase, spell_name, StatementPhrase, spell_statement, ItemPhrase, one, each, spell_item, ListPhrase, ended, open_end, with_default, semicolons, spell_end, spell_list, item_value, items_of, default_phrase, default_value, IsItemWithin, IsListWithin}
use Rattle.policy_grammar.specs.Machine.{Head, this_sign, this_word, any_name, literal, lits, conjs, rep, reps, alts, whole_path, sets, item, outer_set, inner_set, each_id, statement_pred, default_path, formula, heading_of, with_item, with_list, run, awaiting}
use Rattle.policy_grammar.proofs.SingleTexts.{took_sign, took_word, NameTaken, took_name}
use Rattle.policy_grammar.proofs.PathPhrases.{path_complete, path_sound}
use Rattle.policy_grammar.proofs.StatementTexts.{end_sign, after_item, statement_body, reads_body, BodyTaken, took_body}

-- the head with these items after its own
abbrev with_items : Head → List Item → Head
with_items h items = record { sets = h.sets; items = h.items ++ items }

with_none : (h : Head) → with_items h [] ≡ h
with_none h = ap (λ xs. let g : Head = record { sets = h.sets; items = xs } in g) (append-nil h.items)

with_more : (h : Head) (i : Item) (items : List Item) → with_items (with_item h i) items ≡ with_items h (i ∷ items)
with_more h i items = ap (λ xs. let g : Head = record { sets = h.sets; items = xs } in g) (append_assoc h.items (i ∷ []) items)

-- the policy of a list after that head, with no terms yet
abbrev pub list_value : Head → ListPhrase → WrittenPolicy
list_value h l = with_list (with_items h (map item_value (items_of l))) (default_value (default_phrase l))

-- What is written is read.

statement_spelled : (s : StatementPhrase) (y : List Lexeme) → spell_statement s ++ y ≡ spell_name s.id ∷ statement_body s.pred s.path s.limits y
statement_spelled s y = simp append_assoc

reads_item : (i : ItemPhrase) (h : Head) (b : Bool) (y : List Lexeme) → IsItemWithin i → run (spell_item i ++ sign (end_sign b) ∷ y) (awaiting (item h ∷ []) 0) ≡ run y (after_item b (with_item h (item_value i)))
reads_item (one s) h b y within =
    ap (λ ts. run ts (awaiting (item h ∷ []) 0)) (statement_spelled s (sign (end_sign b) ∷ y))
    ∙ reads_body s (heading_of h None s.id.text) b y within
reads_item (each first second outer inner s) h b y within =
    ap (λ ts. run ts (awaiting (each_id h outer.text inner.text ∷ []) 0)) (statement_spelled s (sign (end_sign b) ∷ y))
    ∙ reads_body s (heading_of h (Some (outer.text, inner.text)) s.id.text) b y within

reads_items : (items : List ItemPhrase) (h : Head) (y : List Lexeme) → AllByRecursion IsItemWithin items → run (semicolons items ++ y) (awaiting (item h ∷ []) 0) ≡ run y (awaiting (item (with_items h (map item_value items)) ∷ []) 0)
reads_items [] h y within = ap (λ g. run y (awaiting (item g ∷ []) 0)) (sym (with_none h))
reads_items (i ∷ items) h y within =
    ap (λ ts. run ts (awaiting (item h ∷ []) 0)) (append_assoc (spell_item i) (sign signs.Semicolon ∷ semicolons items) y)
    ∙ reads_item i h true (semicolons items ++ y) within.0
    ∙ reads_items items (with_item h (item_value i)) y within.1
    ∙ ap (λ g. run y (awaiting (item g ∷ []) 0)) (with_more h (item_value i) (map item_value items))

reads_default : (a : Alts) (h : Head) (b : Bool) (y : List Lexeme) → IsPathWithin a → run (word words.Default ∷ sign signs.Arrow ∷ (spell_path a ++ (spell_end b ++ y))) (awaiting (item h ∷ []) 0) ≡ run y (awaiting (formula (with_list h (Some (path_value a))) ∷ []) 0)
reads_default a h b y within =
    let names : MAX_PATH_NAMES ≡ path_names a + (MAX_PATH_NAMES - path_names a) = omega (arith, within.names) in
    ap (λ m. run (spell_path a ++ (spell_end b ++ y)) (awaiting (rep ∷ reps [] ∷ alts [] ∷ default_path h ∷ []) m)) names
    ∙ by b (MAX_PATH_NAMES - path_names a)
  where
    by : (c : Bool) (n : ℕ) → run (spell_path a ++ (spell_end c ++ y)) (awaiting (rep ∷ reps [] ∷ alts [] ∷ default_path h ∷ []) (path_names a + n)) ≡ run y (awaiting (formula (with_list h (Some (path_value a))) ∷ []) 0)
    by true n = path_complete a (sign signs.Semicolon ∷ sign signs.CloseList ∷ y) (default_path h ∷ []) n refl (omega (arith, within.depth))
    by false n = path_complete a (sign signs.CloseList ∷ y) (default_path h ∷ []) n refl (omega (arith, within.depth))

all_front : (items : List ItemPhrase) (i : ItemPhrase) → AllByRecursion IsItemWithin (items ++ i ∷ []) → AllByRecursion IsItemWithin items × IsItemWithin i
all_front [] i a = (tt, a.0)
all_front (x ∷ items) i a = let r = all_front items i a.1 in ((a.0, r.0), r.1)

open_spelled : (a b y : List Lexeme) → ((a ++ b) ++ sign signs.CloseList ∷ []) ++ y ≡ a ++ (b ++ sign signs.CloseList ∷ y)
open_spelled a b y = simp append_assoc

default_spelled : (a b c y : List Lexeme) → ((a ++ word words.Default ∷ sign signs.Arrow ∷ b) ++ c) ++ y ≡ a ++ (word words.Default ∷ sign signs.Arrow ∷ (b ++ (c ++ y)))
default_spelled a b c y = simp append_assoc

pub reads_list : (l : ListPhrase) (ss : List WrittenSet) (y : List Lexeme) → IsListWithin l → run (spell_list l ++ y) (awaiting (sets ss ∷ []) 0) ≡ run y (awaiting (formula (list_value (record { sets = ss; items = [] }) l) ∷ []) 0)
reads_list (ended items) ss y within =
    let h : Head = record { sets = ss; items = [] } in
    ap (λ ts. run ts (awaiting (item h ∷ []) 0)) (append_assoc (semicolons items) (sign signs.CloseList ∷ []) y)
    ∙ reads_items items h (sign signs.CloseList ∷ y) within.items
reads_list (open_end items i) ss y within =
    let h : Head = record { sets = ss; items = [] } in
    let parts = all_front items i within.items in
    ap (λ ts. run ts (awaiting (item h ∷ []) 0)) (open_spelled (semicolons items) (spell_item i) y)
    ∙ reads_items items h (spell_item i ++ sign signs.CloseList ∷ y) parts.0
    ∙ reads_item i (with_items h (map item_value items)) false y parts.1
    ∙ ap (λ xs. run y (awaiting (formula (record { sets = ss; items = xs; default_path = None; terms = [] }) ∷ []) 0)) (sym (map_push item_value items i))
reads_list (with_default items a b) ss y within =
    let h : Head = record { sets = ss; items = [] } in
    ap (λ ts. run ts (awaiting (item h ∷ []) 0)) (default_spelled (semicolons items) (spell_path a) (spell_end b) y)
    ∙ reads_items items h (word words.Default ∷ sign signs.Arrow ∷ (spell_path a ++ (spell_end b ++ y))) within.items
    ∙ reads_default a (with_items h (map item_value items)) b y (within.default a refl)

-- What is read is written.

record ItemTaken (ts : List Lexeme) (h : Head) (w : WrittenPolicy) : Type 0 where
  phrase : ItemPhrase
  closes : Bool
  rest : List Lexeme
  is : ts ≡ spell_item phrase ++ sign (end_sign closes) ∷ rest
  within : IsItemWithin phrase
  goes : run rest (after_item closes (with_item h (item_value phrase))) ≡ Ok w

took_one : (id : NamePhrase) (ts : List Lexeme) (h : Head) (w : WrittenPolicy) → BodyTaken ts (heading_of h None id.text) w → ItemTaken (spell_name id ∷ ts) h w
took_one id ts h w b =
    let s : StatementPhrase = record { id = id; pred = b.pred; path = b.path; limits = b.limits } in
    record {
      phrase = one s;
      closes = b.closes;
      rest = b.rest;
      is = ap (λ xs. spell_name id ∷ xs) b.is ∙ sym (statement_spelled s (sign (end_sign b.closes) ∷ b.rest));
      within = record { pred = b.pred_within; path = b.path_within };
      goes = b.goes;
    }

took_outer : (ts : List Lexeme) (h : Head) (w : WrittenPolicy) → run ts (awaiting (outer_set h ∷ []) 0) ≡ Ok w → NameTaken ts (λ a. awaiting (this_sign signs.Comma ∷ inner_set h a ∷ []) 0) w
took_outer [] h w e = cc
took_outer (name a p ∷ ts) h w e = record { phrase = record { text = a; place = p }; rest = ts; is = refl; goes = e }
took_outer (_ ∷ ts) h w e = cc

took_inner : (ts : List Lexeme) (h : Head) (a : List ℕ) (w : WrittenPolicy) → run ts (awaiting (inner_set h a ∷ []) 0) ≡ Ok w → NameTaken ts (λ b. awaiting (this_sign signs.CloseGroup ∷ this_sign signs.Colon ∷ each_id h a b ∷ []) 0) w
took_inner [] h a w e = cc
took_inner (name b p ∷ ts) h a w e = record { phrase = record { text = b; place = p }; rest = ts; is = refl; goes = e }
took_inner (_ ∷ ts) h a w e = cc

took_id : (ts : List Lexeme) (h : Head) (a b : List ℕ) (w : WrittenPolicy) → run ts (awaiting (each_id h a b ∷ []) 0) ≡ Ok w → NameTaken ts (λ id. awaiting (this_sign signs.Colon ∷ literal ∷ lits [] ∷ conjs [] ∷ statement_pred (heading_of h (Some (a, b)) id) ∷ []) MAX_TESTS) w
took_id [] h a b w e = cc
took_id (name id p ∷ ts) h a b w e = record { phrase = record { text = id; place = p }; rest = ts; is = refl; goes = e }
took_id (_ ∷ ts) h a b w e = cc

-- the two names of a `foreach` and what stands before its sets
record NamesTaken (ts : List Lexeme) (h : Head) (w : WrittenPolicy) : Type 0 where
  first : NamePhrase
  second : NamePhrase
  rest : List Lexeme
  is : ts ≡ sign signs.OpenGroup ∷ spell_name first ∷ sign signs.Comma ∷ spell_name second ∷ sign signs.CloseGroup ∷ word words.In ∷ word words.Cross ∷ sign signs.OpenGroup ∷ rest
  goes : run rest (awaiting (outer_set h ∷ []) 0) ≡ Ok w

took_names : (ts : List Lexeme) (h : Head) (w : WrittenPolicy) → run ts (awaiting (this_sign signs.OpenGroup ∷ any_name ∷ this_sign signs.Comma ∷ any_name ∷ this_sign signs.CloseGroup ∷ this_word words.In ∷ this_word words.Cross ∷ this_sign signs.OpenGroup ∷ outer_set h ∷ []) 0) ≡ Ok w → NamesTaken ts h w
took_names ts h w e =
    let a = took_sign signs.OpenGroup ts (any_name ∷ this_sign signs.Comma ∷ any_name ∷ this_sign signs.CloseGroup ∷ this_word words.In ∷ this_word words.Cross ∷ this_sign signs.OpenGroup ∷ outer_set h ∷ []) 0 w e in
    let b = took_name a.rest (this_sign signs.Comma ∷ any_name ∷ this_sign signs.CloseGroup ∷ this_word words.In ∷ this_word words.Cross ∷ this_sign signs.OpenGroup ∷ outer_set h ∷ []) 0 w a.goes in
    let c = took_sign signs.Comma b.rest (any_name ∷ this_sign signs.CloseGroup ∷ this_word words.In ∷ this_word words.Cross ∷ this_sign signs.OpenGroup ∷ outer_set h ∷ []) 0 w b.goes in
    let d = took_name c.rest (this_sign signs.CloseGroup ∷ this_word words.In ∷ this_word words.Cross ∷ this_sign signs.OpenGroup ∷ outer_set h ∷ []) 0 w c.goes in
    let f = took_sign signs.CloseGroup d.rest (this_word words.In ∷ this_word words.Cross ∷ this_sign signs.OpenGroup ∷ outer_set h ∷ []) 0 w d.goes in
    let g = took_word words.In f.rest (this_word words.Cross ∷ this_sign signs.OpenGroup ∷ outer_set h ∷ []) 0 w f.goes in
    let i = took_word words.Cross g.rest (this_sign signs.OpenGroup ∷ outer_set h ∷ []) 0 w g.goes in
    let j = took_sign signs.OpenGroup i.rest (outer_set h ∷ []) 0 w i.goes in
    record {
      first = b.phrase;
      second = d.phrase;
      rest = j.rest;
      is = names_joined b.phrase d.phrase ts a.rest b.rest c.rest d.rest f.rest g.rest i.rest j.rest a.is b.is c.is d.is f.is g.is i.is j.is;
      goes = j.goes;
    }
  where
    names_joined : (first second : NamePhrase) (t a b c d f g i rest : List Lexeme) → t ≡ sign signs.OpenGroup ∷ a → a ≡ spell_name first ∷ b → b ≡ sign signs.Comma ∷ c → c ≡ spell_name second ∷ d → d ≡ sign signs.CloseGroup ∷ f → f ≡ word words.In ∷ g → g ≡ word words.Cross ∷ i → i ≡ sign signs.OpenGroup ∷ rest → t ≡ sign signs.OpenGroup ∷ spell_name first ∷ sign signs.Comma ∷ spell_name second ∷ sign signs.CloseGroup ∷ word words.In ∷ word words.Cross ∷ sign signs.OpenGroup ∷ rest
    names_joined first second t a b c d f g i rest p q r s u v x y = p ∙ ap (λ xs. sign signs.OpenGroup ∷ xs) (q ∙ ap (λ xs. spell_name first ∷ xs) (r ∙ ap (λ xs. sign signs.Comma ∷ xs) (s ∙ ap (λ xs. spell_name second ∷ xs) (u ∙ ap (λ xs. sign signs.CloseGroup ∷ xs) (v ∙ ap (λ xs. word words.In ∷ xs) (x ∙ ap (λ xs. word words.Cross ∷ xs) y))))))

-- the two sets of a `foreach`, and its statement
record PairTaken (ts : List Lexeme) (h : Head) (w : WrittenPolicy) : Type 0 where
  outer : NamePhrase
  inner : NamePhrase
  id : NamePhrase
  rest : List Lexeme
  is : ts ≡ spell_name outer ∷ sign signs.Comma ∷ spell_name inner ∷ sign signs.CloseGroup ∷ sign signs.Colon ∷ spell_name id ∷ rest
  goes : run rest (awaiting (this_sign signs.Colon ∷ literal ∷ lits [] ∷ conjs [] ∷ statement_pred (heading_of h (Some (outer.text, inner.text)) id.text) ∷ []) MAX_TESTS) ≡ Ok w

took_pair : (ts : List Lexeme) (h : Head) (w : WrittenPolicy) → run ts (awaiting (outer_set h ∷ []) 0) ≡ Ok w → PairTaken ts h w
took_pair ts h w e =
    let a = took_outer ts h w e in
    let b = took_sign signs.Comma a.rest (inner_set h a.phrase.text ∷ []) 0 w a.goes in
    let c = took_inner b.rest h a.phrase.text w b.goes in
    let d = took_sign signs.CloseGroup c.rest (this_sign signs.Colon ∷ each_id h a.phrase.text c.phrase.text ∷ []) 0 w c.goes in
    let f = took_sign signs.Colon d.rest (each_id h a.phrase.text c.phrase.text ∷ []) 0 w d.goes in
    let g = took_id f.rest h a.phrase.text c.phrase.text w f.goes in
    record {
      outer = a.phrase;
      inner = c.phrase;
      id = g.phrase;
      rest = g.rest;
      is = pair_joined a.phrase c.phrase g.phrase ts a.rest b.rest c.rest d.rest f.rest g.rest a.is b.is c.is d.is f.is g.is;
      goes = g.goes;
    }
  where
    pair_joined : (outer inner id : NamePhrase) (t a b c d f rest : List Lexeme) → t ≡ spell_name outer ∷ a → a ≡ sign signs.Comma ∷ b → b ≡ spell_name inner ∷ c → c ≡ sign signs.CloseGroup ∷ d → d ≡ sign signs.Colon ∷ f → f ≡ spell_name id ∷ rest → t ≡ spell_name outer ∷ sign signs.Comma ∷ spell_name inner ∷ sign signs.CloseGroup ∷ sign signs.Colon ∷ spell_name id ∷ rest
    pair_joined outer inner id t a b c d f rest p q r s u v = p ∙ ap (λ xs. spell_name outer ∷ xs) (q ∙ ap (λ xs. sign signs.Comma ∷ xs) (r ∙ ap (λ xs. spell_name inner ∷ xs) (s ∙ ap (λ xs. sign signs.CloseGroup ∷ xs) (u ∙ ap (λ xs. sign signs.Colon ∷ xs) v))))

took_each : (ts : List Lexeme) (h : Head) (w : WrittenPolicy) (n : NamesTaken ts h w) (p : PairTaken n.rest h w) → BodyTaken p.rest (heading_of h (Some (p.outer.text, p.inner.text)) p.id.text) w → ItemTaken (word words.Foreach ∷ ts) h w
took_each ts h w n p b =
    let s : StatementPhrase = record { id = p.id; pred = b.pred; path = b.path; limits = b.limits } in
    record {
      phrase = each n.first n.second p.outer p.inner s;
      closes = b.closes;
      rest = b.rest;
      is = ap (λ xs. word words.Foreach ∷ xs) (n.is
          ∙ ap (λ xs. sign signs.OpenGroup ∷ spell_name n.first ∷ sign signs.Comma ∷ spell_name n.second ∷ sign signs.CloseGroup ∷ word words.In ∷ word words.Cross ∷ sign signs.OpenGroup ∷ xs) (p.is
          ∙ ap (λ xs. spell_name p.outer ∷ sign signs.Comma ∷ spell_name p.inner ∷ sign signs.CloseGroup ∷ sign signs.Colon ∷ xs)
          (ap (λ xs. spell_name p.id ∷ xs) b.is ∙ sym (statement_spelled s (sign (end_sign b.closes) ∷ b.rest)))));
      within = record { pred = b.pred_within; path = b.path_within };
      goes = b.goes;
    }

took_foreach : (ts : List Lexeme) (h : Head) (w : WrittenPolicy) → run (word words.Foreach ∷ ts) (awaiting (item h ∷ []) 0) ≡ Ok w → ItemTaken (word words.Foreach ∷ ts) h w
took_foreach ts h w e =
    let n = took_names ts h w e in
    let p = took_pair n.rest h w n.goes in
    took_each ts h w n p (took_body p.rest (heading_of h (Some (p.outer.text, p.inner.text)) p.id.text) w p.goes)

-- the list after its bracket
abbrev pub spell_inside : ListPhrase → List Lexeme
spell_inside (ended items) = semicolons items ++ sign signs.CloseList ∷ []
spell_inside (open_end items i) = semicolons items ++ spell_item i ++ sign signs.CloseList ∷ []
spell_inside (with_default items path closed) = semicolons items ++ word words.Default ∷ sign signs.Arrow ∷ spell_path path ++ spell_end closed

pub inside : (l : ListPhrase) → sign signs.OpenList ∷ spell_inside l ≡ spell_list l
inside (ended items) = refl
inside (open_end items i) = refl
inside (with_default items path closed) = refl

pub record ListTaken (ts : List Lexeme) (h : Head) (w : WrittenPolicy) : Type 0 where
  pub phrase : ListPhrase
  pub rest : List Lexeme
  pub is : ts ≡ spell_inside phrase ++ rest
  pub within : IsListWithin phrase
  pub goes : run rest (awaiting (formula (list_value h phrase) ∷ []) 0) ≡ Ok w

-- one item more at the front
abbrev cons_item : ItemPhrase → ListPhrase → ListPhrase
cons_item i (ended items) = ended (i ∷ items)
cons_item i (open_end items j) = open_end (i ∷ items) j
cons_item i (with_default items path closed) = with_default (i ∷ items) path closed

cons-spell : (i : ItemPhrase) (l : ListPhrase) (y : List Lexeme) → spell_item i ++ (sign signs.Semicolon ∷ (spell_inside l ++ y)) ≡ spell_inside (cons_item i l) ++ y
cons-spell i (ended items) y = simp append_assoc
cons-spell i (open_end items j) y = simp append_assoc
cons-spell i (with_default items path closed) y = simp append_assoc

cons-within : (i : ItemPhrase) (l : ListPhrase) → IsItemWithin i → IsListWithin l → IsListWithin (cons_item i l)
cons-within i (ended items) a b = record { items = (a, b.items); default = b.default }
cons-within i (open_end items j) a b = record { items = (a, b.items); default = b.default }
cons-within i (with_default items path closed) a b = record { items = (a, b.items); default = b.default }

cons-value : (i : ItemPhrase) (l : ListPhrase) (h : Head) → list_value (with_item h (item_value i)) l ≡ list_value h (cons_item i l)
cons-value i (ended items) h = ap (λ g. with_list g None) (with_more h (item_value i) (map item_value items))
cons-value i (open_end items j) h = ap (λ g. with_list g None) (with_more h (item_value i) (map item_value (items ++ j ∷ [])))
cons-value i (with_default items path closed) h = ap (λ g. with_list g (Some (path_value path))) (with_more h (item_value i) (map item_value items))

cons_taken : (i : ItemPhrase) (ts : List Lexeme) (h : Head) (w : WrittenPolicy) (y : List Lexeme) → ts ≡ spell_item i ++ sign signs.Semicolon ∷ y → IsItemWithin i → ListTaken y (with_item h (item_value i)) w → ListTaken ts h w
cons_taken i ts h w y e within more = record {
  phrase = cons_item i more.phrase;
  rest = more.rest;
  is = e ∙ ap (λ xs. spell_item i ++ (sign signs.Semicolon ∷ xs)) more.is ∙ cons-spell i more.phrase more.rest;
  within = cons-within i more.phrase within more.within;
  goes = subst (λ v. run more.rest (awaiting (formula v ∷ []) 0) ≡ Ok w) (cons-value i more.phrase h) more.goes;
}

some_inj : {A : Type 0} {x y : A} → Some x ≡ Some y → x ≡ y
some_inj e = cc

none_some : {A : Type 0} {x : A} → (let o : Option A = None in o) ≡ Some x → ⊥
none_some e = cc

last_taken : (i : ItemPhrase) (ts : List Lexeme) (h : Head) (w : WrittenPolicy) (y : List Lexeme) → ts ≡ spell_item i ++ sign signs.CloseList ∷ y → IsItemWithin i → run y (awaiting (formula (with_list (with_item h (item_value i)) None) ∷ []) 0) ≡ Ok w → ListTaken ts h w
last_taken i ts h w y e within goes = record {
  phrase = open_end [] i;
  rest = y;
  is = e ∙ sym (append_assoc (spell_item i) (sign signs.CloseList ∷ []) y);
  within = record { items = (within, tt); default = λ path n. absurd (none_some n) };
  goes = goes;
}

record DefaultTaken (ts : List Lexeme) (h : Head) (w : WrittenPolicy) : Type 0 where
  path : Alts
  closed : Bool
  rest : List Lexeme
  is : ts ≡ sign signs.Arrow ∷ (spell_path path ++ (spell_end closed ++ rest))
  within : IsPathWithin path
  goes : run rest (awaiting (formula (with_list h (Some (path_value path))) ∷ []) 0) ≡ Ok w

record EndTaken (ts : List Lexeme) (h : Head) (p : RawPath) (w : WrittenPolicy) : Type 0 where
  closed : Bool
  rest : List Lexeme
  is : ts ≡ spell_end closed ++ rest
  goes : run rest (awaiting (formula (with_list h (Some p)) ∷ []) 0) ≡ Ok w

took_end : (ts : List Lexeme) (h : Head) (p : RawPath) (n : ℕ) (w : WrittenPolicy) → run ts (awaiting (whole_path p ∷ default_path h ∷ []) n) ≡ Ok w → EndTaken ts h p w
took_end [] h p n w e = cc
took_end (sign signs.CloseList ∷ ts) h p n w e = record { closed = false; rest = ts; is = refl; goes = e }
took_end (sign signs.Semicolon ∷ ts) h p n w e =
    let close = took_sign signs.CloseList ts (formula (with_list h (Some p)) ∷ []) 0 w e in
    record { closed = true; rest = close.rest; is = ap (λ xs. sign signs.Semicolon ∷ xs) close.is; goes = close.goes }
took_end (_ ∷ ts) h p n w e = cc

took_default : (ts : List Lexeme) (h : Head) (w : WrittenPolicy) → run ts (awaiting (this_sign signs.Arrow ∷ rep ∷ reps [] ∷ alts [] ∷ default_path h ∷ []) MAX_PATH_NAMES) ≡ Ok w → DefaultTaken ts h w
took_default ts h w e =
    let arrow = took_sign signs.Arrow ts (rep ∷ reps [] ∷ alts [] ∷ default_path h ∷ []) MAX_PATH_NAMES w e in
    let p = path_sound arrow.rest (default_path h ∷ []) MAX_PATH_NAMES w (omega arith) arrow.goes in
    let end = took_end p.rest h (path_value p.tree) p.spare w p.goes in
    record {
      path = p.tree;
      closed = end.closed;
      rest = end.rest;
      is = joined p.tree ts arrow.rest p.rest (spell_end end.closed ++ end.rest) arrow.is p.spelled end.is;
      within = record { depth = omega (arith, p.deep); names = omega (arith, p.names) };
      goes = end.goes;
    }
  where
    joined : (path : Alts) (t a b y : List Lexeme) → t ≡ sign signs.Arrow ∷ a → a ≡ spell_path path ++ b → b ≡ y → t ≡ sign signs.Arrow ∷ (spell_path path ++ y)
    joined path t a b y q r s = q ∙ ap (λ xs. sign signs.Arrow ∷ xs) (r ∙ ap (λ xs. spell_path path ++ xs) s)

default_taken : (ts : List Lexeme) (h : Head) (w : WrittenPolicy) → DefaultTaken ts h w → ListTaken (word words.Default ∷ ts) h w
default_taken ts h w d = record {
  phrase = with_default [] d.path d.closed;
  rest = d.rest;
  is = ap (λ xs. word words.Default ∷ xs) (d.is ∙ ap (λ xs. sign signs.Arrow ∷ xs) (sym (append_assoc (spell_path d.path) (spell_end d.closed) d.rest)));
  within = record { items = tt; default = λ path e. subst IsPathWithin (some_inj e) d.within };
  goes = subst (λ g. run d.rest (awaiting (formula (with_list g (Some (path_value d.path))) ∷ []) 0) ≡ Ok w) (sym (with_none h)) d.goes;
}

ended_taken : (ts : List Lexeme) (h : Head) (w : WrittenPolicy) → run ts (awaiting (formula (with_list h None) ∷ []) 0) ≡ Ok w → ListTaken (sign signs.CloseList ∷ ts) h w
ended_taken ts h w e = record {
  phrase = ended [];
  rest = ts;
  is = refl;
  within = record { items = tt; default = λ path n. absurd (none_some n) };
  goes = subst (λ g. run ts (awaiting (formula (with_list g None) ∷ []) 0) ≡ Ok w) (sym (with_none h)) e;
}

item_taken : (ts : List Lexeme) (h : Head) (w : WrittenPolicy) (i : ItemTaken ts h w) → (run i.rest (awaiting (item (with_item h (item_value i.phrase)) ∷ []) 0) ≡ Ok w → ListTaken i.rest (with_item h (item_value i.phrase)) w) → ListTaken ts h w
item_taken ts h w i more = by i.closes i.is i.goes
  where
    by : (c : Bool) → ts ≡ spell_item i.phrase ++ sign (end_sign c) ∷ i.rest → run i.rest (after_item c (with_item h (item_value i.phrase))) ≡ Ok w → ListTaken ts h w
    by true e goes = cons_taken i.phrase ts h w i.rest e i.within (more goes)
    by false e goes = last_taken i.phrase ts h w i.rest e i.within goes

shorter : (ts : List Lexeme) (h : Head) (w : WrittenPolicy) (i : ItemTaken ts h w) → suc (length i.rest) ≤ length ts
shorter ts h w i = omega (arith, ap length i.is, length-append (spell_item i.phrase) (sign (end_sign i.closes) ∷ i.rest))

pub took_list : (bound : ℕ) (ts : List Lexeme) (h : Head) (w : WrittenPolicy) → length ts ≤ bound → run ts (awaiting (item h ∷ []) 0) ≡ Ok w → ListTaken ts h w
took_list bound [] h w l e = cc
took_list zero (t ∷ ts) h w l e = absurd (omega arith)
took_list (suc bound) (name a p ∷ ts) h w l e =
    let id : NamePhrase = record { text = a; place = p } in
    let i = took_one id ts h w (took_body ts (heading_of h None a) w e) in
    item_taken (name a p ∷ ts) h w i (λ goes. took_list bound i.rest (with_item h (item_value i.phrase)) w (omega (arith, shorter (name a p ∷ ts) h w i)) goes)
took_list (suc bound) (word words.Foreach ∷ ts) h w l e =
    let i = took_foreach ts h w e in
    item_taken (word words.Foreach ∷ ts) h w i (λ goes. took_list bound i.rest (with_item h (item_value i.phrase)) w (omega (arith, shorter (word words.Foreach ∷ ts) h w i)) goes)
took_list (suc bound) (word words.Default ∷ ts) h w l e = default_taken ts h w (took_default ts h w e)
took_list (suc bound) (sign signs.CloseList ∷ ts) h w l e = ended_taken ts h w e
took_list (suc bound) (_ ∷ ts) h w l e = cc
