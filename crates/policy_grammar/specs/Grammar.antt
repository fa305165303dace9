-- The grammar of policies, a type of phrases for each production; which policy a text of lexemes stands for, and where it stops being one.
use Rattle.std.specs.Prelude.{ℕ, ◌≡◌, ◌≤◌, ◌<◌, suc, Bool, true, false, List, [], ◌∷◌, ◌++◌, Option, Some, None, map, length, take}
use Rattle.std.specs.List.{AllByRecursion}
use Rattle.merlin_model.specs.declared.policy.Bound.{Bound}
use Rattle.merlin_model.specs.declared.policy.Part.{Part}
use Rattle.merlin_model.specs.declared.policy.Part.TheVariants.{Id, Constant}
use Rattle.merlin_model.specs.declared.policy.Term.{Term}
use Rattle.merlin_text.specs.declared.token.Word.TheVariants as words
use Rattle.merlin_text.specs.declared.token.Sign.TheVariants as signs
use Rattle.policy_grammar.specs.declared.written.Literal.{Literal}
use Rattle.policy_grammar.specs.declared.written.Literal.TheVariants.{Mac, Ip}
use Rattle.policy_grammar.specs.declared.written.Limit.{Limit}
use Rattle.policy_grammar.specs.declared.written.RawPath.{RawPath}
use Rattle.policy_grammar.specs.declared.written.WrittenSet.{WrittenSet}
use Rattle.policy_grammar.specs.declared.written.WrittenStatement.{WrittenStatement}
use Rattle.policy_grammar.specs.declared.written.Item.{Item}
use Rattle.policy_grammar.specs.declared.written.Item.TheVariants.{One, ForEach}
use Rattle.policy_grammar.specs.declared.written.WrittenPolicy.{WrittenPolicy}
use Rattle.policy_grammar.specs.Lexemes.{Lexeme, IsSpelled, name, word, sign, rate, mac, ip, bound_word, separated}
use Rattle.policy_grammar.specs.Predicates.{Disj, spell_pred, pred_value, IsPredWithin}
use Rattle.policy_grammar.specs.PathTexts.{Alts, spell_path, path_value, IsPathWithin}

-- a name and the byte at which it starts
pub record NamePhrase : Type 0 where
  pub text : List ℕ
  pub place : ℕ

abbrev pub spell_name : NamePhrase → Lexeme
spell_name n = name n.text n.place

-- literal := Mac | Ip
abbrev pub spell_literal : Literal → List Lexeme
spell_literal (Mac n) = mac n ∷ []
spell_literal (Ip n) = ip n ∷ []

-- setdef := Name ':=' '{' ( literal ( ',' literal )* )? '}'
pub record SetPhrase : Type 0 where
  pub name : NamePhrase
  pub literals : List Literal

abbrev pub spell_set : SetPhrase → List Lexeme
spell_set s = spell_name s.name ∷ sign signs.Becomes ∷ sign signs.OpenSet ∷ separated (sign signs.Comma) spell_literal s.literals ++ sign signs.CloseSet ∷ []

abbrev pub spell_sets : List SetPhrase → List Lexeme
spell_sets [] = []
spell_sets (s ∷ ss) = spell_set s ++ spell_sets ss

-- lim := ( 'max' | 'min' ) '(' Rate ')'
abbrev pub spell_limit : Limit → List Lexeme
spell_limit l = word (bound_word l.bound) ∷ sign signs.OpenGroup ∷ rate l.rate ∷ sign signs.CloseGroup ∷ []

-- ( 'at' lim ( 'and' lim )* )?
abbrev pub spell_limits : List Limit → List Lexeme
spell_limits [] = []
spell_limits (l ∷ ls) = word words.At ∷ separated (word words.And) spell_limit (l ∷ ls)

-- stmt := Name ':' pred '->' path ( 'at' lim ( 'and' lim )* )?
pub record StatementPhrase : Type 0 where
  pub id : NamePhrase
  pub pred : Disj
  pub path : Alts
  pub limits : List Limit

abbrev pub spell_statement : StatementPhrase → List Lexeme
spell_statement s = spell_name s.id ∷ sign signs.Colon ∷ spell_pred s.pred ++ sign signs.Arrow ∷ spell_path s.path ++ spell_limits s.limits

-- item := stmt | each; the default stands apart
-- each := 'foreach' '(' Name ',' Name ')' 'in' 'cross' '(' Name ',' Name ')' ':' stmt
pub data ItemPhrase : Type 0 where
  one : StatementPhrase → ItemPhrase
  each : (first second outer inner : NamePhrase) → StatementPhrase → ItemPhrase

abbrev pub spell_item : ItemPhrase → List Lexeme
spell_item (one s) = spell_statement s
spell_item (each first second outer inner s) =
    word words.Foreach ∷ sign signs.OpenGroup ∷ spell_name first ∷ sign signs.Comma ∷ spell_name second ∷ sign signs.CloseGroup
    ∷ word words.In ∷ word words.Cross ∷ sign signs.OpenGroup ∷ spell_name outer ∷ sign signs.Comma ∷ spell_name inner ∷ sign signs.CloseGroup
    ∷ sign signs.Colon ∷ spell_statement s

-- '[' ( item ( ';' item )* ';'? )? ']' with the default last: items with a `;` after each, and then nothing, an item, or the
-- default with a `;` after it or without
pub data ListPhrase : Type 0 where
  ended : List ItemPhrase → ListPhrase
  open_end : List ItemPhrase → ItemPhrase → ListPhrase
  with_default : List ItemPhrase → Alts → (closed : Bool) → ListPhrase

abbrev pub semicolons : List ItemPhrase → List Lexeme
semicolons [] = []
semicolons (i ∷ items) = spell_item i ++ sign signs.Semicolon ∷ semicolons items

abbrev pub spell_end : Bool → List Lexeme
spell_end true = sign signs.Semicolon ∷ sign signs.CloseList ∷ []
spell_end false = sign signs.CloseList ∷ []

abbrev pub spell_list : ListPhrase → List Lexeme
spell_list (ended items) = sign signs.OpenList ∷ semicolons items ++ sign signs.CloseList ∷ []
spell_list (open_end items i) = sign signs.OpenList ∷ semicolons items ++ spell_item i ++ sign signs.CloseList ∷ []
spell_list (with_default items path closed) =
    sign signs.OpenList ∷ semicolons items ++ word words.Default ∷ sign signs.Arrow ∷ spell_path path ++ spell_end closed

-- sum := ( Rate '+' )* Name ( '+' ( Name | Rate ) )*
pub data Summand : Type 0 where
  id : NamePhrase → Summand
  constant : ℕ → Summand

-- term := ( 'max' | 'min' ) '(' sum ',' Rate ')': the rates before the first name, that name, what is added to it, and the bound
pub record TermPhrase : Type 0 where
  pub bound : Bound
  pub leading : List ℕ
  pub first : NamePhrase
  pub added : List Summand
  pub rate : ℕ

abbrev pub spell_leading : List ℕ → List Lexeme
spell_leading [] = []
spell_leading (n ∷ ns) = rate n ∷ sign signs.Plus ∷ spell_leading ns

abbrev pub spell_summand : Summand → Lexeme
spell_summand (id n) = spell_name n
spell_summand (constant n) = rate n

abbrev pub spell_added : List Summand → List Lexeme
spell_added [] = []
spell_added (s ∷ rest) = sign signs.Plus ∷ spell_summand s ∷ spell_added rest

abbrev pub spell_term : TermPhrase → List Lexeme
spell_term t = word (bound_word t.bound) ∷ sign signs.OpenGroup ∷ spell_leading t.leading ++ spell_name t.first ∷ spell_added t.added
    ++ sign signs.Comma ∷ rate t.rate ∷ sign signs.CloseGroup ∷ []

-- ( ',' term ( 'and' term )* )?
abbrev pub spell_terms : List TermPhrase → List Lexeme
spell_terms [] = []
spell_terms (t ∷ ts) = sign signs.Comma ∷ separated (word words.And) spell_term (t ∷ ts)

-- policy := setdef* '[' .. ']' ( ',' term ( 'and' term )* )?
pub record PolicyPhrase : Type 0 where
  pub sets : List SetPhrase
  pub list : ListPhrase
  pub terms : List TermPhrase

abbrev pub spell_policy : PolicyPhrase → List Lexeme
spell_policy p = spell_sets p.sets ++ spell_list p.list ++ spell_terms p.terms

-- What the phrases stand for.

abbrev pub set_value : SetPhrase → WrittenSet
set_value s = record { name = s.name.text; literals = s.literals }

abbrev pub statement_value : StatementPhrase → WrittenStatement
statement_value s = record { id = s.id.text; pred = pred_value s.pred; path = path_value s.path; limits = s.limits }

abbrev pub item_value : ItemPhrase → Item
item_value (one s) = One (statement_value s)
item_value (each _ _ outer inner s) = ForEach outer.text inner.text (statement_value s)

abbrev pub items_of : ListPhrase → List ItemPhrase
items_of (ended items) = items
items_of (open_end items i) = items ++ i ∷ []
items_of (with_default items _ _) = items

abbrev pub default_phrase : ListPhrase → Option Alts
default_phrase (ended _) = None
default_phrase (open_end _ _) = None
default_phrase (with_default _ path _) = Some path

abbrev pub summand_value : Summand → Part
summand_value (id n) = Id n.text
summand_value (constant n) = Constant n

abbrev pub term_value : TermPhrase → Term
term_value t = record { bound = t.bound; parts = map Constant t.leading ++ Id t.first.text ∷ map summand_value t.added; rate = t.rate }

abbrev pub default_value : Option Alts → Option RawPath
default_value None = None
default_value (Some path) = Some (path_value path)

abbrev pub policy_value : PolicyPhrase → WrittenPolicy
policy_value p = record {
  sets = map set_value p.sets;
  items = map item_value (items_of p.list);
  default_path = default_value (default_phrase p.list);
  terms = map term_value p.terms;
}

-- The limits: 128 open brackets and bangs, 4,096 tests in a predicate, 2,048 names and dots in a path.

pub record IsStatementWithin (s : StatementPhrase) : Type 0 where
  pub pred : IsPredWithin s.pred
  pub path : IsPathWithin s.path

abbrev pub IsItemWithin : ItemPhrase → Type 0
IsItemWithin (one s) = IsStatementWithin s
IsItemWithin (each _ _ _ _ s) = IsStatementWithin s

pub record IsListWithin (l : ListPhrase) : Type 0 where
  pub items : AllByRecursion IsItemWithin (items_of l)
  pub default : (path : Alts) → default_phrase l ≡ Some path → IsPathWithin path

-- The lexemes stand for the policy.
pub record StandsFor (lexemes : List Lexeme) (policy : WrittenPolicy) : Type 0 where
  pub phrase : PolicyPhrase
  pub spelled : spell_policy phrase ≡ lexemes
  pub is : policy_value phrase ≡ policy
  pub within : IsListWithin phrase.list

-- The lexemes begin some policy: with some more, which texts can have, they are one.
pub record BeginsPolicy (lexemes : List Lexeme) : Type 0 where
  pub more : List Lexeme
  pub spelled : AllByRecursion IsSpelled more
  pub policy : WrittenPolicy
  pub stands : StandsFor (lexemes ++ more) policy

-- No policy goes on at that lexeme: those before it begin one, with it, or with the end, they begin none.
pub record IsFaultAt (lexemes : List Lexeme) (at : ℕ) : Type 0 where
  pub within : at ≤ length lexemes
  pub before : BeginsPolicy (take at lexemes)
  pub token : at < length lexemes → ¬ BeginsPolicy (take (suc at) lexemes)
  pub end : at ≡ length lexemes → (policy : WrittenPolicy) → ¬ StandsFor lexemes policy
