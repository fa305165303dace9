-- Where `[ ], ` and some text stand for a policy, this is a formula alone, of terms with ids that are names: what `print_formula` asks for.
use Rattle.std.proofs.Common.{◌≡◌, ◌≢◌, inl, inr, ℕ, List, [], ◌∷◌, ◌++◌, map, length, Option, Some, None, refl, sym, ap, ◌∙◌, subst, append-nil, length-append, arith}
use Rattle.std.specs.Prelude.{Result, Ok, codes}
use Rattle.std.specs.List.{AllByRecursion}
use Rattle.std.proofs.lemmas.List.{append_cancel_left}
use Rattle.merlin_model.specs.declared.policy.Part.{Part}
use Rattle.merlin_model.specs.declared.policy.Part.TheVariants.{Id, Constant}
use Rattle.merlin_model.specs.declared.policy.Term.{Term}
use Rattle.merlin_text.specs.declared.token.Kind.{Kind}
use Rattle.merlin_text.specs.declared.token.Kind.TheVariants as kinds
use Rattle.merlin_text.specs.declared.token.Sign.TheVariants as signs
use Rattle.merlin_text.specs.declared.token.Word.TheVariants as words
use Rattle.merlin_text.specs.Tokens.{Piece, IsPiece, ArePieces, text_of as text_of_pieces}
use Rattle.merlin_text.proofs.OnePiece.{one_piece, piece_some}
use Rattle.policy_grammar.specs.declared.written.WrittenPolicy.{WrittenPolicy}
use Rattle.merlin_text.specs.Lexemes.{Lexeme, word, sign, rate, lexemes, lexemes_in}
use Rattle.policy_grammar.specs.Grammar.{SetPhrase, one, each, ListPhrase, ended, open_end, with_default, Summand, id, constant, TermPhrase, spell_name, spell_sets, spell_list, spell_leading, spell_added, spell_term, spell_terms, summand_value, term_value, policy_value}
use Rattle.rate_formula.specs.FormulaLexemes.{IsWritablePart, IsWritableTerm, IsWritable}
use Rattle.policy_expansion.specs.declared.policy.Policy.{Policy}
use Rattle.policy_expansion.specs.Expansion.{expansion}
use Rattle.policy_parser.specs.Policies.{IsPolicyText, HasId, formula_alone}
use Rattle.policy_parser.proofs.Spelled.{all_spelled}
use Rattle.policy_parser.proofs.Formed.{AreSpelled, left, right, each_phrase, rate_few, term_formed}
use Rattle.policy_parser.proofs.PrintedFormula.{all_placed, sign_piece, blank_piece, other_byte}

-- the first three lexemes
after_piece : (kind : Option Kind) (w r : List ℕ) (ps : List Piece) → IsPiece kind w r → ArePieces ps [] → text_of_pieces ps ≡ w ++ r
    → (others : List Piece) × (ps ≡ (kind, w) ∷ others) × ArePieces others [] × (text_of_pieces others ≡ r)
after_piece kind w r [] p lawful e = absurd (omega (arith, piece_some kind w r p, ap length e, length-append w r))
after_piece kind w r ((j, v) ∷ ps) p lawful e =
    let whole : w ++ r ≡ v ++ (text_of_pieces ps ++ []) = sym e ∙ ap (λ (t : List ℕ). v ++ t) (sym (append-nil (text_of_pieces ps))) in
    let first = one_piece kind j w r v (text_of_pieces ps ++ []) p lawful.0 whole in
    let texts : w ≡ v = first.0 in
    let kinds : kind ≡ j = first.1 in
    let same : (j, v) ≡ (kind, w) = cc in
    (ps, ap (λ (q : Piece). q ∷ ps) same, lawful.1, append_cancel_left v (text_of_pieces ps) r (e ∙ ap (λ (t : List ℕ). t ++ r) texts))

-- a list without an item, and a comma
alone_list : (l : ListPhrase) (ts : List TermPhrase) (ys : List Lexeme) → spell_list l ++ spell_terms ts ≡ sign signs.OpenList ∷ sign signs.CloseList ∷ sign signs.Comma ∷ ys → (l ≡ ended []) × (t : TermPhrase) × (us : List TermPhrase) × (ts ≡ t ∷ us)
alone_list (ended []) [] ys e = cc
alone_list (ended []) (t ∷ ts) ys e = (refl, t, ts, refl)
alone_list (ended (one s ∷ items)) ts ys e = cc
alone_list (ended (each a b c d s ∷ items)) ts ys e = cc
alone_list (open_end [] (one s)) ts ys e = cc
alone_list (open_end [] (each a b c d s)) ts ys e = cc
alone_list (open_end (one s ∷ items) i) ts ys e = cc
alone_list (open_end (each a b c d s ∷ items) i) ts ys e = cc
alone_list (with_default [] path closed) ts ys e = cc
alone_list (with_default (one s ∷ items) path closed) ts ys e = cc
alone_list (with_default (each a b c d s ∷ items) path closed) ts ys e = cc

abbrev AreAlone : List SetPhrase → ListPhrase → List TermPhrase → Type 0
AreAlone sets l ts = (sets ≡ []) × (l ≡ ended []) × (t : TermPhrase) × (us : List TermPhrase) × (ts ≡ t ∷ us)

alone_phrase : (sets : List SetPhrase) (l : ListPhrase) (ts : List TermPhrase) (ys : List Lexeme) → (spell_sets sets ++ spell_list l) ++ spell_terms ts ≡ sign signs.OpenList ∷ sign signs.CloseList ∷ sign signs.Comma ∷ ys → AreAlone sets l ts
alone_phrase [] l ts ys e = let a = alone_list l ts ys e in (refl, a.0, a.1, a.2, a.3)
alone_phrase (s ∷ sets) l ts ys e = cc

-- Terms that are spelled can be written.

leading_written : (ns : List ℕ) (parts : List Part) → AreSpelled (spell_leading ns) → AllByRecursion IsWritablePart parts → AllByRecursion IsWritablePart (map Constant ns ++ parts)
leading_written [] parts h rest = rest
leading_written (n ∷ ns) parts h rest = (rate_few n h.0, leading_written ns parts h.1.1 rest)

added_written : (more : List Summand) → AreSpelled (spell_added more) → AllByRecursion IsWritablePart (map summand_value more)
added_written [] h = tt
added_written (id n ∷ more) h = (h.1.0, added_written more h.1.1)
added_written (constant n ∷ more) h = (rate_few n h.1.0, added_written more h.1.1)

term_written : (t : TermPhrase) → AreSpelled (spell_term t) → IsWritableTerm (term_value t)
term_written t h =
    let end = sign signs.Comma ∷ rate t.rate ∷ sign signs.CloseGroup ∷ [] in
    let sum = left (spell_leading t.leading ++ spell_name t.first ∷ spell_added t.added) end h.1.1 in
    let bound = right (spell_leading t.leading ++ spell_name t.first ∷ spell_added t.added) end h.1.1 in
    let added = right (spell_leading t.leading) (spell_name t.first ∷ spell_added t.added) sum in
    (leading_written t.leading (Id t.first.text ∷ map summand_value t.added) (left (spell_leading t.leading) (spell_name t.first ∷ spell_added t.added) sum) (added.0, added_written t.added added.1), rate_few t.rate bound.1.0)

terms_written : (ts : List TermPhrase) → AreSpelled (spell_terms ts) → IsWritable (map term_value ts) × AllByRecursion HasId (map term_value ts)
terms_written [] h = (tt, tt)
terms_written (t ∷ ts) h =
    mapped (t ∷ ts) (each_phrase (λ t. IsWritableTerm (term_value t) × HasId (term_value t)) (word words.And) spell_term (λ t k. (term_written t k, (term_formed t k).0)) (t ∷ ts) h.1)
  where
    mapped : (xs : List TermPhrase) → AllByRecursion (λ t. IsWritableTerm (term_value t) × HasId (term_value t)) xs → IsWritable (map term_value xs) × AllByRecursion HasId (map term_value xs)
    mapped [] p = (tt, tt)
    mapped (x ∷ xs) p = let more = mapped xs p.1 in ((p.0.0, more.0), (p.0.1, more.1))

-- a formula alone, with terms that can be written
pub record IsFormulaAlone (policy : Policy) : Type 0 where
  pub terms : List Term
  pub is : policy ≡ formula_alone terms
  pub some : terms ≢ []
  pub writable : IsWritable terms
  pub ids : AllByRecursion HasId terms

ok_inj : {A B : Type 0} {x y : A} → (let r : Result A B = Ok x in r) ≡ Ok y → x ≡ y
ok_inj e = cc

by_phrase : (sets : List SetPhrase) (l : ListPhrase) (ts : List TermPhrase) (w : WrittenPolicy) (policy : Policy) → AreAlone sets l ts → policy_value (record { sets = sets; list = l; terms = ts }) ≡ w → expansion w ≡ Ok policy
    → AreSpelled (spell_terms ts) → IsFormulaAlone policy
by_phrase sets l ts w policy (no_sets, no_item, t, us, terms) value e spelled =
    let own : policy_value (record { sets = []; list = ended []; terms = t ∷ us }) ≡ w = cc in
    let whole : expansion (policy_value (record { sets = []; list = ended []; terms = t ∷ us })) ≡ Ok policy = ap expansion own ∙ e in
    let kept = terms_written (t ∷ us) (subst (λ xs. AreSpelled (spell_terms xs)) terms spelled) in
    record { terms = map term_value (t ∷ us); is = sym (ok_inj whole); some = λ q. cc; writable = kept.0; ids = kept.1 }

first_three : (text : List ℕ) (pieces : List Piece) → ArePieces pieces [] → text_of_pieces pieces ≡ codes "[ ], " ++ text → (ys : List Lexeme) × (lexemes_in 0 pieces ≡ sign signs.OpenList ∷ sign signs.CloseList ∷ sign signs.Comma ∷ ys)
first_three text pieces lawful e =
    let a = after_piece (Some (kinds.Sign signs.OpenList)) (codes "[") (codes " ], " ++ text) pieces (sign_piece signs.OpenList 91 _ (other_byte 91 (inl refl)) (λ e. omega arith) refl) lawful e in
    let b = after_piece None (codes " ") (codes "], " ++ text) a.0 (blank_piece _) a.2 a.3 in
    let c = after_piece (Some (kinds.Sign signs.CloseList)) (codes "]") (codes ", " ++ text) b.0 (sign_piece signs.CloseList 93 _ (other_byte 93 (inr (inl refl))) (λ e. omega arith) refl) b.2 b.3 in
    let d = after_piece (Some (kinds.Sign signs.Comma)) (codes ",") (codes " " ++ text) c.0 (sign_piece signs.Comma 44 _ (other_byte 44 (inr (inr (inl refl)))) (λ e. omega arith) refl) c.2 c.3 in (
      lexemes_in 4 d.0,
      ap (lexemes_in 0) a.1
          ∙ ap (λ ps. sign signs.OpenList ∷ lexemes_in 1 ps) b.1
          ∙ ap (λ ps. sign signs.OpenList ∷ lexemes_in 2 ps) c.1
          ∙ ap (λ ps. sign signs.OpenList ∷ sign signs.CloseList ∷ lexemes_in 3 ps) d.1,
    )

pub alone : (text : List ℕ) (policy : Policy) → IsPolicyText (codes "[ ], " ++ text) policy → IsFormulaAlone policy
alone text policy p =
    let bytes = codes "[ ], " ++ text in
    let cut = p.text_of.cut in
    let phrase = p.text_of.stands.phrase in
    let whole : bytes ≡ text_of_pieces cut.pieces = cut.whole ∙ append-nil (text_of_pieces cut.pieces) in
    let three = first_three text cut.pieces cut.lawful (sym whole) in
    let are : lexemes bytes p.text_of.tokens ≡ lexemes_in 0 cut.pieces = ap (lexemes bytes) (sym cut.lexemes) ∙ all_placed bytes [] cut.pieces whole in
    let spelled = subst AreSpelled (sym p.text_of.stands.spelled) (all_spelled bytes p.text_of.tokens cut) in
    by_phrase phrase.sets phrase.list phrase.terms p.written policy
    (alone_phrase phrase.sets phrase.list phrase.terms three.0 (p.text_of.stands.spelled ∙ are ∙ three.1))
    p.text_of.stands.is p.expanded
    (right (spell_sets phrase.sets ++ spell_list phrase.list) (spell_terms phrase.terms) spelled)
