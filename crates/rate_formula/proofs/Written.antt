-- The pieces of a printed formula.
use Rattle.std.proofs.Common.{◌≡◌, ◌≢◌, ◌<◌, ◌≤◌, ◌⊎◌, inl, inr, ℕ, None, Some, List, [], ◌∷◌, ◌++◌, length, flat_map, codes, refl, sym, ap, ◌∙◌, subst, arith, lit<, lit≤, append_assoc}
use Rattle.std.specs.List.{AllByRecursion, join_by}
use Rattle.std.specs.Fmt.{decimal}
use Rattle.std.proofs.lemmas.List.{append-nil}
use Rattle.std.proofs.lemmas.Grind.{flat_map-append}
use Rattle.std.proofs.lemmas.List.Elements.{All-from_recursion, recursion_from_All}
use Rattle.merlin_base.specs.Lexemes.{IsLetter, IsDigit, IsNameByte, IsDecimal, IsName, IsRate, IsMac}
use Rattle.merlin_base.proofs.Decimals.{is_decimal}
use Rattle.merlin_model.specs.declared.policy.Bound.{Bound}
use Rattle.merlin_model.specs.declared.policy.Bound.TheVariants.{Max, Min}
use Rattle.merlin_model.specs.declared.policy.Part.{Part}
use Rattle.merlin_model.specs.declared.policy.Part.TheVariants.{Id, Constant}
use Rattle.merlin_model.specs.declared.policy.Term.{Term}
use Rattle.merlin_text.specs.declared.token.Kind.TheVariants as kinds
use Rattle.merlin_text.specs.declared.token.Word.{Word}
use Rattle.merlin_text.specs.declared.token.Word.TheVariants as words
use Rattle.merlin_text.specs.declared.token.Sign.{Sign}
use Rattle.merlin_text.specs.declared.token.Sign.TheVariants as signs
use Rattle.merlin_text.specs.Tokens.{spelling, written, IsRunByte, EndsBefore, IsRun, BeginsNoMac, IsLexeme, Sort, gap, verbal, numeral, mac, sign as signed, sort_of, IsExtent, GivesWay, Piece, text_of, ArePieces}
use Rattle.rate_formula.specs.FormulaText.{rate_text, part_text, bound_text, term_text, formula_text}
use Rattle.rate_formula.specs.FormulaLexemes.{IsWritablePart, IsWritableTerm, IsWritable, part_lexeme, term_lexemes, formula_lexemes, lexemes_of, HasLexemes}
use Rattle.merlin_text.specs.Lexemes.{lexeme_at, bound_word, word as word_lexeme, sign as sign_lexeme}

-- The pieces: lexemes, with a blank on each side of `+` and `and` and after a comma.

abbrev pub word : Word → Piece
word w = (Some (kinds.Word w), spelling w)

abbrev pub sign : Sign → Piece
sign s = (Some (kinds.Sign s), written s)

abbrev pub rate_piece : ℕ → Piece
rate_piece rate = (Some (kinds.Rate rate), rate_text rate)

abbrev pub part_piece : Part → Piece
part_piece (Id id) = (Some kinds.Name, id)
part_piece (Constant rate) = rate_piece rate

abbrev pub blank : Piece
blank = (None, 32 ∷ [])

abbrev pub plus_between : List Piece
plus_between = blank ∷ sign signs.Plus ∷ blank ∷ []

abbrev pub and_between : List Piece
and_between = blank ∷ word words.And ∷ blank ∷ []

abbrev pub part_pieces : Part → List Piece
part_pieces part = part_piece part ∷ []

abbrev pub term_end : ℕ → List Piece
term_end rate = sign signs.Comma ∷ blank ∷ rate_piece rate ∷ sign signs.CloseGroup ∷ []

abbrev pub term_pieces : Term → List Piece
term_pieces term = word (bound_word term.bound) ∷ sign signs.OpenGroup ∷ join_by part_pieces plus_between term.parts ++ term_end term.rate

abbrev pub formula_pieces : List Term → List Piece
formula_pieces terms = join_by term_pieces and_between terms

-- What respects `++` respects joining.
join_by-map : {X A B : Type 0} (m : List A → List B) → m [] ≡ [] → ((xs ys : List A) → m (xs ++ ys) ≡ m xs ++ m ys) → (f : X → List A) (g : X → List B) (between : List A) → ((x : X) → m (f x) ≡ g x) → (xs : List X) → m (join_by f between xs) ≡ join_by g (m between) xs
join_by-map m nil append f g between same [] = nil
join_by-map {X} {A} {B} m nil append f g between same (x ∷ xs) = append (f x) _ ∙ ap (λ ys. ys ++ m (flat_map (λ y. between ++ f y) xs)) (same x) ∙ ap (λ ys. g x ++ ys) (rest xs)
  where
    rest : (xs : List X) → m (flat_map (λ y. between ++ f y) xs) ≡ flat_map (λ y. m between ++ g y) xs
    rest [] = nil
    rest (y ∷ ys) = append (between ++ f y) _ ∙ ap (λ zs. zs ++ m (flat_map (λ y. between ++ f y) ys)) (append between (f y) ∙ ap (λ zs. m between ++ zs) (same y)) ∙ ap (λ zs. (m between ++ g y) ++ zs) (rest ys)

text_of-append : (ps qs : List Piece) → text_of (ps ++ qs) ≡ text_of ps ++ text_of qs
text_of-append [] qs = refl
text_of-append (p ∷ ps) qs = ap (λ text. p.1 ++ text) (text_of-append ps qs) ∙ sym (append_assoc p.1 (text_of ps) (text_of qs))

part_pieces-text : (part : Part) → text_of (part_pieces part) ≡ part_text part
part_pieces-text (Id id) = append-nil id
part_pieces-text (Constant rate) = append-nil (rate_text rate)

bound_pieces-text : (bound : Bound) (rest : List ℕ) → spelling (bound_word bound) ++ 40 ∷ rest ≡ bound_text bound ++ rest
bound_pieces-text Max rest = refl
bound_pieces-text Min rest = refl

term_pieces-text : (term : Term) → text_of (term_pieces term) ≡ term_text term
term_pieces-text term =
    let sum : text_of (join_by part_pieces plus_between term.parts) ≡ join_by part_text (codes " + ") term.parts = join_by-map text_of refl text_of-append part_pieces part_text plus_between part_pieces-text term.parts in
    let regrouped : term_text term ≡ bound_text term.bound ++ (join_by part_text (codes " + ") term.parts ++ text_of (term_end term.rate)) = simp append_assoc in
    bound_pieces-text term.bound (text_of (join_by part_pieces plus_between term.parts ++ term_end term.rate))
    ∙ ap (λ text. bound_text term.bound ++ text) (text_of-append (join_by part_pieces plus_between term.parts) (term_end term.rate) ∙ ap (λ text. text ++ text_of (term_end term.rate)) sum)
    ∙ sym regrouped

pub formula_pieces-text : (terms : List Term) → text_of (formula_pieces terms) ≡ formula_text terms
formula_pieces-text terms = join_by-map text_of refl text_of-append term_pieces term_text and_between term_pieces-text terms

lexemes_of-append : (ps qs : List Piece) → lexemes_of (ps ++ qs) ≡ lexemes_of ps ++ lexemes_of qs
lexemes_of-append ps qs = flat_map-append (λ p. lexeme_at p.0 p.1 0) ps qs

part_pieces-lexemes : (part : Part) → lexemes_of (part_pieces part) ≡ part_lexeme part ∷ []
part_pieces-lexemes (Id id) = refl
part_pieces-lexemes (Constant rate) = refl

term_pieces-lexemes : (term : Term) → lexemes_of (term_pieces term) ≡ term_lexemes term
term_pieces-lexemes term =
    ap (λ ls. word_lexeme (bound_word term.bound) ∷ sign_lexeme signs.OpenGroup ∷ ls)
    (lexemes_of-append (join_by part_pieces plus_between term.parts) (term_end term.rate)
    ∙ ap (λ ls. ls ++ lexemes_of (term_end term.rate)) (join_by-map lexemes_of refl lexemes_of-append part_pieces (λ part. part_lexeme part ∷ []) plus_between part_pieces-lexemes term.parts))

formula_pieces-lexemes : (terms : List Term) → lexemes_of (formula_pieces terms) ≡ formula_lexemes terms
formula_pieces-lexemes terms = join_by-map lexemes_of refl lexemes_of-append term_pieces term_lexemes and_between term_pieces-lexemes terms

-- Where no colon stands, no Mac begins.

abbrev NoColon : List ℕ → Type 0
NoColon text = AllByRecursion (λ c. c ≢ 58) text

NoColon-append : (xs ys : List ℕ) → NoColon xs → NoColon ys → NoColon (xs ++ ys)
NoColon-append [] ys h k = k
NoColon-append (x ∷ xs) ys h k = (h.0, NoColon-append xs ys h.1 k)

NoColon-front : (xs ys : List ℕ) → NoColon (xs ++ ys) → NoColon xs
NoColon-front [] ys h = tt
NoColon-front (x ∷ xs) ys h = (h.0, NoColon-front xs ys h.1)

NoColon-back : (xs ys : List ℕ) → NoColon (xs ++ ys) → NoColon ys
NoColon-back [] ys h = h
NoColon-back (x ∷ xs) ys h = NoColon-back xs ys h.1

mac_has_colon : (text : List ℕ) (n : ℕ) → IsMac text n → NoColon text → ⊥
mac_has_colon text n ([], six, joined, value) free = joined
mac_has_colon text n (a ∷ [], six, joined, value) free = absurd (omega arith)
mac_has_colon text n (a ∷ b ∷ ns, six, (rest, (first, pair, split), joined), value) free = let after : NoColon (58 ∷ rest) = NoColon-back first (58 ∷ rest) (subst NoColon split free) in after.0 refl

no_mac : (text : List ℕ) → NoColon text → BeginsNoMac text
no_mac text free mac' rest n split at = mac_has_colon mac' n at.is (NoColon-front mac' rest (subst NoColon split free))

gives_way : (s : Sort) (text : List ℕ) → BeginsNoMac text → GivesWay s text
gives_way gap text free = free
gives_way verbal text free = free
gives_way numeral text free = free
gives_way mac text free = tt
gives_way signed text free = free

-- What each piece owes, without Macs.

abbrev AreLocal : List Piece → List ℕ → Type 0
AreLocal [] rest = Unit {0}
AreLocal (p ∷ ps) rest = IsLexeme p.0 p.1 × IsExtent (sort_of p.0) p.1 (text_of ps ++ rest) × NoColon p.1 × AreLocal ps rest

lawful : (ps : List Piece) (rest : List ℕ) → NoColon rest → AreLocal ps rest → ArePieces ps rest × NoColon (text_of ps ++ rest)
lawful [] rest free h = (tt, free)
lawful (p ∷ ps) rest free (lexeme, goes, own, more) =
    let later = lawful ps rest free more in
    let whole : NoColon (p.1 ++ (text_of ps ++ rest)) = NoColon-append p.1 (text_of ps ++ rest) own later.1 in (
      (record { lexeme = lexeme; goes_to = goes; mac_first = gives_way (sort_of p.0) (p.1 ++ (text_of ps ++ rest)) (no_mac (p.1 ++ (text_of ps ++ rest)) whole) }, later.0),
      subst NoColon (sym (append_assoc p.1 (text_of ps) rest)) whole,
    )

AreLocal-append : (ps qs : List Piece) (rest : List ℕ) → AreLocal ps (text_of qs ++ rest) → AreLocal qs rest → AreLocal (ps ++ qs) rest
AreLocal-append [] qs rest h k = k
AreLocal-append (p ∷ ps) qs rest (lexeme, goes, own, more) k =
    (lexeme, subst (λ text. IsExtent (sort_of p.0) p.1 text) (sym (ap (λ text. text ++ rest) (text_of-append ps qs) ∙ append_assoc (text_of ps) (text_of qs) rest)) goes, own, AreLocal-append ps qs rest more k)

-- A byte below `.` ends a name and a number.

abbrev Stops : List ℕ → Type 0
Stops rest = EndsBefore (λ c. IsNameByte c ⊎ IsRunByte c) rest

low_stops : (c : ℕ) → c < 46 → IsNameByte c ⊎ IsRunByte c → ⊥
low_stops c low h = grind arith

stops_name : (rest : List ℕ) → Stops rest → EndsBefore IsNameByte rest
stops_name [] h = tt
stops_name (c ∷ rest) h = λ k. h (inl k)

stops_run : (rest : List ℕ) → Stops rest → EndsBefore IsRunByte rest
stops_run [] h = tt
stops_run (c ∷ rest) h = λ k. h (inr k)

-- Words, names and rates.

name_byte_no_colon : (c : ℕ) → IsNameByte c → c ≢ 58
name_byte_no_colon c h = λ same. grind arith

letters_run : (text rest : List ℕ) → 0 < length text → AllByRecursion IsLetter text → Stops rest → IsRun IsLetter IsNameByte text rest × NoColon text
letters_run [] rest some letters stops = absurd (omega arith)
letters_run (c ∷ cs) rest some letters stops =
    (record { first = letters.0; each = All-from_recursion IsNameByte (c ∷ cs) (names (c ∷ cs) letters); longest = stops_name rest stops }, colons (c ∷ cs) letters)
  where
    names : (ds : List ℕ) → AllByRecursion IsLetter ds → AllByRecursion IsNameByte ds
    names [] h = tt
    names (d ∷ ds) h = (inl h.0, names ds h.1)

    colons : (ds : List ℕ) → AllByRecursion IsLetter ds → NoColon ds
    colons [] h = tt
    colons (d ∷ ds) h = (λ same. name_byte_no_colon d (inl h.0) same, colons ds h.1)

small : (c : ℕ) → 97 ≤ c → c ≤ 122 → IsLetter c
small c low high = inr (inl (low, high))

and_word : AllByRecursion IsLetter (spelling words.And)
and_word = (small 97 (lit≤ tt) (lit≤ tt), (small 110 (lit≤ tt) (lit≤ tt), (small 100 (lit≤ tt) (lit≤ tt), tt)))

bound_letters : (bound : Bound) → AllByRecursion IsLetter (spelling (bound_word bound))
bound_letters Max = (small 109 (lit≤ tt) (lit≤ tt), (small 97 (lit≤ tt) (lit≤ tt), (small 120 (lit≤ tt) (lit≤ tt), tt)))
bound_letters Min = (small 109 (lit≤ tt) (lit≤ tt), (small 105 (lit≤ tt) (lit≤ tt), (small 110 (lit≤ tt) (lit≤ tt), tt)))

bound_some : (bound : Bound) → 0 < length (spelling (bound_word bound))
bound_some Max = lit< tt
bound_some Min = lit< tt

name_run : (text rest : List ℕ) → IsName text → Stops rest → IsRun IsLetter IsNameByte text rest × NoColon text
name_run [] rest is stops = absurd is.identifier
name_run (c ∷ cs) rest is stops =
    let each : AllByRecursion IsNameByte (c ∷ cs) = (inl is.identifier.0, recursion_from_All IsNameByte cs is.identifier.1) in
    (record { first = is.identifier.0; each = All-from_recursion IsNameByte (c ∷ cs) each; longest = stops_name rest stops }, colons (c ∷ cs) each)
  where
    colons : (ds : List ℕ) → AllByRecursion IsNameByte ds → NoColon ds
    colons [] h = tt
    colons (d ∷ ds) h = (name_byte_no_colon d h.0, colons ds h.1)

decimal_text : (n : ℕ) → n ≤ 1000000000 → IsDecimal (decimal n) n
decimal_text n h = is_decimal n (omega arith)

is_rate : (rate : ℕ) → rate ≤ 1000000000 → IsRate (rate_text rate) rate
is_rate rate h = record { number = decimal rate; unit = codes "kbps"; n = rate; factor = 1; whole = refl; decimal = decimal_text rate h; known = refl; value = omega arith; few = h }

unit : (c : ℕ) → 97 ≤ c → c ≤ 122 → IsRunByte c
unit c low high = inl (small c low high, λ e. omega arith)

digits_run : (digits rest : List ℕ) → 0 < length digits → AllByRecursion IsDigit digits → Stops rest → IsRun IsDigit IsRunByte (digits ++ codes "kbps") rest × NoColon (digits ++ codes "kbps")
digits_run [] rest some digits stops = absurd (omega arith)
digits_run (c ∷ cs) rest some digits stops =
    (record { first = digits.0; each = All-from_recursion IsRunByte ((c ∷ cs) ++ codes "kbps") (runs (c ∷ cs) digits); longest = stops_run rest stops }, colons (c ∷ cs) digits)
  where
    runs : (ds : List ℕ) → AllByRecursion IsDigit ds → AllByRecursion IsRunByte (ds ++ codes "kbps")
    runs [] h = (unit 107 (lit≤ tt) (lit≤ tt), (unit 98 (lit≤ tt) (lit≤ tt), (unit 112 (lit≤ tt) (lit≤ tt), (unit 115 (lit≤ tt) (lit≤ tt), tt))))
    runs (d ∷ ds) h = (inr (inl h.0), runs ds h.1)

    colons : (ds : List ℕ) → AllByRecursion IsDigit ds → NoColon (ds ++ codes "kbps")
    colons [] h = ((λ e. omega arith), ((λ e. omega arith), ((λ e. omega arith), ((λ e. omega arith), tt))))
    colons (d ∷ ds) h = (name_byte_no_colon d (inr h.0), colons ds h.1)

rate_run : (rate : ℕ) (rest : List ℕ) → rate ≤ 1000000000 → Stops rest → IsRun IsDigit IsRunByte (rate_text rate) rest × NoColon (rate_text rate)
rate_run rate rest h stops = let text = decimal_text rate h in digits_run (decimal rate) rest text.some (recursion_from_All IsDigit (decimal rate) text.digits) stops

-- Signs of one byte.
one_byte : {X : Type 0} (c : ℕ) → c ≢ 58 → c ∷ [] ≡ 58 ∷ [] → X
one_byte c other e = let same : c ≡ 58 = cc in absurd (other same)

-- Sums, terms and formulas.

part_local : (part : Part) (rest : List ℕ) → IsWritablePart part → Stops rest → IsLexeme (part_piece part).0 (part_piece part).1 × IsExtent (sort_of (part_piece part).0) (part_piece part).1 rest × NoColon (part_piece part).1
part_local (Id id) rest is stops = let run = name_run id rest is stops in (is, run.0, run.1)
part_local (Constant rate) rest is stops = let run = rate_run rate rest is stops in (is_rate rate is, run.0, run.1)

abbrev later_parts : List Part → List Piece
later_parts parts = flat_map (λ part. plus_between ++ part_pieces part) parts

later_stops : (parts : List Part) (rest : List ℕ) → Stops rest → Stops (text_of (later_parts parts) ++ rest)
later_stops [] rest stops = stops
later_stops (part ∷ parts) rest stops = low_stops 32 (lit< tt)

blank_no_colon : NoColon (32 ∷ [])
blank_no_colon = ((λ e. omega arith), tt)

later_local : (parts : List Part) (rest : List ℕ) → AllByRecursion IsWritablePart parts → Stops rest → AreLocal (later_parts parts) rest
later_local [] rest h stops = tt
later_local (part ∷ parts) rest h stops =
    let p = part_local part (text_of (later_parts parts) ++ rest) h.0 (later_stops parts rest stops) in (
      tt,
      inl (32, refl, inl refl),
      blank_no_colon,
      (
        refl,
        one_byte 43 (λ e. omega arith),
        ((λ e. omega arith), tt),
        (
          tt,
          inl (32, refl, inl refl),
          blank_no_colon,
          (p.0, p.1, p.2, later_local parts rest h.1 stops),
        ),
      ),
    )

sum_local : (parts : List Part) (rest : List ℕ) → AllByRecursion IsWritablePart parts → Stops rest → AreLocal (join_by part_pieces plus_between parts) rest
sum_local [] rest h stops = tt
sum_local (part ∷ parts) rest h stops =
    let p = part_local part (text_of (later_parts parts) ++ rest) h.0 (later_stops parts rest stops) in
    (p.0, p.1, p.2, later_local parts rest h.1 stops)

end_local : (rate : ℕ) (rest : List ℕ) → rate ≤ 1000000000 → AreLocal (term_end rate) rest
end_local rate rest h =
    let run = rate_run rate (41 ∷ rest) h (low_stops 41 (lit< tt)) in (
      refl,
      one_byte 44 (λ e. omega arith),
      ((λ e. omega arith), tt),
      (
        tt,
        inl (32, refl, inl refl),
        blank_no_colon,
        (
          is_rate rate h,
          run.0,
          run.1,
          (refl, one_byte 41 (λ e. omega arith), ((λ e. omega arith), tt), tt),
        ),
      ),
    )

term_local : (term : Term) (rest : List ℕ) → IsWritableTerm term → AreLocal (term_pieces term) rest
term_local term rest h =
    let run = letters_run (spelling (bound_word term.bound)) (40 ∷ (text_of (join_by part_pieces plus_between term.parts ++ term_end term.rate) ++ rest)) (bound_some term.bound) (bound_letters term.bound) (low_stops 40 (lit< tt)) in (
      refl,
      run.0,
      run.1,
      (
        refl,
        one_byte 40 (λ e. omega arith),
        ((λ e. omega arith), tt),
        AreLocal-append (join_by part_pieces plus_between term.parts) (term_end term.rate) rest (sum_local term.parts (text_of (term_end term.rate) ++ rest) h.0 (low_stops 44 (lit< tt))) (end_local term.rate rest h.1),
      ),
    )

abbrev later_terms : List Term → List Piece
later_terms terms = flat_map (λ term. and_between ++ term_pieces term) terms

later_terms_local : (terms : List Term) (rest : List ℕ) → IsWritable terms → AreLocal (later_terms terms) rest
later_terms_local [] rest h = tt
later_terms_local (term ∷ terms) rest h =
    let run = letters_run (spelling words.And) (32 ∷ (text_of (term_pieces term ++ later_terms terms) ++ rest)) (lit< tt) and_word (low_stops 32 (lit< tt)) in (
      tt,
      inl (32, refl, inl refl),
      blank_no_colon,
      (
        refl,
        run.0,
        run.1,
        (
          tt,
          inl (32, refl, inl refl),
          blank_no_colon,
          AreLocal-append (term_pieces term) (later_terms terms) rest (term_local term (text_of (later_terms terms) ++ rest) h.0) (later_terms_local terms rest h.1),
        ),
      ),
    )

formula_local : (terms : List Term) (rest : List ℕ) → IsWritable terms → AreLocal (formula_pieces terms) rest
formula_local [] rest h = tt
formula_local (term ∷ terms) rest h = AreLocal-append (term_pieces term) (later_terms terms) rest (term_local term (text_of (later_terms terms) ++ rest) h.0) (later_terms_local terms rest h.1)

-- the printed text is cut into these pieces
pub formula_is_cut : (terms : List Term) → IsWritable terms → ArePieces (formula_pieces terms) []
formula_is_cut terms h = (lawful (formula_pieces terms) [] tt (formula_local terms [] h)).0

pub formula_has_lexemes : (terms : List Term) → IsWritable terms → HasLexemes (formula_text terms) (formula_lexemes terms)
formula_has_lexemes terms h = record {
  pieces = formula_pieces terms;
  whole = sym (formula_pieces-text terms);
  lawful = formula_is_cut terms h;
  are = formula_pieces-lexemes terms;
}
