-- What is left of a text is cut into tokens in one way, and loses one piece after another.
use Rattle.std.proofs.Common.{◌≡◌, ◌+◌, ◌-◌, ◌<◌, ◌≤◌, ◌++◌, ℕ, List, [], ◌∷◌, length, take, drop, get_or, refl, arith, sym, ◌∙◌, ap, subst, append-nil, length-append, length-drop}
use Rattle.std.specs.Prelude.{Option, Some, None}
use mathlib.Core.Logic.{∥∥₁_elim, ∥∥₁_map}
use Rattle.std.proofs.lemmas.List.{take-append-drop, drop-drop, length-take-le, take_rest}
use Rattle.std.proofs.Math.Seq.{drop-append_seam}
use Rattle.merlin_text.specs.declared.token.Kind.{Kind}
use Rattle.merlin_text.specs.declared.token.Token.{Token}
use Rattle.merlin_text.specs.Tokens.{Piece, text_of, ArePieces, token_at, tokens_of, IsCut, AreTokens, BeginsNoPiece, StopsAt}
use Rattle.merlin_text.specs.Rest.{IsCutFrom, AreRest, Rest, tokens_are_a_set}
use Rattle.merlin_text.specs.Fronts.{IsFront}
use Rattle.merlin_text.proofs.OnePiece.{one_piece, piece_some}
use Rattle.merlin_text.proofs.Cuts.{pieces_once, scan_more, scan_within, cut_done, stop_here}
use Rattle.merlin_text.proofs.Fronts.{none_at_end}

cut_from_once : (text : List ℕ) (at : ℕ) (ts us : List Token) → IsCutFrom text at ts → IsCutFrom text at us → ts ≡ us
cut_from_once text at ts us p q =
    let whole : text_of p.pieces ++ [] ≡ text_of q.pieces ++ [] = append-nil (text_of p.pieces) ∙ sym p.whole ∙ q.whole ∙ sym (append-nil (text_of q.pieces)) in
    sym p.lexemes ∙ ap (tokens_of at) (pieces_once p.pieces q.pieces [] [] p.lawful q.lawful none_at_end none_at_end whole).0 ∙ q.lexemes

are_rest : (text : List ℕ) (at : ℕ) (ts : List Token) → ∥ IsCutFrom text at ts ∥₁ → AreRest text at ts
are_rest text at ts t = (t, λ others q. ∥∥₁_elim t (tokens_are_a_set others ts) (λ p. cut_from_once text at others ts q p))

-- from one place on there is one rest
pub one_rest : (text : List ℕ) (at : ℕ) (ts us : List Token) → AreRest text at ts → AreRest text at us → ts ≡ us
one_rest text at ts us a b = ∥∥₁_elim a.0 (tokens_are_a_set ts us) (λ p. b.1 ts p)

-- a text that is cut to its end, from its start on
from_start : (text : List ℕ) (ts : List Token) → AreTokens text ts → IsCutFrom text 0 ts
from_start text ts c = record { pieces = c.pieces; within = omega arith; whole = c.whole ∙ append-nil (text_of c.pieces); lawful = c.lawful; lexemes = c.lexemes }

pub rest_at_start : (text : List ℕ) (ts : List Token) → AreTokens text ts → AreRest text 0 ts
rest_at_start text ts c = are_rest text 0 ts ∣ from_start text ts c ∣₁

-- what is left after the piece at the front
record Later (text : List ℕ) (at n : ℕ) (kind : Option Kind) (ts : List Token) : Type 0 where
  others : List Token
  split : ts ≡ token_at kind at (at + n) ++ others
  cut : IsCutFrom text (at + n) others

later_pieces : (text : List ℕ) (at n : ℕ) (kind : Option Kind) (ts : List Token) (ps : List Piece) → at ≤ length text → drop at text ≡ text_of ps → ArePieces ps [] → tokens_of at ps ≡ ts
    → IsFront (drop at text) n kind → Later text at n kind ts
later_pieces text at n kind ts [] within whole lawful lexemes f = absurd (omega (arith, f.some, f.within, ap length whole))
later_pieces text at n kind ts ((k, w) ∷ ps) within whole lawful lexemes f =
    let both : take n (drop at text) ++ drop n (drop at text) ≡ w ++ (text_of ps ++ []) =
    take-append-drop n (drop at text) ∙ whole ∙ ap (λ (t : List ℕ). w ++ t) (sym (append-nil (text_of ps))) in
    let one = one_piece kind k (take n (drop at text)) (drop n (drop at text)) w (text_of ps ++ []) f.piece lawful.0 both in
    let count : n ≡ length w = sym (length-take-le n (drop at text) f.within) ∙ ap length one.0 in
    record {
      others = tokens_of (at + n) ps;
      split = sym lexemes ∙ ap (λ (m : ℕ). token_at k at (at + m) ++ tokens_of (at + m) ps) (sym count) ∙ ap (λ (j : Option Kind). token_at j at (at + n) ++ tokens_of (at + n) ps) (sym one.1);
      cut = record {
        pieces = ps;
        within = scan_within text at n kind within f;
        whole = sym (drop-drop n at text) ∙ ap (λ (m : ℕ). drop m (drop at text)) count ∙ ap (drop (length w)) whole ∙ drop-append_seam w (text_of ps);
        lawful = lawful.1;
        lexemes = refl;
      };
    }

later : (text : List ℕ) (at n : ℕ) (kind : Option Kind) (ts : List Token) → IsCutFrom text at ts → IsFront (drop at text) n kind → Later text at n kind ts
later text at n kind ts c f = later_pieces text at n kind ts c.pieces c.within c.whole c.lawful c.lexemes f

-- The text from a place on, as code slices it, begins with this piece.
abbrev Stands : List ℕ → ℕ → ℕ → Option Kind → Type 0
Stands text at n kind = IsFront (take (length text - at) (drop at text)) n kind

stands : (text : List ℕ) (at n : ℕ) (kind other : Option Kind) → Stands text at n kind → kind ≡ other → IsFront (drop at text) n other
stands text at n kind other f e = subst (IsFront (drop at text) n) e (subst (λ (t : List ℕ). IsFront t n kind) (take_rest text at) f)

-- a gap has no token
pub after_gap : (text : List ℕ) (at n : ℕ) (kind : Option Kind) (ts : List Token) → ∥ IsCutFrom text at ts ∥₁ → Stands text at n kind → kind ≡ None → ∥ IsCutFrom text (at + n) ts ∥₁
after_gap text at n kind ts t f e = ∥∥₁_map t (λ c. let l = later text at n None ts c (stands text at n kind None f e) in subst (IsCutFrom text (at + n)) (sym l.split) l.cut)

abbrev here : Kind → ℕ → ℕ → Token
here kind start end = record { kind = kind; span = record { start = start; end = end } }

pub first_token : (text : List ℕ) (at n : ℕ) (kind : Option Kind) (k : Kind) (ts : List Token) → ∥ IsCutFrom text at ts ∥₁ → Stands text at n kind → kind ≡ Some k → ts ≡ here k at (at + n) ∷ drop 1 ts
first_token text at n kind k ts t f e = ∥∥₁_elim t (tokens_are_a_set ts (here k at (at + n) ∷ drop 1 ts)) (λ c.
    let l = later text at n (Some k) ts c (stands text at n kind (Some k) f e) in
    l.split ∙ ap (λ (us : List Token). here k at (at + n) ∷ us) (sym (ap (drop 1) l.split)))

pub after_token : (text : List ℕ) (at n : ℕ) (kind : Option Kind) (k : Kind) (ts : List Token) → ∥ IsCutFrom text at ts ∥₁ → Stands text at n kind → kind ≡ Some k → AreRest text (at + n) (drop 1 ts)
after_token text at n kind k ts t f e = are_rest text (at + n) (drop 1 ts) (∥∥₁_map t (λ c.
    let l = later text at n (Some k) ts c (stands text at n kind (Some k) f e) in
    subst (IsCutFrom text (at + n)) (sym (ap (drop 1) l.split)) l.cut))

-- whatever the tokens after it are called
pub first_before : (text : List ℕ) (at n : ℕ) (kind : Option Kind) (k : Kind) (ts others : List Token) → AreRest text (at + n) others → ∥ IsCutFrom text at ts ∥₁ → Stands text at n kind → kind ≡ Some k → ts ≡ here k at (at + n) ∷ others
first_before text at n kind k ts others are t f e = ∥∥₁_elim t (tokens_are_a_set ts (here k at (at + n) ∷ others)) (λ c.
    let l = later text at n (Some k) ts c (stands text at n kind (Some k) f e) in
    l.split ∙ ap (λ (us : List Token). here k at (at + n) ∷ us) (are.1 l.others l.cut))

-- the tokens that are left after the first are one less
pub one_less : (ts : List Token) (t : Token) (left : ℕ) → left ≡ length ts → ts ≡ t ∷ drop 1 ts → (1 ≤ left) × (left - 1 ≡ length (drop 1 ts))
one_less ts t left counted e = (omega (arith, counted, ap length e), omega (arith, counted, ap length e))

no_front : (text : List ℕ) (at : ℕ) (ts : List Token) (ps : List Piece) → drop at text ≡ text_of ps → ArePieces ps [] → at < length text → BeginsNoPiece (drop at text) → ⊥
no_front text at ts [] whole lawful within none = omega (arith, ap length whole, length-drop at text)
no_front text at ts ((k, w) ∷ ps) whole lawful within none = none k w (text_of ps ++ []) (whole ∙ ap (λ (t : List ℕ). w ++ t) (sym (append-nil (text_of ps)))) lawful.0

-- before the end a piece begins
pub some_front : (text : List ℕ) (at : ℕ) (ts : List Token) → ∥ IsCutFrom text at ts ∥₁ → at < length text → BeginsNoPiece (take (length text - at) (drop at text)) → ⊥
some_front text at ts t within none = ∥∥₁_elim t (λ x y. absurd x) (λ c. no_front text at ts c.pieces c.whole c.lawful within (subst BeginsNoPiece (take_rest text at) none))

no_pieces : (text : List ℕ) (at : ℕ) (ps : List Piece) → drop at text ≡ text_of ps → ArePieces ps [] → length text ≤ at → tokens_of at ps ≡ []
no_pieces text at [] whole lawful past = refl
no_pieces text at ((k, w) ∷ ps) whole lawful past = absurd (omega (arith, piece_some k w (text_of ps ++ []) lawful.0, ap length whole, length-drop at text, length-append w (text_of ps)))

-- at the end no token is left
pub none_left : (text : List ℕ) (at : ℕ) (ts : List Token) → ∥ IsCutFrom text at ts ∥₁ → length text ≤ at → ts ≡ []
none_left text at ts t past = ∥∥₁_elim t (tokens_are_a_set ts []) (λ c. sym c.lexemes ∙ no_pieces text at c.pieces c.whole c.lawful past)

-- What was scanned of a text: it is cut up to this place, and so many tokens were found.
pub record Scanned (text : List ℕ) (at found : ℕ) : Type 0 where
  pub tokens : List Token
  pub within : at ≤ length text
  pub cut : IsCut text (drop at text) tokens
  pub counted : found ≡ length tokens
  pub bounded : found ≤ at

pub nothing_scanned : (text : List ℕ) → Scanned text 0 0
nothing_scanned text = record { tokens = []; within = omega arith; cut = record { pieces = []; whole = refl; lawful = tt; lexemes = refl }; counted = refl; bounded = omega arith }

count_more : (found at n : ℕ) (kind : Option Kind) (ts : List Token) → found ≡ length ts → found + length (token_at kind 0 0) ≡ length (ts ++ token_at kind at (at + n))
count_more found at n None ts e = omega (arith, e, ap length (append-nil ts))
count_more found at n (Some k) ts e = omega (arith, e, length-append ts (token_at (Some k) at (at + n)))

bound_more : (found at n : ℕ) (kind : Option Kind) → found ≤ at → 0 < n → found + length (token_at kind 0 0) ≤ at + n
bound_more found at n None le some = omega arith
bound_more found at n (Some k) le some = omega arith

-- one more piece is scanned
pub more_scanned : (text : List ℕ) (at found n count : ℕ) (kind : Option Kind) → Scanned text at found → Stands text at n kind → count ≡ length (token_at kind 0 0) → Scanned text (at + n) (found + count)
more_scanned text at found n count kind s f e =
    let front = stands text at n kind kind f refl in
    record {
      tokens = s.tokens ++ token_at kind at (at + n);
      within = scan_within text at n kind s.within front;
      cut = scan_more text s.tokens at n kind s.within s.cut front;
      counted = ap (λ (m : ℕ). found + m) e ∙ count_more found at n kind s.tokens s.counted;
      bounded = subst (λ (m : ℕ). found + m ≤ at + n) (sym e) (bound_more found at n kind s.bounded f.some);
    }

-- at the end all is scanned
pub all_scanned : (text : List ℕ) (at found : ℕ) → length text ≤ at → Scanned text at found → (r : Rest text 0) × (found ≡ length r.0)
all_scanned text at found past s = ((s.tokens, rest_at_start text s.tokens (cut_done text s.tokens at past s.cut)), s.counted)

-- what is left at the start are the tokens of the text
pub rest_is_all : (text : List ℕ) (at found : ℕ) (ts : List Token) → AreRest text 0 ts → length text ≤ at → Scanned text at found → AreTokens text ts
rest_is_all text at found ts are past s =
    let cut : AreTokens text s.tokens = cut_done text s.tokens at past s.cut in
    subst (AreTokens text) (are.1 s.tokens (from_start text s.tokens cut)) cut

-- the place where no piece begins
pub scan_stops : (text : List ℕ) (at found : ℕ) → at < length text → Scanned text at found → BeginsNoPiece (take (length text - at) (drop at text)) → StopsAt text at (get_or text at 0)
scan_stops text at found within s none = stop_here text s.tokens at within s.cut (subst BeginsNoPiece (take_rest text at) none)
