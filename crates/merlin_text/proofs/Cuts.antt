-- A text is cut into pieces in one way.
use Rattle.std.proofs.Common.{◌≡◌, ◌+◌, ◌-◌, ◌<◌, ◌≤◌, ◌++◌, ℕ, List, [], ◌∷◌, length, take, drop, refl, arith, sym, ◌∙◌, ap, subst, append_assoc, append-nil, length-append}
use Rattle.std.specs.Prelude.{Option, Some, None, slice_range, ◌⊎◌}
use Rattle.std.proofs.Common.{inl, inr}
use Rattle.merlin_base.specs.Lexemes.{IsDigit}
use Rattle.std.proofs.lemmas.List.{append_cancel_left, take-append-drop, drop-drop, length-take-le, drop_more, drop_all}
use Rattle.std.proofs.Common.{get_or, length-drop}
use Rattle.merlin_text.specs.Fronts.{IsFront}
use Rattle.std.proofs.Math.Seq.{take-append_seam, drop-append_seam}
use Rattle.merlin_text.specs.declared.token.Kind.{Kind}
use Rattle.merlin_text.specs.declared.token.Token.{Token}
use Rattle.merlin_text.specs.declared.token.TokenFault.{TokenFault}
use Rattle.merlin_text.specs.declared.token.TokenFault.TheVariants as faults
use Rattle.merlin_text.specs.Tokens.{Piece, text_of, ArePieces, token_at, tokens_of, IsCut, AreTokens, BeginsNoPiece, IsPiece, StopsAt, IsTokenFault, AreSlices, IsLexeme}
use Rattle.merlin_text.proofs.OnePiece.{one_piece, piece_some}
use Rattle.merlin_text.proofs.Fronts.{none_at_end}

pub pieces_once : (ps qs : List Piece) (r s : List ℕ) → ArePieces ps r → ArePieces qs s → BeginsNoPiece r → BeginsNoPiece s → text_of ps ++ r ≡ text_of qs ++ s → (ps ≡ qs) × (r ≡ s)
pieces_once [] [] r s p q none none' e = (refl, e)
pieces_once [] ((k, w) ∷ qs) r s p q none none' e = absurd (none k w (text_of qs ++ s) (e ∙ append_assoc w (text_of qs) s) q.0)
pieces_once ((j, v) ∷ ps) [] r s p q none none' e = absurd (none' j v (text_of ps ++ r) (sym e ∙ append_assoc v (text_of ps) r) p.0)
pieces_once ((j, v) ∷ ps) ((k, w) ∷ qs) r s p q none none' e =
    let all : v ++ (text_of ps ++ r) ≡ w ++ (text_of qs ++ s) = sym (append_assoc v (text_of ps) r) ∙ e ∙ append_assoc w (text_of qs) s in
    let one = one_piece j k v (text_of ps ++ r) w (text_of qs ++ s) p.0 q.0 all in
    let texts : v ≡ w = one.0 in
    let kinds : j ≡ k = one.1 in
    let others = pieces_once ps qs r s p.1 q.1 none none' (append_cancel_left w (text_of ps ++ r) (text_of qs ++ s) (ap (λ (t : List ℕ). t ++ (text_of ps ++ r)) (sym texts) ∙ all)) in
    let rest : ps ≡ qs = others.0 in
    (cc, others.1)

pub cut_once : (text r s : List ℕ) (ts us : List Token) → IsCut text r ts → IsCut text s us → BeginsNoPiece r → BeginsNoPiece s → (ts ≡ us) × (r ≡ s)
cut_once text r s ts us p q none none' =
    let one = pieces_once p.pieces q.pieces r s p.lawful q.lawful none none' (sym p.whole ∙ q.whole) in
    (sym p.lexemes ∙ ap (tokens_of 0) one.0 ∙ q.lexemes, one.1)

text_of-push : (ps : List Piece) (p : Piece) → text_of (ps ++ p ∷ []) ≡ text_of ps ++ p.1
text_of-push [] p = append-nil p.1
text_of-push (q ∷ ps) p = ap (λ (t : List ℕ). q.1 ++ t) (text_of-push ps p) ∙ sym (append_assoc q.1 (text_of ps) p.1)

ArePieces-push : (ps : List Piece) (kind : Option Kind) (piece rest : List ℕ) → ArePieces ps (piece ++ rest) → IsPiece kind piece rest → ArePieces (ps ++ (kind, piece) ∷ []) rest
ArePieces-push [] kind piece rest ps p = (p, tt)
ArePieces-push ((j, v) ∷ qs) kind piece rest ps p = (
  subst (IsPiece j v) (sym (ap (λ (t : List ℕ). t ++ rest) (text_of-push qs (kind, piece)) ∙ append_assoc (text_of qs) piece rest)) ps.0,
  ArePieces-push qs kind piece rest ps.1 p,
)

at_none : (at : ℕ) → at + 0 ≡ at
at_none at = omega arith

at_more : (at : ℕ) (v w : List ℕ) → at + length v + length w ≡ at + length (v ++ w)
at_more at v w = omega (arith, length-append v w)

tokens_of-push : (at : ℕ) (ps : List Piece) (kind : Option Kind) (piece : List ℕ)
    → tokens_of at (ps ++ (kind, piece) ∷ []) ≡ tokens_of at ps ++ token_at kind (at + length (text_of ps)) (at + length (text_of ps) + length piece)
tokens_of-push at [] kind piece = append-nil (token_at kind at (at + length piece)) ∙ sym (ap (λ (n : ℕ). token_at kind n (n + length piece)) (at_none at))
tokens_of-push at ((j, v) ∷ ps) kind piece =
    ap (λ (ts : List Token). token_at j at (at + length v) ++ ts) (tokens_of-push (at + length v) ps kind piece)
    ∙ sym (append_assoc (token_at j at (at + length v)) (tokens_of (at + length v) ps) _)
    ∙ ap (λ (n : ℕ). (token_at j at (at + length v) ++ tokens_of (at + length v) ps) ++ token_at kind n (n + length piece)) (at_more at v (text_of ps))

-- one more piece is cut off the rest
pub cut_more : (text rest more : List ℕ) (ts : List Token) (at : ℕ) (kind : Option Kind) (piece : List ℕ)
    → IsCut text rest ts → at + length rest ≡ length text → rest ≡ piece ++ more → IsPiece kind piece more → IsCut text more (ts ++ token_at kind at (at + length piece))
cut_more text rest more ts at kind piece c place split p =
    let begun : 0 + length (text_of c.pieces) ≡ at = omega (arith, ap length c.whole, length-append (text_of c.pieces) rest) in
    record {
      pieces = c.pieces ++ (kind, piece) ∷ [];
      whole = c.whole ∙ ap (λ (t : List ℕ). text_of c.pieces ++ t) split ∙ sym (append_assoc (text_of c.pieces) piece more) ∙ ap (λ (t : List ℕ). t ++ more) (sym (text_of-push c.pieces (kind, piece)));
      lawful = ArePieces-push c.pieces kind piece more (subst (ArePieces c.pieces) split c.lawful) p;
      lexemes = tokens_of-push 0 c.pieces kind piece
          ∙ ap (λ (ts : List Token). ts ++ token_at kind (0 + length (text_of c.pieces)) (0 + length (text_of c.pieces) + length piece)) c.lexemes
          ∙ ap (λ (n : ℕ). ts ++ token_at kind n (n + length piece)) begun;
    }

-- a piece and the slices after it
slice_of : (text front : List ℕ) (from : ℕ) (kind : Option Kind) (piece : List ℕ) (ps : List Piece) (rest : List ℕ) → text ≡ (front ++ piece) ++ (text_of ps ++ rest) → 0 < length piece → from ≤ length front
    → IsLexeme kind piece → length (front ++ piece) ≡ length front + length piece
    → AreSlices text (length front + length piece) (tokens_of (length front + length piece) ps)
    → AreSlices text from (tokens_of (length front + length piece) ps)
    → AreSlices text from (token_at kind (length front) (length front + length piece) ++ tokens_of (length front + length piece) ps)
slice_of text front from None piece ps rest e some le lexeme next after same = same
slice_of text front from (Some kind) piece ps rest e some le lexeme next after same =
    let short : (length front + length piece) - length front ≡ length piece = omega arith in
    let part : slice_range text (length front) (length front + length piece) ≡ piece =
    rw (short, e, append_assoc front piece (text_of ps ++ rest), drop-append_seam front (piece ++ (text_of ps ++ rest))) (take-append_seam piece (text_of ps ++ rest)) in
    (le, omega arith, omega (arith, ap length e, length-append (front ++ piece) (text_of ps ++ rest)), subst (IsLexeme (Some kind)) (sym part) lexeme, after)

slices_of : (text front : List ℕ) (from : ℕ) (ps : List Piece) (rest : List ℕ) → text ≡ front ++ (text_of ps ++ rest) → from ≤ length front → ArePieces ps rest → AreSlices text from (tokens_of (length front) ps)
slices_of text front from [] rest e le p = tt
slices_of text front from ((kind, piece) ∷ ps) rest e le p =
    let whole : text ≡ (front ++ piece) ++ (text_of ps ++ rest) = e ∙ ap (λ (t : List ℕ). front ++ t) (append_assoc piece (text_of ps) rest) ∙ sym (append_assoc front piece (text_of ps ++ rest)) in
    let next : length (front ++ piece) ≡ length front + length piece = length-append front piece in
    let some : 0 < length piece = piece_some kind piece (text_of ps ++ rest) p.0 in
    slice_of text front from kind piece ps rest whole some le p.0.lexeme next
    (subst (λ (n : ℕ). AreSlices text (length front + length piece) (tokens_of n ps)) next (slices_of text (front ++ piece) (length front + length piece) ps rest whole (omega arith) p.1))
    (subst (λ (n : ℕ). AreSlices text from (tokens_of n ps)) next (slices_of text (front ++ piece) from ps rest whole (omega arith) p.1))

pub slices : (text rest : List ℕ) (ts : List Token) → IsCut text rest ts → AreSlices text 0 ts
slices text rest ts c = subst (AreSlices text 0) c.lexemes (slices_of text [] 0 c.pieces rest c.whole (omega arith) c.lawful)

-- the texts that stop at one place stop at one byte
stops_once : (text : List ℕ) (at a byte b : ℕ) → StopsAt text at byte → StopsAt text a b → (at ≡ a) × (byte ≡ b)
stops_once text at a byte b p q =
    let one = cut_once text (byte ∷ p.rest) (b ∷ q.rest) p.tokens q.tokens p.cut q.cut p.none q.none in
    let rests : byte ∷ p.rest ≡ b ∷ q.rest = one.1 in
    (omega (arith, p.place, q.place, ap length rests), cc)

pub no_stop : (text : List ℕ) (ts : List Token) (at byte : ℕ) → AreTokens text ts → StopsAt text at byte → ⊥
no_stop text ts at byte c p =
    let rests : [] ≡ byte ∷ p.rest = (cut_once text [] (byte ∷ p.rest) ts p.tokens c p.cut none_at_end p.none).1 in
    let clash : ⊥ = cc in clash

pub one_fault : (text : List ℕ) (f g : TokenFault) → IsTokenFault text f → IsTokenFault text g → (f ≡ faults.OutOfMemory) ⊎ (g ≡ faults.OutOfMemory) ⊎ (f ≡ g)
one_fault text faults.OutOfMemory g p q = inl refl
one_fault text f faults.OutOfMemory p q = inr (inl refl)
one_fault text (faults.BadByte at) (faults.BadByte a) (byte, p, other) (b, q, other') = inr (inr (ap faults.BadByte (stops_once text at a byte b p q).0))
one_fault text (faults.BadNumber at) (faults.BadNumber a) (byte, p, is) (b, q, is') = inr (inr (ap faults.BadNumber (stops_once text at a byte b p q).0))
one_fault text (faults.BadByte at) (faults.BadNumber a) (byte, p, other) (b, q, is) = absurd (other (subst IsDigit (sym (stops_once text at a byte b p q).1) is))
one_fault text (faults.BadNumber at) (faults.BadByte a) (byte, p, is) (b, q, other) = absurd (other (subst IsDigit (stops_once text at a byte b p q).1 is))

pub tokens_or_fault : (text : List ℕ) (ts : List Token) (f : TokenFault) → AreTokens text ts → IsTokenFault text f → f ≡ faults.OutOfMemory
tokens_or_fault text ts faults.OutOfMemory c p = refl
tokens_or_fault text ts (faults.BadByte at) c (byte, p, other) = absurd (no_stop text ts at byte c p)
tokens_or_fault text ts (faults.BadNumber at) c (byte, p, is) = absurd (no_stop text ts at byte c p)

pub tokens_once : (text : List ℕ) (ts us : List Token) → AreTokens text ts → AreTokens text us → ts ≡ us
tokens_once text ts us p q = (cut_once text [] [] ts us p q none_at_end none_at_end).0

-- the front piece is cut off
pub scan_more : (text : List ℕ) (ts : List Token) (at n : ℕ) (kind : Option Kind) → at ≤ length text → IsCut text (drop at text) ts → IsFront (drop at text) n kind → IsCut text (drop (at + n) text) (ts ++ token_at kind at (at + n))
scan_more text ts at n kind within c f =
    let front = take n (drop at text) in
    let split : drop at text ≡ front ++ drop (at + n) text = sym (take-append-drop n (drop at text)) ∙ ap (λ (t : List ℕ). front ++ t) (drop-drop n at text) in
    let count : length front ≡ n = length-take-le n (drop at text) f.within in
    subst (λ (k : ℕ). IsCut text (drop (at + n) text) (ts ++ token_at kind at (at + k))) count
    (cut_more text (drop at text) (drop (at + n) text) ts at kind front c (simp length-drop (omega arith)) split (subst (IsPiece kind front) (drop-drop n at text) f.piece))

pub scan_within : (text : List ℕ) (at n : ℕ) (kind : Option Kind) → at ≤ length text → IsFront (drop at text) n kind → at + n ≤ length text
scan_within text at n kind within f = omega (arith, f.within, length-drop at text)

-- the place where no piece begins
pub stop_here : (text : List ℕ) (ts : List Token) (at : ℕ) → at < length text → IsCut text (drop at text) ts → BeginsNoPiece (drop at text) → StopsAt text at (get_or text at 0)
stop_here text ts at within c none =
    let split : drop at text ≡ get_or text at 0 ∷ drop (at + 1) text = drop_more text at 0 within in
    record {
      rest = drop (at + 1) text;
      tokens = ts;
      cut = subst (λ (r : List ℕ). IsCut text r ts) split c;
      place = omega (arith, ap length split, length-drop at text);
      none = subst BeginsNoPiece split none;
    }

pub cut_done : (text : List ℕ) (ts : List Token) (at : ℕ) → length text ≤ at → IsCut text (drop at text) ts → AreTokens text ts
cut_done text ts at past c = subst (λ (r : List ℕ). IsCut text r ts) (drop_all at text past) c
