-- The piece at the front of a text, or that there is none.
use Rattle.std.proofs.Common.{inl, ◌≡◌, ◌≢◌, ◌<◌, ◌≤◌, ◌++◌, ℕ, List, [], ◌∷◌, length, take, drop, get_or, refl, arith, sym, ◌∙◌, ap, subst, length-append}
use Rattle.std.specs.List.{All}
use Rattle.std.specs.Prelude.{Option, Some, None, IfSome, codes}
use Rattle.std.proofs.lemmas.List.{take-append-drop}
use Rattle.std.proofs.Math.Seq.{take-append_seam, drop-append_seam}
use Rattle.merlin_base.specs.Lexemes.{IsMac}
use Rattle.merlin_base.proofs.Unique.{IsMac-length}
use Rattle.merlin_text.specs.declared.token.Kind.{Kind}
use Rattle.merlin_text.specs.declared.token.Kind.TheVariants as kinds
use Rattle.merlin_text.specs.declared.token.Sign.{Sign}
use Rattle.merlin_text.specs.declared.token.Sign.TheVariants as signs
use Rattle.merlin_text.specs.Tokens.{IsBlank, BeginsWith, EndsBefore, IsRun, BeginsNoMac, BeginsNoPiece, IsLexeme, Sort, gap, sign, sort_of, IsExtent, GivesWay, IsPiece, written}
use Rattle.merlin_text.specs.Fronts.{IsFront}
use Rattle.merlin_text.proofs.Runs.{one_run, begins_with, front_run, run_some, weaker}
use Rattle.merlin_text.proofs.OnePiece.{Starts, IsOther, sort_at, piece_some}

pub front : (f : Sort) (text : List ℕ) (n : ℕ) (kind : Option Kind) → sort_of kind ≡ f → GivesWay f text → 0 < n → n ≤ length text → IsExtent f (take n text) (drop n text) → IsLexeme kind (take n text) → IsFront text n kind
front f text n kind same way some within goes lexeme = record {
  some = some;
  within = within;
  piece = record {
    lexeme = lexeme;
    goes_to = subst (λ g. IsExtent g (take n text) (drop n text)) (sym same) goes;
    mac_first = subst (λ g. GivesWay g (take n text ++ drop n text)) (sym same) (subst (GivesWay f) (sym (take-append-drop n text)) way);
  };
}

-- A Mac and what follows it are the first 17 bytes and the others.
pub mac_front : (text piece rest : List ℕ) (n : ℕ) → text ≡ piece ++ rest → IsMac piece n → (piece ≡ take 17 text) × (rest ≡ drop 17 text) × (17 ≤ length text)
mac_front text piece rest n e is =
    let count : length piece ≡ 17 = IsMac-length piece n is in (
      sym (take-append_seam piece rest) ∙ rw (count, e),
      sym (drop-append_seam piece rest) ∙ rw (count, e),
      omega (arith, ap length e, length-append piece rest),
    )

-- A run that is a lexeme is a piece.
pub run_front : (f : Sort) (Begins Goes : ℕ → Type 0) (text : List ℕ) (n : ℕ) (kind : Option Kind) → ((v r : List ℕ) → IsRun Begins Goes v r → IsExtent f v r) → ((c : ℕ) → Begins c → Goes c)
    → GivesWay f text → 0 < length text → Begins (get_or text 0 0) → n ≤ length text → All Goes (take n text) → EndsBefore Goes (drop n text)
    → sort_of kind ≡ f → IsLexeme kind (take n text) → IsFront text n kind
run_front f Begins Goes text n kind goes more way some first within each longest same lexeme =
    let begins = begins_with Begins text some first in
    front f text n kind same way (run_some Begins Goes text n more begins each longest) within (goes (take n text) (drop n text) (front_run Begins Goes text n more begins each longest)) lexeme

none_of : (f : Sort) (text : List ℕ) → f ≢ gap → ((kind : Kind) → sort_of (Some kind) ≡ f → IsLexeme (Some kind) text → ⊥) → (kind : Option Kind) → sort_of kind ≡ f → IsLexeme kind text → ⊥
none_of f text other none None same lexeme = other (sym same)
none_of f text other none (Some kind) same lexeme = none kind same lexeme

-- Where a run is no lexeme, no piece begins.
pub run_none : (f : Sort) (Begins Goes : ℕ → Type 0) (text : List ℕ) (n : ℕ) → f ≢ gap → ((v r : List ℕ) → IsExtent f v r → IsRun Begins Goes v r) → ((c : ℕ) → Begins c → Goes c) → ((c : ℕ) → Begins c → Starts f c)
    → BeginsNoMac text → 0 < length text → Begins (get_or text 0 0) → All Goes (take n text) → EndsBefore Goes (drop n text)
    → ((kind : Kind) → sort_of (Some kind) ≡ f → IsLexeme (Some kind) (take n text) → ⊥) → BeginsNoPiece text
run_none f Begins Goes text n other goes more starts no_mac some first each longest none kind piece rest split p =
    let begins = begins_with Begins text some first in
    let same = sort_at f text no_mac (weaker Begins (Starts f) text starts begins) kind piece rest split p in
    let run = front_run Begins Goes text n more begins each longest in
    let texts : piece ≡ take n text = one_run Begins Goes piece rest (take n text) (drop n text) (goes piece rest (subst (λ g. IsExtent g piece rest) same p.goes_to)) run (sym split ∙ sym (take-append-drop n text)) in
    none_of f (take n text) other none kind same (subst (IsLexeme kind) texts p.lexeme)

sign_none : (text : List ℕ) → ((s : Sign) (rest : List ℕ) → text ≢ written s ++ rest) → (kind : Option Kind) (piece more : List ℕ) → sort_of kind ≡ sign → text ≡ piece ++ more → IsPiece kind piece more → ⊥
sign_none text none (Some (kinds.Sign s)) piece more same split p = none s more (split ∙ ap (λ t. t ++ more) p.lexeme)
sign_none text none kind piece more same split p = cc

-- Where no sign stands, and no other sort begins, no piece begins.
pub none_of_sign : (text : List ℕ) → BeginsNoMac text → BeginsWith IsOther text → ((s : Sign) (rest : List ℕ) → text ≢ written s ++ rest) → BeginsNoPiece text
none_of_sign text no_mac starts none kind piece more split p =
    sign_none text none kind piece more (sort_at sign text no_mac starts kind piece more split p) split p

pub none_at_end : BeginsNoPiece []
none_at_end kind piece rest e p = omega (arith, piece_some kind piece rest p, ap length e, length-append piece rest)

one_first : (text : List ℕ) → 0 < length text → take 1 text ≡ get_or text 0 0 ∷ []
one_first [] one = absurd (omega arith)
one_first (c ∷ text) one = refl

pub short_text : (text : List ℕ) (a b : ℕ) → length text < 2 → take 2 text ≢ a ∷ b ∷ []
short_text [] a b few = λ e. cc
short_text (c ∷ []) a b few = λ e. cc
short_text (c ∷ d ∷ text) a b few = absurd (omega arith)

pub long_front : (text : List ℕ) (s : Sign) (a b : ℕ) → written s ≡ a ∷ b ∷ [] → BeginsNoMac text → 2 ≤ length text → take 2 text ≡ a ∷ b ∷ [] → IsFront text 2 (Some (kinds.Sign s))
long_front text s a b is no_mac two front_is =
    front sign text 2 (Some (kinds.Sign s)) refl no_mac (omega arith) two (λ e. let clash : ⊥ = cc in absurd clash) (front_is ∙ sym is)

no_equals : (text : List ℕ) → get_or text 0 0 ≡ 58 → take 2 text ≢ codes ":=" → EndsBefore (λ c. c ≡ 61) (drop 1 text)
no_equals [] first other = tt
no_equals (c ∷ []) first other = tt
no_equals (c ∷ d ∷ text) first other = λ e. other cc

pub short_front : (text : List ℕ) (found : Option Sign) → BeginsNoMac text → 0 < length text → take 2 text ≢ codes ":="
    → IfSome found (λ s. written s ≡ get_or text 0 0 ∷ []) → IfSome found (λ s. IsFront text (length (written s)) (Some (kinds.Sign s)))
short_front text None no_mac some other is = tt
short_front text (Some s) no_mac some other is =
    let front_is : take 1 text ≡ get_or text 0 0 ∷ [] = one_first text some in
    let colon : 58 ∷ [] ≡ get_or text 0 0 ∷ [] → get_or text 0 0 ≡ 58 = λ e. cc in
    rw is (front sign text 1 (Some (kinds.Sign s)) refl no_mac (omega arith) (omega arith) (λ e. no_equals text (colon (sym e ∙ front_is)) other) (front_is ∙ sym is))

-- where neither two bytes nor one are a sign, none stands
pub no_sign : (text : List ℕ) → take 2 text ≢ codes ":=" → take 2 text ≢ codes "->" → ((s : Sign) → written s ≢ get_or text 0 0 ∷ []) → (s : Sign) (rest : List ℕ) → text ≢ written s ++ rest
no_sign text no_becomes no_arrow none signs.Becomes rest = λ e. no_becomes (rw e)
no_sign text no_becomes no_arrow none signs.Arrow rest = λ e. no_arrow (rw e)
no_sign text no_becomes no_arrow none s rest = λ e. none s (rw e)

pub blank_front : (text : List ℕ) → BeginsNoMac text → 0 < length text → IsBlank (get_or text 0 0) → IsFront text 1 None
blank_front text no_mac some blank = front gap text 1 None refl no_mac (omega arith) (omega arith) (inl (get_or text 0 0, one_first text some, blank)) tt
