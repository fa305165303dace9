-- A text begins with one piece at most.
use Rattle.std.proofs.Common.{◌≡◌, ◌≢◌, ◌⊎◌, inl, inr, ◌<◌, ◌≤◌, ◌++◌, ℕ, List, [], length, take, refl, arith, sym, ◌∙◌, ap, subst}
use Rattle.std.specs.Prelude.{Option, Some, None, IsTrue, codes, if◌then◌else◌}
use Rattle.std.specs.Str.{bytes_eq}
use Rattle.std.proofs.Math.Seq.{take-append_seam}
use Rattle.merlin_base.specs.Lexemes.{IsNameByte, IsLetter, IsDigit, IsName, IsMac, is_word}
use Rattle.merlin_base.proofs.Unique.{IsDecimal-one, IsMac-one, IsIp-one, IsRate-one, IsMac-length, decimal_no_ip, decimal_no_rate, rate_no_ip}
use Rattle.merlin_text.specs.declared.token.Kind.{Kind}
use Rattle.merlin_text.specs.declared.token.Kind.TheVariants as kinds
use Rattle.merlin_text.specs.declared.token.Word.{Word}
use Rattle.merlin_text.specs.declared.token.Word.TheVariants as words
use Rattle.merlin_text.specs.declared.token.Sign.{Sign}
use Rattle.merlin_text.specs.declared.token.Sign.TheVariants as signs
use Rattle.merlin_text.specs.Tokens.{IsBlank, IsRunByte, BeginsWith, BeginsNoMac, IsLexeme, Sort, gap, verbal, numeral, mac, sign, sort_of, IsExtent, IsPiece, spelling, written}
use Rattle.merlin_text.proofs.Runs.{one_run, heads, weaker, begins_append, begins_some}
use Rattle.merlin_text.proofs.Signs.{one_sign}
use Rattle.merlin_text.proofs.Prefixes.{IsPrefix-one, number_no_prefix, rate_no_prefix, ip_no_prefix}

-- no blank, no `#`, no letter and no digit
pub record IsOther (c : ℕ) : Type 0 where
  pub no_blank : IsBlank c → ⊥
  pub no_comment : c ≢ 35
  pub no_letter : IsLetter c → ⊥
  pub no_digit : IsDigit c → ⊥

-- the first bytes of each sort
abbrev pub Starts : Sort → ℕ → Type 0
Starts gap c = IsBlank c ⊎ (c ≡ 35)
Starts verbal c = IsLetter c
Starts numeral c = IsDigit c
Starts mac c = ⊥
Starts sign c = IsOther c

gap_no_letter : (c : ℕ) → IsBlank c ⊎ (c ≡ 35) → IsLetter c → ⊥
gap_no_letter c p q = grind arith

gap_no_digit : (c : ℕ) → IsBlank c ⊎ (c ≡ 35) → IsDigit c → ⊥
gap_no_digit c p q = grind arith

letter_no_digit : (c : ℕ) → IsLetter c → IsDigit c → ⊥
letter_no_digit c p q = grind arith

gap_no_other : (c : ℕ) → IsBlank c ⊎ (c ≡ 35) → IsOther c → ⊥
gap_no_other c (inl blank) q = q.no_blank blank
gap_no_other c (inr comment) q = q.no_comment comment

-- the sorts have no first byte in common
starts_apart : (f g : Sort) (c : ℕ) → Starts f c → Starts g c → f ≡ g
starts_apart gap gap c p q = refl
starts_apart gap verbal c p q = absurd (gap_no_letter c p q)
starts_apart gap numeral c p q = absurd (gap_no_digit c p q)
starts_apart gap sign c p q = absurd (gap_no_other c p q)
starts_apart verbal gap c p q = absurd (gap_no_letter c q p)
starts_apart verbal verbal c p q = refl
starts_apart verbal numeral c p q = absurd (letter_no_digit c p q)
starts_apart verbal sign c p q = absurd (q.no_letter p)
starts_apart numeral gap c p q = absurd (gap_no_digit c q p)
starts_apart numeral verbal c p q = absurd (letter_no_digit c q p)
starts_apart numeral numeral c p q = refl
starts_apart numeral sign c p q = absurd (q.no_digit p)
starts_apart sign gap c p q = absurd (gap_no_other c q p)
starts_apart sign verbal c p q = absurd (p.no_letter q)
starts_apart sign numeral c p q = absurd (p.no_digit q)
starts_apart sign sign c p q = refl
starts_apart mac g c p q = absurd p
starts_apart f mac c p q = absurd q

pub other_low : (c : ℕ) → 33 ≤ c → c ≤ 47 → c ≢ 35 → IsOther c
other_low c low high ne = record { no_blank = λ p. grind arith; no_comment = ne; no_letter = λ p. grind arith; no_digit = λ p. omega (arith, p) }

pub other_middle : (c : ℕ) → 58 ≤ c → c ≤ 64 → IsOther c
other_middle c low high = record { no_blank = λ p. grind arith; no_comment = λ e. omega arith; no_letter = λ p. grind arith; no_digit = λ p. omega (arith, p) }

pub other_upper : (c : ℕ) → 91 ≤ c → c ≤ 94 → IsOther c
other_upper c low high = record { no_blank = λ p. grind arith; no_comment = λ e. omega arith; no_letter = λ p. grind arith; no_digit = λ p. omega (arith, p) }

pub other_top : (c : ℕ) → 123 ≤ c → IsOther c
other_top c low = record { no_blank = λ p. grind arith; no_comment = λ e. omega arith; no_letter = λ p. grind arith; no_digit = λ p. omega (arith, p) }

sign_start : (s : Sign) → BeginsWith IsOther (written s)
sign_start signs.Becomes = other_middle 58 (omega arith) (omega arith)
sign_start signs.Arrow = other_low 45 (omega arith) (omega arith) (λ e. omega arith)
sign_start signs.OpenList = other_upper 91 (omega arith) (omega arith)
sign_start signs.CloseList = other_upper 93 (omega arith) (omega arith)
sign_start signs.OpenGroup = other_low 40 (omega arith) (omega arith) (λ e. omega arith)
sign_start signs.CloseGroup = other_low 41 (omega arith) (omega arith) (λ e. omega arith)
sign_start signs.OpenSet = other_top 123 (omega arith)
sign_start signs.CloseSet = other_top 125 (omega arith)
sign_start signs.Colon = other_middle 58 (omega arith) (omega arith)
sign_start signs.Semicolon = other_middle 59 (omega arith) (omega arith)
sign_start signs.Comma = other_low 44 (omega arith) (omega arith) (λ e. omega arith)
sign_start signs.Equals = other_middle 61 (omega arith) (omega arith)
sign_start signs.Plus = other_low 43 (omega arith) (omega arith) (λ e. omega arith)
sign_start signs.Star = other_low 42 (omega arith) (omega arith) (λ e. omega arith)
sign_start signs.Bang = other_low 33 (omega arith) (omega arith) (λ e. omega arith)
sign_start signs.Dot = other_low 46 (omega arith) (omega arith) (λ e. omega arith)
sign_start signs.Bar = other_top 124 (omega arith)

-- a piece begins with a byte of its sort, but for a Mac
start_of : (kind : Option Kind) (text rest : List ℕ) → sort_of kind ≢ mac → IsPiece kind text rest → BeginsWith (Starts (sort_of kind)) text
start_of None text rest ne p = elim p.goes_to [
  | inl blank ↦ subst (BeginsWith (Starts gap)) (sym blank.1) (inl blank.2)
  | inr comment ↦ weaker (λ c. c ≡ 35) (Starts gap) text (λ c e. inr e) comment.first
]
start_of (Some kinds.Name) text rest ne p = p.goes_to.first
start_of (Some (kinds.Word _)) text rest ne p = p.goes_to.first
start_of (Some (kinds.Number _)) text rest ne p = p.goes_to.first
start_of (Some (kinds.Rate _)) text rest ne p = p.goes_to.first
start_of (Some (kinds.Ip _)) text rest ne p = p.goes_to.first
start_of (Some (kinds.Prefix _ _)) text rest ne p = p.goes_to.first
start_of (Some (kinds.Mac _)) text rest ne p = absurd (ne refl)
start_of (Some (kinds.Sign s)) text rest ne p = subst (BeginsWith IsOther) (sym p.lexeme) (sign_start s)

-- the sort of a piece of a text that begins with no Mac and with a byte of this sort
pub sort_at : (f : Sort) (text : List ℕ) → BeginsNoMac text → BeginsWith (Starts f) text → (kind : Option Kind) (piece rest : List ℕ) → text ≡ piece ++ rest → IsPiece kind piece rest → sort_of kind ≡ f
sort_at f text no_mac starts (Some (kinds.Mac n)) piece rest e p = absurd (no_mac piece rest n e (record { is = p.lexeme; ends = p.goes_to }))
sort_at f text no_mac starts kind piece rest e p =
    let both = heads (Starts f) (Starts (sort_of kind)) text piece rest starts (start_of kind piece rest (λ m. cc) p) e in
    sym (starts_apart f (sort_of kind) both.0 both.1 both.2)

abbrev word_at : List ℕ → Option Word
word_at text =
    if bytes_eq text (codes "true") then Some words.True else
    if bytes_eq text (codes "false") then Some words.False else
    if bytes_eq text (codes "and") then Some words.And else
    if bytes_eq text (codes "or") then Some words.Or else
    if bytes_eq text (codes "foreach") then Some words.Foreach else
    if bytes_eq text (codes "in") then Some words.In else
    if bytes_eq text (codes "cross") then Some words.Cross else
    if bytes_eq text (codes "default") then Some words.Default else
    if bytes_eq text (codes "at") then Some words.At else
    if bytes_eq text (codes "max") then Some words.Max else
    if bytes_eq text (codes "min") then Some words.Min else None

word_is : (word : Word) → (word_at (spelling word) ≡ Some word) × IsTrue (is_word (spelling word))
word_is words.True = (refl, refl)
word_is words.False = (refl, refl)
word_is words.And = (refl, refl)
word_is words.Or = (refl, refl)
word_is words.Foreach = (refl, refl)
word_is words.In = (refl, refl)
word_is words.Cross = (refl, refl)
word_is words.Default = (refl, refl)
word_is words.At = (refl, refl)
word_is words.Max = (refl, refl)
word_is words.Min = (refl, refl)

no_name : (word : Word) (text : List ℕ) → text ≡ spelling word → IsName text → ⊥
no_name word text e name = name.no_word (subst (λ t. IsTrue (is_word t)) (sym e) (word_is word).1)

one_word : (v w : Word) (text : List ℕ) → text ≡ spelling v → text ≡ spelling w → v ≡ w
one_word v w text p q =
    let both : Some v ≡ Some w = sym (word_is v).0 ∙ ap word_at (sym p ∙ q) ∙ (word_is w).0 in
    cc

no_gap : (kind : Kind) → gap ≡ sort_of (Some kind) → ⊥
no_gap kinds.Name e = cc
no_gap (kinds.Word _) e = cc
no_gap (kinds.Number _) e = cc
no_gap (kinds.Rate _) e = cc
no_gap (kinds.Mac _) e = cc
no_gap (kinds.Ip _) e = cc
no_gap (kinds.Prefix _ _) e = cc
no_gap (kinds.Sign _) e = cc

-- Pieces of one text and one sort are of one kind.
one_kind : (j k : Option Kind) (text : List ℕ) → sort_of j ≡ sort_of k → IsLexeme j text → IsLexeme k text → j ≡ k
one_kind None None text same p q = refl
one_kind (Some kinds.Name) (Some kinds.Name) text same p q = refl
one_kind (Some kinds.Name) (Some (kinds.Word w)) text same p q = absurd (no_name w text q p)
one_kind (Some (kinds.Word v)) (Some kinds.Name) text same p q = absurd (no_name v text p q)
one_kind (Some (kinds.Word v)) (Some (kinds.Word w)) text same p q = ap (λ x. Some (kinds.Word x)) (one_word v w text p q)
one_kind (Some (kinds.Number a)) (Some (kinds.Number b)) text same p q = ap (λ x. Some (kinds.Number x)) (IsDecimal-one text a b p.0 q.0)
one_kind (Some (kinds.Number a)) (Some (kinds.Rate b)) text same p q = absurd (decimal_no_rate text a b p.0 q)
one_kind (Some (kinds.Number a)) (Some (kinds.Ip b)) text same p q = absurd (decimal_no_ip text a b p.0 q)
one_kind (Some (kinds.Rate a)) (Some (kinds.Number b)) text same p q = absurd (decimal_no_rate text b a q.0 p)
one_kind (Some (kinds.Rate a)) (Some (kinds.Rate b)) text same p q = ap (λ x. Some (kinds.Rate x)) (IsRate-one text a b p q)
one_kind (Some (kinds.Rate a)) (Some (kinds.Ip b)) text same p q = absurd (rate_no_ip text a b p q)
one_kind (Some (kinds.Ip a)) (Some (kinds.Number b)) text same p q = absurd (decimal_no_ip text b a q.0 p)
one_kind (Some (kinds.Ip a)) (Some (kinds.Rate b)) text same p q = absurd (rate_no_ip text b a q p)
one_kind (Some (kinds.Ip a)) (Some (kinds.Ip b)) text same p q = ap (λ x. Some (kinds.Ip x)) (IsIp-one text a b p q)
one_kind (Some (kinds.Number a)) (Some (kinds.Prefix w m)) text same p q = absurd (number_no_prefix text a w m p.0 q)
one_kind (Some (kinds.Rate a)) (Some (kinds.Prefix w m)) text same p q = absurd (rate_no_prefix text a w m p q)
one_kind (Some (kinds.Ip a)) (Some (kinds.Prefix w m)) text same p q = absurd (ip_no_prefix text a w m p q)
one_kind (Some (kinds.Prefix v n)) (Some (kinds.Number b)) text same p q = absurd (number_no_prefix text b v n q.0 p)
one_kind (Some (kinds.Prefix v n)) (Some (kinds.Rate b)) text same p q = absurd (rate_no_prefix text b v n q p)
one_kind (Some (kinds.Prefix v n)) (Some (kinds.Ip b)) text same p q = absurd (ip_no_prefix text b v n q p)
one_kind (Some (kinds.Prefix v n)) (Some (kinds.Prefix w m)) text same p q =
    let one = IsPrefix-one text v n w m p q in
    let value : v ≡ w = one.0 in
    let bits : n ≡ m = one.1 in
    cc
one_kind (Some (kinds.Mac a)) (Some (kinds.Mac b)) text same p q = ap (λ x. Some (kinds.Mac x)) (IsMac-one text a b p q)
one_kind (Some (kinds.Sign a)) (Some (kinds.Sign b)) text same p q =
    ap (λ x. Some (kinds.Sign x)) (one_sign a b [] [] (λ _. tt) (λ _. tt) (ap (λ t. t ++ []) (sym p ∙ q)))
one_kind None (Some k) text same p q = absurd (no_gap k same)
one_kind (Some j) None text same p q = absurd (no_gap j (sym same))
one_kind j k text same p q = cc

same_length : (v r w s : List ℕ) → length v ≡ length w → v ++ r ≡ w ++ s → v ≡ w
same_length v r w s k e = sym (take-append_seam v r) ∙ ap (take (length v)) e ∙ rw k (take-append_seam w s)

no_comment : (c : ℕ) → IsBlank c → c ≡ 35 → ⊥
no_comment c blank e = grind arith

-- Gaps and runs go as far as they go.
one_text : (f : Sort) (v r w s : List ℕ) → f ≢ mac → f ≢ sign → IsExtent f v r → IsExtent f w s → v ++ r ≡ w ++ s → v ≡ w
one_text gap v r w s m n (inl (c, a, p)) (inl (d, b, q)) e = same_length v r w s (rw (a, b)) e
one_text gap v r w s m n (inl (c, a, p)) (inr q) e =
    let both = heads IsBlank (λ x. x ≡ 35) (v ++ r) w s (begins_append IsBlank v r (subst (BeginsWith IsBlank) (sym a) p)) q.first e in
    absurd (no_comment both.0 both.1 both.2)
one_text gap v r w s m n (inr p) (inl (d, b, q)) e =
    let both = heads (λ x. x ≡ 35) IsBlank (v ++ r) w s (begins_append (λ x. x ≡ 35) v r p.first) (subst (BeginsWith IsBlank) (sym b) q) e in
    absurd (no_comment both.0 both.2 both.1)
one_text gap v r w s m n (inr p) (inr q) e = one_run (λ c. c ≡ 35) (λ c. c ≢ 10) v r w s p q e
one_text verbal v r w s m n p q e = one_run IsLetter IsNameByte v r w s p q e
one_text numeral v r w s m n p q e = one_run IsDigit IsRunByte v r w s p q e
one_text mac v r w s m n p q e = absurd (m refl)
one_text sign v r w s m n p q e = absurd (n refl)

pub one_piece : (j k : Option Kind) (v r w s : List ℕ) → IsPiece j v r → IsPiece k w s → v ++ r ≡ w ++ s → (v ≡ w) × (j ≡ k)
one_piece (Some (kinds.Mac n)) (Some (kinds.Mac m)) v r w s p q e =
    let texts : v ≡ w = same_length v r w s (IsMac-length v n p.lexeme ∙ sym (IsMac-length w m q.lexeme)) e in
    (texts, ap (λ x. Some (kinds.Mac x)) (IsMac-one w n m (subst (λ t. IsMac t n) texts p.lexeme) q.lexeme))
one_piece (Some (kinds.Mac n)) k v r w s p q e = absurd (q.mac_first v r n (sym e) (record { is = p.lexeme; ends = p.goes_to }))
one_piece j (Some (kinds.Mac m)) v r w s p q e = absurd (p.mac_first w s m e (record { is = q.lexeme; ends = q.goes_to }))
one_piece (Some (kinds.Sign a)) (Some (kinds.Sign b)) v r w s p q e =
    let signs : a ≡ b = one_sign a b r s (λ h. p.goes_to (p.lexeme ∙ h)) (λ h. q.goes_to (q.lexeme ∙ h)) (ap (λ t. t ++ r) (sym p.lexeme) ∙ e ∙ ap (λ t. t ++ s) q.lexeme) in
    (p.lexeme ∙ ap written signs ∙ sym q.lexeme, ap (λ x. Some (kinds.Sign x)) signs)
one_piece (Some (kinds.Sign a)) k v r w s p q e =
    let same : sort_of k ≡ sign = sort_at sign (v ++ r) p.mac_first (begins_append IsOther v r (start_of (Some (kinds.Sign a)) v r (λ m. cc) p)) k w s e q in
    cc
one_piece j k v r w s p q e =
    let same : sort_of k ≡ sort_of j = sort_at (sort_of j) (v ++ r) p.mac_first (begins_append (Starts (sort_of j)) v r (start_of j v r (λ m. cc) p)) k w s e q in
    let texts : v ≡ w = one_text (sort_of j) v r w s (λ m. cc) (λ m. cc) p.goes_to (subst (λ f. IsExtent f w s) same q.goes_to) e in
    (texts, one_kind j k w (sym same) (subst (IsLexeme j) texts p.lexeme) q.lexeme)

pub piece_some : (kind : Option Kind) (piece rest : List ℕ) → IsPiece kind piece rest → 0 < length piece
piece_some (Some (kinds.Mac n)) piece rest p = omega (arith, IsMac-length piece n p.lexeme)
piece_some kind piece rest p = begins_some (Starts (sort_of kind)) piece (start_of kind piece rest (λ m. cc) p)
