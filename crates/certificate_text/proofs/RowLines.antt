-- The lines of programs are told apart.
use Rattle.std.proofs.Common.{◌≡◌, ℕ, ◌^◌, ◌≤◌, ◌<◌, inr, Bool, true, false, nat_abs, List, [], ◌∷◌, ◌++◌, length, refl, sym, ◌∙◌, ap, subst, append_assoc, append-nil, arith}
use Rattle.std.proofs.lemmas.List.{append_cancel_left}
use Rattle.std.specs.List.{AllByRecursion}
use Rattle.std.specs.Prelude.{codes}
use Rattle.std.specs.Fmt.{decimal, signed_decimal}
use Rattle.merlin_base.specs.Lexemes.{Lacks}
use Rattle.merlin_model.specs.Programs.{Row}
use Rattle.merlin_base.specs.Pairs.{pairs_text, IsEmptyOrBegins}
use Rattle.merlin_base.specs.Faults.{GoesWrong}
use Rattle.certificate_text.specs.ProgramTexts.{kind_word, row_line, IsRowLine, head_text}
use Rattle.merlin_base.proofs.Cutting.{Free, free, free_append, free_middle, cut_once, cut_before_once}
use Rattle.merlin_base.proofs.Decimals.{decimal_free, decimal_same, signed_free, signed_same}
use Rattle.merlin_base.proofs.PairTexts.{IsSmallPair, small_pairs, pairs_free, pairs_once, pairs_begin}
use Rattle.merlin_base.proofs.WrongLines.{line_wrong, lift_wrong}

-- The two lines before the rows.

abbrev pub first_line : List ℕ
first_line = codes "program 1" ++ 10 ∷ []

abbrev pub count_line : ℕ → List ℕ
count_line n = codes "variables " ++ (decimal n ++ 10 ∷ [])

abbrev pub IsCount : ℕ → Type 0
IsCount n = n ≤ 32768

program_free : Free 10 (codes "program 1")
program_free = ((λ e. omega arith), ((λ e. omega arith), ((λ e. omega arith), ((λ e. omega arith), ((λ e. omega arith), ((λ e. omega arith), ((λ e. omega arith), ((λ e. omega arith), ((λ e. omega arith), tt)))))))))

variables_free : (n : ℕ) → n ≤ 32768 → Free 10 (codes "variables " ++ decimal n)
variables_free n h = ((λ e. omega arith), ((λ e. omega arith), ((λ e. omega arith), ((λ e. omega arith), ((λ e. omega arith), ((λ e. omega arith), ((λ e. omega arith), ((λ e. omega arith), ((λ e. omega arith), ((λ e. omega arith), decimal_free 10 n (omega arith) (omega arith)))))))))))

pub no_program : (text : List ℕ) → ((rest : List ℕ) → text ≡ first_line ++ rest → ⊥) → GoesWrong head_text IsCount text (length text)
no_program text none = line_wrong head_text IsCount (λ n. codes "program 1") count_line text 0 (omega arith) (λ n. refl) (λ n is. program_free) (λ n rest is e. none rest e)

pub bad_count : (text rest : List ℕ) → text ≡ first_line ++ rest → ((n : ℕ) (more : List ℕ) → n ≤ 32768 → rest ≡ (codes "variables " ++ decimal n) ++ 10 ∷ more → ⊥) → GoesWrong head_text IsCount text (length rest)
bad_count text rest e none =
    lift_wrong head_text IsCount count_line IsCount first_line rest text (length rest) (inr (codes "program 1", refl)) e (λ n is. (n, is, [], ap (λ z. first_line ++ z) (sym (append-nil (count_line n))))) down
    (line_wrong count_line IsCount (λ n. codes "variables " ++ decimal n) (λ n. []) rest 0 (omega arith) (λ n. refl) variables_free (λ n more is h. none n more is h))
  where
    down : (n : ℕ) (x u : List ℕ) → IsCount n → head_text n ++ x ≡ first_line ++ u → (m : ℕ) × IsCount m × (y : List ℕ) × (count_line m ++ y ≡ u)
    down n x u is g = (n, is, x, append_cancel_left first_line (count_line n ++ x) u g)

pub no_count : (rest : List ℕ) → ((more : List ℕ) → rest ≡ codes "variables " ++ more → ⊥) → (n : ℕ) (more : List ℕ) → n ≤ 32768 → rest ≡ (codes "variables " ++ decimal n) ++ 10 ∷ more → ⊥
no_count rest none n more is e = none (decimal n ++ 10 ∷ more) e

pub no_number_there : (rest number : List ℕ) → rest ≡ codes "variables " ++ number → ((n : ℕ) (more : List ℕ) → n < 10 ^ 19 → number ≡ decimal n ++ 10 ∷ more → ⊥) → (n : ℕ) (more : List ℕ) → n ≤ 32768 → rest ≡ (codes "variables " ++ decimal n) ++ 10 ∷ more → ⊥
no_number_there rest number f none n more is e = none n more (omega arith) (append_cancel_left (codes "variables ") number (decimal n ++ 10 ∷ more) (sym f ∙ e))

pub too_many_variables : (rest number rows : List ℕ) (count : ℕ) → rest ≡ codes "variables " ++ number → number ≡ decimal count ++ 10 ∷ rows → count < 10 ^ 19 → 32768 < count → (n : ℕ) (more : List ℕ) → n ≤ 32768 → rest ≡ (codes "variables " ++ decimal n) ++ 10 ∷ more → ⊥
too_many_variables rest number rows count f g small past n more is e =
    let same = cut_once 10 (decimal count) (decimal n) rows more (decimal_free 10 count small (omega arith)) (decimal_free 10 n (omega arith) (omega arith)) (sym g ∙ append_cancel_left (codes "variables ") number (decimal n ++ 10 ∷ more) (sym f ∙ e)) in
    let equal = decimal_same count n small (omega arith) same.front in omega arith

pub head_is : (text rest number rows : List ℕ) (count : ℕ) → text ≡ first_line ++ rest → rest ≡ codes "variables " ++ number → number ≡ decimal count ++ 10 ∷ rows → text ≡ head_text count ++ rows
head_is text rest number rows count e f g = e ∙ ap (λ z. first_line ++ z) (f ∙ ap (λ z. codes "variables " ++ z) (g ∙ sym (append_assoc (decimal count) (10 ∷ []) rows)))

pub record IsSameHead (m n : ℕ) (x y : List ℕ) : Type 0 where
  pub count : m ≡ n
  pub rest : x ≡ y

pub head_once : (m n : ℕ) (x y : List ℕ) → m ≤ 32768 → n ≤ 32768 → head_text m ++ x ≡ head_text n ++ y → IsSameHead m n x y
head_once m n x y f g e =
    let counts : (decimal m ++ 10 ∷ []) ++ x ≡ (decimal n ++ 10 ∷ []) ++ y = append_cancel_left (first_line ++ codes "variables ") ((decimal m ++ 10 ∷ []) ++ x) ((decimal n ++ 10 ∷ []) ++ y) e in
    let same = cut_once 10 (decimal m) (decimal n) x y (decimal_free 10 m (omega arith) (omega arith)) (decimal_free 10 n (omega arith) (omega arith)) (sym (append_assoc (decimal m) (10 ∷ []) x) ∙ counts ∙ append_assoc (decimal n) (10 ∷ []) y) in
    record { count = decimal_same m n (omega arith) (omega arith) same.front; rest = same.rest }

-- Rows.

abbrev pub row_front : Row → List ℕ
row_front row = kind_word row.is_equality ++ (signed_decimal row.right ++ pairs_text row.entries)

pub row_behind : (row : Row) (x : List ℕ) → row_line row ++ x ≡ row_front row ++ 10 ∷ x
row_behind row x =
    append_assoc (kind_word row.is_equality) (signed_decimal row.right ++ (pairs_text row.entries ++ 10 ∷ [])) x
    ∙ ap (λ z. kind_word row.is_equality ++ z) (append_assoc (signed_decimal row.right) (pairs_text row.entries ++ 10 ∷ []) x ∙ ap (λ z. signed_decimal row.right ++ z) (append_assoc (pairs_text row.entries) (10 ∷ []) x) ∙ sym (append_assoc (signed_decimal row.right) (pairs_text row.entries) (10 ∷ x)))
    ∙ sym (append_assoc (kind_word row.is_equality) (signed_decimal row.right ++ pairs_text row.entries) (10 ∷ x))

kind_free : (b : Bool) (rest : List ℕ) → Free 10 rest → Free 10 (kind_word b ++ rest)
kind_free true rest f = ((λ e. omega arith), ((λ e. omega arith), ((λ e. omega arith), ((λ e. omega arith), ((λ e. omega arith), ((λ e. omega arith), ((λ e. omega arith), f)))))))
kind_free false rest f = ((λ e. omega arith), ((λ e. omega arith), ((λ e. omega arith), ((λ e. omega arith), ((λ e. omega arith), ((λ e. omega arith), ((λ e. omega arith), f)))))))

right_small : (count : ℕ) (row : Row) → IsRowLine count row → nat_abs row.right ≤ 2 ^ 60
right_small count row is = let r = is.right in omega arith

entries_small : (count : ℕ) (row : Row) → count ≤ 32768 → IsRowLine count row → AllByRecursion IsSmallPair row.entries
entries_small count row few is = small_pairs count (10 ^ 9) row.entries (omega arith) (omega arith) is.entries

pub row_free : (count : ℕ) (row : Row) → count ≤ 32768 → IsRowLine count row → Free 10 (row_front row)
row_free count row few is = kind_free row.is_equality (signed_decimal row.right ++ pairs_text row.entries)
    (free_append 10 (signed_decimal row.right) (pairs_text row.entries) (signed_free 10 row.right (right_small count row is) (omega arith)) (pairs_free 10 row.entries (omega arith) (entries_small count row few is)))

-- what a line has in common with the line of a row
pub record IsRowAs (is_equality : Bool) (number pairs : List ℕ) (row : Row) : Type 0 where
  pub kind : is_equality ≡ row.is_equality
  pub right : number ≡ signed_decimal row.right
  pub entries : pairs ≡ pairs_text row.entries

fifth : (a b : ℕ) (x y : List ℕ) → 114 ∷ 111 ∷ 119 ∷ 32 ∷ a ∷ x ≡ 114 ∷ 111 ∷ 119 ∷ 32 ∷ b ∷ y → a ≡ b
fifth a b x y e = cc

same_kind : (a b : Bool) (x y : List ℕ) → kind_word a ++ x ≡ kind_word b ++ y → (a ≡ b) × (x ≡ y)
same_kind true true x y e = (refl, append_cancel_left (codes "row eq ") x y e)
same_kind false false x y e = (refl, append_cancel_left (codes "row le ") x y e)
same_kind true false x y e = absurd (let h = fifth 101 108 _ _ e in omega arith)
same_kind false true x y e = absurd (let h = fifth 108 101 _ _ e in omega arith)

pub row_as : (count : ℕ) (text words line rest number pairs : List ℕ) (is_equality : Bool) (row : Row) (more : List ℕ) → count ≤ 32768 → IsRowLine count row → text ≡ kind_word is_equality ++ words → words ≡ line ++ 10 ∷ rest → Lacks 10 line →
    line ≡ number ++ pairs → Lacks 32 number → IsEmptyOrBegins 32 pairs → text ≡ row_line row ++ more → IsRowAs is_equality number pairs row
row_as count text words line rest number pairs is_equality row more few is e f l g ln b h =
    let kinds = same_kind is_equality row.is_equality words ((signed_decimal row.right ++ pairs_text row.entries) ++ 10 ∷ more) (sym e ∙ h ∙ row_behind row more ∙ append_assoc (kind_word row.is_equality) (signed_decimal row.right ++ pairs_text row.entries) (10 ∷ more)) in
    let lines = cut_once 10 line (signed_decimal row.right ++ pairs_text row.entries) rest more (free 10 line l)
    (free_append 10 (signed_decimal row.right) (pairs_text row.entries) (signed_free 10 row.right (right_small count row is) (omega arith)) (pairs_free 10 row.entries (omega arith) (entries_small count row few is))) (sym f ∙ kinds.1) in
    let parts = cut_before_once 32 number (signed_decimal row.right) pairs (pairs_text row.entries) (free 32 number ln) (signed_free 32 row.right (right_small count row is) (omega arith)) b (pairs_begin row.entries) (sym g ∙ lines.front) in
    record { kind = kinds.0; right = parts.front; entries = parts.rest }

pub row_kind : (text : List ℕ) (row : Row) (more : List ℕ) → text ≡ row_line row ++ more → text ≡ kind_word row.is_equality ++ ((signed_decimal row.right ++ (pairs_text row.entries ++ 10 ∷ [])) ++ more)
row_kind text row more e = e ∙ append_assoc (kind_word row.is_equality) (signed_decimal row.right ++ (pairs_text row.entries ++ 10 ∷ [])) more

pub no_newline : (text words : List ℕ) (is_equality : Bool) (row : Row) (more : List ℕ) → text ≡ kind_word is_equality ++ words → Lacks 10 words → text ≡ row_line row ++ more → ⊥
no_newline text words is_equality row more e l h =
    let kinds = same_kind is_equality row.is_equality words ((signed_decimal row.right ++ pairs_text row.entries) ++ 10 ∷ more) (sym e ∙ h ∙ row_behind row more ∙ append_assoc (kind_word row.is_equality) (signed_decimal row.right ++ pairs_text row.entries) (10 ∷ more)) in
    free_middle 10 (signed_decimal row.right ++ pairs_text row.entries) more (subst (Free 10) kinds.1 (free 10 words l))

pub row_text_is : (text words line rest number pairs : List ℕ) (is_equality : Bool) (row : Row) → text ≡ kind_word is_equality ++ words → words ≡ line ++ 10 ∷ rest → line ≡ number ++ pairs → is_equality ≡ row.is_equality → number ≡ signed_decimal row.right → pairs ≡ pairs_text row.entries → text ≡ row_line row ++ rest
row_text_is text words line rest number pairs is_equality row e f g k r p =
    e ∙ ap (λ z. kind_word is_equality ++ z) (f ∙ ap (λ z. z ++ 10 ∷ rest) (g ∙ ap (λ z. z ++ pairs) r ∙ ap (λ z. signed_decimal row.right ++ z) p)) ∙ ap (λ b. kind_word b ++ ((signed_decimal row.right ++ pairs_text row.entries) ++ 10 ∷ rest)) k
    ∙ sym (append_assoc (kind_word row.is_equality) (signed_decimal row.right ++ pairs_text row.entries) (10 ∷ rest)) ∙ sym (row_behind row rest)

pub record IsSameRow (r s : Row) (x y : List ℕ) : Type 0 where
  pub row : r ≡ s
  pub rest : x ≡ y

pub row_once : (count : ℕ) (r s : Row) (x y : List ℕ) → count ≤ 32768 → IsRowLine count r → IsRowLine count s → row_line r ++ x ≡ row_line s ++ y → IsSameRow r s x y
row_once count r s x y few f g e =
    let fronts = cut_once 10 (row_front r) (row_front s) x y (row_free count r few f) (row_free count s few g) (sym (row_behind r x) ∙ e ∙ row_behind s y) in
    let kinds = same_kind r.is_equality s.is_equality _ _ fronts.front in
    let parts = cut_before_once 32 (signed_decimal r.right) (signed_decimal s.right) (pairs_text r.entries) (pairs_text s.entries) (signed_free 32 r.right (right_small count r f) (omega arith)) (signed_free 32 s.right (right_small count s g) (omega arith)) (pairs_begin r.entries) (pairs_begin s.entries) kinds.1 in
    let right = signed_same r.right s.right (right_small count r f) (right_small count s g) parts.front in
    let entries = pairs_once r.entries s.entries (entries_small count r few f) (entries_small count s few g) parts.rest in
    record { row = (λ i. record { entries = entries i; is_equality = kinds.0 i; right = right i }); rest = fronts.rest }
