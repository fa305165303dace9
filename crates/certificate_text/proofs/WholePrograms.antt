-- The text of a program, from the first line to the last.
use Rattle.std.proofs.Common.{◌≡◌, ℕ, ◌+◌, ◌-◌, ◌≤◌, ◌<◌, inl, inr, Bool, true, false, List, [], ◌∷◌, ◌++◌, length, length-append, replicate, refl, sym, ◌∙◌, ap, subst, append_assoc, append-nil, arith}
use Rattle.std.proofs.lemmas.List.{append_cancel_left, length-replicate}
use Rattle.std.specs.List.{AllByRecursion, flat_map}
use Rattle.std.specs.Prelude.{codes}
use Rattle.std.specs.Fmt.{decimal, signed_decimal}
use Rattle.merlin_model.specs.Programs.{Program, Row, variables, IsRow}
use Rattle.merlin_model.proofs.Members.{all_right, all_both}
use Rattle.certificate_text.specs.declared.fault.LineFault.{LineFault}
use Rattle.certificate_text.specs.declared.fault.LineFault.TheVariants.{Wrong, Memory}
use Rattle.merlin_base.specs.Faults.{IsWholeLines, IsFirstWrongLine, GoesWrong}
use Rattle.certificate_text.specs.ProgramTexts.{head_text, row_line, IsRowLine, program_text, IsProgramText, kind_word}
use Rattle.merlin_base.specs.Pairs.{pairs_text}
use Rattle.certificate_text.specs.Outcomes.{IsLineFault}
use Rattle.merlin_base.proofs.Cutting.{Free}
use Rattle.certificate_text.proofs.RowLines.{IsCount, row_front, row_behind, row_free, row_once, head_once, count_line, first_line}
use Rattle.merlin_base.proofs.WrongLines.{line_wrong, lift_wrong, whole_wrong, whole_lines, past_end}

abbrev pub finish : List ℕ
finish = codes "end" ++ 10 ∷ []

abbrev pub IsWrongWhole : List ℕ → ℕ → Type 0
IsWrongWhole text left = (left ≤ length text) × IsFirstWrongLine program_text IsProgramText text (length text - left)

abbrev pub rows_text : List Row → List ℕ
rows_text = flat_map row_line

abbrev made : ℕ → List Row → Program
made count rows = record { rows = rows; upper = replicate count true }

made_is : (count : ℕ) (rows : List Row) → count ≤ 32768 → length rows ≤ 16384 → AllByRecursion (IsRowLine count) rows → IsProgramText (made count rows)
made_is count rows few some each = record {
  upper = ap (λ n. replicate n true) (sym (length-replicate count true));
  few_variables = let n = length-replicate count true in omega arith;
  few_rows = some;
  rows = subst (λ n. AllByRecursion (IsRowLine n) rows) (sym (length-replicate count true)) each;
}

made_text : (count : ℕ) (rows : List Row) → program_text (made count rows) ≡ head_text count ++ (rows_text rows ++ finish)
made_text count rows = ap (λ n. head_text n ++ (rows_text rows ++ finish)) (length-replicate count true)

head_whole : (count : ℕ) → IsWholeLines (head_text count)
head_whole count = whole_lines first_line (count_line count) (inr (codes "program 1", refl)) (inr (codes "variables " ++ decimal count, refl))

row_whole : (row : Row) → IsWholeLines (row_line row)
row_whole row = inr (row_front row, sym (append-nil (row_line row)) ∙ row_behind row [])

rows_whole : (rows : List Row) → IsWholeLines (rows_text rows)
rows_whole [] = inl refl
rows_whole (row ∷ rows) = whole_lines (row_line row) (rows_text rows) (row_whole row) (rows_whole rows)

pub bad_head : (text : List ℕ) (f : LineFault) → IsLineFault (GoesWrong head_text IsCount text) f → IsLineFault (IsWrongWhole text) f
bad_head text Memory h = tt
bad_head text (Wrong left) h = whole_wrong program_text IsProgramText text left
    (lift_wrong program_text IsProgramText head_text IsCount [] text text left (inl refl) refl
    (λ n is. (made n [], made_is n [] is (omega arith) tt, rows_text [] ++ finish, made_text n []))
    (λ p x u is e. (variables p, is.few_variables, (rows_text p.rows ++ finish) ++ x, sym (append_assoc (head_text (variables p)) (rows_text p.rows ++ finish) x) ∙ e)) h)

-- Behind the head there are rows, and then the end.

rows_append : (xs ys : List Row) → rows_text (xs ++ ys) ≡ rows_text xs ++ rows_text ys
rows_append [] ys = refl
rows_append (x ∷ xs) ys = ap (λ z. row_line x ++ z) (rows_append xs ys) ∙ sym (append_assoc (row_line x) (rows_text xs) (rows_text ys))

pub record AreMore (count done : ℕ) (more : List Row) : Type 0 where
  pub few : done + length more ≤ 16384
  pub each : AllByRecursion (IsRowLine count) more

abbrev more_text : List Row → List ℕ
more_text more = rows_text more ++ finish

front_of : List Row → List ℕ
front_of [] = codes "end"
front_of (row ∷ rows) = row_front row

behind_of : List Row → List ℕ
behind_of [] = []
behind_of (row ∷ rows) = rows_text rows ++ finish

more_splits : (more : List Row) → more_text more ≡ front_of more ++ 10 ∷ behind_of more
unfolding front_of behind_of
more_splits [] = refl
more_splits (row ∷ rows) = append_assoc (row_line row) (rows_text rows) finish ∙ row_behind row (rows_text rows ++ finish)

more_free : (count done : ℕ) (more : List Row) → count ≤ 32768 → AreMore count done more → Free 10 (front_of more)
unfolding front_of
more_free count done [] few is = ((λ e. omega arith), ((λ e. omega arith), ((λ e. omega arith), tt)))
more_free count done (row ∷ rows) few is = row_free count row few is.each.0

-- no row has the last line
row_no_end : (row : Row) (x y : List ℕ) → row_line row ++ x ≡ finish ++ y → ⊥
row_no_end row x y e = by row.is_equality (signed_decimal row.right ++ pairs_text row.entries) (sym (row_behind row x) ∙ e)
  where
    starts : (u v : List ℕ) → 114 ∷ u ≡ 101 ∷ v → ⊥
    starts u v k = let c : ◌≡◌ {A = ℕ} 114 101 = cc in omega arith

    by : (b : Bool) (t : List ℕ) → (kind_word b ++ t) ++ 10 ∷ x ≡ finish ++ y → ⊥
    by true t h = starts _ _ h
    by false t h = starts _ _ h

-- rows that a text begins with are the first rows of each program that it begins
pub record HasMore (rows all : List Row) (x u : List ℕ) : Type 0 where
  pub more : List Row
  pub is : all ≡ rows ++ more
  pub text : rows_text more ++ (finish ++ x) ≡ u

has-more : (count : ℕ) (rows all : List Row) (x u : List ℕ) → count ≤ 32768 → AllByRecursion (IsRowLine count) rows → AllByRecursion (IsRowLine count) all → rows_text all ++ (finish ++ x) ≡ rows_text rows ++ u → HasMore rows all x u
has-more count [] all x u few f g e = record { more = all; is = refl; text = e }
has-more count (row ∷ rows) [] x u few f g e = absurd (row_no_end row (rows_text rows ++ u) x (sym (append_assoc (row_line row) (rows_text rows) u) ∙ sym e))
has-more count (row ∷ rows) (first ∷ all) x u few f g e =
    let same = row_once count first row (rows_text all ++ (finish ++ x)) (rows_text rows ++ u) few g.0 f.0 (sym (append_assoc (row_line first) (rows_text all) (finish ++ x)) ∙ e ∙ append_assoc (row_line row) (rows_text rows) u) in
    let later = has-more count rows all x u few f.1 g.1 same.rest in
    record { more = later.more; is = (λ i. same.row i ∷ later.is i); text = later.text }

pub record IsBehind (count : ℕ) (rows : List Row) (p : Program) (x u : List ℕ) : Type 0 where
  pub same : variables p ≡ count
  pub more : List Row
  pub is : p.rows ≡ rows ++ more
  pub text : rows_text more ++ (finish ++ x) ≡ u

is-behind : (count : ℕ) (rows : List Row) (p : Program) (x u : List ℕ) → count ≤ 32768 → AllByRecursion (IsRowLine count) rows → IsProgramText p → program_text p ++ x ≡ (head_text count ++ rows_text rows) ++ u → IsBehind count rows p x u
is-behind count rows p x u few each is e =
    let head = head_once (variables p) count ((rows_text p.rows ++ finish) ++ x) (rows_text rows ++ u) is.few_variables few
    (sym (append_assoc (head_text (variables p)) (rows_text p.rows ++ finish) x) ∙ e ∙ append_assoc (head_text count) (rows_text rows) u) in
    let h = has-more count rows p.rows x u few each (subst (λ n. AllByRecursion (IsRowLine n) p.rows) head.count is.rows) (sym (append_assoc (rows_text p.rows) finish x) ∙ head.rest) in
    record { same = head.count; more = h.more; is = h.is; text = h.text }

-- where neither a row nor the end can follow
pub wrong_rows : (text rest : List ℕ) (count : ℕ) (rows : List Row) → text ≡ head_text count ++ (rows_text rows ++ rest) → count ≤ 32768 → length rows ≤ 16384 → AllByRecursion (IsRowLine count) rows →
    ((more : List ℕ) → rest ≡ finish ++ more → ⊥) → (length rows < 16384 → (row : Row) (more : List ℕ) → IsRowLine count row → rest ≡ row_line row ++ more → ⊥) → IsWrongWhole text (length rest)
unfolding front_of
wrong_rows text rest count rows e few some each no_end no_row = whole_wrong program_text IsProgramText text (length rest)
    (lift_wrong program_text IsProgramText more_text (AreMore count (length rows)) (head_text count ++ rows_text rows) rest text (length rest)
    (whole_lines (head_text count) (rows_text rows) (head_whole count) (rows_whole rows)) (e ∙ sym (append_assoc (head_text count) (rows_text rows) rest)) up down
    (line_wrong more_text (AreMore count (length rows)) front_of behind_of rest [] (record { few = omega arith; each = tt }) more_splits (λ more is. more_free count (length rows) more few is) none))
  where
    up : (w : List Row) → AreMore count (length rows) w → (p : Program) × IsProgramText p × (more : List ℕ) × (program_text p ≡ (head_text count ++ rows_text rows) ++ (more_text w ++ more))
    up w is = (
      made count (rows ++ w),
      made_is count (rows ++ w) few (let n = length-append rows w in let f = is.few in omega arith) (all_both (IsRowLine count) rows w each is.each),
      [],
      made_text count (rows ++ w) ∙ ap (λ z. head_text count ++ (z ++ finish)) (rows_append rows w) ∙ ap (λ z. head_text count ++ z) (append_assoc (rows_text rows) (rows_text w) finish)
          ∙ sym (append_assoc (head_text count) (rows_text rows) (more_text w)) ∙ ap (λ z. (head_text count ++ rows_text rows) ++ z) (sym (append-nil (more_text w))),
    )

    down : (p : Program) (x u : List ℕ) → IsProgramText p → program_text p ++ x ≡ (head_text count ++ rows_text rows) ++ u → (w : List Row) × AreMore count (length rows) w × (y : List ℕ) × (more_text w ++ y ≡ u)
    down p x u is g =
        let b = is-behind count rows p x u few each is g in (
          b.more,
          record {
            few = (let n = length-append rows b.more in let l = ap length b.is in let f = is.few_rows in omega arith);
            each = all_right (IsRowLine count) rows b.more (subst (AllByRecursion (IsRowLine count)) b.is (subst (λ n. AllByRecursion (IsRowLine n) p.rows) b.same is.rows));
          },
          x,
          append_assoc (rows_text b.more) finish x ∙ b.text,
        )

    none : (more : List Row) (z : List ℕ) → AreMore count (length rows) more → rest ≡ front_of more ++ 10 ∷ z → ⊥
    none [] z is h = no_end z h
    none (row ∷ later) z is h = no_row (let f = is.few in omega arith) row z is.each.0 (h ∙ sym (row_behind row z))

-- The whole.

pub program_is : (text rest : List ℕ) (count : ℕ) (program : Program) → program.upper ≡ replicate count true → text ≡ head_text count ++ (rows_text program.rows ++ rest) → rest ≡ finish → text ≡ program_text program
program_is text rest count program u e f =
    e ∙ ap (λ z. head_text count ++ (rows_text program.rows ++ z)) f ∙ ap (λ n. head_text n ++ (rows_text program.rows ++ finish)) (sym (ap length u ∙ length-replicate count true))

pub is_program_text : (count : ℕ) (program : Program) → program.upper ≡ replicate count true → count ≤ 32768 → length program.rows ≤ 16384 → AllByRecursion (IsRowLine count) program.rows → IsProgramText program
is_program_text count program u few some each = record {
  upper = u ∙ ap (λ n. replicate n true) (sym size);
  few_variables = let s = size in omega arith;
  few_rows = some;
  rows = subst (λ n. AllByRecursion (IsRowLine n) program.rows) (sym size) each;
}
  where
    size : variables program ≡ count
    size = ap length u ∙ length-replicate count true

pub program_once : (a b : Program) (x : List ℕ) → IsProgramText a → IsProgramText b → program_text a ≡ program_text b ++ x → x ≡ []
program_once a b x f g e = by behind.more behind.text
  where
    behind : IsBehind (variables b) b.rows a [] (finish ++ x)
    behind = is-behind (variables b) b.rows a [] (finish ++ x) g.few_variables g.rows f
        (append-nil (program_text a) ∙ e ∙ append_assoc (head_text (variables b)) (rows_text b.rows ++ finish) x ∙ ap (λ z. head_text (variables b) ++ z) (append_assoc (rows_text b.rows) finish x) ∙ sym (append_assoc (head_text (variables b)) (rows_text b.rows) (finish ++ x)))

    by : (more : List Row) → rows_text more ++ (finish ++ []) ≡ finish ++ x → x ≡ []
    by [] h = sym (append_cancel_left finish [] x h)
    by (row ∷ rows) h = absurd (row_no_end row (rows_text rows ++ (finish ++ [])) x (sym (append_assoc (row_line row) (rows_text rows) (finish ++ [])) ∙ h))

-- a text stands for one program
pub program_same : (a b : Program) → IsProgramText a → IsProgramText b → program_text a ≡ program_text b → a ≡ b
program_same a b f g e = by behind.more behind.is behind.text
  where
    behind : IsBehind (variables b) b.rows a [] (finish ++ [])
    behind = is-behind (variables b) b.rows a [] (finish ++ []) g.few_variables g.rows f
        (append-nil (program_text a) ∙ e ∙ sym (append-nil (program_text b)) ∙ append_assoc (head_text (variables b)) (rows_text b.rows ++ finish) [] ∙ ap (λ z. head_text (variables b) ++ z) (append_assoc (rows_text b.rows) finish []) ∙ sym (append_assoc (head_text (variables b)) (rows_text b.rows) (finish ++ [])))

    upper : a.upper ≡ b.upper
    upper = f.upper ∙ ap (λ n. replicate n true) behind.same ∙ sym g.upper

    by : (more : List Row) → a.rows ≡ b.rows ++ more → rows_text more ++ (finish ++ []) ≡ finish ++ [] → a ≡ b
    by [] r h = let rows = r ∙ append-nil b.rows in λ i. record { rows = rows i; upper = upper i }
    by (row ∷ rows) r h = absurd (row_no_end row (rows_text rows ++ (finish ++ [])) [] (sym (append_assoc (row_line row) (rows_text rows) (finish ++ [])) ∙ h))

pub extra : (text rest more : List ℕ) (count : ℕ) (program : Program) → program.upper ≡ replicate count true → text ≡ head_text count ++ (rows_text program.rows ++ rest) → rest ≡ finish ++ more → count ≤ 32768 → length program.rows ≤ 16384 →
    AllByRecursion (IsRowLine count) program.rows → (more ≡ [] → ⊥) → IsWrongWhole text (length more)
extra text rest more count program u e f few some each nonempty =
    past_end program_text IsProgramText text more program (length more) (is_program_text count program u few some each) whole
    (whole_lines (head_text (variables program)) (rows_text program.rows ++ finish) (head_whole (variables program)) (whole_lines (rows_text program.rows) finish (rows_whole program.rows) (inr (codes "end", refl)))) nonempty refl
    (λ v x k h. program_once v program x k (is_program_text count program u few some each) h)
  where
    whole : text ≡ program_text program ++ more
    whole = e ∙ ap (λ z. head_text count ++ (rows_text program.rows ++ z)) f ∙ ap (λ n. head_text n ++ (rows_text program.rows ++ (finish ++ more))) (sym (ap length u ∙ length-replicate count true))
        ∙ ap (λ z. head_text (variables program) ++ z) (sym (append_assoc (rows_text program.rows) finish more)) ∙ sym (append_assoc (head_text (variables program)) (rows_text program.rows ++ finish) more)

-- a row that was read is one of the program
pub is_row : (count : ℕ) (program : Program) (row : Row) → program.upper ≡ replicate count true → IsRowLine count row → IsRow program row
is_row count program row u is = record {
  ascend = is.entries.ascend;
  exist = subst (λ n. AllByRecursion (λ e. e.0 < n) row.entries) (sym (ap length u ∙ length-replicate count true)) is.entries.below;
  small = is.entries.small;
  small_right = is.right;
}

pub rows_push : (rows : List Row) (row : Row) → rows_text (rows ++ row ∷ []) ≡ rows_text rows ++ row_line row
rows_push rows row = rows_append rows (row ∷ []) ∙ ap (λ z. rows_text rows ++ z) (append-nil (row_line row))

pub row_pushed : (text rest others : List ℕ) (count : ℕ) (rows after : List Row) (row : Row) → text ≡ head_text count ++ (rows_text rows ++ rest) → rest ≡ row_line row ++ others → after ≡ rows ++ row ∷ [] → text ≡ head_text count ++ (rows_text after ++ others)
row_pushed text rest others count rows after row e f g =
    e ∙ ap (λ z. head_text count ++ (rows_text rows ++ z)) f ∙ ap (λ z. head_text count ++ z) (sym (append_assoc (rows_text rows) (row_line row) others)) ∙ ap (λ z. head_text count ++ (z ++ others)) (sym (ap rows_text g ∙ rows_push rows row))

pub all_pushed : (count : ℕ) (rows after : List Row) (row : Row) → AllByRecursion (IsRowLine count) rows → IsRowLine count row → after ≡ rows ++ row ∷ [] → AllByRecursion (IsRowLine count) after
all_pushed count rows after row all is e = subst (AllByRecursion (IsRowLine count)) (sym e) (all_both (IsRowLine count) rows (row ∷ []) all (is, tt))
