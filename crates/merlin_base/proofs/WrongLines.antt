-- Going wrong at a line, in a part of a text and in the whole.
use Rattle.std.proofs.Common.{◌≡◌, ℕ, ◌+◌, ◌-◌, ◌≤◌, inl, inr, List, [], ◌∷◌, ◌++◌, length, length-append, refl, sym, ◌∙◌, ap, subst, append_assoc, append-nil, arith}
use Rattle.merlin_base.specs.Faults.{IsWholeLines, IsFirstWrongLine}
use Rattle.merlin_base.specs.Faults.{GoesWrong}
use Rattle.merlin_base.proofs.Cutting.{Free, free, AreSame, cut_once}

-- the first line is wrong where no value has a text that begins with it
pub line_wrong : {V : Type 0} (text_of : V → List ℕ) (Is : V → Type 0) (front later : V → List ℕ) (text : List ℕ) (some : V) → Is some → ((v : V) → text_of v ≡ front v ++ 10 ∷ later v) → ((v : V) → Is v → Free 10 (front v)) →
    ((v : V) (rest : List ℕ) → Is v → text ≡ front v ++ 10 ∷ rest → ⊥) → GoesWrong text_of Is text (length text)
line_wrong {V} text_of Is front later text some is splits lacking none = record {
  before = [];
  after = text;
  splits = refl;
  at = refl;
  lines = inl refl;
  begins = (some, is, text_of some, refl);
  wrong = λ line more l e v x y iv h.
      let same : AreSame (front v) line (later v ++ x) y = cut_once 10 (front v) line (later v ++ x) y (lacking v iv) (free 10 line l) (sym (behind v x) ∙ h ∙ append_assoc line (10 ∷ []) y) in
      none v more iv (e ∙ ap (λ t. t ++ 10 ∷ more) (sym same.front));
  none = λ v x iv h. none v (later v ++ x) iv (sym h ∙ behind v x);
}
  where
    behind : (v : V) (x : List ℕ) → text_of v ++ x ≡ front v ++ 10 ∷ (later v ++ x)
    behind v x = ap (λ t. t ++ x) (splits v) ∙ append_assoc (front v) (10 ∷ later v) x

pub whole_lines : (xs ys : List ℕ) → IsWholeLines xs → IsWholeLines ys → IsWholeLines (xs ++ ys)
whole_lines xs ys a (inl none) = subst (λ (t : List ℕ). IsWholeLines (xs ++ t)) (sym none) (subst IsWholeLines (sym (append-nil xs)) a)
whole_lines xs ys a (inr (front, e)) = inr (xs ++ front, ap (λ t. xs ++ t) e ∙ sym (append_assoc xs front (10 ∷ [])))

-- A part goes wrong behind whole lines that fix what stands before it.
pub lift_wrong : {V W : Type 0} (text_of : V → List ℕ) (Is : V → Type 0) (part_of : W → List ℕ) (IsPart : W → Type 0) (before text whole : List ℕ) (left : ℕ) → IsWholeLines before → whole ≡ before ++ text →
    ((w : W) → IsPart w → (v : V) × Is v × (more : List ℕ) × (text_of v ≡ before ++ (part_of w ++ more))) →
    ((v : V) (x t : List ℕ) → Is v → text_of v ++ x ≡ before ++ t → (w : W) × IsPart w × (y : List ℕ) × (part_of w ++ y ≡ t)) →
    GoesWrong part_of IsPart text left → GoesWrong text_of Is whole left
lift_wrong {V} text_of Is part_of IsPart before text whole left lines e up down g = record {
  before = before ++ g.before;
  after = g.after;
  splits = e ∙ ap (λ t. before ++ t) g.splits ∙ sym (append_assoc before g.before g.after);
  at = g.at;
  lines = whole_lines before g.before lines g.lines;
  begins =
      let b = g.begins in
      let u = up b.0 b.1 in
      (u.0, u.1, b.2 ++ u.2, u.3 ∙ ap (λ t. before ++ (t ++ u.2)) b.3 ∙ ap (λ t. before ++ t) (append_assoc g.before b.2 u.2) ∙ sym (append_assoc before g.before (b.2 ++ u.2)));
  wrong = λ line more l h v x y is k.
      let d = down v x ((g.before ++ (line ++ 10 ∷ [])) ++ y) is (k ∙ ap (λ t. t ++ y) (append_assoc before g.before (line ++ 10 ∷ [])) ∙ append_assoc before (g.before ++ (line ++ 10 ∷ [])) y) in
      g.wrong line more l h d.0 d.2 y d.1 d.3;
  none = λ v x is h. let d = down v x text is (h ∙ e) in g.none d.0 d.2 d.1 d.3;
}

-- the whole goes wrong where it does as a part
pub whole_wrong : {V : Type 0} (text_of : V → List ℕ) (Is : V → Type 0) (text : List ℕ) (left : ℕ) → GoesWrong text_of Is text left → (left ≤ length text) × IsFirstWrongLine text_of Is text (length text - left)
whole_wrong text_of Is text left g = (
  let s = size in let a = g.at in omega arith,
  record {
    before = g.before;
    after = g.after;
    splits = g.splits;
    at = let s = size in let a = g.at in omega arith;
    lines = g.lines;
    begins = g.begins;
    wrong = λ line more l e b. g.wrong line more l e b.0 [] b.2 b.1 (append-nil (text_of b.0) ∙ b.3);
    none = λ v is e. g.none v [] is (append-nil (text_of v) ∙ sym e);
  },
)
  where
    size : length text ≡ length g.before + length g.after
    size = ap length g.splits ∙ length-append g.before g.after

-- Behind a whole text anything is wrong, where no text of the form begins another.
pub past_end : {V : Type 0} (text_of : V → List ℕ) (Is : V → Type 0) (text more : List ℕ) (value : V) (left : ℕ) → Is value → text ≡ text_of value ++ more → IsWholeLines (text_of value) → (more ≡ [] → ⊥) → left ≡ length more →
    ((v : V) (x : List ℕ) → Is v → text_of v ≡ text_of value ++ x → x ≡ []) → (left ≤ length text) × IsFirstWrongLine text_of Is text (length text - left)
past_end text_of Is text more value left is e lines some size once = (
  let s = total in omega arith,
  record {
    before = text_of value;
    after = more;
    splits = e;
    at = let s = total in omega arith;
    lines = lines;
    begins = (value, is, [], sym (append-nil (text_of value)));
    wrong = λ line rest l h b. nonempty line (b.2) (once b.0 ((line ++ 10 ∷ []) ++ b.2) b.1 (b.3 ∙ append_assoc (text_of value) (line ++ 10 ∷ []) b.2));
    none = λ v iv h. some (once v more iv (sym h ∙ e));
  },
)
  where
    total : length text ≡ length (text_of value) + length more
    total = ap length e ∙ length-append (text_of value) more

    nonempty : (line y : List ℕ) → (line ++ 10 ∷ []) ++ y ≡ [] → ⊥
    nonempty [] y h = let no_way : 10 ∷ y ≡ [] → ⊥ = λ k. cc in no_way h
    nonempty (c ∷ cs) y h = let no_way : c ∷ ((cs ++ 10 ∷ []) ++ y) ≡ [] → ⊥ = λ k. cc in no_way h
