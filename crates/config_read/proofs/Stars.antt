-- Lines of one kind, as many as there are, and then a text of another form.
use Rattle.std.proofs.Common.{◌≡◌, ◌≢◌, ℕ, inl, inr, List, [], ◌∷◌, ◌++◌, length, refl, sym, ◌∙◌, ap, append_assoc, append-nil}
use Rattle.std.proofs.lemmas.List.{append_cancel_left}
use Rattle.std.specs.List.{AllByRecursion, flat_map}
use Rattle.merlin_base.specs.Lexemes.{Lacks}
use Rattle.merlin_base.specs.Faults.{IsWholeLines, GoesWrong}
use Rattle.config_read.specs.Sections.{TakesAll}
use Rattle.merlin_base.proofs.Cutting.{Free, free, AreSame, cut_once}
use Rattle.merlin_base.proofs.WrongLines.{line_wrong, lift_wrong, whole_lines}

-- Lines of a kind: each is one line, and its front lacks the newline.
pub record AreLines {V : Type 0} (line : V → List ℕ) (Is : V → Type 0) : Type 0 where
  pub front : V → List ℕ
  pub is : (v : V) → line v ≡ front v ++ 10 ∷ []
  pub free : (v : V) → Is v → Free 10 (front v)

-- no text begins both with such a line and with a text of the other form
abbrev pub AreApart : {V W : Type 0} → (V → List ℕ) → (V → Type 0) → (W → List ℕ) → (W → Type 0) → Type 0
AreApart {V} {W} line Is text_of IsOther = (v : V) (w : W) (x y : List ℕ) → Is v → IsOther w → line v ++ x ≡ text_of w ++ y → ⊥

abbrev pub star_text : {V W : Type 0} → (V → List ℕ) → (W → List ℕ) → List V × W → List ℕ
star_text line text_of p = flat_map line p.0 ++ text_of p.1

abbrev pub IsStar : {V W : Type 0} → (V → Type 0) → (W → Type 0) → List V × W → Type 0
IsStar Is IsOther p = AllByRecursion Is p.0 × IsOther p.1

line_behind : {V : Type 0} (line : V → List ℕ) (Is : V → Type 0) (lines : AreLines line Is) (v : V) (x : List ℕ) → line v ++ x ≡ lines.front v ++ 10 ∷ x
line_behind line Is lines v x = ap (λ t. t ++ x) (lines.is v) ∙ append_assoc (lines.front v) (10 ∷ []) x

pub lines_whole : {V : Type 0} (line : V → List ℕ) (Is : V → Type 0) (lines : AreLines line Is) (vs : List V) → IsWholeLines (flat_map line vs)
lines_whole line Is lines [] = inl refl
lines_whole line Is lines (v ∷ vs) = whole_lines (line v) (flat_map line vs) (inr (lines.front v, lines.is v)) (lines_whole line Is lines vs)

-- two lines that begin one text leave the same behind them
pub line_rest : {V : Type 0} (line : V → List ℕ) (Is : V → Type 0) (lines : AreLines line Is) (v w : V) (x y : List ℕ) → Is v → Is w → line v ++ x ≡ line w ++ y → x ≡ y
line_rest line Is lines v w x y f g e =
    (cut_once 10 (lines.front v) (lines.front w) x y (lines.free v f) (lines.free w g) (sym (line_behind line Is lines v x) ∙ e ∙ line_behind line Is lines w y)).rest

-- What a text of the form has behind lines that were read.
pub record IsBehind {V W : Type 0} (line : V → List ℕ) (Is : V → Type 0) (text_of : W → List ℕ) (IsOther : W → Type 0) (x u : List ℕ) : Type 0 where
  pub more : List V
  pub other : W
  pub each : AllByRecursion Is more
  pub is : IsOther other
  pub text : flat_map line more ++ (text_of other ++ x) ≡ u

pub is-behind : {V W : Type 0} (line : V → List ℕ) (Is : V → Type 0) (text_of : W → List ℕ) (IsOther : W → Type 0) → AreLines line Is → AreApart line Is text_of IsOther →
    (done all : List V) (other : W) (x u : List ℕ) → AllByRecursion Is done → AllByRecursion Is all → IsOther other → flat_map line all ++ (text_of other ++ x) ≡ flat_map line done ++ u → IsBehind line Is text_of IsOther x u
is-behind line Is text_of IsOther lines apart [] all other x u f g is e = record { more = all; other = other; each = g; is = is; text = e }
is-behind line Is text_of IsOther lines apart (d ∷ ds) [] other x u f g is e =
    absurd (apart d other (flat_map line ds ++ u) x f.0 is (sym (append_assoc (line d) (flat_map line ds) u) ∙ sym e))
is-behind line Is text_of IsOther lines apart (d ∷ ds) (a ∷ all) other x u f g is e =
    is-behind line Is text_of IsOther lines apart ds all other x u f.1 g.1 is
    (line_rest line Is lines a d (flat_map line all ++ (text_of other ++ x)) (flat_map line ds ++ u) g.0 f.0
    (sym (append_assoc (line a) (flat_map line all) (text_of other ++ x)) ∙ e ∙ append_assoc (line d) (flat_map line ds) u))

-- a line that whole lines begin with stands in them
record StandsIn (whole line : List ℕ) : Type 0 where
  later : List ℕ
  is : whole ≡ line ++ 10 ∷ later

stands-in : (front fr z s : List ℕ) → Free 10 front → front ++ 10 ∷ z ≡ fr ++ 10 ∷ s → StandsIn (fr ++ 10 ∷ []) front
stands-in [] [] z s f e = record { later = []; is = refl }
stands-in [] (d ∷ fr) z s f e = let same : 10 ≡ d = cc in record { later = fr ++ 10 ∷ []; is = ap (λ c. c ∷ (fr ++ 10 ∷ [])) (sym same) }
stands-in (c ∷ front) [] z s f e = absurd (let same : c ≡ 10 = cc in f.0 same)
stands-in (c ∷ front) (d ∷ fr) z s f e =
    let first : c ≡ d = cc in
    let rest : front ++ 10 ∷ z ≡ fr ++ 10 ∷ s = cc in
    let ih = stands-in front fr z s f.1 rest in
    record { later = ih.later; is = ap (λ k. k ∷ (fr ++ 10 ∷ [])) (sym first) ∙ ap (λ t. c ∷ t) ih.is }

pub star_wrong : {V W : Type 0} (line : V → List ℕ) (Is : V → Type 0) (text_of : W → List ℕ) (IsOther : W → Type 0) → AreLines line Is → AreApart line Is text_of IsOther →
    (text : List ℕ) (vs : List V) (rest : List ℕ) (left : ℕ) → TakesAll line Is text vs rest → GoesWrong text_of IsOther rest left → GoesWrong (star_text line text_of) (IsStar Is IsOther) text left
star_wrong {V} {W} line Is text_of IsOther lines apart text vs rest left t g = record {
  before = flat_map line vs ++ g.before;
  after = g.after;
  splits = t.whole ∙ ap (λ z. flat_map line vs ++ z) g.splits ∙ sym (append_assoc (flat_map line vs) g.before g.after);
  at = g.at;
  lines = whole_lines (flat_map line vs) g.before (lines_whole line Is lines vs) g.lines;
  begins = (
    (vs, g.begins.0),
    (t.each, g.begins.1),
    g.begins.2,
    ap (λ z. flat_map line vs ++ z) g.begins.3 ∙ sym (append_assoc (flat_map line vs) g.before g.begins.2),
  );
  wrong = λ last more l h p x y is k.
      let b = is-behind line Is text_of IsOther lines apart vs p.0 p.1 x ((g.before ++ (last ++ 10 ∷ [])) ++ y) t.each is.0 is.1
      (sym (append_assoc (flat_map line p.0) (text_of p.1) x) ∙ k ∙ ap (λ z. z ++ y) (append_assoc (flat_map line vs) g.before (last ++ 10 ∷ [])) ∙ append_assoc (flat_map line vs) (g.before ++ (last ++ 10 ∷ [])) y) in
      go_on last more l h x y b.more b.other b.each b.is b.text;
  none = λ p x is k.
      let b = is-behind line Is text_of IsOther lines apart vs p.0 p.1 x rest t.each is.0 is.1 (sym (append_assoc (flat_map line p.0) (text_of p.1) x) ∙ k ∙ t.whole) in
      no_more x b.more b.other b.each b.is b.text;
}
  where
    no_more : (x : List ℕ) (more : List V) (other : W) → AllByRecursion Is more → IsOther other → flat_map line more ++ (text_of other ++ x) ≡ rest → ⊥
    no_more x [] other each is e = g.none other x is e
    no_more x (v ∷ later) other each is e = t.ends v (flat_map line later ++ (text_of other ++ x)) each.0 (sym e ∙ append_assoc (line v) (flat_map line later) (text_of other ++ x))

    begun : (v : V) (z last more y : List ℕ) → Is v → Lacks 10 last → g.after ≡ last ++ 10 ∷ more → IsWholeLines g.before → line v ++ z ≡ (g.before ++ (last ++ 10 ∷ [])) ++ y → ⊥
    begun v z last more y is l h (inl none) e =
        let first : lines.front v ++ 10 ∷ z ≡ last ++ 10 ∷ y =
        sym (line_behind line Is lines v z) ∙ e ∙ ap (λ b. (b ++ (last ++ 10 ∷ [])) ++ y) none ∙ append_assoc last (10 ∷ []) y in
        let same = cut_once 10 (lines.front v) last z y (lines.free v is) (free 10 last l) first in
        t.ends v more is (g.splits ∙ ap (λ b. b ++ g.after) none ∙ h ∙ ap (λ f. f ++ 10 ∷ more) (sym same.front) ∙ sym (line_behind line Is lines v more))
    begun v z last more y is l h (inr (fr, whole)) e =
        let first : lines.front v ++ 10 ∷ z ≡ fr ++ 10 ∷ ((last ++ 10 ∷ []) ++ y) =
        sym (line_behind line Is lines v z) ∙ e ∙ append_assoc g.before (last ++ 10 ∷ []) y ∙ ap (λ b. b ++ ((last ++ 10 ∷ []) ++ y)) whole ∙ append_assoc fr (10 ∷ []) ((last ++ 10 ∷ []) ++ y) in
        let stands = stands-in (lines.front v) fr z ((last ++ 10 ∷ []) ++ y) (lines.free v is) first in
        t.ends v (stands.later ++ g.after) is
        (g.splits ∙ ap (λ b. b ++ g.after) (whole ∙ stands.is) ∙ append_assoc (lines.front v) (10 ∷ stands.later) g.after ∙ sym (line_behind line Is lines v (stands.later ++ g.after)))

    go_on : (last more : List ℕ) → Lacks 10 last → g.after ≡ last ++ 10 ∷ more → (x y : List ℕ) (later : List V) (other : W) → AllByRecursion Is later → IsOther other →
        flat_map line later ++ (text_of other ++ x) ≡ (g.before ++ (last ++ 10 ∷ [])) ++ y → ⊥
    go_on last more l h x y [] other each is e = g.wrong last more l h other x y is e
    go_on last more l h x y (v ∷ later) other each is e =
        begun v (flat_map line later ++ (text_of other ++ x)) last more y each.0 l h g.lines (sym (append_assoc (line v) (flat_map line later) (text_of other ++ x)) ∙ e)

-- What stands behind lines of a kind and a text of the form is the same, however the two are read.
pub star_rest : {V W : Type 0} (line : V → List ℕ) (Is : V → Type 0) (text_of : W → List ℕ) (IsOther : W → Type 0) → AreLines line Is → AreApart line Is text_of IsOther → ((a b : W) (x y : List ℕ) → IsOther a → IsOther b → text_of a ++ x ≡ text_of b ++ y → x ≡ y) →
    (p q : List V × W) (x y : List ℕ) → IsStar Is IsOther p → IsStar Is IsOther q → star_text line text_of p ++ x ≡ star_text line text_of q ++ y → x ≡ y
star_rest {V} {W} line Is text_of IsOther lines apart once p q x y f g e =
    by p.0 q.0 f.0 g.0 (sym (append_assoc (flat_map line p.0) (text_of p.1) x) ∙ e ∙ append_assoc (flat_map line q.0) (text_of q.1) y)
  where
    by : (vs ws : List V) → AllByRecursion Is vs → AllByRecursion Is ws → flat_map line vs ++ (text_of p.1 ++ x) ≡ flat_map line ws ++ (text_of q.1 ++ y) → x ≡ y
    by [] [] fs gs h = once p.1 q.1 x y f.1 g.1 h
    by [] (w ∷ ws) fs gs h = absurd (apart w p.1 (flat_map line ws ++ (text_of q.1 ++ y)) x gs.0 f.1 (sym (append_assoc (line w) (flat_map line ws) (text_of q.1 ++ y)) ∙ sym h))
    by (v ∷ vs) [] fs gs h = absurd (apart v q.1 (flat_map line vs ++ (text_of p.1 ++ x)) y fs.0 g.1 (sym (append_assoc (line v) (flat_map line vs) (text_of p.1 ++ x)) ∙ h))
    by (v ∷ vs) (w ∷ ws) fs gs h =
        by vs ws fs.1 gs.1 (line_rest line Is lines v w (flat_map line vs ++ (text_of p.1 ++ x)) (flat_map line ws ++ (text_of q.1 ++ y)) fs.0 gs.0
        (sym (append_assoc (line v) (flat_map line vs) (text_of p.1 ++ x)) ∙ h ∙ append_assoc (line w) (flat_map line ws) (text_of q.1 ++ y)))

-- Behind such lines a text of the form is the whole, and one text has one.
pub star_once : {V W : Type 0} (line : V → List ℕ) (Is : V → Type 0) (text_of : W → List ℕ) (IsOther : W → Type 0) → AreLines line Is → AreApart line Is text_of IsOther →
    ((v w : V) → Is v → Is w → line v ≡ line w → v ≡ w) → ((a b : W) (x y : List ℕ) → IsOther a → IsOther b → text_of a ++ x ≡ text_of b ++ y → (a ≡ b) × (x ≡ y)) →
    (p q : List V × W) (x y : List ℕ) → IsStar Is IsOther p → IsStar Is IsOther q → star_text line text_of p ++ x ≡ star_text line text_of q ++ y → (p ≡ q) × (x ≡ y)
star_once {V} {W} line Is text_of IsOther lines apart same once p q x y f g e =
    by p.0 q.0 p.1 q.1 f.0 g.0 f.1 g.1 (sym (append_assoc (flat_map line p.0) (text_of p.1) x) ∙ e ∙ append_assoc (flat_map line q.0) (text_of q.1) y)
  where
    by : (vs ws : List V) (a b : W) → AllByRecursion Is vs → AllByRecursion Is ws → IsOther a → IsOther b → flat_map line vs ++ (text_of a ++ x) ≡ flat_map line ws ++ (text_of b ++ y) → (◌≡◌ {A = List V × W} (vs, a) (ws, b)) × (x ≡ y)
    by [] [] a b fs gs fa gb h = let r = once a b x y fa gb h in (ap (λ (k : W). let p : List V × W = ([], k) in p) r.0, r.1)
    by [] (w ∷ ws) a b fs gs fa gb h = absurd (apart w a (flat_map line ws ++ (text_of b ++ y)) x gs.0 fa (sym (append_assoc (line w) (flat_map line ws) (text_of b ++ y)) ∙ sym h))
    by (v ∷ vs) [] a b fs gs fa gb h = absurd (apart v b (flat_map line vs ++ (text_of a ++ x)) y fs.0 gb (sym (append_assoc (line v) (flat_map line vs) (text_of a ++ x)) ∙ h))
    by (v ∷ vs) (w ∷ ws) a b fs gs fa gb h =
        let cut : AreSame (lines.front v) (lines.front w) (flat_map line vs ++ (text_of a ++ x)) (flat_map line ws ++ (text_of b ++ y)) =
        cut_once 10 (lines.front v) (lines.front w) _ _ (lines.free v fs.0) (lines.free w gs.0)
        (sym (line_behind line Is lines v (flat_map line vs ++ (text_of a ++ x))) ∙ sym (append_assoc (line v) (flat_map line vs) (text_of a ++ x)) ∙ h ∙ append_assoc (line w) (flat_map line ws) (text_of b ++ y) ∙ line_behind line Is lines w (flat_map line ws ++ (text_of b ++ y))) in
        let equal : v ≡ w = same v w fs.0 gs.0 (lines.is v ∙ ap (λ k. k ++ 10 ∷ []) cut.front ∙ sym (lines.is w)) in
        let r = by vs ws a b fs.1 gs.1 fa gb cut.rest in
        (pair_cons v w vs ws a b equal r.0, r.1)
      where
        pair_cons : (v w : V) (vs ws : List V) (a b : W) → v ≡ w → ◌≡◌ {A = List V × W} (vs, a) (ws, b) → ◌≡◌ {A = List V × W} (v ∷ vs, a) (w ∷ ws, b)
        pair_cons v w vs ws a b k h = λ i. (k i ∷ (h i).0, (h i).1)

-- Texts of a form told apart from lines by their first byte.

abbrev pub Begin : {W : Type 0} → (ℕ → Type 0) → (W → List ℕ) → (W → Type 0) → Type 0
Begin {W} P text_of IsOther = (w : W) → IsOther w → (c : ℕ) × (cs : List ℕ) × P c × (text_of w ≡ c ∷ cs)

pub begin_apart : {V W : Type 0} (line : V → List ℕ) (Is : V → Type 0) (text_of : W → List ℕ) (IsOther : W → Type 0) (byte : ℕ) (P : ℕ → Type 0) → ((v : V) → (cs : List ℕ) × (line v ≡ byte ∷ cs)) → Begin P text_of IsOther → ((c : ℕ) → P c → c ≢ byte) →
    AreApart line Is text_of IsOther
begin_apart line Is text_of IsOther byte P heads begin differ v w x y f g e =
    let h = heads v in let b = begin w g in differ b.0 b.2 (head b.0 byte (b.1 ++ y) (h.0 ++ x) (sym (ap (λ t. t ++ y) b.3) ∙ sym e ∙ ap (λ t. t ++ x) h.1))
  where
    head : (a c : ℕ) (r s : List ℕ) → a ∷ r ≡ c ∷ s → a ≡ c
    head a c r s k = cc

pub star_begin : {V W : Type 0} (line : V → List ℕ) (Is : V → Type 0) (text_of : W → List ℕ) (IsOther : W → Type 0) (byte : ℕ) (P Q : ℕ → Type 0) → ((v : V) → (cs : List ℕ) × (line v ≡ byte ∷ cs)) → Begin P text_of IsOther → Q byte → ((c : ℕ) → P c → Q c) →
    Begin Q (star_text line text_of) (IsStar Is IsOther)
star_begin line Is text_of IsOther byte P Q heads begin own others ([], w) is = let b = begin w is.1 in (b.0, b.1, others b.0 b.2, b.3)
star_begin line Is text_of IsOther byte P Q heads begin own others (v ∷ vs, w) is =
    let h = heads v in (byte, h.0 ++ (flat_map line vs ++ text_of w), own, append_assoc (line v) (flat_map line vs) (text_of w) ∙ ap (λ t. t ++ (flat_map line vs ++ text_of w)) h.1)

-- A fixed line before a text of the form.

pub seq_wrong : {W : Type 0} (front : List ℕ) (text_of : W → List ℕ) (Is : W → Type 0) (text rest : List ℕ) (left : ℕ) → IsWholeLines front → text ≡ front ++ rest → GoesWrong text_of Is rest left → GoesWrong (λ w. front ++ text_of w) Is text left
seq_wrong front text_of Is text rest left whole e g =
    lift_wrong (λ w. front ++ text_of w) Is text_of Is front rest text left whole e (λ w is. (w, is, [], ap (λ z. front ++ z) (sym (append-nil (text_of w)))))
    (λ w x t is h. (w, is, x, append_cancel_left front (text_of w ++ x) t (sym (append_assoc front (text_of w) x) ∙ h))) g

pub no_front : {W : Type 0} (front : List ℕ) (text_of : W → List ℕ) (Is : W → Type 0) (text : List ℕ) (some : W) → Is some → Free 10 front → ((rest : List ℕ) → text ≡ front ++ 10 ∷ rest → ⊥) →
    GoesWrong (λ w. (front ++ 10 ∷ []) ++ text_of w) Is text (length text)
no_front front text_of Is text some is lacks none =
    line_wrong (λ w. (front ++ 10 ∷ []) ++ text_of w) Is (λ w. front) text_of text some is (λ w. append_assoc front (10 ∷ []) (text_of w)) (λ w k. lacks) (λ w more k h. none more h)

-- The same form in other words.
pub map_wrong : {V W : Type 0} (text_of : V → List ℕ) (Is : V → Type 0) (part_of : W → List ℕ) (IsPart : W → Type 0) (to : W → V) (from : V → W) → ((w : W) → IsPart w → Is (to w)) → ((v : V) → Is v → IsPart (from v)) →
    ((w : W) → IsPart w → text_of (to w) ≡ part_of w) → ((v : V) → Is v → part_of (from v) ≡ text_of v) → (text : List ℕ) (left : ℕ) → GoesWrong part_of IsPart text left → GoesWrong text_of Is text left
map_wrong text_of Is part_of IsPart to from up down texts back text left g =
    lift_wrong text_of Is part_of IsPart [] text text left (inl refl) refl (λ w is. (to w, up w is, [], texts w is ∙ sym (append-nil (part_of w)))) (λ v x t is h. (from v, down v is, x, ap (λ z. z ++ x) (back v is) ∙ h)) g
