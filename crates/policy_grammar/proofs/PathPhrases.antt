-- Reading a path: its lexemes lead to the state after it, and only the lexemes of a path lead there.
use Rattle.std.proofs.Common.{if◌then◌else◌, ℕ, ◌≡◌, ◌+◌, ◌<◌, ◌≤◌, zero, suc, Bool, true, false, cond, List, [], ◌∷◌, ◌++◌, Some, None, Result, Ok, nat_lt, length, ok_or, refl, sym, ap, ◌∙◌, ◌⊎◌, inl, inr, ⊎_elim, append_assoc, arith}
use Rattle.std.proofs.lemmas.Bool.{lt-ltb, ltb-true}
use Rattle.std.proofs.lemmas.List.{length-append}
use Rattle.merlin_text.specs.declared.token.Sign.TheVariants as signs
use Rattle.policy_grammar.specs.declared.limits.TheConstants.{MAX_NESTING}
use Rattle.policy_grammar.specs.declared.written.RawPath.{RawPath, Dot, Named, Star, Not as NotPath}
use Rattle.policy_grammar.specs.declared.written.WrittenPolicy.{WrittenPolicy}
use Rattle.policy_grammar.specs.Lexemes.{Lexeme, name, sign}
use Rattle.policy_grammar.specs.PathTexts.{Rep, bang, dot, named, group, Seq, rep as only, then as joined, Alts, seq, or, stars, spell_rep, spell_seq, spell_path, one_or_cat, one_or_alt, starred, rep_value, rep_values, seq_values, path_value, rep_depth, seq_depth, path_depth, rep_names, seq_names, path_names}
use Rattle.policy_grammar.specs.Machine.{Awaited, rep, prim, path_negation, reps, alts, whole_path, path_bracket, State, on, awaiting, opens, put_path, repeated, feed_rep, feed_alts, feed_sequence, feed_all, begins_rep, finish_all, next_step, run}

-- What stands around a phrase.

abbrev pub no_star : List Lexeme → Bool
no_star [] = true
no_star (sign signs.Star ∷ _) = false
no_star (_ ∷ _) = true

abbrev pub no_bar : List Lexeme → Bool
no_bar [] = true
no_bar (sign signs.Bar ∷ _) = false
no_bar (_ ∷ _) = true

-- whether a rep may begin so
abbrev pub begins : List Lexeme → Bool
begins [] = false
begins (t ∷ _) = begins_rep t

-- what goes on with no path: no star, no bar, no rep
abbrev pub ends_path : List Lexeme → Bool
ends_path [] = true
ends_path (sign signs.Star ∷ _) = false
ends_path (sign signs.Bar ∷ _) = false
ends_path (t ∷ _) = if begins_rep t then false else true

-- a sequence, perhaps under bangs
abbrev pub in_sequence : List Awaited → Bool
in_sequence (path_negation ∷ k) = in_sequence k
in_sequence (reps _ ∷ _) = true
in_sequence _ = false

ends-star : (y : List Lexeme) → ends_path y ≡ true → no_star y ≡ true
ends-star [] h = refl
ends-star (sign signs.Star ∷ y) h = cc
ends-star (_ ∷ y) h = refl

ends-bar : (y : List Lexeme) → ends_path y ≡ true → no_bar y ≡ true
ends-bar [] h = refl
ends-bar (sign signs.Bar ∷ y) h = cc
ends-bar (_ ∷ y) h = refl

ends-begins : (y : List Lexeme) → ends_path y ≡ true → begins y ≡ false
ends-begins [] h = refl
ends-begins (name _ _ ∷ y) h = cc
ends-begins (sign signs.Bang ∷ y) h = cc
ends-begins (sign signs.Dot ∷ y) h = cc
ends-begins (sign signs.OpenGroup ∷ y) h = cc
ends-begins (_ ∷ y) h = refl

begins-star : (y : List Lexeme) → begins y ≡ true → no_star y ≡ true
begins-star [] h = refl
begins-star (sign signs.Star ∷ y) h = cc
begins-star (_ ∷ y) h = refl

begins-spell : (s : Seq) (y : List Lexeme) → begins (spell_seq s ++ y) ≡ true
begins-spell (only (bang _)) y = refl
begins-spell (only (dot _)) y = refl
begins-spell (only (named _ _ _)) y = refl
begins-spell (only (group _ _)) y = refl
begins-spell (joined (bang _) _) y = refl
begins-spell (joined (dot _) _) y = refl
begins-spell (joined (named _ _ _) _) y = refl
begins-spell (joined (group _ _) _) y = refl

-- Each phrase has a name or a dot.

mutual
  pub rep-names : (r : Rep) → 1 ≤ rep_names r
  rep-names (bang r) = rep-names r
  rep-names (dot _) = omega arith
  rep-names (named _ _ _) = omega arith
  rep-names (group a _) = path-names a

  pub seq-names : (s : Seq) → 1 ≤ seq_names s
  seq-names (only r) = rep-names r
  seq-names (joined r s) = omega (arith, rep-names r)

  pub path-names : (a : Alts) → 1 ≤ path_names a
  path-names (seq s) = seq-names s
  path-names (or s a) = omega (arith, seq-names s)

-- Where a phrase ends.

put_path-feed : (p : RawPath) (k : List Awaited) (n : ℕ) (t : Lexeme) → in_sequence k ≡ true → feed_all (put_path p k) n t ≡ feed_sequence (put_path p k) n t
put_path-feed p [] n t s = cc
put_path-feed p (path_negation ∷ k) n t s = put_path-feed (NotPath p) k n t s
put_path-feed p (reps _ ∷ k) n t s = refl
put_path-feed p (_ ∷ k) n t s = cc

put_path-finish : (p : RawPath) (k : List Awaited) → in_sequence k ≡ true → finish_all (put_path p k) ≡ None
put_path-finish p [] s = cc
put_path-finish p (path_negation ∷ k) s = put_path-finish (NotPath p) k s
put_path-finish p (reps _ ∷ k) s = refl
put_path-finish p (_ ∷ k) s = cc

-- where no star follows the prim is whole
ends_prim : (y : List Lexeme) (p : RawPath) (b : Bool) (k : List Awaited) (n : ℕ) → in_sequence k ≡ true → no_star y ≡ true → run y (awaiting (prim p b ∷ k) n) ≡ run y (awaiting (put_path (repeated b p) k) n)
ends_prim [] p b k n s h = ap (λ o. ok_or o 0) (sym (put_path-finish (repeated b p) k s))
ends_prim (sign signs.Star ∷ y) p b k n s h = cc
ends_prim (t ∷ y) p b k n s h = ap (λ o. next_step o (suc (length y)) (λ u. run y u)) (sym (put_path-feed (repeated b p) k n t s))

-- where no rep follows the sequence is whole
ends_seq : (y : List Lexeme) (ls ps : List RawPath) (k : List Awaited) (n : ℕ) → begins y ≡ false → run y (awaiting (reps ls ∷ alts ps ∷ k) n) ≡ run y (awaiting (alts (ps ++ one_or_cat ls ∷ []) ∷ k) n)
ends_seq [] ls ps k n h = refl
ends_seq (t ∷ y) ls ps k n h = ap (λ b. next_step (cond b (feed_rep (reps ls ∷ alts ps ∷ k) n t) (feed_alts (ps ++ one_or_cat ls ∷ []) k n t)) (suc (length y)) (λ u. run y u)) h

-- and where one follows it goes on
goes_on : (y : List Lexeme) (ls ps : List RawPath) (k : List Awaited) (n : ℕ) → begins y ≡ true → run y (awaiting (reps ls ∷ alts ps ∷ k) n) ≡ run y (awaiting (rep ∷ reps ls ∷ alts ps ∷ k) n)
goes_on [] ls ps k n h = refl
goes_on (t ∷ y) ls ps k n h = ap (λ b. next_step (cond b (feed_rep (reps ls ∷ alts ps ∷ k) n t) (feed_alts (ps ++ one_or_cat ls ∷ []) k n t)) (suc (length y)) (λ u. run y u)) h

-- where no bar follows the path is whole
ends_alts : (y : List Lexeme) (ps : List RawPath) (k : List Awaited) (n : ℕ) → no_bar y ≡ true → run y (awaiting (alts ps ∷ k) n) ≡ run y (awaiting (whole_path (one_or_alt ps) ∷ k) n)
ends_alts [] ps k n h = refl
ends_alts (sign signs.Bar ∷ y) ps k n h = cc
ends_alts (_ ∷ y) ps k zero h = refl
ends_alts (_ ∷ y) ps k (suc n) h = refl

-- and where one follows another sequence begins
bars : (y : List Lexeme) (ps : List RawPath) (k : List Awaited) (n : ℕ) → 1 ≤ n → run (sign signs.Bar ∷ y) (awaiting (alts ps ∷ k) n) ≡ run y (awaiting (rep ∷ reps [] ∷ alts ps ∷ k) n)
bars y ps k zero h = absurd (omega arith)
bars y ps k (suc n) h = refl

all_stars : (m : ℕ) (y : List Lexeme) (p : RawPath) (k : List Awaited) (n : ℕ) → run (stars m ++ y) (awaiting (prim p true ∷ k) n) ≡ run y (awaiting (prim p true ∷ k) n)
all_stars zero y p k n = refl
all_stars (suc m) y p k n = all_stars m y p k n

reads_stars : (m : ℕ) (y : List Lexeme) (p : RawPath) (k : List Awaited) (n : ℕ) → in_sequence k ≡ true → no_star y ≡ true → run (stars m ++ y) (awaiting (prim p false ∷ k) n) ≡ run y (awaiting (put_path (starred m p) k) n)
reads_stars zero y p k n s h = ends_prim y p false k n s h
reads_stars (suc m) y p k n s h = all_stars m y p k n ∙ ends_prim y p true k n s h

-- Where a phrase begins.

opening : {A : Type 0} (m : ℕ) (x y : A) → m < MAX_NESTING → (if nat_lt m MAX_NESTING then x else y) ≡ x
opening m x y h = ap (λ b. cond b x y) (lt-ltb m MAX_NESTING h)

reads_bang : (y : List Lexeme) (k : List Awaited) (n : ℕ) → 1 ≤ n → opens k < MAX_NESTING → run (sign signs.Bang ∷ y) (awaiting (rep ∷ k) n) ≡ run y (awaiting (rep ∷ path_negation ∷ k) n)
reads_bang y k zero h room = absurd (omega arith)
reads_bang y k (suc n) h room = ap (λ o. next_step o (suc (length y)) (λ u. run y u)) (opening (opens k) (on (rep ∷ path_negation ∷ k) (suc n)) None room)

reads_open : (y : List Lexeme) (k : List Awaited) (n : ℕ) → 1 ≤ n → opens k < MAX_NESTING → run (sign signs.OpenGroup ∷ y) (awaiting (rep ∷ k) n) ≡ run y (awaiting (rep ∷ reps [] ∷ alts [] ∷ path_bracket ∷ k) n)
reads_open y k zero h room = absurd (omega arith)
reads_open y k (suc n) h room = ap (λ o. next_step o (suc (length y)) (λ u. run y u)) (opening (opens k) (on (rep ∷ reps [] ∷ alts [] ∷ path_bracket ∷ k) (suc n)) None room)

-- The lexemes of a phrase are read, whatever stands around them.

mutual
  pub rep_complete : (r : Rep) (y : List Lexeme) (k : List Awaited) (n left : ℕ) → in_sequence k ≡ true → no_star y ≡ true → left ≡ rep_names r + n → opens k + rep_depth r ≤ MAX_NESTING → run (spell_rep r ++ y) (awaiting (rep ∷ k) left) ≡ run y (awaiting (put_path (rep_value r) k) n)
  rep_complete (bang r) y k n left s h e deep =
      reads_bang (spell_rep r ++ y) k left (omega (arith, rep-names r)) (omega arith)
      ∙ rep_complete r y (path_negation ∷ k) n left s h e (omega arith)
  rep_complete (dot m) y k n left s h e deep =
      let same : left ≡ suc n = omega arith in
      ap (λ l. run (sign signs.Dot ∷ stars m ++ y) (awaiting (rep ∷ k) l)) same ∙ reads_stars m y Dot k n s h
  rep_complete (named text place m) y k n left s h e deep =
      let same : left ≡ suc n = omega arith in
      ap (λ l. run (name text place ∷ stars m ++ y) (awaiting (rep ∷ k) l)) same ∙ reads_stars m y (Named text place) k n s h
  rep_complete (group a m) y k n left s h e deep =
      reads_open ((spell_path a ++ sign signs.CloseGroup ∷ stars m) ++ y) k left (omega (arith, path-names a)) (omega arith)
      ∙ ap (λ ts. run ts (awaiting (rep ∷ reps [] ∷ alts [] ∷ path_bracket ∷ k) left)) (append_assoc (spell_path a) (sign signs.CloseGroup ∷ stars m) y)
      ∙ alts_complete a (sign signs.CloseGroup ∷ (stars m ++ y)) [] (path_bracket ∷ k) n left refl e (omega arith)
      ∙ reads_stars m y (path_value a) k n s h

  pub seq_complete : (q : Seq) (y : List Lexeme) (ls ps : List RawPath) (k : List Awaited) (n left : ℕ) → no_star y ≡ true → begins y ≡ false → left ≡ seq_names q + n → opens k + seq_depth q ≤ MAX_NESTING → run (spell_seq q ++ y) (awaiting (rep ∷ reps ls ∷ alts ps ∷ k) left) ≡ run y (awaiting (alts (ps ++ one_or_cat (ls ++ rep_values q) ∷ []) ∷ k) n)
  seq_complete (only r) y ls ps k n left s h e deep =
      rep_complete r y (reps ls ∷ alts ps ∷ k) n left refl s e (omega arith) ∙ ends_seq y (ls ++ rep_value r ∷ []) ps k n h
  seq_complete (joined r q) y ls ps k n left s h e deep =
      let more = spell_seq q ++ y in
      let begun = begins-spell q y in
      ap (λ ts. run ts (awaiting (rep ∷ reps ls ∷ alts ps ∷ k) left)) (append_assoc (spell_rep r) (spell_seq q) y)
      ∙ rep_complete r more (reps ls ∷ alts ps ∷ k) (seq_names q + n) left refl (begins-star more begun) (omega arith) (omega arith)
      ∙ goes_on more (ls ++ rep_value r ∷ []) ps k (seq_names q + n) begun
      ∙ seq_complete q y (ls ++ rep_value r ∷ []) ps k n (seq_names q + n) s h refl (omega arith)
      ∙ ap (λ vs. run y (awaiting (alts (ps ++ one_or_cat vs ∷ []) ∷ k) n)) (append_assoc ls (rep_value r ∷ []) (rep_values q))

  pub alts_complete : (a : Alts) (y : List Lexeme) (ps : List RawPath) (k : List Awaited) (n left : ℕ) → ends_path y ≡ true → left ≡ path_names a + n → opens k + path_depth a ≤ MAX_NESTING → run (spell_path a ++ y) (awaiting (rep ∷ reps [] ∷ alts ps ∷ k) left) ≡ run y (awaiting (whole_path (one_or_alt (ps ++ seq_values a)) ∷ k) n)
  alts_complete (seq q) y ps k n left h e deep =
      seq_complete q y [] ps k n left (ends-star y h) (ends-begins y h) e deep ∙ ends_alts y (ps ++ one_or_cat (rep_values q) ∷ []) k n (ends-bar y h)
  alts_complete (or q a) y ps k n left h e deep =
      ap (λ ts. run ts (awaiting (rep ∷ reps [] ∷ alts ps ∷ k) left)) (append_assoc (spell_seq q) (sign signs.Bar ∷ spell_path a) y)
      ∙ seq_complete q (sign signs.Bar ∷ (spell_path a ++ y)) [] ps k (path_names a + n) left refl refl (omega arith) (omega arith)
      ∙ bars (spell_path a ++ y) (ps ++ one_or_cat (rep_values q) ∷ []) k (path_names a + n) (omega (arith, path-names a))
      ∙ alts_complete a y (ps ++ one_or_cat (rep_values q) ∷ []) k n (path_names a + n) h refl (omega arith)
      ∙ ap (λ vs. run y (awaiting (whole_path (one_or_alt vs) ∷ k) n)) (append_assoc ps (one_or_cat (rep_values q) ∷ []) (seq_values a))

-- a whole path
pub path_complete : (a : Alts) (y : List Lexeme) (k : List Awaited) (n : ℕ) → ends_path y ≡ true → opens k + path_depth a ≤ MAX_NESTING → run (spell_path a ++ y) (awaiting (rep ∷ reps [] ∷ alts [] ∷ k) (path_names a + n)) ≡ run y (awaiting (whole_path (path_value a) ∷ k) n)
path_complete a y k n h deep = alts_complete a y [] k n (path_names a + n) h refl deep

-- The other way round: a run that goes well from where a phrase is awaited has that phrase at its front.

-- stars at the front, and the run after them
record StarsRead (ts : List Lexeme) (f : ℕ → RawPath) (k : List Awaited) (n : ℕ) (w : WrittenPolicy) : Type 0 where
  count : ℕ
  rest : List Lexeme
  spelled : ts ≡ stars count ++ rest
  goes : run rest (awaiting (put_path (f count) k) n) ≡ Ok w

-- a rep at the front, within the limits, and the run after it; and so a sequence, alternatives, a path
record RepRead (ts : List Lexeme) (k : List Awaited) (left : ℕ) (w : WrittenPolicy) : Type 0 where
  tree : Rep
  rest : List Lexeme
  spare : ℕ
  spelled : ts ≡ spell_rep tree ++ rest
  names : rep_names tree + spare ≡ left
  deep : opens k + rep_depth tree ≤ MAX_NESTING
  goes : run rest (awaiting (put_path (rep_value tree) k) spare) ≡ Ok w

record SeqRead (ts : List Lexeme) (ls ps : List RawPath) (k : List Awaited) (left : ℕ) (w : WrittenPolicy) : Type 0 where
  tree : Seq
  rest : List Lexeme
  spare : ℕ
  spelled : ts ≡ spell_seq tree ++ rest
  names : seq_names tree + spare ≡ left
  deep : opens k + seq_depth tree ≤ MAX_NESTING
  goes : run rest (awaiting (alts (ps ++ one_or_cat (ls ++ rep_values tree) ∷ []) ∷ k) spare) ≡ Ok w

record AltsRead (ts : List Lexeme) (ps : List RawPath) (k : List Awaited) (left : ℕ) (w : WrittenPolicy) : Type 0 where
  tree : Alts
  rest : List Lexeme
  spare : ℕ
  spelled : ts ≡ spell_path tree ++ rest
  names : path_names tree + spare ≡ left
  deep : opens k + path_depth tree ≤ MAX_NESTING
  goes : run rest (awaiting (whole_path (one_or_alt (ps ++ seq_values tree)) ∷ k) spare) ≡ Ok w

pub record PathRead (ts : List Lexeme) (k : List Awaited) (left : ℕ) (w : WrittenPolicy) : Type 0 where
  pub tree : Alts
  pub rest : List Lexeme
  pub spare : ℕ
  pub spelled : ts ≡ spell_path tree ++ rest
  pub names : path_names tree + spare ≡ left
  pub deep : opens k + path_depth tree ≤ MAX_NESTING
  pub goes : run rest (awaiting (whole_path (path_value tree) ∷ k) spare) ≡ Ok w

-- Each phrase has a lexeme, so what follows it is shorter.

rep-shorter : (r : Rep) (y : List Lexeme) → length y < length (spell_rep r ++ y)
rep-shorter (bang r) y = omega (arith, rep-shorter r y)
rep-shorter (dot m) y = omega (arith, length-append (stars m) y)
rep-shorter (named _ _ m) y = omega (arith, length-append (stars m) y)
rep-shorter (group a m) y = omega (arith, length-append (spell_path a ++ sign signs.CloseGroup ∷ stars m) y)

seq-shorter : (q : Seq) (y : List Lexeme) → length y < length (spell_seq q ++ y)
seq-shorter (only r) y = rep-shorter r y
seq-shorter (joined r q) y = omega (arith, ap length (append_assoc (spell_rep r) (spell_seq q) y), rep-shorter r (spell_seq q ++ y), length-append (spell_seq q) y)

-- The steps of a run that goes well.

guarded : (b : Bool) (s : State) (m : ℕ) (f : State → Result WrittenPolicy ℕ) (w : WrittenPolicy) → next_step (cond b (Some s) None) m f ≡ Ok w → (b ≡ true) × (f s ≡ Ok w)
guarded true s m f w e = (refl, e)
guarded false s m f w e = cc

more_stars : (ts : List Lexeme) (p : RawPath) (k : List Awaited) (n : ℕ) (w : WrittenPolicy) → in_sequence k ≡ true → run ts (awaiting (prim p true ∷ k) n) ≡ Ok w → StarsRead ts (λ m. Star p) k n w
more_stars [] p k n w s e = record { count = zero; rest = []; spelled = refl; goes = sym (ends_prim [] p true k n s refl) ∙ e }
more_stars (sign signs.Star ∷ ts) p k n w s e =
    let r = more_stars ts p k n w s e in
    record { count = suc r.count; rest = r.rest; spelled = ap (λ x. sign signs.Star ∷ x) r.spelled; goes = r.goes }
more_stars (t ∷ ts) p k n w s e = record { count = zero; rest = t ∷ ts; spelled = refl; goes = sym (ends_prim (t ∷ ts) p true k n s refl) ∙ e }

stars_read : (ts : List Lexeme) (p : RawPath) (k : List Awaited) (n : ℕ) (w : WrittenPolicy) → in_sequence k ≡ true → run ts (awaiting (prim p false ∷ k) n) ≡ Ok w → StarsRead ts (λ m. starred m p) k n w
stars_read [] p k n w s e = record { count = zero; rest = []; spelled = refl; goes = sym (ends_prim [] p false k n s refl) ∙ e }
stars_read (sign signs.Star ∷ ts) p k n w s e =
    let r = more_stars ts p k n w s e in
    record { count = suc r.count; rest = r.rest; spelled = ap (λ x. sign signs.Star ∷ x) r.spelled; goes = r.goes }
stars_read (t ∷ ts) p k n w s e = record { count = zero; rest = t ∷ ts; spelled = refl; goes = sym (ends_prim (t ∷ ts) p false k n s refl) ∙ e }

-- a bracket is closed
closes : (ts : List Lexeme) (p : RawPath) (k : List Awaited) (n : ℕ) (w : WrittenPolicy) → run ts (awaiting (whole_path p ∷ path_bracket ∷ k) n) ≡ Ok w → (more : List Lexeme) × (ts ≡ sign signs.CloseGroup ∷ more) × (run more (awaiting (prim p false ∷ k) n) ≡ Ok w)
closes [] p k n w e = cc
closes (sign signs.CloseGroup ∷ ts) p k n w e = (ts, refl, e)
closes (_ ∷ ts) p k n w e = cc

-- after a rep another follows, or the sequence is whole
rep_or_end : (ts : List Lexeme) (ls ps : List RawPath) (k : List Awaited) (n : ℕ) (w : WrittenPolicy) → run ts (awaiting (reps ls ∷ alts ps ∷ k) n) ≡ Ok w → (run ts (awaiting (rep ∷ reps ls ∷ alts ps ∷ k) n) ≡ Ok w) ⊎ (run ts (awaiting (alts (ps ++ one_or_cat ls ∷ []) ∷ k) n) ≡ Ok w)
rep_or_end ts ls ps k n w e = by (begins ts) refl
  where
    by : (b : Bool) → begins ts ≡ b → (run ts (awaiting (rep ∷ reps ls ∷ alts ps ∷ k) n) ≡ Ok w) ⊎ (run ts (awaiting (alts (ps ++ one_or_cat ls ∷ []) ∷ k) n) ≡ Ok w)
    by true h = inl (sym (goes_on ts ls ps k n h) ∙ e)
    by false h = inr (sym (ends_seq ts ls ps k n h) ∙ e)

-- after a sequence a bar follows, or the path is whole
bar_or_end : (ts : List Lexeme) (ps : List RawPath) (k : List Awaited) (n : ℕ) (w : WrittenPolicy) → run ts (awaiting (alts ps ∷ k) n) ≡ Ok w → ((more : List Lexeme) × (ts ≡ sign signs.Bar ∷ more) × (run more (awaiting (rep ∷ reps [] ∷ alts ps ∷ k) n) ≡ Ok w)) ⊎ (run ts (awaiting (whole_path (one_or_alt ps) ∷ k) n) ≡ Ok w)
bar_or_end [] ps k n w e = inr e
bar_or_end (t ∷ ts) ps k zero w e = inr e
bar_or_end (sign signs.Bar ∷ ts) ps k (suc n) w e = inl (ts, refl, e)
bar_or_end (t ∷ ts) ps k (suc n) w e = inr e

-- Phrases by the first lexeme, where paths of at most `m` lexemes are known.

abbrev PathsSound : ℕ → Type 0
PathsSound m = (ts : List Lexeme) (k : List Awaited) (left : ℕ) (w : WrittenPolicy) → length ts ≤ m → opens k ≤ MAX_NESTING → run ts (awaiting (rep ∷ reps [] ∷ alts [] ∷ k) left) ≡ Ok w → PathRead ts k left w

group_read : (ts : List Lexeme) (k : List Awaited) (left : ℕ) (w : WrittenPolicy) → in_sequence k ≡ true → PathRead ts (path_bracket ∷ k) left w → RepRead (sign signs.OpenGroup ∷ ts) k left w
group_read ts k left w s r =
    let c = closes r.rest (path_value r.tree) k r.spare w r.goes in
    let q = stars_read c.0 (path_value r.tree) k r.spare w s c.2 in
    record {
      tree = group r.tree q.count;
      rest = q.rest;
      spare = r.spare;
      spelled = ap (λ x. sign signs.OpenGroup ∷ x) (r.spelled ∙ ap (λ x. spell_path r.tree ++ x) (c.1 ∙ ap (λ x. sign signs.CloseGroup ∷ x) q.spelled) ∙ sym (append_assoc (spell_path r.tree) (sign signs.CloseGroup ∷ stars q.count) q.rest));
      names = r.names;
      deep = omega (arith, r.deep);
      goes = q.goes;
    }

rep_read : (m : ℕ) → PathsSound m → (ts : List Lexeme) (k : List Awaited) (left : ℕ) (w : WrittenPolicy) → length ts ≤ suc m → in_sequence k ≡ true → opens k ≤ MAX_NESTING → run ts (awaiting (rep ∷ k) left) ≡ Ok w → RepRead ts k left w
rep_read m paths [] k left w l s o e = cc
rep_read m paths (t ∷ ts) k zero w l s o e = cc
rep_read m paths (sign signs.Bang ∷ ts) k (suc n) w l s o e =
    let c = guarded (nat_lt (opens k) MAX_NESTING) (awaiting (rep ∷ path_negation ∷ k) (suc n)) (suc (length ts)) (λ u. run ts u) w e in
    let room = ltb-true (opens k) MAX_NESTING c.0 in
    let r = rep_read m paths ts (path_negation ∷ k) (suc n) w (omega arith) s (omega (arith, room)) c.1 in
    record { tree = bang r.tree; rest = r.rest; spare = r.spare; spelled = ap (λ x. sign signs.Bang ∷ x) r.spelled; names = r.names; deep = omega (arith, r.deep); goes = r.goes }
rep_read m paths (sign signs.OpenGroup ∷ ts) k (suc n) w l s o e =
    let c = guarded (nat_lt (opens k) MAX_NESTING) (awaiting (rep ∷ reps [] ∷ alts [] ∷ path_bracket ∷ k) (suc n)) (suc (length ts)) (λ u. run ts u) w e in
    let room = ltb-true (opens k) MAX_NESTING c.0 in
    group_read ts k (suc n) w s (paths ts (path_bracket ∷ k) (suc n) w (omega arith) (omega (arith, room)) c.1)
rep_read m paths (sign signs.Dot ∷ ts) k (suc n) w l s o e =
    let q = stars_read ts Dot k n w s e in
    record { tree = dot q.count; rest = q.rest; spare = n; spelled = ap (λ x. sign signs.Dot ∷ x) q.spelled; names = omega arith; deep = omega arith; goes = q.goes }
rep_read m paths (name text place ∷ ts) k (suc n) w l s o e =
    let q = stars_read ts (Named text place) k n w s e in
    record { tree = named text place q.count; rest = q.rest; spare = n; spelled = ap (λ x. name text place ∷ x) q.spelled; names = omega arith; deep = omega arith; goes = q.goes }
rep_read m paths (t ∷ ts) k (suc n) w l s o e = cc

-- a rep, and the sequence after it
seq_after : (ts : List Lexeme) (ls ps : List RawPath) (k : List Awaited) (left : ℕ) (w : WrittenPolicy) (r : RepRead ts (reps ls ∷ alts ps ∷ k) left w) → SeqRead r.rest (ls ++ rep_value r.tree ∷ []) ps k r.spare w → SeqRead ts ls ps k left w
seq_after ts ls ps k left w r q = record {
  tree = joined r.tree q.tree;
  rest = q.rest;
  spare = q.spare;
  spelled = r.spelled ∙ ap (λ x. spell_rep r.tree ++ x) q.spelled ∙ sym (append_assoc (spell_rep r.tree) (spell_seq q.tree) q.rest);
  names = omega (arith, r.names, q.names);
  deep = omega (arith, r.deep, q.deep);
  goes = ap (λ vs. run q.rest (awaiting (alts (ps ++ one_or_cat vs ∷ []) ∷ k) q.spare)) (sym (append_assoc ls (rep_value r.tree ∷ []) (rep_values q.tree))) ∙ q.goes;
}

seq_read : (m : ℕ) → PathsSound m → (j : ℕ) (ts : List Lexeme) (ls ps : List RawPath) (k : List Awaited) (left : ℕ) (w : WrittenPolicy) → length ts ≤ j → length ts ≤ suc m → opens k ≤ MAX_NESTING → run ts (awaiting (rep ∷ reps ls ∷ alts ps ∷ k) left) ≡ Ok w → SeqRead ts ls ps k left w
seq_read m paths zero [] ls ps k left w b l o e = cc
seq_read m paths zero (_ ∷ _) ls ps k left w b l o e = absurd (omega arith)
seq_read m paths (suc j) ts ls ps k left w b l o e =
    let r = rep_read m paths ts (reps ls ∷ alts ps ∷ k) left w l refl (omega arith) e in
    let shorter = rep-shorter r.tree r.rest in
    let same = ap length r.spelled in
    ⊎_elim
    (λ more. seq_after ts ls ps k left w r (seq_read m paths j r.rest (ls ++ rep_value r.tree ∷ []) ps k r.spare w (omega (arith, shorter, same)) (omega (arith, shorter, same)) o more))
    (λ goes. record { tree = only r.tree; rest = r.rest; spare = r.spare; spelled = r.spelled; names = r.names; deep = omega (arith, r.deep); goes = goes })
    (rep_or_end r.rest (ls ++ rep_value r.tree ∷ []) ps k r.spare w r.goes)

-- a sequence, and the alternatives after its bar
alts_after : (ts more : List Lexeme) (ps : List RawPath) (k : List Awaited) (left : ℕ) (w : WrittenPolicy) (q : SeqRead ts [] ps k left w) → q.rest ≡ sign signs.Bar ∷ more → AltsRead more (ps ++ one_or_cat (rep_values q.tree) ∷ []) k q.spare w → AltsRead ts ps k left w
alts_after ts more ps k left w q bar a = record {
  tree = or q.tree a.tree;
  rest = a.rest;
  spare = a.spare;
  spelled = q.spelled ∙ ap (λ x. spell_seq q.tree ++ x) (bar ∙ ap (λ x. sign signs.Bar ∷ x) a.spelled) ∙ sym (append_assoc (spell_seq q.tree) (sign signs.Bar ∷ spell_path a.tree) a.rest);
  names = omega (arith, q.names, a.names);
  deep = omega (arith, q.deep, a.deep);
  goes = ap (λ vs. run a.rest (awaiting (whole_path (one_or_alt vs) ∷ k) a.spare)) (sym (append_assoc ps (one_or_cat (rep_values q.tree) ∷ []) (seq_values a.tree))) ∙ a.goes;
}

alts_read : (m : ℕ) → PathsSound m → (j : ℕ) (ts : List Lexeme) (ps : List RawPath) (k : List Awaited) (left : ℕ) (w : WrittenPolicy) → length ts ≤ j → length ts ≤ suc m → opens k ≤ MAX_NESTING → run ts (awaiting (rep ∷ reps [] ∷ alts ps ∷ k) left) ≡ Ok w → AltsRead ts ps k left w
alts_read m paths zero [] ps k left w b l o e = cc
alts_read m paths zero (_ ∷ _) ps k left w b l o e = absurd (omega arith)
alts_read m paths (suc j) ts ps k left w b l o e =
    let q = seq_read m paths (suc j) ts [] ps k left w b l o e in
    let shorter = seq-shorter q.tree q.rest in
    let same = ap length q.spelled in
    ⊎_elim
    (λ c. let bar = ap length c.1 in alts_after ts c.0 ps k left w q c.1 (alts_read m paths j c.0 (ps ++ one_or_cat (rep_values q.tree) ∷ []) k q.spare w (omega (arith, shorter, same, bar)) (omega (arith, shorter, same, bar)) o c.2))
    (λ goes. record { tree = seq q.tree; rest = q.rest; spare = q.spare; spelled = q.spelled; names = q.names; deep = q.deep; goes = goes })
    (bar_or_end q.rest (ps ++ one_or_cat (rep_values q.tree) ∷ []) k q.spare w q.goes)

paths_sound : (m : ℕ) → PathsSound m
paths_sound zero [] k left w l o e = cc
paths_sound zero (_ ∷ _) k left w l o e = absurd (omega arith)
paths_sound (suc m) ts k left w l o e =
    let a = alts_read m (paths_sound m) (suc m) ts [] k left w l l o e in
    record { tree = a.tree; rest = a.rest; spare = a.spare; spelled = a.spelled; names = a.names; deep = a.deep; goes = a.goes }

-- a whole path
pub path_sound : (ts : List Lexeme) (k : List Awaited) (left : ℕ) (w : WrittenPolicy) → opens k ≤ MAX_NESTING → run ts (awaiting (rep ∷ reps [] ∷ alts [] ∷ k) left) ≡ Ok w → PathRead ts k left w
path_sound ts k left w o e = paths_sound (length ts) ts k left w (omega arith) o e
