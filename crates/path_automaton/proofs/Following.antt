-- Following states, step by step.
use Rattle.std.proofs.Common.{◌≡◌, ◌≢◌, ◌||◌, ◌==◌, ◌<◌, ◌≤◌, ◌+◌, inl, inr, ℕ, suc, zero, Bool, true, false, cond, List, [], ◌∷◌, ◌++◌, length, take, get_or, slice_get, append_assoc, append-nil, length-append, add-one, Contains, Some, refl, sym, ◌∙◌, ap, ap₂, subst, arith}
use Rattle.std.specs.List.{AllByRecursion, list_any, flat_map}
use Rattle.std.proofs.Math.Seq.{take-suc}
use Rattle.std.proofs.lemmas.Bool.{eqb-true}
use Rattle.merlin_model.specs.declared.policy.Symbol.{Symbol}
use Rattle.merlin_model.specs.declared.policy.Path.{Path, Nothing}
use Rattle.merlin_model.proofs.Members.{In, in_to, all_both}
use Rattle.path_regex.specs.Derivatives.{derivative_of}
use Rattle.path_regex.specs.States.{rest_after}
use Rattle.path_automaton.specs.declared.exploring.TheConstants.{MAX_STATES}
use Rattle.path_automaton.specs.States.{IsMadeOf, with_new, with_all_new, followers}
use Rattle.path_automaton.specs.Followed.{AreApart, AreFollowers, IsReachedFrom, AreRows, AreExploring, HasMany}
use Rattle.path_automaton.proofs.Places.{is, is-itself, false-true}
use Rattle.path_automaton.proofs.Noting.{with_all_new-append, with_all_new-last, with_new-more, with_all_new-more}
use Rattle.path_automaton.proofs.Classing.{get-more, map-snoc}

-- One row.

follow-more : (old new more : List Path) (form : Path) (symbols : List Symbol) (row : List ℕ) → new ≡ old ++ more → AreFollowers old form symbols row → AreFollowers new form symbols row
follow-more old new more form [] [] e h = tt
follow-more old new more form [] (q ∷ qs) e h = absurd h
follow-more old new more form (x ∷ xs) [] e h = absurd h
follow-more old new more form (x ∷ xs) (q ∷ qs) e h =
    (subst (λ l. slice_get l q ≡ Some (derivative_of form x)) (sym e) (get-more old more q (derivative_of form x) h.0), follow-more old new more form xs qs e h.1)

follow-snoc : (states : List Path) (form : Path) (symbols : List Symbol) (row : List ℕ) (x : Symbol) (q : ℕ) → AreFollowers states form symbols row → slice_get states q ≡ Some (derivative_of form x) → AreFollowers states form (symbols ++ x ∷ []) (row ++ q ∷ [])
follow-snoc states form [] [] x q h e = (e, tt)
follow-snoc states form [] (p ∷ ps) x q h e = absurd h
follow-snoc states form (y ∷ ys) [] x q h e = absurd h
follow-snoc states form (y ∷ ys) (p ∷ ps) x q h e = (h.0, follow-snoc states form ys ps x q h.1 e)

-- what is known of a row after some symbols
pub record IsBegun (old : List Path) (form : Path) (symbols : List Symbol) (new : List Path) (row : List ℕ) : Type 0 where
  pub with_new : new ≡ with_all_new old (followers symbols form)
  pub few : length new ≤ MAX_STATES
  pub leads : AreFollowers new form symbols row

pub begin : (old : List Path) (form : Path) → length old ≤ MAX_STATES → IsBegun old form [] old []
begin old form few = record { with_new = refl; few = few; leads = tt }

pub followers-snoc : (old : List Path) (form : Path) (symbols : List Symbol) (x : Symbol) → with_all_new old (followers (symbols ++ x ∷ []) form) ≡ with_new (with_all_new old (followers symbols form)) (derivative_of form x)
followers-snoc old form symbols x = ap (with_all_new old) (map-snoc (λ y. derivative_of form y) symbols x) ∙ with_all_new-last old (followers symbols form) (derivative_of form x)

pub begun-more : (old : List Path) (form : Path) (symbols : List Symbol) (new : List Path) (row : List ℕ) (x : Symbol) (next : List Path) (q : ℕ) →
    IsBegun old form symbols new row → next ≡ with_new new (derivative_of form x) → length next ≤ MAX_STATES → slice_get next q ≡ Some (derivative_of form x) → IsBegun old form (symbols ++ x ∷ []) next (row ++ q ∷ [])
begun-more old form symbols new row x next q h e few at =
    let more = with_new-more new (derivative_of form x) in
    record {
      with_new = e ∙ ap (λ l. with_new l (derivative_of form x)) h.with_new ∙ sym (followers-snoc old form symbols x);
      few = few;
      leads = follow-snoc next form symbols row x q (follow-more new next more.0 form symbols row (e ∙ more.1) h.leads) at;
    }

-- the form of a state stays at its place
pub stays : (old : List Path) (xs new : List Path) (q : ℕ) → new ≡ with_all_new old xs → q < length old → get_or new q Nothing ≡ get_or old q Nothing
stays old xs new q e lt =
    let more = with_all_new-more old xs in
    ap (λ l. get_or l q Nothing) (e ∙ more.1) ∙ front old more.0 q lt
  where
    front : (ys zs : List Path) (k : ℕ) → k < length ys → get_or (ys ++ zs) k Nothing ≡ get_or ys k Nothing
    front [] zs k h = absurd (omega (arith, h))
    front (y ∷ ys) zs zero h = refl
    front (y ∷ ys) zs (suc k) h = front ys zs k (omega arith)

pub longer : (old xs new : List Path) → new ≡ with_all_new old xs → length old ≤ length new
longer old xs new e = let more = with_all_new-more old xs in subst (λ l. length old ≤ length l) (sym (e ∙ more.1)) (let n = length-append old more.0 in omega arith)

pub with_new-length : (xs : List Path) (a : Path) → length (with_new xs a) ≤ length xs + 1
with_new-length xs a = by (list_any (λ b. is a b) xs)
  where
    by : (t : Bool) → length (cond t xs (xs ++ a ∷ [])) ≤ length xs + 1
    by true = omega arith
    by false = let n = length-append xs (a ∷ []) in omega arith

-- Turns.

-- each path is noted where it is none of the others
with_new-different : (xs : List Path) (a : Path) → AreApart xs → AreApart (with_new xs a)
with_new-different xs a h = by (list_any (λ b. is a b) xs) refl
  where
    apart : (ys : List Path) (j : ℕ) (d : Path) → list_any (λ b. is a b) ys ≡ false → j < length ys → get_or ys j d ≢ a
    apart [] j d e lt = absurd (omega (arith, lt))
    apart (y ∷ ys) zero d e lt = λ same. false-true (sym (first (is a y) e) ∙ subst (λ z. is a z ≡ true) (sym same) (is-itself a))
      where
        first : (t : Bool) → (t || list_any (λ b. is a b) ys) ≡ false → t ≡ false
        first true f = f
        first false f = refl
    apart (y ∷ ys) (suc j) d e lt = apart ys j d (rest (is a y) e) (omega arith)
      where
        rest : (t : Bool) → (t || list_any (λ b. is a b) ys) ≡ false → list_any (λ b. is a b) ys ≡ false
        rest true f = cc
        rest false f = f

    front : (ys : List Path) (k : ℕ) (d : Path) → k < length ys → get_or (ys ++ a ∷ []) k d ≡ get_or ys k d
    front [] k d lt = absurd (omega (arith, lt))
    front (y ∷ ys) zero d lt = refl
    front (y ∷ ys) (suc k) d lt = front ys k d (omega arith)

    last : (ys : List Path) (d : Path) → get_or (ys ++ a ∷ []) (length ys) d ≡ a
    last [] d = refl
    last (y ∷ ys) d = last ys d

    by : (t : Bool) → list_any (λ b. is a b) xs ≡ t → AreApart (cond t xs (xs ++ a ∷ []))
    by true e = h
    by false e = λ i j d lt long same. place i j d lt (j == length xs) refl (let n = length-append xs (a ∷ []) in omega arith) same
      where
        place : (i j : ℕ) (d : Path) → i < j → (t : Bool) → (j == length xs) ≡ t → j < length xs + 1 → get_or (xs ++ a ∷ []) i d ≡ get_or (xs ++ a ∷ []) j d → ⊥
        place i j d lt true f long same =
            let at : j ≡ length xs = eqb-true j (length xs) f in
            apart xs i d e (omega arith) (sym (front xs i d (omega arith)) ∙ same ∙ ap (λ k. get_or (xs ++ a ∷ []) k d) at ∙ last xs d)
        place i j d lt false f long same =
            let other : j ≢ length xs = grind arith in
            h i j d lt (omega arith) (sym (front xs i d (omega arith)) ∙ same ∙ front xs j d (omega arith))

pub with_all_new-different : (xs ys : List Path) → AreApart xs → AreApart (with_all_new xs ys)
with_all_new-different xs [] h = h
with_all_new-different xs (y ∷ ys) h = with_all_new-different (with_new xs y) ys (with_new-different xs y h)

with_new-all : (P : Path → Type 0) (xs : List Path) (a : Path) → AllByRecursion P xs → P a → AllByRecursion P (with_new xs a)
with_new-all P xs a h p = by (list_any (λ b. is a b) xs)
  where
    by : (t : Bool) → AllByRecursion P (cond t xs (xs ++ a ∷ []))
    by true = h
    by false = all_both P xs (a ∷ []) h (p, tt)

pub with_all_new-all : (P : Path → Type 0) (xs ys : List Path) → AllByRecursion P xs → AllByRecursion P ys → AllByRecursion P (with_all_new xs ys)
with_all_new-all P xs [] h g = h
with_all_new-all P xs (y ∷ ys) h g = with_all_new-all P (with_new xs y) ys (with_new-all P xs y h g.0) g.1

-- what follows a form that is reached is reached

after-snoc : (a : Path) (w : List Symbol) (x : Symbol) → rest_after a (w ++ x ∷ []) ≡ derivative_of (rest_after a w) x
after-snoc a [] x = refl
after-snoc a (y ∷ w) x = after-snoc (derivative_of a y) w x

over-snoc : (symbols w : List Symbol) (x : Symbol) → IsMadeOf symbols w → Contains symbols x → IsMadeOf symbols (w ++ x ∷ [])
over-snoc symbols [] x h i = (i, tt)
over-snoc symbols (y ∷ w) x h i = (h.0, over-snoc symbols w x h.1 i)

followers-after : (first : Path) (symbols some : List Symbol) (form : Path) → IsReachedFrom first symbols form → AllByRecursion (λ x. Contains symbols x) some → AllByRecursion (IsReachedFrom first symbols) (followers some form)
followers-after first symbols [] form h g = tt
followers-after first symbols (x ∷ some) form h g =
    ((h.0 ++ x ∷ [], over-snoc symbols h.0 x h.1 g.0, ap (λ a. derivative_of a x) h.2 ∙ sym (after-snoc first h.0 x)), followers-after first symbols some form h g.1)

take-all : (P : Symbol → Type 0) (n : ℕ) (xs : List Symbol) → AllByRecursion P xs → AllByRecursion P (take n xs)
take-all P zero xs h = tt
take-all P (suc n) [] h = tt
take-all P (suc n) (x ∷ xs) h = (h.0, take-all P n xs h.1)

each-there : (symbols : List Symbol) → AllByRecursion (λ x. Contains symbols x) symbols
each-there symbols = within symbols (λ x i. in_to symbols x i)
  where
    within : (xs : List Symbol) → ((x : Symbol) → In x xs → Contains symbols x) → AllByRecursion (λ x. Contains symbols x) xs
    within [] f = tt
    within (x ∷ xs) f = (f x (inl refl), within xs (λ y i. f y (inr i)))

all-at : (P : Path → Type 0) (xs : List Path) (k : ℕ) → k < length xs → AllByRecursion P xs → P (get_or xs k Nothing)
all-at P [] k lt h = absurd (omega (arith, lt))
all-at P (x ∷ xs) zero lt h = h.0
all-at P (x ∷ xs) (suc k) lt h = all-at P xs k (omega arith) h.1

flat_map-snoc : (f : Path → List Path) (xs : List Path) (a : Path) → flat_map f (xs ++ a ∷ []) ≡ flat_map f xs ++ f a
flat_map-snoc f [] a = append-nil (f a)
flat_map-snoc f (x ∷ xs) a = ap (λ l. f x ++ l) (flat_map-snoc f xs a) ∙ sym (append_assoc (f x) (flat_map f xs) (f a))

take-front : (k : ℕ) (xs ys : List Path) → k ≤ length xs → take k (xs ++ ys) ≡ take k xs
take-front zero xs ys h = refl
take-front (suc k) [] ys h = absurd (omega (arith, h))
take-front (suc k) (x ∷ xs) ys h = ap (λ l. x ∷ l) (take-front k xs ys (omega arith))

rows-more : (old new more : List Path) (symbols : List Symbol) (forms tail : List Path) (rows : List (List ℕ)) → new ≡ old ++ more → AreRows old symbols forms rows → AreRows new symbols (forms ++ tail) rows
rows-more old new more symbols forms tail [] e h = tt
rows-more old new more symbols [] tail (row ∷ rows) e h = absurd h
rows-more old new more symbols (form ∷ forms) tail (row ∷ rows) e h = (follow-more old new more form symbols row e h.0, rows-more old new more symbols forms tail rows e h.1)

rows-snoc : (states : List Path) (symbols : List Symbol) (forms : List Path) (rows : List (List ℕ)) (row : List ℕ) → length rows < length forms → AreRows states symbols forms rows →
    AreFollowers states (get_or forms (length rows) Nothing) symbols row → AreRows states symbols forms (rows ++ row ∷ [])
rows-snoc states symbols [] rows row lt h f = absurd (omega (arith, lt))
rows-snoc states symbols (form ∷ forms) [] row lt h f = (f, tt)
rows-snoc states symbols (form ∷ forms) (r ∷ rows) row lt h f = (h.0, rows-snoc states symbols forms rows row (omega arith) h.1 f)

module _ (first : Path) (symbols : List Symbol) (states : List Path) (rows : List (List ℕ)) (h : AreExploring first symbols states rows) (lt : length rows < length states) (new : List Path) where
  abbrev form : Path
  form = get_or states (length rows) Nothing

  form-after : IsReachedFrom first symbols form
  form-after = all-at (IsReachedFrom first symbols) states (length rows) lt h.reached

  all-after : (n : ℕ) → new ≡ with_all_new states (followers (take n symbols) form) → AllByRecursion (IsReachedFrom first symbols) new
  all-after n e = subst (AllByRecursion (IsReachedFrom first symbols)) (sym e)
      (with_all_new-all (IsReachedFrom first symbols) states (followers (take n symbols) form) h.reached (followers-after first symbols (take n symbols) form form-after (take-all (λ x. Contains symbols x) n symbols (each-there symbols))))

  all-different : (xs : List Path) → new ≡ with_all_new states xs → AreApart new
  all-different xs e = subst AreApart (sym e) (with_all_new-different states xs h.different)

  pub turn : (row : List ℕ) → new ≡ with_all_new states (followers symbols form) → length new ≤ MAX_STATES → AreFollowers new form symbols row → AreExploring first symbols new (rows ++ row ∷ [])
  turn row e few leads =
      let more = with_all_new-more states (followers symbols form) in
      let shape : new ≡ states ++ more.0 = e ∙ more.1 in
      let long : length states ≤ length new = longer states (followers symbols form) new e in
      let same : get_or new (length rows) Nothing ≡ form = stays states (followers symbols form) new (length rows) e lt in
      let count : length (rows ++ row ∷ []) ≡ suc (length rows) = length-append rows (row ∷ []) ∙ add-one (length rows) in
      let front : take (length (rows ++ row ∷ [])) new ≡ take (length rows) states ++ form ∷ [] =
      ap (λ k. take k new) count ∙ take-suc new (length rows) Nothing (omega arith)
      ∙ ap₂ (λ l a. l ++ a ∷ []) (ap (take (length rows)) shape ∙ take-front (length rows) states more.0 (omega arith)) same in
      record {
        few = few;
        followed = omega arith;
        in_order = e ∙ ap (λ l. with_all_new l (followers symbols form)) h.in_order
            ∙ sym (ap (λ l. with_all_new (first ∷ []) (flat_map (followers symbols) l)) front ∙ ap (with_all_new (first ∷ [])) (flat_map-snoc (followers symbols) (take (length rows) states) form)
            ∙ with_all_new-append (first ∷ []) (flat_map (followers symbols) (take (length rows) states)) (followers symbols form));
        leads = rows-snoc new symbols new rows row (omega arith)
            (subst (λ l. AreRows new symbols l rows) (sym shape) (rows-more states new more.0 symbols states more.0 rows shape h.leads))
            (subst (λ a. AreFollowers new a symbols row) (sym same) leads);
        reached = subst (AllByRecursion (IsReachedFrom first symbols)) (sym e) (with_all_new-all (IsReachedFrom first symbols) states (followers symbols form) h.reached (followers-after first symbols symbols form form-after (each-there symbols)));
        different = all-different (followers symbols form) e;
      }

  pub too_many : (count n : ℕ) → count ≡ MAX_STATES + 1 → length new ≡ MAX_STATES + 1 → new ≡ with_all_new states (followers (take n symbols) form) → HasMany first symbols count
  too_many count n c l e = record { forms = new; reached = all-after n e; different = all-different (followers (take n symbols) form) e; many = c ∙ sym l }
