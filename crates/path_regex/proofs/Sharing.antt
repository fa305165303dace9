-- Laws of normal forms that share their parts.
use Rattle.std.proofs.Common.{Result, Ok, Err, IfOk, OnErr, ◌≡◌, ◌<◌, ◌≤◌, ◌+◌, ◌==◌, ◌||◌, ◌&&◌, nat_eq, Option, None, IfSome, OnOk, ◌⊎◌, inl, inr, ℕ, suc, zero, Bool, true, false, cond, List, [], ◌∷◌, ◌++◌, length, slice_get, Some, append_assoc, append-nil, length-append, refl, sym, ◌∙◌, ap, ap₂, subst, arith}
use Rattle.std.specs.List.{list_any, AllByRecursion}
use Rattle.std.proofs.lemmas.Bool.{eqb-true}
use Rattle.merlin_model.specs.declared.policy.Path.{Path, Nothing, Loc, Fun, Cat, Cat', Alt, Star, Star', Not, Not', end_of-Path, more_of-Path}
use Rattle.merlin_model.specs.declared.policy.Path.TheBlock.{hidden-the_row-Path-0, hidden-the_row-Path-1}
use denote.Hole.Carrier.{hidden}
use Rattle.std.specs.Map.{lookup}
use Rattle.indexmap.specs.IndexMap.{insert_entry}
use Rattle.std.specs.declared.cmp.Ordering.{Ordering}
use Rattle.path_regex.specs.Order.{rank, order}
use Rattle.path_regex.specs.Normal.{members}
use Rattle.path_regex.proofs.Shapes.{members-Alt}
use Rattle.path_regex.specs.declared.forms.FormNode.{FormNode}
use Rattle.path_regex.specs.declared.forms.FormNode.TheVariants.{Nothing as NodeNothing, Empty as NodeEmpty, Dot as NodeDot, Loc as NodeLoc, Fun as NodeFun, Cat as NodeCat, NoChoice as NodeNoChoice, Alt as NodeAlt, Star as NodeStar, Not as NodeNot}
use Rattle.path_regex.specs.declared.forms.FormStep.{FormStep}
use Rattle.path_regex.proofs.Entries.{entry-noted, entry-found}
use Rattle.path_regex.specs.Shared.{form_at, alt_by, members_after, step_symbol, IsKnownStep, IsChain, meaning, meanings, PartsStandBefore, IsNode, AreDistinct, AreNodes, AddsForms, IsFormAt, IsKnownOrder, AreForms, node_rank}

-- Growing.

pub grows-not : (forms : List Path) → AddsForms forms forms
grows-not forms = record { more = []; is = sym (append-nil forms) }

pub grows-twice : {old mid new : List Path} → AddsForms old mid → AddsForms mid new → AddsForms old new
grows-twice {old} g h = record { more = g.more ++ h.more; is = h.is ∙ ap (λ l. l ++ h.more) g.is ∙ append_assoc old g.more h.more }

front : (xs ys : List Path) (k : ℕ) → k < length xs → form_at (xs ++ ys) k ≡ form_at xs k
front [] ys k h = absurd (omega (arith, h))
front (x ∷ xs) ys zero h = refl
front (x ∷ xs) ys (suc k) h = front xs ys k (omega arith)

pub kept : {old new : List Path} → AddsForms old new → (k : ℕ) → k < length old → form_at new k ≡ form_at old k
kept {old} g k lt = ap (λ l. form_at l k) g.is ∙ front old g.more k lt

pub longer : {old new : List Path} → AddsForms old new → length old ≤ length new
longer {old} g = let n = length-append old g.more in let e = ap length g.is in omega arith

pub within : {old new : List Path} → AddsForms old new → (k : ℕ) → k < length old → k < length new
within {old} {new} g k lt = let l = longer g in omega arith

pub named : {old new : List Path} → AddsForms old new → (k : ℕ) (a : Path) → IsFormAt old k a → IsFormAt new k a
named g k a h = (within g k h.0, kept g k h.0 ∙ h.1)

-- Nodes.

last : (xs : List Path) (a : Path) → form_at (xs ++ a ∷ []) (length xs) ≡ a
last [] a = refl
last (x ∷ xs) a = last xs a

meanings-snoc : (forms : List Path) (nodes : List FormNode) (n : FormNode) → meanings forms (nodes ++ n ∷ []) ≡ meanings forms nodes ++ meaning (meanings forms nodes) n ∷ []
meanings-snoc forms [] n = refl
meanings-snoc forms (m ∷ nodes) n = meanings-snoc (forms ++ meaning forms m ∷ []) nodes n

weaker : (k bound : ℕ) (forms : List Path) (n : FormNode) → k ≤ bound → PartsStandBefore k forms n → PartsStandBefore bound forms n
weaker k bound forms (NodeCat a b) le h = let x = h.0 in let y = h.1 in (omega arith, omega arith)
weaker k bound forms (NodeAlt a t) le h = let x = h.0 in let y = h.1 in (omega arith, omega arith, h.2)
weaker k bound forms (NodeStar a) le h = omega (arith, le, h)
weaker k bound forms (NodeNot a) le h = omega (arith, le, h)
weaker k bound forms n le h = tt

meaning-more : {old new : List Path} → AddsForms old new → (n : FormNode) → PartsStandBefore (length old) old n → meaning new n ≡ meaning old n
meaning-more g (NodeCat a b) h = ap₂ Cat (kept g a h.0) (kept g b h.1)
meaning-more g (NodeAlt a t) h = ap₂ (λ x y. Alt (x ∷ members y)) (kept g a h.0) (kept g t h.1)
meaning-more g (NodeStar a) h = ap Star (kept g a h)
meaning-more g (NodeNot a) h = ap Not (kept g a h)
meaning-more g n h = refl

grounded-more : {old new : List Path} → AddsForms old new → (k : ℕ) → k ≤ length old → (n : FormNode) → PartsStandBefore k old n → PartsStandBefore k new n
grounded-more g k le (NodeCat a b) h = h
grounded-more g k le (NodeAlt a t) h = let x = h.1 in (h.0, h.1, subst IsChain (sym (kept g t (omega arith))) h.2)
grounded-more g k le (NodeStar a) h = h
grounded-more g k le (NodeNot a) h = h
grounded-more g k le n h = tt

node-more : {old new : List Path} → AddsForms old new → (k : ℕ) → k < length old → (n : FormNode) → IsNode old k n → IsNode new k n
node-more {old} g k lt n h =
    (grounded-more g k (omega arith) n h.0, kept g k lt ∙ h.1 ∙ sym (meaning-more g n (weaker k (length old) old n (omega arith) h.0)))

-- Nodes with one meaning are the same.

pub rank-meaning : (forms : List Path) (n : FormNode) → rank (meaning forms n) ≡ node_rank n
unfolding hidden-the_row-Path-0 hidden-the_row-Path-1 hidden
rank-meaning forms NodeNothing = refl
rank-meaning forms NodeEmpty = refl
rank-meaning forms NodeDot = refl
rank-meaning forms (NodeLoc l) = refl
rank-meaning forms (NodeFun f) = refl
rank-meaning forms (NodeCat a b) = refl
rank-meaning forms NodeNoChoice = refl
rank-meaning forms (NodeAlt a t) = refl
rank-meaning forms (NodeStar a) = refl
rank-meaning forms (NodeNot a) = refl

false-true : false ≡ true → ⊥
false-true e = cc

apart : (forms : List Path) (n m : FormNode) → (node_rank n == node_rank m) ≡ false → meaning forms n ≡ meaning forms m → ⊥
apart forms n m f e = false-true (sym f ∙ eqb-is (node_rank n) (node_rank m) (sym (rank-meaning forms n) ∙ ap rank e ∙ rank-meaning forms m))
  where
    eqb-is : (a b : ℕ) → a ≡ b → (a == b) ≡ true
    eqb-is a b e = grind arith

-- the parts of a path
abbrev number : Path → ℕ
number (Loc l) = l
number (Fun f) = f
number _ = 0

abbrev first : Path → Path
first (Cat' _ (more_of-Path a end_of-Path) _ (more_of-Path b end_of-Path)) = a
first (Star' _ (more_of-Path a end_of-Path)) = a
first (Not' _ (more_of-Path a end_of-Path)) = a
first _ = Nothing

abbrev second : Path → Path
second (Cat' _ (more_of-Path a end_of-Path) _ (more_of-Path b end_of-Path)) = b
second _ = Nothing

first-Cat : (a b : Path) → (first (Cat a b) ≡ a) × (second (Cat a b) ≡ b)
unfolding hidden-the_row-Path-1 hidden
first-Cat a b = (refl, refl)

first-Star : (a : Path) → first (Star a) ≡ a
unfolding hidden-the_row-Path-1 hidden
first-Star a = refl

first-Not : (a : Path) → first (Not a) ≡ a
unfolding hidden-the_row-Path-1 hidden
first-Not a = refl

abbrev head : List Path → Path
head [] = Nothing
head (a ∷ rest) = a

abbrev tail : List Path → List Path
tail [] = []
tail (a ∷ rest) = rest

pub empty-full : (a : Path) (rest : List Path) → [] ≡ a ∷ rest → ⊥
empty-full a rest e = cc

module _ (forms : List Path) (d : AreDistinct forms) where
  pub same-node : (n m : FormNode) → PartsStandBefore (length forms) forms n → PartsStandBefore (length forms) forms m → meaning forms n ≡ meaning forms m → n ≡ m
  same-node NodeNothing NodeNothing g h e = refl
  same-node NodeEmpty NodeEmpty g h e = refl
  same-node NodeDot NodeDot g h e = refl
  same-node (NodeLoc l) (NodeLoc m) g h e = ap NodeLoc (ap number e)
  same-node (NodeFun l) (NodeFun m) g h e = ap NodeFun (ap number e)
  same-node (NodeCat a b) (NodeCat x y) g h e =
      let one = first-Cat (form_at forms a) (form_at forms b) in
      let two = first-Cat (form_at forms x) (form_at forms y) in
      ap₂ NodeCat (d a x g.0 h.0 (sym one.0 ∙ ap first e ∙ two.0)) (d b y g.1 h.1 (sym one.1 ∙ ap second e ∙ two.1))
  same-node (NodeAlt a t) (NodeAlt x u) g h e =
      let lists = sym (members-Alt (form_at forms a ∷ members (form_at forms t))) ∙ ap members e ∙ members-Alt (form_at forms x ∷ members (form_at forms u)) in
      ap₂ NodeAlt (d a x g.0 h.0 (ap head lists)) (d t u g.1 h.1 (g.2 ∙ ap alt_by (ap tail lists) ∙ sym h.2))
  same-node NodeNoChoice NodeNoChoice g h e = refl
  same-node NodeNoChoice (NodeAlt x u) g h e = absurd (empty-full _ _ (sym (members-Alt []) ∙ ap members e ∙ members-Alt (form_at forms x ∷ members (form_at forms u))))
  same-node (NodeAlt a t) NodeNoChoice g h e = absurd (empty-full _ _ (sym (members-Alt []) ∙ ap members (sym e) ∙ members-Alt (form_at forms a ∷ members (form_at forms t))))
  same-node (NodeStar a) (NodeStar x) g h e = ap NodeStar (d a x g h (sym (first-Star (form_at forms a)) ∙ ap first e ∙ first-Star (form_at forms x)))
  same-node (NodeNot a) (NodeNot x) g h e = ap NodeNot (d a x g h (sym (first-Not (form_at forms a)) ∙ ap first e ∙ first-Not (form_at forms x)))
  same-node n m g h e = absurd (apart forms n m refl e)

-- A node that is put.

node-at : (nodes : List FormNode) (k : ℕ) → k < length nodes → (n : FormNode) × (slice_get nodes k ≡ Some n)
node-at [] k lt = absurd (omega (arith, lt))
node-at (n ∷ nodes) zero lt = (n, refl)
node-at (n ∷ nodes) (suc k) lt = node-at nodes k (omega arith)

-- a place in a longer list is one of the list or the last
snoc-at : (nodes : List FormNode) (n m : FormNode) (k : ℕ) → slice_get (nodes ++ n ∷ []) k ≡ Some m → ((k < length nodes) × (slice_get nodes k ≡ Some m)) ⊎ ((k ≡ length nodes) × (n ≡ m))
snoc-at [] n m zero e = inr (refl, cc)
snoc-at [] n m (suc k) e = cc
snoc-at (x ∷ nodes) n m zero e = inl (omega arith, e)
snoc-at (x ∷ nodes) n m (suc k) e = by (snoc-at nodes n m k e)
  where
    by : ((k < length nodes) × (slice_get nodes k ≡ Some m)) ⊎ ((k ≡ length nodes) × (n ≡ m)) → ((suc k < length (x ∷ nodes)) × (slice_get nodes k ≡ Some m)) ⊎ ((suc k ≡ length (x ∷ nodes)) × (n ≡ m))
    by (inl h) = let l = h.0 in inl (omega arith, h.1)
    by (inr h) = inr (ap suc h.0, h.1)

module _ (nodes : List FormNode) (forms : List Path) (are : AreNodes nodes forms) (n : FormNode) (g : PartsStandBefore (length forms) forms n) where
  abbrev longer-forms : List Path
  longer-forms = forms ++ meaning forms n ∷ []

  grown : AddsForms forms longer-forms
  grown = record { more = meaning forms n ∷ []; is = refl }

  one-more : length longer-forms ≡ length forms + 1
  one-more = length-append forms (meaning forms n ∷ [])

  each-more : (k : ℕ) (m : FormNode) → slice_get (nodes ++ n ∷ []) k ≡ Some m → IsNode longer-forms k m
  each-more k m e = by (snoc-at nodes n m k e)
    where
      by : ((k < length nodes) × (slice_get nodes k ≡ Some m)) ⊎ ((k ≡ length nodes) × (n ≡ m)) → IsNode longer-forms k m
      by (inl h) = let l = are.long in let lt = h.0 in node-more grown k (omega arith) m (are.each k m h.1)
      by (inr h) =
          subst (λ x. IsNode longer-forms k x) h.1 (subst (λ j. IsNode longer-forms j n) (are.long ∙ sym h.0)
          (grounded-more grown (length forms) (omega arith) n g, last forms (meaning forms n) ∙ sym (meaning-more grown n g)))

  -- the new form stands nowhere among the forms
  new-form : ((k : ℕ) → slice_get nodes k ≡ Some n → ⊥) → (k : ℕ) → k < length forms → form_at forms k ≡ meaning forms n → ⊥
  new-form absent k lt e =
      let l = are.long in
      let at = node-at nodes k (omega arith) in
      let is = are.each k at.0 at.1 in
      absent k (at.1 ∙ ap Some (same-node forms are.distinct at.0 n (weaker k (length forms) forms at.0 (omega arith) is.0) g (sym is.1 ∙ e)))

  distinct-more : ((k : ℕ) → slice_get nodes k ≡ Some n → ⊥) → AreDistinct longer-forms
  distinct-more absent i j li lj e = by (i == length forms) refl (j == length forms) refl
    where
      old : (k : ℕ) → (k == length forms) ≡ false → k < length longer-forms → k < length forms
      old k f lt = let m = one-more in grind arith

      by : (s : Bool) → (i == length forms) ≡ s → (t : Bool) → (j == length forms) ≡ t → i ≡ j
      by true f true h = eqb-true i (length forms) f ∙ sym (eqb-true j (length forms) h)
      by true f false h = absurd (new-form absent j (old j h lj)
          (sym (front forms (meaning forms n ∷ []) j (old j h lj)) ∙ sym e ∙ ap (form_at longer-forms) (eqb-true i (length forms) f) ∙ last forms (meaning forms n)))
      by false f true h = absurd (new-form absent i (old i f li)
          (sym (front forms (meaning forms n ∷ []) i (old i f li)) ∙ e ∙ ap (form_at longer-forms) (eqb-true j (length forms) h) ∙ last forms (meaning forms n)))
      by false f false h = are.distinct i j (old i f li) (old j h lj)
          (sym (front forms (meaning forms n ∷ []) i (old i f li)) ∙ e ∙ front forms (meaning forms n ∷ []) j (old j h lj))

  pub put-more : ((k : ℕ) → slice_get nodes k ≡ Some n → ⊥) → AreNodes (nodes ++ n ∷ []) longer-forms
  put-more absent = record {
    long = one-more ∙ ap (λ l. l + 1) are.long ∙ sym (length-append nodes (n ∷ []));
    each = each-more;
    distinct = distinct-more absent;
  }

-- what is known after a node was put
pub record IsPut (old new : List FormNode) : Type 0 where
  pub nodes : AreNodes new (meanings [] new)
  pub grows : AddsForms (meanings [] old) (meanings [] new)

module _ (eq : FormNode → FormNode → Bool) (same : (x y : FormNode) → eq x y ≡ true → x ≡ y) (itself : (x : FormNode) → eq x x ≡ true) (old : List FormNode) (are : AreNodes old (meanings [] old)) (n : FormNode) (g : PartsStandBefore (length (meanings [] old)) (meanings [] old) n) where
  none-there : (nodes : List FormNode) → list_any (eq n) nodes ≡ false → (k : ℕ) → slice_get nodes k ≡ Some n → ⊥
  none-there [] f k e = cc
  none-there (m ∷ nodes) f zero e = let at : m ≡ n = cc in by (eq n m) f (subst (λ x. eq n x ≡ true) (sym at) (itself n))
    where
      by : (t : Bool) → (t || list_any (eq n) nodes) ≡ false → t ≡ true → ⊥
      by true f e = false-true (sym f)
      by false f e = false-true e
  none-there (m ∷ nodes) f (suc k) e = none-there nodes (rest (eq n m) f) k e
    where
      rest : (t : Bool) → (t || list_any (eq n) nodes) ≡ false → list_any (eq n) nodes ≡ false
      rest true f = cc
      rest false f = f

  not-put : (new : List FormNode) → new ≡ old → IsPut old new
  not-put new e = subst (λ l. IsPut old l) (sym e) (record { nodes = are; grows = grows-not (meanings [] old) })

  pub is-put : (new : List FormNode) (t : Bool) → list_any (eq n) old ≡ t → new ≡ cond t old (old ++ n ∷ []) → IsPut old new
  is-put new true f e = not-put new e
  is-put new false f e = subst (λ l. IsPut old l) (sym e) (record {
    nodes = subst (AreNodes (old ++ n ∷ [])) (sym (meanings-snoc [] old n)) (put-more old (meanings [] old) are n g (none-there old f));
    grows = record { more = meaning (meanings [] old) n ∷ []; is = meanings-snoc [] old n };
  })

  pub put-answer : {X E : Type 0} (new : List FormNode) (r : Result X E) → IfOk r (λ x. new ≡ cond (list_any (eq n) old) old (old ++ n ∷ [])) → OnErr r (new ≡ old) → IsPut old new
  put-answer new (Ok x) h e = is-put new (list_any (eq n) old) refl h
  put-answer new (Err x) h e = not-put new e

  get-below : (nodes : List FormNode) (k : ℕ) (m : FormNode) → slice_get nodes k ≡ Some m → k < length nodes
  get-below [] k m e = cc
  get-below (x ∷ nodes) zero m e = omega arith
  get-below (x ∷ nodes) (suc k) m e = let lt = get-below nodes k m e in omega arith

  pub put-names : (new : List FormNode) → IsPut old new → (k : ℕ) (m : FormNode) → slice_get new k ≡ Some m → eq n m ≡ true → IsFormAt (meanings [] new) k (meaning (meanings [] old) n)
  put-names new p k m at e =
      let is = p.nodes.each k m at in
      let long = p.nodes.long in
      let lt = get-below new k m at in
      (omega arith, is.1 ∙ ap (meaning (meanings [] new)) (sym (same n m e)) ∙ meaning-more p.grows n g)

-- What is kept of the order of forms.

pub known-more : {old new : List Path} → AddsForms old new → (orders : List ((ℕ × ℕ) × Ordering)) → AllByRecursion (IsKnownOrder old) orders → AllByRecursion (IsKnownOrder new) orders
known-more g [] h = tt
known-more g (((i, j), o) ∷ orders) h =
    let one = h.0 in
    ((within g i one.0, within g j one.1, one.2 ∙ sym (ap₂ order (kept g i one.0) (kept g j one.1))), known-more g orders h.1)

-- equality of pairs of places
abbrev pub pair_eq : ℕ × ℕ → ℕ × ℕ → Bool
pair_eq x y = nat_eq x.0 y.0 && nat_eq x.1 y.1

pair-same : (x y : ℕ × ℕ) → pair_eq x y ≡ true → x ≡ y
pair-same x y e = by (nat_eq x.0 y.0) refl (nat_eq x.1 y.1) refl e
  where
    by : (s : Bool) → nat_eq x.0 y.0 ≡ s → (t : Bool) → nat_eq x.1 y.1 ≡ t → (s && t) ≡ true → x ≡ y
    by true p true q e = ap₂ (λ a b. (a, b)) (eqb-true x.0 y.0 p) (eqb-true x.1 y.1 q)
    by true p false q e = cc
    by false p t q e = cc

-- what is found is true
pub known-found : (forms : List Path) (orders : List ((ℕ × ℕ) × Ordering)) (pair : ℕ × ℕ) (r : Option Ordering) → AllByRecursion (IsKnownOrder forms) orders → r ≡ lookup (λ k. pair_eq pair k) orders → IfSome r (λ o. o ≡ order (form_at forms pair.0) (form_at forms pair.1))
known-found forms orders pair None h e = tt
known-found forms orders pair (Some o) h e = (entry-found (ℕ × ℕ) Ordering pair_eq pair-same (IsKnownOrder forms) orders pair (Some o) h e).2

-- what is known after an answer was noted
pub noted : (all : List FormNode) (old new : List ((ℕ × ℕ) × Ordering)) (taken : List (FormStep × ℕ)) {X E : Type 0} (r : Result X E) (pair : ℕ × ℕ) (o : Ordering) → AreForms all old taken → IsKnownOrder (meanings [] all) (pair, o) → OnOk r (new ≡ insert_entry pair_eq old pair o) → OnErr r (new ≡ old) → AreForms all new taken
noted all old new taken r pair o h k e f = record { nodes = h.nodes; orders = entry-noted (ℕ × ℕ) Ordering pair_eq pair-same (IsKnownOrder (meanings [] all)) old new r pair o k h.orders e f; steps = h.steps }

-- What is kept of what follows.

pub steps-more : {old new : List Path} → AddsForms old new → (taken : List (FormStep × ℕ)) → AllByRecursion (IsKnownStep old) taken → AllByRecursion (IsKnownStep new) taken
steps-more g [] h = tt
steps-more g (known ∷ taken) h =
    let one = h.0 in
    let rest = named g known.1 _ one.1 in
    ((within g known.0.all one.0, (rest.0, rest.1 ∙ sym (ap (λ a. members_after a (step_symbol known.0)) (kept g known.0.all one.0)))), steps-more g taken h.1)
