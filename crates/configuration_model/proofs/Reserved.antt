-- The queue lines are the reservations, and on each link they sum to its load.
use Rattle.std.proofs.Common.{◌≡◌, ◌≢◌, ℕ, zero, suc, ◌+◌, ◌*◌, ◌<◌, ◌==◌, ◌&&◌, ◌⊎◌, inl, inr, nat_lt, Bool, true, false, cond, List, [], ◌∷◌, ◌++◌, append-nil, length, filter, zip, sum_by, get_or, Contains, Some, slice_get, refl, sym, ◌∙◌, ap, ap₂, subst, arith}
use Rattle.std.proofs.lemmas.Bool.{eqb-true, eq-eqb}
use Rattle.std.proofs.lemmas.List.Sums.{sum_by-cons}
use Rattle.std.specs.List.{AllByRecursion, AllPairs, flat_map}
use Rattle.merlin_model.specs.declared.policy.Symbol.{Symbol}
use Rattle.merlin_model.specs.declared.policy.Ends.{Ends}
use Rattle.merlin_model.specs.declared.network.DirectedLink.{DirectedLink}
use Rattle.merlin_model.specs.declared.config.Queue.{Queue}
use Rattle.merlin_model.specs.declared.config.Config.{Config}
use Rattle.merlin_model.specs.Networks.{Network, Pairwise, directed_links}
use Rattle.merlin_model.specs.Words.{crossings}
use Rattle.merlin_model.specs.Policies.{Policy}
use Rattle.merlin_model.specs.Rates.{min_of}
use Rattle.merlin_model.specs.Assignments.{load, IsFeasible}
use Rattle.merlin_model.specs.Headline.{IsReservation, reserved_on, MeetsGuarantees}
use Rattle.merlin_model.proofs.Members.{In, in_from, in_to, all_in, in_append, in_append-left, in_append-right, in_flat_map, flat_map_in}
use Rattle.merlin_model.proofs.Traces.{Some-inj}
use Rattle.rules_model.proofs.Pieces.{all-from, filter-all, filter-pieces}
use Rattle.configuration_model.specs.Queues.{queue_line, queues_on, reserved_queues}
use Rattle.configuration_model.specs.Compiled.{IsMade}
use Rattle.configuration_model.proofs.Lists.{None-Some, false-true}
use Rattle.configuration_model.proofs.Capped.{positive, positive-is, taken}

-- Lists.

append-apart : {X : Type 0} (R : X → X → Type 0) (xs ys : List X) → Pairwise R xs → Pairwise R ys → ((x y : X) → In x xs → In y ys → R x y) → Pairwise R (xs ++ ys)
append-apart R [] ys ux uy across = uy
append-apart {X} R (x ∷ xs) ys ux uy across = (all xs (λ z i. all_in (R x) xs z ux.0 i), append-apart R xs ys ux.1 uy (λ a b i j. across a b (inr i) j))
  where
    all : (zs : List X) → ((z : X) → In z zs → R x z) → AllByRecursion (R x) (zs ++ ys)
    all [] h = all-from (R x) ys (λ y j. across x y (inl refl) j)
    all (z ∷ zs) h = (h z (inl refl), all zs (λ w i. h w (inr i)))

pieces-apart : {X A : Type 0} (R : X → X → Type 0) (S : A → A → Type 0) (f : X → List A) (xs : List X) → Pairwise R xs → ((x : X) → Pairwise S (f x)) →
    ((x y : X) (a b : A) → R x y → In a (f x) → In b (f y) → S a b) → Pairwise S (flat_map f xs)
pieces-apart R S f [] up each across = tt
pieces-apart R S f (x ∷ xs) up each across = append-apart S (f x) (flat_map f xs) (each x) (pieces-apart R S f xs up.1 each across)
    (λ a b i j. let m = in_flat_map f xs b j in across x m.0 a b (all_in (R x) xs m.0 up.0 m.1) i m.2)

get-in : {X : Type 0} (xs : List X) (k : ℕ) (d : X) → k < length xs → In (get_or xs k d) xs
get-in [] k d lt = let none : ⊥ = omega arith in absurd none
get-in (x ∷ xs) zero d lt = inl refl
get-in (x ∷ xs) (suc k) d lt = inr (get-in xs k d (omega arith))

apart-pairs : {X : Type 0} (xs : List X) → Pairwise (λ x y. x ≢ y) xs → AllPairs (λ x y. x ≢ y) xs
apart-pairs [] up i j d lt le e = let none : ⊥ = omega arith in none
apart-pairs (x ∷ xs) up zero zero d lt le e = let none : ⊥ = omega arith in none
apart-pairs (x ∷ xs) up zero (suc j) d lt le e = all_in (λ y. x ≢ y) xs (get_or xs j d) up.0 (get-in xs j d (omega arith)) e
apart-pairs (x ∷ xs) up (suc i) zero d lt le e = let none : ⊥ = omega arith in none
apart-pairs (x ∷ xs) up (suc i) (suc j) d lt le e = apart-pairs xs up.1 i j d (omega arith) (omega arith) e

-- of elements that exclude each other the filter keeps the one that passes
filter-one : {X : Type 0} (R : X → X → Type 0) (p : X → Bool) (xs : List X) (x : X) → ((v w : X) → R v w → p v ≡ true → p w ≡ true → ⊥) → Pairwise R xs → In x xs → p x ≡ true → filter p xs ≡ x ∷ []
filter-one R p [] x apart up i e = absurd i
filter-one {X} R p (y ∷ ys) x apart up i e = by (p y) refl i (λ j. filter-one R p ys x apart up.1 j e)
  where
    not-true : (b : Bool) → (b ≡ true → ⊥) → b ≡ false
    not-true true h = absurd (h refl)
    not-true false h = refl

    by : (b : Bool) → p y ≡ b → In x (y ∷ ys) → (In x ys → filter p ys ≡ x ∷ []) → cond b (y ∷ filter p ys) (filter p ys) ≡ x ∷ []
    by true h (inl same) ih = ap₂ (λ z zs. z ∷ zs) (sym same) (filter-all p false ys (λ z j. not-true (p z) (λ t. apart y z (all_in (R y) ys z up.0 j) h t)))
    by true h (inr j) ih = absurd (apart y x (all_in (R y) ys x up.0 j) h e)
    by false h (inl same) ih = absurd (false-true (sym h ∙ (ap p (sym same) ∙ e)))
    by false h (inr j) ih = ih j

from-zero : (n : ℕ) → 0 + n ≡ n
from-zero n = omega arith

abbrev line_for : Policy → DirectedLink → ℕ → Ends → List Symbol → Queue
line_for policy link q e w = record { loc = link.from; port = link.out_port; queue = q; rate = min_of policy e.statement * crossings w link.from link.to }

module _ (policy : Policy) (link : DirectedLink) where
  record IsOn (x : ℕ) (es : List Ends) (ws : List (List Symbol)) (q : Queue) : Type 0 where
    place : ℕ
    ends_at : Ends
    word : List Symbol
    stands : slice_get es place ≡ Some ends_at
    walks : slice_get ws place ≡ Some word
    crossed : 0 < crossings word link.from link.to
    is : q ≡ line_for policy link (x + place) ends_at word

  on-line : (x : ℕ) (e : Ends) (w : List Symbol) (q : Queue) → In q (queue_line policy link x e w) → (0 < crossings w link.from link.to) × (q ≡ line_for policy link x e w)
  on-line x e w q i = by (nat_lt 0 (crossings w link.from link.to)) refl i
    where
      by : (b : Bool) → nat_lt 0 (crossings w link.from link.to) ≡ b → In q (cond b (line_for policy link x e w ∷ []) []) → (0 < crossings w link.from link.to) × (q ≡ line_for policy link x e w)
      by true h (inl same) = (positive (crossings w link.from link.to) h, same)
      by true h (inr j) = absurd j
      by false h j = absurd j

  on : (x : ℕ) (es : List Ends) (ws : List (List Symbol)) (q : Queue) → In q (queues_on policy link x es ws) → IsOn x es ws q
  on x [] ws q i = absurd i
  on x (e ∷ es) [] q i = absurd i
  on x (e ∷ es) (w ∷ ws) q i = by (in_append (queue_line policy link x e w) (queues_on policy link (suc x) es ws) q i) (on (suc x) es ws q)
    where
      plus : x ≡ x + 0
      plus = omega arith

      by : In q (queue_line policy link x e w) ⊎ In q (queues_on policy link (suc x) es ws) → (In q (queues_on policy link (suc x) es ws) → IsOn (suc x) es ws q) → IsOn x (e ∷ es) (w ∷ ws) q
      by (inl j) ih = let h = on-line x e w q j in record { place = 0; ends_at = e; word = w; stands = refl; walks = refl; crossed = h.0; is = h.1 ∙ ap (λ n. line_for policy link n e w) plus }
      by (inr j) ih =
          let later = ih j in
          let next : suc x + later.place ≡ x + suc later.place = omega arith in
          record { place = suc later.place; ends_at = later.ends_at; word = later.word; stands = later.stands; walks = later.walks; crossed = later.crossed; is = later.is ∙ ap (λ n. line_for policy link n later.ends_at later.word) next }

  there : (x : ℕ) (es : List Ends) (ws : List (List Symbol)) (k : ℕ) (e : Ends) (w : List Symbol) → slice_get es k ≡ Some e → slice_get ws k ≡ Some w → 0 < crossings w link.from link.to → In (line_for policy link (x + k) e w) (queues_on policy link x es ws)
  there x [] ws k e w se sw lt = absurd (None-Some se)
  there x (e' ∷ es) [] k e w se sw lt = absurd (None-Some sw)
  there x (e' ∷ es) (w' ∷ ws) zero e w se sw lt = in_append-left (queue_line policy link x e' w') (queues_on policy link (suc x) es ws) (line_for policy link (x + 0) e w)
      (subst (λ b. In (line_for policy link (x + 0) e w) (cond b (line_for policy link x e' w' ∷ []) [])) (sym (positive-is (crossings w' link.from link.to) (subst (λ v. 0 < crossings v link.from link.to) (sym (Some-inj sw)) lt)))
      (inl (ap (λ n. line_for policy link n e w) plus ∙ ap₂ (line_for policy link x) (sym (Some-inj se)) (sym (Some-inj sw)))))
    where
      plus : x + 0 ≡ x
      plus = omega arith
  there x (e' ∷ es) (w' ∷ ws) (suc k) e w se sw lt = in_append-right (queue_line policy link x e' w') (queues_on policy link (suc x) es ws) (line_for policy link (x + suc k) e w)
      (subst (λ n. In (line_for policy link n e w) (queues_on policy link (suc x) es ws)) next (there (suc x) es ws k e w se sw lt))
    where
      next : suc x + k ≡ x + suc k
      next = omega arith

  -- the queues of a link ascend
  line-up : (x : ℕ) (e : Ends) (w : List Symbol) → Pairwise (λ q r. q.queue < r.queue) (queue_line policy link x e w)
  line-up x e w = by (nat_lt 0 (crossings w link.from link.to))
    where
      by : (b : Bool) → Pairwise (λ (q r : Queue). q.queue < r.queue) (cond b (line_for policy link x e w ∷ []) [])
      by true = (tt, tt)
      by false = tt

  wire-up : (x : ℕ) (es : List Ends) (ws : List (List Symbol)) → Pairwise (λ q r. q.queue < r.queue) (queues_on policy link x es ws)
  wire-up x [] ws = tt
  wire-up x (e ∷ es) [] = tt
  wire-up x (e ∷ es) (w ∷ ws) = append-apart (λ q r. q.queue < r.queue) (queue_line policy link x e w) (queues_on policy link (suc x) es ws) (line-up x e w) (wire-up (suc x) es ws)
      (λ q r i j. let a = ap (λ l. l.queue) (on-line x e w q i).1 in let later = on (suc x) es ws r j in let b = ap (λ l. l.queue) later.is in omega arith)

  -- their rates sum to the load
  rates : (x : ℕ) (es : List Ends) (ws : List (List Symbol)) → sum_by (λ q. q.rate) (queues_on policy link x es ws) ≡ sum_by (λ r. min_of policy r.0.statement * crossings r.1 link.from link.to) (zip es ws)
  rates x [] ws = refl
  rates x (e ∷ es) [] = refl
  rates x (e ∷ es) (w ∷ ws) = by (nat_lt 0 (crossings w link.from link.to)) refl (rates (suc x) es ws) ∙ sym (sum_by-cons (λ (r : Ends × List Symbol). min_of policy r.0.statement * crossings r.1 link.from link.to) (e, w) (zip es ws))
    where
      nothing : (m c : ℕ) → nat_lt 0 c ≡ false → 0 ≡ m * c
      nothing m c h = let none : c ≡ 0 = grind arith in (let zero-is : m * 0 ≡ 0 = omega arith in sym zero-is) ∙ ap (λ n. m * n) (sym none)

      by : (b : Bool) → nat_lt 0 (crossings w link.from link.to) ≡ b → sum_by (λ q. q.rate) (queues_on policy link (suc x) es ws) ≡ sum_by (λ r. min_of policy r.0.statement * crossings r.1 link.from link.to) (zip es ws) →
          sum_by (λ q. q.rate) (cond b (line_for policy link x e w ∷ []) [] ++ queues_on policy link (suc x) es ws)
          ≡ min_of policy e.statement * crossings w link.from link.to + sum_by (λ r. min_of policy r.0.statement * crossings r.1 link.from link.to) (zip es ws)
      by true h ih = sum_by-cons (λ (q : Queue). q.rate) (line_for policy link x e w) (queues_on policy link (suc x) es ws) ∙ ap (λ n. min_of policy e.statement * crossings w link.from link.to + n) ih
      by false h ih = ih ∙ sym (from-zero _) ∙ ap (λ n. n + sum_by (λ r. min_of policy r.0.statement * crossings r.1 link.from link.to) (zip es ws)) (nothing (min_of policy e.statement) (crossings w link.from link.to) h)

module _ (net : Network) (policy : Policy) (ends : List Ends) (walks : List (List Symbol)) (config : Config) (m : IsMade net policy ends walks config) where
  abbrev piece : DirectedLink → List Queue
  piece link = queues_on policy link 1 ends walks

  reservation : (q : Queue) → In q (reserved_queues net policy ends walks) → IsReservation net policy ends walks config q
  reservation q i =
      let link = in_flat_map piece (directed_links net) q i in
      let h = on policy link.0 1 ends walks q link.2 in
      record {
        place = h.place;
        at = h.ends_at;
        walk = h.word;
        statement = h.stands;
        walks_there = h.walks;
        link = link.0;
        present = in_to (directed_links net) link.0 link.1;
        crossed = h.crossed;
        loc = ap (λ l. l.loc) h.is;
        port = ap (λ l. l.port) h.is;
        number = ap (λ l. l.queue) h.is ∙ turned h.place;
        rate = ap (λ l. l.rate) h.is;
      }
    where
      turned : (k : ℕ) → 1 + k ≡ k + 1
      turned k = omega arith

  reserved : (q : Queue) → IsReservation net policy ends walks config q → In q (reserved_queues net policy ends walks)
  reserved q r = flat_map_in piece (directed_links net) r.link q (in_from (directed_links net) r.link r.present) (subst (λ l. In l (piece r.link)) (sym same) (there policy r.link 1 ends walks r.place r.at r.walk r.statement r.walks_there r.crossed))
    where
      turned : r.place + 1 ≡ 1 + r.place
      turned = omega arith

      queue : q.queue ≡ 1 + r.place
      queue = r.number ∙ turned

      same : q ≡ line_for policy r.link (1 + r.place) r.at r.walk
      same = λ i. record { loc = r.loc i; port = r.port i; queue = queue i; rate = r.rate i }

  apart : Pairwise (λ q r. q ≢ r) (reserved_queues net policy ends walks)
  apart = pieces-apart (λ v w. v.from ≡ w.from → (v.out_port ≢ w.out_port) × (v.to ≢ w.to)) (λ q r. q ≢ r) piece (directed_links net) m.network.ports
      (λ link. weaker (piece link) (wire-up policy link 1 ends walks))
      (λ v w q r ports i j same.
      let a = on policy v 1 ends walks q i in
      let b = on policy w 1 ends walks r j in
      (ports (sym (ap (λ l. l.loc) a.is) ∙ ap (λ l. l.loc) same ∙ ap (λ l. l.loc) b.is)).0 (sym (ap (λ l. l.port) a.is) ∙ ap (λ l. l.port) same ∙ ap (λ l. l.port) b.is))
    where
      one : (q : Queue) (rs : List Queue) → AllByRecursion (λ r. q.queue < r.queue) rs → AllByRecursion (λ r. q ≢ r) rs
      one q [] h = tt
      one q (r ∷ rs) h = let lt = h.0 in ((λ same. let equal : q.queue ≡ r.queue = ap (λ l. l.queue) same in let none : ⊥ = omega arith in none), one q rs h.1)

      weaker : (qs : List Queue) → Pairwise (λ q r. q.queue < r.queue) qs → Pairwise (λ q r. q ≢ r) qs
      weaker [] up = tt
      weaker (q ∷ qs) up = (one q qs up.0, weaker qs up.1)

  module _ (link : DirectedLink) (present : In link (directed_links net)) where
    abbrev test : DirectedLink → Bool
    test w = (w.from == link.from) && (w.out_port == link.out_port)

    passes : (v : DirectedLink) → ((v.from == link.from) && (v.out_port == link.out_port)) ≡ true → (v.from ≡ link.from) × (v.out_port ≡ link.out_port)
    passes v e = by (v.from == link.from) refl (v.out_port == link.out_port) refl e
      where
        by : (a : Bool) → (v.from == link.from) ≡ a → (b : Bool) → (v.out_port == link.out_port) ≡ b → (a && b) ≡ true → (v.from ≡ link.from) × (v.out_port ≡ link.out_port)
        by true f true g h = (eqb-true v.from link.from f, eqb-true v.out_port link.out_port g)
        by true f false g h = absurd (false-true h)
        by false f b g h = absurd (false-true h)

    alone : filter test (directed_links net) ≡ link ∷ []
    alone = filter-one (λ v w. v.from ≡ w.from → (v.out_port ≢ w.out_port) × (v.to ≢ w.to)) test (directed_links net) link
        (λ v w ports a b. let x = passes v a in let y = passes w b in (ports (x.0 ∙ sym y.0)).0 (x.1 ∙ sym y.1)) m.network.ports present (itself (link.from == link.from) (link.out_port == link.out_port) (eq-eqb link.from link.from refl) (eq-eqb link.out_port link.out_port refl))
      where
        itself : (a b : Bool) → a ≡ true → b ≡ true → (a && b) ≡ true
        itself true b e f = f
        itself false b e f = e

    sums : reserved_on net policy ends walks config link ≡ load net policy ends walks link.from link.to
    sums =
        ap (λ qs. sum_by (λ q. q.rate) (filter (λ q. (q.loc == link.from) && (q.port == link.out_port)) qs)) m.queues
        ∙ ap (sum_by (λ (q : Queue). q.rate)) (
        filter-pieces (λ (q : Queue). (q.loc == link.from) && (q.port == link.out_port)) piece test (directed_links net)
        (λ w q i. let h = on policy w 1 ends walks q i in ap (λ (l : Queue). (l.loc == link.from) && (l.port == link.out_port)) h.is)
        ∙ ap (flat_map piece) alone
        ∙ append-nil (piece link)
        )
        ∙ rates policy link 1 ends walks

  pub meets-guarantees : IsFeasible net policy ends walks → MeetsGuarantees net policy ends walks config
  meets-guarantees feasible = record {
    lines = λ q. (
      λ c. reservation q (in_from (reserved_queues net policy ends walks) q (subst (λ qs. Contains qs q) m.queues c)),
      λ r. subst (λ qs. Contains qs q) (sym m.queues) (in_to (reserved_queues net policy ends walks) q (reserved q r)),
    );
    once = subst (λ qs. AllPairs (λ q r. q ≢ r) qs) (sym m.queues) (apart-pairs (reserved_queues net policy ends walks) apart);
    loads = all-from _ (directed_links net) (λ link i. sums link i);
    feasible = feasible;
    taken = λ s p k e valid allowed stands statement. taken net policy ends walks config m s p valid allowed k e stands statement;
  }
