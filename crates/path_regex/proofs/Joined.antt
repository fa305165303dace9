-- Laws of joining normal forms that share their parts.
use Rattle.std.proofs.Common.{◌≡◌, ◌<◌, ◌||◌, ◌⊎◌, inl, inr, ℕ, List, [], ◌∷◌, ◌++◌, length, map, append_assoc, append-nil, ◌≤◌, refl, sym, ◌∙◌, ap, ap₂, subst, arith}
use Rattle.std.specs.List.{AllByRecursion, flat_map, list_any}
use Rattle.std.specs.Ordering.{match_ordering}
use Rattle.std.specs.declared.cmp.Ordering.{Ordering}
use Rattle.std.specs.declared.cmp.Ordering.TheVariants.{Less, Equal, Greater}
use Rattle.merlin_model.specs.declared.policy.Path.{Path, Nothing, Cat, Alt, Star, Not}
use Rattle.path_regex.specs.Derivatives.{takes_empty}
use Rattle.path_regex.specs.Order.{order, rank}
use Rattle.path_regex.specs.Normal.{members, added, added_all, one_of}
use Rattle.path_regex.proofs.Shapes.{takes_empty-Alt, members-Alt, added_all-append, flat_map-last}
use Rattle.path_regex.specs.declared.forms.FormNode.{FormNode}
use Rattle.path_regex.specs.declared.forms.FormNode.TheVariants.{Nothing as NodeNothing, Empty as NodeEmpty, Dot as NodeDot, Loc as NodeLoc, Fun as NodeFun, Cat as NodeCat, NoChoice as NodeNoChoice, Alt as NodeAlt, Star as NodeStar, Not as NodeNot}
use Rattle.path_regex.specs.Shared.{form_at, alt_by, IsChain, meaning, IsNode, AddsForms, IsFormAt, node_rank}
use Rattle.path_regex.proofs.Sharing.{rank-meaning, empty-full, kept, within, grows-twice}
use Rattle.path_regex.proofs.Ranked.{alt-rank}

pub members-by : (paths : List Path) → members (alt_by paths) ≡ paths
members-by [] = refl
members-by (a ∷ paths) = members-Alt (a ∷ paths)

pub named-chain : (forms : List Path) (k : ℕ) (paths : List Path) → form_at forms k ≡ alt_by paths → IsChain (form_at forms k)
named-chain forms k paths e = subst IsChain (sym e) (ap alt_by (sym (members-by paths)))

pub named-members : (forms : List Path) (k : ℕ) (paths : List Path) → form_at forms k ≡ alt_by paths → members (form_at forms k) ≡ paths
named-members forms k paths e = ap members e ∙ members-by paths

-- What a node says of its form.

module _ (forms : List Path) (k : ℕ) (n : FormNode) (h : IsNode forms k n) where
  pub is-Cat : (a b : ℕ) → n ≡ NodeCat a b → form_at forms k ≡ Cat (form_at forms a) (form_at forms b)
  is-Cat a b e = h.1 ∙ ap (meaning forms) e

  pub is-Star : (a : ℕ) → n ≡ NodeStar a → form_at forms k ≡ Star (form_at forms a)
  is-Star a e = h.1 ∙ ap (meaning forms) e

  pub is-Not : (a : ℕ) → n ≡ NodeNot a → form_at forms k ≡ Not (form_at forms a)
  is-Not a e = h.1 ∙ ap (meaning forms) e

  pub is-Nothing : n ≡ NodeNothing → form_at forms k ≡ Nothing
  is-Nothing e = h.1 ∙ ap (meaning forms) e

  pub is-Alt : (a t : ℕ) → n ≡ NodeAlt a t → form_at forms k ≡ Alt (form_at forms a ∷ members (form_at forms t))
  is-Alt a t e = h.1 ∙ ap (meaning forms) e

  pub members-at : (a t : ℕ) → n ≡ NodeAlt a t → members (form_at forms k) ≡ form_at forms a ∷ members (form_at forms t)
  members-at a t e = ap members (is-Alt a t e) ∙ members-Alt (form_at forms a ∷ members (form_at forms t))

  pub parts-Alt : (a t : ℕ) → n ≡ NodeAlt a t → (a < k) × (t < k) × IsChain (form_at forms t)
  parts-Alt a t e = (subst (λ m. IsNode forms k m) e h).0

  pub alt-chain : (a t : ℕ) → n ≡ NodeAlt a t → IsChain (form_at forms k)
  alt-chain a t e = is-Alt a t e ∙ sym (ap alt_by (members-at a t e))

  pub takes-Alt : (a t : ℕ) → n ≡ NodeAlt a t → takes_empty (form_at forms k) ≡ (takes_empty (form_at forms a) || takes_empty (form_at forms t))
  takes-Alt a t e =
      ap takes_empty (is-Alt a t e) ∙ takes_empty-Alt (form_at forms a ∷ members (form_at forms t))
      ∙ ap (λ b. takes_empty (form_at forms a) || b) (sym (ap takes_empty (subst (λ m. IsNode forms k m) e h).0.2 ∙ takes-by (members (form_at forms t))))
    where
      takes-by : (paths : List Path) → takes_empty (alt_by paths) ≡ list_any takes_empty paths
      takes-by [] = refl
      takes-by (b ∷ paths) = takes_empty-Alt (b ∷ paths)

  pub part-Not : (a : ℕ) → n ≡ NodeNot a → a < k
  part-Not a e = (subst (λ m. IsNode forms k m) e h).0

  pub part-Star : (a : ℕ) → n ≡ NodeStar a → a < k
  part-Star a e = (subst (λ m. IsNode forms k m) e h).0

  pub parts-Cat : (a b : ℕ) → n ≡ NodeCat a b → (a < k) × (b < k)
  parts-Cat a b e = (subst (λ m. IsNode forms k m) e h).0

  rank-one : (m : FormNode) → node_rank m ≡ 1 → m ≡ NodeNothing
  rank-one NodeNothing e = refl
  rank-one NodeEmpty e = absurd (omega (arith, e))
  rank-one NodeDot e = absurd (omega (arith, e))
  rank-one (NodeLoc l) e = absurd (omega (arith, e))
  rank-one (NodeFun f) e = absurd (omega (arith, e))
  rank-one (NodeCat a b) e = absurd (omega (arith, e))
  rank-one NodeNoChoice e = absurd (omega (arith, e))
  rank-one (NodeAlt a b) e = absurd (omega (arith, e))
  rank-one (NodeStar a) e = absurd (omega (arith, e))
  rank-one (NodeNot a) e = absurd (omega (arith, e))

  pub no-Nothing : (n ≡ NodeNothing → ⊥) → form_at forms k ≡ Nothing → ⊥
  no-Nothing other e = other (rank-one n (sym (rank-meaning forms n) ∙ ap rank (sym h.1 ∙ e)))

-- Without members.

module _ (forms : List Path) (k : ℕ) (n : FormNode) (h : IsNode forms k n) where
  pub no-members : (n ≡ NodeNothing) ⊎ (n ≡ NodeNoChoice) → members (form_at forms k) ≡ []
  no-members (inl e) = ap members (h.1 ∙ ap (meaning forms) e)
  no-members (inr e) = ap members (h.1 ∙ ap (meaning forms) e) ∙ members-Alt []

  -- the end of a chain
  pub chain-end : ((a t : ℕ) → n ≡ NodeAlt a t → ⊥) → IsChain (form_at forms k) → form_at forms k ≡ Nothing
  chain-end other chain = by (members (form_at forms k)) refl
    where
      some : (b : Path) (l : List Path) (m : FormNode) → n ≡ m → meaning forms m ≡ Alt (b ∷ l) → ⊥
      some b l (NodeAlt a t) en e = other a t en
      some b l NodeNoChoice en e = empty-full b l (sym (members-Alt []) ∙ ap members e ∙ members-Alt (b ∷ l))
      some b l m en e = let seven : node_rank m ≡ 7 = sym (rank-meaning forms m) ∙ ap rank e ∙ alt-rank (b ∷ l) in cc

      by : (l : List Path) → members (form_at forms k) ≡ l → form_at forms k ≡ Nothing
      by [] e = chain ∙ ap alt_by e
      by (b ∷ l) e = absurd (some b l n refl (sym h.1 ∙ chain ∙ ap alt_by e))

  pub chain-empty : ((a t : ℕ) → n ≡ NodeAlt a t → ⊥) → IsChain (form_at forms k) → members (form_at forms k) ≡ []
  chain-empty other chain = ap members (chain-end other chain)

-- Members put in their places.

added-by : (a b : Path) (rest : List Path) (o : Ordering) → order a b ≡ o → added a (b ∷ rest) ≡ match_ordering o (a ∷ b ∷ rest) (b ∷ rest) (b ∷ added a rest)
added-by a b rest o e = ap (λ p. match_ordering p (a ∷ b ∷ rest) (b ∷ rest) (b ∷ added a rest)) e

pub added-less : (a b : Path) (xs rest : List Path) → xs ≡ b ∷ rest → order a b ≡ Less → Alt (a ∷ xs) ≡ alt_by (added a xs)
added-less a b xs rest e l = ap (λ ys. Alt (a ∷ ys)) e ∙ sym (ap alt_by (ap (added a) e ∙ added-by a b rest Less l))

pub added-equal : (a b : Path) (xs rest : List Path) → xs ≡ b ∷ rest → order a b ≡ Equal → xs ≡ added a xs
added-equal a b xs rest e l = e ∙ sym (ap (added a) e ∙ added-by a b rest Equal l)

pub added-greater : (a b c r : Path) (xs rest : List Path) → xs ≡ b ∷ rest → order a b ≡ Greater → c ≡ b → r ≡ alt_by (added a rest) → Alt (c ∷ members r) ≡ alt_by (added a xs)
added-greater a b c r xs rest e l cb re =
    ap₂ (λ x ys. Alt (x ∷ ys)) cb (ap members re ∙ members-by (added a rest)) ∙ sym (ap alt_by (ap (added a) e ∙ added-by a b rest Greater l))

pub one-chain : (a r : Path) → IsChain r → (r ≡ Nothing → ⊥) → one_of (a ∷ members r) ≡ Alt (a ∷ members r)
one-chain a r chain some = by (members r) refl
  where
    by : (l : List Path) → members r ≡ l → one_of (a ∷ members r) ≡ Alt (a ∷ members r)
    by [] e = absurd (some (chain ∙ ap alt_by e))
    by (b ∷ l) e = ap (λ ys. one_of (a ∷ ys)) e ∙ sym (ap (λ ys. Alt (a ∷ ys)) e)

-- What is known while forms are joined.
pub record IsJoining (old now : List Path) (all left : List ℕ) (joined : ℕ) : Type 0 where
  pub grows : AddsForms old now
  pub below : AllByRecursion (λ form. form < length old) left
  pub within : joined < length now
  pub chain : IsChain (form_at now joined)
  pub same : added_all (flat_map members (map (form_at old) left)) (members (form_at now joined)) ≡ added_all (flat_map members (map (form_at old) all)) []

pub map-last : (f : ℕ → Path) (xs : List ℕ) (x : ℕ) → map f (xs ++ x ∷ []) ≡ map f xs ++ f x ∷ []
map-last f [] x = refl
map-last f (y ∷ xs) x = ap (λ l. f y ∷ l) (map-last f xs x)

pub all-front : (P : ℕ → Type 0) (xs : List ℕ) (x : ℕ) → AllByRecursion P (xs ++ x ∷ []) → AllByRecursion P xs × P x
all-front P [] x h = (tt, h.0)
all-front P (y ∷ xs) x h = let rest = all-front P xs x h.1 in ((h.0, rest.0), rest.1)

pub begin-joining : (old now : List Path) (all : List ℕ) (joined : ℕ) → AddsForms old now → AllByRecursion (λ form. form < length old) all → IsFormAt now joined Nothing → IsJoining old now all all joined
begin-joining old now all joined g below h = record {
  grows = g;
  below = below;
  within = h.0;
  chain = named-chain now joined [] h.1;
  same = ap (added_all (flat_map members (map (form_at old) all))) (named-members now joined [] h.1);
}

pub joining-more : (old mid new : List Path) (all left rest : List ℕ) (form joined next : ℕ) → IsJoining old mid all left joined → left ≡ rest ++ form ∷ [] → AddsForms mid new →
    IsFormAt new next (alt_by (added_all (members (form_at mid form)) (members (form_at mid joined)))) → IsJoining old new all rest next
joining-more old mid new all left rest form joined next h e g named =
    let below = all-front (λ k. k < length old) rest form (subst (AllByRecursion (λ k. k < length old)) e h.below) in
    record {
      grows = grows-twice h.grows g;
      below = below.0;
      within = named.0;
      chain = named-chain new next _ named.1;
      same = ap (added_all (flat_map members (map (form_at old) rest))) (named-members new next _ named.1)
          ∙ sym (added_all-append (flat_map members (map (form_at old) rest)) (members (form_at mid form)) (members (form_at mid joined)))
          ∙ ap (λ l. added_all l (members (form_at mid joined)))
          (ap (λ a. flat_map members (map (form_at old) rest) ++ members a) (kept h.grows form below.1)
          ∙ sym (ap (λ l. flat_map members (map (form_at old) l)) e ∙ ap (flat_map members) (map-last (form_at old) rest form) ∙ flat_map-last (map (form_at old) rest) (form_at old form)))
          ∙ h.same;
    }

-- What is known while forms are collected, one for each path.
pub record AreCollected (f : Path → Path) (old now : List Path) (paths : List Path) (forms : List ℕ) : Type 0 where
  pub grows : AddsForms old now
  pub below : AllByRecursion (λ form. form < length now) forms
  pub same : map (form_at now) forms ≡ map f paths

pub one-more-collected : (f : Path → Path) (old mid new : List Path) (paths : List Path) (forms : List ℕ) (a : Path) (form : ℕ) → AreCollected f old mid paths forms → AddsForms mid new → IsFormAt new form (f a) → AreCollected f old new (paths ++ a ∷ []) (forms ++ form ∷ [])
one-more-collected f old mid new paths forms a form h g named = record {
  grows = grows-twice h.grows g;
  below = all-snoc forms (all-kept forms h.below);
  same = map-last (form_at new) forms form ∙ ap₂ (λ l x. l ++ x ∷ []) (map-kept forms h.below ∙ h.same) named.1 ∙ sym (paths-last paths);
}
  where
    all-kept : (ks : List ℕ) → AllByRecursion (λ k. k < length mid) ks → AllByRecursion (λ k. k < length new) ks
    all-kept [] b = tt
    all-kept (k ∷ ks) b = (within g k b.0, all-kept ks b.1)

    all-snoc : (ks : List ℕ) → AllByRecursion (λ k. k < length new) ks → AllByRecursion (λ k. k < length new) (ks ++ form ∷ [])
    all-snoc [] b = (named.0, tt)
    all-snoc (k ∷ ks) b = (b.0, all-snoc ks b.1)

    map-kept : (ks : List ℕ) → AllByRecursion (λ k. k < length mid) ks → map (form_at new) ks ≡ map (form_at mid) ks
    map-kept [] b = refl
    map-kept (k ∷ ks) b = ap₂ (λ x l. x ∷ l) (kept g k b.0) (map-kept ks b.1)

    paths-last : (xs : List Path) → map f (xs ++ a ∷ []) ≡ map f xs ++ f a ∷ []
    paths-last [] = refl
    paths-last (x ∷ xs) = ap (λ l. f x ∷ l) (paths-last xs)

-- What is known while the members of an Alt are put before one another.
pub record IsChaining (old now : List Path) (all left : List ℕ) (chained : ℕ) : Type 0 where
  pub grows : AddsForms old now
  pub below : AllByRecursion (λ form. form < length old) left
  pub within : chained < length now
  pub chain : IsChain (form_at now chained)
  pub same : map (form_at old) left ++ members (form_at now chained) ≡ map (form_at old) all

pub begin-chaining : (old now : List Path) (all : List ℕ) (chained : ℕ) → AddsForms old now → AllByRecursion (λ form. form < length old) all → IsFormAt now chained Nothing → IsChaining old now all all chained
begin-chaining old now all chained g below h = record {
  grows = g;
  below = below;
  within = h.0;
  chain = named-chain now chained [] h.1;
  same = ap (λ l. map (form_at old) all ++ l) (named-members now chained [] h.1) ∙ append-nil (map (form_at old) all);
}

pub chain-more : (old mid new : List Path) (all left rest : List ℕ) (form chained next : ℕ) → IsChaining old mid all left chained → left ≡ rest ++ form ∷ [] → AddsForms mid new →
    IsFormAt new next (Alt (form_at mid form ∷ members (form_at mid chained))) → IsChaining old new all rest next
chain-more old mid new all left rest form chained next h e g named =
    let below = all-front (λ k. k < length old) rest form (subst (AllByRecursion (λ k. k < length old)) e h.below) in
    record {
      grows = grows-twice h.grows g;
      below = below.0;
      within = named.0;
      chain = named-chain new next (form_at mid form ∷ members (form_at mid chained)) named.1;
      same = ap (λ l. map (form_at old) rest ++ l) (named-members new next (form_at mid form ∷ members (form_at mid chained)) named.1 ∙ ap (λ a. a ∷ members (form_at mid chained)) (kept h.grows form below.1))
          ∙ sym (append_assoc (map (form_at old) rest) (form_at old form ∷ []) (members (form_at mid chained)))
          ∙ ap (λ l. l ++ members (form_at mid chained)) (sym (map-last (form_at old) rest form) ∙ sym (ap (map (form_at old)) e))
          ∙ h.same;
    }

-- where a form stands in all that are left of one
pub chain-part : (old now : List Path) (all left rest : List ℕ) (form chained : ℕ) → IsChaining old now all left chained → left ≡ rest ++ form ∷ [] → form < length now
chain-part old now all left rest form chained h e =
    within h.grows form (all-front (λ k. k < length old) rest form (subst (AllByRecursion (λ k. k < length old)) e h.below)).1

-- the members of the chain are those of all
pub chained-all : (old now : List Path) (all left : List ℕ) (chained : ℕ) → IsChaining old now all left chained → left ≡ [] → (length all ≡ 0 → ⊥) → form_at now chained ≡ Alt (map (form_at old) all)
chained-all old now all left chained h e some = h.chain ∙ ap alt_by (ap (λ l. map (form_at old) l ++ members (form_at now chained)) (sym e) ∙ h.same) ∙ by all some
  where
    by : (l : List ℕ) → (length l ≡ 0 → ⊥) → alt_by (map (form_at old) l) ≡ Alt (map (form_at old) l)
    by [] s = absurd (s refl)
    by (k ∷ l) s = refl

-- What is known while the members of an Alt are written out.
pub record IsWriting (forms : List Path) (all : ℕ) (paths : List Path) (left : ℕ) : Type 0 where
  pub within : left < length forms
  pub below : left ≤ all
  pub chain : IsChain (form_at forms left)
  pub same : paths ++ members (form_at forms left) ≡ members (form_at forms all)

pub write-more : (forms : List Path) (all : ℕ) (paths : List Path) (left first rest : ℕ) (n : FormNode) (a : Path) → IsWriting forms all paths left → IsNode forms left n → n ≡ NodeAlt first rest → a ≡ form_at forms first → IsWriting forms all (paths ++ a ∷ []) rest
write-more forms all paths left first rest n a h is e ae =
    let parts = parts-Alt forms left n is first rest e in
    let below = parts.1 in
    let le = h.below in
    let within = h.within in
    record {
      within = omega arith;
      below = omega arith;
      chain = parts.2;
      same = append_assoc paths (a ∷ []) (members (form_at forms rest))
          ∙ ap (λ l. paths ++ l) (ap (λ b. b ∷ members (form_at forms rest)) ae ∙ sym (members-at forms left n is first rest e))
          ∙ h.same;
    }
