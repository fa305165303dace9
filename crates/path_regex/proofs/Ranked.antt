-- Laws of the order of normal forms that share their parts.
use Rattle.std.proofs.Common.{◌≡◌, ◌≤◌, ◌⊎◌, inl, inr, ℕ, false, List, [], ◌∷◌, nat_cmp, refl, sym, ◌∙◌, ap, ap₂, subst}
use Rattle.std.specs.Ordering.{is_eq, ordering_then, ordering_reverse}
use Rattle.std.specs.Cmp.Lexicographic.{slice_cmp, nat_list_cmp_total}
use Rattle.std.specs.declared.cmp.Ordering.{Ordering}
use Rattle.std.specs.declared.cmp.Ordering.TheVariants.{Less, Equal, Greater}
use Rattle.merlin_model.specs.declared.policy.Path.{Path, Nothing, Alt}
use Rattle.merlin_model.specs.declared.policy.Path.TheBlock.{hidden-the_row-Path-0, hidden-the_row-Path-1}
use denote.Hole.Carrier.{hidden}
use Rattle.path_regex.specs.Order.{order, spelled, rank}
use Rattle.path_regex.specs.Normal.{members}
use Rattle.path_regex.proofs.Ordered.{ranked, ranked-plain, order-apart, order-Cat, order-Alt, order-Star, order-Not}
use Rattle.path_regex.specs.declared.forms.FormNode.{FormNode}
use Rattle.path_regex.specs.declared.forms.FormNode.TheVariants.{Loc as NodeLoc, Fun as NodeFun, Cat as NodeCat, NoChoice as NodeNoChoice, Alt as NodeAlt, Star as NodeStar, Not as NodeNot}
use Rattle.path_regex.specs.Shared.{form_at, alt_by, IsChain, meaning, PartsStandBefore, IsNode, node_rank}
use Rattle.path_regex.proofs.Sharing.{rank-meaning}

-- A variant against the others.

pub other-Loc : (m : FormNode) → ((l : ℕ) → m ≡ NodeLoc l → ⊥) → is_eq (nat_cmp 4 (node_rank m)) ≡ false
other-Loc (NodeLoc l) h = absurd (h l refl)
other-Loc m h = refl

pub other-Fun : (m : FormNode) → ((l : ℕ) → m ≡ NodeFun l → ⊥) → is_eq (nat_cmp 5 (node_rank m)) ≡ false
other-Fun (NodeFun l) h = absurd (h l refl)
other-Fun m h = refl

pub other-Cat : (m : FormNode) → ((a b : ℕ) → m ≡ NodeCat a b → ⊥) → is_eq (nat_cmp 6 (node_rank m)) ≡ false
other-Cat (NodeCat a b) h = absurd (h a b refl)
other-Cat m h = refl

pub other-Alt : (m : FormNode) → (m ≡ NodeNoChoice → ⊥) → ((a b : ℕ) → m ≡ NodeAlt a b → ⊥) → is_eq (nat_cmp 7 (node_rank m)) ≡ false
other-Alt NodeNoChoice g h = absurd (g refl)
other-Alt (NodeAlt a b) g h = absurd (h a b refl)
other-Alt m g h = refl

-- an Alt without members against what is no Alt with some
same-or-apart : (m : FormNode) → ((a t : ℕ) → m ≡ NodeAlt a t → ⊥) → (m ≡ NodeNoChoice) ⊎ (is_eq (nat_cmp 7 (node_rank m)) ≡ false)
same-or-apart NodeNoChoice h = inl refl
same-or-apart (NodeAlt a t) h = absurd (h a t refl)
same-or-apart m h = inr refl

pub other-Star : (m : FormNode) → ((a : ℕ) → m ≡ NodeStar a → ⊥) → is_eq (nat_cmp 8 (node_rank m)) ≡ false
other-Star (NodeStar a) h = absurd (h a refl)
other-Star m h = refl

pub other-Not : (m : FormNode) → ((a : ℕ) → m ≡ NodeNot a → ⊥) → is_eq (nat_cmp 9 (node_rank m)) ≡ false
other-Not (NodeNot a) h = absurd (h a refl)
other-Not m h = refl

pub order-itself : (a : Path) → Equal ≡ order a a
order-itself a = by (order a a) (nat_list_cmp_total.antisymm (spelled a) (spelled a))
  where
    by : (o : Ordering) → o ≡ ordering_reverse o → Equal ≡ o
    by Less e = cc
    by Equal e = refl
    by Greater e = cc

-- The order of two Alts by their first members and the Alts of the others.

pub alt-rank : (forms : List Path) → rank (Alt forms) ≡ 7
unfolding hidden-the_row-Path-0 hidden-the_row-Path-1 hidden
alt-rank forms = refl

by-members : (xs ys : List Path) → slice_cmp order xs ys ≡ order (alt_by xs) (alt_by ys)
by-members [] [] = refl
by-members [] (y ∷ ys) = sym (order-apart Nothing (Alt (y ∷ ys)) (ap (λ r. is_eq (nat_cmp 1 r)) (alt-rank (y ∷ ys))) ∙ ap (λ r. nat_cmp 1 r) (alt-rank (y ∷ ys)))
by-members (x ∷ xs) [] = sym (order-apart (Alt (x ∷ xs)) Nothing (ap (λ r. is_eq (nat_cmp r 1)) (alt-rank (x ∷ xs))) ∙ ap (λ r. nat_cmp r 1) (alt-rank (x ∷ xs)))
by-members (x ∷ xs) (y ∷ ys) = sym (order-Alt (x ∷ xs) (y ∷ ys))

pub order-chain : (a b t u : Path) → IsChain t → IsChain u → ordering_then (order a b) (order t u) ≡ order (Alt (a ∷ members t)) (Alt (b ∷ members u))
order-chain a b t u ct cu =
    ap (λ o. ordering_then (order a b) o) (ap₂ order ct cu ∙ sym (by-members (members t) (members u)))
    ∙ sym (order-Alt (a ∷ members t) (b ∷ members u))

module _ (forms : List Path) (i j : ℕ) (n m : FormNode) (hn : IsNode forms i n) (hm : IsNode forms j m) where
  of-nodes : (o : Ordering) → o ≡ order (meaning forms n) (meaning forms m) → o ≡ order (form_at forms i) (form_at forms j)
  of-nodes o e = e ∙ sym (ap₂ order hn.1 hm.1)

  pub ranked-nodes : (r s : ℕ) (o : Ordering) → o ≡ nat_cmp r s → r ≡ node_rank n → s ≡ node_rank m → is_eq (nat_cmp (node_rank n) (node_rank m)) ≡ false → o ≡ order (form_at forms i) (form_at forms j)
  ranked-nodes r s o e ra sb f =
      of-nodes o (ranked (meaning forms n) (meaning forms m) r s o e (ra ∙ sym (rank-meaning forms n)) (sb ∙ sym (rank-meaning forms m))
      (ap₂ (λ x y. is_eq (nat_cmp x y)) (rank-meaning forms n) (rank-meaning forms m) ∙ f))

  pub no-choice-some : (a t : ℕ) → n ≡ NodeNoChoice → m ≡ NodeAlt a t → Less ≡ order (form_at forms i) (form_at forms j)
  no-choice-some a t e f =
      of-nodes Less (sym (ap₂ (λ x y. order (meaning forms x) (meaning forms y)) e f ∙ order-Alt [] (form_at forms a ∷ members (form_at forms t))))

  pub some-no-choice : (a t : ℕ) → n ≡ NodeAlt a t → m ≡ NodeNoChoice → Greater ≡ order (form_at forms i) (form_at forms j)
  some-no-choice a t e f =
      of-nodes Greater (sym (ap₂ (λ x y. order (meaning forms x) (meaning forms y)) e f ∙ order-Alt (form_at forms a ∷ members (form_at forms t)) []))

  pub no-choice-other : (r s : ℕ) (o : Ordering) → o ≡ nat_cmp r s → r ≡ node_rank n → s ≡ node_rank m → n ≡ NodeNoChoice → ((a t : ℕ) → m ≡ NodeAlt a t → ⊥) → o ≡ order (form_at forms i) (form_at forms j)
  no-choice-other r s o e ra sb en other = by (same-or-apart m other)
    where
      by : (m ≡ NodeNoChoice) ⊎ (is_eq (nat_cmp 7 (node_rank m)) ≡ false) → o ≡ order (form_at forms i) (form_at forms j)
      by (inl em) =
          of-nodes o (e ∙ ap₂ nat_cmp (ra ∙ ap node_rank en) (sb ∙ ap node_rank em) ∙ order-itself (Alt []) ∙ sym (ap₂ (λ x y. order (meaning forms x) (meaning forms y)) en em))
      by (inr f) = ranked-nodes r s o e ra sb (ap (λ z. is_eq (nat_cmp (node_rank z) (node_rank m))) en ∙ f)

  pub ranked-plainly : (r s : ℕ) (o : Ordering) → o ≡ nat_cmp r s → r ≡ node_rank n → s ≡ node_rank m → node_rank n ≤ 3 → o ≡ order (form_at forms i) (form_at forms j)
  ranked-plainly r s o e ra sb le =
      of-nodes o (ranked-plain (meaning forms n) (meaning forms m) r s o e (ra ∙ sym (rank-meaning forms n)) (sb ∙ sym (rank-meaning forms m))
      (subst (λ k. k ≤ 3) (sym (rank-meaning forms n)) le))

  pub both-Cat : (a b x y : ℕ) → n ≡ NodeCat a b → m ≡ NodeCat x y →
      ordering_then (order (form_at forms a) (form_at forms x)) (order (form_at forms b) (form_at forms y)) ≡ order (form_at forms i) (form_at forms j)
  both-Cat a b x y en em =
      sym (ap₂ order (hn.1 ∙ ap (meaning forms) en) (hm.1 ∙ ap (meaning forms) em) ∙ order-Cat (form_at forms a) (form_at forms b) (form_at forms x) (form_at forms y))

  pub both-Alt : (a b x y : ℕ) → n ≡ NodeAlt a b → m ≡ NodeAlt x y →
      ordering_then (order (form_at forms a) (form_at forms x)) (order (form_at forms b) (form_at forms y)) ≡ order (form_at forms i) (form_at forms j)
  both-Alt a b x y en em =
      let g : PartsStandBefore i forms (NodeAlt a b) = subst (PartsStandBefore i forms) en hn.0 in
      let h : PartsStandBefore j forms (NodeAlt x y) = subst (PartsStandBefore j forms) em hm.0 in
      order-chain (form_at forms a) (form_at forms x) (form_at forms b) (form_at forms y) g.2 h.2
      ∙ sym (ap₂ order (hn.1 ∙ ap (meaning forms) en) (hm.1 ∙ ap (meaning forms) em))

  pub both-Star : (a x : ℕ) → n ≡ NodeStar a → m ≡ NodeStar x → order (form_at forms a) (form_at forms x) ≡ order (form_at forms i) (form_at forms j)
  both-Star a x en em = sym (ap₂ order (hn.1 ∙ ap (meaning forms) en) (hm.1 ∙ ap (meaning forms) em) ∙ order-Star (form_at forms a) (form_at forms x))

  pub both-Not : (a x : ℕ) → n ≡ NodeNot a → m ≡ NodeNot x → order (form_at forms a) (form_at forms x) ≡ order (form_at forms i) (form_at forms j)
  both-Not a x en em = sym (ap₂ order (hn.1 ∙ ap (meaning forms) en) (hm.1 ∙ ap (meaning forms) em) ∙ order-Not (form_at forms a) (form_at forms x))
