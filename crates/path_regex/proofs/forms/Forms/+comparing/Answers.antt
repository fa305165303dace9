use Rattle.std.proofs.Common.{rules, IfOk, ◌≡◌, ◌≤◌, ◌⊎◌, inl, inr, ap, subst, sym, ◌∙◌, nat_cmp, arith}
use Rattle.std.specs.Ordering.{is_eq}
use Rattle.path_regex.specs.Order.{order}
use Rattle.path_regex.specs.declared.forms.FormNode.{FormNode}
use Rattle.path_regex.specs.declared.forms.FormNode.TheVariants.{Nothing as NodeNothing, Empty as NodeEmpty, Dot as NodeDot}
use Rattle.path_regex.specs.Shared.{form_at, node_rank}
use Rattle.path_regex.proofs.Ranked.{order-itself, ranked-nodes, ranked-plainly, both-Cat, both-Alt, both-Star, both-Not, no-choice-some, some-no-choice, no-choice-other, other-Loc, other-Fun, other-Cat, other-Alt, other-Star, other-Not}
use Rattle.std.specs.declared.cmp.Ordering.{Ordering}
use Rattle.path_regex.proofs.Joined.{parts-Cat, parts-Alt}
use Rattle.path_regex.proofs.forms.Forms.+comparing.Goals as goal

pub compare-returns-then-first-second-clause-order : goal.compare-returns-then-first-second-clause-order
compare-returns-then-first-second-clause-order t c =
    order-itself (form_at c.args.self.now c.args.first)
    ∙ ap (λ k. order (form_at c.args.self.now c.args.first) (form_at c.args.self.now k)) c.if-first-second.true

low : (n : FormNode) → (n ≡ NodeNothing) ⊎ ((n ≡ NodeEmpty) ⊎ (n ≡ NodeDot)) → node_rank n ≤ 3
low n (inl e) = subst (λ z. node_rank z ≤ 3) (sym e) (omega arith)
low n (inr (inl e)) = subst (λ z. node_rank z ≤ 3) (sym e) (omega arith)
low n (inr (inr e)) = subst (λ z. node_rank z ≤ 3) (sym e) (omega arith)

pub compare-returns-in-Nothing-clause-order : goal.compare-returns-in-Nothing-clause-order
compare-returns-in-Nothing-clause-order t c = ranked-plainly _ _ _ _ _ c.node-one.ensures c.node-two.ensures _ _ _ c.cmp-ranks.ensures c.node_rank.ensures c.node_rank-2.ensures (low _ c.in-Nothing.is)

pub compare-returns-in_default-clause-order : goal.compare-returns-in_default-clause-order
compare-returns-in_default-clause-order t c =
    ranked-nodes _ _ _ _ _ c.node-one.ensures c.node-two.ensures _ _ _ c.cmp-ranks.ensures c.node_rank.ensures c.node_rank-2.ensures
    (ap (λ z. is_eq (nat_cmp (node_rank z) (node_rank c.node-two.result))) c.in-Loc.is ∙ other-Loc _ c.in_default.not-Loc)

pub compare-returns-in_default-two-clause-order : goal.compare-returns-in_default-two-clause-order
compare-returns-in_default-two-clause-order t c =
    ranked-nodes _ _ _ _ _ c.node-one.ensures c.node-two.ensures _ _ _ c.cmp-ranks.ensures c.node_rank.ensures c.node_rank-2.ensures
    (ap (λ z. is_eq (nat_cmp (node_rank z) (node_rank c.node-two.result))) c.in-Fun.is ∙ other-Fun _ c.in_default-two.not-Fun)

pub compare-returns-in_default-two-2-clause-order : goal.compare-returns-in_default-two-2-clause-order
compare-returns-in_default-two-2-clause-order t c =
    ranked-nodes _ _ _ _ _ c.node-one.ensures c.node-two.ensures _ _ _ c.cmp-ranks.ensures c.node_rank.ensures c.node_rank-2.ensures
    (ap (λ z. is_eq (nat_cmp (node_rank z) (node_rank c.node-two.result))) c.in-Cat.is ∙ other-Cat _ c.in_default-two-2.not-Cat)

pub compare-returns-in_default-two-4-clause-order : goal.compare-returns-in_default-two-4-clause-order
compare-returns-in_default-two-4-clause-order t c =
    ranked-nodes _ _ _ _ _ c.node-one.ensures c.node-two.ensures _ _ _ c.cmp-ranks.ensures c.node_rank.ensures c.node_rank-2.ensures
    (ap (λ z. is_eq (nat_cmp (node_rank z) (node_rank c.node-two.result))) c.in-Alt.is ∙ other-Alt _ c.in_default-two-4.not-NoChoice c.in_default-two-4.not-Alt)

pub compare-returns-in_default-two-5-clause-order : goal.compare-returns-in_default-two-5-clause-order
compare-returns-in_default-two-5-clause-order t c =
    ranked-nodes _ _ _ _ _ c.node-one.ensures c.node-two.ensures _ _ _ c.cmp-ranks.ensures c.node_rank.ensures c.node_rank-2.ensures
    (ap (λ z. is_eq (nat_cmp (node_rank z) (node_rank c.node-two.result))) c.in-Star.is ∙ other-Star _ c.in_default-two-5.not-Star)

pub compare-returns-in_default-two-6-clause-order : goal.compare-returns-in_default-two-6-clause-order
compare-returns-in_default-two-6-clause-order t c =
    ranked-nodes _ _ _ _ _ c.node-one.ensures c.node-two.ensures _ _ _ c.cmp-ranks.ensures c.node_rank.ensures c.node_rank-2.ensures
    (ap (λ z. is_eq (nat_cmp (node_rank z) (node_rank c.node-two.result))) c.in-Not.is ∙ other-Not _ c.in_default-two-6.not-Not)

pub compare-returns-in-Star-two-clause-order : goal.compare-returns-in-Star-two-clause-order
compare-returns-in-Star-two-clause-order t c =
    subst (λ (o : Ordering). IfOk c.compare.result (λ found. found ≡ o)) (both-Star _ _ _ _ _ c.node-one.ensures c.node-two.ensures _ _ c.in-Star.is c.in-Star-two.is) c.compare.ensures.order

pub compare-returns-in-Not-two-clause-order : goal.compare-returns-in-Not-two-clause-order
compare-returns-in-Not-two-clause-order t c =
    subst (λ (o : Ordering). IfOk c.compare-in-Not-two.result (λ found. found ≡ o)) (both-Not _ _ _ _ _ c.node-one.ensures c.node-two.ensures _ _ c.in-Not.is c.in-Not-two.is) c.compare-in-Not-two.ensures.order

pub compare-returns-in-Alt-two-clause-order : goal.compare-returns-in-Alt-two-clause-order
compare-returns-in-Alt-two-clause-order t c = no-choice-some _ _ _ _ _ c.node-one.ensures c.node-two.ensures _ _ c.in-NoChoice.is c.in-Alt-two.is

pub compare-returns-in-NoChoice-two-clause-order : goal.compare-returns-in-NoChoice-two-clause-order
compare-returns-in-NoChoice-two-clause-order t c = some-no-choice _ _ _ _ _ c.node-one.ensures c.node-two.ensures _ _ c.in-Alt.is c.in-NoChoice-two.is

pub compare-returns-in_default-two-3-clause-order : goal.compare-returns-in_default-two-3-clause-order
compare-returns-in_default-two-3-clause-order t c =
    no-choice-other _ _ _ _ _ c.node-one.ensures c.node-two.ensures _ _ _ c.cmp-ranks.ensures c.node_rank.ensures c.node_rank-2.ensures c.in-NoChoice.is c.in_default-two-3.not-Alt

pub compare-compare_both-requires : goal.compare-compare_both-requires
compare-compare_both-requires t c =
    let one = parts-Cat _ _ _ c.node-one.ensures _ _ c.in-Cat.is in
    let two = parts-Cat _ _ _ c.node-two.ensures _ _ c.in-Cat-two.is in (
      search rules,
      ((c.requires.first, c.requires.second), ((one.0, two.0), ((one.1, two.1), both-Cat _ _ _ _ _ c.node-one.ensures c.node-two.ensures _ _ _ _ c.in-Cat.is c.in-Cat-two.is))),
    )

pub compare-compare_both-requires-in-Alt-two-2 : goal.compare-compare_both-requires-in-Alt-two-2
compare-compare_both-requires-in-Alt-two-2 t c =
    let one = parts-Alt _ _ _ c.node-one.ensures _ _ c.in-Alt.is in
    let two = parts-Alt _ _ _ c.node-two.ensures _ _ c.in-Alt-two-2.is in (
      search rules,
      ((c.requires.first, c.requires.second), ((one.0, two.0), ((one.1, two.1), both-Alt _ _ _ _ _ c.node-one.ensures c.node-two.ensures _ _ _ _ c.in-Alt.is c.in-Alt-two-2.is))),
    )
