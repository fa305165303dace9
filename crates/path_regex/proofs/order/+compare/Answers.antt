use Rattle.std.proofs.Common.{List, true, ◌≡◌, ◌≤◌, ◌⊎◌, inl, inr, subst, arith, sym, ◌∙◌, ap, ap₂, nat_cmp}
use Rattle.std.specs.declared.cmp.Ordering.{Ordering}
use Rattle.std.specs.declared.cmp.Ordering.TheVariants.{Equal}
use Rattle.std.specs.Ordering.{ordering_then, is_eq, is_ne}
use Rattle.std.specs.Cmp.Lexicographic.{slice_cmp}
use Rattle.merlin_model.specs.declared.policy.Path.{Path, Nothing, Empty, Dot}
use Rattle.path_regex.specs.Order.{order, rank}
use Rattle.path_regex.proofs.Ordered.{ranked, ranked-plain, decides, decided-by, longer, as_long, shorter, order-Cat, order-Alt, order-Star, order-Not, other-Loc, other-Fun, other-Cat, other-Alt, other-Star, other-Not}
use Rattle.path_regex.proofs.order.+compare.Goals as goal

pub compare-returns-in_default : goal.compare-returns-in_default
compare-returns-in_default t c = ranked c.args.first.now c.args.second.now _ _ _ c.cmp-ranks.ensures c.rank.ensures c.rank-2.ensures (ap (λ (z : Path). is_eq (nat_cmp (rank z) (rank c.args.second.now))) c.in-Loc.is ∙ other-Loc _ c.in_default.not-Loc)

pub compare-returns-in_default-second : goal.compare-returns-in_default-second
compare-returns-in_default-second t c = ranked c.args.first.now c.args.second.now _ _ _ c.cmp-ranks.ensures c.rank.ensures c.rank-2.ensures (ap (λ (z : Path). is_eq (nat_cmp (rank z) (rank c.args.second.now))) c.in-Fun.is ∙ other-Fun _ c.in_default-second.not-Fun)

pub compare-returns-in_default-second-2 : goal.compare-returns-in_default-second-2
compare-returns-in_default-second-2 t c = ranked c.args.first.now c.args.second.now _ _ _ c.cmp-ranks.ensures c.rank.ensures c.rank-2.ensures (ap (λ (z : Path). is_eq (nat_cmp (rank z) (rank c.args.second.now))) c.in-Cat.is ∙ other-Cat _ c.in_default-second-2.not-Cat)

pub compare-returns-in_default-second-3 : goal.compare-returns-in_default-second-3
compare-returns-in_default-second-3 t c = ranked c.args.first.now c.args.second.now _ _ _ c.cmp-ranks.ensures c.rank.ensures c.rank-2.ensures (ap (λ (z : Path). is_eq (nat_cmp (rank z) (rank c.args.second.now))) c.in-Alt.is ∙ other-Alt _ c.in_default-second-3.not-Alt)

pub compare-returns-in_default-second-4 : goal.compare-returns-in_default-second-4
compare-returns-in_default-second-4 t c = ranked c.args.first.now c.args.second.now _ _ _ c.cmp-ranks.ensures c.rank.ensures c.rank-2.ensures (ap (λ (z : Path). is_eq (nat_cmp (rank z) (rank c.args.second.now))) c.in-Star.is ∙ other-Star _ c.in_default-second-4.not-Star)

pub compare-returns-in_default-second-5 : goal.compare-returns-in_default-second-5
compare-returns-in_default-second-5 t c = ranked c.args.first.now c.args.second.now _ _ _ c.cmp-ranks.ensures c.rank.ensures c.rank-2.ensures (ap (λ (z : Path). is_eq (nat_cmp (rank z) (rank c.args.second.now))) c.in-Not.is ∙ other-Not _ c.in_default-second-5.not-Not)

pub compare-returns-in-Star-second : goal.compare-returns-in-Star-second
compare-returns-in-Star-second t c = c.compare-in-Star-second.ensures ∙ ap₂ order c.get-in-Star-second.ensures c.get-in-Star-second-2.ensures ∙ sym (ap₂ order c.in-Star.is c.in-Star-second.is ∙ order-Star _ _)

pub compare-returns-in-Not-second : goal.compare-returns-in-Not-second
compare-returns-in-Not-second t c = c.compare-in-Not-second.ensures ∙ ap₂ order c.get-in-Not-second.ensures c.get-in-Not-second-2.ensures ∙ sym (ap₂ order c.in-Not.is c.in-Not-second.is ∙ order-Not _ _)

low : (a : Path) → (a ≡ Nothing) ⊎ ((a ≡ Empty) ⊎ (a ≡ Dot)) → rank a ≤ 3
low a (inl e) = subst (λ z. rank z ≤ 3) (sym e) (omega arith)
low a (inr (inl e)) = subst (λ z. rank z ≤ 3) (sym e) (omega arith)
low a (inr (inr e)) = subst (λ z. rank z ≤ 3) (sym e) (omega arith)

pub compare-returns-in-Nothing : goal.compare-returns-in-Nothing
compare-returns-in-Nothing t c = ranked-plain c.args.first.now c.args.second.now _ _ _ c.cmp-ranks.ensures c.rank.ensures c.rank-2.ensures (low c.args.first.now c.in-Nothing.is)

pub compare-returns-in-Nothing-2 : goal.compare-returns-in-Nothing-2
compare-returns-in-Nothing-2 t c = ranked-plain c.args.first.now c.args.second.now _ _ _ c.cmp-ranks.ensures c.rank.ensures c.rank-2.ensures (low c.args.first.now c.in-Nothing.is)

pub compare-returns-in-Nothing-3 : goal.compare-returns-in-Nothing-3
compare-returns-in-Nothing-3 t c = ranked-plain c.args.first.now c.args.second.now _ _ _ c.cmp-ranks.ensures c.rank.ensures c.rank-2.ensures (low c.args.first.now c.in-Nothing.is)

pub compare-returns-in-Equal : goal.compare-returns-in-Equal
compare-returns-in-Equal t c =
    let equal : order c.in-Cat.first c.in-Cat-second.second ≡ Equal = sym (c.compare.ensures ∙ ap₂ order c.get.ensures c.get-in-Cat-second.ensures) ∙ c.in-Equal.is in
    c.compare-in-Equal.ensures ∙ ap₂ order c.get-in-Equal.ensures c.get-in-Equal-2.ensures
    ∙ sym (ap₂ order c.in-Cat.is c.in-Cat-second.is ∙ order-Cat _ _ _ _ ∙ ap (λ o. ordering_then o (order c.in-Cat.rest c.in-Cat-second.others)) equal)

pub compare-returns-in_default-compare : goal.compare-returns-in_default-compare
compare-returns-in_default-compare t c =
    decides _ _ _ c.in_default-compare.not-Equal (c.compare.ensures ∙ ap₂ order c.get.ensures c.get-in-Cat-second.ensures)
    ∙ sym (ap₂ order c.in-Cat.is c.in-Cat-second.is ∙ order-Cat _ _ _ _)

pub compare-returns-in-Alt-second : goal.compare-returns-in-Alt-second
compare-returns-in-Alt-second t c =
    c.compare_members.ensures ∙ ap₂ (λ (xs ys : List Path). slice_cmp order xs ys) c.as_slice.ensures c.as_slice-in-Alt-second.ensures
    ∙ sym (ap₂ order c.in-Alt.is c.in-Alt-second.is ∙ order-Alt _ _)

pub compare_members-returns-then-is_ne : goal.compare_members-returns-then-is_ne
compare_members-returns-then-is_ne t c =
    decided-by _ _ _ _ c.loop-path.invariant c.path-item.result c.other-item.result c.compare-members.result c.loop-path-test.true c.path-item.is c.in-len1-up.len_at_least c.other-item.is c.compare-members.ensures (differs c.compare-members.result (sym c.is_ne.ensures ∙ c.if-is_ne.true))
    ∙ order-Alt _ _
  where
    differs : (o : Ordering) → is_ne o ≡ true → o ≡ Equal → ⊥
    differs o e f = let impossible : is_ne Equal ≡ true = subst (λ p. is_ne p ≡ true) f e in cc

pub compare_members-returns-in_default : goal.compare_members-returns-in_default
compare_members-returns-in_default t c =
    longer _ _ _ _ c.loop-path.invariant c.loop-path-test.true c.in_default.len_below
    ∙ order-Alt _ _

pub compare_members-returns-then-is_empty : goal.compare_members-returns-then-is_empty
compare_members-returns-then-is_empty t c =
    as_long _ _ _ _ c.loop-path.invariant c.loop-path-test.false (sym c.is_empty.ensures ∙ c.if-is_empty.true)
    ∙ order-Alt _ _

pub compare_members-returns-else-is_empty : goal.compare_members-returns-else-is_empty
compare_members-returns-else-is_empty t c =
    shorter _ _ _ _ c.loop-path.invariant c.loop-path-test.false (sym c.is_empty.ensures ∙ c.if-is_empty.false)
    ∙ order-Alt _ _
