use Rattle.std.proofs.Common.{rules, arith, ◌≡◌, ◌-◌, suc, ◌++◌, ℕ, Option, option_to_list, sym, ap, ◌∙◌, append-nil}
use Rattle.predicate_split.proofs.Halving.{found-step, free-own, free-added, closed-added}
use Rattle.predicate_split.proofs.parts.+find_others.Goals as goal

pub find_others-returns-then-not-is_closed-clause-own : goal.find_others-returns-then-not-is_closed-clause-own
find_others-returns-then-not-is_closed-clause-own t c =
    let some : c.args.bits ≡ suc (c.args.bits - 1) = omega (arith, c.if-bits-eq0.false) in
    let is = found-step c.args.bits (c.args.bits - 1) c.args.low _ c.args.blocks.items c.in_ok-halves.halves.left.items c.in_ok-halves.halves.right.items c.args.named.now c.in_ok-halves.halves.is_closed
    some (search rules) c.in_ok-halves.ensures.left c.in_ok-halves.ensures.right c.in_ok-halves.ensures.closed in
    free-own _ _ _ _ c.if-not-is_closed.true is c.in_ok-own.ensures.own

pub find_others-returns-then-not-is_closed-clause-added : goal.find_others-returns-then-not-is_closed-clause-added
find_others-returns-then-not-is_closed-clause-added t c =
    let some : c.args.bits ≡ suc (c.args.bits - 1) = omega (arith, c.if-bits-eq0.false) in
    let is = found-step c.args.bits (c.args.bits - 1) c.args.low _ c.args.blocks.items c.in_ok-halves.halves.left.items c.in_ok-halves.halves.right.items c.args.named.now c.in_ok-halves.halves.is_closed
    some (search rules) c.in_ok-halves.ensures.left c.in_ok-halves.ensures.right c.in_ok-halves.ensures.closed in
    free-added _ _ _ _ _ c.if-not-is_closed.true is c.in_ok-own.ensures.added

pub find_others-returns-in_ok-push-clause-added : goal.find_others-returns-in_ok-push-clause-added
find_others-returns-in_ok-push-clause-added t c =
    let some : c.args.bits ≡ suc (c.args.bits - 1) = omega (arith, c.if-bits-eq0.false) in
    let is = found-step c.args.bits (c.args.bits - 1) c.args.low _ c.args.blocks.items c.in_ok-halves.halves.left.items c.in_ok-halves.halves.right.items c.args.named.now c.in_ok-halves.halves.is_closed
    some (search rules) c.in_ok-halves.ensures.left c.in_ok-halves.ensures.right c.in_ok-halves.ensures.closed in
    closed-added _ _ _ _ _ _ _ c.if-not-is_closed.false is c.in_ok-own.ensures.own c.in_ok-own.ensures.added (c.in_ok-push.ensures.items ∙ ap (λ (o : Option ℕ). c.find_in_halves.new.found.items ++ option_to_list o) (sym c.in-Some.is))

pub find_others-returns-in_default-clause-added : goal.find_others-returns-in_default-clause-added
find_others-returns-in_default-clause-added t c =
    let some : c.args.bits ≡ suc (c.args.bits - 1) = omega (arith, c.if-bits-eq0.false) in
    let is = found-step c.args.bits (c.args.bits - 1) c.args.low _ c.args.blocks.items c.in_ok-halves.halves.left.items c.in_ok-halves.halves.right.items c.args.named.now c.in_ok-halves.halves.is_closed
    some (search rules) c.in_ok-halves.ensures.left c.in_ok-halves.ensures.right c.in_ok-halves.ensures.closed in
    closed-added _ _ _ _ _ _ _ c.if-not-is_closed.false is c.in_ok-own.ensures.own c.in_ok-own.ensures.added (sym (append-nil _) ∙ ap (λ (o : Option ℕ). c.find_in_halves.new.found.items ++ option_to_list o) (sym c.in_default.is))
