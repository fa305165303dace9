use Rattle.std.proofs.Common.{refl, sym, subst}
use Rattle.config_lines.specs.Lines.{walk_line, IsWalkLine}
use Rattle.config_read.proofs.Taking.{TakesSome, none_taken, one_more, all_taken, shorter}
use Rattle.config_read.proofs.sections.read_walks.Goals as goal

pub walks-init : goal.walks-init
walks-init c = subst (λ vs. TakesSome (walk_line c.args.net.now) (IsWalkLine c.args.net.now) c.args.text.now vs c.args.text.now) (sym c.requires) (none_taken (walk_line c.args.net.now) (IsWalkLine c.args.net.now) c.args.text.now)

pub returns-in_default : goal.returns-in_default
returns-in_default c = all_taken (walk_line c.args.net.now) (IsWalkLine c.args.net.now) c.args.text.now c.walks.walks c.walks.rest.now c.walks.invariant (rw c.in_default.is at c.in_ok-walk.ensures.none)

pub walks-preserved : goal.walks-preserved
walks-preserved c =
    subst (λ vs. TakesSome (walk_line c.args.net.now) (IsWalkLine c.args.net.now) c.args.text.now vs c.in-Some.more.now) (sym c.in_ok-push.ensures.ok)
    (one_more (walk_line c.args.net.now) (IsWalkLine c.args.net.now) c.args.text.now c.walks.walks c.walks.rest.now c.in-Some.walk c.in-Some.more.now c.walks.invariant (rw c.in-Some.is at c.in_ok-walk.ensures.some).0 (rw c.in-Some.is at c.in_ok-walk.ensures.some).1)

pub walks-smaller : goal.walks-smaller
walks-smaller c = shorter c.walks.rest.now (walk_line c.args.net.now c.in-Some.walk) c.in-Some.more.now 119 _ (rw c.in-Some.is at c.in_ok-walk.ensures.some).0 refl
