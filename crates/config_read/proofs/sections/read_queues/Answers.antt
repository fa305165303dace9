use Rattle.std.proofs.Common.{refl, sym, subst}
use Rattle.config_lines.specs.Lines.{queue_line, IsQueueLine}
use Rattle.config_read.proofs.Taking.{TakesSome, none_taken, one_more, all_taken, shorter}
use Rattle.config_read.proofs.sections.read_queues.Goals as goal

pub queues-init : goal.queues-init
queues-init c = subst (λ vs. TakesSome (queue_line c.args.net.now) (IsQueueLine c.args.net.now) c.args.text.now vs c.args.text.now) (sym c.requires) (none_taken (queue_line c.args.net.now) (IsQueueLine c.args.net.now) c.args.text.now)

pub returns-in_default : goal.returns-in_default
returns-in_default c = all_taken (queue_line c.args.net.now) (IsQueueLine c.args.net.now) c.args.text.now c.queues.queues c.queues.rest.now c.queues.invariant c.in_default.ensures.none

pub queues-preserved : goal.queues-preserved
queues-preserved c =
    subst (λ vs. TakesSome (queue_line c.args.net.now) (IsQueueLine c.args.net.now) c.args.text.now vs c.in-Some.more.now) (sym c.in_ok-push.ensures.ok)
    (one_more (queue_line c.args.net.now) (IsQueueLine c.args.net.now) c.args.text.now c.queues.queues c.queues.rest.now c.in-Some.queue c.in-Some.more.now c.queues.invariant c.in-Some.ensures.some.0 c.in-Some.ensures.some.1)

pub queues-smaller : goal.queues-smaller
queues-smaller c = shorter c.queues.rest.now (queue_line c.args.net.now c.in-Some.queue) c.in-Some.more.now 113 _ c.in-Some.ensures.some.0 refl
