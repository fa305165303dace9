use Rattle.std.proofs.Common.{◌∷◌, ◌++◌, ◌∙◌, ap, sym}
use Rattle.std.specs.Prelude.{codes}
use Rattle.std.specs.Fmt.{decimal}
use Rattle.config_text.specs.Lines.{name_at}
use Rattle.config_lines.proofs.QueueParts.{parts, start, after_loc, after_port, after_queue, from_loc, from_port, from_queue, from_rate}
use Rattle.config_lines.proofs.queues.read_queue.Goals as goal

pub returns-in_err-rest-clause-none : goal.returns-in_err-rest-clause-none
returns-in_err-rest-clause-none c = rw c.from_residual.ensures (λ q more is e. c.in_err-rest.ensures.none (from_loc c.args.net.now q more) (e ∙ parts c.args.net.now q more))

pub returns-in_err-loc-clause-none : goal.returns-in_err-loc-clause-none
returns-in_err-loc-clause-none c = rw c.from_residual-in_err-loc.ensures (λ q more is e. c.in_err-loc.ensures.none q.loc (from_port c.args.net.now q more) is.loc (start c.args.net.now c.args.text.now c.in_ok-rest.rest.now q more c.in_ok-rest.ensures.some e))

pub returns-in_err-port-clause-none : goal.returns-in_err-port-clause-none
returns-in_err-port-clause-none c = rw c.from_residual-in_err-port.ensures (λ q more is e. c.in_err-port.ensures.none q.port (from_queue c.args.net.now q more) is.port (after_loc c.args.net.now c.in_ok-rest.rest.now c.in_ok-loc.rest.now c.in_ok-loc.loc q more c.in_ok-loc.ensures.some.0 c.in_ok-loc.ensures.some.1 is (start c.args.net.now c.args.text.now c.in_ok-rest.rest.now q more c.in_ok-rest.ensures.some e)))

pub returns-in_err-queue-clause-none : goal.returns-in_err-queue-clause-none
returns-in_err-queue-clause-none c = rw c.from_residual-in_err-queue.ensures (λ q more is e. c.in_err-queue.ensures.none q.queue (from_rate c.args.net.now q more) is.queue (after_port c.args.net.now c.in_ok-loc.rest.now c.in_ok-port.rest.now c.in_ok-port.port q more c.in_ok-port.ensures.some.0 c.in_ok-port.ensures.some.1 is (after_loc c.args.net.now c.in_ok-rest.rest.now c.in_ok-loc.rest.now c.in_ok-loc.loc q more c.in_ok-loc.ensures.some.0 c.in_ok-loc.ensures.some.1 is (start c.args.net.now c.args.text.now c.in_ok-rest.rest.now q more c.in_ok-rest.ensures.some e))))

pub returns-in_err-rate-clause-none : goal.returns-in_err-rate-clause-none
returns-in_err-rate-clause-none c = rw c.from_residual-in_err-rate.ensures (λ q more is e. c.in_err-rate.ensures.none q.rate more is.rate (after_queue c.args.net.now c.in_ok-port.rest.now c.in_ok-queue.rest.now c.in_ok-queue.queue q more c.in_ok-queue.ensures.some.0 c.in_ok-queue.ensures.some.1 is (after_port c.args.net.now c.in_ok-loc.rest.now c.in_ok-port.rest.now c.in_ok-port.port q more c.in_ok-port.ensures.some.0 c.in_ok-port.ensures.some.1 is (after_loc c.args.net.now c.in_ok-rest.rest.now c.in_ok-loc.rest.now c.in_ok-loc.loc q more c.in_ok-loc.ensures.some.0 c.in_ok-loc.ensures.some.1 is (start c.args.net.now c.args.text.now c.in_ok-rest.rest.now q more c.in_ok-rest.ensures.some e)))))

pub returns-clause-some : goal.returns-clause-some
returns-clause-some c = (
  c.in_ok-rest.ensures.some ∙ ap (λ z. codes "queue " ++ z) (c.in_ok-loc.ensures.some.0 ∙ ap (λ z. name_at c.args.net.now c.in_ok-loc.loc ++ 32 ∷ z) (c.in_ok-port.ensures.some.0 ∙ ap (λ z. decimal c.in_ok-port.port ++ 32 ∷ z) (c.in_ok-queue.ensures.some.0 ∙ ap (λ z. decimal c.in_ok-queue.queue ++ 32 ∷ z) (c.in_ok-rate.ensures.some.0)))) ∙ sym (parts c.args.net.now (record { loc = c.in_ok-loc.loc; port = c.in_ok-port.port; queue = c.in_ok-queue.queue; rate = c.in_ok-rate.rate }) c.in_ok-rate.rest.now),
  record { loc = c.in_ok-loc.ensures.some.1; port = c.in_ok-port.ensures.some.1; queue = c.in_ok-queue.ensures.some.1; rate = c.in_ok-rate.ensures.some.1 },
)
