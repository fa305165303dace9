use Rattle.std.specs.Fmt.{decimal}
use Rattle.config_text.specs.Lines.{out_text}
use Rattle.config_lines.proofs.Then.{no_byte, same_part}
use Rattle.config_lines.proofs.ActionTexts.{out_free_colon}
use Rattle.config_lines.proofs.actions.read_enqueue.Goals as goal

pub returns-in_err-port-clause-none : goal.returns-in_err-port-clause-none
returns-in_err-port-clause-none c = rw c.from_residual.ensures (λ out queue is q e. no_byte 58 c.args.word.now (out_text out) (decimal queue) c.in_err-port.ensures.none e)

pub returns-in_err-out-clause-none : goal.returns-in_err-out-clause-none
returns-in_err-out-clause-none c =
    rw c.from_residual-in_err-out.ensures (λ out queue is q e. c.in_err-out.ensures.none out is
    (same_part 58 c.args.word.now c.in_ok-port.port.now c.in_ok-port.number.now (out_text out) (decimal queue) c.in_ok-port.ensures.some.0 c.in_ok-port.ensures.some.1 (out_free_colon out is) e).front)

pub returns-in_err-queue-clause-none : goal.returns-in_err-queue-clause-none
returns-in_err-queue-clause-none c =
    rw c.from_residual-in_err-queue.ensures (λ out queue is q e. c.in_err-queue.ensures.none queue q
    (same_part 58 c.args.word.now c.in_ok-port.port.now c.in_ok-port.number.now (out_text out) (decimal queue) c.in_ok-port.ensures.some.0 c.in_ok-port.ensures.some.1 (out_free_colon out is) e).rest)
