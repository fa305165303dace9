use Rattle.std.proofs.Common.{refl, sym, subst}
use Rattle.config_lines.specs.Lines.{process_line, IsProcessLine}
use Rattle.config_read.proofs.Taking.{TakesSome, none_taken, one_more, all_taken, shorter}
use Rattle.config_read.proofs.sections.read_processes.Goals as goal

pub processes-init : goal.processes-init
processes-init c = subst (λ vs. TakesSome (process_line c.args.net.now) (IsProcessLine c.args.net.now) c.args.text.now vs c.args.text.now) (sym c.requires) (none_taken (process_line c.args.net.now) (IsProcessLine c.args.net.now) c.args.text.now)

pub returns-in_default : goal.returns-in_default
returns-in_default c = all_taken (process_line c.args.net.now) (IsProcessLine c.args.net.now) c.args.text.now c.processes.processes c.processes.rest.now c.processes.invariant (rw c.in_default.is at c.in_ok-process.ensures.none)

pub processes-preserved : goal.processes-preserved
processes-preserved c =
    subst (λ vs. TakesSome (process_line c.args.net.now) (IsProcessLine c.args.net.now) c.args.text.now vs c.in-Some.more.now) (sym c.in_ok-push.ensures.ok)
    (one_more (process_line c.args.net.now) (IsProcessLine c.args.net.now) c.args.text.now c.processes.processes c.processes.rest.now c.in-Some.process c.in-Some.more.now c.processes.invariant (rw c.in-Some.is at c.in_ok-process.ensures.some).0 (rw c.in-Some.is at c.in_ok-process.ensures.some).1)

pub processes-smaller : goal.processes-smaller
processes-smaller c = shorter c.processes.rest.now (process_line c.args.net.now c.in-Some.process) c.in-Some.more.now 112 _ (rw c.in-Some.is at c.in_ok-process.ensures.some).0 refl
