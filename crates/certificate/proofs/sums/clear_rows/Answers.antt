use Rattle.std.proofs.Common.{◌<◌, refl, length, None}
use Rattle.integer_program.proofs.Bounds.{all_at}
use Rattle.certificate.proofs.Totals.{no_weight}
use Rattle.certificate.proofs.Clearing.{only_less, only_none}
use Rattle.certificate.proofs.sums.clear_rows.Goals as goal

pub loop-w-init : goal.loop-w-init
loop-w-init g c = c.requires.only

pub clear_row-requires-clause-in_range : goal.clear_row-requires-clause-in_range
clear_row-requires-clause-in_range g c = all_at (λ w. w.row < length (g.P.Program.instance c.args.program.now None).rows) c.args.weights.now c.loop-w.w-index no_weight c.requires.exist c.loop-w-test.true

pub clear_row-requires-clause-size : goal.clear_row-requires-clause-size
clear_row-requires-clause-size g c = c.loop-w.invariant.size

pub loop-w-preserved : goal.loop-w-preserved
loop-w-preserved g c = only_less _ c.args.weights.now c.loop-w.w-index c.loop-w.sums c.clear_row.new.sums c.loop-w-test.true c.loop-w.invariant c.clear_row.ensures

pub returns : goal.returns
returns g c = only_none _ c.args.weights.now c.loop-w.w-index c.loop-w.sums _ c.loop-w.invariant c.loop-w-test.false refl refl
