use Rattle.std.proofs.Common.{refl, arith}
use Rattle.cutoff_program.specs.declared.flow.Flow.{Flow}
use Rattle.graph_search.proofs.Places.{no-more}
use Rattle.program_walks.proofs.Narrowing.{narrowed-first, narrowed-low, narrowed-high, without-trail, widest-least}
use Rattle.program_walks.proofs.widest.least_share.Goals as goal

pub returns-in_default : goal.returns-in_default
returns-in_default c = λ (flow : Flow) stands.
    without-trail c.args.problem.now c.args.number flow c.in_ok-share.field-0 c.requires.is (c.in_ok-share.ensures flow stands) (no-more c.in_ok-share.field-0 c.in_default.not-Some)

pub widths-init : goal.widths-init
widths-init c = (omega arith, omega arith, λ (flow : Flow) stands. narrowed-first c.args.problem.now c.args.number flow _ c.in_ok-share.field-0 c.in-Some.share c.requires.is refl (c.in_ok-share.ensures flow stands) c.in-Some.is)

pub widths-preserved-in-None : goal.widths-preserved-in-None
widths-preserved-in-None c =
    let t = c.widths-test.true in
    let h = c.widths.invariant.0 in
    let m = c.widths.invariant.1 in (
      omega arith,
      omega arith,
      (λ (flow : Flow) stands. narrowed-high c.args.problem.now c.args.number flow c.widths.low c.widths.high _ c.in_ok-share_at_width.field-0 c.widths.share (c.widths.invariant.2 flow stands) (c.in_ok-share_at_width.ensures flow stands) c.in-None.is),
    )

pub widths-preserved : goal.widths-preserved
widths-preserved c =
    let t = c.widths-test.true in
    let h = c.widths.invariant.0 in
    let m = c.widths.invariant.1 in (
      omega arith,
      omega arith,
      (λ (flow : Flow) stands. narrowed-low c.args.problem.now c.args.number flow c.widths.low c.widths.high _ c.in_ok-share_at_width.field-0 c.widths.share c.in-Some-2.found (c.widths.invariant.2 flow stands) (c.in_ok-share_at_width.ensures flow stands) c.in-Some-2.is),
    )

pub returns : goal.returns
returns c = λ (flow : Flow) stands. widest-least c.args.problem.now c.requires.is c.args.number flow stands c.widths.low c.widths.high c.widths.share (c.widths.invariant.2 flow stands) (let t = c.widths-test.false in let h = c.widths.invariant.0 in omega arith)
