use Rattle.std.proofs.Common.{refl, sym, subst}
use Rattle.config_lines.specs.Lines.{load_line, IsLoadLine}
use Rattle.config_read.proofs.Taking.{TakesSome, none_taken, one_more, all_taken, shorter}
use Rattle.config_read.proofs.sections.read_loads.Goals as goal

pub loads-init : goal.loads-init
loads-init c = subst (λ vs. TakesSome (load_line c.args.net.now) (IsLoadLine c.args.net.now) c.args.text.now vs c.args.text.now) (sym c.requires) (none_taken (load_line c.args.net.now) (IsLoadLine c.args.net.now) c.args.text.now)

pub returns-in_default : goal.returns-in_default
returns-in_default c = all_taken (load_line c.args.net.now) (IsLoadLine c.args.net.now) c.args.text.now c.loads.loads c.loads.rest.now c.loads.invariant c.in_default.ensures.none

pub loads-preserved : goal.loads-preserved
loads-preserved c =
    subst (λ vs. TakesSome (load_line c.args.net.now) (IsLoadLine c.args.net.now) c.args.text.now vs c.in-Some.more.now) (sym c.in_ok-push.ensures.ok)
    (one_more (load_line c.args.net.now) (IsLoadLine c.args.net.now) c.args.text.now c.loads.loads c.loads.rest.now c.in-Some.load c.in-Some.more.now c.loads.invariant c.in-Some.ensures.some.0 c.in-Some.ensures.some.1)

pub loads-smaller : goal.loads-smaller
loads-smaller c = shorter c.loads.rest.now (load_line c.args.net.now c.in-Some.load) c.in-Some.more.now 108 _ c.in-Some.ensures.some.0 refl
