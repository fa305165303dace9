use Rattle.std.proofs.Common.{sym, ◌∙◌, arith}
use Rattle.fair_share.specs.Shares.{share_rates}
use Rattle.fair_share.specs.Filling.{demands}
use Rattle.fair_share.proofs.Between.{between-ends}
use Rattle.fair_share.proofs.Filling.{shares-long}
use Rattle.fair_share.proofs.Rates.{rates-long}
use Rattle.fair_share.proofs.fill.next_level.Goals as goal

pub loop-index-init : goal.loop-index-init
loop-index-init c = (
  sym (rates-long c.args.shares.now) ∙ shares-long (demands c.args.caps.now c.args.tenants.now) (share_rates c.args.shares.now) c.requires.between.feasible,
  c.requires.between.as_many,
  c.requires.between.taken.as_many,
  c.requires.between,
)

pub loop-index-preserved : goal.loop-index-preserved
loop-index-preserved c = (c.one_more.ensures.shares, c.one_more.ensures.rising, c.one_more.ensures.used, c.one_more.ensures.step c.loop-index.invariant.3)

pub returns : goal.returns
returns c = between-ends (demands c.args.caps.now c.args.tenants.now) (share_rates c.loop-index.shares) c.loop-index.rising c.loop-index.used c.args.level c.loop-index.index (let t = c.loop-index-test.false in omega arith) c.loop-index.invariant.3
