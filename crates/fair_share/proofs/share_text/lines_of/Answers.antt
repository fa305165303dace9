use Rattle.std.proofs.Common.{◌<◌, length, arith}
use Rattle.fair_share.proofs.Printing.{shares-count, share-is, lines-more, lines-all}
use Rattle.fair_share.proofs.share_text.lines_of.Goals as goal

pub bounds-shares-index : goal.bounds-shares-index
bounds-shares-index c = let a = shares-count c.args.caps.now c.args.tenants.now c.args.shares.now c.requires in let t = c.loop-index-test.true in omega arith

pub line_text-requires : goal.line_text-requires
line_text-requires c =
    let within : c.loop-index.index < length c.args.tenants.now = (let t = c.loop-index-test.true in omega arith) in
    share-is c.args.caps.now c.args.tenants.now c.args.shares.now c.loop-index.index c.requires within

pub loop-index-preserved : goal.loop-index-preserved
loop-index-preserved c =
    let within : c.loop-index.index < length c.args.tenants.now = (let t = c.loop-index-test.true in omega arith) in
    lines-more c.args.caps.now c.args.tenants.now c.args.shares.now c.loop-index.index c.index-tenants-index.result c.loop-index.lines.items c.push.new.self.items c.in_ok-line.line c.loop-index.invariant c.requires within c.index-tenants-index.is
    c.in_ok-line.ensures c.in_ok-push.ensures.items

pub returns : goal.returns
returns c =
    lines-all c.args.caps.now c.args.tenants.now c.args.shares.now c.loop-index.index c.loop-index.lines.items c.loop-index.invariant c.requires (let t = c.loop-index-test.false in omega arith)
