use Rattle.std.proofs.Common.{refl, arith}
use Rattle.product_graph.proofs.Lists.{all-contained}
use Rattle.openflow_rules.proofs.tags.put_tag.Goals as goal

pub returns-then-len-gt-MAX_TAGS-clause-err : goal.returns-then-len-gt-MAX_TAGS-clause-err
returns-then-len-gt-MAX_TAGS-clause-err c = (
  record {
    keys = c.put.new.self;
    ascend = c.len.ensures.ascend;
    each = all-contained _ c.put.new.self (λ k here. (c.in_ok-put.ensures k).0 here);
    many = let count = c.len.ensures.count in let more = c.if-len-gt-MAX_TAGS.true in omega (arith, count, more);
  },
  refl,
)
