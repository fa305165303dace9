use Rattle.std.proofs.Common.{◌≡◌, ◌++◌, take}
use Rattle.fair_share.proofs.WholeShares.{text_for, AreFor}
use Rattle.fair_share.proofs.share_text.read_lines.Given as goal

abbrev pub invariant-loop-index : goal.invariant-loop-index
invariant-loop-index l = (l.text ≡ text_for l.caps (take l.index l.tenants) l.shares.items ++ l.rest) × AreFor l.caps (take l.index l.tenants) l.shares.items
