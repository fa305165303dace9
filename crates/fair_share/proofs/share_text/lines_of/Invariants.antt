use Rattle.std.proofs.Common.{◌≡◌, take, map}
use Rattle.std.specs.List.{zip}
use Rattle.fair_share.specs.ShareTexts.{share_line}
use Rattle.fair_share.proofs.share_text.lines_of.Given as goal

abbrev pub invariant-loop-index : goal.invariant-loop-index
invariant-loop-index l = l.lines.items ≡ map (λ p. share_line l.caps p.0 p.1) (zip (take l.index l.tenants) (take l.index l.shares))
