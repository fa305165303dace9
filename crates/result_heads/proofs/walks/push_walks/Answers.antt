use Rattle.std.proofs.Common.{◌++◌, ap, append-nil, sym, ◌∙◌}
use Rattle.result_heads.proofs.Written.{no-walks}
use Rattle.result_heads.proofs.walks.push_walks.Goals as goal

pub returns : goal.returns
returns c =
    sym (ap (λ rest. c.walks.lines.items ++ rest) (no-walks c.args.net.now c.walks.ids_left.now c.walks.walks_left.now c.in_default.len_below) ∙ append-nil c.walks.lines.items) ∙ c.walks.invariant.written
