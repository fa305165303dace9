use Rattle.std.proofs.Common.{◌∙◌}
use Rattle.std.proofs.lemmas.Result.{IfOk-weaker}
use Rattle.result_heads.proofs.Written.{walk-written}
use Rattle.result_heads.proofs.walks.walk_line.Goals as goal

pub returns : goal.returns
returns c =
    IfOk-weaker c.name_from.result _ _ (λ line e. e ∙ c.deref.ensures.value ∙ rw (c.in_ok-push.ensures.items, c.in_ok-push_symbols.ensures, c.in_ok-extend_from_slice.ensures.items, c.in_ok-line.ensures.items, c.bytes.ensures)
    (walk-written c.args.net.now c.args.id.now c.args.walk.now)) c.name_from.ensures
