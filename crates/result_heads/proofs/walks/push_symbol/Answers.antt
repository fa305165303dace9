use Rattle.std.proofs.Common.{[], ap, unwrap_or}
use Rattle.result_heads.proofs.Written.{symbol-written, function-named}
use Rattle.result_heads.proofs.walks.push_symbol.Goals as goal

pub returns-in_ok-extend_from_slice-2 : goal.returns-in_ok-extend_from_slice-2
returns-in_ok-extend_from_slice-2 c = rw (c.in_ok-extend_from_slice-2.ensures.items, c.in_ok-push-2.ensures.items, c.in_ok-extend_from_slice.ensures.items, c.in_ok-push.ensures.items, c.bytes.ensures, c.bytes-in-Some.ensures)
    (symbol-written c.args.net.now c.args.symbol c.in-Some.function c.args.line.now.items _ _ c.in-Some.is (ap (λ o. unwrap_or o []) c.name.ensures) (function-named c.args.net.now c.args.symbol c.in-Some.function c.functions.result.now c.index-functions-function.result c.requires c.in-Some.is c.functions.ensures))
