use Rattle.std.proofs.Common.{◌≡◌, ◌≢◌, [], map, sym, subst}
use Rattle.std.specs.List.{AllByRecursion, join_with_byte}
use Rattle.config_text.specs.Result.{symbol_text}
use Rattle.config_lines.specs.Parts.{IsLineSymbol}
use Rattle.config_lines.proofs.SymbolTexts.{wrong_symbol, symbols_read}
use Rattle.config_lines.proofs.walks.read_symbols.Goals as goal

pub returns-in_default-clause-none : goal.returns-in_default-clause-none
returns-in_default-clause-none c =
    wrong_symbol c.args.net.now c.args.text.now c.symbols.rest.now c.cut_before.result.0.now c.cut_before.result.1.now c.symbols.symbols c.symbols.invariant c.cut_before.ensures.whole c.cut_before.ensures.lacks c.cut_before.ensures.begins c.in_default.ensures.none

pub returns-in_default-strip_front-clause-some : goal.returns-in_default-strip_front-clause-some
returns-in_default-strip_front-clause-some c =
    subst (λ xs. (c.args.text.now ≡ join_with_byte 32 (map (symbol_text c.args.net.now) xs)) × AllByRecursion (IsLineSymbol c.args.net.now) xs × (xs ≢ [])) (sym c.in_ok-push.ensures.ok)
    (symbols_read c.args.net.now c.args.text.now c.symbols.rest.now c.cut_before.result.0.now c.cut_before.result.1.now c.symbols.symbols c.in-Some.symbol c.symbols.invariant c.cut_before.ensures.whole c.in-Some.ensures.some.0 c.in-Some.ensures.some.1
    c.cut_before.ensures.begins c.in_default-strip_front.ensures.none)
