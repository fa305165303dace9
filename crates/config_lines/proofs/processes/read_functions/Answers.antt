use Rattle.std.proofs.Common.{◌≡◌, ◌∙◌, sym, subst}
use Rattle.std.specs.List.{AllByRecursion}
use Rattle.config_text.specs.Lines.{functions_text}
use Rattle.config_lines.specs.Words.{IsLineFunction}
use Rattle.config_lines.proofs.Then.{unlike}
use Rattle.config_lines.proofs.FunctionTexts.{wrong_name, names_read}
use Rattle.config_lines.proofs.processes.read_functions.Goals as goal

pub returns-in_default-clause-none : goal.returns-in_default-clause-none
returns-in_default-clause-none c =
    wrong_name c.args.net.now c.args.word.now c.names.rest.now c.cut_before.result.0.now c.cut_before.result.1.now c.names.functions (λ e. unlike c.args.word.now c.as_slice.result.now c.eq.result c.eq.ensures c.if-eq.false (e ∙ sym c.as_slice.ensures))
    c.names.invariant c.cut_before.ensures.whole c.cut_before.ensures.lacks c.cut_before.ensures.begins c.in_default.ensures.none

pub returns-in_default-strip_front-clause-some : goal.returns-in_default-strip_front-clause-some
returns-in_default-strip_front-clause-some c =
    subst (λ fs. (c.args.word.now ≡ functions_text c.args.net.now.functions fs) × AllByRecursion (IsLineFunction c.args.net.now) fs) (sym c.in_ok-push.ensures.ok)
    (names_read c.args.net.now c.args.word.now c.names.rest.now c.cut_before.result.0.now c.cut_before.result.1.now c.names.functions c.in-Some.function c.names.invariant c.cut_before.ensures.whole c.in-Some.ensures.some.0 c.in-Some.ensures.some.1
    c.cut_before.ensures.begins c.in_default-strip_front.ensures.none)
