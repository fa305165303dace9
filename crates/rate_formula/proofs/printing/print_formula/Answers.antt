use Rattle.std.proofs.Common.{◌≡◌, ◌++◌, ◌∙◌, [], codes, arith, ap, subst, sym, take, ◌≤◌, ◌<◌, List, length, get_or}
use Rattle.merlin_model.specs.declared.policy.Term.{Term}
use Rattle.rate_formula.specs.FormulaText.{term_text, formula_text}
use Rattle.std.proofs.lemmas.List.{take_all}
use Rattle.std.proofs.lemmas.Result.{IfOk-weaker}
use Rattle.rate_formula.specs.FormulaLexemes.{HasLexemes, formula_lexemes}
use Rattle.rate_formula.proofs.Written.{formula_has_lexemes}
use Rattle.rate_formula.proofs.Joined.{written_first, written_next}
use Rattle.rate_formula.proofs.printing.print_formula.Goals as goal
use Rattle.rate_formula.proofs.printing.print_formula.Goals.{then-place-gt0+in_ok-extend_from_slice, else-place-gt0}

pub loop-place-preserved : goal.loop-place-preserved
loop-place-preserved c =
    let items = c.as_slice-term-items.ensures in
    let within : c.loop-place.place < length c.args.formula.now.terms = subst (λ (terms : List Term). c.loop-place.place < length terms) items c.loop-place-test.true in
    let item = c.term-item.is ∙ ap (λ (terms : List Term). get_or terms c.loop-place.place c.term-item.result) items in
    let written = c.in_ok-write_term.ensures ∙ ap (λ term. c.if-place-gt0.text.items ++ term_text term) item in
    elim c.if-place-gt0.branch [
      | then-place-gt0+in_ok-extend_from_slice w ↦
          let between : c.if-place-gt0.text.items ≡ c.loop-place.text.items ++ codes " and " = cc (w.text-is, w.in_ok-extend_from_slice.ensures.items) in
          written_next term_text (codes " and ") c.args.formula.now.terms c.loop-place.place c.term-item.result [] c.loop-place.text.items c.if-place-gt0.text.items _ w.if-place-gt0.true within c.loop-place.invariant between written
      | else-place-gt0 w ↦
          let same : c.if-place-gt0.text.items ≡ c.loop-place.text.items = cc (w.text-is) in
          written_first term_text (codes " and ") c.args.formula.now.terms c.loop-place.place c.term-item.result [] c.loop-place.text.items c.if-place-gt0.text.items _ (omega arith) within c.loop-place.invariant same written
    ]

pub returns-clause-text : goal.returns-clause-text
returns-clause-text c =
    let all : take c.loop-place.place c.args.formula.now.terms ≡ c.args.formula.now.terms = take_all c.loop-place.place c.args.formula.now.terms (subst (λ (terms : List Term). length terms ≤ c.loop-place.place) c.as_slice-term-items.ensures c.loop-place-test.false) in
    let whole = c.deref.ensures.value ∙ c.loop-place.invariant ∙ ap (λ (terms : List Term). formula_text terms) all in
    IfOk-weaker c.name_from.result _ _ (λ text is. is ∙ whole) c.name_from.ensures

pub returns-clause-reads_back : goal.returns-clause-reads_back
returns-clause-reads_back c = IfOk-weaker c.name_from.result _ _ (λ text is writable. subst (λ t. HasLexemes t (formula_lexemes c.args.formula.now.terms)) (sym is) (formula_has_lexemes c.args.formula.now.terms writable)) (returns-clause-text c)
