use Rattle.std.proofs.Common.{ℕ, List, [], ◌∷◌, ◌++◌, None, Contains, slice_get, map, take, ◌+◌, get_or, sym, ◌∙◌, ap, ap₂, subst}
use Rattle.merlin_model.specs.declared.policy.Symbol.{Symbol}
use Rattle.path_automaton.specs.SeenSymbols.{seen_by}
use Rattle.path_automaton.specs.Classes.{AreClasses}
use Rattle.path_automaton.proofs.Classing.{made, next-old, next-new, map-snoc}
use Rattle.path_automaton.proofs.classes.Classes.new.Goals as goal
use Rattle.path_automaton.proofs.classes.Classes.new.Goals.{in-Some+in_ok-push-in-Some, in-None+in_ok-push-in-None+in_ok-push-in-None-2+in_ok-push-in-None-3}

abbrev none : Symbol
none = record { loc = 0; fun = None }

pub loop-symbol-preserved : goal.loop-symbol-preserved
loop-symbol-preserved c =
    let i : ℕ = c.loop-symbol.symbol-index in
    let x : Symbol = get_or c.args.symbols.now i none in
    elim c.match-class_of.branch [
      | in-Some+in_ok-push-in-Some w ↦ (
          let old = next-old c.args.path.now c.args.symbols.now i none c.loop-symbol.numbers c.loop-symbol.firsts c.loop-symbol.kinds w.in-Some.class c.seen_by-kind.result
          c.loop-symbol-test.true c.loop-symbol.invariant.0 c.loop-symbol.invariant.1 (ap (λ ks. slice_get ks w.in-Some.class) (sym c.as_slice.ensures) ∙ w.in-Some.ensures) c.seen_by-kind.ensures in (
            subst (λ (ns : List ℕ). AreClasses c.args.path.now (take (i + 1) c.args.symbols.now) (made ns c.match-class_of.firsts)) (sym (w.numbers-is ∙ w.in_ok-push-in-Some.ensures.ok))
                (subst (λ (fs : List Symbol). AreClasses c.args.path.now (take (i + 1) c.args.symbols.now) (made (c.loop-symbol.numbers ++ w.in-Some.class ∷ []) fs)) (sym w.firsts-is) old),
            w.kinds-is ∙ c.loop-symbol.invariant.1 ∙ ap (map (seen_by c.args.path.now)) (sym w.firsts-is),
          ))
      | in-None+in_ok-push-in-None+in_ok-push-in-None-2+in_ok-push-in-None-3 w ↦ (
          let new = next-new c.args.path.now c.args.symbols.now i none c.loop-symbol.numbers c.loop-symbol.firsts c.loop-symbol.kinds w.len.result
          c.loop-symbol-test.true c.loop-symbol.invariant.0 c.loop-symbol.invariant.1 w.len.ensures
          (λ i. w.in-None.ensures (subst (λ ks. Contains ks c.seen_by-kind.result) (sym c.as_slice.ensures) (subst (λ k. Contains c.loop-symbol.kinds k) (sym c.seen_by-kind.ensures) i))) in
          let firsts = w.firsts-is ∙ w.in_ok-push-in-None-3.ensures.ok in (
            subst (λ (ns : List ℕ). AreClasses c.args.path.now (take (i + 1) c.args.symbols.now) (made ns c.match-class_of.firsts)) (sym (w.numbers-is ∙ w.in_ok-push-in-None.ensures.ok))
                (subst (λ (fs : List Symbol). AreClasses c.args.path.now (take (i + 1) c.args.symbols.now) (made (c.loop-symbol.numbers ++ w.len.result ∷ []) fs)) (sym firsts) new),
            w.kinds-is ∙ w.in_ok-push-in-None-2.ensures.ok ∙ ap₂ (λ ks k. ks ++ k ∷ []) c.loop-symbol.invariant.1 c.seen_by-kind.ensures
                ∙ sym (ap (map (seen_by c.args.path.now)) firsts ∙ map-snoc (seen_by c.args.path.now) c.loop-symbol.firsts x),
          ))
    ]
