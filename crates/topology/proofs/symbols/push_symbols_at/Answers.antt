use Rattle.std.proofs.Common.{◌≡◌, ◌==◌, ◌++◌, ℕ, List, [], ◌∷◌, take, append-nil, sym, ◌∙◌, ap, arith}
use Rattle.std.specs.List.{list_any}
use Rattle.merlin_model.specs.declared.policy.Symbol.{Symbol}
use Rattle.merlin_model.specs.Words.{at}
use Rattle.topology.specs.Symbols.{at_with}
use Rattle.topology.proofs.Listing.{with_functions, one_more_placed, one_more_elsewhere, all_functions}
use Rattle.topology.proofs.symbols.push_symbols_at.Goals as goal
use Rattle.topology.proofs.symbols.push_symbols_at.Goals.{then-contains+in_ok-push-2, else-contains}

pub loop-number-init : goal.loop-number-init
loop-number-init c = sym (append-nil c.push.new.self.items)

pub loop-number-preserved : goal.loop-number-preserved
loop-number-preserved c =
    let fs = c.args.functions.now in
    let i = c.loop-number.number in
    let f = c.index-functions-number.result in
    elim c.if-contains.branch [
      | then-contains+in_ok-push-2 w ↦
          ap (λ v. v.items) w.symbols-is
          ∙ (w.in_ok-push-2.ensures.items
          ∙ (ap (λ (ss : List Symbol). ss ++ at_with c.args.loc i ∷ []) c.loop-number.invariant
          ∙ one_more_placed fs i f c.args.loc c.loop-number-test.true c.index-functions-number.is (ap (λ (places : List ℕ). list_any (λ place. place == c.args.loc) places) (sym c.as_slice.ensures) ∙ (sym c.contains.ensures.value ∙ w.if-contains.true)) c.push.new.self.items))
      | else-contains w ↦
          ap (λ v. v.items) w.symbols-is
          ∙ (c.loop-number.invariant
          ∙ ap (λ (ss : List Symbol). c.push.new.self.items ++ ss) (one_more_elsewhere fs i f c.args.loc c.loop-number-test.true c.index-functions-number.is (ap (λ (places : List ℕ). list_any (λ place. place == c.args.loc) places) (sym c.as_slice.ensures) ∙ (sym c.contains.ensures.value ∙ w.if-contains.false))))
    ]

pub returns : goal.returns
returns c =
    let pushed : c.push.new.self.items ≡ c.args.symbols.now.items ++ at c.args.loc ∷ [] = c.in_ok-push.ensures.items in
    c.loop-number.invariant
    ∙ (ap (λ (ss : List Symbol). ss ++ with_functions (take c.loop-number.number c.args.functions.now) c.args.loc) pushed
    ∙ all_functions c.args.functions.now c.loop-number.number c.args.loc (omega arith) c.args.symbols.now.items)
