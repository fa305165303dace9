use Rattle.std.proofs.Common.{◌+◌, ℕ, List, None, get_or, sym, ◌∙◌, subst}
use Rattle.merlin_model.specs.declared.policy.Symbol.{Symbol}
use Rattle.product_graph.specs.Followers.{IsFollowerRow}
use Rattle.product_graph.proofs.Lists.{get-at, false-true}
use Rattle.product_graph.proofs.Following.{row-with, row-without, goes-is, goes-not}
use Rattle.product_graph.proofs.rows.row.Goals as goal
use Rattle.product_graph.proofs.rows.row.Goals.{then-may_go_on+in_ok-push, else-may_go_on}

abbrev nowhere : Symbol
nowhere = record { loc = 0; fun = None }

pub loop-number-preserved : goal.loop-number-preserved
loop-number-preserved c =
    let n : ℕ = c.loop-number.number in
    let y : Symbol = get_or c.args.symbols.now n nowhere in
    elim c.if-may_go_on.branch [
      | then-may_go_on+in_ok-push w ↦
          subst (λ (r : List ℕ). IsFollowerRow c.args.net.now c.args.symbols.now c.args.loc (n + 1) r) (sym (w.row-is ∙ w.in_ok-push.ensures.ok))
          (row-with c.args.net.now c.args.symbols.now c.args.loc n c.loop-number.row c.loop-number.invariant
          (goes-is c.args.net.now c.args.symbols.now c.args.loc n y (get-at c.args.symbols.now n nowhere c.loop-number-test.true) (c.may_go_on.ensures.0 w.if-may_go_on.true)))
      | else-may_go_on w ↦
          subst (λ (r : List ℕ). IsFollowerRow c.args.net.now c.args.symbols.now c.args.loc (n + 1) r) (sym w.row-is)
          (row-without c.args.net.now c.args.symbols.now c.args.loc n c.loop-number.row c.loop-number.invariant
          (goes-not c.args.net.now c.args.symbols.now c.args.loc n y (get-at c.args.symbols.now n nowhere c.loop-number-test.true) (λ h. false-true (sym w.if-may_go_on.false ∙ c.may_go_on.ensures.1 h))))
    ]
