use Rattle.std.proofs.Common.{◌≡◌, ◌+◌, ℕ, List, false, true, None, get_or, sym, ◌∙◌, subst}
use Rattle.merlin_model.specs.declared.policy.Symbol.{Symbol}
use Rattle.language_check.specs.Ways.{IsRowAt}
use Rattle.language_check.proofs.Rows.{get-at}
use Rattle.language_check.proofs.Followers.{row-with, row-without, follower-is, follower-not}
use Rattle.language_check.proofs.ways.row.Goals as goal
use Rattle.language_check.proofs.ways.row.Goals.{then-is_follower+in_ok-push, else-is_follower}

abbrev nowhere : Symbol
nowhere = record { loc = 0; fun = None }

false-true : false ≡ true → ⊥
false-true e = cc

pub loop-number-preserved : goal.loop-number-preserved
loop-number-preserved c =
    let n : ℕ = c.loop-number.number in
    let y : Symbol = get_or c.args.symbols.now n nowhere in
    elim c.if-is_follower.branch [
      | then-is_follower+in_ok-push w ↦
          subst (λ (r : List ℕ). IsRowAt c.args.net.now c.args.symbols.now c.args.loc (n + 1) r) (sym (w.row-is ∙ w.in_ok-push.ensures.ok))
          (row-with c.args.net.now c.args.symbols.now c.args.loc n c.loop-number.row c.loop-number.invariant
          (follower-is c.args.net.now c.args.symbols.now c.args.loc n y (get-at c.args.symbols.now n nowhere c.loop-number-test.true) (c.is_follower.ensures.0 w.if-is_follower.true)))
      | else-is_follower w ↦
          subst (λ (r : List ℕ). IsRowAt c.args.net.now c.args.symbols.now c.args.loc (n + 1) r) (sym w.row-is)
          (row-without c.args.net.now c.args.symbols.now c.args.loc n c.loop-number.row c.loop-number.invariant
          (follower-not c.args.net.now c.args.symbols.now c.args.loc n y (get-at c.args.symbols.now n nowhere c.loop-number-test.true) (λ h. false-true (sym w.if-is_follower.false ∙ c.is_follower.ensures.1 h))))
    ]
