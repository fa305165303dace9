use Rattle.std.proofs.Common.{◌≡◌, ℕ, List, [], ◌∷◌, ◌++◌, suc, length, sym, ◌∙◌, ap, subst, arith}
use Rattle.product_graph.specs.Followers.{IsFollowerRow, AreFollowerRows}
use Rattle.product_graph.proofs.Lists.{length-more}
use Rattle.product_graph.proofs.Following.{rows-more}
use Rattle.product_graph.proofs.rows.rows.Goals as goal

pub loop-loc-preserved : goal.loop-loc-preserved
loop-loc-preserved c =
    let rows : List (List ℕ) = c.loop-loc.rows in
    let row : List ℕ = c.in_ok-row.field-0 in
    let e : c.push.new.self ≡ rows ++ row ∷ [] = c.in_ok-push.ensures.ok in
    let count : length rows ≡ c.loop-loc.loc = c.loop-loc.invariant.0 in
    let long : length c.push.new.self ≡ suc (length rows) = ap length e ∙ length-more rows row in (
      omega arith,
      subst (AreFollowerRows c.args.net.now c.args.symbols.now) (sym e)
          (rows-more c.args.net.now c.args.symbols.now rows row c.loop-loc.invariant.1 (subst (λ loc. IsFollowerRow c.args.net.now c.args.symbols.now loc (length c.args.symbols.now) row) (sym count) c.in_ok-row.ensures)),
    )
