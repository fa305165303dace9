use Rattle.std.proofs.Common.{◌++◌, List, sym, ◌∙◌, ap}
use Rattle.merlin_model.specs.declared.policy.Symbol.{Symbol}
use Rattle.topology.specs.Symbols.{symbols_at}
use Rattle.topology.proofs.Listing.{one_more_location}
use Rattle.topology.proofs.symbols.symbols_of.Goals as goal

pub loop-loc-preserved : goal.loop-loc-preserved
loop-loc-preserved c =
    c.in_ok-push_symbols_at.ensures
    ∙ (ap (λ (ss : List Symbol). ss ++ symbols_at c.args.functions.now c.loop-loc.loc) c.loop-loc.invariant
    ∙ sym (one_more_location c.args.functions.now c.loop-loc.loc))
