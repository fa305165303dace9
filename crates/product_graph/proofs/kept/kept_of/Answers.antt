use Rattle.std.proofs.Common.{◌++◌, sym, ap₂, subst}
use Rattle.merlin_model.specs.Networks.{AreDifferent}
use Rattle.product_graph.proofs.Listing.{kept-different}
use Rattle.product_graph.proofs.kept.kept_of.Goals as goal

pub set_of-requires : goal.set_of-requires
set_of-requires c =
    subst AreDifferent (sym (ap₂ (λ a b. a ++ b) c.as_slice.ensures c.as_slice-2.ensures))
    (kept-different c.args.net.now c.args.symbols.now c.requires.starts.0 c.requires.starts.1.0 c.args.states c.args.leading.now c.args.starts.now c.in_ok-first.first c.in_ok-inner.inner c.requires.starts.1.1 c.in_ok-first.ensures c.in_ok-inner.ensures)
