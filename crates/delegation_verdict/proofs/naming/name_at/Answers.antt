use Rattle.std.proofs.Common.{◌≡◌, ℕ, List, length, get_or, refl, sym, ◌∙◌, ap}
use Rattle.std.proofs.lemmas.Option.{slice_get_read}
use Rattle.std.proofs.lemmas.Result.{IfOk-weaker}
use Rattle.delegation.specs.declared.node.Node.{Node}
use Rattle.delegation_verdict.specs.Verdict.{HasNameAt}
use Rattle.delegation_verdict.proofs.naming.name_at.Goals as goal

pub returns : goal.returns
returns c =
    let node = c.index-nodes-place.result in
    let nodes = c.args.nodes.now in
    IfOk-weaker c.copy.result (λ (name : List ℕ). name ≡ (get_or nodes c.args.place node).name) (HasNameAt nodes c.args.place) (λ name e. record {
      node = node;
      stands = slice_get_read nodes (length nodes) c.args.place node refl c.requires c.index-nodes-place.is;
      is = e ∙ ap (λ (n : Node). n.name) (sym c.index-nodes-place.is);
    }) c.copy.ensures
