use Rattle.std.proofs.Common.{ℕ, List, refl, subst}
use Rattle.delegation_text.specs.Alongside.{written_names, AreEntriesFor}
use Rattle.delegation_text.proofs.Carrying.{found-all}
use Rattle.delegation_text.proofs.reader.tree_of.Goals as goal

pub returns-then-nodes-gt-MAX_TREE_NODES-clause-err : goal.returns-then-nodes-gt-MAX_TREE_NODES-clause-err
returns-then-nodes-gt-MAX_TREE_NODES-clause-err c =
    let are : AreEntriesFor (written_names c.args.nodes.now) c.args.nodes.now c.in_ok-entries.entries.items =
    subst (λ (names : List (List ℕ)). AreEntriesFor names c.args.nodes.now c.in_ok-entries.entries.items) c.in_ok-names.ensures.ok.0 c.in_ok-entries.ensures.ok in
    (c.in_ok-names.ensures.ok.1, found-all (written_names c.args.nodes.now) c.args.nodes.now c.in_ok-entries.entries.items are, c.if-nodes-gt-MAX_TREE_NODES.true, refl)
