use Rattle.std.proofs.Common.{sym, ◌∙◌, refl}
use Rattle.delegation_verdict.proofs.verdict.judged_reply.Goals as goal

pub returns-in-Ok : goal.returns-in-Ok
returns-in-Ok c =
    let net = c.args.net.now in
    let nodes = c.args.nodes.now in
    record {
      count_is = refl;
      statements_are = c.in-Ok.ensures.count;
      local = c.in-Ok.ensures.accepted;
      accepted = c.accepted_trees.ensures.accepted net nodes c.requires c.in-Ok.ensures.accepted;
      size = λ composition is. c.compositions_of_a_tree.ensures.first nodes composition c.requires is ∙ sym c.in-Ok.ensures.count;
      refines = λ composition is. c.accepted_trees.ensures.refines net nodes composition c.requires c.in-Ok.ensures.accepted is;
    }
