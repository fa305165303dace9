use Rattle.std.proofs.lemmas.Result.{IfOk-weaker, IfErr-weaker}
use Rattle.merlin.proofs.Contents.{ArePoliciesOf-refused, IsUnreadNamed-memory}
use Rattle.merlin.proofs.delegate.read_tree.Goals as goal

pub returns-in-Err : goal.returns-in-Err
returns-in-Err g c =
    let known = g.F.Files.contents c.args.files.now in
    record {
      ok = IfOk-weaker c.none_named.result _ _ (λ policies none. ArePoliciesOf-refused known c.args.tree.now c.in-Err.fault policies.items c.in-Err.ensures.err none) c.none_named.ensures.ok;
      err = IfErr-weaker c.none_named.result _ _ (λ reason memory. IsUnreadNamed-memory known c.args.tree.now _ _ _ reason memory) c.none_named.ensures.err;
    }
