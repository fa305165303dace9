use Rattle.std.proofs.Common.{◌++◌, ◌∷◌, [], ◌∙◌, ap, subst, map}
use Rattle.std.proofs.lemmas.Result.{on_err_weaker}
use Rattle.merlin_base.specs.Outside.{GrowsByPrefix}
use Rattle.certificate_text.specs.Preorder.{lines_from_last}
use Rattle.certificate_text.proofs.writing.write_tree_nodes.Goals as goal

pub returns-in-Ok-clause-err : goal.returns-in-Ok-clause-err
returns-in-Ok-clause-err g c =
    on_err_weaker c.write_nodes.result (subst (GrowsByPrefix (g.K.Sink.taken c.args.out.now) (g.K.Sink.taken c.write_nodes.new.out)) (ap (λ ts. lines_from_last (map (λ t. t.now) ts)) (c.in-Ok.ensures.items ∙ ap (λ ts. ts ++ c.args.tree ∷ []) c.new-pending.ensures.items))) c.write_nodes.ensures.err
