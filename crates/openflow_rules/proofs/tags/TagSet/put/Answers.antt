use Rattle.std.proofs.Common.{List, map, subst}
use Rattle.rules_model.specs.Tables.{TagKey as ModelKey, tag_key_of}
use Rattle.product_graph.specs.Products.{vertex_of}
use Rattle.rule_tables.specs.declared.branches.TagKey.{TagKey}
use Rattle.rule_tables.specs.Branches.{key_of}
use Rattle.openflow_rules.specs.Gathered.{IsKeyPut}
use Rattle.openflow_rules.proofs.Keys.{key-put}
use Rattle.openflow_rules.proofs.tags.TagSet.put.Goals as goal

pub returns : goal.returns
returns c =
    let key : TagKey = record { group = c.args.group; state = c.args.vertex.state; fun = c.args.vertex.symbol.fun } in
    subst (λ (l : List ModelKey). IsKeyPut (tag_key_of c.args.group (vertex_of c.args.vertex)) l (map key_of c.insert.new.self.keys)) c.self.view_is
    (key-put c.self.inside.keys.keys c.insert.new.self.keys key c.in_ok-insert.ensures.keys)
