use Rattle.std.proofs.Common.{◌≤◌, length, map, take}
use Rattle.product_graph.specs.Products.{vertex_of}
use Rattle.openflow_rules.specs.declared.fault.TheConstants.{MAX_TAGS}
use Rattle.openflow_rules.specs.Gathered.{AreTagsPut}
use Rattle.openflow_rules.proofs.tags.put_tags.Given as goal

abbrev pub invariant-loop-vertex : goal.invariant-loop-vertex
invariant-loop-vertex l = AreTagsPut l.group (map vertex_of (take l.vertex-index l.vertices)) l.fn.tags l.tags × (length l.tags ≤ MAX_TAGS)
