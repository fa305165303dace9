use Rattle.std.proofs.Common.{◌≡◌, ◌<◌, ◌++◌, inl, inr, ℕ, Option, length, refl, sym, ◌∙◌, subst, arith}
use Rattle.std.specs.Prelude.{MatchOption}
use Rattle.merlin_model.specs.Networks.{Network, IsHost}
use Rattle.rules_model.specs.Products.{SymbolAutomaton}
use Rattle.product_graph.specs.declared.span.Span2.TheVariants.{All}
use Rattle.product_graph.specs.Products.{IsProduct}
use Rattle.product_graph.proofs.Lists.{none-some, some-same}
use Rattle.sink_tree.specs.Trees.{next_in}
use Rattle.openflow_rules.specs.SinkBranches.{AreStepsBelow, IsSinkBranch}
use Rattle.openflow_rules.proofs.Sinking.{trimmed-branch, empty-branch}
use Rattle.openflow_rules.proofs.sinks.sink_branch.Goals as goal

pub steps_of-requires-clause-end : goal.steps_of-requires-clause-end
steps_of-requires-clause-end c =
    let below : c.in-Some.end < length c.args.product.now.vertices = subst (λ (o : Option ℕ). MatchOption o (Unit {0}) (λ k. k < length c.args.product.now.vertices)) (sym c.in-Some.ensures) c.edges.ensures.inside.1 in
    omega (arith, below)

pub steps_of-requires-clause-size : goal.steps_of-requires-clause-size
steps_of-requires-clause-size c = c.in_ok-tree.ensures.size c.requires.0 c.requires.1 (All c.args.dest) c.requires.2

pub returns-in_default : goal.returns-in_default
returns-in_default c = λ net a host is. by net a host is
  where
    by : (net : Network) (a : SymbolAutomaton) → IsHost net c.args.dest → IsProduct net a (All c.args.dest) c.args.product.now → IsSinkBranch net a c.args.dest (record { dest = c.args.dest; steps = c.new-steps.result })
    by net a host (inl cut) = empty-branch net a c.args.dest (c.sink_tree_is_followed.ensures.empty net a c.args.dest c.args.product.now host cut) (λ s us from other. cut.none s us (from, other)) (record { dest = c.args.dest; steps = c.new-steps.result }) refl c.new-steps.ensures
    by net a host (inr t) = absurd (c.in_default.not-Some _ (c.end.ensures ∙ t.end))

pub returns : goal.returns
returns c = λ net a host is. by net a host is
  where
    by : (net : Network) (a : SymbolAutomaton) → IsHost net c.args.dest → IsProduct net a (All c.args.dest) c.args.product.now → IsSinkBranch net a c.args.dest (record { dest = c.args.dest; steps = c.in_ok-steps.steps })
    by net a host (inl cut) = absurd (none-some (sym cut.end ∙ sym c.in-Some.ensures))
    by net a host (inr t) =
        let same : c.in-Some.end ≡ length (t.first ++ t.inner) = some-same (c.in-Some.ensures ∙ t.end) in
        trimmed-branch net a c.args.dest c.args.product.now (next_in c.in_ok-tree.tree) t (c.in_ok-tree.ensures.tree net a (All c.args.dest) t) c.in_ok-steps.steps
        (subst (λ n. AreStepsBelow c.args.product.now (next_in c.in_ok-tree.tree) n n c.in_ok-steps.steps) same c.in_ok-steps.ensures)
        (c.sink_tree_is_followed.ensures.at net a c.args.dest c.args.product.now (next_in c.in_ok-tree.tree) host t (c.in_ok-tree.ensures.tree net a (All c.args.dest) t))
        (c.sink_tree_is_followed.ensures.all net a c.args.dest c.args.product.now (next_in c.in_ok-tree.tree) host t (c.in_ok-tree.ensures.tree net a (All c.args.dest) t))
        (record { dest = c.args.dest; steps = c.in_ok-steps.steps }) refl refl
