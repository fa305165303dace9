use Rattle.std.proofs.Common.{◌≡◌, ℕ, Option, None, Some, false, List, [], replicate, set, sym, ◌∙◌, ap, subst}
use Rattle.graph_search.specs.Frontiers.{HasAlso}
use Rattle.graph_search.specs.Searching.{IsSettling}
use Rattle.graph_search.proofs.Settling.{begins}
use Rattle.graph_search.proofs.search.begin.Goals as goal

pub returns : goal.returns
returns c = λ edges.
    let costs : c.distance.inside.items.items ≡ set (replicate c.args.vertices None) c.args.source (Some 0) = c.distance.view_is ∙ c.set.ensures ∙ ap (λ (l : List (Option ℕ)). set l c.args.source (Some 0)) c.in_ok-distance.ensures in
    let last : c.in_ok-no_edges.field-0 ≡ replicate c.args.vertices None = c.in_ok-no_edges.ensures in
    let marks : c.in_ok-no_marks.field-0 ≡ replicate c.args.vertices false = c.in_ok-no_marks.ensures in
    let also : HasAlso (0, c.args.source) [] c.push.new.self = subst (λ (l : List (ℕ × ℕ)). HasAlso (0, c.args.source) l c.push.new.self) c.new-frontier.ensures c.in_ok-push.ensures in
    subst (IsSettling c.args.vertices edges c.args.source 0 c.args.vertices 0) (λ i. record { distance = sym costs i; before = sym last i; settled = sym marks i; frontier = c.push.new.self })
    (begins c.args.vertices edges c.args.source c.push.new.self c.requires also)
