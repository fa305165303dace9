-- The branch of a product is that of its group.
use Rattle.std.proofs.Common.{◌≡◌, ◌≢◌, ℕ, List, map, Contains, Option, None, Some, slice_get, refl, sym, subst}
use Rattle.merlin_model.specs.Networks.{Network, IsHost}
use Rattle.rules_model.specs.Products.{Vertex, WrittenWalk, Group, TreeFollows, FollowsIn, FollowsAt, Follows, AllowsWalkIn, AllowsWalkAt, AllowsWalk, start_at, start_in}
use Rattle.product_graph.specs.declared.span.Span2.{Span2}
use Rattle.product_graph.specs.declared.span.Span2.TheVariants.{Pair, All}
use Rattle.policy_check.specs.Checked.{CheckedPolicy}
use Rattle.rule_tables.specs.declared.branches.Branch.{Branch}
use Rattle.rule_tables.specs.Branches.{vertex_in, IsBranch}
use Rattle.openflow_rules.specs.declared.spans.GroupSpan.{GroupSpan}
use Rattle.openflow_rules.specs.GroupSpans.{IsSpanOf, IsGroupSpan}
use Rattle.openflow_rules.specs.SinkBranches.{IsSinkBranch}
use Rattle.openflow_rules.specs.Gathered.{IsBranchOfSpan, IsBranchBy, IsBranchFor}

module _ (net : Network) (groups : List Group) (g : ℕ) (group : Group) (there : slice_get groups g ≡ Some group) (effort : group.written ≡ None) where
  to-follows : (d : ℕ) (v : Vertex) (us : List Vertex) → TreeFollows net group.automaton d v us → Follows net groups g d v us
  to-follows d v us f = subst (λ o. FollowsAt net o d v us) (sym there) (subst (λ w. FollowsIn net group.automaton w d v us) (sym effort) f)

  from-follows : (d : ℕ) (v : Vertex) (us : List Vertex) → Follows net groups g d v us → TreeFollows net group.automaton d v us
  from-follows d v us f = subst (λ w. FollowsIn net group.automaton w d v us) effort (subst (λ o. FollowsAt net o d v us) there f)

  is-branch : (d : ℕ) (branch : Branch) → IsSinkBranch net group.automaton d branch → IsBranch net groups g branch
  is-branch d branch h = record {
    follow = λ k v e. let p = h.follow k v e in (p.0, p.1, to-follows branch.dest v p.0 (subst (λ x. TreeFollows net group.automaton x v p.0) (sym h.dest) p.2));
    all = λ v us f. h.all v us (subst (λ x. TreeFollows net group.automaton x v us) h.dest (from-follows branch.dest v us f));
    differ = h.differ;
  }

  starts-in : (d : ℕ) (branch : Branch) → IsSinkBranch net group.automaton d branch → (s : ℕ) → IsHost net s → s ≢ d → AllowsWalk net groups g s d → Contains (map vertex_in branch.steps) (start_in groups g s)
  starts-in d branch h s host other allows =
      let way = subst (λ w. AllowsWalkIn net group.automaton w s d) effort (subst (λ o. AllowsWalkAt net o s d) there allows) in
      subst (λ o. Contains (map vertex_in branch.steps) (start_at o s)) (sym there) (h.starts s way.0 host other way.1)

pub branch-for : (net : Network) (checked : CheckedPolicy) (groups : List Group) (s : GroupSpan) (is : IsGroupSpan net checked groups s) (branch : Branch) → IsBranchOfSpan net is.group.automaton s.span branch → IsBranchFor net groups s branch
branch-for net checked groups s is branch h = by s.span is.group.written refl is.span h
  where
    by : (span : Span2) (w : Option WrittenWalk) → is.group.written ≡ w → IsSpanOf net w span → IsBranchOfSpan net is.group.automaton span branch → IsBranchBy net groups s.group span branch
    by (All d) None e span h = record {
      dest = h.dest;
      is = is-branch net groups s.group is.group is.there e d branch h;
      starts = λ x host other allows. starts-in net groups s.group is.group is.there e d branch h x host other allows;
    }
    by (All d) (Some w) e span h = absurd span
    by (Pair a d) w e span h = tt
