-- What products come to, as the limits speak of it.
use Rattle.std.proofs.Common.{◌≤◌, ℕ, List, map, Option, None, Some, refl, subst, arith}
use Rattle.std.specs.Prelude.{sum_by, IsSome}
use Rattle.merlin_model.specs.declared.policy.Ends.{Ends}
use Rattle.merlin_model.specs.Networks.{Network, Pairwise}
use Rattle.merlin_model.specs.Assignments.{AreAllEnds}
use Rattle.topology.specs.Symbols.{network_symbols}
use Rattle.rules_model.specs.Products.{Group}
use Rattle.rules_model.specs.Tables.{IsBelowKey, IsTagKey, all_hosts}
use Rattle.product_graph.proofs.Lists.{all-map}
use Rattle.policy_check.specs.Checked.{CheckedPolicy, HasAutomata}
use Rattle.configuration_model.specs.Groups.{AreGrouped}
use Rattle.openflow_rules.specs.declared.fault.TheConstants.{MAX_ENTRIES}
use Rattle.openflow_rules.specs.declared.fault.RuleFault.{RuleFault}
use Rattle.openflow_rules.specs.declared.fault.RuleFault.TheVariants.{TooManyTags, TooManyCells, TooManyEntries, OutOfMemory}
use Rattle.openflow_rules.specs.declared.gathering.Gathered.{Gathered}
use Rattle.openflow_rules.specs.Planning.{entries_in, ArePlanned, HasFewTags, IsWithinLimits, PassesLimit}
use Rattle.openflow_rules.specs.GroupSpans.{spans_over}
use Rattle.openflow_rules.specs.Gathered.{IsTagFault, IsTagIn, IsRoomBeside, IsGathered}
use Rattle.openflow_rules.specs.PlanParts.{IsGatheredFor, IsWithinRest, IsRestFault}
use Rattle.openflow_rules.proofs.PlannedGroups.{planned, are-groups}
use Rattle.openflow_rules.proofs.Spanning.{inner-of-all, tag-in, in-tag}

module _ (net : Network) (checked : CheckedPolicy) (ends : List Ends) where
  module _ (automata : HasAutomata (network_symbols net) checked) (all : AreAllEnds net checked.policy ends) (leaders group_of : List ℕ) (grouped : AreGrouped checked.policy leaders group_of) where
    -- the groups, before walks are chosen
    abbrev pub bare_groups : List Group
    bare_groups = map (planned net checked ends) leaders

    plan-of : ArePlanned net checked ends bare_groups
    plan-of = record { leaders = leaders; group_of = group_of; grouped = grouped; are = are-groups net checked ends automata all leaders group_of grouped }

    pub gathered-for : (g : Gathered) → IsGathered net bare_groups (spans_over (all_hosts net) ends leaders) g → Pairwise IsBelowKey g.tags → IsGatheredFor net checked ends leaders g
    gathered-for g h ascend = record {
      groups = bare_groups;
      are = are-groups net checked ends automata all leaders group_of grouped;
      tags = record {
        ascend = ascend;
        are = λ key. (λ c. in-tag net checked ends leaders key ((h.tags key).0 c), λ t. (h.tags key).1 (tag-in net checked ends leaders key t));
      };
      few = h.few;
      count = sum_by entries_in h.vertices;
      entries = record { vertices = h.vertices; are = inner-of-all net checked ends leaders h.vertices h.are; count_is = refl };
      room = h.room;
      branches = h.branches;
    }

    pub passes-tags : (f : RuleFault) → IsTagFault (IsTagIn net bare_groups (spans_over (all_hosts net) ends leaders)) f → PassesLimit net checked ends f
    passes-tags (TooManyTags count) h = (
      record {
        groups = bare_groups;
        planned = plan-of;
        tags = h.0.keys;
        ascend = h.0.ascend;
        each = all-map (IsTagIn net bare_groups (spans_over (all_hosts net) ends leaders)) (IsTagKey net bare_groups) (in-tag net checked ends leaders) h.0.keys h.0.each;
        many = h.0.many;
      },
      h.1,
    )
    passes-tags (TooManyCells count) h = absurd h
    passes-tags (TooManyEntries count) h = absurd h
    passes-tags OutOfMemory h = h

  -- the rest of the limits
  module _ (leaders group_of : List ℕ) (grouped : AreGrouped checked.policy leaders group_of) (g : Gathered) (h : IsGatheredFor net checked ends leaders g) where
    plan-with : ArePlanned net checked ends h.groups
    plan-with = record { leaders = leaders; group_of = group_of; grouped = grouped; are = h.are }

    few-tags : HasFewTags net checked ends
    few-tags = record { groups = h.groups; planned = plan-with; tags = g.tags; are = h.tags; few = h.few }

    pub within-limits : IsWithinRest net checked.policy g.room → IsWithinLimits net checked ends
    within-limits rest = record {
      tags = few-tags;
      cells = rest.0;
      entries = (h.count, record { groups = h.groups; planned = plan-with; are = h.entries }, by g.room h.room rest.1);
    }
      where
        by : (o : Option ℕ) → IsRoomBeside h.count o → IsSome o → h.count ≤ MAX_ENTRIES
        by None room some = let no : ⊥ = cc in absurd no
        by (Some left) room some = omega (arith, room)

    pub passes-rest : (f : RuleFault) → IsRestFault net checked.policy g.room f → PassesLimit net checked ends f
    passes-rest (TooManyTags count) e = absurd e
    passes-rest (TooManyCells count) e = (few-tags, e.0, e.1)
    passes-rest (TooManyEntries count) e = (
      few-tags,
      e.0,
      (h.count, record { groups = h.groups; planned = plan-with; are = h.entries }, subst (IsRoomBeside h.count) e.1 h.room),
      e.2,
    )
    passes-rest OutOfMemory e = e
