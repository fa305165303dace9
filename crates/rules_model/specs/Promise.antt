-- What a compiled configuration is, in the words of the parts that it is made from.
use Rattle.std.specs.Prelude.{◌∷◌, ℕ, ◌≡◌, true, ◌↔◌, List, Option, None, Some, slice_get}
use Rattle.std.specs.List.{AllByRecursion}
use Rattle.merlin_model.specs.declared.policy.Path.{Path}
use Rattle.merlin_model.specs.declared.policy.Symbol.{Symbol}
use Rattle.merlin_model.specs.declared.policy.Ends.{Ends}
use Rattle.merlin_model.specs.declared.config.Config.{Config}
use Rattle.merlin_model.specs.Packets.{Packet, IsPacket}
use Rattle.merlin_model.specs.Networks.{Network, IsProper, IsNetwork}
use Rattle.merlin_model.specs.Policies.{Policy, match_of, paths_of}
use Rattle.merlin_model.specs.Rates.{IsGuaranteed, IsShareAt}
use Rattle.merlin_model.specs.Machine.{Visit, class_by, is_dropped_by}
use Rattle.merlin_model.specs.Headline.{IsWalkOf}
use Rattle.rules_model.specs.Products.{RecognisesPath, WrittenWalk, written_word, Group, AreWrittenWalks}
use Rattle.rules_model.specs.Tables.{Plan, IsPlan, IsDecided, table_rules, table_processes}

-- Statement i has a group, whose automaton takes the statement's path. The group has a written walk
-- exactly where the statement is guaranteed; then it is the walk of the statement, and all its
-- packets go between the ends of the walk.
pub record HasGroup (net : Network) (policy : Policy) (ends : List Ends) (walks : List (List Symbol)) (groups : List Group) (group_of : List ℕ) (i : ℕ) : Type 0 where
  pub number : ℕ
  pub listed : slice_get group_of i ≡ Some number
  pub group : Group
  pub stands : slice_get groups number ≡ Some group
  pub path : Path
  pub has : slice_get (paths_of policy) i ≡ Some path
  pub automaton : RecognisesPath net group.automaton path
  pub guaranteed : (w : WrittenWalk) → group.written ≡ Some w → IsGuaranteed policy i
      × IsWalkOf ends walks i (written_word w)
  pub best_effort : group.written ≡ None → ¬ IsGuaranteed policy i
  pub one_pair : (s d : ℕ) (p : Packet) (w : WrittenWalk) → IsPacket p → match_of policy p ≡ i →
      IsProper net p s d → group.written ≡ Some w → (s ≡ w.source) × (d ≡ w.dest)

-- What the parts of the compiler owe, for the packets to go as promised. Each statement's group
-- stands in group_of, the default's last.
pub record IsCompiled (net : Network) (policy : Policy) (ends : List Ends) (walks : List (List Symbol)) (groups : List Group) (group_of : List ℕ) (plan : Plan) (config : Config) : Type 0 where
  -- the topology was read
  pub network : IsNetwork net
  -- the policy was checked: each packet has a statement or a default
  pub total : (p : Packet) → IsPacket p →
      HasGroup net policy ends walks groups group_of (match_of policy p)
  -- the written walks are simple walks
  pub written_are : AreWrittenWalks net groups
  -- the cells tell whose each proper packet is
  pub cells : (s d : ℕ) (p : Packet) (number : ℕ) → IsPacket p → IsProper net p s d →
      slice_get group_of (match_of policy p) ≡ Some number → IsDecided plan.entries s d p number
  -- the tables are those of the groups
  pub plan_is : IsPlan net groups plan
  pub rules : config.rules ≡ table_rules net plan
  pub processes : config.processes ≡ table_processes net plan
  -- a proper packet is dropped at its host exactly where its share is 0
  pub drops : (s d : ℕ) (p : Packet) → IsPacket p → IsProper net p s d →
      (is_dropped_by config.hosts s p ≡ true) ↔ IsShareAt net policy (match_of policy p) s 0

-- The host's record comes first, with the class that its lines set. All others are through the
-- queue.
pub record IsThrough (config : Config) (s : ℕ) (p : Packet) (queue : Option ℕ) (records : List Visit) : Type 0 where
  pub first : Visit
  pub others : List Visit
  pub begins : records ≡ first ∷ others
  pub host : first.loc ≡ s
  pub class : first.class ≡ class_by config.hosts s p
  pub queues : AllByRecursion (λ v. v.queue ≡ queue) others
