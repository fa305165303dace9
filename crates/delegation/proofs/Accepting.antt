-- Nodes that are asked one after another: their own policies, and then whether each is accepted by itself.
use Rattle.std.proofs.Common.{◌≡◌, ◌≢◌, ◌<◌, ◌≤◌, ◌+◌, ◌++◌, ℕ, List, [], ◌∷◌, length, map, take, get_or, Option, None, Some, option_map, unwrap_or, slice_get, refl, sym, ◌∙◌, ap, ap₂, subst, arith}
use Rattle.std.specs.Option.{option_or}
use Rattle.std.proofs.lemmas.List.{take_more, map-append}
use Rattle.std.proofs.lemmas.Option.{slice_get-map, slice_get_within, get_or_from_slice_get}
use Rattle.merlin_model.specs.declared.policy.Symbol.{Symbol}
use Rattle.merlin_model.specs.Networks.{Network}
use Rattle.merlin_model.specs.Policies.{Policy as NumberedPolicy}
use Rattle.policy_expansion.specs.declared.policy.Policy.{Policy}
use Rattle.policy_expansion.specs.Kept.{IsWellFormed}
use Rattle.policy_check.specs.Checked.{CheckedPolicy, IsCheckOf}
use Rattle.policy_check.specs.Numbered.{numbered_policy}
use Rattle.refinement_model.specs.Refinement.{Refines}
use Rattle.negotiator.specs.declared.fault.RefineFault.{RefineFault}
use Rattle.negotiator.specs.declared.fault.RefineFault.TheVariants as refine
use Rattle.negotiator.specs.CellCounts.{HasFewCellsTogether}
use Rattle.negotiator.specs.Refusals.{RefusesChild, RefusesRules}
use Rattle.delegation.specs.declared.fault.DelegationFault.{DelegationFault}
use Rattle.delegation.specs.declared.fault.DelegationFault.TheVariants.{Own, Classes, ScopeOverlap, TooManyStatements, Joined, Cells, NotAccepted, OutOfMemory}
use Rattle.delegation.specs.declared.judging.NodeRefusal.{NodeRefusal}
use Rattle.delegation.specs.declared.node.Node.{Node}
use Rattle.delegation.specs.declared.rating.RatedPolicy.{RatedPolicy}
use Rattle.delegation.specs.Acceptances.{numbered_form, IsRatedNode, IsFormOf, IsAnswerFor, RefusesManyCells, AreAsked}
use Rattle.delegation.specs.Asking.{IsSoBefore}
use Rattle.delegation.specs.JoinChecks.{AreJoinChecks}
use Rattle.delegation.specs.NamedJoins.{rated_policy, written_policy}
use Rattle.delegation.specs.NamedTrees.{IsTreeNode, IsNamedTree, own_join}
use Rattle.delegation.specs.TreeRules.{IsSoAtEach, IsFirstNot, KeepsOwnRules, HasFewCellsAt, IsLocallyAcceptedAt, IsRefusedAt, HasSoundJoins, IsAcceptedTree, BreaksTree}
use Rattle.delegation.proofs.Own.{all-at, so-more, stands-at}
use Rattle.delegation.proofs.Acceptance.{None-Some}
use Rattle.delegation.proofs.Numbered.{numbered-form}
use Rattle.delegation.proofs.Formed.{own-sound, own-in-range, written-formed}

-- what is so before the end is so of all
pub so-at-each : (Q : ℕ → Node → Type 0) (nodes : List Node) (k : ℕ) → length nodes ≤ k → IsSoBefore nodes Q k → IsSoAtEach nodes Q
so-at-each Q nodes k l h i node e = let within = slice_get_within nodes i node e in h i node (omega (arith, within, l)) e

-- one more policy with its rates
pub own-more : (nodes : List Node) (k : ℕ) (node : Node) (own : RatedPolicy) (old new : List RatedPolicy) → k < length nodes → node ≡ get_or nodes k node → own ≡ rated_policy node.policy →
    old ≡ map (λ n. rated_policy n.policy) (take k nodes) → new ≡ old ++ own ∷ [] → new ≡ map (λ n. rated_policy n.policy) (take (k + 1) nodes)
own-more nodes k node own old new l e is o n =
    n ∙ ap₂ (λ (a : List RatedPolicy) (x : RatedPolicy). a ++ x ∷ []) o is
    ∙ sym (ap (map (λ n. rated_policy n.policy)) (take_more nodes k node l) ∙ map-append (λ n. rated_policy n.policy) (take k nodes) (get_or nodes k node ∷ [])
    ∙ ap (λ (m : Node). map (λ n. rated_policy n.policy) (take k nodes) ++ rated_policy m.policy ∷ []) (sym e))

module _ (net : Network) (symbols : List Symbol) where
  -- The localised form of a node's policy.

  pub form-formed : (node : Node) (own : RatedPolicy) → IsRatedNode net symbols node own → IsWellFormed (written_policy (rated_policy node.policy))
  form-formed node own is = written-formed (rated_policy node.policy) (own-in-range net node.policy is.is_node.formed (own-sound net symbols node.policy is.is_node.expanded is.is_node.formed is.keeps))

  pub form-is : (node : Node) (form : Policy) (checked : CheckedPolicy) → form ≡ written_policy (rated_policy node.policy) → IsCheckOf net symbols form checked → IsFormOf net symbols node checked
  form-is node form checked e is = record { policy = is.policy ∙ ap (numbered_policy net) e ∙ numbered-form net node.policy; automata = is.automata }

  -- a rule that is broken, and neither cells nor memory
  pub rule-broken : (k : ℕ) (node : Node) (join : NumberedPolicy) (fault : RefineFault) → RefusesChild net (numbered_form net node) join symbols fault →
      ((count : ℕ) → fault ≢ refine.TooManyCells count) → fault ≢ refine.OutOfMemory → IsAnswerFor net symbols k node join (Some (record { node = k; fault = fault }))
  rule-broken k node join (refine.TooManyCells count) h many memory = absurd (many count refl)
  rule-broken k node join refine.OutOfMemory h many memory = absurd (memory refl)
  rule-broken k node join (refine.PathWider packet word) h many memory = (refl, h.0, memory, h.1)
  rule-broken k node join (refine.CapWider term sum) h many memory = (refl, h.0, memory, h.1)
  rule-broken k node join (refine.ReserveWider term sum) h many memory = (refl, h.0, memory, h.1)

  module _ (nodes : List Node) where
    -- a node with the rates that stand in its place
    pub rated-at : (rated : List RatedPolicy) (k : ℕ) (node : Node) (own : RatedPolicy) → IsNamedTree nodes → IsSoAtEach nodes (KeepsOwnRules net symbols nodes) →
        rated ≡ map (λ n. rated_policy n.policy) nodes → slice_get nodes k ≡ Some node → own ≡ get_or rated k own → IsRatedNode net symbols node own
    rated-at rated k node own tree keeps are e at = record {
      is_node = all-at IsTreeNode nodes k node tree.each e;
      keeps = keeps k node e;
      rated = at ∙ get_or_from_slice_get rated k (rated_policy node.policy) own (ap (λ l. slice_get l k) are ∙ slice_get-map (λ n. rated_policy n.policy) nodes k ∙ ap (option_map (λ n. rated_policy n.policy)) e);
    }

    -- the check of a node's join
    pub check-at : (joins : List CheckedPolicy) (k : ℕ) (node : Node) (join : CheckedPolicy) → AreJoinChecks net symbols nodes (length nodes) joins → k < length nodes → node ≡ get_or nodes k node → join ≡ get_or joins k join →
        IsCheckOf net symbols (own_join nodes k node) join
    check-at joins k node join are l e at = let many = are.as_many in are.each k node join (stands-at nodes k node l e) (stands-at joins k join (omega (arith, l, many)) at)

    -- the answer for one node more
    module _ (k : ℕ) (node : Node) (e : slice_get nodes k ≡ Some node) (join : NumberedPolicy) (is_join : join ≡ numbered_policy net (own_join nodes k node)) where
      few-at : HasFewCellsTogether net (numbered_form net node) join → HasFewCellsAt net symbols nodes k node
      few-at h = subst (HasFewCellsTogether net (numbered_form net node)) is_join h

      cells-of : (answer : Option NodeRefusal) → IsAnswerFor net symbols k node join answer → HasFewCellsAt net symbols nodes k node
      cells-of None h = few-at h.few
      cells-of (Some refusal) h = few-at h.1

      accepted-of : IsAnswerFor net symbols k node join None → IsLocallyAcceptedAt net symbols nodes k node
      accepted-of h = subst (Refines net (numbered_form net node)) is_join h.refines

      pub asked-more : (first answer : Option NodeRefusal) → AreAsked net symbols nodes k first → IsAnswerFor net symbols k node join answer → AreAsked net symbols nodes (k + 1) (option_or first answer)
      asked-more first answer are h = record {
        cells = so-more (HasFewCellsAt net symbols nodes) nodes k node e (cells-of answer h) are.cells;
        accepted = accepted first answer are h;
        refused = refused first answer are h;
      }
        where
          accepted : (first answer : Option NodeRefusal) → AreAsked net symbols nodes k first → IsAnswerFor net symbols k node join answer → option_or first answer ≡ None → IsSoBefore nodes (IsLocallyAcceptedAt net symbols nodes) (k + 1)
          accepted None None are h f = so-more (IsLocallyAcceptedAt net symbols nodes) nodes k node e (accepted-of h) (are.accepted refl)
          accepted None (Some r) are h f = absurd (None-Some (sym f))
          accepted (Some r) answer are h f = absurd (None-Some (sym f))

          refused : (first answer : Option NodeRefusal) → AreAsked net symbols nodes k first → IsAnswerFor net symbols k node join answer → (r : NodeRefusal) → option_or first answer ≡ Some r →
              IsFirstNot nodes (IsLocallyAcceptedAt net symbols nodes) (IsRefusedAt net symbols nodes r.fault) r.node
          refused None None are h r f = absurd (None-Some f)
          refused None (Some s) are h r f = subst (λ (x : NodeRefusal). IsFirstNot nodes (IsLocallyAcceptedAt net symbols nodes) (IsRefusedAt net symbols nodes x.fault) x.node) (ap (λ o. unwrap_or o s) f)
              (subst (λ (i : ℕ). IsFirstNot nodes (IsLocallyAcceptedAt net symbols nodes) (IsRefusedAt net symbols nodes s.fault) i) (sym h.0) (record {
                node = node;
                has = e;
                is_not = (h.2, subst (λ (p : NumberedPolicy). RefusesRules net (numbered_form net node) p symbols s.fault) is_join h.3);
                before = are.accepted refl;
              }))
          refused (Some s) answer are h r f = are.refused r f

      -- too many cells at a node
      pub cells-break : (first : Option NodeRefusal) → HasSoundJoins net symbols nodes → AreAsked net symbols nodes k first → (fault : DelegationFault) → RefusesManyCells net k node join fault → BreaksTree net symbols nodes fault
      cells-break first sound are (Cells place count) h = (
        sound,
        subst (IsFirstNot nodes (HasFewCellsAt net symbols nodes) (λ i n. ¬ HasFewCellsAt net symbols nodes i n)) (sym h.0) (record {
          node = node;
          has = e;
          is_not = λ few. h.1 (subst (HasFewCellsTogether net (numbered_form net node)) (sym is_join) few);
          before = are.cells;
        }),
        h.2,
      )
      cells-break first sound are OutOfMemory h = tt
      cells-break first sound are (Own n f) h = absurd h
      cells-break first sound are (Classes n c) h = absurd h
      cells-break first sound are (ScopeOverlap a b p) h = absurd h
      cells-break first sound are (TooManyStatements n c) h = absurd h
      cells-break first sound are (Joined n f) h = absurd h
      cells-break first sound are (NotAccepted n f) h = absurd h

    -- All nodes were asked.

    pub all-accepted : HasSoundJoins net symbols nodes → AreAsked net symbols nodes (length nodes) None → IsAcceptedTree net symbols nodes
    all-accepted sound are = record {
      few = record { joins = sound; cells = so-at-each (HasFewCellsAt net symbols nodes) nodes (length nodes) (omega arith) are.cells };
      accepted = so-at-each (IsLocallyAcceptedAt net symbols nodes) nodes (length nodes) (omega arith) (are.accepted refl);
    }

    pub refusal-breaks : (refusal : NodeRefusal) → HasSoundJoins net symbols nodes → AreAsked net symbols nodes (length nodes) (Some refusal) → BreaksTree net symbols nodes (NotAccepted refusal.node refusal.fault)
    refusal-breaks refusal sound are = (
      record { joins = sound; cells = so-at-each (HasFewCellsAt net symbols nodes) nodes (length nodes) (omega arith) are.cells },
      are.refused refusal refl,
    )
