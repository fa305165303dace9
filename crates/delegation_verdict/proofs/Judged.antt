-- Replies to one tree over one network have one status.
use Rattle.std.proofs.Common.{ℕ, ◌≡◌, List, length, sum_by, refl, sym, ◌∙◌, ap₂, arith}
use Rattle.merlin_base.specs.declared.status.Status.TheVariants.{Done, Refused, RefineNo}
use Rattle.merlin_model.specs.Networks.{Network}
use Rattle.merlin_model.specs.declared.policy.Symbol.{Symbol}
use Rattle.topology.specs.Symbols.{network_symbols}
use Rattle.policy_expansion.specs.declared.policy.Policy.{Policy}
use Rattle.policy_check.specs.declared.fault.CheckFault.{CheckFault}
use Rattle.policy_check.specs.declared.fault.CheckFault.TheVariants as check_faults
use Rattle.policy_check.specs.Rules.{KeepsAllRules, BreaksRule}
use Rattle.delegation.specs.declared.node.Node.{Node}
use Rattle.delegation.specs.NamedTrees.{own_join, statement_count}
use Rattle.delegation.specs.TreeRules.{HasFewCells, IsAcceptedTree, IsSoAtEach, IsLocallyAcceptedAt, handed_form, numbered_join}
use Rattle.delegation_verdict.specs.declared.reply.DelegateReply.{DelegateReply}
use Rattle.delegation_verdict.specs.declared.reply.DelegateReply.TheVariants.{UnreadTree, UnreadScope, UnreadPolicy, UnreadTopology, WrongPolicy, TooManyClasses, SharedScopes, TooManyStatements, WrongJoin, TooManyCells, Wider, Accepted}
use Rattle.delegation_verdict.specs.Lines.{delegate_status}
use Rattle.delegation_verdict.specs.Verdict.{IsWiderNode, IsJudged}
use Rattle.delegation_verdict.proofs.Refusing.{KnownSums, no-rule}

done_refused : {A : Type 0} → Done ≡ Refused → A
done_refused e = cc

no_refused : {A : Type 0} → RefineNo ≡ Refused → A
no_refused e = cc

-- What is known of rules, from the laws on them.
pub record KnownRules : Type 0 where
  pub unbroken : (net : Network) (symbols : List Symbol) (raw : Policy) (fault : CheckFault) → KeepsAllRules net symbols raw →
      BreaksRule net symbols raw fault → fault ≡ check_faults.OutOfMemory
  pub sums : KnownSums

module _ (known : KnownRules) (net : Network) (nodes : List Node) where
  abbrev IsAccepted : Type 0
  IsAccepted = IsAcceptedTree net (network_symbols net) nodes

  abbrev HasFew : Type 0
  HasFew = HasFewCells net (network_symbols net) nodes

  -- where all questions before the last are answered yes, the tree is not refused
  few-unrefused : HasFew → (reply : DelegateReply) → delegate_status reply ≡ Refused → IsJudged net nodes reply → ⊥
  few-unrefused few (UnreadTree fault) e h = h
  few-unrefused few (UnreadScope name fault) e h = h
  few-unrefused few (UnreadPolicy name fault) e h = h
  few-unrefused few (UnreadTopology fault) e h = h
  few-unrefused few (WrongPolicy name fault) e h =
      let first = h.breaks in
      let broken = first.is_not in
      broken.0 (known.unbroken net (network_symbols net) first.node.policy fault (few.joins.sizes.parts.scopes.own h.place first.node first.has) broken.1)
  few-unrefused few (TooManyClasses name) e h =
      let first = h.breaks.1 in
      let many = first.is_not.0 in
      let within = few.joins.sizes.parts.scopes.classes h.place first.node first.has in
      omega (arith, many, within)
  few-unrefused few (SharedScopes one other packet) e h =
      let shared = h.breaks.1.least_packet in
      few.joins.sizes.parts.apart h.i h.j packet shared.is_packet shared.has
  few-unrefused few (TooManyStatements name) e h =
      let first = h.breaks.1 in
      let large = first.is_not.large in
      let within = few.joins.sizes.few h.place first.node first.has first.is_not.composition first.is_not.is_composition in
      omega (arith, large, within)
  few-unrefused few (WrongJoin name fault) e h =
      let first = h.breaks.1 in
      let broken = first.is_not in
      broken.0 (known.unbroken net (network_symbols net) (own_join nodes h.place first.node) fault (few.joins.joined h.place first.node first.has) broken.1)
  few-unrefused few (TooManyCells name) e h =
      let first = h.breaks.1 in
      first.is_not (few.cells h.place first.node first.has)
  few-unrefused few (Wider name text) e h = no_refused e
  few-unrefused few (Accepted count statements) e h = done_refused e

  -- the node that is named is not accepted
  not-accepted : (name text : List ℕ) → IsWiderNode net nodes name text → IsSoAtEach nodes (IsLocallyAcceptedAt net (network_symbols net) nodes) → ⊥
  not-accepted name text h each =
      let k = h.refused.place in
      let first = h.refused.breaks.1 in
      let refused = first.is_not in
      no-rule known.sums net (handed_form net (network_symbols net) nodes first.node) (numbered_join net (network_symbols net) nodes k first.node)
      (each k first.node first.has) (network_symbols net) h.fault refused.0 refused.1

  -- The reply is a refusal, or names a node that is not accepted, or says that each is.
  data Verdict (reply : DelegateReply) : Type 0 where
    refused : delegate_status reply ≡ Refused → Verdict reply
    wider : (name text : List ℕ) → IsWiderNode net nodes name text → delegate_status reply ≡ RefineNo → Verdict reply
    accepted : IsAccepted → delegate_status reply ≡ Done → Verdict reply

  verdict : (reply : DelegateReply) → IsJudged net nodes reply → Verdict reply
  verdict (UnreadTree fault) h = absurd h
  verdict (UnreadScope name fault) h = absurd h
  verdict (UnreadPolicy name fault) h = absurd h
  verdict (UnreadTopology fault) h = absurd h
  verdict (WrongPolicy name fault) h = refused refl
  verdict (TooManyClasses name) h = refused refl
  verdict (SharedScopes one other packet) h = refused refl
  verdict (TooManyStatements name) h = refused refl
  verdict (WrongJoin name fault) h = refused refl
  verdict (TooManyCells name) h = refused refl
  verdict (Wider name text) h = wider name text h refl
  verdict (Accepted count statements) h = accepted h.local refl

  one-verdict : (r s : DelegateReply) → IsJudged net nodes r → IsJudged net nodes s → Verdict r → Verdict s → delegate_status s ≡ delegate_status r
  one-verdict r s h k (refused e) (refused f) = f ∙ sym e
  one-verdict r s h k (refused e) (wider name text w f) = absurd (few-unrefused w.refused.breaks.0 r e h)
  one-verdict r s h k (refused e) (accepted a f) = absurd (few-unrefused a.few r e h)
  one-verdict r s h k (wider name text w e) (refused f) = absurd (few-unrefused w.refused.breaks.0 s f k)
  one-verdict r s h k (wider name text w e) (wider other line v f) = f ∙ sym e
  one-verdict r s h k (wider name text w e) (accepted a f) = absurd (not-accepted name text w a.accepted)
  one-verdict r s h k (accepted a e) (refused f) = absurd (few-unrefused a.few s f k)
  one-verdict r s h k (accepted a e) (wider name text w f) = absurd (not-accepted name text w a.accepted)
  one-verdict r s h k (accepted a e) (accepted b f) = f ∙ sym e

  pub one-status : (r s : DelegateReply) → IsJudged net nodes r → IsJudged net nodes s → delegate_status s ≡ delegate_status r
  one-status r s h k = one-verdict r s h k (verdict r h) (verdict s k)

  pub judged-accepted : IsAccepted → (reply : DelegateReply) → IsJudged net nodes reply → reply ≡ Accepted (length nodes) (sum_by (λ n. statement_count n.policy) nodes)
  judged-accepted a (Accepted count statements) h = ap₂ Accepted h.count_is h.statements_are
  judged-accepted a (Wider name text) h = absurd (not-accepted name text h a.accepted)
  judged-accepted a (UnreadTree fault) h = absurd h
  judged-accepted a (UnreadScope name fault) h = absurd h
  judged-accepted a (UnreadPolicy name fault) h = absurd h
  judged-accepted a (UnreadTopology fault) h = absurd h
  judged-accepted a (WrongPolicy name fault) h = absurd (few-unrefused a.few (WrongPolicy name fault) refl h)
  judged-accepted a (TooManyClasses name) h = absurd (few-unrefused a.few (TooManyClasses name) refl h)
  judged-accepted a (SharedScopes one other packet) h = absurd (few-unrefused a.few (SharedScopes one other packet) refl h)
  judged-accepted a (TooManyStatements name) h = absurd (few-unrefused a.few (TooManyStatements name) refl h)
  judged-accepted a (WrongJoin name fault) h = absurd (few-unrefused a.few (WrongJoin name fault) refl h)
  judged-accepted a (TooManyCells name) h = absurd (few-unrefused a.few (TooManyCells name) refl h)

  pub judged-wider : HasFew → (IsSoAtEach nodes (IsLocallyAcceptedAt net (network_symbols net) nodes) → ⊥) → (reply : DelegateReply) → IsJudged net nodes reply → delegate_status reply ≡ RefineNo
  judged-wider few not reply h = by (verdict reply h)
    where
      by : Verdict reply → delegate_status reply ≡ RefineNo
      by (refused e) = absurd (few-unrefused few reply e h)
      by (wider name text w e) = e
      by (accepted a e) = absurd (not a.accepted)

  pub judged-refused : (HasFew → ⊥) → (reply : DelegateReply) → IsJudged net nodes reply → delegate_status reply ≡ Refused
  judged-refused many reply h = by (verdict reply h)
    where
      by : Verdict reply → delegate_status reply ≡ Refused
      by (refused e) = e
      by (wider name text w e) = absurd (many w.refused.breaks.0)
      by (accepted a e) = absurd (many a.few)
