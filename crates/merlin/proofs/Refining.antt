-- What is replied to two policies and a topology, and what the runs of `refine` leave.
use Rattle.std.proofs.Common.{◌≡◌, ◌≢◌, ◌≤◌, ◌↔◌, inl, inr, ℕ, zero, suc, List, [], ◌∷◌, sum_by, slice_get, Contains, Option, Some, Ok, Err, refl, sym, ◌∙◌, ap, subst, arith}
use Rattle.merlin_base.specs.Texts.{joined}
use Rattle.merlin_base.specs.Outside.{Grows}
use Rattle.merlin_base.specs.declared.status.Status.TheVariants as status
use Rattle.merlin_model.specs.declared.policy.Term.{Term}
use Rattle.merlin_model.specs.Networks.{Network}
use Rattle.merlin_model.specs.Policies.{Policy as NumberedPolicy}
use Rattle.merlin_model.specs.Rates.{amount_of, min_of}
use Rattle.merlin_model.proofs.Members.{in_to}
use Rattle.path_automaton.proofs.Building.{get-in}
use Rattle.policy_expansion.specs.declared.policy.Policy.{Policy}
use Rattle.policy_parser.specs.declared.fault.PolicyFault.{PolicyFault}
use Rattle.policy_parser.specs.declared.fault.PolicyFault.TheVariants as faults
use Rattle.policy_parser.specs.Policies.{IsPolicyText, AreOneReading}
use Rattle.policy_parser.proofs.Once.{one_reading}
use Rattle.policy_check.specs.declared.fault.CheckFault.{CheckFault}
use Rattle.policy_check.specs.Numbered.{numbered_policy}
use Rattle.policy_check.specs.Rules.{BreaksRule}
use Rattle.topology.specs.Symbols.{network_symbols}
use Rattle.topology_rules.specs.Faults.{IsTopology, Refuses as IsRefusedTopology}
use Rattle.topology_rules.specs.declared.fault.NetFault.{NetFault}
use Rattle.topology_rules.specs.declared.fault.NetFault.TheVariants as net_faults
use Rattle.refinement_model.specs.Refinement.{Refines as DoesRefine, AreTouching, KeepsCap, KeepsReserve, IsAtMost, sum_of_caps}
use Rattle.negotiator.specs.declared.fault.RefineFault.{RefineFault}
use Rattle.negotiator.specs.declared.fault.RefineFault.TheVariants as refine_faults
use Rattle.negotiator.specs.Amounts.{IsFirstWideCap, IsFirstWideReserve, IsFirstOutside}
use Rattle.negotiator.specs.CellCounts.{HasFewCellsTogether}
use Rattle.negotiator.specs.Refusals.{RefusesRules, RefusesChild, IsRefinement}
use Rattle.refusal_text.specs.Wider.{IsWiderText}
use Rattle.merlin.specs.declared.refine.RefineReply.{RefineReply}
use Rattle.merlin.specs.declared.refine.RefineReply.TheVariants.{UnreadParent, UnreadChild, UnreadTopology, WrongParent, WrongChild, TooManyCells, Wider, Refines}
use Rattle.merlin.specs.Reading.{AreContents}
use Rattle.merlin.specs.Refine.{RefineForm, refine_files, refine_lines, refine_status, AreComparable, HasPolicies, IsWholeRefinement, HasManyCellsTogether, IsWiderBy, IsFaultOfCells, IsFaultReply, IsUnreadPolicy, HasUnreadChild, HasUnreadTopology, HasWrongParent, HasWrongChild, Negotiates, IsRefineReply}
use Rattle.merlin.specs.Outcome.{World, Taking}
use Rattle.merlin.specs.Refinings.{HasNegotiated, HasRefined, HasFoundWider}
use Rattle.policy_configuration.proofs.Kept.{unbroken}

done_refused : {A : Type 0} → status.Done ≡ status.Refused → A
done_refused e = cc

done_no : {A : Type 0} → status.Done ≡ status.RefineNo → A
done_no e = cc

no_refused : {A : Type 0} → status.RefineNo ≡ status.Refused → A
no_refused e = cc

-- Which reply it was, by its status.

-- The reply was this one, and this holds of the texts of the three files.
record WasNegotiated (contents : List (List ℕ)) (reply known : RefineReply) (Holds : List ℕ → List ℕ → List ℕ → Type 0) : Type 0 where
  parent : List ℕ
  child : List ℕ
  topology : List ℕ
  three : contents ≡ parent ∷ child ∷ topology ∷ []
  holds : Holds parent child topology
  is : reply ≡ known

was_refined : (contents : List (List ℕ)) (reply : RefineReply) → IsRefineReply contents reply → status.Done ≡ refine_status reply
    → WasNegotiated contents reply Refines (λ p c t. HasPolicies p c t IsWholeRefinement)
was_refined contents (UnreadParent fault) means e = done_refused e
was_refined contents (UnreadChild fault) means e = done_refused e
was_refined contents (UnreadTopology fault) means e = done_refused e
was_refined contents (WrongParent fault) means e = done_refused e
was_refined contents (WrongChild fault) means e = done_refused e
was_refined contents TooManyCells means e = done_refused e
was_refined contents (Wider text) means e = done_no e
was_refined contents Refines (p, c, t, three, holds) e =
    record { parent = p; child = c; topology = t; three = three; holds = holds; is = refl }

was_wider : (contents : List (List ℕ)) (reply : RefineReply) → IsRefineReply contents reply → status.RefineNo ≡ refine_status reply
    → (text : List ℕ) × WasNegotiated contents reply (Wider text) (λ p c t. HasPolicies p c t (IsWiderBy text))
was_wider contents (UnreadParent fault) means e = no_refused e
was_wider contents (UnreadChild fault) means e = no_refused e
was_wider contents (UnreadTopology fault) means e = no_refused e
was_wider contents (WrongParent fault) means e = no_refused e
was_wider contents (WrongChild fault) means e = no_refused e
was_wider contents TooManyCells means e = no_refused e
was_wider contents (Wider text) (p, c, t, three, holds) e =
    (text, record { parent = p; child = c; topology = t; three = three; holds = holds; is = refl })
was_wider contents Refines means e = done_no (sym e)

-- The same of a run.

module _ (world : World) (sink : Taking) (form : RefineForm) (contents : List (List ℕ)) (reply : RefineReply) where
  negotiated : (known : RefineReply) (Holds : List ℕ → List ℕ → List ℕ → Type 0) → WasNegotiated contents reply known Holds
      → AreContents world.known (refine_files form) contents → Grows sink.before sink.after (joined (refine_lines reply))
      → HasNegotiated world sink form known Holds
  negotiated known Holds was are grows = record {
    parent = was.parent;
    child = was.child;
    topology = was.topology;
    are_contents = subst (AreContents world.known (refine_files form)) was.three are;
    holds = was.holds;
    written = subst (λ r. Grows sink.before sink.after (joined (refine_lines r))) was.is grows;
  }

  pub refined_by : IsRefineReply contents reply → status.Done ≡ refine_status reply
      → AreContents world.known (refine_files form) contents → Grows sink.before sink.after (joined (refine_lines reply))
      → HasRefined world sink form
  refined_by means e are grows = negotiated Refines (λ p c t. HasPolicies p c t IsWholeRefinement) (was_refined contents reply means e) are grows

  pub wider_by : IsRefineReply contents reply → status.RefineNo ≡ refine_status reply
      → AreContents world.known (refine_files form) contents → Grows sink.before sink.after (joined (refine_lines reply))
      → HasFoundWider world sink form
  wider_by means e are grows =
      let was = was_wider contents reply means e in
      (was.0, negotiated (Wider was.0) (λ p c t. HasPolicies p c t (IsWiderBy was.0)) was.1 are grows)

-- What is replied to a fault of refinement is so of texts that can be compared.
module _ (p c t : List ℕ) (net : Network) (parent child : NumberedPolicy) (is : AreComparable p c t net parent child) where
  with_policies : (Holds : Network → NumberedPolicy → NumberedPolicy → Type 0) → Holds net parent child → HasPolicies p c t Holds
  with_policies Holds holds = record { net = net; parent = parent; child = child; comparable = is; holds = holds }

  of_cells : (fault : RefineFault) → RefusesChild net parent child (network_symbols net) fault → IsFaultOfCells fault → HasManyCellsTogether net parent child
  of_cells (refine_faults.TooManyCells count) h told = h.0
  of_cells (refine_faults.PathWider packet word) h told = absurd told
  of_cells (refine_faults.CapWider term sum) h told = absurd told
  of_cells (refine_faults.ReserveWider term sum) h told = absurd told
  of_cells refine_faults.OutOfMemory h told = absurd told

  of_rule : (fault : RefineFault) (text : List ℕ) → RefusesChild net parent child (network_symbols net) fault → IsWiderText net fault text → IsWiderBy text net parent child
  of_rule (refine_faults.TooManyCells count) text h named = absurd named
  of_rule (refine_faults.PathWider packet word) text h named = record { few = h.0; fault = refine_faults.PathWider packet word; fails = h.1; named = named }
  of_rule (refine_faults.CapWider term sum) text h named = record { few = h.0; fault = refine_faults.CapWider term sum; fails = h.1; named = named }
  of_rule (refine_faults.ReserveWider term sum) text h named = record { few = h.0; fault = refine_faults.ReserveWider term sum; fails = h.1; named = named }
  of_rule refine_faults.OutOfMemory text h named = absurd named

  pub fault-replied : (fault : RefineFault) (reply : RefineReply) → RefusesChild net parent child (network_symbols net) fault → IsFaultReply net fault reply → Negotiates p c t reply
  fault-replied fault (UnreadParent f) h told = absurd told
  fault-replied fault (UnreadChild f) h told = absurd told
  fault-replied fault (UnreadTopology f) h told = absurd told
  fault-replied fault (WrongParent f) h told = absurd told
  fault-replied fault (WrongChild f) h told = absurd told
  fault-replied fault TooManyCells h told = with_policies HasManyCellsTogether (of_cells fault h told)
  fault-replied fault (Wider text) h told = with_policies (IsWiderBy text) (of_rule fault text h told)
  fault-replied fault Refines h told = absurd told

-- A text stands for one policy or is refused, and not both.

same_policy : (a b : Policy) → AreOneReading (Ok a) (Ok b) → a ≡ b
same_policy a b (inl e) = cc
same_policy a b (inr (inl e)) = cc
same_policy a b (inr (inr e)) = cc

one_policy : (text : List ℕ) (a b : Policy) → IsPolicyText text a → IsPolicyText text b → a ≡ b
one_policy text a b is is' = same_policy a b (one_reading text (Ok a) (Ok b) is is')

policy_or_fault : (policy : Policy) (fault : PolicyFault) → fault ≢ faults.OutOfMemory → AreOneReading (Ok policy) (Err fault) → ⊥
policy_or_fault policy fault known (inl e) = cc
policy_or_fault policy fault known (inr (inl e)) = let memory : fault ≡ faults.OutOfMemory = cc in known memory
policy_or_fault policy fault known (inr (inr e)) = cc

not_unread : (text : List ℕ) (policy : Policy) (fault : PolicyFault) → IsPolicyText text policy → IsUnreadPolicy text fault → ⊥
not_unread text policy fault is (known, refused) = policy_or_fault policy fault known (one_reading text (Ok policy) (Err fault) is refused)

-- What is known of topologies and of sums, from the laws on them.
pub record KnownLaws : Type 0 where
  pub one : (bytes : List ℕ) (net other : Network) → IsTopology bytes net → IsTopology bytes other → net ≡ other
  pub apart : (bytes : List ℕ) (net : Network) (cause : NetFault) → IsTopology bytes net → IsRefusedTopology cause bytes → cause ≡ net_faults.OutOfMemory
  pub caps : (net : Network) (parent child : NumberedPolicy) (term : Term) (touching : List ℕ) → AreTouching net parent child term touching →
      KeepsCap net parent child term ↔ IsAtMost (sum_of_caps child touching) (amount_of term)
  pub reserves : (net : Network) (parent child : NumberedPolicy) (term : Term) (touching : List ℕ) → AreTouching net parent child term touching →
      KeepsReserve net parent child term ↔ (sum_by (min_of child) touching ≤ amount_of term)

contained : (terms : List Term) (place : ℕ) (term : Term) → slice_get terms place ≡ Some term → Contains terms term
contained terms place term stands = in_to terms term (get-in terms place term stands)

module _ (known : KnownLaws) where
  -- A rule that fails keeps the child from refining its parent.
  module _ (net : Network) (parent child : NumberedPolicy) (refines : DoesRefine net parent child) where
    no_wide_cap : (place : ℕ) (sum : Option ℕ) → IsFirstWideCap net parent child place sum → ⊥
    no_wide_cap place sum first =
        let wide = first.wide in
        let keeps = refines.caps first.term (contained parent.terms place first.term first.stands) wide.is_max in
        let within = (known.caps net parent child first.term wide.touching wide.are_touching).0 keeps in
        wide.wide (subst (λ s. IsAtMost s (amount_of first.term)) (sym wide.sum_is) within)

    no_wide_reserve : (place sum : ℕ) → IsFirstWideReserve net parent child place sum → ⊥
    no_wide_reserve place sum first =
        let wide = first.wide in
        let keeps = refines.reserves first.term (contained parent.terms place first.term first.stands) wide.is_min in
        let within = (known.reserves net parent child first.term wide.touching wide.are_touching).0 keeps in
        let above = wide.wide in
        let is = wide.sum_is in
        omega (arith, within, above, is)

    no_outside : (sum : ℕ) → IsFirstOutside net parent child sum → ⊥
    no_outside sum first = let out = first.outside in out.unreserved (refines.outside first.statement out.touched out.guaranteed out.touches)

    no_fault : (fault : RefineFault) (text : List ℕ) → RefusesRules net parent child (network_symbols net) fault → IsWiderText net fault text → ⊥
    no_fault (refine_faults.TooManyCells count) text h named = named
    no_fault (refine_faults.PathWider packet word) text h named =
        let stray = h.word.stray in
        stray.2 (refines.path packet stray.0 word h.packet.is_packet stray.1)
    no_fault (refine_faults.CapWider zero sum) text (paths, h) named = h
    no_fault (refine_faults.CapWider (suc place) sum) text (paths, h) named = no_wide_cap place sum h
    no_fault (refine_faults.ReserveWider zero sum) text (paths, h) named = no_outside sum h.2
    no_fault (refine_faults.ReserveWider (suc place) sum) text (paths, h) named = no_wide_reserve place sum h.1
    no_fault refine_faults.OutOfMemory text h named = named

    no_wider : (text : List ℕ) → IsWiderBy text net parent child → ⊥
    no_wider text wider = no_fault wider.fault text wider.fails wider.named

  module _ (p c t : List ℕ) where
    -- Texts that can be compared stand for one network and one pair of policies.
    module _ (net : Network) (parent child : NumberedPolicy) (is : AreComparable p c t net parent child) where
      one_parent : (other : Policy) → IsPolicyText p other → other ≡ is.raw_parent
      one_parent other stands = one_policy p other is.raw_parent stands is.read.of_parent

      one_child : (other : Policy) → IsPolicyText c other → other ≡ is.raw_child
      one_child other stands = one_policy c other is.raw_child stands is.read.of_child

      one_net : (other : Network) → IsTopology t other → other ≡ net
      one_net other stands = known.one t other net stands is.read.of_network

      moved : (Holds : Network → NumberedPolicy → NumberedPolicy → Type 0) → HasPolicies p c t Holds → Holds net parent child
      moved Holds h =
          let other = h.comparable in
          let network : h.net ≡ net = one_net h.net other.read.of_network in
          let same_parent : h.parent ≡ parent = other.parent_is ∙ ap (λ n. numbered_policy n other.raw_parent) network ∙ ap (numbered_policy net) (one_parent other.raw_parent other.read.of_parent) ∙ sym is.parent_is in
          let same_child : h.child ≡ child = other.child_is ∙ ap (λ n. numbered_policy n other.raw_child) network ∙ ap (numbered_policy net) (one_child other.raw_child other.read.of_child) ∙ sym is.child_is in
          subst (λ n. Holds n parent child) network (subst (λ a. Holds h.net a child) same_parent (subst (λ b. Holds h.net h.parent b) same_child h.holds))

      broken_here : (n : Network) (raw known_raw : Policy) (fault : CheckFault) → IsTopology t n → raw ≡ known_raw → BreaksRule n (network_symbols n) raw fault → BreaksRule net (network_symbols net) known_raw fault
      broken_here n raw known_raw fault stands e breaks =
          subst (λ m. BreaksRule m (network_symbols m) known_raw fault) (one_net n stands) (subst (λ r. BreaksRule n (network_symbols n) r fault) e breaks)

      no_unread_parent : (fault : PolicyFault) → IsUnreadPolicy p fault → ⊥
      no_unread_parent fault h = not_unread p is.raw_parent fault is.read.of_parent h

      no_unread_child : (fault : PolicyFault) → HasUnreadChild p c fault → ⊥
      no_unread_child fault h = not_unread c is.raw_child fault is.read.of_child h.unread

      no_unread_topology : (fault : NetFault) → HasUnreadTopology p c t fault → ⊥
      no_unread_topology fault h = h.known (known.apart t net fault is.read.of_network h.refused)

      no_wrong_parent : (fault : CheckFault) → HasWrongParent p c t fault → ⊥
      no_wrong_parent fault h =
          let told = h.broken in
          let here = broken_here h.net h.parent is.raw_parent fault h.read.of_network (one_parent h.parent h.read.of_parent) told.1 in
          told.0 (unbroken net (network_symbols net) is.raw_parent is.parent_keeps fault here)

      no_wrong_child : (fault : CheckFault) → HasWrongChild p c t fault → ⊥
      no_wrong_child fault h =
          let told = h.broken in
          let here = broken_here h.net h.child is.raw_child fault h.read.of_network (one_child h.child h.read.of_child) told.1 in
          told.0 (unbroken net (network_symbols net) is.raw_child is.child_keeps fault here)

      Negotiates-refines : IsRefinement net parent child → (reply : RefineReply) → Negotiates p c t reply → reply ≡ Refines
      Negotiates-refines k (UnreadParent fault) h = absurd (no_unread_parent fault h)
      Negotiates-refines k (UnreadChild fault) h = absurd (no_unread_child fault h)
      Negotiates-refines k (UnreadTopology fault) h = absurd (no_unread_topology fault h)
      Negotiates-refines k (WrongParent fault) h = absurd (no_wrong_parent fault h)
      Negotiates-refines k (WrongChild fault) h = absurd (no_wrong_child fault h)
      Negotiates-refines k TooManyCells h = absurd (moved HasManyCellsTogether h k.few)
      Negotiates-refines k (Wider text) h = absurd (no_wider net parent child k.refines text (moved (IsWiderBy text) h))
      Negotiates-refines k Refines h = refl

      Negotiates-wider : HasFewCellsTogether net parent child → (¬ DoesRefine net parent child) → (reply : RefineReply) → Negotiates p c t reply
          → refine_status reply ≡ status.RefineNo
      Negotiates-wider few not (UnreadParent fault) h = absurd (no_unread_parent fault h)
      Negotiates-wider few not (UnreadChild fault) h = absurd (no_unread_child fault h)
      Negotiates-wider few not (UnreadTopology fault) h = absurd (no_unread_topology fault h)
      Negotiates-wider few not (WrongParent fault) h = absurd (no_wrong_parent fault h)
      Negotiates-wider few not (WrongChild fault) h = absurd (no_wrong_child fault h)
      Negotiates-wider few not TooManyCells h = absurd (moved HasManyCellsTogether h few)
      Negotiates-wider few not (Wider text) h = refl
      Negotiates-wider few not Refines h = let whole = moved IsWholeRefinement h in absurd (not whole.refinement.refines)

      Negotiates-cells : HasManyCellsTogether net parent child → (reply : RefineReply) → Negotiates p c t reply → reply ≡ TooManyCells
      Negotiates-cells many (UnreadParent fault) h = absurd (no_unread_parent fault h)
      Negotiates-cells many (UnreadChild fault) h = absurd (no_unread_child fault h)
      Negotiates-cells many (UnreadTopology fault) h = absurd (no_unread_topology fault h)
      Negotiates-cells many (WrongParent fault) h = absurd (no_wrong_parent fault h)
      Negotiates-cells many (WrongChild fault) h = absurd (no_wrong_child fault h)
      Negotiates-cells many TooManyCells h = refl
      Negotiates-cells many (Wider text) h = let wider = moved (IsWiderBy text) h in absurd (many wider.few)
      Negotiates-cells many Refines h = let whole = moved IsWholeRefinement h in absurd (many whole.refinement.few)

    -- where texts can't be compared, each reply is a refusal
    stays_refused : ((net : Network) (parent child : NumberedPolicy) → AreComparable p c t net parent child → ⊥) → (reply : RefineReply) → Negotiates p c t reply
        → refine_status reply ≡ status.Refused
    stays_refused never (UnreadParent fault) h = refl
    stays_refused never (UnreadChild fault) h = refl
    stays_refused never (UnreadTopology fault) h = refl
    stays_refused never (WrongParent fault) h = refl
    stays_refused never (WrongChild fault) h = refl
    stays_refused never TooManyCells h = refl
    stays_refused never (Wider text) h = absurd (never h.net h.parent h.child h.comparable)
    stays_refused never Refines h = absurd (never h.net h.parent h.child h.comparable)

    Negotiates-one : (r s : RefineReply) → Negotiates p c t r → Negotiates p c t s → refine_status s ≡ refine_status r
    Negotiates-one (UnreadParent fault) s h k = stays_refused (λ n a b is. no_unread_parent n a b is fault h) s k
    Negotiates-one (UnreadChild fault) s h k = stays_refused (λ n a b is. no_unread_child n a b is fault h) s k
    Negotiates-one (UnreadTopology fault) s h k = stays_refused (λ n a b is. no_unread_topology n a b is fault h) s k
    Negotiates-one (WrongParent fault) s h k = stays_refused (λ n a b is. no_wrong_parent n a b is fault h) s k
    Negotiates-one (WrongChild fault) s h k = stays_refused (λ n a b is. no_wrong_child n a b is fault h) s k
    Negotiates-one TooManyCells s h k = ap refine_status (Negotiates-cells h.net h.parent h.child h.comparable h.holds s k)
    Negotiates-one (Wider text) s h k =
        Negotiates-wider h.net h.parent h.child h.comparable h.holds.few (λ refines. no_wider h.net h.parent h.child refines text h.holds) s k
    Negotiates-one Refines s h k = ap refine_status (Negotiates-refines h.net h.parent h.child h.comparable h.holds.refinement s k)

  -- the same of what the files hold

  of_three : (P : List ℕ → List ℕ → List ℕ → Type 0) (contents : List (List ℕ)) (a b c d e f : List ℕ)
      → contents ≡ a ∷ b ∷ c ∷ [] → contents ≡ d ∷ e ∷ f ∷ [] → P d e f → P a b c
  of_three P contents a b c d e f is is' h =
      let first : d ≡ a = cc in
      let second : e ≡ b = cc in
      let third : f ≡ c = cc in
      subst (λ x. P x b c) first (subst (λ y. P d y c) second (subst (λ z. P d e z) third h))

  negotiates : (p c t : List ℕ) (reply : RefineReply) → IsRefineReply (p ∷ c ∷ t ∷ []) reply → Negotiates p c t reply
  negotiates p c t reply (a, b, d, is, h) = of_three (λ x y z. Negotiates x y z reply) (p ∷ c ∷ t ∷ []) p c t a b d refl is h

  pub IsRefineReply-refines : (p c t : List ℕ) (net : Network) (parent child : NumberedPolicy) (reply : RefineReply) → AreComparable p c t net parent child
      → IsRefinement net parent child → IsRefineReply (p ∷ c ∷ t ∷ []) reply → reply ≡ Refines
  IsRefineReply-refines p c t net parent child reply is k h = Negotiates-refines p c t net parent child is k reply (negotiates p c t reply h)

  pub IsRefineReply-wider : (p c t : List ℕ) (net : Network) (parent child : NumberedPolicy) (reply : RefineReply) → AreComparable p c t net parent child
      → HasFewCellsTogether net parent child → (¬ DoesRefine net parent child) → IsRefineReply (p ∷ c ∷ t ∷ []) reply → refine_status reply ≡ status.RefineNo
  IsRefineReply-wider p c t net parent child reply is few not h = Negotiates-wider p c t net parent child is few not reply (negotiates p c t reply h)

  pub IsRefineReply-cells : (p c t : List ℕ) (net : Network) (parent child : NumberedPolicy) (reply : RefineReply) → AreComparable p c t net parent child
      → HasManyCellsTogether net parent child → IsRefineReply (p ∷ c ∷ t ∷ []) reply → reply ≡ TooManyCells
  IsRefineReply-cells p c t net parent child reply is many h = Negotiates-cells p c t net parent child is many reply (negotiates p c t reply h)

  pub IsRefineReply-one : (contents : List (List ℕ)) (r s : RefineReply) → IsRefineReply contents r → IsRefineReply contents s
      → refine_status s ≡ refine_status r
  IsRefineReply-one contents r s (p, c, t, is, h) (a, b, d, is', k) =
      Negotiates-one p c t r s h (of_three (λ x y z. Negotiates x y z s) contents p c t a b d is is' k)
