-- What the runs of `delegate` leave.
use Rattle.std.proofs.Common.{◌≡◌, ℕ, List, ◌∷◌, refl, sym, subst}
use Rattle.merlin_base.specs.Texts.{joined}
use Rattle.merlin_base.specs.Outside.{Grows}
use Rattle.merlin_base.specs.declared.status.Status.TheVariants as status
use Rattle.delegation_verdict.specs.declared.reply.DelegateReply.{DelegateReply}
use Rattle.delegation_verdict.specs.declared.reply.DelegateReply.TheVariants.{UnreadTree, UnreadScope, UnreadPolicy, UnreadTopology, WrongPolicy, TooManyClasses, SharedScopes, TooManyStatements, WrongJoin, TooManyCells, Wider, Accepted}
use Rattle.delegation_verdict.specs.Lines.{delegate_status}
use Rattle.delegation_verdict.specs.Verdict.{Delegates, HasJudgedTree, IsWholeTree, IsWiderNode}
use Rattle.merlin.specs.Delegate.{DelegateForm, IsDelegateReply, delegate_lines}
use Rattle.merlin.specs.Commands.{Delegating}
use Rattle.merlin.specs.Contents.{AreContentsOf}
use Rattle.merlin.specs.Outcome.{World, Taking}
use Rattle.merlin.specs.Delegations.{HasToldOfTree, HasDelegated, HasFoundWiderNode}

done_refused : {A : Type 0} → status.Done ≡ status.Refused → A
done_refused e = cc

done_no : {A : Type 0} → status.Done ≡ status.RefineNo → A
done_no e = cc

no_refused : {A : Type 0} → status.RefineNo ≡ status.Refused → A
no_refused e = cc

-- Which reply it was, by its status.

-- The reply was this one, and this holds of the texts of the tree, of the topology and of the policies.
record WasTold (contents : List (List ℕ)) (reply known : DelegateReply) (Holds : List ℕ → List ℕ → List (List ℕ) → Type 0) : Type 0 where
  tree : List ℕ
  topology : List ℕ
  policies : List (List ℕ)
  all : contents ≡ tree ∷ topology ∷ policies
  holds : Holds tree topology policies
  is : reply ≡ known

-- what holds of a whole tree, and of one with a node that is not accepted
abbrev IsWhole : ℕ → ℕ → List ℕ → List ℕ → List (List ℕ) → Type 0
IsWhole count statements tree topology policies = HasJudgedTree tree topology policies (λ net nodes. IsWholeTree net nodes count statements)

abbrev IsWider : List ℕ → List ℕ → List ℕ → List ℕ → List (List ℕ) → Type 0
IsWider name text tree topology policies = HasJudgedTree tree topology policies (λ net nodes. IsWiderNode net nodes name text)

was_accepted : (contents : List (List ℕ)) (reply : DelegateReply) → IsDelegateReply contents reply → status.Done ≡ delegate_status reply
    → (count statements : ℕ) × WasTold contents reply (Accepted count statements) (IsWhole count statements)
was_accepted contents (UnreadTree fault) means e = done_refused e
was_accepted contents (UnreadScope node fault) means e = done_refused e
was_accepted contents (UnreadPolicy node fault) means e = done_refused e
was_accepted contents (UnreadTopology fault) means e = done_refused e
was_accepted contents (WrongPolicy node fault) means e = done_refused e
was_accepted contents (TooManyClasses node) means e = done_refused e
was_accepted contents (SharedScopes first second packet) means e = done_refused e
was_accepted contents (TooManyStatements node) means e = done_refused e
was_accepted contents (WrongJoin node fault) means e = done_refused e
was_accepted contents (TooManyCells node) means e = done_refused e
was_accepted contents (Wider node text) means e = done_no e
was_accepted contents (Accepted count statements) (tree, topology, policies, all, holds) e =
    (count, statements, record { tree = tree; topology = topology; policies = policies; all = all; holds = holds; is = refl })

was_wider : (contents : List (List ℕ)) (reply : DelegateReply) → IsDelegateReply contents reply → status.RefineNo ≡ delegate_status reply
    → (node text : List ℕ) × WasTold contents reply (Wider node text) (IsWider node text)
was_wider contents (UnreadTree fault) means e = no_refused e
was_wider contents (UnreadScope node fault) means e = no_refused e
was_wider contents (UnreadPolicy node fault) means e = no_refused e
was_wider contents (UnreadTopology fault) means e = no_refused e
was_wider contents (WrongPolicy node fault) means e = no_refused e
was_wider contents (TooManyClasses node) means e = no_refused e
was_wider contents (SharedScopes first second packet) means e = no_refused e
was_wider contents (TooManyStatements node) means e = no_refused e
was_wider contents (WrongJoin node fault) means e = no_refused e
was_wider contents (TooManyCells node) means e = no_refused e
was_wider contents (Wider node text) (tree, topology, policies, all, holds) e =
    (node, text, record { tree = tree; topology = topology; policies = policies; all = all; holds = holds; is = refl })
was_wider contents (Accepted count statements) means e = done_no (sym e)

-- The same of a run.

module _ (world : World) (sink : Taking) (form : DelegateForm) (contents : List (List ℕ)) (reply : DelegateReply) where
  -- what its files hold
  abbrev AreItsContents : List (List ℕ) → Type 0
  AreItsContents texts = AreContentsOf world.known (record { name = Delegating; request = form }) texts

  told : (known : DelegateReply) (Holds : List ℕ → List ℕ → List (List ℕ) → Type 0) → WasTold contents reply known Holds → AreItsContents contents
      → Grows sink.before sink.after (joined (delegate_lines reply)) → HasToldOfTree world sink form known Holds
  told known Holds was are grows = record {
    tree = was.tree;
    topology = was.topology;
    policies = was.policies;
    are_contents = subst AreItsContents was.all are;
    holds = was.holds;
    written = subst (λ r. Grows sink.before sink.after (joined (delegate_lines r))) was.is grows;
  }

  pub accepted_by : IsDelegateReply contents reply → status.Done ≡ delegate_status reply → AreItsContents contents
      → Grows sink.before sink.after (joined (delegate_lines reply)) → HasDelegated world sink form
  accepted_by means e are grows =
      let was = was_accepted contents reply means e in
      (was.0, was.1, told (Accepted was.0 was.1) (IsWhole was.0 was.1) was.2 are grows)

  pub wider_node_by : IsDelegateReply contents reply → status.RefineNo ≡ delegate_status reply → AreItsContents contents
      → Grows sink.before sink.after (joined (delegate_lines reply)) → HasFoundWiderNode world sink form
  wider_node_by means e are grows =
      let was = was_wider contents reply means e in
      (was.0, was.1, told (Wider was.0 was.1) (IsWider was.0 was.1) was.2 are grows)

-- What is replied to what the files hold is replied to these texts.

of_all : (P : List ℕ → List ℕ → List (List ℕ) → Type 0) (contents : List (List ℕ)) (a b c d : List ℕ) (xs ys : List (List ℕ))
    → contents ≡ a ∷ b ∷ xs → contents ≡ c ∷ d ∷ ys → P c d ys → P a b xs
of_all P contents a b c d xs ys is is' h =
    let first : c ≡ a = cc in
    let second : d ≡ b = cc in
    let rest : ys ≡ xs = cc in
    subst (λ x. P x b xs) first (subst (λ y. P c y xs) second (subst (λ z. P c d z) rest h))

pub delegates : (tree topology : List ℕ) (policies : List (List ℕ)) (reply : DelegateReply) → IsDelegateReply (tree ∷ topology ∷ policies) reply
    → Delegates tree topology policies reply
delegates tree topology policies reply (a, b, xs, is, h) = of_all (λ x y z. Delegates x y z reply) (tree ∷ topology ∷ policies) tree topology a b policies xs refl is h

pub one_status : ((tree topology : List ℕ) (texts : List (List ℕ)) (r s : DelegateReply) → Delegates tree topology texts r → Delegates tree topology texts s
    → delegate_status s ≡ delegate_status r) → (contents : List (List ℕ)) (r s : DelegateReply) → IsDelegateReply contents r → IsDelegateReply contents s
    → delegate_status s ≡ delegate_status r
one_status one contents r s (tree, topology, policies, is, h) (a, b, xs, is', k) =
    one tree topology policies r s h (of_all (λ x y z. Delegates x y z s) contents tree topology a b policies xs is is' k)
