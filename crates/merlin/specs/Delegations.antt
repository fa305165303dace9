-- What the runs of `delegate` leave, by their status.
use Rattle.std.specs.Prelude.{ℕ, List, ◌∷◌}
use Rattle.merlin_base.specs.Texts.{joined}
use Rattle.merlin_base.specs.Outside.{Grows}
use Rattle.delegation_verdict.specs.declared.reply.DelegateReply.{DelegateReply}
use Rattle.delegation_verdict.specs.declared.reply.DelegateReply.TheVariants.{Wider, Accepted}
use Rattle.delegation_verdict.specs.Verdict.{HasJudgedTree, IsWholeTree, IsWiderNode}
use Rattle.merlin.specs.Delegate.{DelegateForm, delegate_lines}
use Rattle.merlin.specs.Commands.{Delegating}
use Rattle.merlin.specs.Contents.{AreContentsOf}
use Rattle.merlin.specs.Outcome.{World, Taking}

-- The sink took the line of this reply, and this holds of the texts of the tree, of the topology, and
-- of the policies that the tree names.
pub record HasToldOfTree (world : World) (sink : Taking) (form : DelegateForm)
    (reply : DelegateReply) (Holds : List ℕ → List ℕ → List (List ℕ) → Type 0) : Type 0 where
  pub tree : List ℕ
  pub topology : List ℕ
  pub policies : List (List ℕ)
  pub are_contents : AreContentsOf world.known (record { name = Delegating; request = form })
      (tree ∷ topology ∷ policies)
  pub holds : Holds tree topology policies
  pub written : Grows sink.before sink.after (joined (delegate_lines reply))

-- The sink took the one line, and each node is accepted with all that lies below it, so that the
-- composition of the first node refines what it was handed.
abbrev pub HasDelegated : World → Taking → DelegateForm → Type 0
HasDelegated world sink form = (count statements : ℕ)
    × HasToldOfTree world sink form (Accepted count statements) (λ tree topology policies.
    HasJudgedTree tree topology policies (λ net nodes. IsWholeTree net nodes count statements))

-- The sink took the one line of the first node that is not accepted, and of the first rule of
-- refinement that fails there.
abbrev pub HasFoundWiderNode : World → Taking → DelegateForm → Type 0
HasFoundWiderNode world sink form = (name text : List ℕ)
    × HasToldOfTree world sink form (Wider name text) (λ tree topology policies.
    HasJudgedTree tree topology policies (λ net nodes. IsWiderNode net nodes name text))
