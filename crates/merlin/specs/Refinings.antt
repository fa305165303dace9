-- What the runs of `refine` leave, by their status.
use Rattle.std.specs.Prelude.{ℕ, List, [], ◌∷◌}
use Rattle.merlin_base.specs.Texts.{joined}
use Rattle.merlin_base.specs.Outside.{Grows}
use Rattle.merlin.specs.declared.refine.RefineReply.{RefineReply}
use Rattle.merlin.specs.declared.refine.RefineReply.TheVariants.{Wider, Refines}
use Rattle.merlin.specs.Reading.{AreContents}
use Rattle.merlin.specs.Refine.{RefineForm, refine_files, refine_lines, HasPolicies, IsWholeRefinement, IsWiderBy}
use Rattle.merlin.specs.Outcome.{World, Taking}

-- The sink took the lines of this reply, and this holds of the texts of the three files.
pub record HasNegotiated (world : World) (sink : Taking) (form : RefineForm) (reply : RefineReply)
    (Holds : List ℕ → List ℕ → List ℕ → Type 0) : Type 0 where
  pub parent : List ℕ
  pub child : List ℕ
  pub topology : List ℕ
  pub are_contents : AreContents world.known (refine_files form) (parent ∷ child ∷ topology ∷ [])
  pub holds : Holds parent child topology
  pub written : Grows sink.before sink.after (joined (refine_lines reply))

-- The sink took the one line, and the child's policy refines the parent's: it allows nothing that
-- the parent's does not, and the traffic that it allows keeps the parent's terms.
abbrev pub HasRefined : World → Taking → RefineForm → Type 0
HasRefined world sink form =
    HasNegotiated world sink form Refines (λ p c t. HasPolicies p c t IsWholeRefinement)

-- The sink took the one line of the first rule of refinement that fails.
abbrev pub HasFoundWider : World → Taking → RefineForm → Type 0
HasFoundWider world sink form = (text : List ℕ)
    × HasNegotiated world sink form (Wider text) (λ p c t. HasPolicies p c t (IsWiderBy text))
