-- From vertex to vertex at one location, up to the one where a frame goes on.
use Rattle.std.proofs.Common.{◌≡◌, ℕ, ◌≤◌, ◌+◌, ◌==◌, true, false, cond, List, [], ◌∷◌, ◌++◌, append_assoc, append-nil, length, Option, None, Some, refl, sym, ◌∙◌, ap, subst, arith}
use Rattle.std.proofs.lemmas.Bool.{eqb-true}
use Rattle.merlin_model.specs.Words.{functions_of}
use Rattle.rules_model.specs.Products.{Vertex, loc_of}
use Rattle.rules_model.specs.Tables.{functions_here, onward}
use Rattle.rule_tables.specs.declared.branches.Step.{Step}
use Rattle.rule_tables.specs.declared.hops.Onward.{Onward}
use Rattle.rule_tables.specs.Branches.{vertex_at, next_step_at, LeadsOn}
use Rattle.rule_tables.specs.Hops.{stands_at, functions_in, IsOnwardPlace, IsOnwardFrom}
use Rattle.rule_tables.proofs.Leading.{some-same, none-some, leads-short}

-- Vertex w at a place, which ws follow, is at the location of the start; the functions of those before it were collected.
pub record IsGoing (steps : List Step) (loc : ℕ) (v : Vertex) (us : List Vertex) (place i : ℕ) (functions : List ℕ) : Type 0 where
  pub w : Vertex
  pub ws : List Vertex
  pub stands : vertex_at steps place ≡ Some w
  pub leads : LeadsOn steps place ws
  pub here : loc_of w ≡ loc
  pub collected : functions ++ (functions_of w.symbol ++ functions_here loc ws) ≡ functions_of v.symbol ++ functions_here loc us
  pub onward_is : onward loc ws ≡ onward loc us
  pub left : length ws + i ≤ length us

-- so it is from the start
abbrev pub AreGoing : List Step → ℕ → ℕ → ℕ → ℕ → List ℕ → Type 0
AreGoing steps start loc place i functions =
    (v : Vertex) (us : List Vertex) → vertex_at steps start ≡ Some v → LeadsOn steps start us → v.symbol.loc ≡ loc → IsGoing steps loc v us place i functions

pub going-start : (steps : List Step) (start loc : ℕ) (functions : List ℕ) → functions ≡ [] → AreGoing steps start loc start 0 functions
going-start steps start loc functions none = λ v us stands leads here. record {
  w = v;
  ws = us;
  stands = stands;
  leads = leads;
  here = here;
  collected = ap (λ fs. fs ++ (functions_of v.symbol ++ functions_here loc us)) none;
  onward_is = refl;
  left = omega arith;
}

module _ (steps : List Step) (loc : ℕ) (v : Vertex) (us : List Vertex) (place i : ℕ) (functions : List ℕ) (going : IsGoing steps loc v us place i functions) where
  pub going-over : (start : ℕ) → LeadsOn steps start us → length steps ≤ i → ⊥
  going-over start leads le =
      let lt = leads-short steps start us leads in
      let left = going.left in
      omega arith

  module _ (more : List ℕ) (added : more ≡ functions ++ functions_in (vertex_at steps place)) where
    whole : more ≡ functions ++ functions_of going.w.symbol
    whole = added ∙ ap (λ o. functions ++ functions_in o) going.stands

    abbrev Collected : List Vertex → Type 0
    Collected ws = functions ++ (functions_of going.w.symbol ++ functions_here loc ws) ≡ functions_of v.symbol ++ functions_here loc us

    place-next : (n : ℕ) → next_step_at steps place ≡ Some (Some n) → (u : Vertex) (rest : List Vertex) (leads : LeadsOn steps place (u ∷ rest)) → (vertex_at steps n ≡ Some u) × LeadsOn steps n rest
    place-next n next u rest leads =
        let same : leads.0 ≡ n = some-same (some-same (sym leads.1 ∙ next)) in
        (ap (vertex_at steps) (sym same) ∙ leads.2, subst (λ k. LeadsOn steps k rest) same leads.3)

    -- the next vertex is at the location too
    pub going-more : (n : ℕ) → next_step_at steps place ≡ Some (Some n) → stands_at (vertex_at steps n) loc ≡ true → IsGoing steps loc v us n (i + 1) more
    going-more n next is = by going.ws going.leads going.collected going.onward_is going.left
      where
        by : (ws : List Vertex) → LeadsOn steps place ws → Collected ws → onward loc ws ≡ onward loc us → length ws + i ≤ length us → IsGoing steps loc v us n (i + 1) more
        by [] leads collected on left = absurd (none-some (some-same (sym leads ∙ next)))
        by (u ∷ rest) leads collected on left =
            let m = place-next n next u rest leads in
            let here : (loc_of u == loc) ≡ true = ap (λ o. stands_at o loc) (sym m.0) ∙ is in
            record {
              w = u;
              ws = rest;
              stands = m.0;
              leads = m.1;
              here = eqb-true (loc_of u) loc here;
              collected =
                  ap (λ fs. fs ++ (functions_of u.symbol ++ functions_here loc rest)) whole
                  ∙ append_assoc functions (functions_of going.w.symbol) (functions_of u.symbol ++ functions_here loc rest)
                  ∙ ap (λ b. functions ++ (functions_of going.w.symbol ++ cond b (functions_of u.symbol ++ functions_here loc rest) [])) (sym here)
                  ∙ collected;
              onward_is = ap (λ b. cond b (onward loc rest) (Some (u, rest))) (sym here) ∙ on;
              left = omega arith;
            }

    -- the frame goes on: the next vertex is elsewhere, or the end
    going-stop : (next : Option ℕ) → ((m : Option ℕ) → next_step_at steps place ≡ Some m → next ≡ m) → ((n : ℕ) → next_step_at steps place ≡ Some (Some n) → stands_at (vertex_at steps n) loc ≡ false) →
        (more ≡ functions_of v.symbol ++ functions_here loc us) × IsOnwardPlace steps (onward loc us) next
    going-stop next is off = by going.ws going.leads going.collected going.onward_is
      where
        alone : functions_here loc [] ≡ []
        alone = refl

        by : (ws : List Vertex) → LeadsOn steps place ws → Collected ws → onward loc ws ≡ onward loc us → (more ≡ functions_of v.symbol ++ functions_here loc us) × IsOnwardPlace steps (onward loc us) next
        by [] leads collected on = (
          whole ∙ ap (λ fs. functions ++ fs) (sym (append-nil (functions_of going.w.symbol))) ∙ collected,
          subst (λ o. IsOnwardPlace steps o next) on (subst (IsOnwardPlace steps None) (sym (is None leads)) tt),
        )
        by (u ∷ rest) leads collected on =
            let other : (loc_of u == loc) ≡ false = ap (λ o. stands_at o loc) (sym leads.2) ∙ off leads.0 leads.1 in (
              whole
                  ∙ ap (λ fs. functions ++ fs) (sym (append-nil (functions_of going.w.symbol)))
                  ∙ ap (λ b. functions ++ (functions_of going.w.symbol ++ cond b (functions_of u.symbol ++ functions_here loc rest) [])) (sym other)
                  ∙ collected,
              subst (λ o. IsOnwardPlace steps o next) (ap (λ b. cond b (onward loc rest) (Some (u, rest))) (sym other) ∙ on)
                  (subst (IsOnwardPlace steps (Some (u, rest))) (sym (is (Some leads.0) leads.1)) leads.2),
            )

    pub onward-is : v.symbol.loc ≡ loc → (o : Onward) → o.functions ≡ more → ((m : Option ℕ) → next_step_at steps place ≡ Some m → o.next ≡ m) → ((n : ℕ) → next_step_at steps place ≡ Some (Some n) → stands_at (vertex_at steps n) loc ≡ false) → IsOnwardFrom steps v us o
    onward-is here o functions_are is off =
        let m = going-stop o.next is off in
        (functions_are ∙ m.0 ∙ ap (λ l. functions_of v.symbol ++ functions_here l us) (sym here), subst (λ l. IsOnwardPlace steps (onward l us) o.next) (sym here) m.1)
