-- Each state that words reach is among the states of a path.
use Rattle.std.proofs.Common.{◌≡◌, ◌≤◌, ℕ, List, [], ◌∷◌, length, Contains, refl, sym, subst, arith}
use Rattle.std.specs.List.{flat_map}
use Rattle.merlin_model.specs.declared.policy.Symbol.{Symbol}
use Rattle.merlin_model.specs.declared.policy.Path.{Path}
use Rattle.merlin_model.proofs.Members.{In, in_from, map_in, flat_map_in, all_in}
use Rattle.path_regex.specs.Normal.{normal_of}
use Rattle.path_regex.specs.Derivatives.{derivative_of}
use Rattle.path_regex.specs.States.{rest_after}
use Rattle.path_automaton.specs.States.{IsMadeOf, IsReached, with_all_new, followers, AreStates, HasStates}
use Rattle.path_automaton.specs.declared.exploring.TheConstants.{MAX_STATES}
use Rattle.path_automaton.proofs.Noting.{with_all_new-keeps, with_all_new-place}
use Rattle.configuration_model.proofs.Lists.{at-in, in-at}
use Rattle.policy_check.specs.Rules.{HasFewStates}
use Rattle.policy_configuration.proofs.Few.{few-different}

module _ (symbols : List Symbol) (path : Path) (forms : List Path) (are : AreStates path symbols forms) where
  abbrev all_followers : List Path
  all_followers = flat_map (followers symbols) forms

  abbrev first : List Path
  first = normal_of path ∷ []

  noted : (k : ℕ) (a : Path) → In a (with_all_new first all_followers) → In a forms
  noted k a i = subst (In a) (sym are.in_order) i

  begins : In (normal_of path) forms
  begins = noted 0 (normal_of path) (at-in (with_all_new first all_followers) 0 (normal_of path) (with_all_new-keeps first all_followers 0 (normal_of path) refl))

  stays : (form : Path) (x : Symbol) → In form forms → Contains symbols x → In (derivative_of form x) forms
  stays form x i c =
      let follows = map_in (λ y. derivative_of form y) symbols x (in_from symbols x c) in
      let at = in-at all_followers (derivative_of form x) (flat_map_in (followers symbols) forms form (derivative_of form x) i follows) in
      let found = with_all_new-place first all_followers at.0 (derivative_of form x) at.1 in
      noted found.0 (derivative_of form x) (at-in (with_all_new first all_followers) found.0 (derivative_of form x) found.1)

  leads : (w : List Symbol) (form : Path) → In form forms → IsMadeOf symbols w → In (rest_after form w) forms
  leads [] form i h = i
  leads (x ∷ w) form i h = leads w (derivative_of form x) (stays form x i h.0) h.1

  pub reached-in : (form : Path) → IsReached path symbols form → In form forms
  reached-in form h = subst (λ a. In a forms) (sym h.2) (leads h.0 (normal_of path) begins h.1)

-- a path with few states has not many
pub not-many : (symbols : List Symbol) (path : Path) (count : ℕ) → HasFewStates symbols path → HasStates path symbols count → count ≤ MAX_STATES
not-many symbols path count f h =
    let few = few-different h.forms f.forms h.different (λ a i. reached-in symbols path f.forms f.states a (all_in (IsReached path symbols) h.forms a h.reached i)) in
    let within = f.few in
    let many = h.many in
    by (length h.forms) (length f.forms) few within many
  where
    by : (m n : ℕ) → m ≤ n → n ≤ MAX_STATES → count ≡ m → count ≤ MAX_STATES
    by m n few within many = omega (arith, few, within, many)
