-- The localised form of a policy that keeps all rules keeps them too, and what keeps all rules is not refused.
use Rattle.std.proofs.Common.{◌≡◌, ◌≤◌, ◌+◌, ◌||◌, ◌&&◌, ℕ, zero, suc, nat_lt, Bool, true, false, not, cond, List, [], ◌∷◌, ◌++◌, map, filter, Option, None, Some, option_map, unwrap_or, slice_get, refl, sym, ◌∙◌, ap, ap₂, subst, arith}
use Rattle.std.specs.Prelude.{bytes_eq}
use Rattle.std.specs.List.{AllByRecursion, enumerate_from, cons_option}
use Rattle.std.specs.Option.{option_to_list}
use Rattle.std.proofs.lemmas.Bool.{le-ltb}
use Rattle.std.proofs.lemmas.Option.{slice_get-map}
use Rattle.std.proofs.lemmas.Slice.Eq.{bytes_eq-Decides}
use Rattle.merlin_model.specs.declared.policy.Bound.{Bound}
use Rattle.merlin_model.specs.declared.policy.Bound.TheVariants.{Max, Min}
use Rattle.merlin_model.specs.declared.policy.Symbol.{Symbol}
use Rattle.merlin_model.specs.declared.policy.Term.{Term}
use Rattle.merlin_model.specs.Networks.{Network, AreDifferent}
use Rattle.merlin_model.specs.Policies.{Policy as NumberedPolicy}
use Rattle.merlin_model.specs.Rates.{ids_of, is_max, max_of, min_of}
use Rattle.merlin_model.proofs.Members.{all_both}
use Rattle.localise.specs.declared.fault.RateFault.{RateFault}
use Rattle.localise.specs.declared.fault.RateFault.TheVariants.{UnknownId, RepeatedId, ConstantTooLarge}
use Rattle.localise.specs.Localised.{max_for, min_for}
use Rattle.localise.specs.Faults.{is_among, unknown_in, unknown_ids, repeats_in, repeated_ids, has_large_constants, conflict_of, conflicts_among, faults}
use Rattle.localise.proofs.Clear.{clear_from}
use Rattle.path_automaton.specs.declared.exploring.TheConstants.{MAX_STATES}
use Rattle.policy_expansion.specs.declared.policy.Statement.{Statement}
use Rattle.policy_expansion.specs.declared.policy.Policy.{Policy}
use Rattle.policy_expansion.specs.Kept.{IsExpanded}
use Rattle.policy_check.specs.declared.fault.CheckFault.{CheckFault}
use Rattle.policy_check.specs.declared.fault.CheckFault.TheVariants.{UnknownName, FunctionUnderNot, TooManyClasses, Overlap, NotTotal, Rate, TooManyStates, OutOfMemory}
use Rattle.policy_check.specs.Numbered.{numbered_statement, numbered_policy}
use Rattle.policy_check.specs.Rules.{listed_ids, HasFewStates, numbered_paths_of, KeepsAllRules, BreaksRule}
use Rattle.refinement_model.specs.Localised.{localised_term}
use Rattle.refinement_model.proofs.Rates.{localised-max, localised-min}
use Rattle.delegation.specs.declared.rating.RatedStatement.{RatedStatement}
use Rattle.delegation.specs.NamedJoins.{rated_statement, rated_policy, rate_terms, written_policy}
use Rattle.delegation.proofs.Own.{all-at}
use Rattle.delegation.proofs.Numbered.{numbered-form}
use Rattle.delegation.proofs.Acceptance.{None-Some, each-mapped, map-twice}
use Rattle.delegation.proofs.Formed.{flat-all, most-at, least-at}
use Rattle.delegation.proofs.FewStates.{not-many}

-- Terms of one known id each have no fault by themselves.

pub record IsOfOne (ids : List (List ℕ)) (term : Term) : Type 0 where
  pub bound : Bound
  pub id : List ℕ
  pub rate : ℕ
  pub is : term ≡ localised_term bound id rate
  pub known : is_among ids id ≡ true

one-known : (ids : List (List ℕ)) (term : Term) → IsOfOne ids term → unknown_in (is_among ids) term ≡ []
one-known ids term h = ap (unknown_in (is_among ids)) h.is ∙ ap (λ b. cond (not b) (h.id ∷ []) []) h.known

none-unknown : (ids : List (List ℕ)) (terms : List Term) → AllByRecursion (IsOfOne ids) terms → unknown_ids (is_among ids) terms ≡ []
none-unknown ids [] h = refl
none-unknown ids (term ∷ terms) h = ap₂ (λ (a b : List (List ℕ)). a ++ b) (one-known ids term h.0) (none-unknown ids terms h.1)

none-repeated : (ids : List (List ℕ)) (terms : List Term) → AllByRecursion (IsOfOne ids) terms → repeated_ids terms ≡ []
none-repeated ids [] h = refl
none-repeated ids (term ∷ terms) h = ap₂ (λ (a b : List (List ℕ)). a ++ b) (ap (λ t. repeats_in (ids_of t)) h.0.is) (none-repeated ids terms h.1)

not-large : (ids : List (List ℕ)) (term : Term) → IsOfOne ids term → has_large_constants term ≡ false
not-large ids term h = ap has_large_constants h.is ∙ by (is_max h.bound) (nat_lt h.rate 0) (le-ltb h.rate 0 (omega arith))
  where
    by : (b c : Bool) → c ≡ false → (b && c) ≡ false
    by true c e = e
    by false c e = refl

none-large : (ids : List (List ℕ)) (terms : List Term) (n : ℕ) → AllByRecursion (IsOfOne ids) terms → map (λ t. t.0) (filter (λ (t : ℕ × Term). has_large_constants t.1) (enumerate_from n terms)) ≡ []
none-large ids [] n h = refl
none-large ids (term ∷ terms) n h =
    ap (λ b. map (λ (t : ℕ × Term). t.0) (cond b ((n, term) ∷ filter (λ t. has_large_constants t.1) (enumerate_from (n + 1) terms)) (filter (λ t. has_large_constants t.1) (enumerate_from (n + 1) terms)))) (not-large ids term h.0)
    ∙ none-large ids terms (n + 1) h.1

same-conflicts : (least most : List ℕ → ℕ) (cap other : List ℕ → Option ℕ) (ids : List (List ℕ)) → ((i : ℕ) (id : List ℕ) → slice_get ids i ≡ Some id → (least id ≡ most id) × (cap id ≡ other id)) →
    conflicts_among least cap ids ≡ conflicts_among most other ids
same-conflicts least most cap other [] h = refl
same-conflicts least most cap other (id ∷ ids) h =
    ap₂ (λ (o : Option RateFault) (l : List RateFault). cons_option o l) (ap₂ (λ n o. conflict_of id n o) (h 0 id refl).0 (h 0 id refl).1) (same-conflicts least most cap other ids (λ i x e. h (suc i) x e))

no-faults : (terms : List Term) (ids : List (List ℕ)) → AllByRecursion (IsOfOne ids) terms → conflicts_among (min_for terms) (max_for terms) ids ≡ [] → faults terms ids ≡ []
no-faults terms ids h none =
    ap₂ (λ (a b : List RateFault). a ++ b) (ap (map UnknownId) (none-unknown ids terms h))
    (ap₂ (λ (a b : List RateFault). a ++ b) (ap (map RepeatedId) (none-repeated ids terms h)) (ap₂ (λ (a b : List RateFault). a ++ b) (ap (map ConstantTooLarge) (none-large ids terms 1 h)) none))

among-at : (ids : List (List ℕ)) (i : ℕ) (id : List ℕ) → slice_get ids i ≡ Some id → is_among ids id ≡ true
among-at [] i id e = absurd (None-Some e)
among-at (x ∷ ids) zero id e = ap (λ b. b || is_among ids id) ((bytes_eq-Decides x id).1 (ap (λ o. unwrap_or o x) e))
among-at (x ∷ ids) (suc i) id e = by (bytes_eq x id) (among-at ids i id e)
  where
    by : (b : Bool) → is_among ids id ≡ true → (b || is_among ids id) ≡ true
    by true h = refl
    by false h = h

of-one : (ids : List (List ℕ)) (r : RatedStatement) → is_among ids r.statement.id ≡ true → AllByRecursion (IsOfOne ids) (rate_terms r)
of-one ids r known = all_both (IsOfOne ids) (option_to_list (option_map (localised_term Max r.statement.id) r.cap)) (cond (nat_lt 0 r.guarantee) (localised_term Min r.statement.id r.guarantee ∷ []) []) (caps r.cap) (guarantees (nat_lt 0 r.guarantee))
  where
    one : (bound : Bound) (rate : ℕ) → IsOfOne ids (localised_term bound r.statement.id rate)
    one bound rate = record { bound = bound; id = r.statement.id; rate = rate; is = refl; known = known }

    caps : (o : Option ℕ) → AllByRecursion (IsOfOne ids) (option_to_list (option_map (localised_term Max r.statement.id) o))
    caps None = tt
    caps (Some cap) = (one Max cap, tt)

    guarantees : (b : Bool) → AllByRecursion (IsOfOne ids) (cond b (localised_term Min r.statement.id r.guarantee ∷ []) [])
    guarantees true = (one Min r.guarantee, tt)
    guarantees false = tt

same-list : {X : Type 0} (f : X → X) → ((x : X) → f x ≡ x) → (xs : List X) → map f xs ≡ xs
same-list f e [] = refl
same-list f e (x ∷ xs) = ap₂ (λ y l. y ∷ l) (e x) (same-list f e xs)

-- The localised form.
module _ (raw : Policy) where
  abbrev form : Policy
  form = written_policy (rated_policy raw)

  abbrev with_terms : List Term → Policy
  with_terms terms = record { statements = raw.statements; default_path = raw.default_path; formula = record { terms = terms } }

  pub statements-same : form.statements ≡ raw.statements
  statements-same = map-twice (rated_statement raw.formula.terms) (λ r. r.statement) (λ s. s) (λ s. refl) raw.statements ∙ same-list (λ s. s) (λ s. refl) raw.statements

  form-is : form ≡ with_terms form.formula.terms
  form-is = ap (λ (ss : List Statement). record { statements = ss; default_path = raw.default_path; formula = record { terms = form.formula.terms } }) statements-same

  pub form-expanded : IsExpanded raw → IsExpanded form
  form-expanded h = subst IsExpanded (sym form-is) (record { few = h.few; ids = h.ids })

  statement-at : (i : ℕ) (id : List ℕ) → slice_get (listed_ids raw) i ≡ Some id → (s : Statement) × (slice_get raw.statements i ≡ Some s) × (s.id ≡ id)
  statement-at i id e = by (slice_get raw.statements i) refl
    where
      by : (o : Option Statement) → slice_get raw.statements i ≡ o → (s : Statement) × (slice_get raw.statements i ≡ Some s) × (s.id ≡ id)
      by None f = absurd (None-Some (sym (slice_get-map (λ s. s.id) raw.statements i ∙ ap (option_map (λ s. s.id)) f) ∙ e))
      by (Some s) f = (s, f, ap (λ o. unwrap_or o id) (sym (slice_get-map (λ s. s.id) raw.statements i ∙ ap (option_map (λ s. s.id)) f) ∙ e))

  terms-of-one : AllByRecursion (IsOfOne (listed_ids raw)) form.formula.terms
  terms-of-one = flat-all rate_terms (IsOfOne (listed_ids raw)) (rated_policy raw).statements (each-mapped (rated_statement raw.formula.terms) (λ r. AllByRecursion (IsOfOne (listed_ids raw)) (rate_terms r)) raw.statements
      (λ i s e. of-one (listed_ids raw) (rated_statement raw.formula.terms s) (among-at (listed_ids raw) i s.id (slice_get-map (λ s. s.id) raw.statements i ∙ ap (option_map (λ s. s.id)) e))))

  module _ (net : Network) (expanded : IsExpanded raw) where
    different : AreDifferent (map (λ s. s.id) (numbered_policy net raw).statements)
    different = subst AreDifferent (sym (map-twice (numbered_statement net) (λ s. s.id) (λ s. s.id) (λ s. refl) raw.statements)) expanded.ids

    -- its rates are those of the policy
    rates-at : (i : ℕ) (id : List ℕ) → slice_get (listed_ids raw) i ≡ Some id → (min_for form.formula.terms id ≡ min_for raw.formula.terms id) × (max_for form.formula.terms id ≡ max_for raw.formula.terms id)
    rates-at i id e = by (statement-at i id e)
      where
        by : (s : Statement) × (slice_get raw.statements i ≡ Some s) × (s.id ≡ id) → (min_for form.formula.terms id ≡ min_for raw.formula.terms id) × (max_for form.formula.terms id ≡ max_for raw.formula.terms id)
        by (s, f, g) =
            let there : slice_get form.statements i ≡ Some s = ap (λ (l : List Statement). slice_get l i) statements-same ∙ f in
            subst (λ (x : List ℕ). (min_for form.formula.terms x ≡ min_for raw.formula.terms x) × (max_for form.formula.terms x ≡ max_for raw.formula.terms x)) g (
              sym (least-at net form i s there) ∙ ap (λ (p : NumberedPolicy). min_of p i) (numbered-form net raw) ∙ localised-min (numbered_policy net raw) i different ∙ least-at net raw i s f,
              sym (most-at net form i s there) ∙ ap (λ (p : NumberedPolicy). max_of p i) (numbered-form net raw) ∙ localised-max (numbered_policy net raw) i different ∙ most-at net raw i s f,
            )

    pub form-kept : (symbols : List Symbol) → KeepsAllRules net symbols raw → KeepsAllRules net symbols form
    form-kept symbols h =
        let none = same-conflicts (min_for form.formula.terms) (min_for raw.formula.terms) (max_for form.formula.terms) (max_for raw.formula.terms) (listed_ids raw) rates-at ∙ (clear_from raw.formula.terms (listed_ids raw) h.rated.rates).room in
        subst (KeepsAllRules net symbols) (sym form-is) (record {
          rated = record {
            covering = record {
              apart = record { named = h.rated.covering.apart.named; preds = record { few = h.rated.covering.apart.preds.few; apart = h.rated.covering.apart.preds.apart } };
              total = h.rated.covering.total;
            };
            rates = no-faults form.formula.terms (listed_ids raw) terms-of-one none;
          };
          states = h.states;
        })

none-first : {X : Type 0} (xs : List X) (x : X) → xs ≡ [] → slice_get xs 0 ≡ Some x → ⊥
none-first xs x none some = None-Some (sym (ap (λ l. slice_get l 0) none) ∙ some)

-- What keeps all rules breaks none.
module _ (net : Network) (symbols : List Symbol) (raw : Policy) (kept : KeepsAllRules net symbols raw) where
  pub unbroken : (fault : CheckFault) → BreaksRule net symbols raw fault → fault ≡ OutOfMemory
  unbroken (UnknownName name) h = absurd (none-first _ _ kept.rated.covering.apart.named h)
  unbroken (FunctionUnderNot name) h = absurd (none-first _ _ kept.rated.covering.apart.named h)
  unbroken (TooManyClasses count) h = let few = kept.rated.covering.apart.preds.few in let many = h.1.0 in absurd (omega (arith, few, many))
  unbroken (Overlap first second packet) h =
      let o = h.2 in
      let shared = o.least.least_packet in
      absurd (kept.rated.covering.apart.preds.apart o.i o.j packet shared.is_packet shared.has)
  unbroken (NotTotal packet) h = absurd (kept.rated.covering.total h.1.no_default packet h.1.least.is_packet h.1.least.has)
  unbroken (Rate fault) h = absurd (none-first _ _ kept.rated.rates h.1)
  unbroken (TooManyStates id count) h =
      let large = h.1.first in
      let few = all-at (HasFewStates symbols) (numbered_paths_of net raw) h.1.place large.path kept.states large.has in
      absurd (over count (not-many symbols large.path count few large.many) large.count_is)
    where
      over : (n : ℕ) → n ≤ MAX_STATES → n ≡ MAX_STATES + 1 → ⊥
      over n le e = omega (arith, le, e)
  unbroken OutOfMemory h = refl
