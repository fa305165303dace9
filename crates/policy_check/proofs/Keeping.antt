-- What is put together of a policy that keeps all rules.
use Rattle.std.proofs.Common.{◌≡◌, ◌<◌, ◌⊎◌, inl, inr, ℕ, zero, suc, List, [], ◌∷◌, ◌++◌, length, map, Option, None, Some, slice_get, refl, sym, ◌∙◌, ap, subst, arith}
use Rattle.std.specs.Prelude.{option_and_then}
use Rattle.std.specs.List.{AllByRecursion, AllZip}
use Rattle.std.specs.Option.{option_map, option_to_list}
use Rattle.std.proofs.lemmas.List.{length-map}
use Rattle.std.proofs.lemmas.Option.{slice_get_within}
use Rattle.merlin_model.specs.declared.policy.Path.{Path}
use Rattle.merlin_model.specs.declared.policy.Symbol.{Symbol}
use Rattle.merlin_model.specs.Networks.{Network}
use Rattle.merlin_model.specs.Policies.{Policy, paths_of}
use Rattle.merlin_model.specs.Rates.{HasRoomForGuarantees}
use Rattle.rate_formula.specs.declared.formula.Formula.{Formula}
use Rattle.rate_formula.specs.Usage.{ids_in}
use Rattle.localise.specs.Localised.{localised}
use Rattle.localise.specs.Faults.{faults}
use Rattle.path_regex.specs.Normal.{normal_of}
use Rattle.path_regex.specs.Functions.{HasNoFunctionUnderNot}
use Rattle.path_regex.proofs.Normality.{normal_form}
use Rattle.path_regex.proofs.Functionless.{normal-under}
use Rattle.path_regex.proofs.Meanings.{normal-takes}
use Rattle.path_automaton.specs.Automata.{AutomatonTables}
use Rattle.policy_grammar.specs.NumberedPaths.{numbered}
use Rattle.policy_expansion.specs.declared.policy.Policy.{Policy as NamedPolicy}
use Rattle.policy_expansion.specs.Kept.{IsExpanded, IsWellFormed}
use Rattle.policy_names.specs.Names.{meaning_of}
use Rattle.policy_check.specs.declared.automata.Automata.{Automata}
use Rattle.policy_check.specs.declared.checking.Judged.{Judged}
use Rattle.policy_check.specs.declared.checked.Checked.TheInside.{Inside}
use Rattle.policy_check.specs.Numbered.{numbered_policy}
use Rattle.policy_check.specs.Rules.{HasMeanings, HasFewStates, numbered_paths_of}
use Rattle.policy_check.specs.Parts.{IsJudged}
use Rattle.policy_check.specs.Sharing.{IsTableOf, ShareAutomata}
use Rattle.policy_check.specs.Checked.{IsSoundPolicy, IsAutomatonOfPath, IsCheckOf, automaton_of_statement}
use Rattle.policy_check.specs.Kept.{policy_in, checked_in, IsWholeCheck}
use Rattle.policy_check.proofs.Overlapping.{ids-many}
use Rattle.policy_check.proofs.Forms.{table-same, zip-at, zip-long, paths-few}
use Rattle.policy_check.proofs.Assembled.{policy-is, paths-parts, paths-back, ids-back, preds-back}
use Rattle.policy_check.proofs.Sound.{sound}

numbers-below : (forms : List Path) (built : List AutomatonTables) (paths : List Path) (numbers : List ℕ) → length forms ≡ length built → AllZip (λ path n. slice_get forms n ≡ Some (normal_of path)) paths numbers → AllByRecursion (λ n. n < length built) numbers
numbers-below forms built [] [] e z = tt
numbers-below forms built [] (n ∷ numbers) e z = absurd z
numbers-below forms built (p ∷ paths) [] e z = tt
numbers-below forms built (p ∷ paths) (n ∷ numbers) e z = (let within = slice_get_within forms n (normal_of p) z.0 in omega (arith, e, within), numbers-below forms built paths numbers e z.1)

all-at : {X : Type 0} (P : X → Type 0) (xs : List X) (i : ℕ) (x : X) → AllByRecursion P xs → slice_get xs i ≡ Some x → P x
all-at P [] i x h e = cc
all-at {X} P (y ∷ xs) zero x h e = let same : y ≡ x = cc in subst P same h.0
all-at P (y ∷ xs) (suc i) x h e = all-at P xs i x h.1 e

behind : {X : Type 0} (front : List X) (d : Option X) → (length (front ++ option_to_list d) ≡ length front) ⊎ (length (front ++ option_to_list d) ≡ suc (length front))
behind [] None = inl refl
behind [] (Some x) = inr refl
behind (y ∷ front) d = by (behind front d)
  where
    by : (length (front ++ option_to_list d) ≡ length front) ⊎ (length (front ++ option_to_list d) ≡ suc (length front)) → (suc (length (front ++ option_to_list d)) ≡ suc (length front)) ⊎ (suc (length (front ++ option_to_list d)) ≡ suc (suc (length front)))
    by (inl e) = inl (ap suc e)
    by (inr e) = inr (ap suc e)

module _ (net : Network) (symbols : List Symbol) (raw : NamedPolicy) (expanded : IsExpanded raw) (formed : IsWellFormed raw) (named : HasMeanings net raw)
    (judged : Judged) (is : IsJudged raw judged) (paths : List Path) (paths-are : paths ≡ numbered_paths_of net raw) (automata : Automata) (shared : ShareAutomata symbols paths automata)
    (formula : Formula) (formula-is : formula ≡ raw.formula) (room : (policy : Policy) → faults policy.terms (ids_in policy) ≡ [] → HasRoomForGuarantees policy) where
  abbrev inside : Inside
  inside = record { listing = record { ids = judged.listing.ids; preds = judged.listing.preds }; paths = paths; formula = formula; rates = judged.rates; automata = automata }

  terms-are : formula.terms ≡ raw.formula.terms
  terms-are = ap (λ (f : Formula). f.terms) formula-is

  policy-same : policy_in inside ≡ numbered_policy net raw
  policy-same = policy-is net raw judged.listing.ids judged.listing.preds paths formula.terms is.ids is.preds paths-are terms-are

  preds-many : length judged.listing.preds ≡ length judged.listing.ids
  preds-many = ap length is.preds ∙ (ids-many raw ∙ sym (ap length is.ids))

  paths-long : (length paths ≡ length judged.listing.ids) ⊎ (length paths ≡ suc (length judged.listing.ids))
  paths-long = by (behind front (option_map (numbered (meaning_of net)) raw.default_path))
    where
      front : List Path
      front = map (numbered (meaning_of net)) (map (λ s. s.path) raw.statements)

      all : List Path
      all = front ++ option_to_list (option_map (numbered (meaning_of net)) raw.default_path)

      many : length front ≡ length judged.listing.ids
      many = length-map (map (λ s. s.path) raw.statements) (numbered (meaning_of net)) ∙ (length-map raw.statements (λ s. s.path) ∙ (sym (length-map raw.statements (λ s. s.id)) ∙ sym (ap length is.ids)))

      same : length paths ≡ length all
      same = ap length (paths-are ∙ paths-parts net raw)

      by : (length all ≡ length front) ⊎ (length all ≡ suc (length front)) → (length paths ≡ length judged.listing.ids) ⊎ (length paths ≡ suc (length judged.listing.ids))
      by (inl e) = inl (same ∙ (e ∙ many))
      by (inr e) = inr (same ∙ (e ∙ ap suc many))

  pub kept : IsWholeCheck inside
  kept = record {
    preds = preds-many;
    paths = paths-long;
    numbers = sym (zip-long (λ path n. slice_get automata.forms n ≡ Some (normal_of path)) paths automata.numbers shared.numbers);
    automata = numbers-below automata.forms automata.built paths automata.numbers (zip-long (IsTableOf symbols) automata.forms automata.built shared.tables) shared.numbers;
    rates = is.rates ∙ (λ k. localised (sym terms-are k) (sym is.ids k));
    sound = subst IsSoundPolicy (sym policy-same) (sound net raw expanded formed is.apart.apart is.total is.clear room);
  }

  automaton-at : AllByRecursion HasNoFunctionUnderNot (numbered_paths_of net raw) → (i : ℕ) (path : Path) → slice_get (paths_of (policy_in inside)) i ≡ Some path →
      (table : AutomatonTables) × (automaton_of_statement (checked_in inside) i ≡ Some table) × IsAutomatonOfPath symbols path table
  automaton-at free i path at =
      let there : slice_get paths i ≡ Some path = ap (λ l. slice_get l i) (sym (paths-back judged.listing.ids judged.listing.preds paths preds-many paths-long)) ∙ at in
      let number = zip-at (λ p n. slice_get automata.forms n ≡ Some (normal_of p)) paths automata.numbers i path shared.numbers there in
      let table = zip-at (IsTableOf symbols) automata.forms automata.built number.0 (normal_of path) shared.tables number.2 in
      let own = table-same symbols path (normal_of path) table.0 refl (normal_form path) (normal-under path) (normal-takes path) table.2 in (
        table.0,
        ap (option_and_then (slice_get automata.built)) number.1 ∙ table.1,
        record {
          built = own.0;
          words = own.1 (all-at HasNoFunctionUnderNot paths i path (subst (AllByRecursion HasNoFunctionUnderNot) (sym paths-are) free) there);
        },
      )

  pub check-of : AllByRecursion HasNoFunctionUnderNot (numbered_paths_of net raw) → IsCheckOf net symbols raw (checked_in inside)
  check-of free = record {
    rules = record {
      rated = record { covering = record { apart = record { named = named; preds = is.apart }; total = is.total }; rates = is.clear };
      states = subst (AllByRecursion (HasFewStates symbols)) paths-are (paths-few symbols paths automata shared);
    };
    policy = policy-same;
    automata = automaton-at free;
  }

-- The lists of a checked policy.
module _ (c : Inside) (k : IsWholeCheck c) where
  pub paths-view : paths_of (policy_in c) ≡ c.paths
  paths-view = paths-back c.listing.ids c.listing.preds c.paths k.preds k.paths

  pub ids-view : ids_in (policy_in c) ≡ c.listing.ids
  ids-view = ids-back c.listing.ids c.listing.preds c.paths k.preds k.paths

  pub preds-view : map (λ s. s.pred) ((policy_in c).statements) ≡ c.listing.preds
  preds-view = preds-back c.listing.ids c.listing.preds c.paths k.preds k.paths
