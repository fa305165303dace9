-- A policy that keeps all rules is sound.
use Rattle.std.proofs.Common.{◌≡◌, ◌<◌, ◌≤◌, ◌+◌, ◌⊎◌, ◌||◌, ◌&&◌, inl, inr, ℕ, zero, suc, Bool, true, false, cond, ltb, List, [], ◌∷◌, ◌++◌, length, map, Contains, Option, None, Some, slice_get, sum_by, refl, sym, ◌∙◌, ap, subst, arith}
use Rattle.std.specs.List.{AllByRecursion, list_any}
use Rattle.std.specs.Option.{option_map, option_to_list}
use Rattle.std.specs.Prelude.{bytes_eq}
use Rattle.std.proofs.lemmas.Slice.Eq.{bytes_eq-Decides}
use Rattle.std.proofs.lemmas.Bool.{ltb-false}
use Rattle.std.proofs.lemmas.Bool.Decides.{Decides-ltb}
use Rattle.merlin_model.specs.declared.limits.TheConstants.{MAX_RATE}
use Rattle.merlin_model.specs.declared.policy.Path.{Path}
use Rattle.merlin_model.specs.declared.policy.Term.{Term}
use Rattle.merlin_model.specs.Packets.{Packet}
use Rattle.merlin_model.specs.Networks.{Network, AreDifferent}
use Rattle.merlin_model.specs.Predicates.{holds, IsPred}
use Rattle.merlin_model.specs.Policies.{Policy, Statement, AreDisjoint, IsTotal, match_among, paths_of}
use Rattle.merlin_model.specs.Rates.{ids_of, constant_of_part, HasRoomForGuarantees}
use Rattle.merlin_model.proofs.Members.{In as Is, in_to}
use Rattle.rate_formula.specs.Usage.{ids_in}
use Rattle.localise.specs.Faults.{is_among, repeats_in, has_large_constants, faults}
use Rattle.localise.proofs.Clear.{all_from, clear_from, known_in}
use Rattle.localise.proofs.Repeated.{differ}
use Rattle.predicate_split.specs.Least.{NoneHolds}
use Rattle.predicate_split.specs.Overlaps.{ShareNothing}
use Rattle.policy_grammar.specs.declared.written.RawPath.{RawPath}
use Rattle.policy_grammar.specs.NumberedPaths.{numbered}
use Rattle.policy_expansion.specs.declared.policy.Statement.{Statement as NamedStatement}
use Rattle.policy_expansion.specs.declared.policy.Policy.{Policy as NamedPolicy}
use Rattle.policy_expansion.specs.declared.limits.TheConstants.{MAX_STATEMENTS}
use Rattle.policy_expansion.specs.Faults.{count_of_default}
use Rattle.policy_expansion.specs.Kept.{IsExpanded, IsTerm, IsWellFormed}
use Rattle.policy_names.specs.Names.{meaning_of}
use Rattle.policy_check.specs.Numbered.{numbered_statement, numbered_policy}
use Rattle.policy_check.specs.Rules.{listed_ids, listed_preds, LeavesNothing, rate_faults}
use Rattle.policy_check.specs.Checked.{HasRoomForConstants, IsSoundPolicy}

-- Lists of the numbered statements.

ids-same : (net : Network) (ss : List NamedStatement) → map (λ (s : Statement). s.id) (map (numbered_statement net) ss) ≡ map (λ s. s.id) ss
ids-same net [] = refl
ids-same net (s ∷ ss) = ap (λ l. s.id ∷ l) (ids-same net ss)

preds-same : (net : Network) (ss : List NamedStatement) → map (λ (s : Statement). s.pred) (map (numbered_statement net) ss) ≡ map (λ s. s.pred) ss
preds-same net [] = refl
preds-same net (s ∷ ss) = ap (λ l. s.pred ∷ l) (preds-same net ss)

pub formed-preds : (ss : List NamedStatement) → AllByRecursion (λ s. IsPred s.pred) ss → AllByRecursion IsPred (map (λ s. s.pred) ss)
formed-preds [] h = tt
formed-preds (s ∷ ss) h = (h.0, formed-preds ss h.1)

formed-statements : (net : Network) (ss : List NamedStatement) → AllByRecursion (λ s. IsPred s.pred) ss → AllByRecursion (λ (s : Statement). IsPred s.pred) (map (numbered_statement net) ss)
formed-statements net [] h = tt
formed-statements net (s ∷ ss) h = (h.0, formed-statements net ss h.1)

-- Disjoint.

pred-at : (ss : List Statement) (i : ℕ) (s : Statement) → slice_get ss i ≡ Some s → slice_get (map (λ t. t.pred) ss) i ≡ Some s.pred
pred-at [] i s e = cc
pred-at (t ∷ ss) zero s e = let same : t ≡ s = cc in ap (λ (u : Statement). Some u.pred) same
pred-at (t ∷ ss) (suc i) s e = pred-at ss i s e

module _ (policy : Policy) (apart : ShareNothing (map (λ s. s.pred) policy.statements)) where
  pub disjoint : AreDisjoint policy
  disjoint p i j s t is-packet at-i at-j holds-i holds-j = by (ltb i j) (ltb j i) refl refl
    where
      never : (k l : ℕ) (u v : Statement) → slice_get policy.statements k ≡ Some u → slice_get policy.statements l ≡ Some v → holds u.pred p ≡ true → holds v.pred p ≡ true → k < l → ⊥
      never k l u v at-k at-l hk hl less = apart k l p is-packet (record { before = less; first = (u.pred, pred-at policy.statements k u at-k, hk); second = (v.pred, pred-at policy.statements l v at-l, hl) })

      by : (b c : Bool) → ltb i j ≡ b → ltb j i ≡ c → i ≡ j
      by true c e f = absurd (never i j s t at-i at-j holds-i holds-j ((Decides-ltb i j).0 e))
      by false true e f = absurd (never j i t s at-j at-i holds-j holds-i ((Decides-ltb j i).0 f))
      by false false e f = let over = ltb-false i j e in let under = ltb-false j i f in omega (arith, over, under)

-- Total.

matched : (ss : List Statement) (p : Packet) → (match_among ss p < length ss) ⊎ (NoneHolds (map (λ s. s.pred) ss) p × (match_among ss p ≡ length ss))
matched [] p = inr (tt, refl)
matched (s ∷ ss) p = by (holds s.pred p) refl (matched ss p)
  where
    by : (b : Bool) → holds s.pred p ≡ b → (match_among ss p < length ss) ⊎ (NoneHolds (map (λ s. s.pred) ss) p × (match_among ss p ≡ length ss)) →
        (cond b 0 (1 + match_among ss p) < suc (length ss)) ⊎ (((holds s.pred p ≡ false) × NoneHolds (map (λ s. s.pred) ss) p) × (cond b 0 (1 + match_among ss p) ≡ suc (length ss)))
    by true e rest = inl (omega arith)
    by false e (inl less) = inl (omega (arith, less))
    by false e (inr none) = let all = none.1 in inr ((e, none.0), omega (arith, all))

pub paths-many : (ss : List Statement) (d : Option Path) → length (map (λ s. s.path) ss ++ option_to_list d) ≡ length ss + length (option_to_list d)
paths-many [] d = let many = length (option_to_list d) in omega arith
paths-many (s ∷ ss) d = let rest = paths-many ss d in omega (arith, rest)

pub total : (net : Network) (raw : NamedPolicy) → LeavesNothing raw → IsTotal (numbered_policy net raw)
total net raw leaves p is-packet = by raw.default_path refl (matched ss p)
  where
    ss : List Statement
    ss = map (numbered_statement net) raw.statements

    by : (d : Option _) → raw.default_path ≡ d → (match_among ss p < length ss) ⊎ (NoneHolds (map (λ s. s.pred) ss) p × (match_among ss p ≡ length ss)) →
        match_among ss p < length (map (λ s. s.path) ss ++ option_to_list (option_map (numbered (meaning_of net)) raw.default_path))
    by d e (inl less) = let many = paths-many ss (option_map (numbered (meaning_of net)) raw.default_path) in omega (arith, less, many)
    by None e (inr none) = absurd (leaves e p is-packet (subst (λ l. NoneHolds l p) (preds-same net raw.statements) none.0))
    by (Some path) e (inr none) =
        subst (λ d. match_among ss p < length (map (λ s. s.path) ss ++ option_to_list (option_map (numbered (meaning_of net)) d))) (sym e)
        (let many = paths-many ss (Some (numbered (meaning_of net) path)) in let all = none.1 in let r : match_among ss p < length (map (λ (s : Statement). s.path) ss ++ numbered (meaning_of net) path ∷ []) = omega (arith, all, many) in r)

-- Terms.

among-find : (id : List ℕ) (l : List (List ℕ)) → list_any (λ other. bytes_eq other id) l ≡ true → Is id l
among-find id [] e = cc
among-find id (x ∷ l) e = by (bytes_eq x id) refl e (among-find id l)
  where
    by : (b : Bool) → bytes_eq x id ≡ b → (b || list_any (λ other. bytes_eq other id) l) ≡ true → (list_any (λ other. bytes_eq other id) l ≡ true → Is id l) → Is id (x ∷ l)
    by true is e rest = inl (sym ((bytes_eq-Decides x id).0 is))
    by false is e rest = inr (rest e)

among-in : (ids : List (List ℕ)) (id : List ℕ) → is_among ids id ≡ true → Contains ids id
among-in ids id e = in_to ids id (among-find id ids e)

constants-fit : (term : Term) → has_large_constants term ≡ false → HasRoomForConstants term
constants-fit term e bound = ltb-false term.rate (sum_by constant_of_part term.parts) (sym (ap (λ b. b && ltb term.rate (sum_by constant_of_part term.parts)) bound) ∙ e)

each : {X : Type 0} (P Q : X → Type 0) (xs : List X) → ((x : X) → P x → Q x) → AllByRecursion P xs → AllByRecursion Q xs
each P Q [] f h = tt
each P Q (x ∷ xs) f h = (f x h.0, each P Q xs f h.1)

-- Sizes.

default-counts : (net : Network) (d : Option RawPath) → length (option_to_list (option_map (numbered (meaning_of net)) d)) ≡ count_of_default d
default-counts net None = refl
default-counts net (Some path) = refl

as-many : (net : Network) (ss : List NamedStatement) → length (map (numbered_statement net) ss) ≡ length ss
as-many net [] = refl
as-many net (s ∷ ss) = ap suc (as-many net ss)

few-paths : (net : Network) (raw : NamedPolicy) → IsExpanded raw → length (paths_of (numbered_policy net raw)) ≤ MAX_STATEMENTS
few-paths net raw expanded =
    let paths = paths-many (map (numbered_statement net) raw.statements) (option_map (numbered (meaning_of net)) raw.default_path) in
    let default = default-counts net raw.default_path in
    let statements = as-many net raw.statements in
    let few = expanded.few in
    omega (arith, few, statements, default, paths)

-- All together.
pub sound : (net : Network) (raw : NamedPolicy) → IsExpanded raw → IsWellFormed raw → ShareNothing (listed_preds raw) → LeavesNothing raw → rate_faults raw ≡ [] → ((policy : Policy) → faults policy.terms (ids_in policy) ≡ [] → HasRoomForGuarantees policy) →
    IsSoundPolicy (numbered_policy net raw)
sound net raw expanded formed apart leaves none room =
    let policy = numbered_policy net raw in
    let same : ids_in policy ≡ listed_ids raw = ids-same net raw.statements in
    let clear : faults policy.terms (ids_in policy) ≡ [] = ap (faults raw.formula.terms) same ∙ none in
    let terms = clear_from policy.terms (ids_in policy) clear in
    record {
      disjoint = disjoint policy (subst ShareNothing (sym (preds-same net raw.statements)) apart);
      total = total net raw leaves;
      preds = formed-statements net raw.statements formed.preds;
      ids = subst AreDifferent (sym same) expanded.ids;
      known = all_from _ policy.terms (λ term at. all_from _ (ids_of term) (λ id among. among-in (ids_in policy) id (known_in policy.terms (ids_in policy) term terms at id among)));
      once = each (λ term. repeats_in (ids_of term) ≡ []) (λ term. AreDifferent (ids_of term)) policy.terms (λ term e. differ (ids_of term) e) terms.different;
      constants = each (λ term. has_large_constants term ≡ false) HasRoomForConstants policy.terms constants-fit terms.small;
      room = room policy clear;
      few = few-paths net raw expanded;
      rates = each IsTerm (λ term. term.rate ≤ MAX_RATE) raw.formula.terms (λ term h. h.2) formed.terms;
    }
