-- What a policy that was checked says of packets, words and ends.
use Rattle.std.proofs.Common.{◌≡◌, ◌<◌, ◌↔◌, ℕ, zero, suc, true, List, [], ◌∷◌, length, map, Option, Some, slice_get, refl, sym, ◌∙◌, subst, arith}
use Rattle.std.specs.List.{AllByRecursion}
use Rattle.std.specs.Prelude.{Contains}
use Rattle.merlin_model.specs.declared.policy.Ends.{Ends}
use Rattle.merlin_model.specs.declared.policy.Symbol.{Symbol}
use Rattle.merlin_model.specs.Packets.{Packet, IsPacket}
use Rattle.merlin_model.specs.Predicates.{holds}
use Rattle.merlin_model.specs.Networks.{Network}
use Rattle.merlin_model.specs.Policies.{Policy, Statement, AreDisjoint, match_of, paths_of}
use Rattle.merlin_model.specs.Paths.{InLanguage}
use Rattle.merlin_model.specs.Rates.{IsGuaranteed}
use Rattle.merlin_model.specs.Assignments.{HasTraffic, AreTheEnds, AreAllEnds}
use Rattle.merlin_model.proofs.Members.{in_from, in_map, all_in}
use Rattle.merlin_model.proofs.Matching.{match_among-only}
use Rattle.merlin_model.proofs.Ascending.{ascending-same}
use Rattle.rate_formula.specs.Usage.{ids_in}
use Rattle.path_automaton.specs.Automata.{AutomatonTables}
use Rattle.policy_check.specs.Checked.{CheckedPolicy, IsAutomatonOfPath, HasAutomata, AcceptsPathOf, automaton_of_statement}
use Rattle.policy_check.proofs.Guaranteed.{match-holds, statement-of, map-at}

pub belongs : (policy : Policy) (p : Packet) (i : ℕ) (s : Statement) → AreDisjoint policy → IsPacket p → slice_get policy.statements i ≡ Some s → (match_of policy p ≡ i) ↔ (holds s.pred p ≡ true)
belongs policy p i s disjoint packet at = (λ m. match-holds policy.statements p i s m at, λ h. match_among-only policy.statements p i s at h (λ j t at' h'. disjoint p j i t s packet at' at h' h))

pub has-id : (policy : Policy) (i : ℕ) → IsGuaranteed policy i → (id : List ℕ) × (slice_get (ids_in policy) i ≡ Some id)
has-id policy i g = let s = statement-of policy i g in (s.0.id, map-at (λ (s : Statement). s.id) policy.statements i s.0 s.1)

some-at : {X : Type 0} (xs : List X) (i : ℕ) → i < length xs → (x : X) × (slice_get xs i ≡ Some x)
some-at [] i within = absurd (omega (arith, within))
some-at (x ∷ xs) zero within = (x, refl)
some-at (x ∷ xs) (suc i) within = some-at xs i (let less : i < length xs = omega (arith, within) in less)

same-some : {X : Type 0} (o : Option X) (x y : X) → o ≡ Some x → o ≡ Some y → x ≡ y
same-some o x y e f = by (sym e ∙ f)
  where
    by : Some x ≡ Some y → x ≡ y
    by e = cc

pub accepted : (symbols : List Symbol) (checked : CheckedPolicy) (i : ℕ) (table : AutomatonTables) → HasAutomata symbols checked → i < length (paths_of checked.policy) → automaton_of_statement checked i ≡ Some table →
    AcceptsPathOf symbols checked.policy i table
accepted symbols checked i table has within at ks w spells =
    let path = some-at (paths_of checked.policy) i within in
    let own = has i path.0 path.1 in
    let same : own.0 ≡ table = same-some (automaton_of_statement checked i) own.0 table own.1 at in
    let told = subst (IsAutomatonOfPath symbols path.0) same own.2 in (
      λ e. record { path = path.0; has = path.1; described = (told.words ks w spells).0 e },
      λ on. (told.words ks w spells).1 (subst (λ p. InLanguage p w) (same-some (slice_get (paths_of checked.policy) i) on.path path.0 on.has path.1) on.described),
    )

module _ (net : Network) (policy : Policy) where
  same-ends : (a b : Ends) → AreTheEnds net policy a → AreTheEnds net policy b → a.statement ≡ b.statement → a ≡ b
  same-ends a b h k same =
      let where-is = k.only a.src a.dst (subst (λ i. HasTraffic net policy i a.src a.dst) same h.traffic) in
      λ n. record { statement = same n; src = where-is.0 n; dst = where-is.1 n }

  same-lists : (xs ys : List Ends) → AllByRecursion (AreTheEnds net policy) xs → AllByRecursion (AreTheEnds net policy) ys → map (λ e. e.statement) xs ≡ map (λ e. e.statement) ys → xs ≡ ys
  same-lists [] [] h k e = refl
  same-lists [] (y ∷ ys) h k e = cc
  same-lists (x ∷ xs) [] h k e = cc
  same-lists (x ∷ xs) (y ∷ ys) h k e =
      let first : x.statement ≡ y.statement = cc in
      let rest : map (λ (e : Ends). e.statement) xs ≡ map (λ (e : Ends). e.statement) ys = cc in
      let one = same-ends x y h.0 k.0 first in
      let more = same-lists xs ys h.1 k.1 rest in
      λ n. one n ∷ more n

  guaranteed-in : (xs : List Ends) (i : ℕ) → AllByRecursion (AreTheEnds net policy) xs → Contains (map (λ e. e.statement) xs) i → IsGuaranteed policy i
  guaranteed-in xs i all c =
      let e = in_map (λ (e : Ends). e.statement) xs i (in_from (map (λ (e : Ends). e.statement) xs) i c) in
      subst (IsGuaranteed policy) (sym e.2) (all_in (AreTheEnds net policy) xs e.0 all e.1).guaranteed

  pub one-list : (xs ys : List Ends) → AreAllEnds net policy xs → AreAllEnds net policy ys → xs ≡ ys
  one-list xs ys h k =
      same-lists xs ys h.each k.each
      (ascending-same (map (λ e. e.statement) xs) (map (λ e. e.statement) ys) h.ascending k.ascending (λ n. (λ c. k.all n (guaranteed-in xs n h.each c), λ c. h.all n (guaranteed-in ys n k.each c))))
