-- Ends that stand are at no fault.
use Rattle.std.proofs.Common.{◌≡◌, ◌≤◌, ◌<◌, ℕ, inl, inr, List, length, map, refl, sym, ◌∙◌, ap, subst, arith}
use Rattle.std.proofs.lemmas.List.{length-map}
use Rattle.merlin_model.specs.declared.policy.Ends.{Ends}
use Rattle.merlin_model.specs.Networks.{Network}
use Rattle.merlin_model.specs.Policies.{Policy}
use Rattle.merlin_model.specs.Rates.{IsGuaranteed}
use Rattle.merlin_model.specs.Assignments.{HasTraffic, AreTheEnds, AreAllEnds}
use Rattle.merlin_model.proofs.Members.{In, in_from, in_map, all_in}
use Rattle.merlin_model.proofs.Ascending.{ascending-same}
use Rattle.policy_check.specs.declared.fault.EndsFault.{EndsFault}
use Rattle.policy_check.specs.declared.fault.EndsFault.TheVariants.{TooManyGuarantees, NoEnds, ManyEnds, OutOfMemory}
use Rattle.policy_check.specs.declared.guarantees.TheConstants.{MAX_GUARANTEES}
use Rattle.policy_check.specs.Traffic.{IsPairBefore}
use Rattle.policy_check.specs.Ends.{AreGuaranteed, BreaksEnds}

module _ (net : Network) (policy : Policy) (ends : List Ends) (all : AreAllEnds net policy ends) where
  abbrev statements : List ℕ
  statements = map (λ e. e.statement) ends

  -- the ends of a guaranteed statement
  own : (i : ℕ) → IsGuaranteed policy i → (e : Ends) × (i ≡ e.statement) × AreTheEnds net policy e
  own i h =
      let m = in_map (λ e. e.statement) ends i (in_from statements i (all.all i h)) in
      (m.0, m.2, all_in (AreTheEnds net policy) ends m.0 all.each m.1)

  backed : (i : ℕ) → In i statements → IsGuaranteed policy i
  backed i c =
      let m = in_map (λ e. e.statement) ends i c in
      subst (IsGuaranteed policy) (sym m.2) (all_in (AreTheEnds net policy) ends m.0 all.each m.1).guaranteed

  counted : (places : List ℕ) → AreGuaranteed policy places → length places ≡ length ends
  counted places are =
      ap length (ascending-same places statements are.ascending all.ascending (λ i. (λ c. all.all i ((are.exactly i).0 c), λ c. (are.exactly i).1 (backed i (in_from statements i c)))))
      ∙ length-map ends (λ e. e.statement)

  first-is : (a b : ℕ × ℕ) (s d : ℕ) → (a.0 ≡ s) × (a.1 ≡ d) → (b.0 ≡ s) × (b.1 ≡ d) → IsPairBefore a b → ⊥
  first-is a b s d (e, f) (g, h) (inl lt) = omega (arith, e, g, lt)
  first-is a b s d (e, f) (g, h) (inr (same, lt)) = omega (arith, f, h, lt)

  pub at-no-fault : length ends ≤ MAX_GUARANTEES → (fault : EndsFault) → BreaksEnds net policy fault → fault ≡ OutOfMemory
  at-no-fault few (TooManyGuarantees count) h =
      let same = counted h.0.0 h.0.1 in
      let many = h.0.2 in
      absurd (by (length h.0.0) same many)
    where
      by : (n : ℕ) → n ≡ length ends → MAX_GUARANTEES < n → ⊥
      by n same many = omega (arith, same, many, few)
  at-no-fault few (NoEnds id) h =
      let e = own h.statement h.guaranteed in
      absurd (h.at_fault.1 e.0.src e.0.dst (subst (λ i. HasTraffic net policy i e.0.src e.0.dst) (sym e.1) e.2.traffic))
  at-no-fault few (ManyEnds id first second) h =
      let e = own h.statement h.guaranteed in
      let pairs = h.at_fault.1 in
      let only = λ (s d : ℕ) (t : HasTraffic net policy h.statement s d). e.2.only s d (subst (λ i. HasTraffic net policy i s d) e.1 t) in
      absurd (first-is first second e.0.src e.0.dst (only first.0 first.1 pairs.has_first) (only second.0 second.1 pairs.has_second) pairs.before)
  at-no-fault few OutOfMemory h = refl
