-- Where all cells together are few, those of each two hosts are.
use Rattle.std.proofs.Common.{◌≡◌, ◌≤◌, ◌==◌, ℕ, inl, inr, Bool, true, false, cond, List, [], ◌∷◌, length, Option, None, Some, refl, ◌∙◌, ap, arith}
use Rattle.std.specs.Prelude.{sum_by, is_some, IsSome}
use Rattle.std.specs.List.{range_with_len}
use Rattle.std.proofs.lemmas.Bool.{eqb-true}
use Rattle.std.proofs.lemmas.List.Sums.{sum_by-cons}
use Rattle.merlin_model.specs.declared.network.HostAddress.{HostAddress}
use Rattle.merlin_model.specs.declared.network.LocationKind.{LocationKind}
use Rattle.merlin_model.specs.Networks.{Network, IsHost, kind_of, address_at}
use Rattle.merlin_model.specs.Policies.{Policy}
use Rattle.merlin_model.proofs.Members.{In, filter_in}
use Rattle.rules_model.specs.Tables.{is_host_kind, all_hosts}
use Rattle.predicate_split.specs.declared.fault.TheConstants.{MAX_CELLS}
use Rattle.configuration_model.specs.Pairs.{pair_cells, cells_of_pair, count_of_cells}
use Rattle.queue_and_tc.specs.Shares.{HasFewCells}
use Rattle.policy_configuration.proofs.Lines.{known-below}
use Rattle.policy_configuration.proofs.Short.{range-in}

sum-over : {X : Type 0} (f : X → ℕ) (xs : List X) (x : X) → In x xs → f x ≤ sum_by f xs
sum-over f [] x i = absurd i
sum-over f (y ∷ xs) x (inl e) = let all = sum_by-cons f y xs in let same = ap f e in omega (arith, all, same)
sum-over f (y ∷ xs) x (inr i) = let all = sum_by-cons f y xs in let rest = sum-over f xs x i in omega (arith, all, rest)

host-among : (net : Network) (h : ℕ) → IsHost net h → In h (all_hosts net)
host-among net h host = by (kind_of net h) refl host
  where
    by : (k : Option LocationKind) → kind_of net h ≡ k → IsSome (address_at k) → In h (all_hosts net)
    by None is some = let no : ⊥ = cc in absurd no
    by (Some k) is some =
        filter_in (λ loc. is_host_kind (kind_of net loc)) (range_with_len 0 (length net.locations)) h
        (range-in 0 (length net.locations) h (omega arith) (let lt = known-below net h k is in omega (arith, lt)))
        (ap is_host_kind is ∙ found (address_at (Some k)) some)
      where
        found : (o : Option HostAddress) → IsSome o → is_some o ≡ true
        found None some = let no : ⊥ = cc in absurd no
        found (Some a) some = refl

pub few-between : (net : Network) (policy : Policy) → count_of_cells net policy ≤ MAX_CELLS → HasFewCells net policy
few-between net policy few s d source dest other =
    let one = sum-over (cells_of_pair net policy s) (all_hosts net) d (host-among net d dest) in
    let all = sum-over (λ s. sum_by (cells_of_pair net policy s) (all_hosts net)) (all_hosts net) s (host-among net s source) in
    by (s == d) refl (omega (arith, one, all, few))
  where
    by : (b : Bool) → (s == d) ≡ b → cond b 0 (length (pair_cells net policy s d)) ≤ MAX_CELLS → length (pair_cells net policy s d) ≤ MAX_CELLS
    by true e le = absurd (other (eqb-true s d e))
    by false e le = le
