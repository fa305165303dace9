-- The rates of lines.
use Rattle.std.proofs.Common.{◌≡◌, ℕ, zero, suc, ◌<◌, List, [], None, ◌∷◌, ◌++◌, length, get_or, set, refl, ap}
use Rattle.std.proofs.lemmas.List.{length-map, get_or-map}
use Rattle.fair_share.specs.declared.share.Share.{Share}
use Rattle.fair_share.specs.Shares.{share_rates}

pub rates-long : (ss : List Share) → length (share_rates ss) ≡ length ss
rates-long ss = length-map ss (λ s. s.rate)

-- what stands where there is no line
abbrev pub no_share : Share
no_share = record { rate = 0; cap = None }

pub rate-at : (ss : List Share) (i : ℕ) → i < length ss → get_or (share_rates ss) i 0 ≡ (get_or ss i no_share).rate
rate-at ss i l = get_or-map (λ s. s.rate) ss i no_share 0 l

pub rates-set : (ss : List Share) (i : ℕ) (s : Share) → share_rates (set ss i s) ≡ set (share_rates ss) i s.rate
rates-set [] i s = refl
rates-set (x ∷ ss) zero s = refl
rates-set (x ∷ ss) (suc i) s = ap (λ xs. x.rate ∷ xs) (rates-set ss i s)

pub rates-push : (ss : List Share) (s : Share) → share_rates (ss ++ s ∷ []) ≡ share_rates ss ++ s.rate ∷ []
rates-push [] s = refl
rates-push (x ∷ ss) s = ap (λ xs. x.rate ∷ xs) (rates-push ss s)
