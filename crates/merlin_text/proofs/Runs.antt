-- The longest run at the front of a text.
use Rattle.std.proofs.Common.{◌≡◌, ◌<◌, ◌++◌, ℕ, zero, suc, List, [], ◌∷◌, length, take, drop, get_or, refl, arith, sym, subst}
use Rattle.std.specs.List.{All, AllByRecursion}
use Rattle.std.proofs.lemmas.List.Elements.{recursion_from_All}
use Rattle.merlin_text.specs.Tokens.{BeginsWith, EndsBefore, IsRun}

run_end : (Goes : ℕ → Type 0) (v r w s : List ℕ) → AllByRecursion Goes v → EndsBefore Goes r → AllByRecursion Goes w → EndsBefore Goes s → v ++ r ≡ w ++ s → v ≡ w
run_end Goes [] r [] s p q p' q' e = refl
run_end Goes [] [] (c ∷ w) s p q p' q' e = cc
run_end Goes [] (d ∷ r) (c ∷ w) s p q p' q' e = let same : d ≡ c = cc in absurd (q (subst Goes (sym same) p'.0))
run_end Goes (c ∷ v) r [] [] p q p' q' e = cc
run_end Goes (c ∷ v) r [] (d ∷ s) p q p' q' e = let same : d ≡ c = cc in absurd (q' (subst Goes (sym same) p.0))
run_end Goes (c ∷ v) r (d ∷ w) s p q p' q' e =
    let rest : v ≡ w = run_end Goes v r w s p.1 q p'.1 q' cc in
    let first : c ≡ d = cc in
    cc

-- A text begins with one run of a sort.
pub one_run : (Begins Goes : ℕ → Type 0) (v r w s : List ℕ) → IsRun Begins Goes v r → IsRun Begins Goes w s → v ++ r ≡ w ++ s → v ≡ w
one_run Begins Goes v r w s p q e = run_end Goes v r w s (recursion_from_All Goes v p.each) p.longest (recursion_from_All Goes w q.each) q.longest e

pub begins_with : (P : ℕ → Type 0) (text : List ℕ) → 0 < length text → P (get_or text 0 0) → BeginsWith P text
begins_with P [] some p = absurd (omega arith)
begins_with P (c ∷ cs) some p = p

-- where the first byte goes on, the bytes that go on are a run
pub front_run : (Begins Goes : ℕ → Type 0) (text : List ℕ) (n : ℕ) → ((c : ℕ) → Begins c → Goes c) → BeginsWith Begins text → All Goes (take n text) → EndsBefore Goes (drop n text) → IsRun Begins Goes (take n text) (drop n text)
front_run Begins Goes [] n goes first each longest = absurd first
front_run Begins Goes (c ∷ cs) zero goes first each longest = absurd (longest (goes c first))
front_run Begins Goes (c ∷ cs) (suc n) goes first each longest = record { first = first; each = each; longest = longest }

pub run_some : (Begins Goes : ℕ → Type 0) (text : List ℕ) (n : ℕ) → ((c : ℕ) → Begins c → Goes c) → BeginsWith Begins text → All Goes (take n text) → EndsBefore Goes (drop n text) → 0 < n
run_some Begins Goes [] n goes first each longest = absurd first
run_some Begins Goes (c ∷ cs) zero goes first each longest = absurd (longest (goes c first))
run_some Begins Goes (c ∷ cs) (suc n) goes first each longest = omega arith

-- the first byte of a text and of its front
pub heads : (P Q : ℕ → Type 0) (text front rest : List ℕ) → BeginsWith P text → BeginsWith Q front → text ≡ front ++ rest → (c : ℕ) × P c × Q c
heads P Q [] front rest p q e = absurd p
heads P Q (c ∷ text) [] rest p q e = absurd q
heads P Q (c ∷ text) (d ∷ front) rest p q e = let same : d ≡ c = cc in (c, p, subst Q same q)

pub begins_append : (P : ℕ → Type 0) (front rest : List ℕ) → BeginsWith P front → BeginsWith P (front ++ rest)
begins_append P [] rest p = absurd p
begins_append P (c ∷ front) rest p = p

pub begins_some : (P : ℕ → Type 0) (text : List ℕ) → BeginsWith P text → 0 < length text
begins_some P [] p = absurd p
begins_some P (c ∷ text) p = omega arith

pub weaker : (P Q : ℕ → Type 0) (text : List ℕ) → ((c : ℕ) → P c → Q c) → BeginsWith P text → BeginsWith Q text
weaker P Q [] more p = absurd p
weaker P Q (c ∷ cs) more p = more c p
