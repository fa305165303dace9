-- Texts with another between neighbours.
use Rattle.std.proofs.Common.{◌≡◌, ◌+◌, ◌<◌, ℕ, zero, suc, List, [], ◌∷◌, ◌++◌, length, take, get_or, sym, ap, ◌∙◌, arith, add-one, append_assoc}
use Rattle.std.proofs.Math.Seq.{take-suc}
use Rattle.std.proofs.lemmas.Grind.{flat_map-append}
use Rattle.std.proofs.lemmas.List.{append-nil}
use Rattle.std.specs.List.{join_by}

pub join_by-first : {X : Type 0} (f : X → List ℕ) (between : List ℕ) (xs : List X) (d : X) → 0 < length xs → join_by f between (take 1 xs) ≡ f (get_or xs 0 d)
join_by-first f between [] d lt = absurd (omega arith)
join_by-first f between (x ∷ xs) d lt = append-nil (f x)

pub join_by-next : {X : Type 0} (f : X → List ℕ) (between : List ℕ) (xs : List X) (i : ℕ) (d : X) → 0 < i → i < length xs → join_by f between (take (i + 1) xs) ≡ join_by f between (take i xs) ++ (between ++ f (get_or xs i d))
join_by-next f between [] i d more lt = absurd (omega arith)
join_by-next f between (x ∷ xs) zero d more lt = absurd (omega arith)
join_by-next f between (x ∷ xs) (suc i) d more lt =
    rw (add-one, take-suc xs i d (omega arith), flat_map-append) (simp (append-nil, append_assoc))

-- one more text is written, after a text that stands between neighbours
pub written_next : {X : Type 0} (f : X → List ℕ) (between : List ℕ) (xs : List X) (i : ℕ) (d : X) (first old mid new : List ℕ) → 0 < i → i < length xs → old ≡ first ++ join_by f between (take i xs) → mid ≡ old ++ between → new ≡ mid ++ f (get_or xs i d) → new ≡ first ++ join_by f between (take (i + 1) xs)
written_next f between xs i d first old mid new more lt kept middle last =
    last ∙ ap (λ ys. ys ++ f (get_or xs i d)) (middle ∙ ap (λ ys. ys ++ between) kept)
    ∙ append_assoc (first ++ join_by f between (take i xs)) between (f (get_or xs i d))
    ∙ append_assoc first (join_by f between (take i xs)) (between ++ f (get_or xs i d))
    ∙ ap (λ ys. first ++ ys) (sym (join_by-next f between xs i d more lt))

-- the first text is written
pub written_first : {X : Type 0} (f : X → List ℕ) (between : List ℕ) (xs : List X) (i : ℕ) (d : X) (first old mid new : List ℕ) → i ≡ 0 → i < length xs → old ≡ first ++ join_by f between (take i xs) → mid ≡ old → new ≡ mid ++ f (get_or xs i d) → new ≡ first ++ join_by f between (take (i + 1) xs)
written_first f between xs zero d first old mid new none lt kept middle last =
    last ∙ ap (λ ys. ys ++ f (get_or xs 0 d)) (middle ∙ kept ∙ append-nil first) ∙ ap (λ ys. first ++ ys) (sym (join_by-first f between xs d lt))
written_first f between xs (suc i) d first old mid new none lt kept middle last = absurd (omega arith)
