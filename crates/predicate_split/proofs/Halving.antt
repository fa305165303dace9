-- Halves of the values.
use Rattle.std.proofs.Common.{◌≡◌, ℕ, zero, suc, ◌+◌, ◌*◌, ◌^◌, Bool, true, false, not, ◌&&◌, cond, List, [], ◌∷◌, ◌++◌, filter, Option, option_to_list, append_assoc, refl, sym, ◌∙◌, ap, ap₂, arith}
use Rattle.std.specs.List.{list_any}
use Rattle.std.proofs.lemmas.Nat.{pow-add}
use Rattle.predicate_split.specs.Parts.{least_within, is_whole, begins_below, has_none, joined_findings, closed_finding, find_others, find_in_halves}

pub twice : (k : ℕ) → 2 ^ suc k ≡ 2 ^ k + 2 ^ k
twice k = let e : 2 ^ (k + 1) ≡ 2 ^ k * 2 ^ 1 = pow-add 2 k 1 in let s : 2 ^ suc k ≡ 2 ^ (k + 1) = ap (λ n. 2 ^ n) (omega arith) in omega (arith, e, s)

none_inside : (p : ℕ × ℕ → Bool) (blocks : List (ℕ × ℕ)) → has_none blocks ≡ (has_none (filter p blocks) && has_none (filter (λ b. not (p b)) blocks))
none_inside p [] = refl
none_inside p (b ∷ rest) = by (p b)
  where
    and_false : (a : Bool) → false ≡ (a && false)
    and_false true = refl
    and_false false = refl

    by : (t : Bool) → false ≡ (has_none (cond t (b ∷ filter p rest) (filter p rest)) && has_none (cond (not t) (b ∷ filter (λ b. not (p b)) rest) (filter (λ b. not (p b)) rest)))
    by true = refl
    by false = and_false (has_none (filter p rest))

abbrev pub inner : ℕ → List (ℕ × ℕ) → List (ℕ × ℕ)
inner bits blocks = filter (λ b. not (is_whole bits b)) blocks

pub found-halves : (k low : ℕ) (blocks left right : List (ℕ × ℕ)) (named : List ℕ) → left ≡ filter (begins_below (low + 2 ^ k)) (inner (suc k) blocks) → right ≡ filter (λ b. not (begins_below (low + 2 ^ k) b)) (inner (suc k) blocks) →
    find_others (suc k) low blocks named ≡ closed_finding (list_any (is_whole (suc k)) blocks) (find_in_halves k low left right named)
found-halves k low blocks left right named l r =
    ap (λ t. closed_finding (list_any (is_whole (suc k)) blocks) (cond t (least_within (suc k) low named, []) (joined_findings (find_others k low (filter (begins_below (low + 2 ^ k)) (inner (suc k) blocks)) named) (find_others k (low + 2 ^ k) (filter (λ b. not (begins_below (low + 2 ^ k) b)) (inner (suc k) blocks)) named))))
    (none_inside (begins_below (low + 2 ^ k)) (inner (suc k) blocks))
    ∙ ap₂ (λ xs ys. closed_finding (list_any (is_whole (suc k)) blocks) (find_in_halves k low xs ys named)) (sym l) (sym r)

pub found-alone : (bits low : ℕ) (named : List ℕ) → find_others bits low [] named ≡ (least_within bits low named, [])
found-alone zero low named = refl
found-alone (suc k) low named = refl

-- A step of the search.

abbrev Finding : Type 0
Finding = Option ℕ × List ℕ

pub found-step : (bits k low middle : ℕ) (blocks left right : List (ℕ × ℕ)) (named : List ℕ) (closed : Bool) → bits ≡ suc k → middle ≡ low + 2 ^ k → left ≡ filter (begins_below middle) (inner bits blocks) → right ≡ filter (λ b. not (begins_below middle b)) (inner bits blocks) →
    closed ≡ list_any (is_whole bits) blocks → closed_finding closed (find_in_halves k low left right named) ≡ find_others bits low blocks named
found-step bits k low middle blocks left right named closed some mid l r c =
    ap (λ t. closed_finding t (find_in_halves k low left right named)) (c ∙ ap (λ n. list_any (is_whole n) blocks) some)
    ∙ sym (found-halves k low blocks left right named (l ∙ ap₂ (λ n m. filter (begins_below m) (inner n blocks)) some mid) (r ∙ ap₂ (λ n m. filter (λ b. not (begins_below m b)) (inner n blocks)) some mid))
    ∙ ap (λ n. find_others n low blocks named) (sym some)

pub free-own : (own : Option ℕ) (closed : Bool) (found whole : Finding) → closed ≡ false → closed_finding closed found ≡ whole → own ≡ found.0 → own ≡ whole.0
free-own own closed found whole free is e = e ∙ ap (λ (f : Finding). f.0) (ap (λ t. closed_finding t found) (sym free) ∙ is)

pub free-added : (before after : List ℕ) (closed : Bool) (found whole : Finding) → closed ≡ false → closed_finding closed found ≡ whole → after ≡ before ++ found.1 → after ≡ before ++ whole.1
free-added before after closed found whole free is e = e ∙ ap (λ (f : Finding). before ++ f.1) (ap (λ t. closed_finding t found) (sym free) ∙ is)

pub closed-added : (before after pushed : List ℕ) (own : Option ℕ) (closed : Bool) (found whole : Finding) → closed ≡ true → closed_finding closed found ≡ whole → own ≡ found.0 → after ≡ before ++ found.1 → pushed ≡ after ++ option_to_list own → pushed ≡ before ++ whole.1
closed-added before after pushed own closed found whole shut is o e p =
    p ∙ ap₂ (λ l (m : Option ℕ). l ++ option_to_list m) e o ∙ append_assoc before found.1 (option_to_list found.0) ∙ ap (λ (f : Finding). before ++ f.1) (ap (λ t. closed_finding t found) (sym shut) ∙ is)
