-- A lexeme has one value.
use Rattle.std.proofs.Common.{◌≡◌, ◌*◌, ◌++◌, inl, inr, ℕ, List, [], ◌∷◌, length, refl, sym, ◌∙◌, ap, subst, arith, length-append}
use Rattle.merlin_base.specs.Lexemes.{IsHexDigit, IsHexPair, IsOctet, AreJoined, of_octets, number_of, IsMac, IsIp, unit_of, IsRate}
use Rattle.merlin_base.proofs.Parts.{EndsAt, hex_pair_ends}
use Rattle.merlin_base.proofs.Octets.{octet_ends}
use Rattle.merlin_base.proofs.Rates.{unit-length}
use Rattle.topology_shape.proofs.Told.{some_one}

-- two ways to split a list, after as many elements
same_split : {X : Type 0} (f g r s : List X) → length f ≡ length g → f ++ r ≡ g ++ s → (f ≡ g) × (r ≡ s)
same_split [] [] r s n e = (refl, e)
same_split [] (y ∷ g) r s n e = absurd (omega arith)
same_split (x ∷ f) [] r s n e = absurd (omega arith)
same_split (x ∷ f) (y ∷ g) r s n e =
    let step = same_split f g r s (omega arith) cc in
    let fronts : f ≡ g = step.0 in
    (cc, step.1)

hex_digit_one : (c n m : ℕ) → IsHexDigit c n → IsHexDigit c m → n ≡ m
hex_digit_one c n m (inl p) (inl q) = omega (arith, p.0, q.0)
hex_digit_one c n m (inl p) (inr (inl q)) = omega (arith, p.0, p.1, q.0)
hex_digit_one c n m (inl p) (inr (inr q)) = omega (arith, p.0, p.1, q.0, q.1)
hex_digit_one c n m (inr (inl p)) (inl q) = omega (arith, p.0, q.0, q.1)
hex_digit_one c n m (inr (inl p)) (inr (inl q)) = omega (arith, p.0, q.0)
hex_digit_one c n m (inr (inl p)) (inr (inr q)) = omega (arith, p.0, p.1, p.2, q.0, q.1, q.2)
hex_digit_one c n m (inr (inr p)) (inl q) = omega (arith, p.0, p.1, q.0, q.1)
hex_digit_one c n m (inr (inr p)) (inr (inl q)) = omega (arith, p.0, p.1, p.2, q.0, q.1, q.2)
hex_digit_one c n m (inr (inr p)) (inr (inr q)) = omega (arith, p.0, q.0)

hex_pair_one : (t : List ℕ) (n m : ℕ) → IsHexPair t n → IsHexPair t m → n ≡ m
hex_pair_one [] n m p q = absurd p
hex_pair_one (a ∷ []) n m p q = absurd p
hex_pair_one (a ∷ b ∷ []) n m (h, l, ph, pl, e) (h', l', qh, ql, f) = omega (arith, hex_digit_one a h h' ph qh, hex_digit_one b l l' pl ql)
hex_pair_one (a ∷ b ∷ c ∷ t) n m p q = absurd p

octet_one : (t : List ℕ) (n m : ℕ) → IsOctet t n → IsOctet t m → n ≡ m
octet_one t n m p q = p.0.value ∙ sym q.0.value

-- parts that are joined have one list of values
joined_one : (part : List ℕ → ℕ → Type 0) (byte : ℕ) → EndsAt part byte → ((t : List ℕ) (n m : ℕ) → part t n → part t m → n ≡ m) → (ns ms : List ℕ) (text : List ℕ) → length ns ≡ length ms → AreJoined part byte text ns → AreJoined part byte text ms → ns ≡ ms
unfolding EndsAt
joined_one part byte ends one [] ms text count j k = absurd j
joined_one part byte ends one (n ∷ []) [] text count j k = absurd k
joined_one part byte ends one (n ∷ []) (m ∷ []) text count j k = ap (λ x. x ∷ []) (one text n m j k)
joined_one part byte ends one (n ∷ []) (m ∷ m' ∷ ms) text count j k = absurd (omega arith)
joined_one part byte ends one (n ∷ n' ∷ ns) [] text count j k = absurd k
joined_one part byte ends one (n ∷ n' ∷ ns) (m ∷ []) text count j k = absurd (omega arith)
joined_one part byte ends one (n ∷ n' ∷ ns) (m ∷ m' ∷ ms) text count (r, (f, pf, e), j) (s, (g, pg, e'), k) =
    let both : f ++ byte ∷ r ≡ g ++ byte ∷ s = sym e ∙ e' in
    let rests : r ≡ s = ends f g r s n m pf pg both in
    let longs : length f ≡ length g = omega (arith, ap length both, length-append f (byte ∷ r), length-append g (byte ∷ s), ap length rests) in
    let fronts = (same_split f g (byte ∷ r) (byte ∷ s) longs both).0 in
    let head : n ≡ m = one f n m pf (subst (λ (t : List ℕ). part t m) (sym fronts) pg) in
    let tail : n' ∷ ns ≡ m' ∷ ms = joined_one part byte ends one (n' ∷ ns) (m' ∷ ms) r (omega arith) j (subst (λ (t : List ℕ). AreJoined part byte t (m' ∷ ms)) (sym rests) k) in
    cc

pub mac_one : (t : List ℕ) (n m : ℕ) → IsMac t n → IsMac t m → n ≡ m
mac_one t n m (ns, count, j, e) (ms, count', k, f) = e ∙ (ap of_octets (joined_one IsHexPair 58 hex_pair_ends hex_pair_one ns ms t (count ∙ sym count') j k) ∙ sym f)

pub ip_one : (t : List ℕ) (n m : ℕ) → IsIp t n → IsIp t m → n ≡ m
ip_one t n m (ns, count, j, e) (ms, count', k, f) = e ∙ (ap of_octets (joined_one IsOctet 46 octet_ends octet_one ns ms t (count ∙ sym count') j k) ∙ sym f)

pub rate_one : (t : List ℕ) (n m : ℕ) → IsRate t n → IsRate t m → n ≡ m
rate_one t n m p q =
    let split = same_split p.number q.number p.unit q.unit (omega (arith, unit-length p.unit p.factor p.known, unit-length q.unit q.factor q.known, ap length (sym p.whole ∙ q.whole), length-append p.number p.unit, length-append q.number q.unit)) (sym p.whole ∙ q.whole) in
    let numbers : p.n ≡ q.n = p.decimal.value ∙ (ap number_of split.0 ∙ sym q.decimal.value) in
    let factors : p.factor ≡ q.factor = some_one (sym (ap unit_of split.1) ∙ p.known) q.known in
    p.value ∙ (ap (λ x. x * p.factor) numbers ∙ (ap (λ x. q.n * x) factors ∙ sym q.value))
