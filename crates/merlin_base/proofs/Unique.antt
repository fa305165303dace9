-- A text is a lexeme of one sort at most, with one value.
use Rattle.std.proofs.Common.{◌≡◌, ◌≢◌, ◌+◌, ◌*◌, ◌++◌, ℕ, List, [], ◌∷◌, length, refl, arith, sym, ◌∙◌, ap, subst, length-append}
use Rattle.std.specs.Prelude.{Some}
use Rattle.std.specs.List.{AllByRecursion}
use Rattle.std.proofs.lemmas.List.{append_cancel_right, append_cancel_left}
use Rattle.std.proofs.lemmas.List.Elements.{recursion_from_All}
use Rattle.merlin_base.specs.Lexemes.{IsDigit, IsDecimal, IsHexDigit, IsHexPair, IsOctet, AreJoined, IsMac, IsIp, IsRate, of_octets, unit_of}
use Rattle.merlin_base.proofs.Parts.{EndsAt, hex_pair_ends}
use Rattle.merlin_base.proofs.Octets.{octet_ends, digits_lack, no_place}
use Rattle.merlin_base.proofs.Rates.{of_units, IsRate-front}

pub IsDecimal-one : (text : List ℕ) (n m : ℕ) → IsDecimal text n → IsDecimal text m → n ≡ m
IsDecimal-one text n m p q = p.value ∙ sym q.value

hex_digit_one : (c a b : ℕ) → IsHexDigit c a → IsHexDigit c b → a ≡ b
hex_digit_one c a b p q = grind arith

hex_pair_one : (text : List ℕ) (n m : ℕ) → IsHexPair text n → IsHexPair text m → n ≡ m
hex_pair_one (a ∷ b ∷ []) n m (h, l, high, low, e) (h', l', high', low', e') =
    let one : h ≡ h' = hex_digit_one a h h' high high' in
    let two : l ≡ l' = hex_digit_one b l l' low low' in
    omega arith
hex_pair_one [] n m p q = absurd p
hex_pair_one (a ∷ []) n m p q = absurd p
hex_pair_one (a ∷ b ∷ c ∷ rest) n m p q = absurd p

-- parts that each have one value are joined in one way
joined_one : (part : List ℕ → ℕ → Type 0) (byte : ℕ) → EndsAt part byte → ((text : List ℕ) (n m : ℕ) → part text n → part text m → n ≡ m)
    → (text ns ms : List ℕ) → length ns ≡ length ms → AreJoined part byte text ns → AreJoined part byte text ms → ns ≡ ms
unfolding EndsAt
joined_one part byte ends one text [] ms k p q = absurd p
joined_one part byte ends one text (n ∷ ns) [] k p q = absurd q
joined_one part byte ends one text (n ∷ []) (m ∷ []) k p q = ap (λ (x : ℕ). x ∷ []) (one text n m p q)
joined_one part byte ends one text (n ∷ []) (m ∷ m2 ∷ ms) k p q = absurd (omega arith)
joined_one part byte ends one text (n ∷ n2 ∷ ns) (m ∷ []) k p q = absurd (omega arith)
joined_one part byte ends one text (n ∷ n2 ∷ ns) (m ∷ m2 ∷ ms) k (rest, (first, is, split), joined) (rest', (first', is', split'), joined') =
    let texts : first ++ byte ∷ rest ≡ first' ++ byte ∷ rest' = sym split ∙ split' in
    let rests : rest ≡ rest' = ends first first' rest rest' n m is is' texts in
    let firsts : first ≡ first' = append_cancel_right first first' (byte ∷ rest') (ap (λ (r : List ℕ). first ++ byte ∷ r) (sym rests) ∙ texts) in
    let value : n ≡ m = one first' n m (subst (λ (f : List ℕ). part f n) firsts is) is' in
    let values : n2 ∷ ns ≡ m2 ∷ ms = joined_one part byte ends one rest' (n2 ∷ ns) (m2 ∷ ms) (omega arith) (subst (λ (r : List ℕ). AreJoined part byte r (n2 ∷ ns)) rests joined) joined' in
    cc

pub IsMac-one : (text : List ℕ) (n m : ℕ) → IsMac text n → IsMac text m → n ≡ m
IsMac-one text n m (ns, six, joined, value) (ms, six', joined', value') =
    value ∙ ap of_octets (joined_one IsHexPair 58 hex_pair_ends hex_pair_one text ns ms (six ∙ sym six') joined joined') ∙ sym value'

octet_one : (text : List ℕ) (n m : ℕ) → IsOctet text n → IsOctet text m → n ≡ m
octet_one text n m p q = IsDecimal-one text n m p.0 q.0

pub IsIp-one : (text : List ℕ) (n m : ℕ) → IsIp text n → IsIp text m → n ≡ m
IsIp-one text n m (ns, four, joined, value) (ms, four', joined', value') =
    value ∙ ap of_octets (joined_one IsOctet 46 octet_ends octet_one text ns ms (four ∙ sym four') joined joined') ∙ sym value'

pub IsRate-one : (text : List ℕ) (n m : ℕ) → IsRate text n → IsRate text m → n ≡ m
IsRate-one text n m p q =
    let numbers : p.number ≡ q.number = sym (IsRate-front text n p) ∙ IsRate-front text m q in
    let units : p.unit ≡ q.unit = append_cancel_left q.number p.unit q.unit (ap (λ (f : List ℕ). f ++ p.unit) (sym numbers) ∙ sym p.whole ∙ q.whole) in
    let same : p.n ≡ q.n = IsDecimal-one q.number p.n q.n (subst (λ (f : List ℕ). IsDecimal f p.n) numbers p.decimal) q.decimal in
    let factors : p.factor ≡ q.factor = cc (p.known, q.known, ap unit_of units) in
    cc (p.value, q.value)

-- a number has no dot, and an address has
pub decimal_no_ip : (text : List ℕ) (n ip : ℕ) → IsDecimal text n → IsIp text ip → ⊥
decimal_no_ip text n ip is ([], four, joined, value) = joined
decimal_no_ip text n ip is (a ∷ [], four, joined, value) = absurd (omega arith)
decimal_no_ip text n ip is (a ∷ b ∷ ns, four, (rest, (first, octet, split), joined), value) =
    no_place 46 first rest (subst (AllByRecursion (λ (other : ℕ). other ≢ 46)) split (digits_lack text (recursion_from_All IsDigit text is.digits)))

append_lacks : (f g : List ℕ) → AllByRecursion (λ (other : ℕ). other ≢ 46) f → AllByRecursion (λ (other : ℕ). other ≢ 46) g → AllByRecursion (λ (other : ℕ). other ≢ 46) (f ++ g)
append_lacks [] g p q = q
append_lacks (c ∷ f) g p q = (p.0, append_lacks f g p.1 q)

unit_lacks : (text : List ℕ) (factor : ℕ) → unit_of text ≡ Some factor → AllByRecursion (λ (other : ℕ). other ≢ 46) text
unit_lacks text factor known =
    of_units (λ unit. AllByRecursion (λ (other : ℕ). other ≢ 46) unit)
    ((λ e. omega arith), ((λ e. omega arith), ((λ e. omega arith), ((λ e. omega arith), tt))))
    ((λ e. omega arith), ((λ e. omega arith), ((λ e. omega arith), ((λ e. omega arith), tt))))
    ((λ e. omega arith), ((λ e. omega arith), ((λ e. omega arith), ((λ e. omega arith), tt))))
    ((λ e. omega arith), ((λ e. omega arith), ((λ e. omega arith), ((λ e. omega arith), tt))))
    ((λ e. omega arith), ((λ e. omega arith), ((λ e. omega arith), ((λ e. omega arith), tt))))
    ((λ e. omega arith), ((λ e. omega arith), ((λ e. omega arith), ((λ e. omega arith), tt))))
    text factor known

-- a rate has no dot
pub rate_lacks : (text : List ℕ) (rate : ℕ) → IsRate text rate → AllByRecursion (λ (other : ℕ). other ≢ 46) text
rate_lacks text rate is =
    subst (AllByRecursion (λ (other : ℕ). other ≢ 46)) (sym is.whole)
    (append_lacks is.number is.unit (digits_lack is.number (recursion_from_All IsDigit is.number is.decimal.digits)) (unit_lacks is.unit is.factor is.known))

pub rate_no_ip : (text : List ℕ) (rate ip : ℕ) → IsRate text rate → IsIp text ip → ⊥
rate_no_ip text rate ip is ([], four, joined, value) = joined
rate_no_ip text rate ip is (a ∷ [], four, joined, value) = absurd (omega arith)
rate_no_ip text rate ip is (a ∷ b ∷ ns, four, (rest, (first, octet, split), joined), value) =
    no_place 46 first rest (subst (AllByRecursion (λ (other : ℕ). other ≢ 46)) split (rate_lacks text rate is))

back_digits : (f g : List ℕ) → AllByRecursion IsDigit (f ++ g) → AllByRecursion IsDigit g
back_digits [] g p = p
back_digits (c ∷ f) g p = back_digits f g p.1

-- a number has digits alone, and a rate has a unit
pub decimal_no_rate : (text : List ℕ) (n rate : ℕ) → IsDecimal text n → IsRate text rate → ⊥
decimal_no_rate text n rate is rated =
    let unit = back_digits rated.number rated.unit (subst (AllByRecursion IsDigit) rated.whole (recursion_from_All IsDigit text is.digits)) in
    of_units (λ u. AllByRecursion IsDigit u → ⊥)
    (λ p. omega (arith, p.0)) (λ p. omega (arith, p.0)) (λ p. omega (arith, p.0)) (λ p. omega (arith, p.0)) (λ p. omega (arith, p.0)) (λ p. omega (arith, p.0))
    rated.unit rated.factor rated.known unit

pair_length : (text : List ℕ) (n : ℕ) → IsHexPair text n → length text ≡ 2
pair_length (a ∷ b ∷ []) n p = refl
pair_length [] n p = absurd p
pair_length (a ∷ []) n p = absurd p
pair_length (a ∷ b ∷ c ∷ rest) n p = absurd p

pairs_length : (text ns : List ℕ) → AreJoined IsHexPair 58 text ns → length text + 1 ≡ 3 * length ns
pairs_length text [] p = absurd p
pairs_length text (n ∷ []) p = omega (arith, pair_length text n p)
pairs_length text (n ∷ m ∷ ns) (rest, (first, pair, split), joined) =
    omega (arith, pair_length first n pair, pairs_length rest (m ∷ ns) joined, ap length split, length-append first (58 ∷ rest))

pub IsMac-length : (text : List ℕ) (n : ℕ) → IsMac text n → length text ≡ 17
IsMac-length text n (ns, six, joined, value) = omega (arith, pairs_length text ns joined)
