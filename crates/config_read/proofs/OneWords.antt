-- What single words tell: numbers, addresses, and the places of names in a network.
use Rattle.std.proofs.Common.{◌≡◌, ◌≢◌, ℕ, zero, suc, ◌≤◌, ◌<◌, ◌^◌, false, List, [], ◌∷◌, ◌++◌, map, length, get_or, unwrap_or, option_map, refl, sym, ◌∙◌, ap, subst, arith, lit<}
use Rattle.std.proofs.lemmas.List.{append_cancel_left, append_cancel_right, length-map}
use Rattle.std.proofs.lemmas.List.Elements.{recursion_from_All}
use Rattle.std.proofs.lemmas.Option.{slice_get-map, unwrap_or-slice_get}
use Rattle.std.proofs.lemmas.Fmt.{digits_is_IsNumeral}
use Rattle.std.specs.Prelude.{slice_get, codes}
use Rattle.std.specs.List.{AllByRecursion, join_with_byte}
use Rattle.std.specs.Fmt.{decimal, digits}
use Rattle.std.specs.Str.Parse.{digits_value}
use Rattle.merlin_model.specs.Networks.{Network, IsNetwork, AreDifferent}
use Rattle.merlin_base.specs.Lexemes.{IsDigit, IsMac, IsIp}
use Rattle.merlin_base.specs.Addresses.{mac_text, ip_text}
use Rattle.merlin_base.proofs.Cutting.{Free, free_middle, cut_once}
use Rattle.merlin_base.proofs.Decimals.{decimal_same, is_decimal}
use Rattle.merlin_base.proofs.Unique.{IsMac-one, IsIp-one}
use Rattle.packet_model.proofs.Printed.{mac_reads_back, ip_reads_back}
use Rattle.config_text.specs.Words.{joined_by_commas}
use Rattle.config_text.specs.Lines.{name_at, function_name, rate_with_unit}
use Rattle.config_lines.specs.Words.{IsLimited, HasFewDigits, IsLocation, IsLineFunction}
use Rattle.config_lines.specs.Parts.{IsMacNumber, IsIpNumber, HasTwoBytes}
use Rattle.config_lines.proofs.Then.{unit_free}

-- Numbers and addresses.

pub short_same : (least most m n : ℕ) → most < 10 ^ 19 → IsLimited least most m → IsLimited least most n → decimal m ≡ decimal n → m ≡ n
short_same least most m n top f g e = decimal_same m n (let h = f.high in omega arith) (let h = g.high in omega arith) e

pub double_same : (m n : ℕ) → HasTwoBytes m → HasTwoBytes n → decimal m ≡ decimal n → m ≡ n
double_same m n f g e = decimal_same m n (omega arith) (omega arith) e

pub rate_same : (m n : ℕ) → HasFewDigits m → HasFewDigits n → rate_with_unit m ≡ rate_with_unit n → m ≡ n
rate_same m n f g e = decimal_same m n f g (append_cancel_right (decimal m) (decimal n) (codes "kbit") e)

pub mac_same : (m n : ℕ) → IsMacNumber m → IsMacNumber n → mac_text m ≡ mac_text n → m ≡ n
mac_same m n f g e = IsMac-one (mac_text n) m n (subst (λ t. IsMac t m) e (mac_reads_back m f)) (mac_reads_back n g)

pub ip_same : (m n : ℕ) → IsIpNumber m → IsIpNumber n → ip_text m ≡ ip_text n → m ≡ n
ip_same m n f g e = IsIp-one (ip_text n) m n (subst (λ t. IsIp t m) e (ip_reads_back m f)) (ip_reads_back n g)

class_small : 65536 < 16 ^ 64
class_small = lit< tt

pub class_same : (m n : ℕ) → IsLimited 1 65535 m → IsLimited 1 65535 n → digits 16 false m ≡ digits 16 false n → m ≡ n
class_same m n f g e =
    let t = class_small in let a = f.high in let b = g.high in
    sym (digits_is_IsNumeral 16 false (omega arith) (omega arith) m (omega arith)).1 ∙ ap (digits_value 16) e ∙ (digits_is_IsNumeral 16 false (omega arith) (omega arith) n (omega arith)).1

-- a number begins with a digit
pub no_letter : (n : ℕ) (rest : List ℕ) (letter : ℕ) → n < 10 ^ 19 → 57 < letter → decimal n ≡ letter ∷ rest → ⊥
no_letter n rest letter small high e = (let d = (subst (AllByRecursion IsDigit) e (recursion_from_All IsDigit (decimal n) (is_decimal n small).digits)).0 in omega arith)

-- Names.

none_like : {X : Type 0} (x d : X) (xs : List X) (i : ℕ) → AllByRecursion (λ other. x ≢ other) xs → i < length xs → x ≡ get_or xs i d → ⊥
none_like x d [] i all h e = absurd (omega arith)
none_like x d (y ∷ ys) zero all h e = all.0 e
none_like x d (y ∷ ys) (suc i) all h e = none_like x d ys i all.1 (omega arith) e

one_place : {X : Type 0} (d : X) (xs : List X) (i j : ℕ) → AreDifferent xs → i < length xs → j < length xs → get_or xs i d ≡ get_or xs j d → i ≡ j
one_place d [] i j differ f g e = absurd (omega arith)
one_place d (x ∷ xs) zero zero differ f g e = refl
one_place d (x ∷ xs) zero (suc j) differ f g e = absurd (none_like x d xs j differ.0 (omega arith) e)
one_place d (x ∷ xs) (suc i) zero differ f g e = absurd (none_like x d xs i differ.0 (omega arith) (sym e))
one_place d (x ∷ xs) (suc i) (suc j) differ f g e = ap suc (one_place d xs i j differ.1 (omega arith) (omega arith) e)

front_differs : {X : Type 0} (xs ys : List X) → AreDifferent (xs ++ ys) → AreDifferent xs
front_differs [] ys differ = tt
front_differs {X} (x ∷ xs) ys differ = (front xs differ.0, front_differs xs ys differ.1)
  where
    front : (zs : List X) → AllByRecursion (λ other. x ≢ other) (zs ++ ys) → AllByRecursion (λ other. x ≢ other) zs
    front [] all = tt
    front (z ∷ zs) all = (all.0, front zs all.1)

rest_differs : {X : Type 0} (xs ys : List X) → AreDifferent (xs ++ ys) → AreDifferent ys
rest_differs [] ys differ = differ
rest_differs (x ∷ xs) ys differ = rest_differs xs ys differ.1

named_at : {X : Type 0} (name : X → List ℕ) (xs : List X) (i : ℕ) → unwrap_or (option_map name (slice_get xs i)) [] ≡ get_or (map name xs) i []
named_at name xs i = ap (λ o. unwrap_or o []) (sym (slice_get-map name xs i)) ∙ unwrap_or-slice_get (map name xs) i []

pub one_named : {X : Type 0} (name : X → List ℕ) (xs : List X) (i j : ℕ) → AreDifferent (map name xs) → i < length xs → j < length xs → unwrap_or (option_map name (slice_get xs i)) [] ≡ unwrap_or (option_map name (slice_get xs j)) [] → i ≡ j
one_named name xs i j differ f g e =
    let size = length-map xs name in
    one_place [] (map name xs) i j differ (omega arith) (omega arith) (sym (named_at name xs i) ∙ e ∙ named_at name xs j)

pub location_names_differ : (net : Network) → IsNetwork net → AreDifferent (map (λ l. l.name) net.locations)
location_names_differ net is = front_differs (map (λ l. l.name) net.locations) (map (λ f. f.name) net.functions) is.names

pub location_same : (net : Network) (a b : ℕ) → IsNetwork net → IsLocation net a → IsLocation net b → name_at net a ≡ name_at net b → a ≡ b
location_same net a b is f g e =
    one_named (λ l. l.name) net.locations a b (location_names_differ net is) f.within g.within e

pub function_same : (net : Network) (a b : ℕ) → IsNetwork net → IsLineFunction net a → IsLineFunction net b → function_name net.functions a ≡ function_name net.functions b → a ≡ b
function_same net a b is f g e =
    one_named (λ f. f.name) net.functions a b (rest_differs (map (λ l. l.name) net.locations) (map (λ f. f.name) net.functions) is.names) f.within g.within e

-- Words that are joined.

heads : {X : Type 0} (a b : X) (x y : List X) → a ∷ x ≡ b ∷ y → a ≡ b
heads a b x y e = cc

-- texts that lack the byte are told by how they are joined by it
pub joined_once : (byte : ℕ) (x y : List ℕ) (xs ys : List (List ℕ)) → AllByRecursion (Free byte) (x ∷ xs) → AllByRecursion (Free byte) (y ∷ ys) → join_with_byte byte (x ∷ xs) ≡ join_with_byte byte (y ∷ ys) → x ∷ xs ≡ y ∷ ys
joined_once byte x y [] [] f g e = ap (λ z. z ∷ []) e
joined_once byte x y [] (v ∷ ys) f g e = absurd (free_middle byte y (join_with_byte byte (v ∷ ys)) (subst (Free byte) e f.0))
joined_once byte x y (u ∷ xs) [] f g e = absurd (free_middle byte x (join_with_byte byte (u ∷ xs)) (subst (Free byte) (sym e) g.0))
joined_once byte x y (u ∷ xs) (v ∷ ys) f g e =
    let cut = cut_once byte x y (join_with_byte byte (u ∷ xs)) (join_with_byte byte (v ∷ ys)) f.0 g.0 e in
    (λ i. cut.front i ∷ joined_once byte u v xs ys f.1 g.1 cut.rest i)

-- a part that is joined by commas is not the word for none
pub IsPart : List ℕ → List ℕ → Type 0
IsPart none text = Free 44 text × (text ≢ none)

parts_free : (none : List ℕ) (xs : List (List ℕ)) → AllByRecursion (IsPart none) xs → AllByRecursion (Free 44) xs
unfolding IsPart
parts_free none [] all = tt
parts_free none (x ∷ xs) all = (all.0.0, parts_free none xs all.1)

pub commas_once : (none : List ℕ) (xs ys : List (List ℕ)) → Free 44 none → AllByRecursion (IsPart none) xs → AllByRecursion (IsPart none) ys → joined_by_commas none xs ≡ joined_by_commas none ys → xs ≡ ys
unfolding IsPart
commas_once none [] [] lacks f g e = refl
commas_once none [] (y ∷ []) lacks f g e = absurd (g.0.1 (sym e))
commas_once none [] (y ∷ v ∷ ys) lacks f g e = absurd (free_middle 44 y (join_with_byte 44 (v ∷ ys)) (subst (Free 44) e lacks))
commas_once none (x ∷ []) [] lacks f g e = absurd (f.0.1 e)
commas_once none (x ∷ u ∷ xs) [] lacks f g e = absurd (free_middle 44 x (join_with_byte 44 (u ∷ xs)) (subst (Free 44) (sym e) lacks))
commas_once none (x ∷ xs) (y ∷ ys) lacks f g e = joined_once 44 x y xs ys (parts_free none (x ∷ xs) f) (parts_free none (y ∷ ys) g) e

pub is_part : (none text : List ℕ) → Free 44 text → (text ≢ none) → IsPart none text
unfolding IsPart
is_part none text f g = (f, g)
