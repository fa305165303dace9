-- Which keys tell links and names apart.
use Rattle.std.proofs.Common.{◌≡◌, inl, inr, ◌<◌, ◌≤◌, ◌&&◌, ℕ, Bool, true, false, nat_eq, nat_lt, List, refl, sym, ◌∙◌, ap, ap₂, arith, cond}
use Rattle.std.proofs.lemmas.Bool.{eqb-true, eq-eqb, ltb-false, ltb-true}
use Rattle.merlin_model.specs.declared.network.Link.{Link}
use Rattle.merlin_model.specs.declared.network.DirectedLink.{DirectedLink}
use Rattle.std.specs.List.{IsDistinct}
use Rattle.merlin_model.specs.Networks.{AreDifferent}
use Rattle.topology_rules.specs.Clashes.{IsFirstRepeated}
use Rattle.topology_rules.proofs.KeyClashes.{no_clash_itself, first_clash_itself}
use Rattle.topology_rules.proofs.Lawful.{no_clash}
use Rattle.topology_rules.specs.Keys.{port_key, ends_key}
use Rattle.topology_rules.specs.Rules.{SharePort, AreParallel}

abbrev pub pair_eq : ℕ × ℕ → ℕ × ℕ → Bool
pair_eq x y = nat_eq x.0 y.0 && nat_eq x.1 y.1

both_true : (a b : Bool) → (a && b) ≡ true → (a ≡ true) × (b ≡ true)
both_true true b e = (refl, e)
both_true false b e = absurd (never e)
  where
    never : false ≡ true → ⊥
    never e = cc

pair_same : (x y : ℕ × ℕ) → pair_eq x y ≡ true → (x.0 ≡ y.0) × (x.1 ≡ y.1)
pair_same x y e = let both = both_true (nat_eq x.0 y.0) (nat_eq x.1 y.1) e in (eqb-true x.0 y.0 both.0, eqb-true x.1 y.1 both.1)

same_pair : (x y : ℕ × ℕ) → x.0 ≡ y.0 → x.1 ≡ y.1 → pair_eq x y ≡ true
same_pair x y e f = ap (λ b. b && nat_eq x.1 y.1) (eq-eqb x.0 y.0 e) ∙ eq-eqb x.1 y.1 f

pub port_told : (v w : DirectedLink) → pair_eq (port_key w) (port_key v) ≡ true → SharePort v w
port_told v w e = let same = pair_same (port_key w) (port_key v) e in (sym same.0, sym same.1)

pub port_untold : (v w : DirectedLink) → SharePort v w → pair_eq (port_key v) (port_key w) ≡ true
port_untold v w (e, f) = same_pair (port_key v) (port_key w) e f

pair_if : Bool → ℕ → ℕ → ℕ × ℕ
pair_if true a b = (a, b)
pair_if false a b = (b, a)

the_pair : (p : Bool) (a b : ℕ) → cond p (a, b) (b, a) ≡ pair_if p a b
unfolding pair_if
the_pair true a b = refl
the_pair false a b = refl

pub ends_told : (k l : Link) → pair_eq (ends_key l) (ends_key k) ≡ true → AreParallel k l
unfolding pair_if
ends_told k l e = by (nat_lt k.a k.b) (nat_lt l.a l.b) (pair_same (pair_if (nat_lt l.a l.b) l.a l.b) (pair_if (nat_lt k.a k.b) k.a k.b) (ap₂ pair_eq (sym (the_pair (nat_lt l.a l.b) l.a l.b)) (sym (the_pair (nat_lt k.a k.b) k.a k.b)) ∙ e))
  where
    by : (p q : Bool) → ((pair_if q l.a l.b).0 ≡ (pair_if p k.a k.b).0) × ((pair_if q l.a l.b).1 ≡ (pair_if p k.a k.b).1) → AreParallel k l
    by true true s = inl (sym s.0, sym s.1)
    by true false s = inr (sym s.0, sym s.1)
    by false true s = inr (sym s.1, sym s.0)
    by false false s = inl (sym s.1, sym s.0)

pub ends_untold : (k l : Link) → AreParallel k l → pair_eq (ends_key k) (ends_key l) ≡ true
ends_untold k l parallel = by (nat_lt k.a k.b) refl (nat_lt l.a l.b) refl parallel
  where
    less : (a b : ℕ) → nat_lt a b ≡ true → a < b
    less a b e = ltb-true a b e

    past : (a b : ℕ) → nat_lt a b ≡ false → b ≤ a
    past a b e = ltb-false a b e

    by : (p : Bool) → nat_lt k.a k.b ≡ p → (q : Bool) → nat_lt l.a l.b ≡ q → AreParallel k l → pair_eq (cond p (k.a, k.b) (k.b, k.a)) (cond q (l.a, l.b) (l.b, l.a)) ≡ true
    by true p true q (inl (e, f)) = same_pair (k.a, k.b) (l.a, l.b) e f
    by true p true q (inr (e, f)) = absurd (omega (arith, less k.a k.b p, less l.a l.b q, e, f))
    by true p false q (inl (e, f)) = absurd (omega (arith, less k.a k.b p, past l.a l.b q, e, f))
    by true p false q (inr (e, f)) = same_pair (k.a, k.b) (l.b, l.a) e f
    by false p true q (inl (e, f)) = absurd (omega (arith, past k.a k.b p, less l.a l.b q, e, f))
    by false p true q (inr (e, f)) = same_pair (k.b, k.a) (l.a, l.b) f e
    by false p false q (inl (e, f)) = same_pair (k.b, k.a) (l.b, l.a) f e
    by false p false q (inr (e, f)) = same_pair (k.b, k.a) (l.b, l.a) (omega (arith, past k.a k.b p, past l.a l.b q, e, f)) (omega (arith, past k.a k.b p, past l.a l.b q, e, f))

same_number : (x y : ℕ) → nat_eq y x ≡ true → x ≡ y
same_number x y e = sym (eqb-true y x e)

number_same : (x y : ℕ) → x ≡ y → nat_eq x y ≡ true
number_same x y e = eq-eqb x y e

-- numbers of which none stands twice
pub different : (ns : List ℕ) → IsDistinct nat_eq ns → AreDifferent ns
different ns d = no_clash_itself nat_eq (λ x y. x ≡ y) same_number number_same ns d

pub not_different : (ns : List ℕ) (place : ℕ) → IsFirstRepeated nat_eq ns place → AreDifferent ns → ⊥
not_different ns place r differ = no_clash (λ x y. x ≡ y) ns place differ (first_clash_itself nat_eq (λ x y. x ≡ y) same_number number_same ns place r)
