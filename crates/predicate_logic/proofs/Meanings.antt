-- A residue holds where its predicate does.
use Rattle.std.proofs.Common.{◌≡◌, ◌<◌, ℕ, zero, suc, Bool, true, false, not, ◌&&◌, ◌||◌, ◌==◌, cond, List, [], ◌∷◌, length, get_or, filter, refl, sym, ◌∙◌, ap, ap₂, arith}
use Rattle.std.specs.List.{AllByRecursion, list_all, list_any}
use Rattle.merlin_model.specs.declared.policy.Field.{Field}
use Rattle.merlin_model.specs.declared.policy.Field.TheVariants.{EthSrc, EthDst, IpSrc, IpDst, Proto, Sport, Dport}
use Rattle.merlin_model.specs.declared.policy.Test.{Test}
use Rattle.merlin_model.specs.declared.policy.Test.TheVariants.{Is, Port, Within}
use Rattle.merlin_model.specs.declared.policy.Pred.{Pred, Yes, No, Test as Tests, All, All', AnyOf, AnyOf', Not, Not'}
use Rattle.merlin_model.specs.Packets.{Packet, field_of}
use Rattle.merlin_model.specs.Predicates.{first_bits, passes, holds, All-holds, AnyOf-holds, Not-holds}
use Rattle.predicate_logic.specs.Members.{by_members}
use Rattle.predicate_logic.specs.Residues.{field_number, same_field, verdict, is_yes, is_no, all_together, any_together, folded_all, folded_any, folded_not, test_residue, residue, residues}
use Rattle.predicate_logic.proofs.Shapes.{residue-All, residue-AnyOf, residue-Not}

abbrev judged : Packet → Pred → Bool
judged p pred = holds pred p

-- Folding keeps what holds.

all_together-holds : (preds : List Pred) (p : Packet) → holds (all_together preds) p ≡ list_all (judged p) preds
all_together-holds [] p = refl
all_together-holds (pred ∷ []) p = by (holds pred p)
  where
    by : (b : Bool) → b ≡ (b && true)
    by true = refl
    by false = refl
all_together-holds (pred ∷ next ∷ rest) p = All-holds (pred ∷ next ∷ rest) p

any_together-holds : (preds : List Pred) (p : Packet) → holds (any_together preds) p ≡ list_any (judged p) preds
any_together-holds [] p = refl
any_together-holds (pred ∷ []) p = by (holds pred p)
  where
    by : (b : Bool) → b ≡ (b || false)
    by true = refl
    by false = refl
any_together-holds (pred ∷ next ∷ rest) p = AnyOf-holds (pred ∷ next ∷ rest) p

yes-holds : (pred : Pred) (p : Packet) → is_yes pred ≡ true → holds pred p ≡ true
yes-holds Yes p e = refl
yes-holds No p e = cc
yes-holds (Tests t) p e = cc
yes-holds (All' _ _) p e = cc
yes-holds (AnyOf' _ _) p e = cc
yes-holds (Not' _ _) p e = cc

no-holds : (pred : Pred) (p : Packet) → is_no pred ≡ true → holds pred p ≡ false
no-holds No p e = refl
no-holds Yes p e = cc
no-holds (Tests t) p e = cc
no-holds (All' _ _) p e = cc
no-holds (AnyOf' _ _) p e = cc
no-holds (Not' _ _) p e = cc

kept-all : (preds : List Pred) (p : Packet) → list_all (judged p) (filter (λ pred. not (is_yes pred)) preds) ≡ list_all (judged p) preds
kept-all [] p = refl
kept-all (pred ∷ rest) p = by (is_yes pred) refl (kept-all rest p)
  where
    by : (b : Bool) → is_yes pred ≡ b → list_all (judged p) (filter (λ q. not (is_yes q)) rest) ≡ list_all (judged p) rest →
        list_all (judged p) (cond (not b) (pred ∷ filter (λ q. not (is_yes q)) rest) (filter (λ q. not (is_yes q)) rest)) ≡ (holds pred p && list_all (judged p) rest)
    by true e ih = ih ∙ ap (λ b. b && list_all (judged p) rest) (sym (yes-holds pred p e))
    by false e ih = ap (λ b. holds pred p && b) ih

kept-any : (preds : List Pred) (p : Packet) → list_any (judged p) (filter (λ pred. not (is_no pred)) preds) ≡ list_any (judged p) preds
kept-any [] p = refl
kept-any (pred ∷ rest) p = by (is_no pred) refl (kept-any rest p)
  where
    by : (b : Bool) → is_no pred ≡ b → list_any (judged p) (filter (λ q. not (is_no q)) rest) ≡ list_any (judged p) rest →
        list_any (judged p) (cond (not b) (pred ∷ filter (λ q. not (is_no q)) rest) (filter (λ q. not (is_no q)) rest)) ≡ (holds pred p || list_any (judged p) rest)
    by true e ih = ih ∙ ap (λ b. b || list_any (judged p) rest) (sym (no-holds pred p e))
    by false e ih = ap (λ b. holds pred p || b) ih

any-no : (preds : List Pred) (p : Packet) → list_any is_no preds ≡ true → list_all (judged p) preds ≡ false
any-no [] p e = cc
any-no (pred ∷ rest) p e = by (is_no pred) refl e (any-no rest p)
  where
    and_false : (b : Bool) → (b && false) ≡ false
    and_false true = refl
    and_false false = refl

    by : (b : Bool) → is_no pred ≡ b → (b || list_any is_no rest) ≡ true → (list_any is_no rest ≡ true → list_all (judged p) rest ≡ false) → (holds pred p && list_all (judged p) rest) ≡ false
    by true e f ih = ap (λ b. b && list_all (judged p) rest) (no-holds pred p e)
    by false e f ih = ap (λ b. holds pred p && b) (ih f) ∙ and_false (holds pred p)

any-yes : (preds : List Pred) (p : Packet) → list_any is_yes preds ≡ true → list_any (judged p) preds ≡ true
any-yes [] p e = cc
any-yes (pred ∷ rest) p e = by (is_yes pred) refl e (any-yes rest p)
  where
    or_true : (b : Bool) → (b || true) ≡ true
    or_true true = refl
    or_true false = refl

    by : (b : Bool) → is_yes pred ≡ b → (b || list_any is_yes rest) ≡ true → (list_any is_yes rest ≡ true → list_any (judged p) rest ≡ true) → (holds pred p || list_any (judged p) rest) ≡ true
    by true e f ih = ap (λ b. b || list_any (judged p) rest) (yes-holds pred p e)
    by false e f ih = ap (λ b. holds pred p || b) (ih f) ∙ or_true (holds pred p)

pub folded_all-holds : (preds : List Pred) (p : Packet) → holds (folded_all preds) p ≡ list_all (judged p) preds
folded_all-holds preds p = by (list_any is_no preds) refl
  where
    by : (b : Bool) → list_any is_no preds ≡ b → holds (cond b No (all_together (filter (λ pred. not (is_yes pred)) preds))) p ≡ list_all (judged p) preds
    by true e = sym (any-no preds p e)
    by false e = all_together-holds (filter (λ pred. not (is_yes pred)) preds) p ∙ kept-all preds p

pub folded_any-holds : (preds : List Pred) (p : Packet) → holds (folded_any preds) p ≡ list_any (judged p) preds
folded_any-holds preds p = by (list_any is_yes preds) refl
  where
    by : (b : Bool) → list_any is_yes preds ≡ b → holds (cond b Yes (any_together (filter (λ pred. not (is_no pred)) preds))) p ≡ list_any (judged p) preds
    by true e = sym (any-yes preds p e)
    by false e = any_together-holds (filter (λ pred. not (is_no pred)) preds) p ∙ kept-any preds p

pub folded_not-holds : (pred : Pred) (p : Packet) → holds (folded_not pred) p ≡ not (holds pred p)
folded_not-holds Yes p = refl
folded_not-holds No p = refl
folded_not-holds pred p = Not-holds pred p

-- Tests.

pub same_field-is : (f g : Field) → same_field f g ≡ true → f ≡ g
same_field-is f g e = by f g (grind (arith, e))
  where
    by : (f g : Field) → field_number f ≡ field_number g → f ≡ g
    by EthSrc EthSrc e = refl
    by EthDst EthDst e = refl
    by IpSrc IpSrc e = refl
    by IpDst IpDst e = refl
    by Proto Proto e = refl
    by Sport Sport e = refl
    by Dport Dport e = refl
    by _ _ e = absurd (omega arith)

verdict-holds : (b : Bool) (p : Packet) → holds (verdict b) p ≡ b
verdict-holds true p = refl
verdict-holds false p = refl

pub test_residue-holds : (f : Field) (v : ℕ) (t : Test) (p : Packet) → field_of f p ≡ v → holds (test_residue f v t) p ≡ passes t p
test_residue-holds f v (Is g n) p at = by (same_field f g) refl
  where
    by : (b : Bool) → same_field f g ≡ b → holds (cond b (verdict (v == n)) (Tests (Is g n))) p ≡ (field_of g p == n)
    by true e = verdict-holds (v == n) p ∙ ap (λ m. m == n) (sym at ∙ ap (λ h. field_of h p) (same_field-is f g e))
    by false e = refl
test_residue-holds f v (Port q g n) p at = by (same_field f Proto) (same_field f g) refl refl
  where
    value : (h : Field) → same_field f h ≡ true → v ≡ field_of h p
    value h e = sym at ∙ ap (λ k. field_of k p) (same_field-is f h e)

    ported : (b : Bool) → (v == q) ≡ b → same_field f Proto ≡ true → holds (cond b (Tests (Is g n)) No) p ≡ ((p.proto == q) && (field_of g p == n))
    ported true e s = ap (λ b. b && (field_of g p == n)) (sym e ∙ ap (λ m. m == q) (value Proto s))
    ported false e s = ap (λ b. b && (field_of g p == n)) (sym e ∙ ap (λ m. m == q) (value Proto s))

    and_true : (b : Bool) → b ≡ (b && true)
    and_true true = refl
    and_true false = refl

    and_false : (b : Bool) → false ≡ (b && false)
    and_false true = refl
    and_false false = refl

    left : (b : Bool) → (v == n) ≡ b → same_field f g ≡ true → holds (cond b (Tests (Is Proto q)) No) p ≡ ((p.proto == q) && (field_of g p == n))
    left true e s = and_true (p.proto == q) ∙ ap (λ b. (p.proto == q) && b) (sym e ∙ ap (λ m. m == n) (value g s))
    left false e s = and_false (p.proto == q) ∙ ap (λ b. (p.proto == q) && b) (sym e ∙ ap (λ m. m == n) (value g s))

    by : (b c : Bool) → same_field f Proto ≡ b → same_field f g ≡ c →
        holds (cond b (cond (v == q) (Tests (Is g n)) No) (cond c (cond (v == n) (Tests (Is Proto q)) No) (Tests (Port q g n)))) p ≡ ((p.proto == q) && (field_of g p == n))
    by true c e s = ported (v == q) refl e
    by false true e s = left (v == n) refl s
    by false false e s = refl
test_residue-holds f v (Within g n length) p at = by (same_field f g) refl
  where
    by : (b : Bool) → same_field f g ≡ b → holds (cond b (verdict (first_bits length v == first_bits length n)) (Tests (Within g n length))) p ≡ (first_bits length (field_of g p) == first_bits length n)
    by true e = verdict-holds (first_bits length v == first_bits length n) p ∙ ap (λ m. first_bits length m == first_bits length n) (sym at ∙ ap (λ h. field_of h p) (same_field-is f g e))
    by false e = refl

-- Predicates.

pub residue-holds : (f : Field) (v : ℕ) (p : Packet) → field_of f p ≡ v → (pred : Pred) → holds (residue f v pred) p ≡ holds pred p
residue-holds f v p at = by_members (λ pred. holds (residue f v pred) p ≡ holds pred p) refl refl (λ t. test_residue-holds f v t p at) all any neg
  where
    Kept : Pred → Type 0
    Kept pred = holds (residue f v pred) p ≡ holds pred p

    alls : (preds : List Pred) → AllByRecursion (λ pred. holds (residue f v pred) p ≡ holds pred p) preds → list_all (judged p) (residues f v preds) ≡ list_all (judged p) preds
    alls [] h = refl
    alls (pred ∷ rest) h = ap₂ (λ a b. a && b) h.0 (alls rest h.1)

    anys : (preds : List Pred) → AllByRecursion (λ pred. holds (residue f v pred) p ≡ holds pred p) preds → list_any (judged p) (residues f v preds) ≡ list_any (judged p) preds
    anys [] h = refl
    anys (pred ∷ rest) h = ap₂ (λ a b. a || b) h.0 (anys rest h.1)

    all : (preds : List Pred) → AllByRecursion (λ pred. holds (residue f v pred) p ≡ holds pred p) preds → holds (residue f v (All preds)) p ≡ holds (All preds) p
    all preds h = ap (λ q. holds q p) (residue-All f v preds) ∙ folded_all-holds (residues f v preds) p ∙ alls preds h ∙ sym (All-holds preds p)

    any : (preds : List Pred) → AllByRecursion (λ pred. holds (residue f v pred) p ≡ holds pred p) preds → holds (residue f v (AnyOf preds)) p ≡ holds (AnyOf preds) p
    any preds h = ap (λ q. holds q p) (residue-AnyOf f v preds) ∙ folded_any-holds (residues f v preds) p ∙ anys preds h ∙ sym (AnyOf-holds preds p)

    neg : (pred : Pred) → holds (residue f v pred) p ≡ holds pred p → holds (residue f v (Not pred)) p ≡ holds (Not pred) p
    neg pred h = ap (λ q. holds q p) (residue-Not f v pred) ∙ folded_not-holds (residue f v pred) p ∙ ap not h ∙ sym (Not-holds pred p)

-- a member that decides

any-at : (test : Pred → Bool) (f : Field) (v : ℕ) (preds : List Pred) (i : ℕ) (pred : Pred) → i < length preds → pred ≡ get_or preds i pred → test (residue f v pred) ≡ true → list_any test (residues f v preds) ≡ true
any-at test f v [] i pred lt e t = absurd (omega arith)
any-at test f v (first ∷ rest) zero pred lt e t = ap (λ b. b || list_any test (residues f v rest)) (ap (λ q. test (residue f v q)) (sym e) ∙ t)
any-at test f v (first ∷ rest) (suc i) pred lt e t = ap (λ b. test (residue f v first) || b) (any-at test f v rest i pred (omega arith) e t) ∙ or_true (test (residue f v first))
  where
    or_true : (b : Bool) → (b || true) ≡ true
    or_true true = refl
    or_true false = refl

pub folded_all-at : (f : Field) (v : ℕ) (preds : List Pred) (i : ℕ) (pred : Pred) → i < length preds → pred ≡ get_or preds i pred → residue f v pred ≡ No → No ≡ folded_all (residues f v preds)
folded_all-at f v preds i pred lt e n = ap (λ b. cond b No (all_together (filter (λ q. not (is_yes q)) (residues f v preds)))) (sym (any-at is_no f v preds i pred lt e (ap is_no n)))

pub folded_any-at : (f : Field) (v : ℕ) (preds : List Pred) (i : ℕ) (pred : Pred) → i < length preds → pred ≡ get_or preds i pred → residue f v pred ≡ Yes → Yes ≡ folded_any (residues f v preds)
folded_any-at f v preds i pred lt e n = ap (λ b. cond b Yes (any_together (filter (λ q. not (is_no q)) (residues f v preds)))) (sym (any-at is_yes f v preds i pred lt e (ap is_yes n)))
