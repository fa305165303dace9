-- Directed links by their places, and the link that a step crosses.
use Rattle.std.proofs.Common.{◌≡◌, ◌≢◌, ℕ, zero, suc, ◌+◌, ◌==◌, ◌&&◌, not, inl, inr, Bool, true, false, cond, List, [], ◌∷◌, Option, None, Some, slice_get, refl, sym, ◌∙◌, ap, ap₂, subst, arith}
use Rattle.std.proofs.lemmas.Bool.{eqb-true, eq-eqb}
use Rattle.std.proofs.lemmas.Iterator.Adapters.{position_from-zero}
use Rattle.std.specs.List.{position_from}
use Rattle.merlin_model.specs.declared.policy.Symbol.{Symbol}
use Rattle.merlin_model.specs.declared.network.DirectedLink.{DirectedLink}
use Rattle.merlin_model.specs.Networks.{Network, IsNetwork, directed_links, Pairwise}
use Rattle.merlin_model.specs.Words.{crosses}
use Rattle.merlin_model.proofs.Fitting.{and-first, and-second, and-both}
use Rattle.merlin_model.proofs.Members.{In, in_to, all_in}
use Rattle.merlin_model.proofs.DirectedLinks.{turns}
use Rattle.cutoff_program.specs.Flows.{is_on}
use Rattle.cutoff_program.specs.Products.{place_between}
use Rattle.cutoff_program.proofs.Lists.{none_some, some_some}
use Rattle.cutoff_program.proofs.Rooms.{false_true}

pub get-in : {X : Type 0} (xs : List X) (k : ℕ) (x : X) → slice_get xs k ≡ Some x → In x xs
get-in [] k x e = absurd (none_some e)
get-in (y ∷ ys) zero x e = inl (sym (some_some e))
get-in (y ∷ ys) (suc k) x e = inr (get-in ys k x e)

pub in-get : {X : Type 0} (xs : List X) (x : X) → In x xs → (k : ℕ) × (slice_get xs k ≡ Some x)
in-get [] x i = absurd i
in-get (y ∷ ys) x (inl e) = (0, ap Some (sym e))
in-get (y ∷ ys) x (inr i) = let r = in-get ys x i in (suc r.0, r.1)

abbrev leads : ℕ → ℕ → DirectedLink → Bool
leads u v directed = (directed.from == u) && (directed.to == v)

from-find : (u v n : ℕ) (ws : List DirectedLink) (l : ℕ) → position_from (leads u v) n ws ≡ Some l → (k : ℕ) × (l ≡ n + k) × ((directed : DirectedLink) × (slice_get ws k ≡ Some directed) × (leads u v directed ≡ true))
from-find u v n [] l e = absurd (none_some e)
from-find u v n (w ∷ ws) l e = by (leads u v w) refl e (from-find u v (n + 1) ws l)
  where
    by : (b : Bool) → leads u v w ≡ b → cond b (Some n) (position_from (leads u v) (n + 1) ws) ≡ Some l →
        (position_from (leads u v) (n + 1) ws ≡ Some l → (k : ℕ) × (l ≡ n + 1 + k) × ((directed : DirectedLink) × (slice_get ws k ≡ Some directed) × (leads u v directed ≡ true))) →
        (k : ℕ) × (l ≡ n + k) × ((directed : DirectedLink) × (slice_get (w ∷ ws) k ≡ Some directed) × (leads u v directed ≡ true))
    by true t e ih = (0, (let s = some_some e in omega arith), (w, refl, t))
    by false t e ih = let r = ih e in (suc r.0, (let s = r.1 in omega arith), r.2)

pub place-of : (net : Network) (u v l : ℕ) → place_between net u v ≡ Some l → (directed : DirectedLink) × (slice_get (directed_links net) l ≡ Some directed) × (directed.from ≡ u) × (directed.to ≡ v)
place-of net u v l e =
    let f = from-find u v 0 (directed_links net) l (sym (position_from-zero (leads u v) (directed_links net)) ∙ e) in
    let at : f.0 ≡ l = (let s = f.1 in omega arith) in
    (f.2.0, subst (λ k. slice_get (directed_links net) k ≡ Some f.2.0) at f.2.1, eqb-true f.2.0.from u (and-first (f.2.0.from == u) (f.2.0.to == v) f.2.2), eqb-true f.2.0.to v (and-second (f.2.0.from == u) (f.2.0.to == v) f.2.2))

abbrev AreApart : DirectedLink → DirectedLink → Type 0
AreApart v w = v.from ≡ w.from → (v.out_port ≢ w.out_port) × (v.to ≢ w.to)

from-is : (directed : DirectedLink) (n : ℕ) (ws : List DirectedLink) (l : ℕ) → Pairwise AreApart ws → slice_get ws l ≡ Some directed → position_from (leads directed.from directed.to) n ws ≡ Some (n + l)
from-is directed n [] l p e = absurd (none_some e)
from-is directed n (w ∷ ws) zero p e =
    let same : w ≡ directed = some_some e in
    let t : leads directed.from directed.to w ≡ true = and-both _ _ (eq-eqb w.from directed.from (ap (λ x. x.from) same)) (eq-eqb w.to directed.to (ap (λ x. x.to) same)) in
    ap (λ b. cond b (Some n) (position_from (leads directed.from directed.to) (n + 1) ws)) t ∙ ap Some (let s : n ≡ n + 0 = omega arith in s)
from-is directed n (w ∷ ws) (suc l) p e = by (leads directed.from directed.to w) refl (from-is directed (n + 1) ws l p.1 e)
  where
    by : (b : Bool) → leads directed.from directed.to w ≡ b → position_from (leads directed.from directed.to) (n + 1) ws ≡ Some (n + 1 + l) → cond b (Some n) (position_from (leads directed.from directed.to) (n + 1) ws) ≡ Some (n + suc l)
    by true t ih =
        let from : w.from ≡ directed.from = eqb-true w.from directed.from (and-first (w.from == directed.from) (w.to == directed.to) t) in
        let to : w.to ≡ directed.to = eqb-true w.to directed.to (and-second (w.from == directed.from) (w.to == directed.to) t) in
        absurd ((all_in (AreApart w) ws directed p.0 (get-in ws l directed e) from).1 to)
    by false t ih = ih ∙ ap Some (let s : n + 1 + l ≡ n + suc l = omega arith in s)

pub place-is : (net : Network) (directed : DirectedLink) (l : ℕ) → IsNetwork net → slice_get (directed_links net) l ≡ Some directed → place_between net directed.from directed.to ≡ Some l
place-is net directed l ok e = position_from-zero (leads directed.from directed.to) (directed_links net) ∙ from-is directed 0 (directed_links net) l ok.ports e ∙ ap Some (let s : 0 + l ≡ l = omega arith in s)

-- a step crosses the link whose place stands between its locations
pub on-is : (net : Network) (directed : DirectedLink) (l : ℕ) (x y : Symbol) → IsNetwork net → slice_get (directed_links net) l ≡ Some directed → is_on l (place_between net x.loc y.loc) ≡ crosses directed.from directed.to (x, y)
on-is net directed l x y ok e = by (x.loc == directed.from) refl (y.loc == directed.to) refl
  where
    differ : (directed.from == directed.to) ≡ false
    differ = two (directed.from == directed.to) refl
      where
        two : (b : Bool) → (directed.from == directed.to) ≡ b → b ≡ false
        two false t = refl
        two true t = absurd (turns net ok directed (in_to (directed_links net) directed (get-in (directed_links net) l directed e)) (eqb-true directed.from directed.to t))

    other : (o : Option ℕ) → place_between net x.loc y.loc ≡ o → ((x.loc ≡ directed.from) → (y.loc ≡ directed.to) → ⊥) → is_on l o ≡ false
    other None f h = refl
    other (Some m) f h = two (m == l) refl
      where
        two : (b : Bool) → (m == l) ≡ b → b ≡ false
        two false t = refl
        two true t =
            let p = place-of net x.loc y.loc m f in
            let same : p.0 ≡ directed = some_some (sym p.1 ∙ ap (slice_get (directed_links net)) (eqb-true m l t) ∙ e) in
            absurd (h (sym p.2 ∙ ap (λ w. w.from) same) (sym p.3 ∙ ap (λ w. w.to) same))

    self : (l == l) ≡ true
    self = eq-eqb l l refl

    by : (b : Bool) → (x.loc == directed.from) ≡ b → (c : Bool) → (y.loc == directed.to) ≡ c → is_on l (place_between net x.loc y.loc) ≡ (b && c && not (directed.from == directed.to))
    by true t true u =
        ap (is_on l) (ap₂ (place_between net) (eqb-true x.loc directed.from t) (eqb-true y.loc directed.to u) ∙ place-is net directed l ok e) ∙ self ∙ sym (ap not differ)
    by true t false u = other (place_between net x.loc y.loc) refl (λ f g. false_true (sym u ∙ eq-eqb y.loc directed.to g))
    by false t c u = other (place_between net x.loc y.loc) refl (λ f g. false_true (sym t ∙ eq-eqb x.loc directed.from f))
