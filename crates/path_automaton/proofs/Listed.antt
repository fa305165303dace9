-- Words by the numbers of their symbols in a list.
use Rattle.std.proofs.Common.{◌≡◌, ◌↔◌, ◌==◌, ◌&&◌, inl, inr, ℕ, suc, zero, Bool, true, false, cond, List, [], ◌∷◌, map, take, slice_get, Option, None, Some, refl, sym, ◌∙◌, ap, subst}
use Rattle.std.proofs.lemmas.Bool.{eqb-true, eq-eqb}
use Rattle.std.specs.List.{flat_map}
use Rattle.merlin_model.specs.declared.policy.Symbol.{Symbol}
use Rattle.merlin_model.specs.declared.policy.Path.{Path}
use Rattle.merlin_model.proofs.Members.{In, in_from}
use Rattle.path_regex.specs.Normal.{normal_of}
use Rattle.path_regex.specs.States.{rest_after, state_reached, IsSimpleFor}
use Rattle.path_automaton.specs.States.{IsMadeOf, followers}
use Rattle.path_automaton.specs.Automata.{AutomatonTables, step, state_after_numbers, Spells, AcceptsWordsOf, is_same_function, is_same_symbol, number_in, state_after_word, AcceptsListedWordsOf, IsSimpleIn, AreTablesOfPath}
use Rattle.path_automaton.proofs.Noting.{with_all_new-keeps}
use Rattle.path_automaton.proofs.Building.{one-place}
use Rattle.path_automaton.proofs.Numbering.{states-differ}

false-true : false ≡ true → ⊥
false-true e = cc

function-same : (f g : Option ℕ) → is_same_function f g ≡ true → f ≡ g
function-same None None e = refl
function-same None (Some g) e = absurd (false-true e)
function-same (Some f) None e = absurd (false-true e)
function-same (Some f) (Some g) e = ap Some (eqb-true f g e)

function-itself : (f : Option ℕ) → is_same_function f f ≡ true
function-itself None = refl
function-itself (Some f) = eq-eqb f f refl

symbol-same : (x y : Symbol) → is_same_symbol x y ≡ true → x ≡ y
symbol-same x y e = by (x.loc == y.loc) refl (is_same_function x.fun y.fun) refl e
  where
    by : (b : Bool) → (x.loc == y.loc) ≡ b → (c : Bool) → is_same_function x.fun y.fun ≡ c → (b && c) ≡ true → x ≡ y
    by true l true f h =
        let loc : x.loc ≡ y.loc = eqb-true x.loc y.loc l in
        let fun : x.fun ≡ y.fun = function-same x.fun y.fun f in
        λ i. record { loc = loc i; fun = fun i }
    by true l false f h = absurd (false-true h)
    by false l c f h = absurd (false-true h)

symbol-itself : (x : Symbol) → is_same_symbol x x ≡ true
symbol-itself x = by (x.loc == x.loc) (is_same_function x.fun x.fun) (eq-eqb x.loc x.loc refl) (function-itself x.fun)
  where
    by : (b c : Bool) → b ≡ true → c ≡ true → (b && c) ≡ true
    by true true e f = refl
    by true false e f = f
    by false c e f = e

pub number-at : (symbols : List Symbol) (x : Symbol) → In x symbols → slice_get symbols (number_in symbols x) ≡ Some x
number-at [] x i = absurd i
number-at (y ∷ ys) x i = by (is_same_symbol x y) refl i (number-at ys x)
  where
    by : (b : Bool) → is_same_symbol x y ≡ b → In x (y ∷ ys) → (In x ys → slice_get ys (number_in ys x) ≡ Some x) → slice_get (y ∷ ys) (cond b 0 (suc (number_in ys x))) ≡ Some x
    by true e i ih = ap Some (sym (symbol-same x y e))
    by false e (inl same) ih = absurd (false-true (sym e ∙ (ap (is_same_symbol x) (sym same) ∙ symbol-itself x)))
    by false e (inr i) ih = ih i

pub spelled : (symbols w : List Symbol) → IsMadeOf symbols w → Spells symbols (map (number_in symbols) w) w
spelled symbols [] h = tt
spelled symbols (x ∷ w) h = (number-at symbols x (in_from symbols x h.0), spelled symbols w h.1)

pub accepts-listed : (symbols : List Symbol) (path : Path) (t : AutomatonTables) → AcceptsWordsOf symbols path t → AcceptsListedWordsOf symbols path t
accepts-listed symbols path t h = λ w m. h (map (number_in symbols) w) w (spelled symbols w m)

made-take : (symbols : List Symbol) (n : ℕ) (w : List Symbol) → IsMadeOf symbols w → IsMadeOf symbols (take n w)
made-take symbols zero w h = tt
made-take symbols (suc n) [] h = tt
made-take symbols (suc n) (x ∷ w) h = (h.0, made-take symbols n w h.1)

module _ (path : Path) (symbols : List Symbol) (t : AutomatonTables) (forms : List Path) (are : AreTablesOfPath path symbols t forms) where
  leads : (w : List Symbol) (q : ℕ) (form : Path) → slice_get forms q ≡ Some form → IsMadeOf symbols w → slice_get forms (state_after_numbers t q (map (number_in symbols) w)) ≡ Some (rest_after form w)
  leads [] q form e h = e
  leads (x ∷ w) q form e h = let at = number-at symbols x (in_from symbols x h.0) in leads w (step t q (number_in symbols x)) _ (are.next q (number_in symbols x) form x e at) h.1

  begin : slice_get forms 0 ≡ Some (normal_of path)
  begin = subst (λ l. slice_get l 0 ≡ Some (normal_of path)) (sym are.states.in_order) (with_all_new-keeps (normal_of path ∷ []) (flat_map (followers symbols) forms) 0 (normal_of path) refl)

  -- the state after a word stands for the state to which the word leads
  state-is : (w : List Symbol) → IsMadeOf symbols w → slice_get forms (state_after_word symbols t w) ≡ Some (state_reached path w)
  state-is w h = leads w 0 (normal_of path) begin h

  some-same : {a b : Path} → Some a ≡ Some b → a ≡ b
  some-same e = cc

  pub simple-in : (w : List Symbol) → IsMadeOf symbols w → IsSimpleFor path w ↔ IsSimpleIn symbols t w
  simple-in w h = (λ s i j x ei ej same. s i j x ei ej (forms-same i j same), λ s i j x ei ej same. s i j x ei ej (numbers-same i j same))
    where
      at : (n : ℕ) → slice_get forms (state_after_word symbols t (take n w)) ≡ Some (state_reached path (take n w))
      at n = state-is (take n w) (made-take symbols n w h)

      forms-same : (i j : ℕ) → state_after_word symbols t (take (suc i) w) ≡ state_after_word symbols t (take (suc j) w) → state_reached path (take (suc i) w) ≡ state_reached path (take (suc j) w)
      forms-same i j e = some-same (sym (at (suc i)) ∙ ap (slice_get forms) e ∙ at (suc j))

      numbers-same : (i j : ℕ) → state_reached path (take (suc i) w) ≡ state_reached path (take (suc j) w) → state_after_word symbols t (take (suc i) w) ≡ state_after_word symbols t (take (suc j) w)
      numbers-same i j e = one-place forms (states-differ path symbols forms are.states) _ _ (state_reached path (take (suc i) w)) (at (suc i)) (at (suc j) ∙ ap Some (sym e))
