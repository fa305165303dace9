-- The tables of the states that were found.
use Rattle.std.proofs.Common.{◌≡◌, ◌<◌, ◌↔◌, ℕ, Bool, true, false, List, [], ◌∷◌, length, map, take, get_or, slice_get, Contains, Some, refl, sym, ◌∙◌, ap, subst, arith}
use Rattle.std.specs.List.{AllByRecursion, flat_map}
use Rattle.std.proofs.lemmas.List.{take_all}
use Rattle.std.proofs.lemmas.Option.{get_or_from_slice_get}
use Rattle.merlin_model.specs.declared.policy.Symbol.{Symbol}
use Rattle.merlin_model.specs.declared.policy.Path.{Path}
use Rattle.merlin_model.specs.Paths.{InLanguage}
use Rattle.merlin_model.proofs.Members.{in_to, in_from}
use Rattle.path_regex.specs.Normal.{normal_of}
use Rattle.path_regex.specs.Derivatives.{takes_empty, derivative_of}
use Rattle.path_regex.specs.Functions.{HasNoFunctionUnderNot}
use Rattle.path_regex.proofs.Plain.{empty_word}
use Rattle.path_regex.proofs.Meanings.{normal-takes, derivative-quotient}
use Rattle.path_regex.proofs.Functionless.{normal-under, derivative-under}
use Rattle.path_automaton.specs.declared.classes.Classes.{Classes}
use Rattle.path_automaton.specs.Classes.{AreClasses}
use Rattle.path_automaton.specs.States.{with_all_new, followers, AreStates}
use Rattle.path_automaton.specs.Followed.{AreFollowers, IsReachedFrom, AreExploring}
use Rattle.path_automaton.specs.Living.{IsWay, IsLive, AreInside, AreLiving}
use Rattle.path_automaton.specs.Automata.{AutomatonTables, step, accepts, lives, state_after_numbers, AreBelow, Spells, AcceptsWordsOf, SomeAccepted, AreTablesOfPath}
use Rattle.path_automaton.specs.Inside.{entry, tables_of, AreWhole}
use Rattle.path_automaton.proofs.Noting.{with_all_new-keeps}
use Rattle.path_automaton.proofs.Twins.{blind}
use Rattle.path_automaton.proofs.Building.{get-below, below-get, get-map, map-length, get-in, in-get, all-get, all-from, one-place, follower, followed, row-at, form-at, all-reached, order-all}

module _ (path : Path) (symbols : List Symbol) (c : Classes) (are : AreClasses path symbols c) (states : List Path) (rows : List (List ℕ)) (ex : AreExploring (normal_of path) c.firsts states rows) (whole : length rows ≡ length states) where
  abbrev flags : List Bool
  flags = map takes_empty states

  pub states-are : AreStates path symbols states
  states-are = record {
    in_order =
        ex.in_order
        ∙ ap (λ l. with_all_new (normal_of path ∷ []) (flat_map (followers c.firsts) l)) (take_all (length rows) states (omega arith))
        ∙ sym (order-all path symbols c are states ex.reached (normal_of path ∷ []));
    reached = all-reached path symbols c are states ex.reached;
  }

  first-state : slice_get states 0 ≡ Some (normal_of path)
  first-state = subst (λ l. slice_get l 0 ≡ Some (normal_of path)) (sym ex.in_order) (with_all_new-keeps (normal_of path ∷ []) (flat_map (followers c.firsts) (take (length rows) states)) 0 (normal_of path) refl)

  -- each state's followers are states
  entry-below : (q : ℕ) (row : List ℕ) → slice_get rows q ≡ Some row → AllByRecursion (λ p. p < length states) row
  entry-below q row e = all-from (λ p. p < length states) row (λ j p f. let form = form-at states c.firsts states rows ex.leads q row e in let x = followed states form.0 c.firsts row form.2 j p f in get-below states p (derivative_of form.0 x.0) x.2)

  pub inside : AreInside rows (length flags)
  inside =
      let long : length flags ≡ length states = map-length takes_empty states in
      (whole ∙ sym long, subst (λ n. AllByRecursion (λ row. AllByRecursion (λ p. p < n) row) rows) (sym long) (all-from (λ row. AllByRecursion (λ p. p < length states) row) rows entry-below))

  module _ (living : List Bool) (lv : AreLiving rows flags living) where
    abbrev t : AutomatonTables
    t = tables_of rows c.numbers flags living

    class-below : (row : List ℕ) (form : Path) → AreFollowers states form c.firsts row → AllByRecursion (λ class. class < length row) c.numbers
    class-below row form f = all-from (λ class. class < length row) c.numbers (λ k class e. by k class e)
      where
        by : (k class : ℕ) → slice_get c.numbers k ≡ Some class → class < length row
        by k class e =
            let lt = get-below c.numbers k class e in
            let each = are.each in
            let x = below-get symbols k (omega arith) in
            let cl = are.alike k x.0 x.1 in
            let p = follower states form c.firsts row f cl.0 cl.1 cl.3 in
            let same : cl.0 ≡ class = some-same (sym cl.2 ∙ e) in
            subst (λ n. n < length row) same (get-below row cl.0 p.0 p.1)
          where
            some-same : {a b : ℕ} → Some a ≡ Some b → a ≡ b
            some-same e = cc

    pub is-whole : AreWhole rows c.numbers flags living
    is-whole = record {
      entries = all-from (λ row. AllByRecursion (λ class. class < length row) c.numbers × AllByRecursion (λ q. q < length rows) row) rows
          (λ q row e. let form = form-at states c.firsts states rows ex.leads q row e in (class-below row form.0 form.2, subst (λ n. AllByRecursion (λ p. p < n) row) (sym whole) (entry-below q row e)));
      some = let lt = get-below states 0 (normal_of path) first-state in omega arith;
      flags = map-length takes_empty states ∙ sym whole;
      lives = lv.size ∙ map-length takes_empty states ∙ sym whole;
    }

    step-is : (q k class p : ℕ) (row : List ℕ) → slice_get rows q ≡ Some row → slice_get c.numbers k ≡ Some class → slice_get row class ≡ Some p → step t q k ≡ p
    step-is q k class p row er ek ep =
        ap (λ r. get_or r k 0) (get_or_from_slice_get (map (λ r. map (entry r) c.numbers) rows) q (map (entry row) c.numbers) [] (get-map (λ r. map (entry r) c.numbers) rows q row er))
        ∙ get_or_from_slice_get (map (entry row) c.numbers) k (entry row class) 0 (get-map (entry row) c.numbers k class ek)
        ∙ get_or_from_slice_get row class p 0 ep

    -- a step, with the row that it is read from
    stepped : (q k : ℕ) (form : Path) (x : Symbol) → slice_get states q ≡ Some form → slice_get symbols k ≡ Some x →
        (row : List ℕ) × (class : ℕ) × (slice_get rows q ≡ Some row) × (slice_get row class ≡ Some (step t q k)) × (slice_get states (step t q k) ≡ Some (derivative_of form x))
    stepped q k form x eq ek =
        let r = row-at states c.firsts states rows ex.leads whole q form eq in
        let cl = are.alike k x ek in
        let p = follower states form c.firsts r.0 r.2 cl.0 cl.1 cl.3 in
        let w = all-get (IsReachedFrom (normal_of path) c.firsts) states q form ex.reached eq in
        let same : derivative_of form cl.1 ≡ derivative_of form x = ap (λ a. derivative_of a cl.1) w.2 ∙ blind path w.0 cl.1 x cl.4 ∙ ap (λ a. derivative_of a x) (sym w.2) in
        let is : step t q k ≡ p.0 = step-is q k cl.0 p.0 r.0 r.1 cl.2 p.1 in
        (r.0, cl.0, r.1, p.1 ∙ ap Some (sym is), ap (slice_get states) is ∙ p.2 ∙ ap Some same)

    accepting-is : (q : ℕ) (form : Path) → slice_get states q ≡ Some form → accepts t q ≡ takes_empty form
    accepting-is q form e = get_or_from_slice_get flags q (takes_empty form) false (get-map takes_empty states q form e)

    -- a way is a word, and a word a way

    way-word : (q : ℕ) → q < length states → (ps : List ℕ) → IsWay rows flags q ps → SomeAccepted (length symbols) t q
    way-word q lt [] w = ([], tt, w)
    way-word q lt (p ∷ ps) w =
        let r = below-get rows q (omega arith) in
        let in_row : Contains r.0 p = subst (λ row. Contains row p) (get_or_from_slice_get rows q r.0 [] r.1) w.0 in
        let j = in-get r.0 p (in_from r.0 p in_row) in
        let form = form-at states c.firsts states rows ex.leads q r.0 r.1 in
        let x = followed states form.0 c.firsts r.0 form.2 j.0 p j.1 in
        let there = all-get (λ y. Contains symbols y) c.firsts j.0 x.0 are.among x.1 in
        let k = in-get symbols x.0 (in_from symbols x.0 there) in
        let s = stepped q k.0 form.0 x.0 form.1 k.1 in
        let same : p ≡ step t q k.0 = one-place states ex.different p (step t q k.0) (derivative_of form.0 x.0) x.2 s.4 in
        let rest = way-word p (get-below states p (derivative_of form.0 x.0) x.2) ps w.1 in
        (k.0 ∷ rest.0, (get-below symbols k.0 x.0 k.1, rest.1), subst (λ s'. accepts t (state_after_numbers t s' rest.0) ≡ true) same rest.2)

    word-way : (q : ℕ) → q < length states → (ks : List ℕ) → AreBelow (length symbols) ks → accepts t (state_after_numbers t q ks) ≡ true → IsLive rows flags q
    word-way q lt [] b e = ([], e)
    word-way q lt (k ∷ ks) b e =
        let form = below-get states q lt in
        let x = below-get symbols k b.0 in
        let s = stepped q k form.0 x.0 form.1 x.1 in
        let rest = word-way (step t q k) (get-below states (step t q k) (derivative_of form.0 x.0) s.4) ks b.1 e in
        let here : Contains s.0 (step t q k) = in_to s.0 (step t q k) (get-in s.0 s.1 (step t q k) s.3) in
        (step t q k ∷ rest.0, (subst (λ row. Contains row (step t q k)) (sym (get_or_from_slice_get rows q s.0 [] s.2)) here, rest.1))

    living-is : (q : ℕ) → q < length states → (lives t q ≡ true) ↔ SomeAccepted (length symbols) t q
    living-is q lt = let exact = lv.exact q (omega arith) in (λ e. let way = exact.0 e in way-word q lt way.0 way.1, λ s. exact.1 (word-way q lt s.0 s.1 s.2))

    pub tables-are : AreTablesOfPath path symbols t states
    tables-are = record {
      states = states-are;
      count = map-length (λ r. map (entry r) c.numbers) rows ∙ whole;
      width = are.each;
      next = λ q k form x eq ek. (stepped q k form x eq ek).4;
      accepting = accepting-is;
      living = living-is;
    }

    -- The run.

    run : (ks : List ℕ) (w : List Symbol) (q : ℕ) (form : Path) → slice_get states q ≡ Some form → HasNoFunctionUnderNot form → Spells symbols ks w → (accepts t (state_after_numbers t q ks) ≡ true) ↔ InLanguage form w
    run [] [] q form e n s = (λ a. (empty_word form).0 (sym (accepting-is q form e) ∙ a), λ h. accepting-is q form e ∙ (empty_word form).1 h)
    run [] (x ∷ w) q form e n s = absurd s
    run (k ∷ ks) [] q form e n s = absurd s
    run (k ∷ ks) (x ∷ w) q form e n s =
        let next = stepped q k form x e s.0 in
        let rest = run ks w (step t q k) (derivative_of form x) next.4 (derivative-under form x n) s.1 in
        let quotient = derivative-quotient form n x w in
        (λ a. quotient.0 (rest.0 a), λ h. rest.1 (quotient.1 h))

    pub is-automaton : HasNoFunctionUnderNot path → AcceptsWordsOf symbols path t
    is-automaton n = λ ks w s. let at = run ks w 0 (normal_of path) first-state (normal-under path n) s in let same = normal-takes path n w in (λ a. same.0 (at.0 a), λ h. at.1 (same.1 h))
