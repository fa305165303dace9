-- Statements of one group have the same walks, so that one automaton tells where all of these start.
use Rattle.std.proofs.Common.{◌≡◌, ◌<◌, ◌↔◌, inl, inr, ℕ, Bool, true, List, [], ◌∷◌, length, map, slice_get, Some, refl, sym, ◌∙◌, ap, subst}
use Rattle.std.specs.List.{AllByRecursion, flat_map}
use Rattle.merlin_model.specs.declared.policy.Path.{Path}
use Rattle.merlin_model.specs.declared.policy.Symbol.{Symbol}
use Rattle.merlin_model.specs.Networks.{Network, IsHost}
use Rattle.merlin_model.specs.Words.{IsSymbol}
use Rattle.merlin_model.specs.Paths.{InLanguage}
use Rattle.merlin_model.specs.Policies.{IsOnPath, paths_of}
use Rattle.merlin_model.proofs.Members.{in_from}
use Rattle.path_regex.specs.Normal.{normal_of}
use Rattle.path_regex.specs.Derivatives.{takes_empty}
use Rattle.path_regex.specs.States.{rest_after, state_reached}
use Rattle.path_automaton.specs.States.{IsMadeOf, followers}
use Rattle.path_automaton.specs.Automata.{AutomatonTables, step, accepts, number_in, state_after_numbers, state_after_word, AreTablesOfPath}
use Rattle.path_automaton.proofs.Noting.{with_all_new-keeps}
use Rattle.path_automaton.proofs.Listed.{number-at, accepts-listed}
use Rattle.path_automaton.proofs.Building.{below-get}
use Rattle.topology.specs.Symbols.{network_symbols}
use Rattle.rules_model.specs.Products.{ending_state}
use Rattle.product_graph.specs.declared.span.Product.{Product}
use Rattle.product_graph.specs.declared.span.Span2.TheVariants.{All}
use Rattle.product_graph.specs.Products.{automaton_of, IsProduct}
use Rattle.product_graph.proofs.Lists.{some-same, all-map}
use Rattle.product_graph.proofs.Ordered.{ordered}
use Rattle.policy_check.specs.Checked.{CheckedPolicy, HasAutomata, automaton_of_statement}
use Rattle.configuration_model.specs.Groups.{HaveOneForm, Leads}
use Rattle.configuration_model.proofs.Numbered.{takes}
use Rattle.openflow_rules.specs.declared.walk_rows.WalkRow.{WalkRow}
use Rattle.openflow_rules.specs.Sources.{StartsWalk, AreMarkedAmong, listed_loc, IsWalkRow, AreWalkRows}
use Rattle.openflow_rules.proofs.WalkStarts.{walks-start}

-- whether a word is accepted goes by the normal form of the path
module _ (path : Path) (symbols : List Symbol) (t : AutomatonTables) (forms : List Path) (are : AreTablesOfPath path symbols t forms) where
  leads : (w : List Symbol) (q : ℕ) (form : Path) → slice_get forms q ≡ Some form → IsMadeOf symbols w → slice_get forms (state_after_numbers t q (map (number_in symbols) w)) ≡ Some (rest_after form w)
  leads [] q form e h = e
  leads (x ∷ w) q form e h = let at = number-at symbols x (in_from symbols x h.0) in leads w (step t q (number_in symbols x)) _ (are.next q (number_in symbols x) form x e at) h.1

  begins : slice_get forms 0 ≡ Some (normal_of path)
  begins = subst (λ l. slice_get l 0 ≡ Some (normal_of path)) (sym are.states.in_order) (with_all_new-keeps (normal_of path ∷ []) (flat_map (followers symbols) forms) 0 (normal_of path) refl)

  accepts-by : (w : List Symbol) → IsMadeOf symbols w → accepts t (state_after_word symbols t w) ≡ takes_empty (state_reached path w)
  accepts-by w h = are.accepting (state_after_word symbols t w) (state_reached path w) (leads w 0 (normal_of path) begins h)

module _ (net : Network) (checked : CheckedPolicy) (automata : HasAutomata (network_symbols net) checked) where
  made-of : (w : List Symbol) → AllByRecursion (IsSymbol net) w → IsMadeOf (network_symbols net) w
  made-of w h = all-map (IsSymbol net) _ (λ x is. ((ordered net).each x).1 is) w h

  -- the automaton of a statement takes the words on its path
  pub takes-path : (i : ℕ) (table : AutomatonTables) → i < length (paths_of checked.policy) → automaton_of_statement checked i ≡ Some table → (w : List Symbol) → AllByRecursion (IsSymbol net) w →
      ((automaton_of (network_symbols net) table).accepts (ending_state (automaton_of (network_symbols net) table) 0 w) ≡ true) ↔ IsOnPath checked.policy i w
  takes-path i table lt is w symbols =
      let path = below-get (paths_of checked.policy) i lt in
      let t = automata i path.0 path.1 in
      let same : t.0 ≡ table = some-same (sym t.1 ∙ is) in
      let told = takes net (network_symbols net) (ordered net).each t.0 path.0 t.2.words w symbols in (
        λ e. record { path = path.0; has = path.1; described = told.0 (subst (λ u. (automaton_of (network_symbols net) u).accepts (ending_state (automaton_of (network_symbols net) u) 0 w) ≡ true) (sym same) e) },
        λ on. subst (λ u. (automaton_of (network_symbols net) u).accepts (ending_state (automaton_of (network_symbols net) u) 0 w) ≡ true) same
            (told.1 (subst (λ p. InLanguage p w) (some-same (sym on.has ∙ path.1)) on.described)),
      )

  pub width-of : (i : ℕ) (table : AutomatonTables) → i < length (paths_of checked.policy) → automaton_of_statement checked i ≡ Some table → table.width ≡ length (network_symbols net)
  width-of i table lt is =
      let path = below-get (paths_of checked.policy) i lt in
      let t = automata i path.0 path.1 in
      subst (λ (u : AutomatonTables). u.width ≡ length (network_symbols net)) (some-same (sym t.1 ∙ is)) t.2.built.1.width

  -- the row of a statement, by the product of its automaton
  pub row-is : (i : ℕ) (table : AutomatonTables) → i < length (paths_of checked.policy) → automaton_of_statement checked i ≡ Some table → (d : ℕ) → IsHost net d → (product : Product) → IsProduct net (automaton_of (network_symbols net) table) (All d) product →
      (marks : List Bool) → AreMarkedAmong (length net.locations) (map (listed_loc product.vertices) product.starts) marks → IsWalkRow net checked.policy i (record { dest = d; marks = marks })
  row-is i table lt is d dest product made marks marked =
      let starts = walks-start net (automaton_of (network_symbols net) table) d dest product checked.policy i (takes-path i table lt is) made in
      record { size = marked.size; each = λ s. (λ e. (starts s).0 ((marked.each s).0 e), λ w. (marked.each s).1 ((starts s).1 w)) }

  on-one : (i j : ℕ) → HaveOneForm checked.policy i j → (w : List Symbol) → AllByRecursion (IsSymbol net) w → IsOnPath checked.policy j w → IsOnPath checked.policy i w
  on-one i j h w symbols on =
      let made = made-of w symbols in
      let mine = automata i h.path h.has in
      let other = automata j h.other h.other_has in
      let said : InLanguage h.other w = subst (λ p. InLanguage p w) (some-same (sym on.has ∙ h.other_has)) on.described in
      let taken : accepts other.0 (state_after_word (network_symbols net) other.0 w) ≡ true = (accepts-listed (network_symbols net) h.other other.0 other.2.words w made).1 said in
      let form : takes_empty (state_reached h.path w) ≡ takes_empty (state_reached h.other w) = ap (λ p. takes_empty (rest_after p w)) h.form in
      let there : accepts mine.0 (state_after_word (network_symbols net) mine.0 w) ≡ true =
      accepts-by h.path (network_symbols net) mine.0 mine.2.built.0 mine.2.built.1 w made ∙ (form ∙ (sym (accepts-by h.other (network_symbols net) other.0 other.2.built.0 other.2.built.1 w made) ∙ taken)) in
      record { path = h.path; has = h.has; described = (accepts-listed (network_symbols net) h.path mine.0 mine.2.words w made).0 there }

  turned : (i j : ℕ) → HaveOneForm checked.policy i j → HaveOneForm checked.policy j i
  turned i j h = record { path = h.other; other = h.path; has = h.other_has; other_has = h.has; form = sym h.form }

  starts-one : (i j d s : ℕ) → HaveOneForm checked.policy i j → StartsWalk net checked.policy j d s → StartsWalk net checked.policy i d s
  starts-one i j d s h w = record { apart = w.apart; word = w.word; walk = w.walk; on_path = on-one i j h w.word w.walk.symbols w.on_path }

  row-one : (i j : ℕ) → HaveOneForm checked.policy i j → (row : WalkRow) → IsWalkRow net checked.policy j row → IsWalkRow net checked.policy i row
  row-one i j h row r = record {
    size = r.size;
    each = λ s. (λ e. starts-one i j row.dest s h ((r.each s).0 e), λ w. (r.each s).1 (starts-one j i row.dest s (turned i j h) w));
  }

  -- the rows of the statement that stands for a group are those of each in the group
  pub rows-shared : (i j : ℕ) → Leads checked.policy i j → (rows : List WalkRow) → AreWalkRows net checked.policy j rows → AreWalkRows net checked.policy i rows
  rows-shared i j (inl own) rows r = subst (λ k. AreWalkRows net checked.policy k rows) own.1 r
  rows-shared i j (inr first) rows r = record {
    dests = r.dests;
    each = all-map (IsWalkRow net checked.policy j) (IsWalkRow net checked.policy i) (row-one i j first.1.alike) rows r.each;
  }
