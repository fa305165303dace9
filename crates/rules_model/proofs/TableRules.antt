-- Which rules and `process` lines the tables have.
use Rattle.std.proofs.Common.{map, ◌≡◌, ℕ, ◌<◌, ◌==◌, ◌⊎◌, inl, inr, Bool, List, [], ◌∷◌, ◌++◌, length, filter, Option, None, Some, option_map, slice_get, refl, sym, ◌∙◌, ap, subst, arith}
use Rattle.std.proofs.lemmas.Bool.{eq-eqb}
use Rattle.std.proofs.lemmas.Option.{slice_get_within}
use Rattle.std.proofs.lemmas.List.FromFn.{get_or-range_with_len, length-range_with_len}
use Rattle.std.specs.List.{flat_map, range_with_len}
use Rattle.merlin_model.specs.declared.network.LocationKind.{LocationKind}
use Rattle.merlin_model.specs.declared.network.LocationKind.TheVariants.{Switch, Middlebox}
use Rattle.merlin_model.specs.declared.network.Location.{Location}
use Rattle.merlin_model.specs.declared.config.Rule.{Rule}
use Rattle.merlin_model.specs.declared.config.Process.{Process}
use Rattle.merlin_model.specs.Networks.{Network, kind_of}
use Rattle.rules_model.specs.Products.{loc_of}
use Rattle.rules_model.specs.Tables.{TableRow, IngressEntry, Plan, tag_rule, back_rule, rules_by_tag, rules_of_row, cell_rule, last_rule, process_of, rules_at, is_switch_kind, is_middlebox_kind, all_switches, table_rules, table_processes}
use Rattle.merlin_model.proofs.Members.{In, in_from, in_filter, filter_in, in_map, map_in, in_append, in_append-left, in_append-right, in_flat_map, flat_map_in}

pub in_range : (n k : ℕ) → k < n → In k (range_with_len 0 n)
in_range n k lt = in_from (range_with_len 0 n) k (k, subst (λ m. k < m) (sym (length-range_with_len 0 n)) lt, get_or-range_with_len 0 n k k lt ∙ omega arith)

-- what has a kind is a location
pub is_location : (net : Network) (loc : ℕ) (kind : LocationKind) → kind_of net loc ≡ Some kind → loc < length net.locations
is_location net loc kind e = by (slice_get net.locations loc) refl e
  where
    by : (o : Option Location) → slice_get net.locations loc ≡ o → option_map (λ l. l.kind) o ≡ Some kind → loc < length net.locations
    by None here h = let no_way : ⊥ = cc in absurd no_way
    by (Some location) here h = slice_get_within net.locations loc location here

module _ (net : Network) (plan : Plan) where
  -- a tag or back rule
  pub record IsByRow (r : Rule) : Type 0 where
    pub row : TableRow
    pub present : In row plan.rows
    pub is : (r ≡ tag_rule row) ⊎ (r ≡ back_rule row)

  pub record IsByCell (r : Rule) : Type 0 where
    pub entry : IngressEntry
    pub present : In entry plan.entries
    pub is : r ≡ cell_rule entry

  abbrev pub IsTableRule : Rule → Type 0
  IsTableRule r = IsByRow r ⊎ (IsByCell r ⊎ ((loc : ℕ) × (r ≡ last_rule loc)))

  by_tag : (row : TableRow) (t : Option ℕ) (r : Rule) → In r (rules_by_tag row t) → (r ≡ tag_rule row) ⊎ (r ≡ back_rule row)
  by_tag row None r (inl e) = inl e
  by_tag row None r (inr h) = absurd h
  by_tag row (Some n) r (inl e) = inr e
  by_tag row (Some n) r (inr (inl e)) = inl e
  by_tag row (Some n) r (inr (inr h)) = absurd h

  abbrev row_rules : TableRow → List Rule
  row_rules row = rules_of_row row

  -- the three parts of a switch's rules
  abbrev row_part : ℕ → List Rule
  row_part loc = flat_map row_rules (filter (λ row. loc_of row.vertex == loc) plan.rows)

  abbrev cell_part : ℕ → List Rule
  cell_part loc = map cell_rule (filter (λ e. e.pair.link.to == loc) plan.entries)

  abbrev last_part : ℕ → List Rule
  last_part loc = last_rule loc ∷ []

  pub table_rule-is : (r : Rule) → In r (table_rules net plan) → IsTableRule r
  table_rule-is r h = by (in_append (row_part at.0) (cell_part at.0 ++ last_part at.0) r at.2)
    where
      at : (loc : ℕ) × In loc (all_switches net) × In r (rules_at net plan loc)
      at = in_flat_map (rules_at net plan) (all_switches net) r h

      by_rest : In r (cell_part at.0) ⊎ In r (last_part at.0) → IsTableRule r
      by_rest (inl i) =
          let m = in_map cell_rule (filter (λ e. e.pair.link.to == at.0) plan.entries) r i in
          inr (inl (record { entry = m.0; present = (in_filter (λ e. e.pair.link.to == at.0) plan.entries m.0 m.1).0; is = m.2 }))
      by_rest (inr (inl e)) = inr (inr (at.0, e))
      by_rest (inr (inr h)) = absurd h

      by : In r (row_part at.0) ⊎ In r (cell_part at.0 ++ last_part at.0) → IsTableRule r
      by (inl i) =
          let p = in_flat_map row_rules (filter (λ row. loc_of row.vertex == at.0) plan.rows) r i in
          inl (record { row = p.0; present = (in_filter (λ row. loc_of row.vertex == at.0) plan.rows p.0 p.1).0; is = by_tag p.0 p.0.hop.tag r p.2 })
      by (inr i) = by_rest (in_append (cell_part at.0) (last_part at.0) r i)

  -- the rules of a switch stand in the table
  at_switch-in : (r : Rule) (loc : ℕ) → kind_of net loc ≡ Some Switch → In r (rules_at net plan loc) → In r (table_rules net plan)
  at_switch-in r loc here i =
      flat_map_in (rules_at net plan) (all_switches net) loc r
      (filter_in (λ loc. is_switch_kind (kind_of net loc)) (range_with_len 0 (length net.locations)) loc (in_range (length net.locations) loc (is_location net loc Switch here)) (ap is_switch_kind here)) i

  pub row_rule-in : (r : Rule) (row : TableRow) → kind_of net (loc_of row.vertex) ≡ Some Switch → In row plan.rows → In r (row_rules row) → In r (table_rules net plan)
  row_rule-in r row here present i =
      at_switch-in r (loc_of row.vertex) here (in_append-left (row_part (loc_of row.vertex)) (cell_part (loc_of row.vertex) ++ last_part (loc_of row.vertex)) r
      (flat_map_in row_rules (filter (λ x. loc_of x.vertex == loc_of row.vertex) plan.rows) row r
      (filter_in (λ x. loc_of x.vertex == loc_of row.vertex) plan.rows row present (eq-eqb (loc_of row.vertex) (loc_of row.vertex) refl)) i))

  pub cell_rule-in : (e : IngressEntry) → kind_of net e.pair.link.to ≡ Some Switch → In e plan.entries → In (cell_rule e) (table_rules net plan)
  cell_rule-in e here present =
      at_switch-in (cell_rule e) e.pair.link.to here (in_append-right (row_part e.pair.link.to) (cell_part e.pair.link.to ++ last_part e.pair.link.to) (cell_rule e)
      (in_append-left (cell_part e.pair.link.to) (last_part e.pair.link.to) (cell_rule e)
      (map_in cell_rule (filter (λ x. x.pair.link.to == e.pair.link.to) plan.entries) e
      (filter_in (λ x. x.pair.link.to == e.pair.link.to) plan.entries e present (eq-eqb e.pair.link.to e.pair.link.to refl)))))

  pub last_rule-in : (loc : ℕ) → kind_of net loc ≡ Some Switch → In (last_rule loc) (table_rules net plan)
  last_rule-in loc here =
      at_switch-in (last_rule loc) loc here (in_append-right (row_part loc) (cell_part loc ++ last_part loc) (last_rule loc)
      (in_append-right (cell_part loc) (last_part loc) (last_rule loc) (inl refl)))

  abbrev process_row : TableRow → Process
  process_row row = process_of row

  abbrev at_box : TableRow → Bool
  at_box row = is_middlebox_kind (kind_of net (loc_of row.vertex))

  pub process-is : (line : Process) → In line (table_processes net plan) → (row : TableRow) × In row plan.rows × (line ≡ process_of row)
  process-is line h = let m = in_map process_row (filter at_box plan.rows) line h in (m.0, (in_filter at_box plan.rows m.0 m.1).0, m.2)

  pub process-in : (row : TableRow) → kind_of net (loc_of row.vertex) ≡ Some Middlebox → In row plan.rows → In (process_of row) (table_processes net plan)
  process-in row here present = map_in process_row (filter at_box plan.rows) row (filter_in at_box plan.rows row present (ap is_middlebox_kind here))
