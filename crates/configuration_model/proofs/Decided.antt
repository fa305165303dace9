-- One entry decides about each proper packet, and it is of the group of the packet's statement.
use Rattle.std.proofs.Common.{◌≡◌, ◌≢◌, ℕ, suc, ◌+◌, ◌<◌, ◌≤◌, ◌==◌, ◌⊎◌, inl, inr, Bool, true, false, cond, List, [], ◌∷◌, length, map, find, Option, None, Some, is_some, IsSome, option_map, unwrap_or, slice_get, if◌then◌else◌, refl, sym, ◌∙◌, ap, subst, arith}
use Rattle.std.proofs.lemmas.Bool.{eqb-true, eq-eqb}
use Rattle.std.specs.List.{flat_map, range_with_len}
use Rattle.merlin_model.specs.declared.network.LocationKind.{LocationKind}
use Rattle.merlin_model.specs.declared.network.HostAddress.{HostAddress}
use Rattle.merlin_model.specs.declared.policy.Symbol.{Symbol}
use Rattle.merlin_model.specs.declared.policy.Ends.{Ends}
use Rattle.merlin_model.specs.declared.config.Config.{Config}
use Rattle.merlin_model.specs.Packets.{Packet, IsPacket, source_of, destination_of}
use Rattle.merlin_model.specs.Predicates.{holds}
use Rattle.merlin_model.specs.Networks.{Network, kind_of, address_at, IsHost, IsProper}
use Rattle.merlin_model.specs.Policies.{Policy, Statement, match_among, match_of, default_of}
use Rattle.merlin_model.proofs.Members.{In, in_from, in_to, in_map, map_in, in_flat_map, flat_map_in, filter_in}
use Rattle.merlin_model.proofs.Traces.{Some-inj}
use Rattle.rules_model.specs.Tables.{is_host_kind, Cell, IngressEntry, Owned, owned_by, all_owned, all_hosts, cell_fits, IsDecided}
use Rattle.rules_model.proofs.TableRules.{in_range, is_location}
use Rattle.rules_model.proofs.Pieces.{not-same}
use Rattle.rules_model.proofs.Determined.{entry-same}
use Rattle.configuration_model.specs.Checked.{preds_of}
use Rattle.predicate_split.specs.declared.pair_cells.Cell.{Cell as HostCell}
use Rattle.predicate_split.specs.Cells.{cell_matches, owner_from}
use Rattle.configuration_model.specs.Cells.{priority_by, priority_of, AreCells, owner_of, table_cell}
use Rattle.configuration_model.specs.Tables.{grouped_cells}
use Rattle.configuration_model.specs.Compiled.{IsMade}
use Rattle.configuration_model.proofs.Lists.{None-Some, false-true, find-in, find-top}
use Rattle.configuration_model.proofs.Grouped.{are-written}

-- the owner, or the default, is the statement that the packet belongs to
owner-match : (n : ℕ) (statements : List Statement) (p : Packet) → unwrap_or (owner_from n (map (λ s. s.pred) statements) p) (n + length statements) ≡ n + match_among statements p
owner-match n [] p = refl
owner-match n (s ∷ rest) p = by (holds s.pred p) (owner-match (suc n) rest p)
  where
    by : (b : Bool) → unwrap_or (owner_from (suc n) (map (λ s. s.pred) rest) p) (suc n + length rest) ≡ suc n + match_among rest p → unwrap_or (cond b (Some n) (owner_from (suc n) (map (λ s. s.pred) rest) p)) (n + suc (length rest)) ≡ n + cond b 0 (1 + match_among rest p)
    by true later = omega arith
    by false later =
        let moved : n + suc (length rest) ≡ suc n + length rest = omega arith in
        let value : suc n + match_among rest p ≡ n + (1 + match_among rest p) = omega arith in
        ap (λ k. unwrap_or (owner_from (suc n) (map (λ s. s.pred) rest) p) k) moved ∙ later ∙ value

lower : (x y a b : ℕ) → x ≡ a → y ≡ b → a ≤ b → a ≢ b → x < y
lower x y a b ex ey le other = let less : a < b = grind (arith, other) in omega arith

above : (a b c : Option ℕ) → 0 < priority_by a b c
above None b c = omega arith
above (Some a) None None = omega arith
above (Some a) None (Some c) = omega arith
above (Some a) (Some b) None = omega arith
above (Some a) (Some b) (Some c) = omega arith

pub host-listed : (net : Network) (s : ℕ) → IsHost net s → In s (all_hosts net)
host-listed net s host = filter_in (λ loc. is_host_kind (kind_of net loc)) (range_with_len 0 (length net.locations)) s (in_range (length net.locations) s (by (kind_of net s) refl host)) host
  where
    by : (o : Option LocationKind) → kind_of net s ≡ o → IsSome (address_at o) → s < length net.locations
    by None e h = let no : ⊥ = cc in absurd no
    by (Some kind) e h = is_location net s kind e

-- the first cell that cell_matches the packet is of its statement
pub record Hit (policy : Policy) (cells : List HostCell) (p : Packet) : Type 0 where
  pub cell : HostCell
  pub found : find (cell_matches p) cells ≡ Some cell
  pub owner : owner_of (default_of policy) cell ≡ match_of policy p

pub hit : (policy : Policy) (a b : HostAddress) (cells : List HostCell) (p : Packet) → AreCells (preds_of policy) a b cells → IsPacket p → source_of p ≡ a → destination_of p ≡ b → Hit policy cells p
hit policy a b cells p are valid from to = by (find (cell_matches p) cells) refl (are.first p valid from to)
  where
    by : (o : Option HostCell) → find (cell_matches p) cells ≡ o → option_map (λ c. c.owner) o ≡ Some (owner_from 0 (preds_of policy) p) → Hit policy cells p
    by None e h = absurd (None-Some h)
    by (Some c) e h = record { cell = c; found = e; owner = ap (λ o. unwrap_or o (default_of policy)) (Some-inj h) ∙ ap (unwrap_or (owner_from 0 (preds_of policy) p)) start ∙ owner-match 0 policy.statements p ∙ end }
      where
        start : length policy.statements ≡ 0 + length policy.statements
        start = omega arith

        end : 0 + match_among policy.statements p ≡ match_among policy.statements p
        end = omega arith

module _ (net : Network) (policy : Policy) (ends : List Ends) (walks : List (List Symbol)) (config : Config) (m : IsMade net policy ends walks config) where
  abbrev grouped : ℕ → ℕ → List (Cell × ℕ)
  grouped s d = grouped_cells policy m.tables.group_of m.cells s d

  abbrev group_at : HostCell → ℕ
  group_at c = unwrap_or (slice_get m.tables.group_of (owner_of (default_of policy) c)) 0

  abbrev owned_at : ℕ → ℕ → HostCell → Owned
  owned_at s d c = record { source = s; dest = d; cell = table_cell c; group = group_at c }

  abbrev piece : ℕ → ℕ → List Owned
  piece s d = if s == d then [] else map (λ c. record { source = s; dest = d; cell = c.0; group = c.1 }) (grouped s d)

  entry-for : (s d : ℕ) (c : HostCell) → IsHost net s → IsHost net d → s ≢ d → In c (m.cells s d) → (e : IngressEntry) × In e m.tables.plan.entries × (owned_at s d c ≡ owned_by e)
  entry-for s d c host dest other i = in_map owned_by m.tables.plan.entries (owned_at s d c) (subst (In (owned_at s d c)) (sym m.tables.in_order.entries) all)
    where
      here : In (owned_at s d c) (piece s d)
      here = subst (λ b. In (owned_at s d c) (cond b [] (map (λ c. record { source = s; dest = d; cell = c.0; group = c.1 }) (grouped s d)))) (sym (not-same s d other))
          (map_in (λ (c : Cell × ℕ). record { source = s; dest = d; cell = c.0; group = c.1 }) (grouped s d) (table_cell c, group_at c) (map_in (λ c. (table_cell c, group_at c)) (m.cells s d) c i))

      all : In (owned_at s d c) (all_owned net grouped)
      all = flat_map_in (λ s. flat_map (piece s) (all_hosts net)) (all_hosts net) s (owned_at s d c) (host-listed net s host)
          (flat_map_in (piece s) (all_hosts net) d (owned_at s d c) (host-listed net d dest) here)

  cell-of : (e : IngressEntry) → In e m.tables.plan.entries → (c : HostCell) × In c (m.cells e.pair.source e.pair.dest) × (owned_by e ≡ owned_at e.pair.source e.pair.dest c)
  cell-of e i = inside (s.0 == d.0) refl d.2
    where
      all : In (owned_by e) (all_owned net grouped)
      all = subst (In (owned_by e)) m.tables.in_order.entries (map_in owned_by m.tables.plan.entries e i)

      s : (s : ℕ) × In s (all_hosts net) × In (owned_by e) (flat_map (piece s) (all_hosts net))
      s = in_flat_map (λ s. flat_map (piece s) (all_hosts net)) (all_hosts net) (owned_by e) all

      d : (d : ℕ) × In d (all_hosts net) × In (owned_by e) (piece s.0 d)
      d = in_flat_map (piece s.0) (all_hosts net) (owned_by e) s.2

      inside : (b : Bool) → (s.0 == d.0) ≡ b → In (owned_by e) (cond b [] (map (λ c. record { source = s.0; dest = d.0; cell = c.0; group = c.1 }) (grouped s.0 d.0))) →
          (c : HostCell) × In c (m.cells e.pair.source e.pair.dest) × (owned_by e ≡ owned_at e.pair.source e.pair.dest c)
      inside true same h = absurd h
      inside false other h =
          let made = in_map (λ (c : Cell × ℕ). record { source = s.0; dest = d.0; cell = c.0; group = c.1 }) (grouped s.0 d.0) (owned_by e) h in
          let cell = in_map (λ c. (table_cell c, group_at c)) (m.cells s.0 d.0) made.0 made.1 in
          let from : e.pair.source ≡ s.0 = ap (λ o. o.source) made.2 in
          let to : e.pair.dest ≡ d.0 = ap (λ o. o.dest) made.2 in (
            cell.0,
            subst (λ T. T) (λ i. In cell.0 (m.cells (sym from i) (sym to i))) cell.1,
            made.2 ∙ (λ i. record { source = sym from i; dest = sym to i; cell = (cell.2 i).0; group = (cell.2 i).1 }),
          )

  pub decided : (s d : ℕ) (p : Packet) (number : ℕ) → IsPacket p → IsProper net p s d → slice_get m.tables.group_of (match_of policy p) ≡ Some number → IsDecided m.tables.plan.entries s d p number
  decided s d p number valid proper listed = record {
    entry = e.0;
    among = in_to m.tables.plan.entries e.0 e.1;
    source = ap (λ o. o.source) (sym e.2);
    dest = ap (λ o. o.dest) (sym e.2);
    fits = ap (λ o. cell_fits o.cell p) (sym e.2) ∙ chosen.1;
    decides = λ x among from to fit. rest x (in_from m.tables.plan.entries x among) from to fit;
    above_last = subst (λ o. 0 < o.cell.priority) e.2 (above h.cell.proto h.cell.sport h.cell.dport);
    group = ap (λ o. o.group) (sym e.2) ∙ ap (λ i. unwrap_or (slice_get m.tables.group_of i) 0) h.owner ∙ ap (λ o. unwrap_or o 0) listed;
  }
    where
      are : AreCells (preds_of policy) (source_of p) (destination_of p) (m.cells s d)
      are = m.cells_are s d (source_of p) (destination_of p) proper.differ proper.source proper.destination

      h : Hit policy (m.cells s d) p
      h = hit policy (source_of p) (destination_of p) (m.cells s d) p are valid refl refl

      chosen : In h.cell (m.cells s d) × (cell_matches p h.cell ≡ true)
      chosen = find-in (cell_matches p) (m.cells s d) h.cell h.found

      e : (e : IngressEntry) × In e m.tables.plan.entries × (owned_at s d h.cell ≡ owned_by e)
      e = entry-for s d h.cell (ap is_some proper.source) (ap is_some proper.destination) proper.differ chosen.0

      rest : (x : IngressEntry) → In x m.tables.plan.entries → x.pair.source ≡ s → x.pair.dest ≡ d → cell_fits x.cell p ≡ true → (x ≡ e.0) ⊎ (x.cell.priority < e.0.cell.priority)
      rest x i from to fit = by (priority_of c.0 == priority_of h.cell) refl
        where
          c' : (c : HostCell) × In c (m.cells x.pair.source x.pair.dest) × (owned_by x ≡ owned_at x.pair.source x.pair.dest c)
          c' = cell-of x i

          c : (c : HostCell) × In c (m.cells s d) × (owned_by x ≡ owned_at s d c)
          c = (c'.0, subst (λ T. T) (λ i. In c'.0 (m.cells (from i) (to i))) c'.1, c'.2 ∙ (λ i. owned_at (from i) (to i) c'.0))

          fits_too : cell_matches p c.0 ≡ true
          fits_too = ap (λ o. cell_fits o.cell p) (sym c.2) ∙ fit

          top : priority_of c.0 ≤ priority_of h.cell
          top = find-top (cell_matches p) priority_of (m.cells s d) h.cell c.0 are.falling h.found c.1 fits_too

          rank_x : x.cell.priority ≡ priority_of c.0
          rank_x = ap (λ o. o.cell.priority) c.2

          rank_e : e.0.cell.priority ≡ priority_of h.cell
          rank_e = ap (λ o. o.cell.priority) (sym e.2)

          by : (b : Bool) → (priority_of c.0 == priority_of h.cell) ≡ b → (x ≡ e.0) ⊎ (x.cell.priority < e.0.cell.priority)
          by true level =
              let one : c.0 ≡ h.cell = are.one p c.0 h.cell (in_to (m.cells s d) c.0 c.1) (in_to (m.cells s d) h.cell chosen.0) fits_too chosen.1 (eqb-true (priority_of c.0) (priority_of h.cell) level) in
              inl (entry-same net m.network m.tables.groups (are-written net policy ends walks config m) grouped m.tables.plan m.tables.plan m.tables.plan_is refl x e.0
              (m.tables.plan_is.entries_are x (in_to m.tables.plan.entries x i)) (m.tables.plan_is.entries_are e.0 (in_to m.tables.plan.entries e.0 e.1)) (c.2 ∙ ap (owned_at s d) one ∙ e.2))
          by false level =
              let other : priority_of c.0 ≢ priority_of h.cell = λ same. false-true (sym level ∙ eq-eqb (priority_of c.0) (priority_of h.cell) same) in
              inr (lower x.cell.priority e.0.cell.priority (priority_of c.0) (priority_of h.cell) rank_x rank_e top other)
