-- The OUTPUT lines of a host drop a packet exactly where its statement has share 0 there.
use Rattle.std.proofs.Common.{◌≡◌, ◌≢◌, ℕ, suc, ◌<◌, ◌==◌, ◌&&◌, ◌||◌, inl, inr, ◌↔◌, not, Bool, true, false, cond, List, [], ◌∷◌, ◌++◌, length, map, find, Option, None, Some, is_some, option_map, unwrap_or, slice_get, refl, sym, ◌∙◌, ap, ap₂, subst, arith}
use Rattle.std.proofs.lemmas.Bool.{eqb-true, eq-eqb}
use Rattle.std.specs.List.{flat_map, list_any, range_with_len}
use Rattle.merlin_model.specs.declared.network.HostAddress.{HostAddress}
use Rattle.merlin_model.specs.declared.policy.Symbol.{Symbol}
use Rattle.merlin_model.specs.declared.policy.Ends.{Ends}
use Rattle.merlin_model.specs.declared.config.HostLine.{HostLine}
use Rattle.merlin_model.specs.declared.config.HostLine.TheVariants as line
use Rattle.merlin_model.specs.declared.config.Config.{Config}
use Rattle.merlin_model.specs.Packets.{Packet, IsPacket, source_of, destination_of}
use Rattle.merlin_model.specs.Networks.{Network, kind_of, address_of, IsHost, IsProper}
use Rattle.merlin_model.specs.Policies.{Policy, match_of, paths_of}
use Rattle.merlin_model.specs.Rates.{share, max_of, IsShareAt}
use Rattle.merlin_model.specs.Machine.{agrees, host_fits, output_of, is_dropped_by}
use Rattle.merlin_model.proofs.Members.{In, filter_in, in_filter}
use Rattle.merlin_model.proofs.Ascending.{sources-same, share-same}
use Rattle.merlin_model.proofs.Traces.{Some-inj}
use Rattle.rules_model.specs.Tables.{all_hosts, is_host_kind}
use Rattle.predicate_split.specs.declared.pair_cells.Cell.{Cell as HostCell}
use Rattle.predicate_split.specs.Cells.{cell_matches}
use Rattle.configuration_model.specs.Tables.{AreSources}
use Rattle.configuration_model.specs.Hosts.{place_among, share_among, is_zero, host_at, share_at, is_out, is_classed, classed_at, class_at, class_lines, match_of_cell, owner_is, reading_of, readings, output_of_cell, outputs, others, headed, lines_at, host_lines}
use Rattle.configuration_model.specs.Compiled.{IsMade}
use Rattle.configuration_model.proofs.Lists.{None-Some, false-true, at-in, at-below, find-in, found, found-none, found-some, found-after, found-nowhere, found-there}
use Rattle.configuration_model.proofs.Decided.{Hit, hit, host-listed}

abbrev ip_of : Option HostAddress → ℕ
ip_of o = address.ip
  where
    address : HostAddress
    address = unwrap_or o (record { eth = 0; ip = 0 })

-- What the lines say is the first answer of an OUTPUT line.

cons-none : (s : ℕ) (p : Packet) (l : HostLine) (lines : List HostLine) → output_of s p l ≡ None → is_dropped_by (l ∷ lines) s p ≡ is_dropped_by lines s p
cons-none s p l lines e = cc

cons-some : (s : ℕ) (p : Packet) (l : HostLine) (lines : List HostLine) (b : Bool) → output_of s p l ≡ Some b → is_dropped_by (l ∷ lines) s p ≡ b
cons-some s p l lines b e = cc

said : (s : ℕ) (p : Packet) (lines : List HostLine) → is_dropped_by lines s p ≡ unwrap_or (found (output_of s p) lines) false
said s p [] = refl
said s p (l ∷ lines) = by (output_of s p l) refl (said s p lines)
  where
    by : (o : Option Bool) → output_of s p l ≡ o → is_dropped_by lines s p ≡ unwrap_or (found (output_of s p) lines) false → is_dropped_by (l ∷ lines) s p ≡ unwrap_or (found (output_of s p) (l ∷ lines)) false
    by None e ih = cons-none s p l lines e ∙ ih ∙ sym (ap (λ o. unwrap_or o false) (found-none (output_of s p) l lines e))
    by (Some b) e ih = cons-some s p l lines b e ∙ sym (ap (λ o. unwrap_or o false) (found-some (output_of s p) l lines b e))

-- Shares.

pub place-at : (hosts : List ℕ) (s k : ℕ) → place_among hosts s ≡ Some k → slice_get hosts k ≡ Some s
place-at [] s k e = absurd (None-Some e)
place-at (h ∷ hosts) s k e = by (h == s) refl (place_among hosts s) refl e (place-at hosts s)
  where
    by : (b : Bool) → (h == s) ≡ b → (o : Option ℕ) → place_among hosts s ≡ o → cond b (Some 0) (option_map suc o) ≡ Some k → ((j : ℕ) → place_among hosts s ≡ Some j → slice_get hosts j ≡ Some s) → slice_get (h ∷ hosts) k ≡ Some s
    by true same o w e ih = subst (λ n. slice_get (h ∷ hosts) n ≡ Some s) (Some-inj e) (ap Some (eqb-true h s same))
    by false other None w e ih = absurd (None-Some e)
    by false other (Some j) w e ih = subst (λ n. slice_get (h ∷ hosts) n ≡ Some s) (Some-inj e) (ih j w)

pub in-place : (hosts : List ℕ) (s : ℕ) → In s hosts → (k : ℕ) × (place_among hosts s ≡ Some k)
in-place [] s i = absurd i
in-place (h ∷ hosts) s i = by (h == s) refl i (in-place hosts s)
  where
    by : (b : Bool) → (h == s) ≡ b → In s (h ∷ hosts) → (In s hosts → (k : ℕ) × (place_among hosts s ≡ Some k)) → (k : ℕ) × (cond b (Some 0) (option_map suc (place_among hosts s)) ≡ Some k)
    by true e i ih = (0, refl)
    by false e (inl same) ih = absurd (false-true (sym e ∙ eq-eqb h s (sym same)))
    by false e (inr i) ih = let r = ih i in (suc r.0, ap (option_map suc) r.1)

module _ (net : Network) (policy : Policy) (sources : List (List ℕ)) (are : AreSources net policy sources) where
  -- the share of a live source
  pub share-is : (i s c : ℕ) → i < length (paths_of policy) → share_among (max_of policy i) (unwrap_or (slice_get sources i) []) s ≡ Some c → IsShareAt net policy i s c
  share-is i s c below e = by (max_of policy i) refl (place_among hosts s) refl (subst (λ hs. share_among (max_of policy i) hs s ≡ Some c) listed e)
    where
      own : (hosts : List ℕ) × (slice_get sources i ≡ Some hosts)
      own = at-below sources i (subst (λ n. i < n) (sym are.size) below)

      hosts : List ℕ
      hosts = own.0

      listed : unwrap_or (slice_get sources i) [] ≡ hosts
      listed = ap (λ o. unwrap_or o []) own.1

      by : (m : Option ℕ) → max_of policy i ≡ m → (k : Option ℕ) → place_among hosts s ≡ k → share_among (max_of policy i) hosts s ≡ Some c → IsShareAt net policy i s c
      by None em k ek e = absurd (None-Some (sym (ap (λ m. share_among m hosts s) em) ∙ e))
      by (Some cap) em None ek e = absurd (None-Some (sym (ap (λ m. share_among m hosts s) em ∙ ap (option_map (share cap (length hosts))) ek) ∙ e))
      by (Some cap) em (Some k) ek e = record {
        cap = cap;
        capped = em;
        hosts = hosts;
        sources = are.each i hosts own.1;
        place = k;
        stands = place-at hosts s k ek;
        value = Some-inj (sym e ∙ ap (λ m. share_among m hosts s) em ∙ ap (option_map (share cap (length hosts))) ek);
      }

  pub is-share : (i s c : ℕ) → i < length (paths_of policy) → IsShareAt net policy i s c → share_among (max_of policy i) (unwrap_or (slice_get sources i) []) s ≡ Some c
  is-share i s c below h = ap₂ (λ m hs. share_among m hs s) h.capped listed ∙ ap (option_map (share h.cap (length own.0))) place.1 ∙ ap Some (share-same net policy i s _ c mine h)
    where
      own : (hosts : List ℕ) × (slice_get sources i ≡ Some hosts)
      own = at-below sources i (subst (λ n. i < n) (sym are.size) below)

      listed : unwrap_or (slice_get sources i) [] ≡ own.0
      listed = ap (λ o. unwrap_or o []) own.1

      one : h.hosts ≡ own.0
      one = sources-same net policy i h.hosts own.0 h.sources (are.each i own.0 own.1)

      place : (k : ℕ) × (place_among own.0 s ≡ Some k)
      place = in-place own.0 s (subst (In s) one (at-in h.hosts h.place s h.stands))

      mine : IsShareAt net policy i s (share h.cap (length own.0) place.0)
      mine = record { cap = h.cap; capped = h.capped; hosts = own.0; sources = are.each i own.0 own.1; place = place.0; stands = place-at own.0 s place.0 place.1; value = refl }

-- Lines of other kinds and other hosts say nothing of dropping.

module _ (net : Network) (policy : Policy) (sources : List (List ℕ)) (cells : ℕ → ℕ → List HostCell) (s : ℕ) (p : Packet) where
  abbrev says : List HostLine → Option Bool
  says lines = found (output_of s p) lines

  classes-say : (h x : ℕ) (is : List ℕ) → says (class_lines net policy sources cells h x is) ≡ None
  classes-say h x [] = refl
  classes-say h x (i ∷ is) = classes-say h (suc x) is

  headed-says : (h : ℕ) (lines : List HostLine) → says lines ≡ None → says (headed net policy sources cells h lines) ≡ None
  headed-says h [] e = refl
  headed-says h (l ∷ lines) e = e

  readings-say : (h d : ℕ) → says (readings net policy sources cells h d) ≡ None
  readings-say h d = by (list_any (λ c. is_classed net policy sources cells (owner_is net policy sources cells c) h) (cells h d))
    where
      each : (c : HostCell) → says (reading_of net policy sources cells h d c) ≡ None
      each c = one (is_classed net policy sources cells (owner_is net policy sources cells c) h)
        where
          one : (b : Bool) → says (cond b (line.Classify h (match_of_cell net policy sources cells h d c) (class_at net policy sources cells h (owner_is net policy sources cells c)) ∷ line.Leave h (match_of_cell net policy sources cells h d c) ∷ []) (line.Leave h (match_of_cell net policy sources cells h d c) ∷ [])) ≡ None
          one true = refl
          one false = refl

      by : (b : Bool) → says (cond b (flat_map (reading_of net policy sources cells h d) (cells h d)) []) ≡ None
      by true = found-nowhere (output_of s p) (reading_of net policy sources cells h d) (cells h d) (λ c i. each c)
      by false = refl

  outputs-say : (h d : ℕ) → ((c : HostCell) → output_of s p (output_of_cell net policy sources cells h d c) ≡ None) → says (outputs net policy sources cells h d) ≡ None
  outputs-say h d none = by (list_any (λ c. is_out net policy sources cells (owner_is net policy sources cells c) h) (cells h d))
    where
      all : (cs : List HostCell) → says (map (output_of_cell net policy sources cells h d) cs) ≡ None
      all [] = refl
      all (c ∷ cs) = found-none (output_of s p) (output_of_cell net policy sources cells h d c) (map (output_of_cell net policy sources cells h d) cs) (none c) ∙ all cs

      by : (b : Bool) → says (cond b (map (output_of_cell net policy sources cells h d) (cells h d)) []) ≡ None
      by true = all (cells h d)
      by false = refl

  -- of a host's lines only the OUTPUT lines count
  lines-say : (h : ℕ) → says (lines_at net policy sources cells h) ≡ says (flat_map (outputs net policy sources cells h) (others net policy sources cells h))
  lines-say h =
      found-after (output_of s p) (headed net policy sources cells h (class_lines net policy sources cells h 1 (classed_at net policy sources cells h)))
      (flat_map (readings net policy sources cells h) (others net policy sources cells h) ++ flat_map (outputs net policy sources cells h) (others net policy sources cells h))
      (headed-says h (class_lines net policy sources cells h 1 (classed_at net policy sources cells h)) (classes-say h 1 (classed_at net policy sources cells h)))
      ∙ found-after (output_of s p) (flat_map (readings net policy sources cells h) (others net policy sources cells h)) (flat_map (outputs net policy sources cells h) (others net policy sources cells h))
      (found-nowhere (output_of s p) (readings net policy sources cells h) (others net policy sources cells h) (λ d i. readings-say h d))

  other-host : (h d : ℕ) (c : HostCell) → h ≢ s → output_of s p (output_of_cell net policy sources cells h d c) ≡ None
  other-host h d c other = by (h == s) (host_fits (match_of_cell net policy sources cells h d c) p) (not-equal h s other)
    where
      not-equal : (a b : ℕ) → a ≢ b → (a == b) ≡ false
      not-equal a b n = grind (arith, n)

      by : (b f : Bool) → b ≡ false → cond (b && f) (Some (is_out net policy sources cells (owner_is net policy sources cells c) h)) None ≡ None
      by true f e = absurd (false-true (sym e))
      by false f e = refl

  other-dest : (d : ℕ) (c : HostCell) → (host_at net d).ip ≢ p.ip_dst → output_of s p (output_of_cell net policy sources cells s d c) ≡ None
  other-dest d c other = by (s == s) ((host_at net s).ip == p.ip_src) ((host_at net d).ip == p.ip_dst) (agrees c.proto p.proto) (agrees c.sport p.sport) (agrees c.dport p.dport) (not-equal (host_at net d).ip p.ip_dst other)
    where
      not-equal : (a b : ℕ) → a ≢ b → (a == b) ≡ false
      not-equal a b n = grind (arith, n)

      by : (b f g x y z : Bool) → g ≡ false → cond (b && (f && g && x && y && z)) (Some (is_out net policy sources cells (owner_is net policy sources cells c) s)) None ≡ None
      by b f true x y z e = absurd (false-true (sym e))
      by true true false x y z e = refl
      by true false false x y z e = refl
      by false f false x y z e = refl

  own-pair : (d : ℕ) (c : HostCell) → (host_at net s).ip ≡ p.ip_src → (host_at net d).ip ≡ p.ip_dst →
      output_of s p (output_of_cell net policy sources cells s d c) ≡ cond (cell_matches p c) (Some (is_out net policy sources cells (owner_is net policy sources cells c) s)) None
  own-pair d c from to = by (s == s) ((host_at net s).ip == p.ip_src) ((host_at net d).ip == p.ip_dst) (eq-eqb s s refl) (eq-eqb (host_at net s).ip p.ip_src from) (eq-eqb (host_at net d).ip p.ip_dst to)
    where
      by : (b f g : Bool) → b ≡ true → f ≡ true → g ≡ true →
          cond (b && (f && g && agrees c.proto p.proto && agrees c.sport p.sport && agrees c.dport p.dport)) (Some (is_out net policy sources cells (owner_is net policy sources cells c) s)) None
          ≡ cond (cell_matches p c) (Some (is_out net policy sources cells (owner_is net policy sources cells c) s)) None
      by true true true e h k = refl
      by true true false e h k = absurd (false-true k)
      by true false g e h k = absurd (false-true h)
      by false f g e h k = absurd (false-true e)

  -- the first cell that cell_matches says whether the packet is dropped
  pair-says : (d : ℕ) (cs : List HostCell) → (host_at net s).ip ≡ p.ip_src → (host_at net d).ip ≡ p.ip_dst →
      says (map (output_of_cell net policy sources cells s d) cs) ≡ option_map (λ c. is_out net policy sources cells (owner_is net policy sources cells c) s) (find (cell_matches p) cs)
  pair-says d [] from to = refl
  pair-says d (c ∷ cs) from to = by (cell_matches p c) (own-pair d c from to) (pair-says d cs from to)
    where
      by : (b : Bool) → output_of s p (output_of_cell net policy sources cells s d c) ≡ cond b (Some (is_out net policy sources cells (owner_is net policy sources cells c) s)) None →
          says (map (output_of_cell net policy sources cells s d) cs) ≡ option_map (λ c. is_out net policy sources cells (owner_is net policy sources cells c) s) (find (cell_matches p) cs) →
          says (map (output_of_cell net policy sources cells s d) (c ∷ cs)) ≡ option_map (λ c. is_out net policy sources cells (owner_is net policy sources cells c) s) (cond b (Some c) (find (cell_matches p) cs))
      by true e ih = found-some (output_of s p) (output_of_cell net policy sources cells s d c) (map (output_of_cell net policy sources cells s d) cs) _ e
      by false e ih = found-none (output_of s p) (output_of_cell net policy sources cells s d c) (map (output_of_cell net policy sources cells s d) cs) e ∙ ih

pub any-none : {X : Type 0} (t : X → Bool) (xs : List X) (x : X) → list_any t xs ≡ false → In x xs → t x ≡ false
any-none t [] x e i = absurd i
any-none {X} t (y ∷ ys) x e i = by (t y) refl e i (any-none t ys x)
  where
    by : (b : Bool) → t y ≡ b → (b || list_any t ys) ≡ false → In x (y ∷ ys) → (list_any t ys ≡ false → In x ys → t x ≡ false) → t x ≡ false
    by true h e i ih = absurd (false-true (sym e))
    by false h e (inl same) ih = ap t same ∙ h
    by false h e (inr j) ih = ih e j

module _ (net : Network) (policy : Policy) (ends : List Ends) (walks : List (List Symbol)) (config : Config) (m : IsMade net policy ends walks config) where
  module _ (s d : ℕ) (p : Packet) (valid : IsPacket p) (proper : IsProper net p s d) where
    pub from : (host_at net s).ip ≡ p.ip_src
    from = ap (λ (o : Option HostAddress). ip_of o) proper.source

    pub to : (host_at net d).ip ≡ p.ip_dst
    to = ap (λ (o : Option HostAddress). ip_of o) proper.destination

    out : ℕ → Bool
    out i = is_out net policy m.sources m.cells i s

    pub h : Hit policy (m.cells s d) p
    h = hit policy (source_of p) (destination_of p) (m.cells s d) p (m.cells_are s d (source_of p) (destination_of p) proper.differ proper.source proper.destination) valid refl refl

    -- another host has another address
    pub elsewhere : (e : ℕ) → IsHost net e → e ≢ d → (host_at net e).ip ≢ p.ip_dst
    elsewhere e host other same = by (address_of net e) refl host
      where
        by : (o : Option HostAddress) → address_of net e ≡ o → is_some o ≡ true → ⊥
        by None here none = false-true none
        by (Some a) here some =
            other (m.network.addresses e d a (destination_of p) here proper.destination (inr (sym (ap (λ (o : Option HostAddress). ip_of o) here) ∙ same)))

    pub among : In d (others net policy m.sources m.cells s)
    among = filter_in (λ e. not (e == s)) (all_hosts net) d (host-listed net d (ap is_some proper.destination)) (by (d == s) refl)
      where
        by : (b : Bool) → (d == s) ≡ b → not b ≡ true
        by true e = absurd (proper.differ (sym (eqb-true d s e)))
        by false e = refl

    pair : unwrap_or (found (output_of s p) (outputs net policy m.sources m.cells s d)) false ≡ is_out net policy m.sources m.cells (match_of policy p) s
    pair = by (list_any (λ c. is_out net policy m.sources m.cells (owner_is net policy m.sources m.cells c) s) (m.cells s d)) refl
      where
        by : (b : Bool) → list_any (λ c. is_out net policy m.sources m.cells (owner_is net policy m.sources m.cells c) s) (m.cells s d) ≡ b →
            unwrap_or (found (output_of s p) (cond b (map (output_of_cell net policy m.sources m.cells s d) (m.cells s d)) [])) false ≡ is_out net policy m.sources m.cells (match_of policy p) s
        by true e =
            ap (λ o. unwrap_or o false) (pair-says net policy m.sources m.cells s p d (m.cells s d) from to ∙ ap (option_map (λ c. is_out net policy m.sources m.cells (owner_is net policy m.sources m.cells c) s)) h.found)
            ∙ ap (λ i. is_out net policy m.sources m.cells i s) h.owner
        by false e =
            sym (any-none (λ c. is_out net policy m.sources m.cells (owner_is net policy m.sources m.cells c) s) (m.cells s d) h.cell e (find-in (cell_matches p) (m.cells s d) h.cell h.found).0)
            ∙ ap (λ i. is_out net policy m.sources m.cells i s) h.owner

    all : is_dropped_by config.hosts s p ≡ is_out net policy m.sources m.cells (match_of policy p) s
    all =
        ap (λ lines. is_dropped_by lines s p) m.hosts
        ∙ said s p (host_lines net policy m.sources m.cells)
        ∙ ap (λ o. unwrap_or o false) (
        found-there (output_of s p) (lines_at net policy m.sources m.cells) (all_hosts net) s (host-listed net s (ap is_some proper.source))
        (λ e i other. lines-say net policy m.sources m.cells s p e
        ∙ found-nowhere (output_of s p) (outputs net policy m.sources m.cells e) (others net policy m.sources m.cells e) (λ x j. outputs-say net policy m.sources m.cells s p e x (λ c. other-host net policy m.sources m.cells s p e x c other)))
        ∙ lines-say net policy m.sources m.cells s p s
        ∙ found-there (output_of s p) (outputs net policy m.sources m.cells s) (others net policy m.sources m.cells s) d among
        (λ e i other. outputs-say net policy m.sources m.cells s p s e (λ c. other-dest net policy m.sources m.cells s p e c (elsewhere e (in_filter (λ loc. is_host_kind (kind_of net loc)) (range_with_len 0 (length net.locations)) e (in_filter (λ x. not (x == s)) (all_hosts net) e i).0).1 other)))
        )
        ∙ pair

    below : match_of policy p < length (paths_of policy)
    below = m.checked.total p valid

    pub drops : (is_dropped_by config.hosts s p ≡ true) ↔ IsShareAt net policy (match_of policy p) s 0
    drops = (
      λ e. zero-share (share_at net policy m.sources m.cells (match_of policy p) s) refl (sym all ∙ e),
      λ share. all ∙ ap is_zero (is-share net policy m.sources m.sources_are (match_of policy p) s 0 below share),
    )
      where
        zero-share : (o : Option ℕ) → share_at net policy m.sources m.cells (match_of policy p) s ≡ o → is_zero o ≡ true → IsShareAt net policy (match_of policy p) s 0
        zero-share None e z = absurd (false-true z)
        zero-share (Some n) e z = share-is net policy m.sources m.sources_are (match_of policy p) s 0 below (e ∙ ap Some (eqb-true n 0 z))
