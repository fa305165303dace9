-- The lines made from what is kept of the hosts are those of the configuration.
use Rattle.std.proofs.Common.{ℕ, zero, suc, ◌≡◌, ◌≤◌, ◌<◌, ◌+◌, ◌==◌, ◌⊎◌, inl, inr, not, Bool, true, false, ◌&&◌, ◌||◌, cond, List, [], ◌∷◌, ◌++◌, length, map, filter, Option, None, Some, is_some, slice_get, refl, sym, ◌∙◌, ap, ap₂, arith}
use Rattle.std.specs.Prelude.{unwrap_or}
use Rattle.std.specs.Option.{option_map_or, option_and_then}
use Rattle.std.specs.List.{flat_map, list_any, range_with_len}
use Rattle.merlin_model.specs.declared.config.HostMatch.{HostMatch}
use Rattle.merlin_model.specs.declared.config.HostLine.{HostLine}
use Rattle.merlin_model.specs.declared.config.HostLine.TheVariants as line
use Rattle.merlin_model.specs.Networks.{Network}
use Rattle.merlin_model.specs.Policies.{Policy, paths_of, default_of}
use Rattle.merlin_model.specs.Rates.{max_of}
use Rattle.rules_model.specs.Tables.{all_hosts}
use Rattle.predicate_split.specs.declared.pair_cells.Cell.{Cell}
use Rattle.configuration_model.specs.Checked.{preds_of}
use Rattle.configuration_model.specs.Hosts.{place_among, share_among, is_zero, is_above, is_guaranteed, is_out, class_at, reading_of, readings, output_of_cell, outputs, others, headed, lines_at, host_lines}
use Rattle.queue_and_tc.specs.declared.standings.Standing.{Standing}
use Rattle.queue_and_tc.specs.declared.reaches.Host.{Host}
use Rattle.queue_and_tc.specs.declared.reaches.Reach.{Reach}
use Rattle.configuration_model.specs.Pairs.{pair_cells}
use Rattle.queue_and_tc.specs.Shares.{Sources, sources_in, has_class, count_before, standing_of, standings_of}
use Rattle.queue_and_tc.specs.HostTexts.{host_in, hosts_in, reach_between, reaches_between, class_in, out_in, owner_in, match_between, class_lines_in, headed_by, reading_by, reading_in, readings_in, output_in, outputs_in, host_lines_at}
use Rattle.queue_and_tc.proofs.ClassNumbers.{classes-from, number-from}

-- Lists by place.

at-range : {X : Type 0} (f : ℕ → X) (a n i : ℕ) → i < n → slice_get (map f (range_with_len a n)) i ≡ Some (f (a + i))
at-range f a zero i lt = absurd (omega arith)
at-range f a (suc n) zero lt = ap (λ k. Some (f k)) (let e : a ≡ a + 0 = omega arith in e)
at-range f a (suc n) (suc i) lt = at-range f (a + 1) n i (omega arith) ∙ ap (λ k. Some (f k)) (let e : (a + 1) + i ≡ a + suc i = omega arith in e)

past-range : {X : Type 0} (f : ℕ → X) (a n i : ℕ) → n ≤ i → slice_get (map f (range_with_len a n)) i ≡ None
past-range f a zero i le = refl
past-range f a (suc n) zero le = absurd (omega arith)
past-range f a (suc n) (suc i) le = past-range f (a + 1) n i (omega arith)

past-list : {X Y : Type 0} (f : X → Y) (xs : List X) (i : ℕ) → length xs ≤ i → slice_get (map f xs) i ≡ None
past-list f [] i le = refl
past-list f (x ∷ xs) zero le = absurd (omega arith)
past-list f (x ∷ xs) (suc i) le = past-list f xs i (omega arith)

-- Lists of pieces that are alike.

any-alike : {X : Type 0} (p q : X → Bool) → ((x : X) → p x ≡ q x) → (xs : List X) → list_any p xs ≡ list_any q xs
any-alike p q same [] = refl
any-alike p q same (x ∷ xs) = ap₂ (λ a b. a || b) (same x) (any-alike p q same xs)

pieces-alike : {X Y : Type 0} (f g : X → List Y) → ((x : X) → f x ≡ g x) → (xs : List X) → flat_map f xs ≡ flat_map g xs
pieces-alike f g same [] = refl
pieces-alike {X} {Y} f g same (x ∷ xs) = ap₂ (λ (a b : List Y). a ++ b) (same x) (pieces-alike f g same xs)

map-alike : {X Y : Type 0} (f g : X → Y) → ((x : X) → f x ≡ g x) → (xs : List X) → map f xs ≡ map g xs
map-alike f g same [] = refl
map-alike {X} {Y} f g same (x ∷ xs) = ap₂ (λ (a : Y) (b : List Y). a ∷ b) (same x) (map-alike f g same xs)

pieces-map : {X Y Z : Type 0} (f : Y → List Z) (g : X → Y) (xs : List X) → flat_map f (map g xs) ≡ flat_map (λ x. f (g x)) xs
pieces-map f g [] = refl
pieces-map f g (x ∷ xs) = ap (λ l. f (g x) ++ l) (pieces-map f g xs)

filter-map-in : {X Y : Type 0} (q : Y → Bool) (h : X → Y) (xs : List X) → filter q (map h xs) ≡ map h (filter (λ x. q (h x)) xs)
filter-map-in q h [] = refl
filter-map-in {X} {Y} q h (x ∷ xs) = by (q (h x)) (filter-map-in q h xs)
  where
    by : (b : Bool) → filter q (map h xs) ≡ map h (filter (λ z. q (h z)) xs) → cond b (h x ∷ filter q (map h xs)) (filter q (map h xs)) ≡ map h (cond b (x ∷ filter (λ z. q (h z)) xs) (filter (λ z. q (h z)) xs))
    by true e = ap (λ l. h x ∷ l) e
    by false e = e

module _ (net : Network) (policy : Policy) (sources : Sources) (few : length sources ≤ length (paths_of policy)) where
  abbrev S : List (List ℕ)
  S = sources_in sources

  abbrev C : ℕ → ℕ → List Cell
  C = pair_cells net policy

  abbrev count : ℕ
  count = length (paths_of policy)

  no-sources : (i : ℕ) → count ≤ i → unwrap_or (slice_get S i) [] ≡ []
  no-sources i le = ap (λ o. unwrap_or o []) (past-list (λ hosts. hosts.items) sources i (omega (arith, few, le)))

  no-class : (i s : ℕ) → count ≤ i → has_class net policy sources s i ≡ false
  no-class i s le = ap (λ (hosts : List ℕ). is_some (place_among hosts s) && (is_guaranteed net policy S C i || is_above (share_among (max_of policy i) hosts s))) (no-sources i le)

  not-out : (i s : ℕ) → count ≤ i → is_out net policy S C i s ≡ false
  not-out i s le = ap (λ (hosts : List ℕ). is_zero (share_among (max_of policy i) hosts s)) (no-sources i le) ∙ by (max_of policy i)
    where
      by : (o : Option ℕ) → is_zero (share_among o [] s) ≡ false
      by None = refl
      by (Some cap) = refl

  order : (i n : ℕ) → (i < n) ⊎ (n ≤ i)
  order i n = grind arith

  class-is : (s i : ℕ) → class_in (standings_of net policy sources s) i ≡ cond (has_class net policy sources s i) (Some (class_at net policy S C s i)) None
  class-is s i = by (order i count)
    where
      p : ℕ → Bool
      p j = has_class net policy sources s j

      numbered : i < count → (b : Bool) → p i ≡ b → cond b (Some (1 + count_before p i)) None ≡ cond b (Some (class_at net policy S C s i)) None
      numbered lt true e = ap Some (sym (number-from p 0 count i e (omega arith) (omega (arith, lt))))
      numbered lt false e = refl

      by : (i < count) ⊎ (count ≤ i) → class_in (standings_of net policy sources s) i ≡ cond (p i) (Some (class_at net policy S C s i)) None
      by (inl lt) =
          ap (option_and_then (λ (t : Standing). t.class)) (at-range (standing_of net policy sources s) 0 count i lt)
          ∙ ap (λ j. (standing_of net policy sources s j).class) (let e : 0 + i ≡ i = omega arith in e)
          ∙ numbered lt (p i) refl
      by (inr le) =
          ap (option_and_then (λ (t : Standing). t.class)) (past-range (standing_of net policy sources s) 0 count i le)
          ∙ sym (ap (λ b. cond b (Some (class_at net policy S C s i)) None) (no-class i s le))

  out-is : (s i : ℕ) → out_in (standings_of net policy sources s) i ≡ is_out net policy S C i s
  out-is s i = by (order i count)
    where
      by : (i < count) ⊎ (count ≤ i) → out_in (standings_of net policy sources s) i ≡ is_out net policy S C i s
      by (inl lt) =
          ap (λ o. option_map_or (λ (t : Standing). t.is_out) o false) (at-range (standing_of net policy sources s) 0 count i lt)
          ∙ ap (λ j. (standing_of net policy sources s j).is_out) (let e : 0 + i ≡ i = omega arith in e)
      by (inr le) = ap (λ o. option_map_or (λ (t : Standing). t.is_out) o false) (past-range (standing_of net policy sources s) 0 count i le) ∙ sym (not-out i s le)

  module _ (s d : ℕ) where
    abbrev host : Host
    host = host_in net s

    abbrev reach : Reach
    reach = reach_between (preds_of policy) host (host_in net d)

    abbrev standings : List Standing
    standings = standings_of net policy sources s

    abbrev own : Cell → ℕ
    own c = owner_in (default_of policy) c

    some-is : (b : Bool) (x : ℕ) → is_some (cond b (Some x) None) ≡ b
    some-is true x = refl
    some-is false x = refl

    read-is : (b : Bool) (x : ℕ) (fits : HostMatch) → reading_by s fits (cond b (Some x) None) ≡ cond b (line.Classify s fits x ∷ line.Leave s fits ∷ []) (line.Leave s fits ∷ [])
    read-is true x fits = refl
    read-is false x fits = refl

    reading-same : (c : Cell) → reading_in host standings (default_of policy) reach c ≡ reading_of net policy S C s d c
    reading-same c =
        ap (reading_by s (match_between host reach c)) (class-is s (own c))
        ∙ read-is (has_class net policy sources s (own c)) (class_at net policy S C s (own c)) (match_between host reach c)

    pub readings-same : readings_in host standings (default_of policy) reach ≡ readings net policy S C s d
    readings-same =
        ap₂ (λ b (ls : List HostLine). cond b ls [])
        (any-alike (λ c. is_some (class_in standings (own c))) (λ c. has_class net policy sources s (own c)) (λ c. ap is_some (class-is s (own c)) ∙ some-is (has_class net policy sources s (own c)) (class_at net policy S C s (own c))) (C s d))
        (pieces-alike (reading_in host standings (default_of policy) reach) (reading_of net policy S C s d) reading-same (C s d))

    pub outputs-same : outputs_in host standings (default_of policy) reach ≡ outputs net policy S C s d
    outputs-same =
        ap₂ (λ b (ls : List HostLine). cond b ls [])
        (any-alike (λ c. out_in standings (own c)) (λ c. is_out net policy S C (own c) s) (λ c. out-is s (own c)) (C s d))
        (map-alike (output_in host standings (default_of policy) reach) (output_of_cell net policy S C s d) (λ c. ap (λ b. line.Output s (match_between host reach c) b) (out-is s (own c))) (C s d))

  headed-same : (s : ℕ) (ls : List HostLine) → headed_by s ls ≡ headed net policy S C s ls
  headed-same s [] = refl
  headed-same s (l ∷ ls) = refl

  reached : (s : ℕ) (f : Reach → List HostLine) → flat_map f (reaches_between (preds_of policy) (host_in net s) (hosts_in net)) ≡ flat_map (λ d. f (reach_between (preds_of policy) (host_in net s) (host_in net d))) (others net policy S C s)
  reached s f =
      ap (λ hs. flat_map f (map (reach_between (preds_of policy) (host_in net s)) hs)) (filter-map-in (λ (o : Host). not (o.loc == s)) (host_in net) (all_hosts net))
      ∙ pieces-map f (reach_between (preds_of policy) (host_in net s)) (map (host_in net) (others net policy S C s))
      ∙ pieces-map (λ h. f (reach_between (preds_of policy) (host_in net s) h)) (host_in net) (others net policy S C s)

  lines-same : (s : ℕ) → host_lines_at net policy sources (hosts_in net) (host_in net s) ≡ lines_at net policy S C s
  lines-same s =
      ap₂ (λ (a b : List HostLine). a ++ b)
      (headed-same s (class_lines_in s (standings_of net policy sources s)) ∙ ap (headed net policy S C s) (classes-from net policy sources s 0 count))
      (ap₂ (λ (a b : List HostLine). a ++ b)
      (reached s (readings_in (host_in net s) (standings_of net policy sources s) (default_of policy))
      ∙ pieces-alike (λ d. readings_in (host_in net s) (standings_of net policy sources s) (default_of policy) (reach_between (preds_of policy) (host_in net s) (host_in net d))) (readings net policy S C s) (readings-same s) (others net policy S C s))
      (reached s (outputs_in (host_in net s) (standings_of net policy sources s) (default_of policy))
      ∙ pieces-alike (λ d. outputs_in (host_in net s) (standings_of net policy sources s) (default_of policy) (reach_between (preds_of policy) (host_in net s) (host_in net d))) (outputs net policy S C s) (outputs-same s) (others net policy S C s)))

  pub all-same : flat_map (host_lines_at net policy sources (hosts_in net)) (hosts_in net) ≡ host_lines net policy S C
  all-same =
      pieces-map (host_lines_at net policy sources (hosts_in net)) (host_in net) (all_hosts net)
      ∙ pieces-alike (λ s. host_lines_at net policy sources (hosts_in net) (host_in net s)) (lines_at net policy S C) lines-same (all_hosts net)
