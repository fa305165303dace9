-- The POSTROUTING lines of a host set the class of a packet's statement, where it has one.
use Rattle.std.proofs.Common.{◌≡◌, ◌≢◌, ℕ, suc, ◌+◌, ◌==◌, ◌&&◌, inl, inr, not, Bool, true, false, cond, List, [], ◌∷◌, ◌++◌, append_assoc, length, map, filter_map, take, find, Option, None, Some, is_some, refl, sym, ◌∙◌, ap, subst, arith}
use Rattle.std.proofs.lemmas.Bool.{eqb-true, eq-eqb}
use Rattle.std.specs.List.{AllByRecursion, flat_map, list_any, last_or, cons_option, take_while, prefix_len, range_with_len}
use Rattle.merlin_model.specs.declared.policy.Symbol.{Symbol}
use Rattle.merlin_model.specs.declared.policy.Ends.{Ends}
use Rattle.merlin_model.specs.declared.config.HostMatch.{HostMatch}
use Rattle.merlin_model.specs.declared.config.HostLine.{HostLine}
use Rattle.merlin_model.specs.declared.config.HostLine.TheVariants as line
use Rattle.merlin_model.specs.declared.config.Config.{Config}
use Rattle.merlin_model.specs.Packets.{Packet, IsPacket}
use Rattle.merlin_model.specs.Networks.{Network, kind_of, IsProper}
use Rattle.merlin_model.specs.Policies.{Policy, match_of}
use Rattle.merlin_model.specs.Machine.{agrees, host_fits, class_of, leaves, class_by}
use Rattle.merlin_model.proofs.Members.{In, in_filter}
use Rattle.merlin_model.proofs.Traces.{Some-inj}
use Rattle.rules_model.specs.Tables.{all_hosts, is_host_kind}
use Rattle.predicate_split.specs.declared.pair_cells.Cell.{Cell as HostCell}
use Rattle.predicate_split.specs.Cells.{cell_matches}
use Rattle.configuration_model.specs.Hosts.{host_at, is_out, is_classed, classed_at, class_at, class_lines, match_of_cell, owner_is, reading_of, readings, output_of_cell, outputs, others, headed, lines_at, host_lines}
use Rattle.configuration_model.specs.Compiled.{IsMade}
use Rattle.configuration_model.proofs.Lists.{None-Some, false-true, find-in}
use Rattle.configuration_model.proofs.Decided.{Hit, host-listed}
use Rattle.configuration_model.proofs.Dropped.{h as its_hit, from as from_here, to as to_here, elsewhere, among, any-none}

one-more : (n : ℕ) → 1 + n ≡ suc n
one-more n = omega arith

module _ (s : ℕ) (p : Packet) where
  -- the class after these lines, which is read on from one that was set before
  abbrev reads : Option ℕ → List HostLine → Option ℕ
  reads now lines = last_or now (filter_map (class_of s p) (take_while (λ l. not (leaves s p l)) lines))

  read-step : (now : Option ℕ) (l : HostLine) (lines : List HostLine) → leaves s p l ≡ false → reads now (l ∷ lines) ≡ last_or now (cons_option (class_of s p l) (filter_map (class_of s p) (take_while (λ l. not (leaves s p l)) lines)))
  read-step now l lines e = ap (λ b. last_or now (filter_map (class_of s p) (take (cond (not b) (1 + prefix_len (λ l. not (leaves s p l)) lines) 0) (l ∷ lines)))) e
      ∙ ap (λ n. last_or now (filter_map (class_of s p) (take n (l ∷ lines)))) (one-more (prefix_len (λ l. not (leaves s p l)) lines))

  read-none : (now : Option ℕ) (l : HostLine) (lines : List HostLine) → leaves s p l ≡ false → class_of s p l ≡ None → reads now (l ∷ lines) ≡ reads now lines
  read-none now l lines e c = read-step now l lines e ∙ ap (λ o. last_or now (cons_option o (filter_map (class_of s p) (take_while (λ l. not (leaves s p l)) lines)))) c

  read-some : (now : Option ℕ) (l : HostLine) (lines : List HostLine) (x : ℕ) → leaves s p l ≡ false → class_of s p l ≡ Some x → reads now (l ∷ lines) ≡ reads (Some x) lines
  read-some now l lines x e c = read-step now l lines e ∙ ap (λ o. last_or now (cons_option o (filter_map (class_of s p) (take_while (λ l. not (leaves s p l)) lines)))) c

  read-stop : (now : Option ℕ) (l : HostLine) (lines : List HostLine) → leaves s p l ≡ true → reads now (l ∷ lines) ≡ now
  read-stop now l lines e = ap (λ b. last_or now (filter_map (class_of s p) (take (cond (not b) (1 + prefix_len (λ l. not (leaves s p l)) lines) 0) (l ∷ lines)))) e

  -- lines that neither set a class nor end the reading
  abbrev Silent : List HostLine → Type 0
  Silent lines = AllByRecursion (λ l. (leaves s p l ≡ false) × (class_of s p l ≡ None)) lines

  past : (now : Option ℕ) (lines more : List HostLine) → Silent lines → reads now (lines ++ more) ≡ reads now more
  past now [] more h = refl
  past now (l ∷ lines) more h = read-none now l (lines ++ more) h.0.0 h.0.1 ∙ past now lines more h.1

  silent-append : (xs ys : List HostLine) → Silent xs → Silent ys → Silent (xs ++ ys)
  silent-append [] ys h k = k
  silent-append (x ∷ xs) ys h k = (h.0, silent-append xs ys h.1 k)

  silent-pieces : {Y : Type 0} (piece : Y → List HostLine) (ys : List Y) → ((y : Y) → In y ys → Silent (piece y)) → Silent (flat_map piece ys)
  silent-pieces piece [] each = tt
  silent-pieces piece (y ∷ ys) each = silent-append (piece y) (flat_map piece ys) (each y (inl refl)) (silent-pieces piece ys (λ z i. each z (inr i)))

  -- the lines end the reading with this class
  abbrev EndsIn : Option ℕ → List HostLine → Type 0
  EndsIn x lines = (more : List HostLine) → reads None (lines ++ more) ≡ x

  ends-after : (x : Option ℕ) (xs ys : List HostLine) → Silent xs → EndsIn x ys → EndsIn x (xs ++ ys)
  ends-after x xs ys h e more = ap (reads None) (append_assoc xs ys more) ∙ past None xs (ys ++ more) h ∙ e more

  ends-before : (x : Option ℕ) (xs ys : List HostLine) → EndsIn x xs → EndsIn x (xs ++ ys)
  ends-before x xs ys e more = ap (reads None) (append_assoc xs ys more) ∙ e (ys ++ more)

  ends-there : (x : Option ℕ) (piece : ℕ → List HostLine) (ys : List ℕ) (t : ℕ) → In t ys → ((y : ℕ) → In y ys → y ≢ t → Silent (piece y)) → EndsIn x (piece t) → EndsIn x (flat_map piece ys)
  ends-there x piece [] t i each e = absurd i
  ends-there x piece (y ∷ ys) t i each e = by (y == t) refl i (λ j. ends-there x piece ys t j (λ z k. each z (inr k)) e)
    where
      by : (b : Bool) → (y == t) ≡ b → In t (y ∷ ys) → (In t ys → EndsIn x (flat_map piece ys)) → EndsIn x (piece y ++ flat_map piece ys)
      by true same i ih = ends-before x (piece y) (flat_map piece ys) (subst (λ z. EndsIn x (piece z)) (sym (eqb-true y t same)) e)
      by false other (inl same) ih = absurd (false-true (sym other ∙ eq-eqb y t (sym same)))
      by false other (inr j) ih = ends-after x (piece y) (flat_map piece ys) (each y (inl refl) (λ same. false-true (sym other ∙ eq-eqb y t same))) (ih j)

module _ (net : Network) (policy : Policy) (sources : List (List ℕ)) (cells : ℕ → ℕ → List HostCell) (s : ℕ) (p : Packet) where
  abbrev matched : ℕ → ℕ → HostCell → HostMatch
  matched h d c = match_of_cell net policy sources cells h d c

  abbrev owns : HostCell → ℕ
  owns c = owner_is net policy sources cells c

  abbrev classed : HostCell → ℕ → Bool
  classed c h = is_classed net policy sources cells (owns c) h

  classes-silent : (h x : ℕ) (is : List ℕ) → Silent s p (class_lines net policy sources cells h x is)
  classes-silent h x [] = tt
  classes-silent h x (i ∷ is) = ((refl, refl), classes-silent h (suc x) is)

  headed-silent : (h : ℕ) (lines : List HostLine) → Silent s p lines → Silent s p (headed net policy sources cells h lines)
  headed-silent h [] e = tt
  headed-silent h (l ∷ lines) e = ((refl, refl), e)

  outputs-silent : (h d : ℕ) → Silent s p (outputs net policy sources cells h d)
  outputs-silent h d = by (list_any (λ c. is_out net policy sources cells (owns c) h) (cells h d))
    where
      all : (cs : List HostCell) → Silent s p (map (output_of_cell net policy sources cells h d) cs)
      all [] = tt
      all (c ∷ cs) = ((refl, refl), all cs)

      by : (b : Bool) → Silent s p (cond b (map (output_of_cell net policy sources cells h d) (cells h d)) [])
      by true = all (cells h d)
      by false = tt

  -- a cell whose lines don't fit
  reading-silent : (h d : ℕ) (c : HostCell) → ((h == s) && host_fits (matched h d c) p) ≡ false → Silent s p (reading_of net policy sources cells h d c)
  reading-silent h d c e = by (classed c h)
    where
      set : class_of s p (line.Classify h (matched h d c) (class_at net policy sources cells h (owns c))) ≡ None
      set = ap (λ b. cond b (Some (class_at net policy sources cells h (owns c))) None) e

      by : (b : Bool) → Silent s p (cond b (line.Classify h (matched h d c) (class_at net policy sources cells h (owns c)) ∷ line.Leave h (matched h d c) ∷ []) (line.Leave h (matched h d c) ∷ []))
      by true = ((refl, set), ((e, refl), tt))
      by false = ((e, refl), tt)

  readings-silent : (h d : ℕ) → ((c : HostCell) → ((h == s) && host_fits (matched h d c) p) ≡ false) → Silent s p (readings net policy sources cells h d)
  readings-silent h d none = by (list_any (λ c. classed c h) (cells h d))
    where
      by : (b : Bool) → Silent s p (cond b (flat_map (reading_of net policy sources cells h d) (cells h d)) [])
      by true = silent-pieces s p (reading_of net policy sources cells h d) (cells h d) (λ c i. reading-silent h d c (none c))
      by false = tt

  not-equal : (a b : ℕ) → a ≢ b → (a == b) ≡ false
  not-equal a b n = grind (arith, n)

  not-host : (h d : ℕ) (c : HostCell) → h ≢ s → ((h == s) && host_fits (matched h d c) p) ≡ false
  not-host h d c other = ap (λ b. b && host_fits (matched h d c) p) (not-equal h s other)

  not-dest : (d : ℕ) (c : HostCell) → (host_at net d).ip ≢ p.ip_dst → ((s == s) && host_fits (matched s d c) p) ≡ false
  not-dest d c other = by (s == s) ((host_at net s).ip == p.ip_src) ((host_at net d).ip == p.ip_dst) (agrees c.proto p.proto) (agrees c.sport p.sport) (agrees c.dport p.dport) (not-equal (host_at net d).ip p.ip_dst other)
    where
      by : (b f g x y z : Bool) → g ≡ false → (b && (f && g && x && y && z)) ≡ false
      by b f true x y z e = absurd (false-true (sym e))
      by true true false x y z e = refl
      by true false false x y z e = refl
      by false f false x y z e = refl

  own-pair : (d : ℕ) (c : HostCell) → (host_at net s).ip ≡ p.ip_src → (host_at net d).ip ≡ p.ip_dst → ((s == s) && host_fits (matched s d c) p) ≡ cell_matches p c
  own-pair d c from to = by (s == s) ((host_at net s).ip == p.ip_src) ((host_at net d).ip == p.ip_dst) (eq-eqb s s refl) (eq-eqb (host_at net s).ip p.ip_src from) (eq-eqb (host_at net d).ip p.ip_dst to)
    where
      by : (b f g : Bool) → b ≡ true → f ≡ true → g ≡ true → (b && (f && g && agrees c.proto p.proto && agrees c.sport p.sport && agrees c.dport p.dport)) ≡ cell_matches p c
      by true true true e h k = refl
      by true true false e h k = absurd (false-true k)
      by true false g e h k = absurd (false-true h)
      by false f g e h k = absurd (false-true e)

  -- the first cell that cell_matches ends the reading, with its class
  pair-reads : (d : ℕ) (cs : List HostCell) (c : HostCell) → (host_at net s).ip ≡ p.ip_src → (host_at net d).ip ≡ p.ip_dst → find (cell_matches p) cs ≡ Some c → classed c s ≡ true →
      EndsIn s p (Some (class_at net policy sources cells s (owns c))) (flat_map (reading_of net policy sources cells s d) cs)
  pair-reads d [] c from to e is = absurd (None-Some e)
  pair-reads d (x ∷ xs) c from to e is = by (cell_matches p x) (own-pair d x from to) e (λ f. pair-reads d xs c from to f is)
    where
      here : ((s == s) && host_fits (matched s d c) p) ≡ true → EndsIn s p (Some (class_at net policy sources cells s (owns c))) (reading_of net policy sources cells s d c)
      here fit more =
          ap (λ b. reads s p None (cond b (line.Classify s (matched s d c) (class_at net policy sources cells s (owns c)) ∷ line.Leave s (matched s d c) ∷ []) (line.Leave s (matched s d c) ∷ []) ++ more)) is
          ∙ read-some s p None (line.Classify s (matched s d c) (class_at net policy sources cells s (owns c))) (line.Leave s (matched s d c) ∷ more) (class_at net policy sources cells s (owns c)) refl
          (ap (λ b. cond b (Some (class_at net policy sources cells s (owns c))) None) fit)
          ∙ read-stop s p (Some (class_at net policy sources cells s (owns c))) (line.Leave s (matched s d c)) more fit

      by : (b : Bool) → ((s == s) && host_fits (matched s d x) p) ≡ b → cond b (Some x) (find (cell_matches p) xs) ≡ Some c →
          (find (cell_matches p) xs ≡ Some c → EndsIn s p (Some (class_at net policy sources cells s (owns c))) (flat_map (reading_of net policy sources cells s d) xs)) →
          EndsIn s p (Some (class_at net policy sources cells s (owns c))) (reading_of net policy sources cells s d x ++ flat_map (reading_of net policy sources cells s d) xs)
      by true fit e ih =
          let same : c ≡ x = sym (Some-inj e) in
          ends-before s p (Some (class_at net policy sources cells s (owns c))) (reading_of net policy sources cells s d x) (flat_map (reading_of net policy sources cells s d) xs)
          (subst (λ y. EndsIn s p (Some (class_at net policy sources cells s (owns c))) (reading_of net policy sources cells s d y)) same (here (subst (λ y. ((s == s) && host_fits (matched s d y) p) ≡ true) (sym same) fit)))
      by false fit e ih = ends-after s p (Some (class_at net policy sources cells s (owns c))) (reading_of net policy sources cells s d x) (flat_map (reading_of net policy sources cells s d) xs) (reading-silent s d x fit) (ih e)

module _ (net : Network) (policy : Policy) (ends : List Ends) (walks : List (List Symbol)) (config : Config) (m : IsMade net policy ends walks config) where
  module _ (s d : ℕ) (p : Packet) (valid : IsPacket p) (proper : IsProper net p s d) where
    hit_here : Hit policy (m.cells s d) p
    hit_here = its_hit net policy ends walks config m s d p valid proper

    -- a classed statement's packets are in its class
    pub in-class : is_classed net policy m.sources m.cells (match_of policy p) s ≡ true → class_by config.hosts s p ≡ Some (class_at net policy m.sources m.cells s (match_of policy p))
    in-class is =
        ap (λ lines. class_by lines s p) (m.hosts ∙ sym (append-none (host_lines net policy m.sources m.cells)))
        ∙ all [] ∙ ap (λ i. Some (class_at net policy m.sources m.cells s i)) hit_here.owner
      where
        append-none : (xs : List HostLine) → xs ++ [] ≡ xs
        append-none [] = refl
        append-none (x ∷ xs) = ap (λ ys. x ∷ ys) (append-none xs)

        its : is_classed net policy m.sources m.cells (owner_is net policy m.sources m.cells hit_here.cell) s ≡ true
        its = ap (λ i. is_classed net policy m.sources m.cells i s) hit_here.owner ∙ is

        x : Option ℕ
        x = Some (class_at net policy m.sources m.cells s (owner_is net policy m.sources m.cells hit_here.cell))

        pair : EndsIn s p x (readings net policy m.sources m.cells s d)
        pair = by (list_any (λ c. is_classed net policy m.sources m.cells (owner_is net policy m.sources m.cells c) s) (m.cells s d)) refl
          where
            by : (b : Bool) → list_any (λ c. is_classed net policy m.sources m.cells (owner_is net policy m.sources m.cells c) s) (m.cells s d) ≡ b →
                EndsIn s p x (cond b (flat_map (reading_of net policy m.sources m.cells s d) (m.cells s d)) [])
            by true e = pair-reads net policy m.sources m.cells s p d (m.cells s d) hit_here.cell (from_here net policy ends walks config m s d p valid proper) (to_here net policy ends walks config m s d p valid proper) hit_here.found its
            by false e = absurd (false-true (sym (any-none (λ c. is_classed net policy m.sources m.cells (owner_is net policy m.sources m.cells c) s) (m.cells s d) hit_here.cell e (find-in (cell_matches p) (m.cells s d) hit_here.cell hit_here.found).0) ∙ its))

        own-lines : EndsIn s p x (lines_at net policy m.sources m.cells s)
        own-lines =
            ends-after s p x (headed net policy m.sources m.cells s (class_lines net policy m.sources m.cells s 1 (classed_at net policy m.sources m.cells s)))
            (flat_map (readings net policy m.sources m.cells s) (others net policy m.sources m.cells s) ++ flat_map (outputs net policy m.sources m.cells s) (others net policy m.sources m.cells s))
            (headed-silent net policy m.sources m.cells s p s _ (classes-silent net policy m.sources m.cells s p s 1 (classed_at net policy m.sources m.cells s)))
            (ends-before s p x (flat_map (readings net policy m.sources m.cells s) (others net policy m.sources m.cells s)) (flat_map (outputs net policy m.sources m.cells s) (others net policy m.sources m.cells s))
            (ends-there s p x (readings net policy m.sources m.cells s) (others net policy m.sources m.cells s) d (among net policy ends walks config m s d p valid proper)
            (λ e i other. readings-silent net policy m.sources m.cells s p s e (λ c. not-dest net policy m.sources m.cells s p e c
            (elsewhere net policy ends walks config m s d p valid proper e (in_filter (λ loc. is_host_kind (kind_of net loc)) (range_with_len 0 (length net.locations)) e (in_filter (λ x. not (x == s)) (all_hosts net) e i).0).1 other)))
            pair))

        all : EndsIn s p x (host_lines net policy m.sources m.cells)
        all = ends-there s p x (lines_at net policy m.sources m.cells) (all_hosts net) s (host-listed net s (ap is_some proper.source))
            (λ e i other. silent-append s p (headed net policy m.sources m.cells e (class_lines net policy m.sources m.cells e 1 (classed_at net policy m.sources m.cells e)))
            (flat_map (readings net policy m.sources m.cells e) (others net policy m.sources m.cells e) ++ flat_map (outputs net policy m.sources m.cells e) (others net policy m.sources m.cells e))
            (headed-silent net policy m.sources m.cells s p e _ (classes-silent net policy m.sources m.cells s p e 1 (classed_at net policy m.sources m.cells e)))
            (silent-append s p (flat_map (readings net policy m.sources m.cells e) (others net policy m.sources m.cells e)) (flat_map (outputs net policy m.sources m.cells e) (others net policy m.sources m.cells e))
            (silent-pieces s p (readings net policy m.sources m.cells e) (others net policy m.sources m.cells e) (λ d i. readings-silent net policy m.sources m.cells s p e d (λ c. not-host net policy m.sources m.cells s p e d c other)))
            (silent-pieces s p (outputs net policy m.sources m.cells e) (others net policy m.sources m.cells e) (λ d i. outputs-silent net policy m.sources m.cells s p e d))))
            own-lines
