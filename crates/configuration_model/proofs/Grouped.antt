-- Each statement has its group, and each written walk is a way.
use Rattle.std.proofs.Common.{◌≡◌, ℕ, suc, ◌<◌, inl, inr, List, length, map, None, Some, slice_get, sym, ◌∙◌, ap, subst}
use Rattle.merlin_model.specs.declared.policy.Path.{Path}
use Rattle.merlin_model.specs.declared.policy.Symbol.{Symbol}
use Rattle.merlin_model.specs.declared.policy.Ends.{Ends}
use Rattle.merlin_model.specs.declared.config.Config.{Config}
use Rattle.merlin_model.specs.Packets.{Packet, IsPacket}
use Rattle.merlin_model.specs.Networks.{Network, IsProper}
use Rattle.merlin_model.specs.Words.{IsWalk}
use Rattle.merlin_model.specs.Paths.{InLanguage}
use Rattle.merlin_model.specs.Policies.{Policy, match_of, paths_of, IsOnPath}
use Rattle.merlin_model.specs.Rates.{IsGuaranteed}
use Rattle.merlin_model.specs.Assignments.{AreTheEnds}
use Rattle.merlin_model.specs.Headline.{IsWalkOf}
use Rattle.merlin_model.proofs.Members.{In, in_from, in_map, in_to, all_in}
use Rattle.merlin_model.proofs.Traces.{Some-inj}
use Rattle.path_regex.proofs.Meanings.{normal-takes}
use Rattle.rules_model.specs.Products.{RecognisesPath, WrittenWalk, written_word, IsWrittenWalk, Group, AreWrittenWalks}
use Rattle.rules_model.specs.Promise.{HasGroup}
use Rattle.configuration_model.specs.Groups.{HaveOneForm, Leads, written_walk_of, HasDifferentVertices, IsGroupOf}
use Rattle.configuration_model.specs.Compiled.{IsMade}
use Rattle.configuration_model.proofs.Lists.{None-Some, at-in, in-at, at-below, zip-right, zip-left}
use Rattle.configuration_model.proofs.Numbered.{takes}
use Rattle.configuration_model.proofs.Walked.{written-ok}

module _ (net : Network) (policy : Policy) (ends : List Ends) (walks : List (List Symbol)) (config : Config) (m : IsMade net policy ends walks config) where
  abbrev IsOf : ℕ → Group → Type 0
  IsOf j g = IsGroupOf policy m.symbols m.automata ends walks j g

  -- the group that stands for a statement takes the statement's path
  own-path : (j : ℕ) (g : Group) (path : Path) → IsOf j g → slice_get (paths_of policy) j ≡ Some path → RecognisesPath net g.automaton path
  own-path j g path is has =
      subst (λ a. RecognisesPath net a path) (sym is.automaton) (takes net m.symbols m.checked.symbols_are is.tables path (m.checked.automata_are j path is.tables has is.stands))

  -- the walk of a guaranteed statement
  pub record Chosen (i : ℕ) (g : Group) : Type 0 where
    pub place : ℕ
    pub ends_at : Ends
    pub stands : slice_get ends place ≡ Some ends_at
    pub statement : ends_at.statement ≡ i
    pub word : List Symbol
    pub walks_at : slice_get walks place ≡ Some word
    pub written : g.written ≡ Some (written_walk_of g.automaton ends_at word)
    pub queue : g.queue ≡ Some (suc place)
    pub ok : IsWrittenWalk net g.automaton (written_walk_of g.automaton ends_at word)
    pub spells : written_word (written_walk_of g.automaton ends_at word) ≡ word
    pub between : AreTheEnds net policy ends_at

  pub chosen : (i : ℕ) (g : Group) → IsGuaranteed policy i → IsOf i g → Chosen i g
  chosen i g guaranteed is = record {
    place = spot.0;
    ends_at = member.0;
    stands = spot.1;
    statement = sym member.2;
    word = walk.0;
    walks_at = walk.1;
    written = given.0;
    queue = given.1;
    ok = good.0;
    spells = good.1;
    between = all_in (AreTheEnds net policy) ends member.0 m.ends_are.each member.1;
  }
    where
      member : (e : Ends) × In e ends × (i ≡ e.statement)
      member = in_map (λ e. e.statement) ends i (in_from (map (λ e. e.statement) ends) i (m.ends_are.all i guaranteed))

      spot : (k : ℕ) × (slice_get ends k ≡ Some member.0)
      spot = in-at ends member.0 member.1

      walk : (w : List Symbol) × (slice_get walks spot.0 ≡ Some w) × (IsWalk net member.0.src member.0.dst w × IsOnPath policy member.0.statement w)
      walk = zip-right (λ e w. IsWalk net e.src e.dst w × IsOnPath policy e.statement w) ends walks spot.0 member.0 m.assigned spot.1

      given : (g.written ≡ Some (written_walk_of g.automaton member.0 walk.0)) × (g.queue ≡ Some (suc spot.0))
      given = is.guaranteed spot.0 member.0 walk.0 spot.1 (sym member.2) walk.1

      tables_at : slice_get m.automata member.0.statement ≡ Some is.tables
      tables_at = subst (λ j. slice_get m.automata j ≡ Some is.tables) member.2 is.stands

      on : IsOnPath policy member.0.statement walk.0
      on = walk.2.1

      good : IsWrittenWalk net g.automaton (written_walk_of g.automaton member.0 walk.0) × (written_word (written_walk_of g.automaton member.0 walk.0) ≡ walk.0)
      good = written-ok net g.automaton member.0 walk.0 walk.2.0
          ((own-path i g on.path is (subst (λ j. slice_get (paths_of policy) j ≡ Some on.path) (sym member.2) on.has) walk.0 walk.2.0.symbols).1 on.described)
          (subst (λ a. HasDifferentVertices a member.0 walk.0) (sym is.automaton) (m.simple spot.0 member.0 walk.0 is.tables spot.1 walk.1 tables_at))

  pub are-written : AreWrittenWalks net m.tables.groups
  are-written g group w stands written = by leader.1
    where
      from : (j : ℕ) × (slice_get m.tables.leaders g ≡ Some j) × IsOf j group
      from = zip-left IsOf m.tables.leaders m.tables.groups g group m.tables.groups_are stands

      leader : (from.0 < length (paths_of policy)) × Leads policy from.0 from.0
      leader = (m.tables.grouped.leaders_are from.0).0 (in_to m.tables.leaders from.0 (at-in m.tables.leaders g from.0 from.1))

      by : Leads policy from.0 from.0 → IsWrittenWalk net group.automaton w
      by (inl h) = let c = chosen from.0 group h.0 from.2 in subst (IsWrittenWalk net group.automaton) (Some-inj (sym c.written ∙ written)) c.ok
      by (inr h) = absurd (None-Some (sym (from.2.best_effort h.0).0 ∙ written))

  module _ (i : ℕ) (below : i < length (paths_of policy)) where
    pub number : (g : ℕ) × (slice_get m.tables.group_of i ≡ Some g)
    number = at-below m.tables.group_of i (subst (λ n. i < n) (sym m.tables.grouped.size) below)

    pub led : (j : ℕ) × (slice_get m.tables.leaders number.0 ≡ Some j) × Leads policy i j
    led = m.tables.grouped.each i number.0 number.1

    pub group : (g : Group) × (slice_get m.tables.groups number.0 ≡ Some g) × IsOf led.0 g
    group = zip-right IsOf m.tables.leaders m.tables.groups number.0 led.0 m.tables.groups_are led.1

    pub own : (path : Path) × (slice_get (paths_of policy) i ≡ Some path)
    own = at-below (paths_of policy) i below

    own-group : IsGuaranteed policy i → led.0 ≡ i → IsOf i group.0
    own-group h e = subst (λ j. IsOf j group.0) e group.2

    shared : HaveOneForm policy i led.0 → RecognisesPath net group.0.automaton own.0
    shared h w symbols = (
      λ e. subst (λ x. InLanguage x w) same ((normal-takes h.path (m.checked.functions i h.path h.has) w).0 (subst (λ x. InLanguage x w) (sym h.form) ((normal-takes h.other (m.checked.functions led.0 h.other h.other_has) w).1 ((own-path led.0 group.0 h.other group.2 h.other_has w symbols).0 e)))),
      λ l. (own-path led.0 group.0 h.other group.2 h.other_has w symbols).1 ((normal-takes h.other (m.checked.functions led.0 h.other h.other_has) w).0 (subst (λ x. InLanguage x w) h.form ((normal-takes h.path (m.checked.functions i h.path h.has) w).1 (subst (λ x. InLanguage x w) (sym same) l)))),
    )
      where
        same : h.path ≡ own.0
        same = Some-inj (sym h.has ∙ own.1)

    pub takes-own : Leads policy i led.0 → RecognisesPath net group.0.automaton own.0
    takes-own (inl h) = own-path led.0 group.0 own.0 group.2 (subst (λ j. slice_get (paths_of policy) j ≡ Some own.0) (sym h.1) own.1)
    takes-own (inr h) = shared h.1.alike

    -- a written walk is that of statement i, which is guaranteed
    pub writes : Leads policy i led.0 → (w : WrittenWalk) → group.0.written ≡ Some w → IsGuaranteed policy i × Chosen i group.0
    writes (inl h) w e = (h.0, chosen i group.0 h.0 (own-group h.0 h.1))
    writes (inr h) w e = absurd (None-Some (sym (group.2.best_effort h.1.best_effort).0 ∙ e))

    pub free : Leads policy i led.0 → group.0.written ≡ None → ¬ IsGuaranteed policy i
    free (inl h) e g = absurd (None-Some (sym e ∙ (chosen i group.0 h.0 (own-group h.0 h.1)).written))
    free (inr h) e g = h.0 g

    abbrev pub has-group : HasGroup net policy ends walks m.tables.groups m.tables.group_of i
    has-group = record {
      number = number.0;
      listed = number.1;
      group = group.0;
      stands = group.1;
      path = own.0;
      has = own.1;
      automaton = takes-own led.2;
      guaranteed = λ w e. let c = writes led.2 w e in (c.0, walk-of c.1 w e);
      best_effort = free led.2;
      one_pair = λ s d p w valid matches proper e. let c = (writes led.2 w e).1 in pair-of c s d p w valid matches proper e;
    }
      where
        is-written : (c : Chosen i group.0) (w : WrittenWalk) → group.0.written ≡ Some w → written_walk_of group.0.automaton c.ends_at c.word ≡ w
        is-written c w e = Some-inj (sym c.written ∙ e)

        walk-of : Chosen i group.0 → (w : WrittenWalk) → group.0.written ≡ Some w → IsWalkOf ends walks i (written_word w)
        walk-of c w e = (c.place, c.ends_at, c.stands, c.statement, c.walks_at ∙ ap Some (sym c.spells ∙ ap written_word (is-written c w e)))

        pair-of : Chosen i group.0 → (s d : ℕ) (p : Packet) (w : WrittenWalk) → IsPacket p → match_of policy p ≡ i → IsProper net p s d → group.0.written ≡ Some w → (s ≡ w.source) × (d ≡ w.dest)
        pair-of c s d p w valid matches proper e =
            let both = c.between.only s d (record { packet = p; is_packet = valid; proper = proper; matches = matches ∙ sym c.statement }) in
            (both.0 ∙ ap (λ x. x.source) (is-written c w e), both.1 ∙ ap (λ x. x.dest) (is-written c w e))

    -- the queue of a guaranteed statement is that of its place
    pub queue-is : IsGuaranteed policy i → (k : ℕ) (e : Ends) → slice_get ends k ≡ Some e → e.statement ≡ i → has-group.group.queue ≡ Some (suc k)
    queue-is guaranteed k e stands statement = by led.2
      where
        walk : (w : List Symbol) × (slice_get walks k ≡ Some w) × (IsWalk net e.src e.dst w × IsOnPath policy e.statement w)
        walk = zip-right (λ e w. IsWalk net e.src e.dst w × IsOnPath policy e.statement w) ends walks k e m.assigned stands

        by : Leads policy i led.0 → group.0.queue ≡ Some (suc k)
        by (inl h) = ((own-group h.0 h.1).guaranteed k e walk.0 stands statement walk.1).1
        by (inr h) = absurd (h.0 guaranteed)
