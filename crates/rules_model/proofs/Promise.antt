-- The promise on packets.
use Rattle.std.proofs.Common.{◌≡◌, ℕ, suc, ◌≤◌, ◌⊎◌, inl, inr, Bool, true, false, List, [], ◌∷◌, map, length, Option, None, Some, is_some, refl, sym, ◌∙◌, ap, subst, arith}
use Rattle.std.specs.List.{AllByRecursion}
use Rattle.merlin_model.specs.declared.policy.Symbol.{Symbol}
use Rattle.merlin_model.specs.declared.config.Config.{Config}
use Rattle.merlin_model.specs.declared.policy.Ends.{Ends}
use Rattle.merlin_model.proofs.Ascending.{share-same}
use Rattle.merlin_model.specs.Packets.{Packet, IsPacket}
use Rattle.merlin_model.specs.Networks.{Network, IsHost, IsProper}
use Rattle.merlin_model.specs.Words.{at, visits}
use Rattle.merlin_model.specs.Paths.{InLanguage}
use Rattle.merlin_model.specs.Policies.{Policy, match_of, IsAllowed}
use Rattle.merlin_model.specs.Rates.{IsShareAt, IsGuaranteed}
use Rattle.merlin_model.specs.Machine.{start, Visit, End, Dropped, EachRun, is_dropped_by}
use Rattle.merlin_model.specs.Headline.{stop_of, FollowsWalk, HasAllowed, IsDroppedAtHost, IsDroppedAtSwitch, HasRoom, IsWalkOf, DeliversPackets}
use Rattle.merlin_model.specs.Words.{GoesOn, WalksFrom, IsWalk}
use Rattle.merlin_model.proofs.Traces.{Some-inj, within-stop, within-more}
use Rattle.merlin_model.proofs.WordLaws.{walk-goes_on, goes_on-walk}
use Rattle.rules_model.specs.Products.{word_to, ending_state, Vertex, start_of, LeadsToEnd, TreeFollows, IsFollowedBy, WrittenWalk, written_word, IsWrittenWalk, FollowsIn, AllowsWalkIn, Group, FollowsAt, AllowsWalkAt, start_at, queue_at, Follows, start_in, AllowsWalk}
use Rattle.rules_model.specs.Tables.{Plan}
use Rattle.rules_model.specs.Promise.{HasGroup, IsThrough, IsCompiled}
use Rattle.rules_model.proofs.Setting.{Setting, starts_at}
use Rattle.rules_model.proofs.Ingress.{uplink_of_host, host_visit, host_drops, improper_dropped, IsSent, delivered, dropped}
use Rattle.rules_model.proofs.Trees.{tree-way, tree-shortest, after-unique, host_symbol}
use Rattle.rules_model.proofs.Ways.{way-goes_on, way-accepts, HasShort, word-way}
use Rattle.rules_model.proofs.Absurd.{None-Some}

word-length : (d : ℕ) (us : List Vertex) → length (word_to d us) ≡ suc (length us)
word-length d [] = refl
word-length d (u ∷ us) = ap suc (word-length d us)

module _ (net : Network) (policy : Policy) (ends : List Ends) (walks : List (List Symbol)) (groups : List Group) (group_of : List ℕ) (plan : Plan) (config : Config)
    (c : IsCompiled net policy ends walks groups group_of plan config) where
  abbrev setting : Setting
  setting = record { net = net; network = c.network; groups = groups; written_are = c.written_are; plan = plan; plan_is = c.plan_is; config = config; rules = c.rules; processes = c.processes }

  abbrev GroupOf : Packet → Type 0
  GroupOf p = HasGroup net policy ends walks groups group_of (match_of policy p)

  host_of : (s d : ℕ) (p : Packet) → IsProper net p s d → IsHost net s
  host_of s d p proper = ap is_some proper.source

  dest_of : (s d : ℕ) (p : Packet) → IsProper net p s d → IsHost net d
  dest_of s d p proper = ap is_some proper.destination

  one_dest : (s d e : ℕ) (p : Packet) → IsProper net p s d → IsProper net p s e → e ≡ d
  one_dest s d e p x y = c.network.addresses e d _ _ y.destination x.destination (inl refl)

  -- the word of a way is allowed
  way-allowed : (s d : ℕ) (p : Packet) (hg : GroupOf p) (us : List Vertex) → IsPacket p → IsProper net p s d → LeadsToEnd net hg.group.automaton d (start_of hg.group.automaton s) us → IsAllowed net policy p s (at s ∷ word_to d us)
  way-allowed s d p hg us valid proper way =
      let walked : IsWalk net s d (at s ∷ word_to d us) = goes_on-walk net s d (at s ∷ word_to d us) (
        refl,
        host_symbol net s (host_of s d p proper),
        host_of s d p proper,
        dest_of s d p proper,
        way-goes_on net hg.group.automaton d (start_of hg.group.automaton s) us (dest_of s d p proper) way,
      ) in
      record {
        to = d;
        proper = proper;
        walk = walked;
        on_path = record { path = hg.path; has = hg.has; described = (hg.automaton (at s ∷ word_to d us) walked.symbols).0 (way-accepts net hg.group.automaton d (start_of hg.group.automaton s) us way) };
      }

  -- an allowed word has a way that is no longer
  allowed-way : (s d : ℕ) (p : Packet) (hg : GroupOf p) (w : List Symbol) → IsProper net p s d → IsAllowed net policy p s w →
      (us : List Vertex) × LeadsToEnd net hg.group.automaton d (start_of hg.group.automaton s) us × (length (at s ∷ word_to d us) ≤ length w)
  allowed-way s d p hg w proper allowed = by w (walk-goes_on net s allowed.to w allowed.walk) ((hg.automaton w allowed.walk.symbols).1 (subst (λ x. InLanguage x w) same_path allowed.on_path.described))
    where
      same : allowed.to ≡ d
      same = one_dest s d allowed.to p proper allowed.proper

      same_path : allowed.on_path.path ≡ hg.path
      same_path = Some-inj (sym allowed.on_path.has ∙ hg.has)

      longer : (m n k : ℕ) → k ≡ suc (suc m) → suc m ≤ n → k ≤ suc n
      longer m n k e le = omega arith

      by : (w : List Symbol) → WalksFrom net s allowed.to w → hg.group.automaton.accepts (ending_state hg.group.automaton 0 w) ≡ true →
          (us : List Vertex) × LeadsToEnd net hg.group.automaton d (start_of hg.group.automaton s) us × (length (at s ∷ word_to d us) ≤ length w)
      by [] h e = absurd h
      by (x ∷ rest) h e =
          let goes : GoesOn net d (at s) rest = subst (λ T. T) (λ i. GoesOn net (same i) (h.0 i) rest) h.4 in
          let takes : hg.group.automaton.accepts (ending_state hg.group.automaton (hg.group.automaton.step 0 (at s)) rest) ≡ true = ap (λ y. hg.group.automaton.accepts (ending_state hg.group.automaton (hg.group.automaton.step 0 y) rest)) (sym h.0) ∙ e in
          let short : HasShort net hg.group.automaton d (start_of hg.group.automaton s) rest = word-way net hg.group.automaton d (start_of hg.group.automaton s) rest goes takes in
          (short.way, short.leads, longer (length short.way) (length rest) (length (at s ∷ word_to d short.way)) (ap suc (word-length d short.way)) short.short)

  -- what a drop at the first switch is
  at_first_switch : (s : ℕ) (p : Packet) (host : IsHost net s) (records : List Visit) (end : End) →
      (records ≡ host_visit setting s p ∷ []) × (end ≡ Dropped (uplink_of_host setting s host).link.to) → IsDroppedAtSwitch net s records end
  at_first_switch s p host records end h =
      ((uplink_of_host setting s host).link.to, ((uplink_of_host setting s host).link, (uplink_of_host setting s host).present, (uplink_of_host setting s host).from, refl), ap (map stop_of) h.0, h.1)

  -- whether the host drops it
  not_dropped : (b : Bool) → (b ≡ true → ⊥) → b ≡ false
  not_dropped true h = absurd (h refl)
  not_dropped false h = refl

  undropped : (s d : ℕ) (p : Packet) → IsPacket p → IsProper net p s d → ¬ IsShareAt net policy (match_of policy p) s 0 → is_dropped_by config.hosts s p ≡ false
  undropped s d p valid proper no_share = not_dropped (is_dropped_by config.hosts s p) (λ drop. no_share ((c.drops s d p valid proper).0 drop))

  -- where there is room, the share isn't 0
  room : (i s : ℕ) → HasRoom net policy i s → ¬ IsShareAt net policy i s 0
  room i s (inl uncapped) share = None-Some (sym uncapped ∙ share.capped)
  room i s (inr h) share = let same : h.0 ≡ 0 = share-same net policy i s h.0 0 h.1 share in let pos = h.2 in let no_way : ⊥ = omega arith in absurd no_way

  -- From the words of the groups' places to those of the packet's group.
  open-in : (s d : ℕ) (p : Packet) (hg : GroupOf p) → AllowsWalkIn net hg.group.automaton hg.group.written s d → AllowsWalk net groups hg.number s d
  open-in s d p hg h = subst (λ o. AllowsWalkAt net o s d) (sym hg.stands) h

  in-open : (s d : ℕ) (p : Packet) (hg : GroupOf p) → AllowsWalk net groups hg.number s d → AllowsWalkIn net hg.group.automaton hg.group.written s d
  in-open s d p hg h = subst (λ o. AllowsWalkAt net o s d) hg.stands h

  follows-in : (s d : ℕ) (p : Packet) (hg : GroupOf p) (us : List Vertex) → Follows net groups hg.number d (start_in groups hg.number s) us →
      FollowsIn net hg.group.automaton hg.group.written d (start_of hg.group.automaton s) us
  follows-in s d p hg us h = subst (λ o. FollowsAt net o d (start_at o s) us) hg.stands h

  -- some walk is allowed, in the words of the groups
  open_way : (s d : ℕ) (p : Packet) (hg : GroupOf p) → IsPacket p → IsProper net p s d → HasAllowed net policy s p → AllowsWalk net groups hg.number s d
  open_way s d p hg valid proper has = open-in s d p hg (by hg.group.written refl)
    where
      by : (o : Option WrittenWalk) → hg.group.written ≡ o → AllowsWalkIn net hg.group.automaton o s d
      by None e = let w = allowed-way s d p hg has.0 proper has.1 in (w.0, w.1)
      by (Some w) e = hg.one_pair s d p w valid refl proper e

  -- what is known of the word that follows the start
  record IsRight (s d : ℕ) (p : Packet) (us : List Vertex) : Type 0 where
    allowed : IsAllowed net policy p s (at s ∷ word_to d us)
    is_written : IsGuaranteed policy (match_of policy p) → IsWalkOf ends walks (match_of policy p) (at s ∷ word_to d us)
    shortest : ¬ IsGuaranteed policy (match_of policy p) → (other : List Symbol) → IsAllowed net policy p s other → length (at s ∷ word_to d us) ≤ length other

  right : (s d : ℕ) (p : Packet) (hg : GroupOf p) (us : List Vertex) → IsPacket p → IsProper net p s d → Follows net groups hg.number d (start_in groups hg.number s) us → IsRight s d p us
  right s d p hg us valid proper h = by hg.group.written refl (follows-in s d p hg us h)
    where
      sum : (a m b n k : ℕ) → a ≡ suc m → b ≡ suc n → m ≤ n → suc b ≤ k → suc a ≤ k
      sum a m b n k e f le short = omega arith

      best : TreeFollows net hg.group.automaton d (start_of hg.group.automaton s) us → ¬ IsGuaranteed policy (match_of policy p) → IsRight s d p us
      best tree not_guaranteed = record {
        allowed = way-allowed s d p hg us valid proper (tree-way net hg.group.automaton d (start_of hg.group.automaton s) us tree.tree);
        is_written = λ g. absurd (not_guaranteed g);
        shortest = λ n other allowed.
            let w = allowed-way s d p hg other proper allowed in
            let le = tree-shortest net hg.group.automaton d (start_of hg.group.automaton s) us w.0 tree.tree w.1 in
            sum (length (word_to d us)) (length us) (length (word_to d w.0)) (length w.0) (length other) (word-length d us) (word-length d w.0) le w.2;
      }

      by_walk : (w : WrittenWalk) → hg.group.written ≡ Some w → (s ≡ w.source) × (d ≡ w.dest) → IsFollowedBy (start_of hg.group.automaton w.source ∷ w.after) (start_of hg.group.automaton s) us → IsRight s d p us
      by_walk w e pair after = record {
        allowed = way-allowed s d p hg us valid proper way;
        is_written = λ g. subst (IsWalkOf ends walks (match_of policy p)) word (hg.guaranteed w e).1;
        shortest = λ n. absurd (n (hg.guaranteed w e).0);
      }
        where
          ok : IsWrittenWalk net hg.group.automaton w
          ok = c.written_are hg.number hg.group w hg.stands e

          same : us ≡ w.after
          same = after-unique (start_of hg.group.automaton w.source ∷ w.after) (start_of hg.group.automaton w.source) us w.after ok.different
              (subst (λ t. IsFollowedBy (start_of hg.group.automaton w.source ∷ w.after) (start_of hg.group.automaton t) us) pair.0 after) (inl (refl, refl))

          way : LeadsToEnd net hg.group.automaton d (start_of hg.group.automaton s) us
          way = subst (λ T. T) (λ i. LeadsToEnd net hg.group.automaton (sym pair.1 i) (start_of hg.group.automaton (sym pair.0 i)) (sym same i)) ok.way

          word : written_word w ≡ at s ∷ word_to d us
          word = λ i. at (sym pair.0 i) ∷ word_to (sym pair.1 i) (sym same i)

      by : (o : Option WrittenWalk) → hg.group.written ≡ o → FollowsIn net hg.group.automaton o d (start_of hg.group.automaton s) us → IsRight s d p us
      by None e h = best h (hg.best_effort e)
      by (Some w) e h = by_walk w e (hg.one_pair s d p w valid refl proper e) h.1

  follows : (s d : ℕ) (p : Packet) (hg : GroupOf p) → IsPacket p → IsProper net p s d → HasAllowed net policy s p → HasRoom net policy (match_of policy p) s →
      EachRun net config (start s p) (FollowsWalk net policy ends walks config s d p)
  follows s d p hg valid proper has free =
      let run = delivered setting s d hg.number p (host_of s d p proper)
      (undropped s d p valid proper (room (match_of policy p) s free)) proper (c.cells s d p hg.number valid proper hg.listed) (open_way s d p hg valid proper has) in
      let is : IsRight s d p run.0 = right s d p hg run.0 valid proper run.1 in (
        run.2.0,
        within-more net config run.2.0 (start s p) (IsSent setting hg.number s d p run.0) (FollowsWalk net policy ends walks config s d p)
            (λ records end x. record {
              packet = x.0;
              delivered = x.1;
              word = at s ∷ word_to d run.0;
              allowed = is.allowed;
              stops = x.2 ∙ ap (λ y. visits (y ∷ word_to d run.0)) (starts_at groups hg.number s);
              written = is.is_written;
              shortest = is.shortest;
            }) run.2.1,
      )

  -- its records: the class at the host, and the queue of its group from then on
  pub goes_through : (s d : ℕ) (p : Packet) (hg : GroupOf p) → IsPacket p → IsProper net p s d → HasAllowed net policy s p → HasRoom net policy (match_of policy p) s →
      EachRun net config (start s p) (λ records end. IsThrough config s p hg.group.queue records)
  goes_through s d p hg valid proper has free =
      let run = delivered setting s d hg.number p (host_of s d p proper)
      (undropped s d p valid proper (room (match_of policy p) s free)) proper (c.cells s d p hg.number valid proper hg.listed) (open_way s d p hg valid proper has) in (
        run.2.0,
        within-more net config run.2.0 (start s p) (IsSent setting hg.number s d p run.0) (λ records end. IsThrough config s p hg.group.queue records)
            (λ records end x. record {
              first = host_visit setting s p;
              others = x.3.0;
              begins = x.3.1;
              host = refl;
              class = refl;
              queues = subst (λ o. AllByRecursion (λ v. v.queue ≡ queue_at o) x.3.0) hg.stands x.3.2;
            }) run.2.1,
      )

  closed : (s d : ℕ) (p : Packet) (hg : GroupOf p) → IsPacket p → IsProper net p s d → ¬ HasAllowed net policy s p → ¬ AllowsWalk net groups hg.number s d
  closed s d p hg valid proper none open_here = by hg.group.written refl (in-open s d p hg open_here)
    where
      by : (o : Option WrittenWalk) → hg.group.written ≡ o → AllowsWalkIn net hg.group.automaton o s d → ⊥
      by None e way = none (at s ∷ word_to d way.0, way-allowed s d p hg way.0 valid proper way.1)
      by (Some w) e pair =
          let ok : IsWrittenWalk net hg.group.automaton w = c.written_are hg.number hg.group w hg.stands e in
          none (at s ∷ word_to d w.after, way-allowed s d p hg w.after valid proper (subst (λ T. T) (λ i. LeadsToEnd net hg.group.automaton (sym pair.1 i) (start_of hg.group.automaton (sym pair.0 i)) w.after) ok.way))

  -- what follows the start shows that some walk is allowed
  opens : (s d : ℕ) (p : Packet) (hg : GroupOf p) (us : List Vertex) → IsPacket p → IsProper net p s d → Follows net groups hg.number d (start_in groups hg.number s) us → AllowsWalk net groups hg.number s d
  opens s d p hg us valid proper h = open_way s d p hg valid proper (at s ∷ word_to d us, (right s d p hg us valid proper h).allowed)

  pub delivers : DeliversPackets net policy ends walks config
  delivers = record {
    allowed = λ s d p valid proper has free. follows s d p (c.total p valid) valid proper has free;
    no_share = λ s d p valid proper share. (
      0,
      within-stop net config (start s p) (Dropped s) (IsDroppedAtHost s)
          (host_drops setting s p (host_of s d p proper) ((c.drops s d p valid proper).1 share)) (refl, refl),
    );
    none_allowed = λ s d p valid proper none no_share. (
      1,
      within-more net config 1 (start s p) _ (IsDroppedAtSwitch net s) (at_first_switch s p (host_of s d p proper))
          (dropped setting s d (c.total p valid).number p (host_of s d p proper)
          (undropped s d p valid proper no_share) proper (c.cells s d p (c.total p valid).number valid proper (c.total p valid).listed) (closed s d p (c.total p valid) valid proper none)
          (λ us h. opens s d p (c.total p valid) us valid proper h)),
    );
    improper = λ s p valid host improper. by (is_dropped_by config.hosts s p) s p refl host improper;
  }
    where
      by : (b : Bool) → (s : ℕ) (p : Packet) → is_dropped_by config.hosts s p ≡ b → IsHost net s → ((d : ℕ) → ¬ IsProper net p s d) →
          EachRun net config (start s p) (λ records end. IsDroppedAtHost s records end ⊎ IsDroppedAtSwitch net s records end)
      by true s p e host improper = (
        0,
        within-stop net config (start s p) (Dropped s) (λ records end. IsDroppedAtHost s records end ⊎ IsDroppedAtSwitch net s records end)
            (host_drops setting s p host e) (inl (refl, refl)),
      )
      by false s p e host improper = (
        1,
        within-more net config 1 (start s p) _ (λ records end. IsDroppedAtHost s records end ⊎ IsDroppedAtSwitch net s records end)
            (λ records end h. inr (at_first_switch s p host records end h))
            (improper_dropped setting s p host e improper),
      )
