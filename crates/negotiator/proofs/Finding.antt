-- What is found grows packet by packet.
use Rattle.std.specs.Prelude.{⊤}
use Rattle.std.proofs.Common.{◌≡◌, ◌≢◌, ◌<◌, ◌+◌, ◌↔◌, ◌⊎◌, inl, inr, ℕ, Bool, true, false, cond, nat_lt, List, [], ◌∷◌, ◌++◌, map, length, Contains, Option, None, Some, Result, Ok, Err, OnOk, IsSome, MatchOption, refl, sym, ◌∙◌, ap, ap₂, subst, arith}
use Rattle.std.specs.List.{AllByRecursion}
use Rattle.merlin_model.specs.declared.network.HostAddress.{HostAddress}
use Rattle.merlin_model.specs.declared.policy.Pred.{Pred}
use Rattle.merlin_model.specs.Packets.{Packet, IsPacket, ComesBefore, source_of, destination_of}
use Rattle.merlin_model.specs.Predicates.{holds, IsPred}
use Rattle.merlin_model.specs.Networks.{Network, IsNetwork, IsProper, address_of}
use Rattle.merlin_model.specs.Policies.{Policy, Statement, match_among, match_of}
use Rattle.merlin_model.proofs.Members.{In, in_from, in_to, in_append, in_append-left, in_append-right, all_both}
use Rattle.merlin_model.proofs.PacketOrder.{transitive, total}
use Rattle.refinement_model.specs.Refinement.{Touches}
use Rattle.packet_model.specs.Fields.{IsBetween}
use Rattle.language_check.proofs.Between.{host-within}
use Rattle.negotiator.specs.declared.contacts.Contact.{Contact}
use Rattle.negotiator.specs.declared.contacts.WidePacket.{WidePacket}
use Rattle.negotiator.specs.declared.contacts.Findings.{Findings}
use Rattle.negotiator.specs.StandIns.{IsNoLaterThan, AreJudgedAlike, AreStandIns}
use Rattle.negotiator.specs.Between.{HasWalk, StaysWithin}
use Rattle.negotiator.specs.Wider.{contact, AreContacts}
use Rattle.negotiator.specs.Contacts.{first_holding, contact_at, IsWide, StaysOrComesLater, IsInTouch, IsSeen, IsFoundUpTo, IsWholeFound, AreProper, preds_of_both, IsWideWith}

-- Which statement a packet belongs to, by the predicates alone.

pub first-is : (statements : List Statement) (p : Packet) → first_holding (map (λ s. s.pred) statements) p ≡ match_among statements p
first-is [] p = refl
first-is (s ∷ rest) p = ap (λ n. cond (holds s.pred p) 0 (1 + n)) (first-is rest p)

match-alike : (statements : List Statement) (p q : Packet) → AreJudgedAlike (map (λ s. s.pred) statements) p q → match_among statements p ≡ match_among statements q
match-alike [] p q h = refl
match-alike (s ∷ rest) p q h = ap₂ (λ b n. cond b 0 (1 + n)) h.0 (match-alike rest p q h.1)

alike-left : (xs ys : List Pred) (p q : Packet) → AreJudgedAlike (xs ++ ys) p q → AreJudgedAlike xs p q
alike-left [] ys p q h = tt
alike-left (x ∷ xs) ys p q h = (h.0, alike-left xs ys p q h.1)

alike-right : (xs ys : List Pred) (p q : Packet) → AreJudgedAlike (xs ++ ys) p q → AreJudgedAlike ys p q
alike-right [] ys p q h = h
alike-right (x ∷ xs) ys p q h = alike-right xs ys p q h.1

-- The order of packets.

pub not-after-through : (a b c : Packet) → IsNoLaterThan a b → IsNoLaterThan b c → IsNoLaterThan a c
not-after-through a b c (inl e) h = subst (λ x. IsNoLaterThan x c) (sym e) h
not-after-through a b c (inr f) (inl e) = inr (subst (λ x. ComesBefore a x) e f)
not-after-through a b c (inr f) (inr g) = inr (transitive a b c f g)

pub not-after-unless : (a b : Packet) → (¬ ComesBefore b a) → IsNoLaterThan a b
not-after-unless a b h = by (total a b)
  where
    by : (a ≡ b) ⊎ (ComesBefore a b ⊎ ComesBefore b a) → IsNoLaterThan a b
    by (inl e) = inl e
    by (inr (inl f)) = inr f
    by (inr (inr f)) = absurd (h f)

clash : false ≡ true → ⊥
clash e = cc

same-some : {X : Type 0} (x y : X) → Some x ≡ Some y → x ≡ y
same-some x y e = cc

module _ (net : Network) (parent child : Policy) where
  -- One packet more.

  seen-split : (src dst : ℕ) (packets : List Packet) (packet : Packet) (s d : ℕ) (p : Packet) → IsSeen src dst (packets ++ packet ∷ []) s d p →
      IsSeen src dst packets s d p ⊎ ((s ≡ src) × (d ≡ dst) × (p ≡ packet))
  seen-split src dst packets packet s d p (inl lt) = inl (inl lt)
  seen-split src dst packets packet s d p (inr (e, inl lt)) = inl (inr (e, inl lt))
  seen-split src dst packets packet s d p (inr (e, inr (f, i))) = by (in_append packets (packet ∷ []) p (in_from (packets ++ packet ∷ []) p i))
    where
      by : In p packets ⊎ In p (packet ∷ []) → IsSeen src dst packets s d p ⊎ ((s ≡ src) × (d ≡ dst) × (p ≡ packet))
      by (inl j) = inl (inr (e, inr (f, in_to packets p j)))
      by (inr (inl g)) = inr (e, f, g)
      by (inr (inr g)) = absurd g

  module _ (src dst : ℕ) (packet : Packet) (is_packet : IsPacket packet) (proper : IsProper net packet src dst) where
    abbrev own : Contact
    own = contact_at parent child packet

    abbrev wide_one : WidePacket
    wide_one = record { packet = packet; src = src; dst = dst }

    touch-from : HasWalk net child src dst (match_of child packet) → Touches net parent child own.child own.parent
    touch-from h = record {
      packet = packet;
      is_packet = is_packet;
      host = src;
      allowed = (h.0, record { to = dst; proper = proper; walk = h.1; on_path = h.2 });
      of_child = refl;
      of_parent = refl;
    }

    new-touch : (walks : Bool) → (walks ≡ true → HasWalk net child src dst (match_of child packet)) → (c : Contact) → In c (cond walks (own ∷ []) []) → Touches net parent child c.child c.parent
    new-touch true h c (inl e) = subst (λ x. Touches net parent child x.child x.parent) (sym e) (touch-from (h refl))
    new-touch true h c (inr i) = absurd i
    new-touch false h c i = absurd i

    new-in : (walks : Bool) → (HasWalk net child src dst (match_of child packet) → walks ≡ true) → HasWalk net child src dst (match_of child packet) → In own (cond walks (own ∷ []) [])
    new-in true h has = inl refl
    new-in false h has = absurd (clash (h has))

    new-wide : (stays : Bool) → (StaysWithin net parent child src dst (match_of child packet) (match_of parent packet) → stays ≡ true) → (stays ≡ true → StaysWithin net parent child src dst (match_of child packet) (match_of parent packet)) →
        (known result : Option WidePacket) → IsWideWith stays known wide_one result → MatchOption known ⊤ (IsWide net parent child) → MatchOption result ⊤ (IsWide net parent child)
    new-wide true h g known result e was = subst (λ o. MatchOption o ⊤ (IsWide net parent child)) (sym e) was
    new-wide false h g known None e was = absurd e
    new-wide false h g known (Some w) e was = by known was e.one
      where
        by : (k : Option WidePacket) → MatchOption k ⊤ (IsWide net parent child) → (w ≡ wide_one) ⊎ MatchOption k ⊥ (λ x. w ≡ x) → IsWide net parent child w
        by k was (inl same) = subst (IsWide net parent child) (sym same) (record { is_packet = is_packet; proper = proper; strays = λ s. clash (h s) })
        by None was (inr gone) = absurd gone
        by (Some x) was (inr same) = subst (IsWide net parent child) (sym same) was

    kept-least : (stays : Bool) (known result : Option WidePacket) → IsWideWith stays known wide_one result → (p : Packet) → MatchOption known ⊥ (λ w. IsNoLaterThan w.packet p) → MatchOption result ⊥ (λ w. IsNoLaterThan w.packet p)
    kept-least true known result e p was = subst (λ o. MatchOption o ⊥ (λ w. IsNoLaterThan w.packet p)) (sym e) was
    kept-least false known None e p was = absurd e
    kept-least false None (Some w) e p was = absurd was
    kept-least false (Some k) (Some w) e p was = not-after-through w.packet k.packet p e.not_after_known was

    new-least : (stays : Bool) → (stays ≡ true → StaysWithin net parent child src dst (match_of child packet) (match_of parent packet)) → (known result : Option WidePacket) → IsWideWith stays known wide_one result →
        StaysOrComesLater net parent child src dst packet result
    new-least true h known result e = inl (h refl)
    new-least false h known None e = absurd e
    new-least false h known (Some w) e = inr e.not_after

    pub noted : (walks stays : Bool) → (walks ≡ true) ↔ HasWalk net child src dst (match_of child packet) →
        (stays ≡ true) ↔ StaysWithin net parent child src dst (match_of child packet) (match_of parent packet) →
        (old new : Findings) → new.contacts.items ≡ old.contacts.items ++ cond walks (own ∷ []) [] → IsWideWith stays old.wide wide_one new.wide →
        (packets : List Packet) → IsFoundUpTo net parent child src dst packets old → IsFoundUpTo net parent child src dst (packets ++ packet ∷ []) new
    noted walks stays walk stay old new contacts wide packets h = record {
      touch = λ c i. touch c (in_append old.contacts.items (cond walks (own ∷ []) []) c (subst (In c) contacts (in_from new.contacts.items c i)));
      all_touch = λ s d p seen in_touch. subst (λ cs. Contains cs (contact_at parent child p)) (sym contacts) (all_touch s d p (seen-split src dst packets packet s d p seen) in_touch);
      wide = new-wide stays stay.1 stay.0 old.wide new.wide wide h.wide;
      others = λ s d p seen is proper. others s d p (seen-split src dst packets packet s d p seen) is proper;
    }
      where
        touch : (c : Contact) → In c old.contacts.items ⊎ In c (cond walks (own ∷ []) []) → Touches net parent child c.child c.parent
        touch c (inl i) = h.touch c (in_to old.contacts.items c i)
        touch c (inr i) = new-touch walks walk.0 c i

        all_touch : (s d : ℕ) (p : Packet) → IsSeen src dst packets s d p ⊎ ((s ≡ src) × (d ≡ dst) × (p ≡ packet)) → IsInTouch net parent child s d p →
            Contains (old.contacts.items ++ cond walks (own ∷ []) []) (contact_at parent child p)
        all_touch s d p (inl seen) in_touch =
            in_to (old.contacts.items ++ cond walks (own ∷ []) []) (contact_at parent child p)
            (in_append-left old.contacts.items (cond walks (own ∷ []) []) (contact_at parent child p) (in_from old.contacts.items (contact_at parent child p) (h.all_touch s d p seen in_touch)))
        all_touch s d p (inr (e, f, g)) in_touch =
            in_to (old.contacts.items ++ cond walks (own ∷ []) []) (contact_at parent child p)
            (in_append-right old.contacts.items (cond walks (own ∷ []) []) (contact_at parent child p)
            (subst (λ q. In (contact_at parent child q) (cond walks (own ∷ []) [])) (sym g) (new-in walks walk.1 (walk-at s d p e f g in_touch.walk))))
          where
            walk-at : (s d : ℕ) (p : Packet) → s ≡ src → d ≡ dst → p ≡ packet → HasWalk net child s d (match_of child p) → HasWalk net child src dst (match_of child packet)
            walk-at s d p e f g has = subst (λ x. HasWalk net child x dst (match_of child packet)) e (subst (λ y. HasWalk net child s y (match_of child packet)) f (subst (λ q. HasWalk net child s d (match_of child q)) g has))

        others : (s d : ℕ) (p : Packet) → IsSeen src dst packets s d p ⊎ ((s ≡ src) × (d ≡ dst) × (p ≡ packet)) → IsPacket p → IsProper net p s d → StaysOrComesLater net parent child s d p new.wide
        others s d p (inl seen) is proper = still (h.others s d p seen is proper)
          where
            still : StaysOrComesLater net parent child s d p old.wide → StaysOrComesLater net parent child s d p new.wide
            still (inl within) = inl within
            still (inr later) = inr (kept-least stays old.wide new.wide wide p later)
        others s d p (inr (e, f, g)) is proper =
            subst (λ x. StaysOrComesLater net parent child x d p new.wide) (sym e) (subst (λ y. StaysOrComesLater net parent child src y p new.wide) (sym f)
            (subst (λ q. StaysOrComesLater net parent child src dst q new.wide) (sym g) (new-least stays stay.0 old.wide new.wide wide)))

  -- All packets between two hosts.

  between-proper : (s d : ℕ) (a b : HostAddress) → s ≢ d → address_of net s ≡ Some a → address_of net d ≡ Some b → (p : Packet) → IsBetween p a b → IsProper net p s d
  between-proper s d a b differ e f p between = record { differ = differ; source = e ∙ ap Some (sym between.1); destination = f ∙ ap Some (sym between.2) }

  proper-between : (s d : ℕ) (a b : HostAddress) → a ≢ b → address_of net s ≡ Some a → address_of net d ≡ Some b → (p : Packet) → IsProper net p s d → IsBetween p a b
  proper-between s d a b differ e f p proper = (differ, same-some (source_of p) a (sym proper.source ∙ e), same-some (destination_of p) b (sym proper.destination ∙ f))

  pub all-proper : (s d : ℕ) (a b : HostAddress) → s ≢ d → address_of net s ≡ Some a → address_of net d ≡ Some b → (preds : List Pred) (packets : List Packet) → AreStandIns preds a b packets → AreProper net s d packets
  all-proper s d a b differ e f preds packets are = by packets are.between
    where
      by : (ps : List Packet) → AllByRecursion (λ c. IsPacket c × IsBetween c a b) ps → AreProper net s d ps
      by [] h = tt
      by (p ∷ ps) h = ((h.0.0, between-proper s d a b differ e f p h.0.1), by ps h.1)

  -- Nothing is between two locations, or all that is was looked at.
  pub next-pair : (src dst : ℕ) (packets : List Packet) (found : Findings) →
      ((p : Packet) → IsInTouch net parent child src dst p → Contains found.contacts.items (contact_at parent child p)) →
      ((p : Packet) → IsPacket p → IsProper net p src dst → StaysOrComesLater net parent child src dst p found.wide) →
      IsFoundUpTo net parent child src dst packets found → IsFoundUpTo net parent child src (dst + 1) [] found
  next-pair src dst packets found touches stay h = record {
    touch = h.touch;
    all_touch = all_touch;
    wide = h.wide;
    others = others-of;
  }
    where
      split : (s d : ℕ) (p : Packet) → IsSeen src (dst + 1) [] s d p → IsSeen src dst packets s d p ⊎ ((s ≡ src) × (d ≡ dst))
      split s d p (inl lt) = inl (inl lt)
      split s d p (inr (e, inl lt)) = by (nat_lt d dst) refl
        where
          by : (b : Bool) → nat_lt d dst ≡ b → IsSeen src dst packets s d p ⊎ ((s ≡ src) × (d ≡ dst))
          by true f = inl (inr (e, inl (grind (arith, f))))
          by false f = let same : d ≡ dst = grind (arith, f, lt) in inr (e, same)
      split s d p (inr (e, inr (f, i))) = absurd (in_from [] p i)

      all_touch : (s d : ℕ) (p : Packet) → IsSeen src (dst + 1) [] s d p → IsInTouch net parent child s d p → Contains found.contacts.items (contact_at parent child p)
      all_touch s d p seen in_touch = by (split s d p seen)
        where
          by : IsSeen src dst packets s d p ⊎ ((s ≡ src) × (d ≡ dst)) → Contains found.contacts.items (contact_at parent child p)
          by (inl was) = h.all_touch s d p was in_touch
          by (inr (e, f)) = touches p (subst (λ y. IsInTouch net parent child src y p) f (subst (λ x. IsInTouch net parent child x d p) e in_touch))

      others-of : (s d : ℕ) (p : Packet) → IsSeen src (dst + 1) [] s d p → IsPacket p → IsProper net p s d → StaysOrComesLater net parent child s d p found.wide
      others-of s d p seen is proper = by (split s d p seen)
        where
          by : IsSeen src dst packets s d p ⊎ ((s ≡ src) × (d ≡ dst)) → StaysOrComesLater net parent child s d p found.wide
          by (inl was) = h.others s d p was is proper
          by (inr (e, f)) =
              subst (λ x. StaysOrComesLater net parent child x d p found.wide) (sym e) (subst (λ y. StaysOrComesLater net parent child src y p found.wide) (sym f)
              (stay p is (subst (λ y. IsProper net p src y) f (subst (λ x. IsProper net p x d) e proper))))

  pub no-pair : (src dst : ℕ) → ((p : Packet) → ¬ IsProper net p src dst) → (found : Findings) → IsFoundUpTo net parent child src dst [] found → IsFoundUpTo net parent child src (dst + 1) [] found
  no-pair src dst none found h = next-pair src dst [] found (λ p t. absurd (none p t.proper)) (λ p is proper. absurd (none p proper)) h

  pub whole-pair : (src dst : ℕ) (a b : HostAddress) → a ≢ b → src ≢ dst → address_of net src ≡ Some a → address_of net dst ≡ Some b → (packets : List Packet) → AreStandIns (preds_of_both parent child) a b packets →
      (found : Findings) → IsFoundUpTo net parent child src dst packets found → IsFoundUpTo net parent child src (dst + 1) [] found
  whole-pair src dst a b differ apart e f packets are found h = next-pair src dst packets found touches stay h
    where
      cs : List Pred
      cs = map (λ st. st.pred) child.statements

      ps : List Pred
      ps = map (λ st. st.pred) parent.statements

      of-child : (p c : Packet) → AreJudgedAlike (preds_of_both parent child) p c → match_of child p ≡ match_of child c
      of-child p c alike = match-alike child.statements p c (alike-left cs ps p c alike)

      of-parent : (p c : Packet) → AreJudgedAlike (preds_of_both parent child) p c → match_of parent p ≡ match_of parent c
      of-parent p c alike = match-alike parent.statements p c (alike-right cs ps p c alike)

      good : (c : Packet) → In c packets → IsPacket c × IsProper net c src dst
      good c i = by packets (all-proper src dst a b apart e f (preds_of_both parent child) packets are) i
        where
          by : (qs : List Packet) → AreProper net src dst qs → In c qs → IsPacket c × IsProper net c src dst
          by [] h j = absurd j
          by (q ∷ qs) h (inl g) = subst (λ x. IsPacket x × IsProper net x src dst) (sym g) h.0
          by (q ∷ qs) h (inr j) = by qs h.1 j

      touches : (p : Packet) → IsInTouch net parent child src dst p → Contains found.contacts.items (contact_at parent child p)
      touches p t =
          let k = are.each p t.is_packet (proper-between src dst a b differ e f p t.proper) in
          let c = k.0 in
          let is = good c (in_from packets c k.1) in
          let i = of-child p c k.3 in
          let j = of-parent p c k.3 in
          subst (Contains found.contacts.items) (ap₂ (λ x y. record { child = x; parent = y }) (sym i) (sym j))
          (h.all_touch src dst c (inr (refl, inr (refl, k.1))) (record { is_packet = is.0; proper = is.1; walk = subst (HasWalk net child src dst) i t.walk }))

      stay : (p : Packet) → IsPacket p → IsProper net p src dst → StaysOrComesLater net parent child src dst p found.wide
      stay p is_packet proper =
          let k = are.each p is_packet (proper-between src dst a b differ e f p proper) in
          let c = k.0 in
          let is = good c (in_from packets c k.1) in
          let i = of-child p c k.3 in
          let j = of-parent p c k.3 in
          by c i j k.2 (h.others src dst c (inr (refl, inr (refl, k.1))) is.0 is.1)
        where
          earlier : (o : Option WidePacket) (c p : Packet) → IsNoLaterThan c p → MatchOption o ⊥ (λ w. IsNoLaterThan w.packet c) → MatchOption o ⊥ (λ w. IsNoLaterThan w.packet p)
          earlier None c p le gone = absurd gone
          earlier (Some w) c p le h = not-after-through w.packet c p h le

          by : (c : Packet) → match_of child p ≡ match_of child c → match_of parent p ≡ match_of parent c → IsNoLaterThan c p → StaysOrComesLater net parent child src dst c found.wide → StaysOrComesLater net parent child src dst p found.wide
          by c i j le (inl within) = inl (subst (λ y. StaysWithin net parent child src dst (match_of child p) y) (sym j) (subst (λ x. StaysWithin net parent child src dst x (match_of parent c)) (sym i) within))
          by c i j le (inr later) = inr (earlier found.wide c p le later)

  -- The next row, and all rows.

  located : (loc : ℕ) (a : HostAddress) → address_of net loc ≡ Some a → loc < length net.locations
  located loc a e = host-within net loc (subst IsSome (sym e) refl)

  pub next-row : (src : ℕ) (found : Findings) → IsFoundUpTo net parent child src (length net.locations) [] found → IsFoundUpTo net parent child (src + 1) 0 [] found
  next-row src found h = record {
    touch = h.touch;
    all_touch = λ s d p seen t. h.all_touch s d p (was s d p (located d (destination_of p) t.proper.destination) seen) t;
    wide = h.wide;
    others = λ s d p seen is proper. h.others s d p (was s d p (located d (destination_of p) proper.destination) seen) is proper;
  }
    where
      was : (s d : ℕ) (p : Packet) → d < length net.locations → IsSeen (src + 1) 0 [] s d p → IsSeen src (length net.locations) [] s d p
      was s d p lt (inl less) = by (nat_lt s src) refl
        where
          by : (b : Bool) → nat_lt s src ≡ b → IsSeen src (length net.locations) [] s d p
          by true f = inl (grind (arith, f))
          by false f = let same : s ≡ src = grind (arith, f, less) in inr (same, inl lt)
      was s d p lt (inr (e, inl less)) = absurd (omega (arith, less))
      was s d p lt (inr (e, inr (f, i))) = absurd (in_from [] p i)

  pub all-rows : (found : Findings) → IsFoundUpTo net parent child (length net.locations) 0 [] found → IsWholeFound net parent child found
  all-rows found h = record {
    touch = h.touch;
    all_touch = λ s d p seen t. h.all_touch s d p (inl (located s (source_of p) t.proper.source)) t;
    wide = h.wide;
    others = λ s d p seen is proper. h.others s d p (inl (located s (source_of p) proper.source)) is proper;
  }

  pub nothing-found : (found : Findings) → found.contacts.items ≡ [] → found.wide ≡ None → IsFoundUpTo net parent child 0 0 [] found
  nothing-found found no_contacts no_wide = record {
    touch = λ c i. absurd (in_from [] c (subst (λ cs. Contains cs c) no_contacts i));
    all_touch = λ s d p seen t. absurd (unseen s d p seen);
    wide = subst (λ o. MatchOption o ⊤ (IsWide net parent child)) (sym no_wide) tt;
    others = λ s d p seen is proper. absurd (unseen s d p seen);
  }
    where
      unseen : (s d : ℕ) (p : Packet) → IsSeen 0 0 [] s d p → ⊥
      unseen s d p (inl less) = omega (arith, less)
      unseen s d p (inr (e, inl less)) = omega (arith, less)
      unseen s d p (inr (e, inr (f, i))) = in_from [] p i

-- the predicates of both are well formed
pub well-both : (parent child : Policy) → AllByRecursion (λ s. IsPred s.pred) parent.statements → AllByRecursion (λ s. IsPred s.pred) child.statements → AllByRecursion IsPred (preds_of_both parent child)
well-both parent child p c = all_both IsPred (map (λ st. st.pred) child.statements) (map (λ st. st.pred) parent.statements) (of child.statements c) (of parent.statements p)
  where
    of : (ss : List Statement) → AllByRecursion (λ s. IsPred s.pred) ss → AllByRecursion IsPred (map (λ st. st.pred) ss)
    of [] h = tt
    of (s ∷ ss) h = (h.0, of ss h.1)

-- no two hosts have one address
pub apart-addresses : (net : Network) → IsNetwork net → (s d : ℕ) (a b : HostAddress) → s ≢ d → address_of net s ≡ Some a → address_of net d ≡ Some b → a ≢ b
apart-addresses net lawful s d a b differ e f same = differ (lawful.addresses s d a b e f (inl (ap (λ (x : HostAddress). x.eth) same)))

pub on-ok : {A E : Type 0} (r : Result A E) (P Q : Type 0) → (P → Q) → OnOk r P → OnOk r Q
on-ok (Ok x) P Q f h = f h
on-ok (Err e) P Q f h = h

pub no-address : (a : HostAddress) → None ≡ Some a → ⊥
no-address a e = cc

-- What is found whole is exact.
pub exact-contacts : (net : Network) (parent child : Policy) (found : Findings) → IsWholeFound net parent child found → AreContacts net parent child found.contacts.items
exact-contacts net parent child found h i j = (h.touch (contact i j), there)
  where
    there : Touches net parent child i j → Contains found.contacts.items (contact i j)
    there t =
        let al = t.allowed.1 in
        subst (Contains found.contacts.items) (ap₂ (λ (x y : ℕ). contact x y) t.of_child t.of_parent)
        (h.all_touch t.host al.to t.packet tt (record { is_packet = t.is_packet; proper = al.proper; walk = (t.allowed.0, al.walk, al.on_path) }))
