-- How runs are followed, step by step.
use Rattle.std.proofs.Common.{◌≡◌, ◌≢◌, ℕ, zero, suc, ◌≤◌, List, [], ◌∷◌, length, Option, None, Some, option_map, unwrap_or, refl, sym, ◌∙◌, ap, subst, arith}
use Rattle.merlin_model.specs.declared.network.LocationKind.{LocationKind}
use Rattle.merlin_model.specs.declared.network.LocationKind.TheVariants.{Host, Switch, Middlebox}
use Rattle.merlin_model.specs.declared.config.Config.{Config}
use Rattle.merlin_model.specs.Packets.{Packet}
use Rattle.merlin_model.specs.Networks.{Network, kind_of, DirectedLink}
use Rattle.merlin_model.specs.Machine.{Frame, Visit, End, Next, Forwards, Stops, next, MayBecome, Hops, Reaches, Runs, RunsWithin, EachRun}
use Rattle.merlin_model.specs.Tests.{arrival, with_visit, trace_on, plain_trace, HasNoMiddlebox}

-- the parts of what comes next
goes_link : DirectedLink → Next → DirectedLink
goes_link d (Forwards link tag visit) = link
goes_link d (Stops end) = d

goes_tag : Option ℕ → Next → Option ℕ
goes_tag d (Forwards link tag visit) = tag
goes_tag d (Stops end) = d

goes_visit : Visit → Next → Visit
goes_visit d (Forwards link tag visit) = visit
goes_visit d (Stops end) = d

stops_end : End → Next → End
stops_end d (Forwards link tag visit) = d
stops_end d (Stops end) = end

Forwards-link : {w w' : DirectedLink} {t t' : Option ℕ} {v v' : Visit} → Forwards w t v ≡ Forwards w' t' v' → w ≡ w'
unfolding goes_link
Forwards-link {w} e = ap (goes_link w) e

Forwards-tag : {w w' : DirectedLink} {t t' : Option ℕ} {v v' : Visit} → Forwards w t v ≡ Forwards w' t' v' → t ≡ t'
unfolding goes_tag
Forwards-tag {t = t} e = ap (goes_tag t) e

pub Forwards-visit : {w w' : DirectedLink} {t t' : Option ℕ} {v v' : Visit} → Forwards w t v ≡ Forwards w' t' v' → v ≡ v'
unfolding goes_visit
Forwards-visit {v = v} e = ap (goes_visit v) e

Stops-end : {e e' : End} → Stops e ≡ Stops e' → e ≡ e'
unfolding stops_end
Stops-end {e} p = ap (stops_end e) p

pub Forwards-Stops : {w : DirectedLink} {t : Option ℕ} {v : Visit} {e : End} → Forwards w t v ≡ Stops e → ⊥
Forwards-Stops p = cc

None-Some : {X : Type 0} {x : X} → None ≡ Some x → ⊥
None-Some e = cc

pub Some-inj : {X : Type 0} {x y : X} → Some x ≡ Some y → x ≡ y
Some-inj {x = x} e = ap (λ o. unwrap_or o x) e

module _ (net : Network) (config : Config) where
  -- a frame that stops has one run, without a hop
  pub within-stop : (f : Frame) (end : End) (P : List Visit → End → Type 0) → next net config f ≡ Stops end → P [] end → RunsWithin net config 0 f P
  within-stop f end P e p = record { ends = ends; outcome = outcome }
    where
      ends : (visits : List Visit) (g : Frame) → Reaches net config f visits g → length visits ≤ 0
      ends [] g r = omega arith
      ends (v ∷ visits) g r = absurd (Forwards-Stops (sym r.1.goes ∙ e))

      outcome : (visits : List Visit) (end' : End) → Runs net config f visits end' → P visits end'
      outcome [] end' run = subst (P []) (Stops-end (sym e ∙ ap (next net config) (sym run.hops) ∙ run.stops)) p
      outcome (v ∷ visits) end' run = absurd (Forwards-Stops (sym run.hops.1.goes ∙ e))

  -- a frame that goes on has the runs of whatever frames it may become
  pub within-hop : (n : ℕ) (f : Frame) (link : DirectedLink) (tag : Option ℕ) (visit : Visit) (P : List Visit → End → Type 0) → next net config f ≡ Forwards link tag visit →
      ((q : Packet) → MayBecome (kind_of net f.loc) f.packet q → RunsWithin net config n (arrival link tag q) (λ visits end. P (visit ∷ visits) end)) →
      RunsWithin net config (suc n) f P
  within-hop n f link tag visit P e rest = record { ends = ends; outcome = outcome }
    where
      -- where a hop leads
      to : (v : Visit) (g : Frame) → Hops net config f v g → g ≡ arrival link tag g.packet
      to v g hop =
          let same : Forwards hop.link g.tag v ≡ Forwards link tag visit = sym hop.goes ∙ e in
          let same_link : hop.link ≡ link = Forwards-link same in
          let same_loc : g.loc ≡ link.to = hop.loc ∙ ap (λ w. w.to) same_link in
          let same_port : g.port ≡ link.in_port = hop.port ∙ ap (λ w. w.in_port) same_link in
          let same_tag : g.tag ≡ tag = Forwards-tag same in
          λ i. record { loc = same_loc i; port = same_port i; tag = same_tag i; packet = g.packet }

      ends : (visits : List Visit) (g : Frame) → Reaches net config f visits g → length visits ≤ suc n
      ends [] g r = omega arith
      ends (v ∷ visits) g r =
          let short = (rest r.0.packet r.1.packet).ends visits g (subst (λ h. Reaches net config h visits g) (to v r.0 r.1) r.2) in
          omega arith

      outcome : (visits : List Visit) (end : End) → Runs net config f visits end → P visits end
      outcome [] end run = absurd (Forwards-Stops (sym e ∙ ap (next net config) (sym run.hops) ∙ run.stops))
      outcome (v ∷ visits) end run =
          let hop : Hops net config f v run.hops.0 = run.hops.1 in
          let same : visit ≡ v = sym (Forwards-visit (sym hop.goes ∙ e)) in
          subst (λ u. P (u ∷ visits) end) same
          ((rest run.hops.0.packet hop.packet).outcome visits end
          (record { last = run.last; hops = subst (λ h. Reaches net config h visits run.last) (to v run.hops.0 hop) run.hops.2; stops = run.stops }))

  -- a claim on runs may be weakened
  pub within-more : (n : ℕ) (f : Frame) (P Q : List Visit → End → Type 0) → ((visits : List Visit) (end : End) → P visits end → Q visits end) →
      RunsWithin net config n f P → RunsWithin net config n f Q
  within-more n f P Q h r = record { ends = r.ends; outcome = λ visits end run. h visits end (r.outcome visits end run) }

same_packet : (o : Option LocationKind) (p q : Packet) → o ≢ Some Middlebox → MayBecome o p q → q ≡ p
same_packet None p q n h = h
same_packet (Some (Host address)) p q n h = h
same_packet (Some Switch) p q n h = h
same_packet (Some Middlebox) p q n h = absurd (n refl)

-- away from middleboxes the packet stays as it is
pub within-plain_hop : (net : Network) (config : Config) (n : ℕ) (f : Frame) (link : DirectedLink) (tag : Option ℕ) (visit : Visit) (P : List Visit → End → Type 0) →
    kind_of net f.loc ≢ Some Middlebox → next net config f ≡ Forwards link tag visit →
    RunsWithin net config n (arrival link tag f.packet) (λ visits end. P (visit ∷ visits) end) → RunsWithin net config (suc n) f P
within-plain_hop net config n f link tag visit P plain e later =
    within-hop net config n f link tag visit P e
    (λ q may. subst (λ p. RunsWithin net config n (arrival link tag p) (λ visits end. P (visit ∷ visits) end)) (sym (same_packet (kind_of net f.loc) f.packet q plain may)) later)

-- Without a middlebox the machine has one run, which `plain_trace` computes.
module _ (net : Network) (config : Config) (plain : HasNoMiddlebox net) where
  abbrev IsThis : List Visit × End → List Visit → End → Type 0
  IsThis run visits end = (visits ≡ run.0) × (end ≡ run.1)

  pub plain_run : (n : ℕ) (f : Frame) (run : List Visit × End) → plain_trace net config n f ≡ Some run → EachRun net config f (IsThis run)
  plain_run zero f run e = absurd (None-Some e)
  plain_run (suc n) f run e = on_next (next net config f) refl e (plain_run n)
    where
      -- the runs from the next frame, with the record of this hop in front
      on_rest : (link : DirectedLink) (tag : Option ℕ) (visit : Visit) → next net config f ≡ Forwards link tag visit →
          ((g : Frame) (r : List Visit × End) → plain_trace net config n g ≡ Some r → EachRun net config g (IsThis r)) →
          (o : Option (List Visit × End)) → plain_trace net config n (arrival link tag f.packet) ≡ o → option_map (with_visit visit) o ≡ Some run → EachRun net config f (IsThis run)
      on_rest link tag visit s ih None q e = absurd (None-Some e)
      on_rest link tag visit s ih (Some r) q e =
          let later : EachRun net config (arrival link tag f.packet) (IsThis r) = ih (arrival link tag f.packet) r q in (
            suc later.0,
            within-plain_hop net config later.0 f link tag visit (IsThis run) (plain f.loc) s
                (within-more net config later.0 (arrival link tag f.packet) (IsThis r) (λ visits end. IsThis run (visit ∷ visits) end)
                (λ visits end h. (ap (λ vs. visit ∷ vs) h.0 ∙ ap (λ t. t.0) (Some-inj e), h.1 ∙ ap (λ t. t.1) (Some-inj e))) later.1),
          )

      on_next : (x : Next) → next net config f ≡ x → trace_on x (plain_trace net config n) f.packet ≡ Some run →
          ((g : Frame) (r : List Visit × End) → plain_trace net config n g ≡ Some r → EachRun net config g (IsThis r)) → EachRun net config f (IsThis run)
      on_next (Stops end) s e ih = (0, within-stop net config f end (IsThis run) s (ap (λ t. t.0) (Some-inj e), ap (λ t. t.1) (Some-inj e)))
      on_next (Forwards link tag visit) s e ih = on_rest link tag visit s ih (plain_trace net config n (arrival link tag f.packet)) refl e
