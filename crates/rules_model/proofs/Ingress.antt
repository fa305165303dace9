-- The first two hops: from a host to its first switch, and there by a cell, or not at all.
use Rattle.std.proofs.Common.{◌≡◌, ◌≢◌, ℕ, suc, ◌<◌, ◌≤◌, ◌==◌, ◌⊎◌, inl, inr, Bool, true, false, cond, ◌&&◌, List, [], ◌∷◌, ◌++◌, map, length, Contains, Option, None, Some, is_some, not, IsSome, refl, sym, ◌∙◌, ap, ap₂, subst, arith}
use Rattle.std.proofs.lemmas.Bool.{eqb-true, eq-eqb}
use Rattle.merlin_model.specs.declared.network.LocationKind.{LocationKind}
use Rattle.merlin_model.specs.declared.network.LocationKind.TheVariants.{Host, Switch, Middlebox}
use Rattle.merlin_model.specs.declared.config.Rule.{Rule}
use Rattle.merlin_model.specs.declared.config.Out.{Out}
use Rattle.merlin_model.specs.declared.config.Out.TheVariants.{Port}
use Rattle.merlin_model.specs.Packets.{Packet, source_of, destination_of}
use Rattle.merlin_model.specs.declared.network.DirectedLink.{DirectedLink}
use Rattle.merlin_model.specs.Networks.{kind_of, back_of, IsHost, IsProper, address_at, address_of, directed_links, links_from}
use Rattle.merlin_model.specs.Words.{at, MayFollow, functions_of, visits}
use Rattle.merlin_model.specs.Machine.{Fits, Frame, start, Visit, End, Delivered, Dropped, Forwards, Stops, agrees, tag_is, is_for, acting_rule, act, at_switch, is_dropped_by, class_by, uplink_of, send_over, from_host, next_at, next, RunsWithin, EachRun}
use Rattle.merlin_model.specs.Headline.{stop_of, stop_at}
use Rattle.merlin_model.specs.Tests.{arrival}
use Rattle.merlin_model.proofs.Traces.{Some-inj, within-stop, within-plain_hop, within-more}
use Rattle.rules_model.specs.Products.{start_in, queue_in, AllowsWalk, word_to, Vertex, loc_of}
use Rattle.rules_model.specs.Tables.{functions_here, onward, onward_location, Hop, IsHop, TableRow, HostPair, IsHostPair, IngressEntry, cell_fits, IsDecided, send_through, enter, ingress_actions, tag_rule, back_rule, cell_rule, last_rule, table_rules, IsIngressEntry, IsFirstHop}
use Rattle.merlin_model.proofs.Members.{In, in_from, in_to, in_filter, filter_in}
use Rattle.merlin_model.proofs.DirectedLinks.{way_back, same_by_port, link_at-is, uplink_of-is}
use Rattle.merlin_model.proofs.Acting.{acting-is}
use Rattle.merlin_model.proofs.Fitting.{fits-parts, fits-from, and-first, and-second, and-both}
use Rattle.rules_model.proofs.Setting.{Setting, routing, After, starts_at}
use Rattle.rules_model.proofs.TableRules.{IsByRow, IsTableRule, table_rule-is, cell_rule-in, last_rule-in}
use Rattle.rules_model.proofs.Grouping.{stops_from, visits-route}
use Rattle.rules_model.proofs.Steps.{port-link, act-send, none_at_switch, functions_here-none}
use Rattle.rules_model.proofs.Delivery.{AreThrough, IsDelivered, IsOnward, onward-is, go_on, deliver}
use Rattle.rules_model.proofs.Absurd.{None-Some, false-true}

abbrev visit_with : ℕ → Option ℕ → Visit
visit_with loc q = record { loc = loc; functions = []; queue = q; class = None }

module _ (setting : Setting) where
  entry_is : (e : IngressEntry) → In e setting.plan.entries → IsIngressEntry setting.net setting.groups setting.plan e
  entry_is e i = setting.plan_is.entries_are e (in_to setting.plan.entries e i)

  -- the source of a pair by the port at its first switch
  source-is : (x : HostPair) (s : ℕ) (link : DirectedLink) → IsHostPair setting.net x → Contains (directed_links setting.net) link → link.from ≡ s → x.link.to ≡ link.to → x.link.in_port ≡ link.in_port → x.source ≡ s
  source-is x s link p c from to port =
      let backs : back_of x.link ≡ back_of link = same_by_port setting.net setting.network (back_of x.link) (back_of link) (way_back setting.net x.link p.present) (way_back setting.net link c) to port in
      sym p.starts ∙ ap (λ w. w.to) backs ∙ from

  -- An untagged frame at the switch of a directed link from host s.
  pub record Enters (f : Frame) (s : ℕ) (link : DirectedLink) : Type 0 where
    pub host : IsHost setting.net s
    pub present : Contains (directed_links setting.net) link
    pub starts_there : link.from ≡ s
    pub loc : f.loc ≡ link.to
    pub port : f.port ≡ link.in_port
    pub tag : f.tag ≡ None

  not_tagged : (tag : Option ℕ) (n : ℕ) → tag ≡ None → tag_is tag n ≡ true → ⊥
  not_tagged None n e h = false-true h
  not_tagged (Some k) n e h = None-Some (sym e)

  untagged : (tag : Option ℕ) → tag ≡ None → not (is_some tag) ≡ true
  untagged None e = refl
  untagged (Some k) e = absurd (None-Some (sym e))

  no_tag_rule : (f : Frame) (row : TableRow) → f.tag ≡ None → is_for f (tag_rule row) ≡ true → ⊥
  no_tag_rule f row none fits = let h : Fits (tag_rule row) f = fits-parts f (tag_rule row) fits in not_tagged f.tag row.tag none h.dl_vlan

  no_back_rule : (f : Frame) (row : TableRow) → f.tag ≡ None → is_for f (back_rule row) ≡ true → ⊥
  no_back_rule f row none fits = let h : Fits (back_rule row) f = fits-parts f (back_rule row) fits in not_tagged f.tag row.tag none h.dl_vlan

  no_row_rule : (f : Frame) (q : Rule) → f.tag ≡ None → is_for f q ≡ true → IsByRow setting.net setting.plan q → ⊥
  no_row_rule f q none fits h = by h.is
    where
      by : (q ≡ tag_rule h.row) ⊎ (q ≡ back_rule h.row) → ⊥
      by (inl e) = no_tag_rule f h.row none (ap (is_for f) (sym e) ∙ fits)
      by (inr e) = no_back_rule f h.row none (ap (is_for f) (sym e) ∙ fits)

  -- Without a pair of hosts that the packet is between, only the last rule fits.
  last_acts : (f : Frame) → f.tag ≡ None → kind_of setting.net f.loc ≡ Some Switch →
      ((e : IngressEntry) → In e setting.plan.entries → is_for f (cell_rule e) ≡ true → ⊥) → acting_rule (table_rules setting.net setting.plan) f ≡ Some (last_rule f.loc)
  last_acts f none here no_cell = acting-is (table_rules setting.net setting.plan) f (last_rule f.loc) (last_rule-in setting.net setting.plan f.loc here) itself (λ q i fits. by q fits (table_rule-is setting.net setting.plan q i))
    where
      itself : is_for f (last_rule f.loc) ≡ true
      itself = fits-from f (last_rule f.loc) (record { loc = refl; in_port = refl; dl_src = refl; dl_dst = refl; dl_vlan = refl; nw_proto = refl; nw_src = refl; nw_dst = refl; tp_src = refl; tp_dst = refl })

      by : (q : Rule) → is_for f q ≡ true → IsTableRule setting.net setting.plan q → (q ≡ last_rule f.loc) ⊎ (q.priority < 0)
      by q fits (inl h) = absurd (no_row_rule f q none fits h)
      by q fits (inr (inl h)) = absurd (no_cell h.entry h.present (ap (is_for f) (sym h.is) ∙ fits))
      by q fits (inr (inr h)) =
          let l : Fits (last_rule h.0) f = fits-parts f (last_rule h.0) (ap (is_for f) (sym h.1) ∙ fits) in
          inl (h.1 ∙ ap last_rule l.loc)

  -- For a proper packet the rule of the deciding cell acts.
  cell_acts : (f : Frame) (s d g : ℕ) (link : DirectedLink) → Enters f s link → kind_of setting.net f.loc ≡ Some Switch → IsProper setting.net f.packet s d →
      (one : IsDecided setting.plan.entries s d f.packet g) → one.entry.pair.link ≡ link → acting_rule (table_rules setting.net setting.plan) f ≡ Some (cell_rule one.entry)
  cell_acts f s d g link enters here proper one same =
      acting-is (table_rules setting.net setting.plan) f (cell_rule one.entry)
      (cell_rule-in setting.net setting.plan one.entry (ap (λ k. kind_of setting.net k) (ap (λ w. w.to) same ∙ sym enters.loc) ∙ here) (in_from setting.plan.entries one.entry one.among))
      itself (λ q j fits. by q fits (table_rule-is setting.net setting.plan q j))
    where
      p : IsHostPair setting.net one.entry.pair
      p = (entry_is one.entry (in_from setting.plan.entries one.entry one.among)).pair

      from : one.entry.pair.from ≡ source_of f.packet
      from = Some-inj (sym p.source ∙ ap (address_of setting.net) one.source ∙ proper.source)

      to : one.entry.pair.to ≡ destination_of f.packet
      to = Some-inj (sym p.dest ∙ ap (address_of setting.net) one.dest ∙ proper.destination)

      first_two : (agrees one.entry.cell.proto f.packet.proto && agrees one.entry.cell.sport f.packet.sport) ≡ true
      first_two = and-first _ _ one.fits

      itself : is_for f (cell_rule one.entry) ≡ true
      itself = fits-from f (cell_rule one.entry) (record {
        loc = ap (λ w. w.to) same ∙ sym enters.loc;
        in_port = eq-eqb one.entry.pair.link.in_port f.port (ap (λ w. w.in_port) same ∙ sym enters.port);
        dl_src = eq-eqb one.entry.pair.from.eth f.packet.eth_src (ap (λ a. a.eth) from);
        dl_dst = eq-eqb one.entry.pair.to.eth f.packet.eth_dst (ap (λ a. a.eth) to);
        dl_vlan = untagged f.tag enters.tag;
        nw_proto = and-first (agrees one.entry.cell.proto f.packet.proto) (agrees one.entry.cell.sport f.packet.sport) first_two;
        nw_src = eq-eqb one.entry.pair.from.ip f.packet.ip_src (ap (λ a. a.ip) from);
        nw_dst = eq-eqb one.entry.pair.to.ip f.packet.ip_dst (ap (λ a. a.ip) to);
        tp_src = and-second (agrees one.entry.cell.proto f.packet.proto) (agrees one.entry.cell.sport f.packet.sport) first_two;
        tp_dst = and-second (agrees one.entry.cell.proto f.packet.proto && agrees one.entry.cell.sport f.packet.sport) (agrees one.entry.cell.dport f.packet.dport) one.fits;
      })

      cell_at : (q : Rule) (x : IngressEntry) → In x setting.plan.entries → is_for f (cell_rule x) ≡ true → q ≡ cell_rule x → (q ≡ cell_rule one.entry) ⊎ (q.priority < one.entry.cell.priority)
      cell_at q x ix fits e = on (one.decides x (in_to setting.plan.entries x ix) source dest x_fits)
        where
          h : Fits (cell_rule x) f
          h = fits-parts f (cell_rule x) fits

          px : IsHostPair setting.net x.pair
          px = (entry_is x ix).pair

          source : x.pair.source ≡ s
          source = source-is x.pair s link px enters.present enters.starts_there (h.loc ∙ enters.loc) (eqb-true x.pair.link.in_port f.port h.in_port ∙ enters.port)

          dest : x.pair.dest ≡ d
          dest = setting.network.addresses x.pair.dest d x.pair.to (destination_of f.packet) px.dest proper.destination (inl (eqb-true x.pair.to.eth f.packet.eth_dst h.dl_dst))

          x_fits : cell_fits x.cell f.packet ≡ true
          x_fits = and-both (agrees x.cell.proto f.packet.proto && agrees x.cell.sport f.packet.sport) (agrees x.cell.dport f.packet.dport)
              (and-both (agrees x.cell.proto f.packet.proto) (agrees x.cell.sport f.packet.sport) h.nw_proto h.tp_src) h.tp_dst

          on : (x ≡ one.entry) ⊎ (x.cell.priority < one.entry.cell.priority) → (q ≡ cell_rule one.entry) ⊎ (q.priority < one.entry.cell.priority)
          on (inl same_entry) = inl (e ∙ ap cell_rule same_entry)
          on (inr lt) = inr (let priority : q.priority ≡ x.cell.priority = ap (λ r. r.priority) e in omega arith)

      by : (q : Rule) → is_for f q ≡ true → IsTableRule setting.net setting.plan q → (q ≡ cell_rule one.entry) ⊎ (q.priority < one.entry.cell.priority)
      by q fits (inl h) = absurd (no_row_rule f q enters.tag fits h)
      by q fits (inr (inl h)) = cell_at q h.entry h.present (ap (is_for f) (sym h.is) ∙ fits) h.is
      by q fits (inr (inr h)) = inr (let priority : q.priority ≡ 0 = ap (λ r. r.priority) h.1 in let above = one.above_last in omega arith)

  -- What the first switch and the host do.

  -- the directed link of a host, and where it leads
  pub record HasLink (s : ℕ) : Type 0 where
    pub link : DirectedLink
    pub present : Contains (directed_links setting.net) link
    pub from : link.from ≡ s
    pub first : uplink_of setting.net s ≡ Some link
    pub switch : kind_of setting.net link.to ≡ Some Switch

  pub uplink_of_host : (s : ℕ) → IsHost setting.net s → HasLink s
  uplink_of_host s host = record { link = link.0; present = in_to (directed_links setting.net) link.0 kept.0; from = eqb-true link.0.from s kept.1; first = uplink_of-is setting.net setting.network s host; switch = link.2 }
    where
      link : (link : DirectedLink) × (links_from setting.net s ≡ link ∷ []) × (kind_of setting.net link.to ≡ Some Switch)
      link = setting.network.host_link s host

      kept : In link.0 (directed_links setting.net) × ((link.0.from == s) ≡ true)
      kept = in_filter (λ w. w.from == s) (directed_links setting.net) link.0 (subst (In link.0) (sym link.1) (inl refl))

  abbrev pub host_visit : ℕ → Packet → Visit
  host_visit s p = record { loc = s; functions = []; queue = None; class = class_by setting.config.hosts s p }

  starts_off : (s : ℕ) (p : Packet) (host : IsHost setting.net s) → is_dropped_by setting.config.hosts s p ≡ false → next setting.net setting.config (start s p) ≡ Forwards (uplink_of_host s host).link None (host_visit s p)
  starts_off s p host undropped = by (kind_of setting.net s) host
    where
      out : from_host setting.net setting.config.hosts (start s p) ≡ Forwards (uplink_of_host s host).link None (host_visit s p)
      out =
          ap (λ b. cond b (Stops (Dropped s)) (send_over s (uplink_of setting.net s) None (host_visit s p))) undropped
          ∙ ap (λ o. send_over s o None (host_visit s p)) (uplink_of_host s host).first

      by : (o : Option LocationKind) → IsSome (address_at o) → next_at setting.net setting.config (start s p) o ≡ Forwards (uplink_of_host s host).link None (host_visit s p)
      by None h = absurd (false-true h)
      by (Some Switch) h = absurd (false-true h)
      by (Some Middlebox) h = absurd (false-true h)
      by (Some (Host address)) h = out

  -- A packet that a line drops ends at its host.
  pub host_drops : (s : ℕ) (p : Packet) → IsHost setting.net s → is_dropped_by setting.config.hosts s p ≡ true → next setting.net setting.config (start s p) ≡ Stops (Dropped s)
  host_drops s p host drop = by (kind_of setting.net s) host
    where
      by : (o : Option LocationKind) → IsSome (address_at o) → next_at setting.net setting.config (start s p) o ≡ Stops (Dropped s)
      by None h = absurd (false-true h)
      by (Some Switch) h = absurd (false-true h)
      by (Some Middlebox) h = absurd (false-true h)
      by (Some (Host address)) h = ap (λ b. cond b (Stops (Dropped s)) (send_over s (uplink_of setting.net s) None (host_visit s p))) drop

  not_box : (s : ℕ) → IsHost setting.net s → kind_of setting.net s ≢ Some Middlebox
  not_box s host e = false-true (ap (λ o. is_some (address_at o)) (sym e) ∙ host)

  -- the frame at the first switch
  abbrev arrived : (s : ℕ) → IsHost setting.net s → Packet → Frame
  arrived s host p = arrival (uplink_of_host s host).link None p

  -- a run from a host goes on from the first switch
  from_switch : (n s : ℕ) (p : Packet) (host : IsHost setting.net s) → is_dropped_by setting.config.hosts s p ≡ false → (P : List Visit → End → Type 0) →
      RunsWithin setting.net setting.config n (arrived s host p) (λ records end. P (host_visit s p ∷ records) end) → RunsWithin setting.net setting.config (suc n) (start s p) P
  from_switch n s p host undropped P h = within-plain_hop setting.net setting.config n (start s p) (uplink_of_host s host).link None (host_visit s p) P (not_box s host) (starts_off s p host undropped) h

  next_switch : (f : Frame) (rule : Rule) → kind_of setting.net f.loc ≡ Some Switch → acting_rule (table_rules setting.net setting.plan) f ≡ Some rule → next setting.net setting.config f ≡ act setting.net f f.tag rule.actions
  next_switch f rule here e = ap (next_at setting.net setting.config f) here ∙ ap (λ rs. at_switch setting.net f (acting_rule rs f)) setting.rules ∙ ap (at_switch setting.net f) e

  -- An improper packet is dropped at the first switch.
  pub improper_dropped : (s : ℕ) (p : Packet) (host : IsHost setting.net s) → is_dropped_by setting.config.hosts s p ≡ false → ((d : ℕ) → ¬ IsProper setting.net p s d) →
      RunsWithin setting.net setting.config 1 (start s p) (λ records end. (records ≡ host_visit s p ∷ []) × (end ≡ Dropped (uplink_of_host s host).link.to))
  improper_dropped s p host undropped improper =
      from_switch 0 s p host undropped _ (within-stop setting.net setting.config f (Dropped f.loc) _ (next_switch f (last_rule f.loc) w.switch (last_acts f refl w.switch no_cell)) (refl, refl))
    where
      w : HasLink s
      w = uplink_of_host s host

      f : Frame
      f = arrived s host p

      no_cell : (e : IngressEntry) → In e setting.plan.entries → is_for (arrived s host p) (cell_rule e) ≡ true → ⊥
      no_cell e present fits =
          let h : Fits (cell_rule e) (arrived s host p) = fits-parts (arrived s host p) (cell_rule e) fits in
          let x : IsHostPair setting.net e.pair = (entry_is e present).pair in
          let source : e.pair.source ≡ s =
          source-is e.pair s (uplink_of_host s host).link x (uplink_of_host s host).present (uplink_of_host s host).from h.loc (eqb-true e.pair.link.in_port (uplink_of_host s host).link.in_port h.in_port) in
          let se : e.pair.from.eth ≡ p.eth_src = eqb-true e.pair.from.eth p.eth_src h.dl_src in
          let si : e.pair.from.ip ≡ p.ip_src = eqb-true e.pair.from.ip p.ip_src h.nw_src in
          let de : e.pair.to.eth ≡ p.eth_dst = eqb-true e.pair.to.eth p.eth_dst h.dl_dst in
          let di : e.pair.to.ip ≡ p.ip_dst = eqb-true e.pair.to.ip p.ip_dst h.nw_dst in
          improper e.pair.dest (record {
            differ = λ same. x.differ (source ∙ same);
            source = ap (address_of setting.net) (sym source) ∙ x.source ∙ (λ i. Some (record { eth = se i; ip = si i }));
            destination = x.dest ∙ (λ i. Some (record { eth = de i; ip = di i }));
          })

  one_link : (s : ℕ) (host : IsHost setting.net s) (w : DirectedLink) → Contains (directed_links setting.net) w → w.from ≡ s → w ≡ (uplink_of_host s host).link
  unfolding uplink_of_host
  one_link s host w c from =
      one_of (setting.network.host_link s host).0 w (subst (In w) (setting.network.host_link s host).1 (filter_in (λ x. x.from == s) (directed_links setting.net) w (in_from (directed_links setting.net) w c) (eq-eqb w.from s from)))
    where
      one_of : (x y : DirectedLink) → In y (x ∷ []) → y ≡ x
      one_of x y (inl e) = e
      one_of x y (inr h) = absurd h

  -- the entry that decides about the packet
  entry_of : (s d g : ℕ) (p : Packet) → (one : IsDecided setting.plan.entries s d p g) → IsIngressEntry setting.net setting.groups setting.plan one.entry
  entry_of s d g p one = setting.plan_is.entries_are one.entry one.among

  -- at the first switch a proper packet meets the actions of the deciding cell
  next_by_cell : (s d g : ℕ) (p : Packet) (host : IsHost setting.net s) → IsProper setting.net p s d → (one : IsDecided setting.plan.entries s d p g) →
      next setting.net setting.config (arrived s host p) ≡ act setting.net (arrived s host p) None (ingress_actions one.entry.queue one.entry.hop)
  next_by_cell s d g p host proper one =
      next_switch (arrived s host p) (cell_rule one.entry) (uplink_of_host s host).switch
      (cell_acts (arrived s host p) s d g (uplink_of_host s host).link
      (record { host = host; present = (uplink_of_host s host).present; starts_there = (uplink_of_host s host).from; loc = refl; port = refl; tag = refl }) (uplink_of_host s host).switch proper one
      (one_link s host one.entry.pair.link (entry_of s d g p one).pair.present ((entry_of s d g p one).pair.starts ∙ one.source)))

  -- what the entry says of the hop, for the packet's hosts and group
  hop_of : (s d g : ℕ) (p : Packet) (one : IsDecided setting.plan.entries s d p g) → IsFirstHop setting.net setting.groups setting.plan g s d one.entry.hop
  hop_of s d g p one = subst (λ T. T) (λ i. IsFirstHop setting.net setting.groups setting.plan (one.group i) (one.source i) (one.dest i) one.entry.hop) (entry_of s d g p one).hop

  -- A proper packet without an allowed walk is dropped at the first switch.
  closed_dropped : (s d g : ℕ) (p : Packet) (host : IsHost setting.net s) → is_dropped_by setting.config.hosts s p ≡ false → IsProper setting.net p s d → (one : IsDecided setting.plan.entries s d p g) → one.entry.hop ≡ None →
      RunsWithin setting.net setting.config 1 (start s p) (λ records end. (records ≡ host_visit s p ∷ []) × (end ≡ Dropped (uplink_of_host s host).link.to))
  closed_dropped s d g p host undropped proper one e =
      from_switch 0 s p host undropped _ (within-stop setting.net setting.config (arrived s host p) (Dropped (uplink_of_host s host).link.to) _
      (next_by_cell s d g p host proper one ∙ ap (λ h. act setting.net (arrived s host p) None (ingress_actions one.entry.queue h)) e) (refl, refl))

  -- A proper packet with an allowed walk is delivered after the stops of what follows its start.

  -- what follows the start is at the first switch
  at_first : (g s d : ℕ) (host : IsHost setting.net s) (v : Vertex) (us : List Vertex) → After setting g d (start_in setting.groups g s) (v ∷ us) → loc_of v ≡ (uplink_of_host s host).link.to
  at_first g s d host v us h = by ((routing setting).follows g d (start_in setting.groups g s) v us h)
    where
      start_loc : loc_of (start_in setting.groups g s) ≡ s
      start_loc = ap (λ x. x.loc) (starts_at setting.groups g s)

      by : MayFollow setting.net ((start_in setting.groups g s).symbol, v.symbol) → loc_of v ≡ (uplink_of_host s host).link.to
      by (inl same) = absurd ((routing setting).inside g d (start_in setting.groups g s) v us h (subst (IsHost setting.net) (sym start_loc ∙ same) host))
      by (inr link) = sym link.ends ∙ ap (λ w. w.to) (one_link s host link.link link.present (link.starts ∙ start_loc))

  first_stop : (g s d : ℕ) (v : Vertex) (us : List Vertex) → s ≢ d → loc_of v ≢ s → visits ((start_in setting.groups g s).symbol ∷ word_to d (v ∷ us)) ≡ stop_at s ∷ visits (v.symbol ∷ word_to d us)
  first_stop g s d v us differ away = ap (λ x. visits (x ∷ word_to d (v ∷ us))) (starts_at setting.groups g s) ∙ visits-route d s (record { symbol = at s; state = 0 }) (v ∷ us) refl differ ∙ by (loc_of v == s) refl
    where
      by : (b : Bool) → (loc_of v == s) ≡ b →
          record { loc = s; functions = cond b (functions_of v.symbol ++ functions_here s us) [] } ∷ stops_from d (cond b (onward s us) (Some (v, us))) ≡ stop_at s ∷ visits (v.symbol ∷ word_to d us)
      by true e = absurd (away (eqb-true (loc_of v) s e))
      by false e = refl

  act-enter : (f : Frame) (t q : Option ℕ) (out : Out) → act setting.net f None (enter t (send_through q out ∷ [])) ≡ act setting.net f t (send_through q out ∷ [])
  act-enter f None q out = refl
  act-enter f (Some n) q out = refl

  -- delivered after the stops of what follows the start; all records but the host's are through the queue of the group
  abbrev pub IsSent : ℕ → ℕ → ℕ → Packet → List Vertex → List Visit → End → Type 0
  IsSent g s d p us records end =
      (packet : Packet) × (end ≡ Delivered d packet) × (map stop_of records ++ stop_at d ∷ [] ≡ visits ((start_in setting.groups g s).symbol ∷ word_to d us))
      × ((others : List Visit) × (records ≡ host_visit s p ∷ others) × AreThrough (queue_in setting.groups g) others)

  enters_first : (s d g : ℕ) (p : Packet) (host : IsHost setting.net s) → is_dropped_by setting.config.hosts s p ≡ false → IsProper setting.net p s d → (one : IsDecided setting.plan.entries s d p g) → (hop : Hop) → one.entry.hop ≡ Some hop →
      (v : Vertex) (us : List Vertex) → After setting g d (start_in setting.groups g s) (v ∷ us) → IsHop setting.net setting.plan.tags g d v us hop →
      RunsWithin setting.net setting.config (suc (suc (suc (length us)))) (start s p) (IsSent g s d p (v ∷ us))
  enters_first s d g p host undropped proper one hop e v us followed h =
      from_switch (suc (suc (length us))) s p host undropped (IsSent g s d p (v ∷ us))
      (within-more setting.net setting.config (suc (suc (length us))) f (IsDelivered d (queue_in setting.groups g) (visits (v.symbol ∷ word_to d us))) _
      (λ records end x. (x.0, x.1, ap (λ xs. stop_at s ∷ xs) x.2 ∙ sym (first_stop g s d v us proper.differ away), (records, refl, x.3)))
      (go_on setting (suc (length us)) f g d v us hop (visit_with f.loc one.entry.queue) (destination_of p)
      ((routing setting).goes_on g d (start_in setting.groups g s) v us followed) outside h goes stop ((entry_of s d g p one).queue ∙ ap (queue_in setting.groups) one.group) proper.destination refl
      (λ next n x st.
      let o : IsOnward setting g d (loc_of v) us next =
      onward-is setting g d (loc_of v) v us next ((routing setting).goes_on g d (start_in setting.groups g s) v us followed) n in
      deliver setting (length us) x g d next.0 next.1 st (le_of (length next.1) (length us) o.shorter))))
    where
      le_of : (m n : ℕ) → m < n → m ≤ n
      le_of m n lt = omega arith

      f : Frame
      f = arrived s host p

      w : HasLink s
      w = uplink_of_host s host

      here : loc_of v ≡ (uplink_of_host s host).link.to
      here = at_first g s d host v us followed

      at_switch_there : kind_of setting.net (loc_of v) ≡ Some Switch
      at_switch_there = ap (λ k. kind_of setting.net k) here ∙ (uplink_of_host s host).switch

      outside : ¬ IsHost setting.net (loc_of v)
      outside = (routing setting).inside g d (start_in setting.groups g s) v us followed

      away : loc_of v ≢ s
      away same = outside (subst (IsHost setting.net) (sym same) host)

      after : After setting g d v us
      after = (routing setting).goes_on g d (start_in setting.groups g s) v us followed

      -- the hop leads neither to the source nor to another host
      not_home : hop.link.to ≢ s
      not_home to = by (onward (loc_of v) us) refl (sym h.ends ∙ to)
        where
          by : (o : Option (Vertex × List Vertex)) → onward (loc_of v) us ≡ o → onward_location d (onward (loc_of v) us) ≡ s → ⊥
          by None e same = proper.differ (sym (sym (ap (onward_location d) e) ∙ same))
          by (Some next) e same =
              let o : IsOnward setting g d (loc_of v) us next =
              onward-is setting g d (loc_of v) v us next after e in
              o.inside (subst (IsHost setting.net) (sym (sym (ap (onward_location d) e) ∙ same)) host)

      other_port : hop.link.out_port ≢ (uplink_of_host s host).link.in_port
      other_port port =
          let same : hop.link ≡ back_of (uplink_of_host s host).link =
          same_by_port setting.net setting.network hop.link (back_of (uplink_of_host s host).link) h.present (way_back setting.net (uplink_of_host s host).link (uplink_of_host s host).present) (h.starts ∙ here) port in
          not_home (ap (λ x. x.to) same ∙ (uplink_of_host s host).from)

      no_functions : hop.functions ≡ []
      no_functions =
          h.functions ∙ ap₂ (λ a b. a ++ b) (none_at_switch setting.net setting.network v.symbol ((routing setting).symbol g d v us after) at_switch_there)
          (functions_here-none setting g d (loc_of v) v us after at_switch_there)

      stop : stop_of (visit_with (uplink_of_host s host).link.to one.entry.queue) ≡ record { loc = loc_of v; functions = hop.functions }
      stop = λ j. record { loc = sym here j; functions = sym no_functions j }

      goes : next setting.net setting.config (arrived s host p) ≡ Forwards hop.link hop.tag (visit_with (uplink_of_host s host).link.to one.entry.queue)
      goes =
          next_by_cell s d g p host proper one
          ∙ ap (λ o. act setting.net (arrived s host p) None (ingress_actions one.entry.queue o)) e
          ∙ act-enter (arrived s host p) hop.tag one.entry.queue (Port hop.link.out_port)
          ∙ act-send setting (arrived s host p) hop.tag one.entry.queue (Port hop.link.out_port) hop.link
          (port-link setting (arrived s host p) hop.link.out_port hop.link other_port
          (link_at-is setting.net setting.network hop.link (uplink_of_host s host).link.to hop.link.out_port h.present (h.starts ∙ here) refl))

  pub delivered : (s d g : ℕ) (p : Packet) → IsHost setting.net s → is_dropped_by setting.config.hosts s p ≡ false → IsProper setting.net p s d → (one : IsDecided setting.plan.entries s d p g) → AllowsWalk setting.net setting.groups g s d →
      (us : List Vertex) × After setting g d (start_in setting.groups g s) us × EachRun setting.net setting.config (start s p) (IsSent g s d p us)
  delivered s d g p host undropped proper one is_open = by one.entry.hop refl (hop_of s d g p one)
    where
      by : (o : Option Hop) → one.entry.hop ≡ o → IsFirstHop setting.net setting.groups setting.plan g s d one.entry.hop →
          (us : List Vertex) × After setting g d (start_in setting.groups g s) us × EachRun setting.net setting.config (start s p) (IsSent g s d p us)
      by None e h = absurd (subst (IsFirstHop setting.net setting.groups setting.plan g s d) e h is_open)
      by (Some hop) e h =
          let k : IsFirstHop setting.net setting.groups setting.plan g s d (Some hop) = subst (IsFirstHop setting.net setting.groups setting.plan g s d) e h in
          (k.0 ∷ k.1, k.2, (suc (suc (suc (length k.1))), enters_first s d g p host undropped proper one hop e k.0 k.1 k.2 k.3))

  pub dropped : (s d g : ℕ) (p : Packet) (host : IsHost setting.net s) → is_dropped_by setting.config.hosts s p ≡ false → IsProper setting.net p s d → (one : IsDecided setting.plan.entries s d p g) → ¬ AllowsWalk setting.net setting.groups g s d →
      ((us : List Vertex) → After setting g d (start_in setting.groups g s) us → AllowsWalk setting.net setting.groups g s d) →
      RunsWithin setting.net setting.config 1 (start s p) (λ records end. (records ≡ host_visit s p ∷ []) × (end ≡ Dropped (uplink_of_host s host).link.to))
  dropped s d g p host undropped proper one closed opens = by one.entry.hop refl (hop_of s d g p one)
    where
      by : (o : Option Hop) → one.entry.hop ≡ o → IsFirstHop setting.net setting.groups setting.plan g s d one.entry.hop →
          RunsWithin setting.net setting.config 1 (start s p) (λ records end. (records ≡ host_visit s p ∷ []) × (end ≡ Dropped (uplink_of_host s host).link.to))
      by None e h = closed_dropped s d g p host undropped proper one e
      by (Some hop) e h =
          let k : IsFirstHop setting.net setting.groups setting.plan g s d (Some hop) = subst (IsFirstHop setting.net setting.groups setting.plan g s d) e h in
          absurd (closed (opens (k.0 ∷ k.1) k.2))
