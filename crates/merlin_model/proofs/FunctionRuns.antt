-- A run by given packet functions is a run of the machine.
use Rattle.std.proofs.Common.{◌≡◌, ◌==◌, ℕ, Bool, true, false, List, [], ◌∷◌, Option, None, Some, MatchOption, slice_get, if◌then◌else◌, sym, ◌∙◌, ap, subst}
use Rattle.merlin_model.specs.declared.network.LocationKind.{LocationKind}
use Rattle.merlin_model.specs.declared.network.LocationKind.TheVariants.{Host, Switch, Middlebox}
use Rattle.merlin_model.specs.declared.network.FnDecl.{FnDecl}
use Rattle.merlin_model.specs.declared.config.Action.{Action}
use Rattle.merlin_model.specs.declared.config.Action.TheVariants.{SetVlan, StripVlan, Output, Enqueue}
use Rattle.merlin_model.specs.declared.config.Rule.{Rule}
use Rattle.merlin_model.specs.declared.config.Config.{Config}
use Rattle.merlin_model.specs.Packets.{Packet, IsPacket}
use Rattle.merlin_model.specs.Networks.{Network, DirectedLink, kind_of}
use Rattle.merlin_model.specs.Machine.{uplink_of, Frame, Visit, End, Dropped, Next, Forwards, Stops, send_over, link_to, act, at_switch, from_host, arrived_at, next_at, is_dropped_by, class_by, acting_rule, MayBecome, Hops, Reaches, Runs}
use Rattle.merlin_model.specs.Functions.{Behaviour, KeepsDestination, MayMakeInTurn, HopsBy, ReachesBy, RunsBy}
use Rattle.merlin_model.proofs.Traces.{Forwards-visit, Forwards-Stops}

-- Away from middleboxes no function is recorded.

over-visit : (loc : ℕ) (o : Option DirectedLink) (tag t : Option ℕ) (visit v : Visit) (w : DirectedLink) → send_over loc o tag visit ≡ Forwards w t v → visit ≡ v
over-visit loc None tag t visit v w e = absurd (Forwards-Stops (sym e))
over-visit loc (Some link) tag t visit v w e = Forwards-visit e

sent-none : (loc : ℕ) (o : Option DirectedLink) (tag t : Option ℕ) (queue class : Option ℕ) (v : Visit) (w : DirectedLink) →
    send_over loc o tag (record { loc = loc; functions = []; queue = queue; class = class }) ≡ Forwards w t v → v.functions ≡ []
sent-none loc o tag t queue class v w e = sym (ap (λ x. x.functions) (over-visit loc o tag t (record { loc = loc; functions = []; queue = queue; class = class }) v w e))

act-none : (net : Network) (f : Frame) (tag t : Option ℕ) (actions : List Action) (v : Visit) (w : DirectedLink) → act net f tag actions ≡ Forwards w t v → v.functions ≡ []
act-none net f tag t [] v w e = absurd (Forwards-Stops (sym e))
act-none net f tag t (SetVlan n ∷ actions) v w e = act-none net f (Some n) t actions v w e
act-none net f tag t (StripVlan ∷ actions) v w e = act-none net f None t actions v w e
act-none net f tag t (Output out ∷ actions) v w e = sent-none f.loc (link_to net f out) tag t None None v w e
act-none net f tag t (Enqueue out queue ∷ actions) v w e = sent-none f.loc (link_to net f out) tag t (Some queue) None v w e

switch-none : (net : Network) (f : Frame) (t : Option ℕ) (o : Option Rule) (v : Visit) (w : DirectedLink) → at_switch net f o ≡ Forwards w t v → v.functions ≡ []
switch-none net f t None v w e = absurd (Forwards-Stops (sym e))
switch-none net f t (Some rule) v w e = act-none net f f.tag t rule.actions v w e

arrived-none : (loc : ℕ) (tag t : Option ℕ) (p : Packet) (v : Visit) (w : DirectedLink) → arrived_at loc tag p ≡ Forwards w t v → ⊥
arrived-none loc None t p v w e = Forwards-Stops (sym e)
arrived-none loc (Some tag) t p v w e = Forwards-Stops (sym e)

host-none : (net : Network) (config : Config) (f : Frame) (t : Option ℕ) (v : Visit) (w : DirectedLink) → from_host net config.hosts f ≡ Forwards w t v → v.functions ≡ []
host-none net config f t v w e = by (is_dropped_by config.hosts f.loc f.packet) e
  where
    sent : Next
    sent = send_over f.loc (uplink_of net f.loc) None (record { loc = f.loc; functions = []; queue = None; class = class_by config.hosts f.loc f.packet })

    by : (b : Bool) → (if b then Stops (Dropped f.loc) else sent) ≡ Forwards w t v → v.functions ≡ []
    by true e = absurd (Forwards-Stops (sym e))
    by false e = sent-none f.loc (uplink_of net f.loc) None t None (class_by config.hosts f.loc f.packet) v w e

module _ (net : Network) (config : Config) (behaviour : Behaviour) (keeps : KeepsDestination behaviour) where
  made : (o : Option FnDecl) (p q : Packet) → IsPacket p → MatchOption o (q ≡ p) (λ decl. behaviour decl p q) → IsPacket q × (q.eth_dst ≡ p.eth_dst)
  made None p q ok e = (subst IsPacket (sym e) ok, ap (λ r. r.eth_dst) e)
  made (Some decl) p q ok h = keeps decl p q ok h

  made-in_turn : (functions : List ℕ) (p q : Packet) → IsPacket p → MayMakeInTurn net behaviour functions p q → IsPacket q × (q.eth_dst ≡ p.eth_dst)
  made-in_turn [] p q ok e = (subst IsPacket (sym e) ok, ap (λ r. r.eth_dst) e)
  made-in_turn (f ∷ functions) p q ok h =
      let first : IsPacket h.0 × (h.0.eth_dst ≡ p.eth_dst) = made (slice_get net.functions f) p h.0 ok h.1 in
      let rest : IsPacket q × (q.eth_dst ≡ h.0.eth_dst) = made-in_turn functions h.0 q first.0 h.2 in
      (rest.0, rest.1 ∙ first.1)

  unchanged : (functions : List ℕ) (p q : Packet) → functions ≡ [] → MayMakeInTurn net behaviour functions p q → q ≡ p
  unchanged functions p q none h = subst (λ fs. MayMakeInTurn net behaviour fs p q) none h

  -- what the functions that are recorded make is what the location allows
  allowed : (o : Option LocationKind) (f : Frame) (t : Option ℕ) (v : Visit) (w : DirectedLink) (q : Packet) → next_at net config f o ≡ Forwards w t v →
      IsPacket f.packet → MayMakeInTurn net behaviour v.functions f.packet q → MayBecome o f.packet q
  allowed None f t v w q e ok h = absurd (Forwards-Stops (sym e))
  allowed (Some (Host address)) f t v w q e ok h = by (f.port == 0) e
    where
      by : (b : Bool) → (if b then from_host net config.hosts f else arrived_at f.loc f.tag f.packet) ≡ Forwards w t v → q ≡ f.packet
      by true e = unchanged v.functions f.packet q (host-none net config f t v w e) h
      by false e = absurd (arrived-none f.loc f.tag t f.packet v w e)
  allowed (Some Switch) f t v w q e ok h = unchanged v.functions f.packet q (switch-none net f t (acting_rule config.rules f) v w e) h
  allowed (Some Middlebox) f t v w q e ok h = made-in_turn v.functions f.packet q ok h

  hop : (f g : Frame) (visit : Visit) → IsPacket f.packet → HopsBy net config behaviour f visit g → Hops net config f visit g
  hop f g visit ok h = record {
    link = h.link;
    goes = h.goes;
    loc = h.loc;
    port = h.port;
    packet = allowed (kind_of net f.loc) f g.tag visit h.link g.packet h.goes ok h.packet;
  }

  reached : (f : Frame) (visits : List Visit) (g : Frame) → IsPacket f.packet → ReachesBy net config behaviour f visits g → Reaches net config f visits g
  reached f [] g ok e = e
  reached f (visit ∷ visits) g ok h =
      let still : IsPacket h.0.packet = (made-in_turn visit.functions f.packet h.0.packet ok h.1.packet).0 in
      (h.0, hop f h.0 visit ok h.1, reached h.0 visits g still h.2)

  pub runs-by : (f : Frame) (visits : List Visit) (end : End) → IsPacket f.packet → RunsBy net config behaviour f visits end → Runs net config f visits end
  runs-by f visits end ok run = record { last = run.last; hops = reached f visits run.last ok run.hops; stops = run.stops }
