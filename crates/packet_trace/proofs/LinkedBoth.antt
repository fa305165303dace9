-- A hop leads over a directed link of the network, to a location.
use Rattle.std.proofs.Common.{◌≡◌, ℕ, ◌<◌, ◌==◌, Bool, true, false, cond, List, [], ◌∷◌, length, Option, None, Some, find, inl, inr, sym}
use Rattle.merlin_model.specs.declared.network.LocationKind.{LocationKind}
use Rattle.merlin_model.specs.declared.network.LocationKind.TheVariants.{Host, Switch, Middlebox}
use Rattle.merlin_model.specs.declared.network.DirectedLink.{DirectedLink}
use Rattle.merlin_model.specs.declared.config.Out.{Out}
use Rattle.merlin_model.specs.declared.config.Out.TheVariants.{InPort, Port}
use Rattle.merlin_model.specs.declared.config.Action.{Action}
use Rattle.merlin_model.specs.declared.config.Action.TheVariants.{SetVlan, StripVlan, Output, Enqueue}
use Rattle.merlin_model.specs.declared.config.Rule.{Rule}
use Rattle.merlin_model.specs.declared.config.Process.{Process}
use Rattle.merlin_model.specs.declared.config.Config.{Config}
use Rattle.merlin_model.specs.Networks.{Network, IsNetwork, kind_of, directed_links, back_of}
use Rattle.merlin_model.specs.Machine.{Frame, Visit, Forwards, Stops, Dropped, next, next_at, from_host, arrived_at, at_switch, at_middlebox, acting_rule, acting_process, act, send_over, link_at, uplink_of, link_to, is_dropped_by}
use Rattle.merlin_model.proofs.Members.{In, in_from, in_to, all_in}
use Rattle.merlin_model.proofs.DirectedLinks.{way_back}
use Rattle.merlin_model.proofs.Traces.{Some-inj}

find_in : {X : Type 0} (t : X → Bool) (xs : List X) (x : X) → find t xs ≡ Some x → In x xs
find_in t [] x e = cc
find_in t (y ∷ ys) x e = by (t y) e (find_in t ys x)
  where
    by : (b : Bool) → cond b (Some y) (find t ys) ≡ Some x → (find t ys ≡ Some x → In x ys) → In x (y ∷ ys)
    by true e ih = inl (sym (Some-inj e))
    by false e ih = inr (ih e)

-- what is sent over a directed link goes over this one
over_link : (loc : ℕ) (o : Option DirectedLink) (tag : Option ℕ) (visit : Visit) (link : DirectedLink) (to : Option ℕ) (v : Visit) → send_over loc o tag visit ≡ Forwards link to v → o ≡ Some link
over_link loc None tag visit link to v e = cc
over_link loc (Some w) tag visit link to v e = cc

module _ (net : Network) where
  out_in : (f : Frame) (out : Out) (link : DirectedLink) → link_to net f out ≡ Some link → In link (directed_links net)
  out_in f InPort link e = find_in _ (directed_links net) link e
  out_in f (Port port) link e = by (port == f.port) e
    where
      by : (b : Bool) → cond b None (link_at net f.loc port) ≡ Some link → In link (directed_links net)
      by true e = cc
      by false e = find_in _ (directed_links net) link e

  act_in : (f : Frame) (tag : Option ℕ) (actions : List Action) (link : DirectedLink) (to : Option ℕ) (v : Visit) → act net f tag actions ≡ Forwards link to v → In link (directed_links net)
  act_in f tag [] link to v e = cc
  act_in f tag (SetVlan n ∷ actions) link to v e = act_in f (Some n) actions link to v e
  act_in f tag (StripVlan ∷ actions) link to v e = act_in f None actions link to v e
  act_in f tag (Output out ∷ actions) link to v e = out_in f out link (over_link _ (link_to net f out) _ _ _ _ _ e)
  act_in f tag (Enqueue out queue ∷ actions) link to v e = out_in f out link (over_link _ (link_to net f out) _ _ _ _ _ e)

  switch_in : (f : Frame) (o : Option Rule) (link : DirectedLink) (to : Option ℕ) (v : Visit) → at_switch net f o ≡ Forwards link to v → In link (directed_links net)
  switch_in f None link to v e = cc
  switch_in f (Some rule) link to v e = act_in f f.tag rule.actions link to v e

  middlebox_in : (f : Frame) (o : Option Process) (link : DirectedLink) (to : Option ℕ) (v : Visit) → at_middlebox net f o ≡ Forwards link to v → In link (directed_links net)
  middlebox_in f None link to v e = cc
  middlebox_in f (Some line) link to v e = find_in _ (directed_links net) link (over_link _ (link_at net f.loc line.port) _ _ _ _ _ e)

  arrived_in : (loc : ℕ) (tag : Option ℕ) (f : Frame) (link : DirectedLink) (to : Option ℕ) (v : Visit) → arrived_at loc tag f.packet ≡ Forwards link to v → In link (directed_links net)
  arrived_in loc None f link to v e = cc
  arrived_in loc (Some tag) f link to v e = cc

  next_in : (config : Config) (f : Frame) (o : Option LocationKind) (link : DirectedLink) (to : Option ℕ) (v : Visit) → next_at net config f o ≡ Forwards link to v → In link (directed_links net)
  next_in config f None link to v e = cc
  next_in config f (Some Switch) link to v e = switch_in f (acting_rule config.rules f) link to v e
  next_in config f (Some Middlebox) link to v e = middlebox_in f (acting_process config.processes f) link to v e
  next_in config f (Some (Host address)) link to v e = by (f.port == 0) e
    where
      started : (b : Bool) (visit : Visit) → cond b (Stops (Dropped f.loc)) (send_over f.loc (uplink_of net f.loc) None visit) ≡ Forwards link to v → In link (directed_links net)
      started true visit e = cc
      started false visit e = find_in _ (directed_links net) link (over_link _ (uplink_of net f.loc) _ _ _ _ _ e)

      by : (b : Bool) → cond b (from_host net config.hosts f) (arrived_at f.loc f.tag f.packet) ≡ Forwards link to v → In link (directed_links net)
      by true e = started (is_dropped_by config.hosts f.loc f.packet) _ e
      by false e = arrived_in f.loc f.tag f link to v e

  -- a hop leads to a location
  pub leads_to : IsNetwork net → (config : Config) (f : Frame) (link : DirectedLink) (to : Option ℕ) (v : Visit) → next net config f ≡ Forwards link to v → link.to < length net.locations
  leads_to lawful config f link to v e =
      let present = in_to (directed_links net) link (next_in config f (kind_of net f.loc) link to v e) in
      let back = in_from (directed_links net) (back_of link) (way_back net link present) in
      (all_in _ (directed_links net) (back_of link) lawful.ends back).0
