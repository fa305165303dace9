-- Where no middlebox stands no function runs.
use Rattle.std.proofs.Common.{◌≡◌, ◌≢◌, ℕ, ◌==◌, Bool, true, false, cond, List, [], ◌∷◌, Option, None, Some, refl, subst}
use Rattle.merlin_model.specs.declared.network.LocationKind.{LocationKind}
use Rattle.merlin_model.specs.declared.network.LocationKind.TheVariants.{Host, Switch, Middlebox}
use Rattle.merlin_model.specs.declared.network.DirectedLink.{DirectedLink}
use Rattle.merlin_model.specs.declared.config.Action.{Action}
use Rattle.merlin_model.specs.declared.config.Action.TheVariants.{SetVlan, StripVlan, Output, Enqueue}
use Rattle.merlin_model.specs.declared.config.Rule.{Rule}
use Rattle.merlin_model.specs.declared.config.Config.{Config}
use Rattle.merlin_model.specs.Networks.{Network}
use Rattle.merlin_model.specs.Machine.{Frame, Visit, Forwards, Stops, Dropped, next_at, from_host, arrived_at, at_switch, acting_rule, act, send_over, uplink_of, link_to, is_dropped_by}

-- what is recorded of a frame that is sent is what was to be recorded
sent_over : (loc : ℕ) (o : Option DirectedLink) (tag : Option ℕ) (visit : Visit) (link : DirectedLink) (to : Option ℕ) (v : Visit) → send_over loc o tag visit ≡ Forwards link to v → visit ≡ v
sent_over loc None tag visit link to v e = cc
sent_over loc (Some w) tag visit link to v e = cc

module _ (net : Network) (f : Frame) where
  -- the record is of the frame's location, and of no function
  abbrev pub IsPlain : Visit → Type 0
  IsPlain v = (v.loc ≡ f.loc) × (v.functions ≡ [])

  plain_sent : (o : Option DirectedLink) (tag : Option ℕ) (visit : Visit) (link : DirectedLink) (to : Option ℕ) (v : Visit) → IsPlain visit → send_over f.loc o tag visit ≡ Forwards link to v → IsPlain v
  plain_sent o tag visit link to v plain e = subst IsPlain (sent_over f.loc o tag visit link to v e) plain

  plain_act : (tag : Option ℕ) (actions : List Action) (link : DirectedLink) (to : Option ℕ) (v : Visit) → act net f tag actions ≡ Forwards link to v → IsPlain v
  plain_act tag [] link to v e = cc
  plain_act tag (SetVlan n ∷ actions) link to v e = plain_act (Some n) actions link to v e
  plain_act tag (StripVlan ∷ actions) link to v e = plain_act None actions link to v e
  plain_act tag (Output out ∷ actions) link to v e = plain_sent (link_to net f out) tag _ link to v (refl, refl) e
  plain_act tag (Enqueue out queue ∷ actions) link to v e = plain_sent (link_to net f out) tag _ link to v (refl, refl) e

  plain_switch : (o : Option Rule) (link : DirectedLink) (to : Option ℕ) (v : Visit) → at_switch net f o ≡ Forwards link to v → IsPlain v
  plain_switch None link to v e = cc
  plain_switch (Some rule) link to v e = plain_act f.tag rule.actions link to v e

  plain_arrived : (tag : Option ℕ) (link : DirectedLink) (to : Option ℕ) (v : Visit) → arrived_at f.loc tag f.packet ≡ Forwards link to v → IsPlain v
  plain_arrived None link to v e = cc
  plain_arrived (Some tag) link to v e = cc

  -- so it is of each frame that no middlebox sends
  pub plain_next : (config : Config) (o : Option LocationKind) (link : DirectedLink) (to : Option ℕ) (v : Visit) → o ≢ Some Middlebox → next_at net config f o ≡ Forwards link to v → IsPlain v
  plain_next config None link to v away e = cc
  plain_next config (Some Switch) link to v away e = plain_switch (acting_rule config.rules f) link to v e
  plain_next config (Some Middlebox) link to v away e = absurd (away refl)
  plain_next config (Some (Host address)) link to v away e = by (f.port == 0) e
    where
      started : (b : Bool) (visit : Visit) → IsPlain visit → cond b (Stops (Dropped f.loc)) (send_over f.loc (uplink_of net f.loc) None visit) ≡ Forwards link to v → IsPlain v
      started true visit plain e = cc
      started false visit plain e = plain_sent (uplink_of net f.loc) None visit link to v plain e

      by : (b : Bool) → cond b (from_host net config.hosts f) (arrived_at f.loc f.tag f.packet) ≡ Forwards link to v → IsPlain v
      by true e = started (is_dropped_by config.hosts f.loc f.packet) _ (refl, refl) e
      by false e = plain_arrived f.tag link to v e
