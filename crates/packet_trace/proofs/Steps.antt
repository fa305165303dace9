-- From what is seen of a step to the machine's step.
use Rattle.std.proofs.Common.{◌≡◌, ◌≢◌, ℕ, ◌≤◌, Bool, true, false, cond, nat_lt, List, length, Option, None, Some, slice_get, find, option_map, inl, inr, ◌⊎◌, refl, sym, ◌∙◌, ap, subst, arith}
use Rattle.std.specs.List.{position, position_or_len}
use Rattle.std.proofs.lemmas.List.Folds.{find_at}
use Rattle.std.proofs.lemmas.Option.{slice_get_past}
use Rattle.merlin_model.specs.declared.network.LocationKind.TheVariants.{Middlebox}
use Rattle.merlin_model.specs.declared.network.Place.{Place}
use Rattle.merlin_model.specs.declared.network.Place.TheVariants as place
use Rattle.merlin_model.specs.declared.network.DirectedLink.{DirectedLink}
use Rattle.merlin_model.specs.declared.config.Process.{Process}
use Rattle.merlin_model.specs.declared.config.Config.{Config}
use Rattle.merlin_model.specs.Networks.{Network, kind_of}
use Rattle.merlin_model.specs.Machine.{Frame, Visit, Forwards, Stops, next, next_at, at_middlebox, acting_process, send_over, link_at, queue_of}
use Rattle.merlin_model.specs.Machine as machine
use Rattle.topology.specs.Look.{place_at, place_of_kind}
use Rattle.packet_trace.specs.declared.moves.Move.{Move}
use Rattle.packet_trace.specs.declared.moves.Move.TheVariants.{Drops}
use Rattle.packet_trace.specs.Processes.{is_process_for}
use Rattle.packet_trace.specs.Steps.{seen, plainly, functions_of_line, visit_of, IsMove}
use Rattle.packet_trace.proofs.Plain.{plain_next}

-- the first element that passes stands at the first place that does
pub found_at : {X : Type 0} (p : X → Bool) (xs : List X) (place : ℕ) → position p xs ≡ Some place → find p xs ≡ slice_get xs place
found_at p xs place e = find_at p xs ∙ by (nat_lt (position_or_len p xs) (length xs)) e
  where
    by : (b : Bool) → cond b (Some (position_or_len p xs)) None ≡ Some place → slice_get xs (position_or_len p xs) ≡ slice_get xs place
    by true e = ap (slice_get xs) cc
    by false e = cc

pub found_nowhere : {X : Type 0} (p : X → Bool) (xs : List X) → position p xs ≡ None → find p xs ≡ None
found_nowhere p xs e = find_at p xs ∙ by (nat_lt (position_or_len p xs) (length xs)) refl e
  where
    by : (b : Bool) → nat_lt (position_or_len p xs) (length xs) ≡ b → cond b (Some (position_or_len p xs)) None ≡ None → slice_get xs (position_or_len p xs) ≡ None
    by true within e = cc
    by false within e =
        let past : length xs ≤ position_or_len p xs = grind arith in
        slice_get_past xs (position_or_len p xs) past

-- where a host or a switch stands, no middlebox does
pub away_from : (net : Network) (loc : ℕ) (found : Place) → place_at net loc ≡ Some found → (found ≡ place.Host) ⊎ (found ≡ place.Switch) → kind_of net loc ≢ Some Middlebox
away_from net loc found e other is = by other (sym (ap (option_map place_of_kind) is) ∙ e)
  where
    by : (found ≡ place.Host) ⊎ (found ≡ place.Switch) → Some place.Middlebox ≡ Some found → ⊥
    by (inl host) e = cc
    by (inr switch) e = cc

module _ (net : Network) (config : Config) (f : Frame) where
  -- a step where no middlebox stands
  pub plain_move : (move : Move) → kind_of net f.loc ≢ Some Middlebox → move ≡ seen None (next net config f) → IsMove net config f move
  plain_move move away e = by (next net config f) refl e
    where
      by : (x : machine.Next) → next net config f ≡ x → move ≡ seen None x → IsMove net config f move
      by (Forwards link tag v) is e =
          let plain = plain_next net f config (kind_of net f.loc) link tag v away is in
          let same : v ≡ visit_of config f.loc (plainly v.queue v.class) = λ i. record { loc = plain.0 i; functions = plain.1 i; queue = v.queue; class = v.class } in
          subst (IsMove net config f) (sym e) (link, is ∙ ap (Forwards link tag) same, refl, refl)
      by (Stops (machine.Delivered host packet)) is e = subst (IsMove net config f) (sym e) is
      by (Stops (machine.Dropped loc)) is e = subst (IsMove net config f) (sym e) is

  module _ (middlebox : kind_of net f.loc ≡ Some Middlebox) where
    acts : (o : Option Process) → acting_process config.processes f ≡ o → next net config f ≡ at_middlebox net f o
    acts o e = ap (next_at net config f) middlebox ∙ ap (at_middlebox net f) e

    -- a step where no `process` line is for the frame
    pub no_line : position (is_process_for f.loc f.tag f.packet.eth_dst) config.processes ≡ None → IsMove net config f (Drops f.loc)
    no_line e = acts None (found_nowhere _ config.processes e)

    -- a step by the `process` line at a place
    pub line_move : (place : ℕ) (line : Process) (move : Move) → position (is_process_for f.loc f.tag f.packet.eth_dst) config.processes ≡ Some place →
        slice_get config.processes place ≡ Some line → move ≡ seen (Some place) (at_middlebox net f (Some line)) → IsMove net config f move
    line_move place line move e stands is = by (link_at net f.loc line.port) refl is
      where
        left : Visit
        left = record { loc = f.loc; functions = line.functions; queue = queue_of line.queue; class = None }

        sends : (o : Option DirectedLink) → link_at net f.loc line.port ≡ o → next net config f ≡ send_over f.loc o (Some line.next_tag) left
        sends o at = acts (Some line) (found_at _ config.processes place e ∙ stands) ∙ ap (λ (x : Option DirectedLink). send_over f.loc x (Some line.next_tag) left) at

        by : (o : Option DirectedLink) → link_at net f.loc line.port ≡ o → move ≡ seen (Some place) (send_over f.loc o (Some line.next_tag) left) → IsMove net config f move
        by None at is = subst (IsMove net config f) (sym is) (sends None at)
        by (Some link) at is =
            let functions : line.functions ≡ functions_of_line (slice_get config.processes place) = sym (ap functions_of_line stands) in
            let same = sends (Some link) at ∙ ap (λ fs. Forwards link (Some line.next_tag) (record { loc = f.loc; functions = fs; queue = queue_of line.queue; class = None })) functions in
            subst (IsMove net config f) (sym is) (link, same, refl, refl)
