-- A packet has one trace, where each packet function answers one packet.
use Rattle.std.proofs.Common.{◌≡◌, ◌<◌, ℕ, List, [], ◌∷◌, length, MatchOption, slice_get, refl, sym, ◌∙◌, ap, subst, arith}
use Rattle.std.specs.Prelude.{Option, None, Some}
use Rattle.merlin_base.specs.declared.status.Status.TheVariants as status
use Rattle.merlin_model.specs.declared.network.FnDecl.{FnDecl}
use Rattle.merlin_model.specs.declared.config.Config.{Config}
use Rattle.merlin_model.specs.Packets.{Packet}
use Rattle.merlin_model.specs.Networks.{Network, IsNetwork}
use Rattle.merlin_model.specs.Functions.{answers_of, MayMake, MayMakeInTurn, HopsBy, ReachesBy, RunsBy}
use Rattle.merlin_model.specs.Machine.{Frame, Visit, End, Next, Forwards, Stops, next, start}
use Rattle.merlin_model.proofs.Traces.{Forwards-visit, Forwards-Stops}
use Rattle.packet_model.proofs.ValueTexts.{one_packet, IsFirstWrong-no_packet}
use Rattle.packet_trace.specs.declared.trace.TheConstants.{MAX_HOPS}
use Rattle.packet_trace.specs.Trace.{MakesHopsBy}
use Rattle.config_read.specs.Answers.{IsTextOfResult, IsConfigFault}
use Rattle.config_read.specs.declared.fault.ConfigFault.TheVariants.{BadConfig}
use Rattle.config_read.proofs.OneResult.{result_once}
use Rattle.topology_rules.specs.Faults.{IsTopology, Refuses as IsRefusedTopology}
use Rattle.topology_rules.specs.declared.fault.NetFault.{NetFault}
use Rattle.topology_rules.specs.declared.fault.NetFault.TheVariants as net_faults
use Rattle.merlin.specs.declared.trace.TraceReply.{TraceReply}
use Rattle.merlin.specs.declared.trace.TraceReply.TheVariants as replies
use Rattle.merlin.specs.Inputs.{BearsName}
use Rattle.merlin.specs.Trace.{TraceForm, IsHostNamed, IsTracedFrom, AreLinesOfRun, run_lines, Traces, IsTraceReply, trace_lines, trace_status}
use Rattle.merlin.proofs.Compiling.{of_two}
use Rattle.merlin.proofs.Tracing.{one_bearer}

-- Runs.

module _ (net : Network) (config : Config) (answer : FnDecl → Packet → Packet) where
  made_once : (function : ℕ) (p q r : Packet) → MayMake net (answers_of answer) function p q → MayMake net (answers_of answer) function p r → q ≡ r
  made_once function p q r a b = by (slice_get net.functions function) a b
    where
      by : (o : Option FnDecl) → MatchOption o (q ≡ p) (λ decl. q ≡ answer decl p) → MatchOption o (r ≡ p) (λ decl. r ≡ answer decl p) → q ≡ r
      by None h k = h ∙ sym k
      by (Some decl) h k = h ∙ sym k

  turns_once : (functions : List ℕ) (p q r : Packet) → MayMakeInTurn net (answers_of answer) functions p q → MayMakeInTurn net (answers_of answer) functions p r → q ≡ r
  turns_once [] p q r a b = a ∙ sym b
  turns_once (function ∷ functions) p q r (x, made, later) (y, also, more) =
      turns_once functions x q r later (subst (λ z. MayMakeInTurn net (answers_of answer) functions z r) (made_once function p y x also made) more)

  hop_once : (f : Frame) (v w : Visit) (g h : Frame) → HopsBy net config (answers_of answer) f v g → HopsBy net config (answers_of answer) f w h → (v ≡ w) × (g ≡ h)
  hop_once f v w g h a b =
      let same : Forwards a.link g.tag v ≡ Forwards b.link h.tag w = sym a.goes ∙ b.goes in
      let visits : v ≡ w = Forwards-visit same in
      let links : a.link ≡ b.link = cc in
      let tags : g.tag ≡ h.tag = cc in
      let packets : g.packet ≡ h.packet = turns_once v.functions f.packet g.packet h.packet a.packet (subst (λ x. MayMakeInTurn net (answers_of answer) x.functions f.packet h.packet) (sym visits) b.packet) in
      let locs : g.loc ≡ h.loc = a.loc ∙ ap (λ l. l.to) links ∙ sym b.loc in
      let ports : g.port ≡ h.port = a.port ∙ ap (λ l. l.in_port) links ∙ sym b.port in
      (visits, (λ i. record { loc = locs i; port = ports i; tag = tags i; packet = packets i }))

  -- no frame both stops and hops on
  no_hop : (f g h : Frame) (end : End) (visit : Visit) → g ≡ f → next net config g ≡ Stops end → HopsBy net config (answers_of answer) f visit h → ⊥
  no_hop f g h end visit e stops hop = Forwards-Stops (sym hop.goes ∙ ap (next net config) (sym e) ∙ stops)

  ends_same : (f g h : Frame) (end other : End) → g ≡ f → h ≡ f → next net config g ≡ Stops end → next net config h ≡ Stops other → end ≡ other
  ends_same f g h end other e k stops halts =
      let same : Stops end ≡ Stops other = sym stops ∙ ap (next net config) (e ∙ sym k) ∙ halts in cc

  reaches_once : (f g h : Frame) (visits others : List Visit) (end other : End) → ReachesBy net config (answers_of answer) f visits g → next net config g ≡ Stops end
      → ReachesBy net config (answers_of answer) f others h → next net config h ≡ Stops other → (visits ≡ others) × (end ≡ other)
  reaches_once f g h [] [] end other a stops b halts = (refl, ends_same f g h end other a b stops halts)
  reaches_once f g h [] (w ∷ ws) end other a stops (x, hop, later) halts = absurd (no_hop f g x end w a stops hop)
  reaches_once f g h (v ∷ vs) [] end other (x, hop, later) stops b halts = absurd (no_hop f h x other v b halts hop)
  reaches_once f g h (v ∷ vs) (w ∷ ws) end other (x, hop, later) stops (y, jump, more) halts =
      let one = hop_once f v w x y hop jump in
      let rest = reaches_once x g h vs ws end other later stops (subst (λ z. ReachesBy net config (answers_of answer) z ws h) (sym one.1) more) halts in
      ((λ i. one.0 i ∷ rest.0 i), rest.1)

  -- a run that comes to its end has no more hops
  none_past : (f g h : Frame) (visits others : List Visit) (end : End) → ReachesBy net config (answers_of answer) f visits g → next net config g ≡ Stops end
      → ReachesBy net config (answers_of answer) f others h → length visits < length others → ⊥
  none_past f g h visits [] end a stops b short = omega arith
  none_past f g h [] (w ∷ ws) end a stops (x, hop, later) short = no_hop f g x end w a stops hop
  none_past f g h (v ∷ vs) (w ∷ ws) end (x, hop, later) stops (y, jump, more) short =
      let one = hop_once f v w x y hop jump in
      none_past x g h vs ws end later stops (subst (λ z. ReachesBy net config (answers_of answer) z ws h) (sym one.1) more) (omega arith)

  no_more_hops : (f : Frame) (visits : List Visit) (end : End) → RunsBy net config (answers_of answer) f visits end → length visits < MAX_HOPS → MakesHopsBy net config (answers_of answer) f MAX_HOPS → ⊥
  no_more_hops f visits end runs few many = none_past f runs.last many.last visits many.visits end runs.hops runs.stops many.reaches (let m = many.many in omega arith)

-- Texts and words.

-- A topology stands for one network, and a text that stands for one is not refused.
pub record KnownNetworks : Type 0 where
  pub one : (bytes : List ℕ) (net other : Network) → IsTopology bytes net → IsTopology bytes other
      → net ≡ other
  pub apart : (bytes : List ℕ) (net : Network) (cause : NetFault) → IsTopology bytes net
      → IsRefusedTopology cause bytes → cause ≡ net_faults.OutOfMemory

module _ (known : KnownNetworks) (lawful : (bytes : List ℕ) (net : Network) → IsTopology bytes net → IsNetwork net) (form : TraceForm) (topology result : List ℕ) where
  -- what holds of one reading holds of another
  of_traced : (P : Network → Config → Frame → Type 0) (a b : IsTracedFrom form topology result) → P b.net b.read.config (start b.host b.packet) → P a.net a.read.config (start a.host a.packet)
  of_traced P a b holds =
      let nets : b.net ≡ a.net = known.one topology b.net a.net b.texts.is_network a.texts.is_network in
      let reads : b.read ≡ a.read = result_once a.net (lawful topology a.net a.texts.is_network) result b.read a.read (subst (λ n. IsTextOfResult n result b.read) nets b.texts.is_result) a.texts.is_result in
      let hosts : b.host ≡ a.host = one_bearer a.net form.host b.host a.host (lawful topology a.net a.texts.is_network) (subst (λ n. BearsName n form.host b.host) nets b.is_host.0) a.is_host.0 in
      let packets : b.packet ≡ a.packet = one_packet form.packet b.packet a.packet b.is_packet a.is_packet in
      subst (λ n. P n a.read.config (start a.host a.packet)) nets (subst (λ r. P b.net r.config (start a.host a.packet)) reads
      (subst (λ h. P b.net b.read.config (start h a.packet)) hosts (subst (λ p. P b.net b.read.config (start b.host p)) packets holds)))

  module _ (of : IsTracedFrom form topology result) (answer : FnDecl → Packet → Packet) where
    not_topology : (A : Type 0) (fault : _) → Traces (answers_of answer) form topology result (replies.BadTopology fault) → A
    not_topology A fault h = absurd (h.0 (known.apart topology of.net fault of.texts.is_network h.1))

    not_result : (A : Type 0) (at : ℕ) → Traces (answers_of answer) form topology result (replies.BadResult at) → A
    not_result A at h =
        let nets : h.net ≡ of.net = known.one topology h.net of.net h.is_network of.texts.is_network in
        let wrong : IsConfigFault of.net result (BadConfig at) = subst (λ n. IsConfigFault n result (BadConfig at)) nets h.wrong in
        absurd (wrong.none (of.read, of.texts.is_result.tree) of.texts.is_result.is of.texts.is_result.text)

    not_host : (A : Type 0) (name : _) → Traces (answers_of answer) form topology result (replies.UnknownHost name) → A
    not_host A name h =
        let nets : of.net ≡ h.net = known.one topology of.net h.net of.texts.is_network h.texts.is_network in
        absurd (h.none of.host (subst (λ n. IsHostNamed n form.host of.host) nets of.is_host))

    not_packet : (A : Type 0) (at : ℕ) → Traces (answers_of answer) form topology result (replies.BadPacket at) → A
    not_packet A at h = absurd (IsFirstWrong-no_packet form.packet at of.packet h.wrong of.is_packet)

    pub Traces-ended : (visits : List Visit) (end : End) → RunsBy of.net of.read.config (answers_of answer) (start of.host of.packet) visits end → length visits < MAX_HOPS
        → (reply : TraceReply) → Traces (answers_of answer) form topology result reply → (trace_status reply ≡ status.Done) × (trace_lines reply ≡ run_lines of.net visits end)
    Traces-ended visits end runs few (replies.BadTopology fault) h = not_topology _ fault h
    Traces-ended visits end runs few (replies.BadResult at) h = not_result _ at h
    Traces-ended visits end runs few (replies.UnknownHost name) h = not_host _ name h
    Traces-ended visits end runs few (replies.BadPacket at) h = not_packet _ at h
    Traces-ended visits end runs few (replies.Ended lines) h =
        let tells : AreLinesOfRun of.net of.read.config (answers_of answer) (start of.host of.packet) lines.items =
        of_traced (λ n c f. AreLinesOfRun n c (answers_of answer) f lines.items) of h.of h.tells in
        let one = reaches_once of.net of.read.config answer (start of.host of.packet) tells.runs.last runs.last tells.visits visits tells.end end tells.runs.hops tells.runs.stops runs.hops runs.stops in
        (refl, tells.written ∙ (λ i. run_lines of.net (one.0 i) (one.1 i)))
    Traces-ended visits end runs few replies.StillRunning h =
        absurd (no_more_hops of.net of.read.config answer (start of.host of.packet) visits end runs few (of_traced (λ n c f. MakesHopsBy n c (answers_of answer) f MAX_HOPS) of h.of h.hops))

    pub Traces-endless : MakesHopsBy of.net of.read.config (answers_of answer) (start of.host of.packet) MAX_HOPS
        → (reply : TraceReply) → Traces (answers_of answer) form topology result reply → reply ≡ replies.StillRunning
    Traces-endless many (replies.BadTopology fault) h = not_topology _ fault h
    Traces-endless many (replies.BadResult at) h = not_result _ at h
    Traces-endless many (replies.UnknownHost name) h = not_host _ name h
    Traces-endless many (replies.BadPacket at) h = not_packet _ at h
    Traces-endless many (replies.Ended lines) h =
        let tells : AreLinesOfRun of.net of.read.config (answers_of answer) (start of.host of.packet) lines.items =
        of_traced (λ n c f. AreLinesOfRun n c (answers_of answer) f lines.items) of h.of h.tells in
        absurd (no_more_hops of.net of.read.config answer (start of.host of.packet) tells.visits tells.end tells.runs tells.few many)
    Traces-endless many replies.StillRunning h = refl

  module _ (answer : FnDecl → Packet → Packet) where
    against_refused : (s : TraceReply) → trace_status s ≡ status.Refused → Traces (answers_of answer) form topology result s
        → (r : TraceReply) → Traces (answers_of answer) form topology result r → trace_status s ≡ trace_status r
    against_refused s e k (replies.BadTopology fault) h = e
    against_refused s e k (replies.BadResult at) h = e
    against_refused s e k (replies.UnknownHost name) h = e
    against_refused s e k (replies.BadPacket at) h = e
    against_refused s e k (replies.Ended lines) h = (Traces-ended h.of answer h.tells.visits h.tells.end h.tells.runs h.tells.few s k).0
    against_refused s e k replies.StillRunning h = ap trace_status (Traces-endless h.of answer h.hops s k)

    Traces-one : (r s : TraceReply) → Traces (answers_of answer) form topology result r → Traces (answers_of answer) form topology result s → trace_status s ≡ trace_status r
    Traces-one r (replies.BadTopology fault) h k = against_refused (replies.BadTopology fault) refl k r h
    Traces-one r (replies.BadResult at) h k = against_refused (replies.BadResult at) refl k r h
    Traces-one r (replies.UnknownHost name) h k = against_refused (replies.UnknownHost name) refl k r h
    Traces-one r (replies.BadPacket at) h k = against_refused (replies.BadPacket at) refl k r h
    Traces-one r (replies.Ended lines) h k = sym (Traces-ended k.of answer k.tells.visits k.tells.end k.tells.runs k.tells.few r h).0
    Traces-one r replies.StillRunning h k = ap trace_status (sym (Traces-endless k.of answer k.hops r h))

pub IsTraceReply-traces : (answer : FnDecl → Packet → Packet) (form : TraceForm) (t b : List ℕ) (r : TraceReply) → IsTraceReply (answers_of answer) form (t ∷ b ∷ []) r → Traces (answers_of answer) form t b r
IsTraceReply-traces answer form t b r (x, y, e, h) = of_two (λ u v. Traces (answers_of answer) form u v r) (t ∷ b ∷ []) t b x y refl e h

pub IsTraceReply-one : KnownNetworks → ((bytes : List ℕ) (net : Network) → IsTopology bytes net → IsNetwork net) → (answer : FnDecl → Packet → Packet) (form : TraceForm) (contents : List (List ℕ)) (r s : TraceReply)
    → IsTraceReply (answers_of answer) form contents r → IsTraceReply (answers_of answer) form contents s → trace_status s ≡ trace_status r
IsTraceReply-one known lawful answer form contents r s (t, b, e, h) (x, y, e', k) =
    Traces-one known lawful form t b answer r s h (of_two (λ u v. Traces (answers_of answer) form u v s) contents t b x y e e' k)
