-- What the command `trace` replies.
use Rattle.std.proofs.Common.{◌≡◌, ◌<◌, ℕ, List, [], ◌∷◌, ◌++◌, map, length, get_or, refl, sym, ◌∙◌, ap, subst, arith, Result, Ok, Err, IfOk, option_map, unwrap_or}
use Rattle.std.specs.Prelude.{false, true, Option, Some, None, slice_get, IsSome}
use Rattle.std.specs.String.{string_bytes}
use Rattle.std.specs.declared.string.String.{String}
use Rattle.std.specs.declared.alloc.Global.{Global}
use Rattle.std.proofs.lemmas.Option.{slice_get_within}
use Rattle.merlin_model.specs.declared.config.Config.{Config}
use Rattle.merlin_model.specs.Packets.{Packet}
use Rattle.merlin_model.specs.Networks.{Network, IsNetwork, IsHost, address_of}
use Rattle.merlin_model.specs.Functions.{Behaviour}
use Rattle.merlin_model.specs.Machine.{Frame, start}
use Rattle.merlin_model.specs.Machine as machine
use Rattle.config_read.specs.declared.result.ResultText.{ResultText}
use Rattle.config_read.proofs.OneWords.{one_named, location_names_differ}
use Rattle.packet_model.specs.Texts.{IsPacketText}
use Rattle.packet_trace.specs.declared.trace.End.{End}
use Rattle.packet_trace.specs.declared.trace.End.TheVariants.{Delivered, Dropped, StillRunning}
use Rattle.packet_trace.specs.declared.trace.Trace.{Trace}
use Rattle.packet_trace.specs.declared.trace.Visit.{Visit}
use Rattle.packet_trace.specs.Trace.{record_of, IsRunBy, IsTrace, IsTraceOf}
use Rattle.merlin.specs.Words.{word_texts}
use Rattle.merlin.specs.declared.trace.TraceReply.{TraceReply}
use Rattle.merlin.specs.declared.trace.TraceReply.TheVariants as replies
use Rattle.merlin.specs.Inputs.{AreNetworkAndResult, BearsName}
use Rattle.merlin.specs.Trace.{TraceForm, IsHostNamed, visit_line, last_told, run_lines, Traces}
use Rattle.merlin.specs.Tracing.{IsEndedWith, HasLines, TellsEnd, TellsTrace, TellsRun}

-- Five words.

five : {A : Type 0} (ws : List A) (a b c d f : A) → length ws ≡ 5 → a ≡ get_or ws 0 a → b ≡ get_or ws 1 b
    → c ≡ get_or ws 2 c → d ≡ get_or ws 3 d → f ≡ get_or ws 4 f → ws ≡ a ∷ b ∷ c ∷ d ∷ f ∷ []
five [] a b c d f long p q r s t = absurd (omega (arith, long))
five (w ∷ []) a b c d f long p q r s t = absurd (omega (arith, long))
five (w ∷ x ∷ []) a b c d f long p q r s t = absurd (omega (arith, long))
five (w ∷ x ∷ y ∷ []) a b c d f long p q r s t = absurd (omega (arith, long))
five (w ∷ x ∷ y ∷ z ∷ []) a b c d f long p q r s t = absurd (omega (arith, long))
five (w ∷ x ∷ y ∷ z ∷ v ∷ []) a b c d f long p q r s t = rw (p, q, r, s, t)
five (w ∷ x ∷ y ∷ z ∷ v ∷ u ∷ ws) a b c d f long p q r s t = absurd (omega (arith, long))

pub texts_of_five : (ws : List (String Global)) (a b c d f : String Global) → length ws ≡ 5
    → a ≡ get_or ws 0 a → b ≡ get_or ws 1 b → c ≡ get_or ws 2 c → d ≡ get_or ws 3 d → f ≡ get_or ws 4 f
    → word_texts ws ≡ string_bytes a ∷ string_bytes b ∷ string_bytes c ∷ string_bytes d ∷ string_bytes f ∷ []
texts_of_five ws a b c d f long p q r s t = ap word_texts (five ws a b c d f long p q r s t)

-- Names of locations.

pub location_within : (net : Network) (name : List ℕ) (loc : ℕ) → BearsName net name loc → loc < length net.locations
location_within net name loc bears = by (slice_get net.locations loc) refl bears
  where
    by : (o : Option _) → slice_get net.locations loc ≡ o → option_map (λ l. l.name) o ≡ Some name → loc < length net.locations
    by None e h = absurd (let no_way : ◌≡◌ {A = Option (List ℕ)} None (Some name) → ⊥ = λ k. cc in no_way h)
    by (Some l) e h = slice_get_within net.locations loc l e

pub one_bearer : (net : Network) (name : List ℕ) (a b : ℕ) → IsNetwork net → BearsName net name a → BearsName net name b → a ≡ b
one_bearer net name a b is f g =
    one_named (λ l. l.name) net.locations a b (location_names_differ net is) (location_within net name a f) (location_within net name b g) (ap (λ o. unwrap_or o []) (f ∙ sym g))

unlike : {A : Type 0} → false ≡ true → A
unlike e = cc

pub no_host : (net : Network) (name : List ℕ) (loc : ℕ) → IsNetwork net → BearsName net name loc → address_of net loc ≡ None → (host : ℕ) → ¬ IsHostNamed net name host
no_host net name loc is bears none host named = unlike (subst IsSome (ap (address_of net) (one_bearer net name host loc is named.0 bears) ∙ none) named.1)

-- From a trace to what it tells of the run.

module _ (net : Network) (config : Config) (behaviour : Behaviour) (f : Frame) where
  of_lines : (visits : List machine.Visit) (end : machine.End) (reply : TraceReply) → IsRunBy net config behaviour f 65535 visits end
      → HasLines net visits end reply → TellsRun net config behaviour f reply
  of_lines visits end (replies.BadTopology fault) is h = h
  of_lines visits end (replies.BadResult at) is h = h
  of_lines visits end (replies.UnknownHost name) is h = h
  of_lines visits end (replies.BadPacket at) is h = h
  of_lines visits end (replies.Ended lines) is h =
      record { visits = visits; end = end; runs = is.run; few = (let l = is.few in omega arith); written = h }
  of_lines visits end replies.StillRunning is h = absurd h

  of_end : (visits : List Visit) (end : End) (reply : TraceReply) → IsTraceOf net config behaviour f visits end
      → TellsEnd net (map record_of visits) end reply → TellsRun net config behaviour f reply
  of_end visits (Delivered host packet) reply is h = of_lines (map record_of visits) (machine.Delivered host packet) reply is h
  of_end visits (Dropped loc) reply is h = of_lines (map record_of visits) (machine.Dropped loc) reply is h
  of_end visits StillRunning reply is h = subst (TellsRun net config behaviour f) (sym h) is.1

  pub TellsRun-from_trace : {E : Type 0} (trace : Trace) (result : Result TraceReply E) → IsTrace net config behaviour f trace
      → IfOk result (TellsTrace net trace) → IfOk result (TellsRun net config behaviour f)
  TellsRun-from_trace trace (Ok reply) is h = of_end trace.visits trace.end reply is h
  TellsRun-from_trace trace (Err e) is h = tt

pub TellsTrace-delivered : {E : Type 0} (net : Network) (trace : Trace) (host : ℕ) (packet : Packet) (end : List ℕ) (result : Result TraceReply E)
    → trace.end ≡ Delivered host packet → end ≡ last_told net (machine.Delivered host packet)
    → IfOk result (IsEndedWith (map (visit_line net) (map record_of trace.visits) ++ end ∷ [])) → IfOk result (TellsTrace net trace)
TellsTrace-delivered net trace host packet end result is same h =
    subst (λ k. IfOk result (TellsEnd net (map record_of trace.visits) k)) (sym is)
    (subst (λ l. IfOk result (IsEndedWith (map (visit_line net) (map record_of trace.visits) ++ l ∷ []))) same h)

-- From what is told of a run to the reply.
Traces-from_run : (behaviour : Behaviour) (form : TraceForm) (topology bytes : List ℕ) (net : Network) (read : ResultText) (host : ℕ) (packet : Packet) (reply : TraceReply)
    → AreNetworkAndResult topology bytes net read → IsHostNamed net form.host host → IsPacketText form.packet packet
    → TellsRun net read.config behaviour (start host packet) reply → Traces behaviour form topology bytes reply
Traces-from_run behaviour form topology bytes net read host packet (replies.BadTopology fault) texts is p h = absurd h
Traces-from_run behaviour form topology bytes net read host packet (replies.BadResult at) texts is p h = absurd h
Traces-from_run behaviour form topology bytes net read host packet (replies.UnknownHost name) texts is p h = absurd h
Traces-from_run behaviour form topology bytes net read host packet (replies.BadPacket at) texts is p h = absurd h
Traces-from_run behaviour form topology bytes net read host packet (replies.Ended lines) texts is p h =
    record { of = record { net = net; read = read; texts = texts; host = host; is_host = is; packet = packet; is_packet = p }; tells = h }
Traces-from_run behaviour form topology bytes net read host packet replies.StillRunning texts is p h =
    record { of = record { net = net; read = read; texts = texts; host = host; is_host = is; packet = packet; is_packet = p }; hops = h }

pub IfOk-from_run : {E : Type 0} (behaviour : Behaviour) (form : TraceForm) (topology bytes : List ℕ) (net : Network) (read : ResultText) (host : ℕ) (packet : Packet) (result : Result TraceReply E)
    → AreNetworkAndResult topology bytes net read → IsHostNamed net form.host host → IsPacketText form.packet packet
    → IfOk result (TellsRun net read.config behaviour (start host packet)) → IfOk result (Traces behaviour form topology bytes)
IfOk-from_run behaviour form topology bytes net read host packet (Ok reply) texts is p h = Traces-from_run behaviour form topology bytes net read host packet reply texts is p h
IfOk-from_run behaviour form topology bytes net read host packet (Err e) texts is p h = tt
