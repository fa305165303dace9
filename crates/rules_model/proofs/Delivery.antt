-- From any vertex on: a frame that stands there is delivered after the stops of what follows.
use Rattle.std.proofs.Common.{◌≡◌, ◌≢◌, ℕ, zero, suc, ◌<◌, ◌≤◌, ◌==◌, Bool, true, false, cond, List, [], ◌∷◌, ◌++◌, map, length, Contains, Option, None, Some, IsSome, refl, sym, ◌∙◌, ap, ap₂, subst, arith}
use Rattle.std.proofs.lemmas.Bool.{eqb-true}
use Rattle.std.specs.List.{AllByRecursion}
use Rattle.merlin_model.specs.declared.network.HostAddress.{HostAddress}
use Rattle.merlin_model.specs.declared.network.LocationKind.{LocationKind}
use Rattle.merlin_model.specs.declared.network.LocationKind.TheVariants.{Host, Switch, Middlebox}
use Rattle.merlin_model.specs.declared.config.Config.{Config}
use Rattle.merlin_model.specs.Packets.{Packet}
use Rattle.merlin_model.specs.Networks.{Network, kind_of, IsHost, address_at, address_of}
use Rattle.merlin_model.specs.Words.{Stop, functions_of, visits}
use Rattle.merlin_model.specs.Machine.{Forwards, Frame, Visit, End, Delivered, Stops, from_host, arrived_at, next_at, next, MayBecome, RunsWithin}
use Rattle.merlin_model.specs.Headline.{stop_of, stop_at}
use Rattle.merlin_model.specs.Tests.{arrival}
use Rattle.merlin_model.proofs.Traces.{Some-inj, within-stop, within-hop, within-more}
use Rattle.rules_model.specs.Products.{queue_in, word_to, Vertex, loc_of}
use Rattle.rules_model.specs.Tables.{functions_here, onward, Hop, HasTag, IsTagOn, onward_location, IsHop, TableRow, IsTableRow}
use Rattle.merlin_model.proofs.Members.{in_from}
use Rattle.merlin_model.proofs.DirectedLinks.{port_pos}
use Rattle.rules_model.proofs.Setting.{Setting, routing, After}
use Rattle.rules_model.proofs.Grouping.{stops_from, visits-route}
use Rattle.rules_model.proofs.Steps.{tag-same, hop-at, follows-at, CameFromInside, StandsAt, GoesBy, step}
use Rattle.rules_model.proofs.Absurd.{None-Some, false-true}

-- more hops may be granted
pub within-longer : (net : Network) (config : Config) (m n : ℕ) (f : Frame) (P : List Visit → End → Type 0) → m ≤ n → RunsWithin net config m f P → RunsWithin net config n f P
within-longer net config m n f P le r = record { ends = λ visits g h. let short = r.ends visits g h in omega arith; outcome = r.outcome }

pub keeps_dst : (o : Option LocationKind) (p q : Packet) → MayBecome o p q → q.eth_dst ≡ p.eth_dst
keeps_dst None p q h = ap (λ x. x.eth_dst) h
keeps_dst (Some (Host address)) p q h = ap (λ x. x.eth_dst) h
keeps_dst (Some Switch) p q h = ap (λ x. x.eth_dst) h
keeps_dst (Some Middlebox) p q h = h.1

-- an untagged frame that comes to a host is delivered
pub arrives : (net : Network) (config : Config) (f : Frame) (d : ℕ) → IsHost net d → f.loc ≡ d → 0 < f.port → f.tag ≡ None → next net config f ≡ Stops (Delivered d f.packet)
arrives net config f d host here port untagged = by (kind_of net f.loc) (subst (λ k. IsSome (address_of net k)) (sym here) host)
  where
    by : (o : Option LocationKind) → IsSome (address_at o) → next_at net config f o ≡ Stops (Delivered d f.packet)
    by None h = absurd (false-true h)
    by (Some Switch) h = absurd (false-true h)
    by (Some Middlebox) h = absurd (false-true h)
    by (Some (Host address)) h = by_port (f.port == 0) refl
      where
        by_port : (b : Bool) → (f.port == 0) ≡ b → cond b (from_host net config.hosts f) (arrived_at f.loc f.tag f.packet) ≡ Stops (Delivered d f.packet)
        by_port true e = let zero_port : f.port ≡ 0 = eqb-true f.port 0 e in let no_way : ⊥ = omega arith in absurd no_way
        by_port false e = ap (λ t. arrived_at f.loc t f.packet) untagged ∙ ap (λ k. Stops (Delivered k f.packet)) here

-- each record is through the queue
abbrev pub AreThrough : Option ℕ → List Visit → Type 0
AreThrough q records = AllByRecursion (λ v. v.queue ≡ q) records

abbrev pub IsDelivered : ℕ → Option ℕ → List Stop → List Visit → End → Type 0
IsDelivered d q stops records end = (packet : Packet) × (end ≡ Delivered d packet) × (map stop_of records ++ stop_at d ∷ [] ≡ stops) × AreThrough q records

module _ (setting : Setting) where
  -- the onward vertex stands in the same product, away from hosts, and less follows it
  pub record IsOnward (g d l : ℕ) (us : List Vertex) (next : Vertex × List Vertex) : Type 0 where
    pub followed : After setting g d next.0 next.1
    pub inside : ¬ IsHost setting.net (loc_of next.0)
    pub shorter : length next.1 < length us

  pub onward-is : (g d l : ℕ) (v : Vertex) (us : List Vertex) (next : Vertex × List Vertex) → After setting g d v us → onward l us ≡ Some next → IsOnward g d l us next
  onward-is g d l v [] next h e = absurd (None-Some e)
  onward-is g d l v (u ∷ us) next h e = by (loc_of u == l) e (onward-is g d l u us next ((routing setting).goes_on g d v u us h))
    where
      by : (b : Bool) → cond b (onward l us) (Some (u, us)) ≡ Some next → (onward l us ≡ Some next → IsOnward g d l us next) → IsOnward g d l (u ∷ us) next
      by true e ih = let o = ih e in record { followed = o.followed; inside = o.inside; shorter = let s = o.shorter in omega arith }
      by false e ih = subst (IsOnward g d l (u ∷ us)) (Some-inj e) (record { followed = (routing setting).goes_on g d v u us h; inside = (routing setting).inside g d v u us h; shorter = omega arith })

  -- the frame is at the location of the vertex, under its tag, for host d, and it didn't come from a host
  pub record Stands (f : Frame) (g d : ℕ) (v : Vertex) (us : List Vertex) : Type 0 where
    pub followed : After setting g d v us
    pub outside : ¬ IsHost setting.net (loc_of v)
    pub loc : f.loc ≡ loc_of v
    pub number : ℕ
    pub has_tag : HasTag setting.plan.tags g v number
    pub tag : f.tag ≡ Some number
    pub address : HostAddress
    pub dest : address_of setting.net d ≡ Some address
    pub eth : f.packet.eth_dst ≡ address.eth
    pub came : CameFromInside setting f

  -- a frame that takes the hop of a vertex goes on at the onward vertex, or is delivered
  pub go_on : (n : ℕ) (f : Frame) (g d : ℕ) (v : Vertex) (us : List Vertex) (hop : Hop) (visit : Visit) (address : HostAddress) → After setting g d v us → ¬ IsHost setting.net (loc_of v) →
      IsHop setting.net setting.plan.tags g d v us hop → next setting.net setting.config f ≡ Forwards hop.link hop.tag visit → stop_of visit ≡ record { loc = loc_of v; functions = hop.functions } → visit.queue ≡ queue_in setting.groups g →
      address_of setting.net d ≡ Some address → f.packet.eth_dst ≡ address.eth →
      ((next : Vertex × List Vertex) → onward (loc_of v) us ≡ Some next → (x : Frame) → Stands x g d next.0 next.1 → RunsWithin setting.net setting.config n x (IsDelivered d (queue_in setting.groups g) (visits (next.0.symbol ∷ word_to d next.1)))) →
      RunsWithin setting.net setting.config (suc n) f (IsDelivered d (queue_in setting.groups g) (visits (v.symbol ∷ word_to d us)))
  go_on n f g d v us hop visit address followed outside h goes at_stop through dest eth later =
      within-hop setting.net setting.config n f hop.link hop.tag visit (IsDelivered d (queue_in setting.groups g) (visits (v.symbol ∷ word_to d us))) goes
      (λ q may. on (onward (loc_of v) us) refl q (keeps_dst (kind_of setting.net f.loc) f.packet q may))
    where
      dest_host : IsHost setting.net d
      dest_host = (routing setting).dest g d v us followed

      apart : loc_of v ≢ d
      apart e = outside (subst (IsHost setting.net) (sym e) dest_host)

      -- the record of this hop is the first stop
      stop : stop_of visit ≡ record { loc = loc_of v; functions = functions_of v.symbol ++ functions_here (loc_of v) us }
      stop = at_stop ∙ (λ i. record { loc = loc_of v; functions = h.functions i })

      whole : (rest : List Stop) → rest ≡ stops_from d (onward (loc_of v) us) → stop_of visit ∷ rest ≡ visits (v.symbol ∷ word_to d us)
      whole rest e = ap₂ (λ x xs. x ∷ xs) stop e ∙ sym (visits-route d (loc_of v) v us refl apart)

      on : (o : Option (Vertex × List Vertex)) → onward (loc_of v) us ≡ o → (q : Packet) → q.eth_dst ≡ f.packet.eth_dst →
          RunsWithin setting.net setting.config n (arrival hop.link hop.tag q) (λ records end. IsDelivered d (queue_in setting.groups g) (visits (v.symbol ∷ word_to d us)) (visit ∷ records) end)
      on None e q same =
          within-longer setting.net setting.config 0 n _ _ (omega arith)
          (within-stop setting.net setting.config (arrival hop.link hop.tag q) (Delivered d q) (λ records end. IsDelivered d (queue_in setting.groups g) (visits (v.symbol ∷ word_to d us)) (visit ∷ records) end)
          (arrives setting.net setting.config (arrival hop.link hop.tag q) d dest_host (h.ends ∙ ap (onward_location d) e) (port_pos setting.net setting.network hop.link h.present) (subst (λ o. IsTagOn setting.plan.tags g o hop.tag) e h.tag))
          (q, refl, whole (stop_at d ∷ []) (ap (stops_from d) (sym e)), (through, tt)))
      on (Some next) e q same =
          let o : IsOnward g d (loc_of v) us next = onward-is g d (loc_of v) v us next followed e in
          let t : (n : ℕ) × HasTag setting.plan.tags g next.0 n × (hop.tag ≡ Some n) = subst (λ o. IsTagOn setting.plan.tags g o hop.tag) e h.tag in
          within-more setting.net setting.config n (arrival hop.link hop.tag q) (IsDelivered d (queue_in setting.groups g) (visits (next.0.symbol ∷ word_to d next.1))) (λ records end. IsDelivered d (queue_in setting.groups g) (visits (v.symbol ∷ word_to d us)) (visit ∷ records) end)
          (λ records end p. (p.0, p.1, whole (map stop_of records ++ stop_at d ∷ []) (p.2 ∙ ap (stops_from d) (sym e)), (through, p.3)))
          (later next e (arrival hop.link hop.tag q) (record {
            followed = o.followed;
            outside = o.inside;
            loc = h.ends ∙ ap (onward_location d) e;
            number = t.0;
            has_tag = t.1;
            tag = t.2;
            address = address;
            dest = dest;
            eth = same ∙ eth;
            came = record { link = hop.link; present = h.present; to = refl; port = refl; inner = λ host. outside (subst (IsHost setting.net) h.starts host) };
          }))

  -- one hop on, given what follows at the onward vertex
  hop_on : (n : ℕ) (f : Frame) (g d : ℕ) (v : Vertex) (us : List Vertex) → Stands f g d v us →
      ((next : Vertex × List Vertex) → onward (loc_of v) us ≡ Some next → (x : Frame) → Stands x g d next.0 next.1 → RunsWithin setting.net setting.config n x (IsDelivered d (queue_in setting.groups g) (visits (next.0.symbol ∷ word_to d next.1)))) →
      RunsWithin setting.net setting.config (suc n) f (IsDelivered d (queue_in setting.groups g) (visits (v.symbol ∷ word_to d us)))
  hop_on n f g d v us at later =
      go_on n f g d v us found.0.hop hop.visit at.address at.followed at.outside
      (hop-at setting found.0.group g found.0.dest d found.0.vertex v r.after us found.0.hop found.2 found.3 found.4 after r.hop)
      hop.goes (hop.stop ∙ (λ i. record { loc = loc_of (found.4 i); functions = found.0.hop.functions })) (hop.queue ∙ r.queue ∙ ap (queue_in setting.groups) found.2) at.dest at.eth later
    where
      found : (row : TableRow) × Contains setting.plan.rows row × (row.group ≡ g) × (row.dest ≡ d) × (row.vertex ≡ v)
      found = setting.plan_is.each_row g d v us at.followed at.outside

      r : IsTableRow setting.net setting.groups setting.plan found.0
      r = setting.plan_is.rows_are found.0 found.1

      after : r.after ≡ us
      after = (routing setting).unique g d v r.after us (follows-at setting found.0.group g found.0.dest d found.0.vertex v r.after found.2 found.3 found.4 r.followed) at.followed

      tag_here : HasTag setting.plan.tags g v found.0.tag
      tag_here = subst (λ T. T) (λ i. HasTag setting.plan.tags (found.2 i) (found.4 i) found.0.tag) r.tag

      address-same : at.address ≡ r.address
      address-same = Some-inj (sym at.dest ∙ ap (address_of setting.net) (sym found.3) ∙ r.dest)

      at_row : StandsAt setting f found.0
      at_row = record {
        loc = at.loc ∙ ap loc_of (sym found.4);
        tag = at.tag ∙ ap Some (tag-same setting g v at.number found.0.tag at.has_tag tag_here);
        eth = at.eth ∙ ap (λ a. a.eth) address-same ∙ sym r.eth;
        came = at.came;
      }

      hop : GoesBy setting f found.0
      hop = step setting f found.0 (in_from setting.plan.rows found.0 found.1) at_row

  pub deliver : (n : ℕ) (f : Frame) (g d : ℕ) (v : Vertex) (us : List Vertex) → Stands f g d v us → length us ≤ n →
      RunsWithin setting.net setting.config (suc n) f (IsDelivered d (queue_in setting.groups g) (visits (v.symbol ∷ word_to d us)))
  deliver zero f g d v us at short = hop_on zero f g d v us at (λ next e x st.
      let o : IsOnward g d (loc_of v) us next = onward-is g d (loc_of v) v us next at.followed e in
      let s = o.shorter in
      let none : ⊥ = omega arith in absurd none)
  deliver (suc n) f g d v us at short = hop_on (suc n) f g d v us at (λ next e x st.
      let o : IsOnward g d (loc_of v) us next = onward-is g d (loc_of v) v us next at.followed e in
      let s = o.shorter in
      deliver n x g d next.0 next.1 st (omega arith))
