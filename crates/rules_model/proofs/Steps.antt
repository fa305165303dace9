-- One step: a frame at the location of a vertex, under its tag, goes over the hop's directed link.
use Rattle.std.proofs.Common.{◌≡◌, ◌≢◌, ℕ, suc, ◌<◌, ◌==◌, ◌⊎◌, inl, inr, Bool, true, false, cond, ◌&&◌, List, [], ◌∷◌, ◌++◌, Contains, Option, None, Some, IsSome, is_some, not, MatchOption, option_map, option_to_list, unwrap_or, slice_get, refl, sym, ◌∙◌, ap, ap₂, subst, arith}
use Rattle.std.proofs.lemmas.Bool.{eqb-true, eq-eqb}
use Rattle.std.proofs.lemmas.Option.{slice_get_within, get_or_from_slice_get}
use Rattle.std.specs.Bool.{⊤}
use Rattle.std.specs.List.{AllByRecursion}
use Rattle.merlin_model.specs.declared.network.LocationKind.{LocationKind}
use Rattle.merlin_model.specs.declared.network.LocationKind.TheVariants.{Host, Switch, Middlebox}
use Rattle.merlin_model.specs.declared.network.FnDecl.{FnDecl}
use Rattle.merlin_model.specs.declared.policy.Symbol.{Symbol}
use Rattle.merlin_model.specs.declared.config.Out.{Out}
use Rattle.merlin_model.specs.declared.config.Out.TheVariants.{InPort, Port}
use Rattle.merlin_model.specs.declared.config.Action.{Action}
use Rattle.merlin_model.specs.declared.config.Vlan.TheVariants.{Tag}
use Rattle.merlin_model.specs.declared.config.Rule.{Rule}
use Rattle.merlin_model.specs.declared.config.Process.{Process}
use Rattle.merlin_model.specs.declared.network.DirectedLink.{DirectedLink}
use Rattle.merlin_model.specs.Networks.{Network, places_of, kind_of, back_of, IsHost, IsMiddlebox, address_at, directed_links, links_from, IsNetwork}
use Rattle.merlin_model.specs.Words.{functions_of, IsSymbol}
use Rattle.merlin_model.specs.Machine.{Fits, Frame, Visit, Forwards, agrees, tag_is, is_for, acting_rule, acting_process, link_at, link_to, send_over, act, at_switch, at_middlebox, queue_of, next_at, next}
use Rattle.merlin_model.specs.Headline.{stop_of}
use Rattle.rules_model.specs.declared.priorities.TheConstants.{TAG_PRIORITY, BACK_PRIORITY}
use Rattle.rules_model.specs.Products.{queue_in, Vertex, loc_of}
use Rattle.rules_model.specs.Tables.{functions_here, onward, tag_key_of, Hop, HasTag, IsTagOn, onward_location, IsHop, TableRow, IngressEntry, match_anything, send_through, relabel, tag_rule, back_rule, cell_rule, rules_by_tag, process_of, table_rules, table_processes, IsTableRow}
use Rattle.merlin_model.proofs.Members.{In, in_from, in_to, all_in, filter_in, find_only}
use Rattle.merlin_model.proofs.DirectedLinks.{way_back, same_by_port, same_by_ends, link_at-is}
use Rattle.merlin_model.proofs.Acting.{acting-is}
use Rattle.merlin_model.proofs.Fitting.{fits-parts, fits-from, and-first, and-second, and-both}
use Rattle.merlin_model.proofs.Traces.{Some-inj}
use Rattle.rules_model.proofs.Setting.{Setting, routing, After}
use Rattle.rules_model.proofs.TableRules.{IsTableRule, table_rule-is, row_rule-in, process-is, process-in}
use Rattle.rules_model.proofs.Absurd.{None-Some, false-true}

Switch-Middlebox : Some Switch ≡ Some Middlebox → ⊥
Switch-Middlebox e = cc

suc-inj : (m n : ℕ) → suc m ≡ suc n → m ≡ n
suc-inj m n e = omega arith

-- Locations.

-- a symbol away from hosts is at a switch or at a middlebox
abbrev HasKind : Option LocationKind → Type 0
HasKind o = (o ≡ Some Switch) ⊎ (o ≡ Some Middlebox)

pub inner_kind : (net : Network) (x : Symbol) → IsSymbol net x → ¬ IsHost net x.loc → HasKind (kind_of net x.loc)
inner_kind net x symbol inside = by (kind_of net x.loc) symbol inside
  where
    by : (o : Option LocationKind) → MatchOption o ⊥ (λ _. MatchOption x.fun ⊤ (λ f. MatchOption (places_of net f) ⊥ (λ places. Contains places x.loc))) → ¬ IsSome (address_at o) → HasKind o
    by None s n = absurd s
    by (Some (Host address)) s n = absurd (n refl)
    by (Some Switch) s n = inl refl
    by (Some Middlebox) s n = inr refl

-- no function runs at a switch
pub at_middlebox-only : (net : Network) → IsNetwork net → (f loc : ℕ) (places : List ℕ) → places_of net f ≡ Some places → Contains places loc → kind_of net loc ≡ Some Middlebox
at_middlebox-only net ok f loc places e c = by (slice_get net.functions f) refl e
  where
    by : (o : Option FnDecl) → slice_get net.functions f ≡ o → option_map (λ x. x.places) o ≡ Some places → kind_of net loc ≡ Some Middlebox
    by None at_f h = absurd (None-Some h)
    by (Some function) at_f h =
        let placed = all_in _ net.functions function ok.placed (in_from net.functions function (f, slice_get_within net.functions f function at_f, get_or_from_slice_get net.functions f function function at_f)) in
        all_in (IsMiddlebox net) places loc (subst (AllByRecursion (IsMiddlebox net)) (Some-inj h) placed.0) (in_from places loc c)

pub none_at_switch : (net : Network) → IsNetwork net → (x : Symbol) → IsSymbol net x → kind_of net x.loc ≡ Some Switch → functions_of x ≡ []
none_at_switch net ok x symbol here = by (kind_of net x.loc) here x.fun symbol
  where
    in_places : (f : ℕ) (o : Option (List ℕ)) → places_of net f ≡ o → MatchOption o ⊥ (λ places. Contains places x.loc) → ⊥
    in_places f None e h = h
    in_places f (Some places) e h = Switch-Middlebox (sym here ∙ at_middlebox-only net ok f x.loc places e h)

    by : (o : Option LocationKind) → o ≡ Some Switch → (fun : Option ℕ) → MatchOption o ⊥ (λ _. MatchOption fun ⊤ (λ f. MatchOption (places_of net f) ⊥ (λ places. Contains places x.loc))) → option_to_list fun ≡ []
    by None e fun h = absurd h
    by (Some l) e None h = refl
    by (Some l) e (Some f) h = absurd (in_places f (places_of net f) refl h)

-- the directed link of a host leads to a switch
pub far_of_host : (net : Network) (ok : IsNetwork net) (w : DirectedLink) → Contains (directed_links net) w → IsHost net w.from → kind_of net w.to ≡ Some Switch
far_of_host net ok w c host =
    let link = ok.host_link w.from host in
    let kept : In w (links_from net w.from) = filter_in (λ x. x.from == w.from) (directed_links net) w (in_from (directed_links net) w c) (eq-eqb w.from w.from refl) in
    ap (λ x. kind_of net x.to) (one_of link.0 w (subst (In w) link.1 kept)) ∙ link.2
  where
    one_of : (x y : DirectedLink) → In y (x ∷ []) → y ≡ x
    one_of x y (inl e) = e
    one_of x y (inr h) = absurd h

module _ (setting : Setting) where
  -- a vertex has one tag, and a tag in a group of one location has one vertex
  pub tag-same : (g : ℕ) (v : Vertex) (m n : ℕ) → HasTag setting.plan.tags g v m → HasTag setting.plan.tags g v n → m ≡ n
  tag-same g v m n h k = h.2 ∙ ap suc (setting.plan_is.tags_differ h.0 k.0 (tag_key_of g v) h.1 k.1) ∙ sym k.2

  key-same : (g h : ℕ) (v u : Vertex) (n m : ℕ) → HasTag setting.plan.tags g v n → HasTag setting.plan.tags h u m → n ≡ m → tag_key_of g v ≡ tag_key_of h u
  key-same g h v u n m a b e =
      let place : a.0 ≡ b.0 = suc-inj a.0 b.0 (sym a.2 ∙ e ∙ b.2) in
      Some-inj (sym a.1 ∙ ap (λ k. slice_get setting.plan.tags k) place ∙ b.1)

  on-same : (g : ℕ) (next : Option (Vertex × List Vertex)) (t u : Option ℕ) → IsTagOn setting.plan.tags g next t → IsTagOn setting.plan.tags g next u → t ≡ u
  on-same g None t u a b = a ∙ sym b
  on-same g (Some next) t u a b = a.2 ∙ ap Some (tag-same g next.0 a.0 b.0 a.1 b.1) ∙ sym b.2

  -- a vertex has one hop
  pub hop-same : (g d : ℕ) (v : Vertex) (us : List Vertex) (x y : Hop) → IsHop setting.net setting.plan.tags g d v us x → IsHop setting.net setting.plan.tags g d v us y → x ≡ y
  hop-same g d v us x y a b =
      let link : x.link ≡ y.link = same_by_ends setting.net setting.network x.link y.link a.present b.present (a.starts ∙ sym b.starts) (a.ends ∙ sym b.ends) in
      let functions : x.functions ≡ y.functions = a.functions ∙ sym b.functions in
      let tag : x.tag ≡ y.tag = on-same g (onward (loc_of v) us) x.tag y.tag a.tag b.tag in
      λ i. record { functions = functions i; link = link i; tag = tag i }

  pub hop-at : (g g' d d' : ℕ) (v v' : Vertex) (us us' : List Vertex) (hop : Hop) → g ≡ g' → d ≡ d' → v ≡ v' → us ≡ us' → IsHop setting.net setting.plan.tags g d v us hop → IsHop setting.net setting.plan.tags g' d' v' us' hop
  hop-at g g' d d' v v' us us' hop eg ed ev eu h = subst (λ T. T) (λ i. IsHop setting.net setting.plan.tags (eg i) (ed i) (ev i) (eu i) hop) h

  pub follows-at : (g g' d d' : ℕ) (v v' : Vertex) (us : List Vertex) → g ≡ g' → d ≡ d' → v ≡ v' → After setting g d v us → After setting g' d' v' us
  follows-at g g' d d' v v' us eg ed ev h = subst (λ T. T) (λ i. After setting (eg i) (ed i) (ev i) us) h

  pub row-one : (x y : TableRow) → IsTableRow setting.net setting.groups setting.plan x → IsTableRow setting.net setting.groups setting.plan y → loc_of x.vertex ≡ loc_of y.vertex → x.tag ≡ y.tag → x.eth ≡ y.eth → x ≡ y
  row-one x y rx ry loc tag eth = λ i. record { group = group i; dest = dest i; vertex = vertex i; tag = tag i; eth = eth i; hop = hop i; queue = queue_path i }
    where
      key : tag_key_of x.group x.vertex ≡ tag_key_of y.group y.vertex
      key = key-same x.group y.group x.vertex y.vertex x.tag y.tag rx.tag ry.tag tag

      group : x.group ≡ y.group
      group = ap (λ k. k.group) key

      vertex : x.vertex ≡ y.vertex
      vertex = λ i. record { symbol = record { loc = loc i; fun = (key i).fun }; state = (key i).state }

      dest : x.dest ≡ y.dest
      dest = setting.network.addresses x.dest y.dest rx.address ry.address rx.dest ry.dest (inl (sym rx.eth ∙ eth ∙ ry.eth))

      queue_path : x.queue ≡ y.queue
      queue_path = rx.queue ∙ ap (queue_in setting.groups) group ∙ sym ry.queue

      after : rx.after ≡ ry.after
      after = (routing setting).unique y.group y.dest y.vertex rx.after ry.after (follows-at x.group y.group x.dest y.dest x.vertex y.vertex rx.after group dest vertex rx.followed) ry.followed

      hop : x.hop ≡ y.hop
      hop = hop-same y.group y.dest y.vertex ry.after x.hop y.hop (hop-at x.group y.group x.dest y.dest x.vertex y.vertex rx.after ry.after x.hop group dest vertex after rx.hop) ry.hop

  -- a row is known by its location, tag and destination address
  pub row-same : (x y : TableRow) → In x setting.plan.rows → In y setting.plan.rows → loc_of x.vertex ≡ loc_of y.vertex → x.tag ≡ y.tag → x.eth ≡ y.eth → x ≡ y
  row-same x y ix iy loc tag eth = row-one x y (setting.plan_is.rows_are x (in_to setting.plan.rows x ix)) (setting.plan_is.rows_are y (in_to setting.plan.rows y iy)) loc tag eth

  -- the frame came over a directed link, and not from a host
  pub record CameFromInside (f : Frame) : Type 0 where
    pub link : DirectedLink
    pub present : Contains (directed_links setting.net) link
    pub to : link.to ≡ f.loc
    pub port : link.in_port ≡ f.port
    pub inner : ¬ IsHost setting.net link.from

  -- the frame is at the location of the row, under its tag, for its destination, and it didn't come from a host
  pub record StandsAt (f : Frame) (row : TableRow) : Type 0 where
    pub loc : f.loc ≡ loc_of row.vertex
    pub tag : f.tag ≡ Some row.tag
    pub eth : f.packet.eth_dst ≡ row.eth
    pub came : CameFromInside f

  -- Which rules fit it.

  tag-fits : (tag : Option ℕ) (n m : ℕ) → tag ≡ Some n → tag_is tag m ≡ true → n ≡ m
  tag-fits None n m e h = absurd (None-Some e)
  tag-fits (Some k) n m e h = sym (Some-inj e) ∙ eqb-true k m h

  fits-tag : (tag : Option ℕ) (n : ℕ) → tag ≡ Some n → tag_is tag n ≡ true
  fits-tag None n e = absurd (None-Some e)
  fits-tag (Some k) n e = eq-eqb k n (Some-inj e)

  not_untagged : (tag : Option ℕ) (n : ℕ) → tag ≡ Some n → not (is_some tag) ≡ true → ⊥
  not_untagged None n e h = None-Some e
  not_untagged (Some k) n e h = false-true h

  -- a tag rule that fits is that of the row
  by_tag_rule : (f : Frame) (row : TableRow) → In row setting.plan.rows → StandsAt f row → (x : TableRow) → In x setting.plan.rows → is_for f (tag_rule x) ≡ true → x ≡ row
  by_tag_rule f row present at x ix fits =
      let h : Fits (tag_rule x) f = fits-parts f (tag_rule x) fits in
      row-same x row ix present (h.loc ∙ at.loc) (sym (tag-fits f.tag row.tag x.tag at.tag h.dl_vlan)) (eqb-true x.eth f.packet.eth_dst h.dl_dst ∙ at.eth)

  by_back_rule : (f : Frame) (row : TableRow) → In row setting.plan.rows → StandsAt f row → (x : TableRow) → In x setting.plan.rows → is_for f (back_rule x) ≡ true → (x ≡ row) × (x.hop.link.out_port ≡ f.port)
  by_back_rule f row present at x ix fits =
      let h : Fits (back_rule x) f = fits-parts f (back_rule x) fits in
      (row-same x row ix present (h.loc ∙ at.loc) (sym (tag-fits f.tag row.tag x.tag at.tag h.dl_vlan)) (eqb-true x.eth f.packet.eth_dst h.dl_dst ∙ at.eth), eqb-true x.hop.link.out_port f.port h.in_port)

  abbrev queue : TableRow → Option ℕ
  queue row = row.queue

  -- a rule for the frames of a row that come in at this port, or at any
  abbrev rule_by_tag : ℕ → Option ℕ → List Action → TableRow → Rule
  rule_by_tag priority in_port actions row = record {
    loc = loc_of row.vertex;
    priority = priority;
    fits = record match_anything { in_port = in_port; dl_dst = Some row.eth; dl_vlan = Some (Tag row.tag) };
    actions = actions;
  }

  fits_by_tag : (priority : ℕ) (in_port : Option ℕ) (actions : List Action) (f : Frame) (row : TableRow) → StandsAt f row → agrees in_port f.port ≡ true → is_for f (rule_by_tag priority in_port actions row) ≡ true
  fits_by_tag priority in_port actions f row at port = fits-from f (rule_by_tag priority in_port actions row) (record {
    loc = sym at.loc;
    in_port = port;
    dl_src = refl;
    dl_dst = eq-eqb row.eth f.packet.eth_dst (sym at.eth);
    dl_vlan = fits-tag f.tag row.tag at.tag;
    nw_proto = refl;
    nw_src = refl;
    nw_dst = refl;
    tp_src = refl;
    tp_dst = refl;
  })

  fits_tag_rule : (f : Frame) (row : TableRow) → StandsAt f row → is_for f (tag_rule row) ≡ true
  fits_tag_rule f row at = fits_by_tag TAG_PRIORITY None (tag_rule row).actions f row at refl

  fits_back_rule : (f : Frame) (row : TableRow) → StandsAt f row → row.hop.link.out_port ≡ f.port → is_for f (back_rule row) ≡ true
  fits_back_rule f row at port = fits_by_tag BACK_PRIORITY (Some row.hop.link.out_port) (back_rule row).actions f row at (eq-eqb row.hop.link.out_port f.port port)

  -- a cell takes untagged frames alone
  cell-untagged : (f : Frame) (e : IngressEntry) → is_for f (cell_rule e) ≡ true → not (is_some f.tag) ≡ true
  cell-untagged f e fits = let h : Fits (cell_rule e) f = fits-parts f (cell_rule e) fits in h.dl_vlan

  -- where the frame goes back, its back rule acts
  back_acts : (f : Frame) (row : TableRow) → In row setting.plan.rows → StandsAt f row → row.hop.link.out_port ≡ f.port → In (back_rule row) (table_rules setting.net setting.plan) →
      acting_rule (table_rules setting.net setting.plan) f ≡ Some (back_rule row)
  back_acts f row present at port stands = acting-is (table_rules setting.net setting.plan) f (back_rule row) stands (fits_back_rule f row at port) (λ q i fits. by q fits (table_rule-is setting.net setting.plan q i))
    where
      by_row : (q : Rule) → is_for f q ≡ true → (x : TableRow) → In x setting.plan.rows → (q ≡ tag_rule x) ⊎ (q ≡ back_rule x) → (q ≡ back_rule row) ⊎ (q.priority < 200)
      by_row q fits x ix (inl e) = inr (let p : q.priority ≡ 100 = ap (λ r. r.priority) e in omega arith)
      by_row q fits x ix (inr e) = inl (e ∙ ap (λ y. back_rule y) (by_back_rule f row present at x ix (ap (is_for f) (sym e) ∙ fits)).0)

      by : (q : Rule) → is_for f q ≡ true → IsTableRule setting.net setting.plan q → (q ≡ back_rule row) ⊎ (q.priority < 200)
      by q fits (inl h) = by_row q fits h.row h.present h.is
      by q fits (inr (inl h)) = absurd (not_untagged f.tag row.tag at.tag (cell-untagged f h.entry (ap (is_for f) (sym h.is) ∙ fits)))
      by q fits (inr (inr h)) = inr (let p : q.priority ≡ 0 = ap (λ r. r.priority) h.1 in omega arith)

  -- else its tag rule
  tag_acts : (f : Frame) (row : TableRow) → In row setting.plan.rows → StandsAt f row → row.hop.link.out_port ≢ f.port → In (tag_rule row) (table_rules setting.net setting.plan) →
      acting_rule (table_rules setting.net setting.plan) f ≡ Some (tag_rule row)
  tag_acts f row present at port stands = acting-is (table_rules setting.net setting.plan) f (tag_rule row) stands (fits_tag_rule f row at) (λ q i fits. by q fits (table_rule-is setting.net setting.plan q i))
    where
      by_row : (q : Rule) → is_for f q ≡ true → (x : TableRow) → In x setting.plan.rows → (q ≡ tag_rule x) ⊎ (q ≡ back_rule x) → (q ≡ tag_rule row) ⊎ (q.priority < 100)
      by_row q fits x ix (inl e) = inl (e ∙ ap (λ y. tag_rule y) (by_tag_rule f row present at x ix (ap (is_for f) (sym e) ∙ fits)))
      by_row q fits x ix (inr e) =
          let b = by_back_rule f row present at x ix (ap (is_for f) (sym e) ∙ fits) in
          absurd (port (ap (λ y. y.hop.link.out_port) (sym b.0) ∙ b.1))

      by : (q : Rule) → is_for f q ≡ true → IsTableRule setting.net setting.plan q → (q ≡ tag_rule row) ⊎ (q.priority < 100)
      by q fits (inl h) = by_row q fits h.row h.present h.is
      by q fits (inr (inl h)) = absurd (not_untagged f.tag row.tag at.tag (cell-untagged f h.entry (ap (is_for f) (sym h.is) ∙ fits)))
      by q fits (inr (inr h)) = inr (let p : q.priority ≡ 0 = ap (λ r. r.priority) h.1 in omega arith)

  -- What the actions do.

  abbrev visit_with : ℕ → Option ℕ → Visit
  visit_with loc q = record { loc = loc; functions = []; queue = q; class = None }

  pub act-send : (f : Frame) (t q : Option ℕ) (out : Out) (link : DirectedLink) → link_to setting.net f out ≡ Some link → act setting.net f t (send_through q out ∷ []) ≡ Forwards link t (visit_with f.loc q)
  act-send f t None out link e = ap (λ o. send_over f.loc o t (visit_with f.loc None)) e
  act-send f t (Some q) out link e = ap (λ o. send_over f.loc o t (visit_with f.loc (Some q))) e

  act-relabel : (f : Frame) (t q : Option ℕ) (out : Out) → act setting.net f f.tag (relabel t ∷ send_through q out ∷ []) ≡ act setting.net f t (send_through q out ∷ [])
  act-relabel f None q out = refl
  act-relabel f (Some n) q out = refl

  pub port-link : (f : Frame) (out : ℕ) (link : DirectedLink) → out ≢ f.port → link_at setting.net f.loc out ≡ Some link → link_to setting.net f (Port out) ≡ Some link
  port-link f out link other e = by (out == f.port) refl
    where
      by : (b : Bool) → (out == f.port) ≡ b → cond b None (link_at setting.net f.loc out) ≡ Some link
      by true h = absurd (other (eqb-true out f.port h))
      by false h = e

  -- Functions.

  pub functions_here-none : (g d l : ℕ) (v : Vertex) (us : List Vertex) → After setting g d v us → kind_of setting.net l ≡ Some Switch → functions_here l us ≡ []
  functions_here-none g d l v [] h here = refl
  functions_here-none g d l v (u ∷ us) h here = by (loc_of u == l) refl (functions_here-none g d l u us ((routing setting).goes_on g d v u us h) here)
    where
      by : (b : Bool) → (loc_of u == l) ≡ b → functions_here l us ≡ [] → cond b (functions_of u.symbol ++ functions_here l us) [] ≡ []
      by true e ih =
          ap₂ (λ a b. a ++ b) (none_at_switch setting.net setting.network u.symbol ((routing setting).symbol g d u us ((routing setting).goes_on g d v u us h)) (ap (λ k. kind_of setting.net k) (eqb-true (loc_of u) l e) ∙ here)) ih
      by false e ih = refl

  -- queue 0 in a line means none
  queue-back : (q : Option ℕ) → q ≢ Some 0 → queue_of (unwrap_or q 0) ≡ q
  queue-back None n = refl
  queue-back (Some k) n = by (k == 0) refl
    where
      by : (b : Bool) → (k == 0) ≡ b → cond b None (Some k) ≡ Some k
      by true e = absurd (n (ap Some (eqb-true k 0 e)))
      by false e = refl

  -- what a step from a row's location is
  pub record GoesBy (f : Frame) (row : TableRow) : Type 0 where
    pub visit : Visit
    pub goes : next setting.net setting.config f ≡ Forwards row.hop.link row.hop.tag visit
    pub stop : stop_of visit ≡ record { loc = loc_of row.vertex; functions = row.hop.functions }
    pub queue : visit.queue ≡ row.queue

  -- the hop leads to the destination where it strips the tag
  pub on_host : (g d : ℕ) (o : Option (Vertex × List Vertex)) (t : Option ℕ) → IsTagOn setting.plan.tags g o t → t ≡ None → onward_location d o ≡ d
  on_host g d None t h e = refl
  on_host g d (Some next) t h e = absurd (None-Some (sym e ∙ h.2))

  step_switch : (f : Frame) (row : TableRow) → In row setting.plan.rows → StandsAt f row → kind_of setting.net (loc_of row.vertex) ≡ Some Switch → GoesBy f row
  step_switch f row present at here = by (row.hop.link.out_port == f.port) refl row.hop.tag refl
    where
      r : IsTableRow setting.net setting.groups setting.plan row
      r = setting.plan_is.rows_are row (in_to setting.plan.rows row present)

      f_here : kind_of setting.net f.loc ≡ Some Switch
      f_here = ap (λ k. kind_of setting.net k) at.loc ∙ here

      no_functions : row.hop.functions ≡ []
      no_functions =
          r.hop.functions ∙ ap₂ (λ a b. a ++ b) (none_at_switch setting.net setting.network row.vertex.symbol ((routing setting).symbol row.group row.dest row.vertex r.after r.followed) here)
          (functions_here-none row.group row.dest (loc_of row.vertex) row.vertex r.after r.followed here)

      stop : stop_of (visit_with f.loc (queue row)) ≡ record { loc = loc_of row.vertex; functions = row.hop.functions }
      stop = λ i. record { loc = at.loc i; functions = sym no_functions i }

      next-by : (rule : Rule) → acting_rule (table_rules setting.net setting.plan) f ≡ Some rule → next setting.net setting.config f ≡ act setting.net f f.tag rule.actions
      next-by rule e =
          ap (next_at setting.net setting.config f) f_here
          ∙ ap (λ rs. at_switch setting.net f (acting_rule rs f)) setting.rules
          ∙ ap (at_switch setting.net f) e

      link_here : (port : ℕ) → row.hop.link.out_port ≡ port → link_at setting.net f.loc port ≡ Some row.hop.link
      link_here port e = link_at-is setting.net setting.network row.hop.link f.loc port r.hop.present (r.hop.starts ∙ sym at.loc) e

      -- the way back leads to no host
      not_back : row.hop.link.out_port ≡ f.port → row.hop.tag ≡ None → ⊥
      not_back port strip =
          let same : back_of at.came.link ≡ row.hop.link = same_by_port setting.net setting.network (back_of at.came.link) row.hop.link (way_back setting.net at.came.link at.came.present) r.hop.present (at.came.to ∙ at.loc ∙ sym r.hop.starts) (at.came.port ∙ sym port) in
          let far : at.came.link.from ≡ row.dest = ap (λ w. w.to) same ∙ r.hop.ends ∙ on_host row.group row.dest (onward (loc_of row.vertex) r.after) row.hop.tag r.hop.tag strip in
          at.came.inner (subst (IsHost setting.net) (sym far) ((routing setting).dest row.group row.dest row.vertex r.after r.followed))

      by : (b : Bool) → (row.hop.link.out_port == f.port) ≡ b → (t : Option ℕ) → row.hop.tag ≡ t → GoesBy f row
      by true e None strip = absurd (not_back (eqb-true row.hop.link.out_port f.port e) strip)
      by true e (Some n) tag =
          let port : row.hop.link.out_port ≡ f.port = eqb-true row.hop.link.out_port f.port e in
          let stands : In (back_rule row) (table_rules setting.net setting.plan) =
          row_rule-in setting.net setting.plan (back_rule row) row here present (subst (λ t. In (back_rule row) (rules_by_tag row t)) (sym tag) (inl refl)) in
          record {
            visit = visit_with f.loc (queue row);
            goes = next-by (back_rule row) (back_acts f row present at port stands) ∙ act-relabel f row.hop.tag (queue row) InPort
                ∙ act-send f row.hop.tag (queue row) InPort row.hop.link (link_here f.port port);
            stop = stop;
            queue = refl;
          }
      by false e t tag =
          let port : row.hop.link.out_port ≢ f.port = grind arith in
          let stands : In (tag_rule row) (table_rules setting.net setting.plan) =
          row_rule-in setting.net setting.plan (tag_rule row) row here present (in_either row.hop.tag) in
          record {
            visit = visit_with f.loc (queue row);
            goes = next-by (tag_rule row) (tag_acts f row present at port stands) ∙ act-relabel f row.hop.tag (queue row) (Port row.hop.link.out_port)
                ∙ act-send f row.hop.tag (queue row) (Port row.hop.link.out_port) row.hop.link (port-link f row.hop.link.out_port row.hop.link port (link_here row.hop.link.out_port refl));
            stop = stop;
            queue = refl;
          }
        where
          in_either : (t : Option ℕ) → In (tag_rule row) (rules_by_tag row t)
          in_either None = inl refl
          in_either (Some n) = inr (inl refl)

  line_fits : Frame → Process → Bool
  line_fits f p = (p.loc == f.loc) && tag_is f.tag p.tag && (p.eth_dst == f.packet.eth_dst)

  step_middlebox : (f : Frame) (row : TableRow) → In row setting.plan.rows → StandsAt f row → kind_of setting.net (loc_of row.vertex) ≡ Some Middlebox → GoesBy f row
  step_middlebox f row present at here = by row.hop.tag refl
    where
      r : IsTableRow setting.net setting.groups setting.plan row
      r = setting.plan_is.rows_are row (in_to setting.plan.rows row present)

      line : Process
      line = process_of row

      found : acting_process (table_processes setting.net setting.plan) f ≡ Some (process_of row)
      found = find_only (λ p. (p.loc == f.loc) && tag_is f.tag p.tag && (p.eth_dst == f.packet.eth_dst)) (table_processes setting.net setting.plan) (process_of row) (process-in setting.net setting.plan row here present)
          (and-both ((loc_of row.vertex == f.loc) && tag_is f.tag row.tag) (row.eth == f.packet.eth_dst)
          (and-both (loc_of row.vertex == f.loc) (tag_is f.tag row.tag) (eq-eqb (loc_of row.vertex) f.loc (sym at.loc)) (fits-tag f.tag row.tag at.tag))
          (eq-eqb row.eth f.packet.eth_dst (sym at.eth)))
          (λ p i fits. only p fits (process-is setting.net setting.plan p i))
        where
          of_row : (x : TableRow) → In x setting.plan.rows → ((loc_of x.vertex == f.loc) && tag_is f.tag x.tag && (x.eth == f.packet.eth_dst)) ≡ true → x ≡ row
          of_row x ix h =
              let rest = and-first ((loc_of x.vertex == f.loc) && tag_is f.tag x.tag) (x.eth == f.packet.eth_dst) h in
              row-same x row ix present (eqb-true (loc_of x.vertex) f.loc (and-first (loc_of x.vertex == f.loc) (tag_is f.tag x.tag) rest) ∙ at.loc)
              (sym (tag-fits f.tag row.tag x.tag at.tag (and-second (loc_of x.vertex == f.loc) (tag_is f.tag x.tag) rest)))
              (eqb-true x.eth f.packet.eth_dst (and-second ((loc_of x.vertex == f.loc) && tag_is f.tag x.tag) (x.eth == f.packet.eth_dst) h) ∙ at.eth)

          only : (p : Process) → ((p.loc == f.loc) && tag_is f.tag p.tag && (p.eth_dst == f.packet.eth_dst)) ≡ true → (x : TableRow) × In x setting.plan.rows × (p ≡ process_of x) → p ≡ process_of row
          only p fits x =
              x.2 ∙ ap (λ y. process_of y) (of_row x.0 x.1 (ap (λ p. (p.loc == f.loc) && tag_is f.tag p.tag && (p.eth_dst == f.packet.eth_dst)) (sym x.2) ∙ fits))

      link_here : link_at setting.net f.loc row.hop.link.out_port ≡ Some row.hop.link
      link_here = link_at-is setting.net setting.network row.hop.link f.loc row.hop.link.out_port r.hop.present (r.hop.starts ∙ sym at.loc) refl

      -- a host is linked to switches alone
      not_host : row.hop.tag ≡ None → ⊥
      not_host strip =
          let host : IsHost setting.net row.hop.link.to =
          subst (IsHost setting.net) (sym (r.hop.ends ∙ on_host row.group row.dest (onward (loc_of row.vertex) r.after) row.hop.tag r.hop.tag strip)) ((routing setting).dest row.group row.dest row.vertex r.after r.followed) in
          Switch-Middlebox (sym (far_of_host setting.net setting.network (back_of row.hop.link) (way_back setting.net row.hop.link r.hop.present) host) ∙ ap (λ k. kind_of setting.net k) r.hop.starts ∙ here)

      by : (t : Option ℕ) → row.hop.tag ≡ t → GoesBy f row
      by None strip = absurd (not_host strip)
      by (Some n) tag = record {
        visit = record { loc = f.loc; functions = row.hop.functions; queue = queue_of (unwrap_or (queue row) 0); class = None };
        goes = ap (next_at setting.net setting.config f) (ap (λ k. kind_of setting.net k) at.loc ∙ here) ∙ ap (λ ps. at_middlebox setting.net f (acting_process ps f)) setting.processes ∙ ap (at_middlebox setting.net f) found
            ∙ ap (λ o. send_over f.loc o (Some (unwrap_or row.hop.tag 0)) (record { loc = f.loc; functions = row.hop.functions; queue = queue_of (unwrap_or (queue row) 0); class = None })) link_here
            ∙ ap (λ t. Forwards row.hop.link t (record { loc = f.loc; functions = row.hop.functions; queue = queue_of (unwrap_or (queue row) 0); class = None })) (ap (λ t. Some (unwrap_or t 0)) tag ∙ sym tag);
        stop = λ i. record { loc = at.loc i; functions = row.hop.functions };
        queue = queue-back row.queue (λ e. setting.plan_is.queues_above row.group (sym r.queue ∙ e));
      }

  -- one step
  pub step : (f : Frame) (row : TableRow) → In row setting.plan.rows → StandsAt f row → GoesBy f row
  step f row present at = by (inner_kind setting.net row.vertex.symbol ((routing setting).symbol row.group row.dest row.vertex r.after r.followed) r.outside)
    where
      r : IsTableRow setting.net setting.groups setting.plan row
      r = setting.plan_is.rows_are row (in_to setting.plan.rows row present)

      by : HasKind (kind_of setting.net (loc_of row.vertex)) → GoesBy f row
      by (inl here) = step_switch f row present at here
      by (inr here) = step_middlebox f row present at here
