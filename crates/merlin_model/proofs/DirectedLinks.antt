-- Directed links: a port or a far end names one directed link, and each has its way back.
use Rattle.std.proofs.Common.{◌≡◌, ◌≢◌, ℕ, ◌<◌, ◌==◌, ◌&&◌, ◌⊎◌, inl, inr, Bool, true, false, List, [], ◌∷◌, filter, Contains, Some, refl, sym, ◌∙◌, ap, subst}
use Rattle.std.proofs.lemmas.Bool.{eqb-true, eq-eqb}
use Rattle.merlin_model.specs.declared.network.Link.{Link}
use Rattle.merlin_model.specs.Networks.{Network, IsHost, IsSwitch, DirectedLink, directed_links_of, directed_links, back_of, Pairwise, IsNetwork}
use Rattle.merlin_model.specs.Machine.{link_at, uplink_of}
use Rattle.merlin_model.proofs.Members.{In, in_from, in_to, all_in, filter_in, find_only, find_filtered}

back_in : (links : List Link) (w : DirectedLink) → In w (directed_links_of links) → In (back_of w) (directed_links_of links)
back_in [] w h = absurd h
back_in (link ∷ links) w (inl e) = inr (inl (ap back_of e))
back_in (link ∷ links) w (inr (inl e)) = inl (ap back_of e)
back_in (link ∷ links) w (inr (inr h)) = inr (inr (back_in links w h))

pub way_back : (net : Network) (w : DirectedLink) → Contains (directed_links net) w → Contains (directed_links net) (back_of w)
way_back net w c = in_to (directed_links net) (back_of w) (back_in net.links w (in_from (directed_links net) w c))

abbrev AreApart : DirectedLink → DirectedLink → Type 0
AreApart v w = v.from ≡ w.from → (v.out_port ≢ w.out_port) × (v.to ≢ w.to)

-- two of a list are the same, or related one way or the other
paired : (ws : List DirectedLink) (v w : DirectedLink) → Pairwise AreApart ws → In v ws → In w ws → (v ≡ w) ⊎ (AreApart v w ⊎ AreApart w v)
paired [] v w p i j = absurd i
paired (x ∷ ws) v w p (inl e) (inl f) = inl (e ∙ sym f)
paired (x ∷ ws) v w p (inl e) (inr j) = inr (inl (subst (λ y. AreApart y w) (sym e) (all_in (AreApart x) ws w p.0 j)))
paired (x ∷ ws) v w p (inr i) (inl f) = inr (inr (subst (λ y. AreApart y v) (sym f) (all_in (AreApart x) ws v p.0 i)))
paired (x ∷ ws) v w p (inr i) (inr j) = paired ws v w p.1 i j

unless : {A B : Type 0} → A ⊎ B → ¬ B → A
unless (inl a) never = a
unless (inr b) never = absurd (never b)

module _ (net : Network) (ok : IsNetwork net) where
  -- two from one location are the same, or differ in port and in far end
  same_or_apart : (v w : DirectedLink) → Contains (directed_links net) v → Contains (directed_links net) w → v.from ≡ w.from → (v ≡ w) ⊎ ((v.out_port ≢ w.out_port) × (v.to ≢ w.to))
  same_or_apart v w cv cw from = by (paired (directed_links net) v w ok.ports (in_from (directed_links net) v cv) (in_from (directed_links net) w cw))
    where
      by : (v ≡ w) ⊎ (AreApart v w ⊎ AreApart w v) → (v ≡ w) ⊎ ((v.out_port ≢ w.out_port) × (v.to ≢ w.to))
      by (inl e) = inl e
      by (inr (inl a)) = inr (a from)
      by (inr (inr a)) = inr ((λ e. (a (sym from)).0 (sym e)), (λ e. (a (sym from)).1 (sym e)))

  pub same_by_port : (v w : DirectedLink) → Contains (directed_links net) v → Contains (directed_links net) w → v.from ≡ w.from → v.out_port ≡ w.out_port → v ≡ w
  same_by_port v w cv cw from port = unless (same_or_apart v w cv cw from) (λ apart. apart.0 port)

  pub same_by_ends : (v w : DirectedLink) → Contains (directed_links net) v → Contains (directed_links net) w → v.from ≡ w.from → v.to ≡ w.to → v ≡ w
  same_by_ends v w cv cw from to = unless (same_or_apart v w cv cw from) (λ apart. apart.1 to)

  -- the directed link by its port
  pub link_at-is : (w : DirectedLink) (loc port : ℕ) → Contains (directed_links net) w → w.from ≡ loc → w.out_port ≡ port → link_at net loc port ≡ Some w
  link_at-is w loc port c from out = find_only (λ v. (v.from == loc) && (v.out_port == port)) (directed_links net) w (in_from (directed_links net) w c) here only
    where
      here : ((w.from == loc) && (w.out_port == port)) ≡ true
      here = ap (λ b. b && (w.out_port == port)) (eq-eqb w.from loc from) ∙ eq-eqb w.out_port port out

      only : (v : DirectedLink) → In v (directed_links net) → ((v.from == loc) && (v.out_port == port)) ≡ true → v ≡ w
      only v i t = by (v.from == loc) refl (v.out_port == port) refl t
        where
          by : (a : Bool) → (v.from == loc) ≡ a → (b : Bool) → (v.out_port == port) ≡ b → (a && b) ≡ true → v ≡ w
          by true ea true eb _ = same_by_port v w (in_to (directed_links net) v i) c (eqb-true v.from loc ea ∙ sym from) (eqb-true v.out_port port eb ∙ sym out)
          by true ea false eb e = absurd (no e)
            where
              no : false ≡ true → ⊥
              no x = cc
          by false ea b eb e = absurd (no e)
            where
              no : false ≡ true → ⊥
              no x = cc

  pub port_pos : (w : DirectedLink) → Contains (directed_links net) w → 0 < w.in_port
  port_pos w c = (all_in _ (directed_links net) (back_of w) ok.ends (in_from (directed_links net) (back_of w) (way_back net w c))).2

  pub turns : (w : DirectedLink) → Contains (directed_links net) w → w.from ≢ w.to
  turns w c = (all_in _ (directed_links net) w ok.ends (in_from (directed_links net) w c)).1

  -- the directed link of a host
  pub uplink_of-is : (h : ℕ) (host : IsHost net h) → uplink_of net h ≡ Some ((ok.host_link h host).0)
  uplink_of-is h host = find_filtered (λ directed. directed.from == h) (directed_links net) (ok.host_link h host).0 (ok.host_link h host).1

  pub uplink_of-present : (w : DirectedLink) → IsHost net w.from → Contains (directed_links net) w → uplink_of net w.from ≡ Some w
  uplink_of-present w host c = uplink_of-is w.from host ∙ ap Some (sym (one_of link.0 (subst (In w) link.1 (filter_in (λ v. v.from == w.from) (directed_links net) w (in_from (directed_links net) w c) (eq-eqb w.from w.from refl)))))
    where
      link : (directed : DirectedLink) × (filter (λ v. v.from == w.from) (directed_links net) ≡ directed ∷ []) × IsSwitch net directed.to
      link = ok.host_link w.from host

      one_of : (v : DirectedLink) → In w (v ∷ []) → w ≡ v
      one_of v (inl same) = same
      one_of v (inr h) = absurd h
