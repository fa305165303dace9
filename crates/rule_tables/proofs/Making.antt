-- A row is made for each spot at no host.
use Rattle.std.proofs.Common.{◌≡◌, ℕ, inl, inr, Bool, true, false, List, [], ◌∷◌, ◌++◌, map, find, cond, ◌==◌, ◌&&◌, Contains, Option, None, Some, IsSome, option_map, slice_get, refl, sym, ◌∙◌, ap, ap₂, subst}
use Rattle.merlin_model.specs.declared.network.HostAddress.{HostAddress}
use Rattle.merlin_model.specs.declared.network.DirectedLink.{DirectedLink}
use Rattle.merlin_model.specs.Networks.{Network, IsHost, address_of, kind_of, directed_links, Pairwise}
use Rattle.merlin_model.specs.Words.{functions_of}
use Rattle.merlin_model.proofs.Members.{In, in_from, in_to}
use Rattle.merlin_model.proofs.Fitting.{and-first, and-second}
use Rattle.std.proofs.lemmas.Bool.{eqb-true, eq-eqb}
use Rattle.rules_model.specs.Products.{Vertex, loc_of, Group, Follows, queue_in}
use Rattle.rules_model.specs.Tables.{TagKey, IsBelowKey, tag_key_of, functions_here, onward, onward_location, IsTagOn, IsHop, is_host_kind}
use Rattle.rules_model.proofs.Trees.{group_routing}
use Rattle.product_graph.specs.declared.span.Vertex.{Vertex as ListedVertex}
use Rattle.product_graph.specs.Products.{vertex_of}
use Rattle.rule_tables.specs.declared.branches.TagKey.{TagKey as ListedKey}
use Rattle.rule_tables.specs.declared.branches.Step.{Step}
use Rattle.rule_tables.specs.declared.hops.Hop.{Hop as MadeHop}
use Rattle.rule_tables.specs.Branches.{key_of, IsTagNumber, vertex_in, vertex_at}
use Rattle.rule_tables.specs.Hops.{CanHop, table_hop}
use Rattle.rule_tables.specs.Rows.{IsReady, IsRowOf}
use Rattle.rule_tables.proofs.Leading.{some-same, none-some}
use Rattle.rule_tables.proofs.Following.{has-tag}

false-true : false ≡ true → ⊥
false-true e = cc

pub vertex-there : (steps : List Step) (k : ℕ) (v : Vertex) (step : Step) → vertex_at steps k ≡ Some v → slice_get steps k ≡ Some step → vertex_in step ≡ v
vertex-there steps k v step stands at = some-same (sym (ap (option_map vertex_in) at) ∙ stands)

pub vertex-missing : (steps : List Step) (k : ℕ) (v : Vertex) → vertex_at steps k ≡ Some v → slice_get steps k ≡ None → ⊥
vertex-missing steps k v stands at = none-some (sym (ap (option_map vertex_in) at) ∙ stands)

pub find-is : {X : Type 0} (t : X → Bool) (xs : List X) (x : X) → find t xs ≡ Some x → In x xs × (t x ≡ true)
find-is t [] x e = absurd (none-some e)
find-is {X} t (y ∷ ys) x e = by (t y) refl e (find-is t ys x)
  where
    by : (b : Bool) → t y ≡ b → cond b (Some y) (find t ys) ≡ Some x → (find t ys ≡ Some x → In x ys × (t x ≡ true)) → In x (y ∷ ys) × (t x ≡ true)
    by true ty h ih = (inl (sym (some-same h)), ap t (sym (some-same h)) ∙ ty)
    by false ty h ih = let m = ih h in (inr m.0, m.1)

find-none : {X : Type 0} (t : X → Bool) (xs : List X) (x : X) → In x xs → t x ≡ true → find t xs ≡ None → ⊥
find-none t [] x i e none = i
find-none {X} t (y ∷ ys) x i e none = by (t y) refl i none (find-none t ys x)
  where
    by : (b : Bool) → t y ≡ b → In x (y ∷ ys) → cond b (Some y) (find t ys) ≡ None → (In x ys → t x ≡ true → find t ys ≡ None → ⊥) → ⊥
    by true ty j h ih = none-some (sym h)
    by false ty (inl same) h ih = false-true (sym ty ∙ ap t (sym same) ∙ e)
    by false ty (inr j) h ih = ih j e h

-- A hop is made where a link leads on.
module _ (net : Network) (tags : List TagKey) (g d : ℕ) (v : Vertex) (us : List Vertex) (loc to : ℕ) (here : loc ≡ loc_of v) (there : to ≡ onward_location d (onward (loc_of v) us)) where
  abbrev between : DirectedLink → Bool
  between w = (w.from == loc) && (w.to == to)

  pub hop-made : (functions : List ℕ) → functions ≡ functions_of v.symbol ++ functions_here (loc_of v) us → (tag : Option ℕ) → IsTagOn tags g (onward (loc_of v) us) tag → (link : DirectedLink) → find between (directed_links net) ≡ Some link →
      IsHop net tags g d v us (record { functions = functions; link = link; tag = tag })
  hop-made functions functions_are tag tag_is link found =
      let m = find-is between (directed_links net) link found in
      record {
        functions = functions_are;
        present = in_to (directed_links net) link m.0;
        starts = eqb-true link.from loc (and-first (link.from == loc) (link.to == to) m.1) ∙ here;
        ends = eqb-true link.to to (and-second (link.from == loc) (link.to == to) m.1) ∙ there;
        tag = tag_is;
      }

  pub no-hop : CanHop net tags g d v us → find between (directed_links net) ≡ None → ⊥
  no-hop can none =
      let w = can.linked.link in
      find-none between (directed_links net) w (in_from (directed_links net) w can.linked.present)
      (ap₂ (λ a b. a && b) (eq-eqb w.from loc (can.linked.starts ∙ sym here)) (eq-eqb w.to to (can.linked.ends ∙ sym there))) none

-- what is no host by its kind
pub no-host : (net : Network) (loc : ℕ) → is_host_kind (kind_of net loc) ≡ false → ¬ IsHost net loc
no-host net loc e host = false-true (sym e ∙ host)

module _ (net : Network) (of : List Group) (tags : List ListedKey) (ready : IsReady net of tags) (g d : ℕ) (v : Vertex) (us : List Vertex) (followed : Follows net of g d v us) where
  pub tag-missing : (¬ IsHost net (loc_of v)) → (Pairwise IsBelowKey (map key_of tags) → ¬ Contains (map key_of tags) (tag_key_of g v)) → ⊥
  tag-missing outside none = none ready.ascend (has-tag net of ready.written_are tags ready g d v us followed outside)

  pub eth-missing : option_map (λ a. a.eth) (address_of net d) ≡ None → ⊥
  eth-missing none = by (address_of net d) ((group_routing net of ready.written_are).dest g d v us followed) none
    where
      by : (o : Option HostAddress) → IsSome o → option_map (λ a. a.eth) o ≡ None → ⊥
      by None host e = let no_way : ⊥ = cc in no_way
      by (Some a) host e = none-some (sym e)

  pub row-made : (¬ IsHost net (loc_of v)) → (w : ListedVertex) → vertex_of w ≡ v → (tag : ℕ) → IsTagNumber (map key_of tags) (tag_key_of g v) tag → (eth : ℕ) → Some eth ≡ option_map (λ a. a.eth) (address_of net d) →
      (hop : MadeHop) → IsHop net (map key_of tags) g d v us (table_hop hop) → (queue : Option ℕ) → queue ≡ queue_in of g →
      IsRowOf net of tags (g, d, v) (record { group = g; dest = d; vertex = w; tag = tag; eth = eth; hop = hop; queue = queue })
  row-made outside w same tag numbered eth eth_is hop hop_is queue queue_is = by (address_of net d) refl eth_is
    where
      by : (o : Option HostAddress) → address_of net d ≡ o → Some eth ≡ option_map (λ a. a.eth) o → IsRowOf net of tags (g, d, v) (record { group = g; dest = d; vertex = w; tag = tag; eth = eth; hop = hop; queue = queue })
      by None there e = absurd (none-some (sym e))
      by (Some a) there e = record {
        is = record {
          after = us;
          followed = subst (λ u. Follows net of g d u us) (sym same) followed;
          outside = subst (λ u. ¬ IsHost net (loc_of u)) (sym same) outside;
          tag = subst (λ u. IsTagNumber (map key_of tags) (tag_key_of g u) tag) (sym same) numbered;
          address = a;
          dest = there;
          eth = some-same e;
          hop = subst (λ u. IsHop net (map key_of tags) g d u us (table_hop hop)) (sym same) hop_is;
          queue = queue_is;
        };
        group = refl;
        dest = refl;
        vertex = same;
      }
