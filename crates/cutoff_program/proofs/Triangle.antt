-- The product of two hosts in a triangle of switches.
use Rattle.std.proofs.Common.{◌≡◌, ◌≢◌, ℕ, zero, suc, ◌==◌, ◌&&◌, ◌⊎◌, inl, inr, Bool, true, false, cond, List, [], ◌∷◌, Option, None, Some, slice_get, refl, sym, ◌∙◌, ap, subst, arith}
use Rattle.std.proofs.lemmas.Bool.{eq-eqb}
use Rattle.merlin_model.specs.declared.network.DirectedLink.{DirectedLink}
use Rattle.merlin_model.specs.declared.policy.Symbol.{Symbol}
use Rattle.merlin_model.specs.Networks.{IsHost, AreLinked, directed_links}
use Rattle.merlin_model.specs.Words.{at, IsSymbol, MayFollow}
use Rattle.merlin_model.proofs.Fitting.{and-both}
use Rattle.merlin_model.proofs.Members.{In, in_from, in_to}
use Rattle.rules_model.specs.Products.{Vertex, loc_of, IsEdge, IsLast, LeadsTo, IsOnWayBetween, IsJoined}
use Rattle.cutoff_program.specs.Products.{IsTrimmedProduct}
use Rattle.cutoff_program.specs.Rows.{triangle_net, any_automaton, triangle_product, vertex}
use Rattle.cutoff_program.proofs.Lists.{none_some, some_some}
use Rattle.cutoff_program.proofs.Rooms.{false_true}

-- Links, by a test.

abbrev leads : ℕ → ℕ → List DirectedLink → Bool
leads u v [] = false
leads u v (w ∷ ws) = cond ((w.from == u) && (w.to == v)) true (leads u v ws)

leads-in : (u v : ℕ) (ws : List DirectedLink) (w : DirectedLink) → In w ws → w.from ≡ u → w.to ≡ v → leads u v ws ≡ true
leads-in u v [] w i e f = absurd i
leads-in u v (x ∷ ws) w (inl s) e f = ap (λ b. cond b true (leads u v ws)) (and-both _ _ (eq-eqb x.from u (ap (λ y. y.from) (sym s) ∙ e)) (eq-eqb x.to v (ap (λ y. y.to) (sym s) ∙ f)))
leads-in u v (x ∷ ws) w (inr i) e f = by ((x.from == u) && (x.to == v)) (leads-in u v ws w i e f)
  where
    by : (b : Bool) → leads u v ws ≡ true → cond b true (leads u v ws) ≡ true
    by true h = refl
    by false h = h

linked-leads : (u v : ℕ) → AreLinked triangle_net u v → leads u v (directed_links triangle_net) ≡ true
linked-leads u v l = leads-in u v (directed_links triangle_net) l.link (in_from (directed_links triangle_net) l.link l.present) l.starts l.ends

no-step : (u v : ℕ) (x y : Symbol) → x.loc ≡ u → y.loc ≡ v → u ≢ v → leads u v (directed_links triangle_net) ≡ false → MayFollow triangle_net (x, y) → ⊥
no-step u v x y e f apart none (inl s) = apart (sym e ∙ s ∙ f)
no-step u v x y e f apart none (inr l) = false_true (sym none ∙ linked-leads u v (subst (λ b. AreLinked triangle_net u b) f (subst (λ b. AreLinked triangle_net b y.loc) e l)))

link : (from out to port capacity : ℕ) → In (record { from = from; out_port = out; to = to; in_port = port; capacity = capacity; back = capacity; weight = 1 }) (directed_links triangle_net) → AreLinked triangle_net from to
link from out to port capacity i = record { link = record { from = from; out_port = out; to = to; in_port = port; capacity = capacity; back = capacity; weight = 1 }; present = in_to (directed_links triangle_net) _ i; starts = refl; ends = refl }

l02 : AreLinked triangle_net 0 2
l02 = link 0 1 2 1 1000 (inl refl)

l31 : AreLinked triangle_net 3 1
l31 = link 3 1 1 1 1000 (inr (inr (inr (inl refl))))

l23 : AreLinked triangle_net 2 3
l23 = link 2 2 3 2 100 (inr (inr (inr (inr (inl refl)))))

l32 : AreLinked triangle_net 3 2
l32 = link 3 2 2 2 100 (inr (inr (inr (inr (inr (inl refl))))))

l24 : AreLinked triangle_net 2 4
l24 = link 2 3 4 1 100 (inr (inr (inr (inr (inr (inr (inl refl)))))))

l42 : AreLinked triangle_net 4 2
l42 = link 4 1 2 3 100 (inr (inr (inr (inr (inr (inr (inr (inl refl))))))))

l43 : AreLinked triangle_net 4 3
l43 = link 4 2 3 3 100 (inr (inr (inr (inr (inr (inr (inr (inr (inl refl)))))))))

l34 : AreLinked triangle_net 3 4
l34 = link 3 3 4 2 100 (inr (inr (inr (inr (inr (inr (inr (inr (inr (inl refl))))))))))

other : (u v : ℕ) → u ≢ v → vertex u ≢ vertex v
other u v h e = h (ap loc_of e)

to2 : (u : ℕ) → AreLinked triangle_net u 2 → u ≢ 2 → IsEdge triangle_net any_automaton (vertex u) (vertex 2)
to2 u l h = record { follows = inr l; symbol = tt; inside = λ x. false_true x; state = refl; turns = other u 2 h }

to3 : (u : ℕ) → AreLinked triangle_net u 3 → u ≢ 3 → IsEdge triangle_net any_automaton (vertex u) (vertex 3)
to3 u l h = record { follows = inr l; symbol = tt; inside = λ x. false_true x; state = refl; turns = other u 3 h }

to4 : (u : ℕ) → AreLinked triangle_net u 4 → u ≢ 4 → IsEdge triangle_net any_automaton (vertex u) (vertex 4)
to4 u l h = record { follows = inr l; symbol = tt; inside = λ x. false_true x; state = refl; turns = other u 4 h }

last3 : IsLast triangle_net any_automaton 1 (vertex 3)
last3 = record { follows = inr l31; accepts = refl }

-- Vertices.

abbrev inside : List Vertex
inside = vertex 0 ∷ vertex 2 ∷ vertex 3 ∷ vertex 4 ∷ []

e02 : IsEdge triangle_net any_automaton (vertex 0) (vertex 2)
e02 = to2 0 l02 (λ e. omega arith)

e23 : IsEdge triangle_net any_automaton (vertex 2) (vertex 3)
e23 = to3 2 l23 (λ e. omega arith)

e24 : IsEdge triangle_net any_automaton (vertex 2) (vertex 4)
e24 = to4 2 l24 (λ e. omega arith)

e43 : IsEdge triangle_net any_automaton (vertex 4) (vertex 3)
e43 = to3 4 l43 (λ e. omega arith)

are-between : (v : Vertex) → In v inside → IsOnWayBetween triangle_net any_automaton 0 1 v
are-between v (inl e) = subst (IsOnWayBetween triangle_net any_automaton 0 1) (sym e) (record { before = []; reached = refl; after = vertex 2 ∷ vertex 3 ∷ []; leads = (e02, (e23, last3)) })
are-between v (inr (inl e)) = subst (IsOnWayBetween triangle_net any_automaton 0 1) (sym e) (record { before = vertex 2 ∷ []; reached = (e02, refl); after = vertex 3 ∷ []; leads = (e23, last3) })
are-between v (inr (inr (inl e))) = subst (IsOnWayBetween triangle_net any_automaton 0 1) (sym e) (record { before = vertex 2 ∷ vertex 3 ∷ []; reached = (e02, (e23, refl)); after = []; leads = last3 })
are-between v (inr (inr (inr (inl e)))) = subst (IsOnWayBetween triangle_net any_automaton 0 1) (sym e) (record { before = vertex 2 ∷ vertex 4 ∷ []; reached = (e02, (e24, refl)); after = vertex 3 ∷ []; leads = (e43, last3) })
are-between v (inr (inr (inr (inr i)))) = absurd i

-- a vertex that an edge leads to is one of the switches
entered : (loc : ℕ) (fun : Option ℕ) (q state : ℕ) → IsSymbol triangle_net (record { loc = loc; fun = fun }) → (IsHost triangle_net loc → ⊥) → state ≡ any_automaton.step q (record { loc = loc; fun = fun }) → q ≡ 0 → In (record { symbol = record { loc = loc; fun = fun }; state = state }) inside
entered loc (Some f) q state s h e z = absurd (none loc s)
  where
    none : (l : ℕ) → IsSymbol triangle_net (record { loc = l; fun = Some f }) → ⊥
    none zero s = s
    none (suc zero) s = s
    none (suc (suc zero)) s = s
    none (suc (suc (suc zero))) s = s
    none (suc (suc (suc (suc zero)))) s = s
    none (suc (suc (suc (suc (suc l))))) s = s
entered zero None q state s h e z = absurd (h refl)
entered (suc zero) None q state s h e z = absurd (h refl)
entered (suc (suc zero)) None q state s h e z = inr (inl (ap (λ k. record { symbol = at 2; state = k }) (e ∙ z)))
entered (suc (suc (suc zero))) None q state s h e z = inr (inr (inl (ap (λ k. record { symbol = at 3; state = k }) (e ∙ z))))
entered (suc (suc (suc (suc zero)))) None q state s h e z = inr (inr (inr (inl (ap (λ k. record { symbol = at 4; state = k }) (e ∙ z)))))
entered (suc (suc (suc (suc (suc l))))) None q state s h e z = absurd s

state-in : (v : Vertex) → In v inside → v.state ≡ 0
state-in v (inl e) = ap (λ x. x.state) e
state-in v (inr (inl e)) = ap (λ x. x.state) e
state-in v (inr (inr (inl e))) = ap (λ x. x.state) e
state-in v (inr (inr (inr (inl e)))) = ap (λ x. x.state) e
state-in v (inr (inr (inr (inr i)))) = absurd i

reached-in : (x : Vertex) (us : List Vertex) (v : Vertex) → In x inside → LeadsTo triangle_net any_automaton x us v → In v inside
reached-in x [] v i h = subst (λ y. In y inside) h i
reached-in x (u ∷ us) v i h = reached-in u us v (entered u.symbol.loc u.symbol.fun x.state u.state h.0.symbol h.0.inside h.0.state (state-in x i)) h.1

-- Edges.

abbrev edges : List (ℕ × ℕ)
edges = (0, 1) ∷ (1, 2) ∷ (1, 3) ∷ (2, 1) ∷ (2, 3) ∷ (2, 4) ∷ (3, 1) ∷ (3, 2) ∷ []

are-joined : (e : ℕ × ℕ) → In e edges → IsJoined triangle_net any_automaton 1 inside e
are-joined e (inl s) = subst (IsJoined triangle_net any_automaton 1 inside) (sym s) (vertex 0, refl, inl (vertex 2, refl, e02))
are-joined e (inr (inl s)) = subst (IsJoined triangle_net any_automaton 1 inside) (sym s) (vertex 2, refl, inl (vertex 3, refl, e23))
are-joined e (inr (inr (inl s))) = subst (IsJoined triangle_net any_automaton 1 inside) (sym s) (vertex 2, refl, inl (vertex 4, refl, e24))
are-joined e (inr (inr (inr (inl s)))) = subst (IsJoined triangle_net any_automaton 1 inside) (sym s) (vertex 3, refl, inl (vertex 2, refl, to2 3 l32 (λ e. omega arith)))
are-joined e (inr (inr (inr (inr (inl s))))) = subst (IsJoined triangle_net any_automaton 1 inside) (sym s) (vertex 3, refl, inl (vertex 4, refl, to4 3 l34 (λ e. omega arith)))
are-joined e (inr (inr (inr (inr (inr (inl s)))))) = subst (IsJoined triangle_net any_automaton 1 inside) (sym s) (vertex 3, refl, inr (refl, last3))
are-joined e (inr (inr (inr (inr (inr (inr (inl s))))))) = subst (IsJoined triangle_net any_automaton 1 inside) (sym s) (vertex 4, refl, inl (vertex 2, refl, to2 4 l42 (λ e. omega arith)))
are-joined e (inr (inr (inr (inr (inr (inr (inr (inl s)))))))) = subst (IsJoined triangle_net any_automaton 1 inside) (sym s) (vertex 4, refl, inl (vertex 3, refl, e43))
are-joined e (inr (inr (inr (inr (inr (inr (inr (inr i)))))))) = absurd i

no-edge : (a b : ℕ) (v u : Vertex) → vertex a ≡ v → vertex b ≡ u → a ≢ b → leads a b (directed_links triangle_net) ≡ false → IsEdge triangle_net any_automaton v u → ⊥
no-edge a b v u e f apart none h = no-step a b v.symbol u.symbol (sym (ap loc_of e)) (sym (ap loc_of f)) apart none h.follows

no-turn : (a : ℕ) (v u : Vertex) → vertex a ≡ v → vertex a ≡ u → IsEdge triangle_net any_automaton v u → ⊥
no-turn a v u e f h = h.turns (sym e ∙ f)

no-host : (v u : Vertex) → vertex 0 ≡ u → IsEdge triangle_net any_automaton v u → ⊥
no-host v u f h = h.inside (subst (λ x. IsHost triangle_net (loc_of x)) f refl)

no-last : (a : ℕ) (v : Vertex) → vertex a ≡ v → a ≢ 1 → leads a 1 (directed_links triangle_net) ≡ false → IsLast triangle_net any_automaton 1 v → ⊥
no-last a v e apart none h = no-step a 1 v.symbol (at 1) (sym (ap loc_of e)) refl apart none h.follows

pair : (i j : ℕ) → (v : Vertex) → slice_get inside i ≡ Some v → (u : Vertex) → slice_get inside j ≡ Some u → IsEdge triangle_net any_automaton v u → In (i, j) edges
pair i zero v e u f h = absurd (no-host v u (some_some f) h)
pair zero (suc zero) v e u f h = inl refl
pair zero (suc (suc zero)) v e u f h = absurd (no-edge 0 3 v u (some_some e) (some_some f) (λ x. omega arith) refl h)
pair zero (suc (suc (suc zero))) v e u f h = absurd (no-edge 0 4 v u (some_some e) (some_some f) (λ x. omega arith) refl h)
pair (suc zero) (suc zero) v e u f h = absurd (no-turn 2 v u (some_some e) (some_some f) h)
pair (suc zero) (suc (suc zero)) v e u f h = inr (inl refl)
pair (suc zero) (suc (suc (suc zero))) v e u f h = inr (inr (inl refl))
pair (suc (suc zero)) (suc zero) v e u f h = inr (inr (inr (inl refl)))
pair (suc (suc zero)) (suc (suc zero)) v e u f h = absurd (no-turn 3 v u (some_some e) (some_some f) h)
pair (suc (suc zero)) (suc (suc (suc zero))) v e u f h = inr (inr (inr (inr (inl refl))))
pair (suc (suc (suc zero))) (suc zero) v e u f h = inr (inr (inr (inr (inr (inr (inl refl))))))
pair (suc (suc (suc zero))) (suc (suc zero)) v e u f h = inr (inr (inr (inr (inr (inr (inr (inl refl)))))))
pair (suc (suc (suc zero))) (suc (suc (suc zero))) v e u f h = absurd (no-turn 4 v u (some_some e) (some_some f) h)
pair (suc (suc (suc (suc i)))) j v e u f h = absurd (none_some e)
pair i (suc (suc (suc (suc j)))) v e u f h = absurd (none_some f)

final : (i : ℕ) (v : Vertex) → slice_get inside i ≡ Some v → IsLast triangle_net any_automaton 1 v → In (i, 4) edges
final zero v e h = absurd (no-last 0 v (some_some e) (λ x. omega arith) refl h)
final (suc zero) v e h = absurd (no-last 2 v (some_some e) (λ x. omega arith) refl h)
final (suc (suc zero)) v e h = inr (inr (inr (inr (inr (inl refl)))))
final (suc (suc (suc zero))) v e h = absurd (no-last 4 v (some_some e) (λ x. omega arith) refl h)
final (suc (suc (suc (suc i)))) v e h = absurd (none_some e)

joined-in : (e : ℕ × ℕ) → IsJoined triangle_net any_automaton 1 inside e → In e edges
joined-in (i, j) h = by h.2
  where
    by : ((u : Vertex) × (slice_get inside j ≡ Some u) × IsEdge triangle_net any_automaton h.0 u) ⊎ ((j ≡ 4) × IsLast triangle_net any_automaton 1 h.0) → In (i, j) edges
    by (inl u) = pair i j h.0 h.1 u.0 u.1 u.2
    by (inr z) = subst (λ k. In (i, k) edges) (sym z.0) (final i h.0 h.1 z.1)

pub triangle-trimmed : IsTrimmedProduct triangle_net any_automaton 0 1 triangle_product
triangle-trimmed = record {
  inner = vertex 2 ∷ vertex 3 ∷ vertex 4 ∷ [];
  state = 0;
  vertices = refl;
  exactly = λ v. ((λ c. are-between v (in_from inside v c)), (λ b. in_to inside v (reached-in (vertex 0) b.before v (inl refl) b.reached)));
  others = (other 0 2 (λ e. omega arith), (other 0 3 (λ e. omega arith), (other 0 4 (λ e. omega arith), tt)));
  ascending = ((inl (omega arith), (inl (omega arith), tt)), ((inl (omega arith), tt), (tt, tt)));
  entered = (vertex 3, in_to inside (vertex 3) (inr (inr (inl refl))), last3, refl);
  least = λ v c l. omega arith;
  joined = λ e. ((λ c. are-joined e (in_from edges e c)), (λ j. in_to edges e (joined-in e j)));
  in_order = ((inl (omega arith), (inl (omega arith), (inl (omega arith), (inl (omega arith), (inl (omega arith), (inl (omega arith), (inl (omega arith), tt))))))), ((inr (refl, omega arith), (inl (omega arith), (inl (omega arith), (inl (omega arith), (inl (omega arith), (inl (omega arith), tt)))))), ((inl (omega arith), (inl (omega arith), (inl (omega arith), (inl (omega arith), (inl (omega arith), tt))))), ((inr (refl, omega arith), (inr (refl, omega arith), (inl (omega arith), (inl (omega arith), tt)))), ((inr (refl, omega arith), (inl (omega arith), (inl (omega arith), tt))), ((inl (omega arith), (inl (omega arith), tt)), ((inr (refl, omega arith), tt), (tt, tt))))))));
}
