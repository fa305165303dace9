-- The least link on which a flow costs too much.
use Rattle.std.proofs.Common.{◌≡◌, ◌≤◌, ◌⊎◌, inl, inr, ℕ, List, [], ◌∷◌, ◌++◌, Contains, Option, None, Some, MatchOption, sym, ◌∙◌, subst, arith}
use Rattle.std.specs.List.{AllByRecursion}
use Rattle.merlin_model.specs.declared.network.DirectedLink.{DirectedLink}
use Rattle.cutoff_program.specs.declared.flow.FlowEdge.{FlowEdge}
use Rattle.cutoff_program.specs.declared.flow.Flow.{Flow}
use Rattle.product_graph.proofs.Lists.{some-same, all-snoc, contained-all, contains-left, contains-last, contains-snoc}
use Rattle.policy_flows.specs.Layouts.{IsLight}
use Rattle.policy_flows.specs.Faults.{CrossesLink, IsLightFlow, IsLeastHeavy}
use Rattle.policy_flows.specs.Weights.{IsHeavyEdge, IsLesserOf}

-- an edge crosses one link at most
one-link : (edge : FlowEdge) (k l : ℕ) → CrossesLink edge k → CrossesLink edge l → k ≡ l
one-link edge k l (inl a) (inl b) = let e = some-same (sym a ∙ b) in omega (arith, e)
one-link edge k l (inl a) (inr b) = let e = some-same (sym a ∙ b) in omega (arith, e)
one-link edge k l (inr a) (inl b) = let e = some-same (sym a ∙ b) in omega (arith, e)
one-link edge k l (inr a) (inr b) = let e = some-same (sym a ∙ b) in omega (arith, e)

module _ (links : List DirectedLink) (flow : Flow) where
  light-heavy : (edge : FlowEdge) (link : ℕ) → IsLight links flow edge → IsHeavyEdge links flow edge link → ⊥
  light-heavy edge link light heavy = let h = heavy.heavy in absurd (omega (arith, light, h))

  -- one of the edges is too heavy on the link
  pub record IsHeavyAmong (edges : List FlowEdge) (link : ℕ) : Type 0 where
    pub edge : FlowEdge
    pub has : Contains edges edge
    pub heavy : IsHeavyEdge links flow edge link
    pub least : (e : FlowEdge) (other : ℕ) → Contains edges e → IsHeavyEdge links flow e other → link ≤ other

  abbrev pub IsLeastAmong : List FlowEdge → Option ℕ → Type 0
  IsLeastAmong edges least = MatchOption least (AllByRecursion (IsLight links flow) edges) (IsHeavyAmong edges)

  module _ (es : List FlowEdge) (e : FlowEdge) where
    -- the last edge is the first that is too heavy
    last-heavy : (link : ℕ) → ((f : FlowEdge) (other : ℕ) → Contains es f → IsHeavyEdge links flow f other → link ≤ other) → IsHeavyEdge links flow e link → IsHeavyAmong (es ++ e ∷ []) link
    last-heavy link before heavy = record {
      edge = e;
      has = contains-last es e;
      heavy = heavy;
      least = λ f other c h. by f other h (contains-snoc es e f c);
    }
      where
        by : (f : FlowEdge) (other : ℕ) → IsHeavyEdge links flow f other → Contains es f ⊎ (f ≡ e) → link ≤ other
        by f other h (inl c) = before f other c h
        by f other h (inr same) = let eq : link ≡ other = one-link e link other heavy.crosses (subst (λ g. CrossesLink g other) same h.crosses) in omega (arith, eq)

    -- an edge before it is as heavy on a link that is no greater
    still-heavy : (link : ℕ) → IsHeavyAmong es link → ((other : ℕ) → IsHeavyEdge links flow e other → link ≤ other) → IsHeavyAmong (es ++ e ∷ []) link
    still-heavy link among last = record {
      edge = among.edge;
      has = contains-left es (e ∷ []) among.edge among.has;
      heavy = among.heavy;
      least = λ f other c h. by f other h (contains-snoc es e f c);
    }
      where
        by : (f : FlowEdge) (other : ℕ) → IsHeavyEdge links flow f other → Contains es f ⊎ (f ≡ e) → link ≤ other
        by f other h (inl c) = among.least f other c h
        by f other h (inr same) = last other (subst (λ g. IsHeavyEdge links flow g other) same h)

    pub least-more : (old here new : Option ℕ) → IsLeastAmong es old → MatchOption here (IsLight links flow e) (IsHeavyEdge links flow e) → IsLesserOf old here new → IsLeastAmong (es ++ e ∷ []) new
    least-more None None new all light is = subst (IsLeastAmong (es ++ e ∷ [])) (sym is) (all-snoc (IsLight links flow) es e all light)
    least-more None (Some link) new all heavy is = subst (IsLeastAmong (es ++ e ∷ [])) (sym is) (last-heavy link (λ f other c h. absurd (light-heavy f other (contained-all (IsLight links flow) es f all c) h)) heavy)
    least-more (Some old) None new among light is = subst (IsLeastAmong (es ++ e ∷ [])) (sym is) (still-heavy old among (λ other h. absurd (light-heavy e other light h)))
    least-more (Some old) (Some link) new among heavy (inl is) = subst (IsLeastAmong (es ++ e ∷ [])) (sym is.0) (still-heavy old among (λ other h. let eq : link ≡ other = one-link e link other heavy.crosses h.crosses in let le = is.1 in omega (arith, eq, le)))
    least-more (Some old) (Some link) new among heavy (inr is) = subst (IsLeastAmong (es ++ e ∷ [])) (sym is.0) (last-heavy link (λ f other c h. let le = among.least f other c h in let lt = is.1 in omega (arith, le, lt)) heavy)

  pub least-of : (least : Option ℕ) → IsLeastAmong flow.edges least → MatchOption least (IsLightFlow links flow) (IsLeastHeavy links flow)
  least-of None all = all
  least-of (Some link) among = record {
    heavy = record { edge = among.edge; has = among.has; crosses = among.heavy.crosses; heavy = among.heavy.heavy };
    least = λ other h. among.least h.edge other h.has (record { crosses = h.crosses; heavy = h.heavy });
  }
