-- The ceilings of a capped statement sum to its cap, and each class has one line.
use Rattle.std.proofs.Common.{◌≡◌, ◌≢◌, ℕ, zero, suc, ◌+◌, ◌<◌, ◌⊎◌, inl, inr, nat_lt, Bool, true, false, cond, List, [], ◌∷◌, ◌++◌, length, map, sum, sum_by, Contains, Some, is_some, unwrap_or, slice_get, refl, sym, ◌∙◌, ap, subst, arith}
use Rattle.std.proofs.lemmas.List.Sums.{sum_by-cons}
use Rattle.std.specs.List.{AllZip, flat_map, list_any, range_with_len}
use Rattle.merlin_model.specs.declared.policy.Symbol.{Symbol}
use Rattle.merlin_model.specs.declared.policy.Ends.{Ends}
use Rattle.merlin_model.specs.declared.config.HostLine.{HostLine}
use Rattle.merlin_model.specs.declared.config.HostLine.TheVariants as line
use Rattle.merlin_model.specs.declared.config.Config.{Config}
use Rattle.merlin_model.specs.Networks.{Network, IsHost, Pairwise}
use Rattle.merlin_model.specs.Policies.{Policy, paths_of}
use Rattle.merlin_model.specs.Rates.{share, max_of, min_of, IsGuaranteed, IsLiveSource, AreLiveSources, IsShareAt}
use Rattle.merlin_model.specs.Assignments.{AreTheEnds}
use Rattle.merlin_model.specs.Headline.{IsClassed, IsCeiling, KeepsCaps, HasOneLinePerClass}
use Rattle.merlin_model.proofs.Members.{In, in_from, in_to, in_map, all_in, in_append, in_flat_map}
use Rattle.merlin_model.proofs.Ascending.{increasing-pairwise, share-same}
use Rattle.merlin_model.proofs.ShareLaws.{share-sum}
use Rattle.merlin_model.proofs.Traces.{Some-inj}
use Rattle.rules_model.specs.Tables.{all_hosts}
use Rattle.predicate_split.specs.declared.pair_cells.Cell.{Cell as HostCell}
use Rattle.configuration_model.specs.Hosts.{share_at, is_out, is_classed, classed_at, class_at, rate_at, ceiling_at, link_capacity, class_lines, match_of_cell, owner_is, reading_of, readings, output_of_cell, outputs, others, headed, lines_at, host_lines}
use Rattle.configuration_model.specs.Compiled.{IsMade}
use Rattle.configuration_model.proofs.Lists.{false-true, at-in, all_from, pairwise-append, pairwise-flat, pairwise-place, hosts-differ}
use Rattle.configuration_model.proofs.Dropped.{is-share}
use Rattle.configuration_model.proofs.Capped.{positive, positive-is, one-member, is-classed, below-source, class-of, class-line, in-its-class}

-- what holds at each place
zip-places : (R : ℕ → ℕ → Type 0) (f : ℕ → ℕ) (hosts : List ℕ) (a : ℕ) → ((k h : ℕ) → slice_get hosts k ≡ Some h → R h (f (a + k))) → AllZip R hosts (map f (range_with_len a (length hosts)))
zip-places R f [] a each = tt
zip-places R f (h ∷ hosts) a each =
    let here : a + 0 ≡ a = omega arith in (
      subst (λ n. R h (f n)) here (each 0 h refl),
      zip-places R f hosts (a + 1) (λ k x e. let there : a + suc k ≡ a + 1 + k = omega arith in subst (λ n. R x (f n)) there (each (suc k) x e)),
    )

sum-map : (f : ℕ → ℕ) (xs : List ℕ) → sum (map f xs) ≡ sum_by f xs
sum-map f [] = refl
sum-map f (x ∷ xs) = let ih = sum-map f xs in let this = sum_by-cons f x xs in let that = sum_by-cons (λ n. n) (f x) (map f xs) in omega arith

some-length : (xs : List ℕ) → xs ≢ [] → 0 < length xs
some-length [] some = absurd (some refl)
some-length (x ∷ xs) some = omega arith

some-member : (xs : List ℕ) → xs ≢ [] → (x : ℕ) × In x xs
some-member [] some = absurd (some refl)
some-member (x ∷ xs) some = (x, inl refl)

-- the parts of a class line
host_in : HostLine → ℕ
host_in (line.Class h x r c) = h
host_in (line.Root h) = 0
host_in (line.Classify h m x) = 0
host_in (line.Leave h m) = 0
host_in (line.Output h m d) = 0

number_of : HostLine → ℕ
number_of (line.Class h x r c) = x
number_of (line.Root h) = 0
number_of (line.Classify h m x) = 0
number_of (line.Leave h m) = 0
number_of (line.Output h m d) = 0

rate_in : HostLine → ℕ
rate_in (line.Class h x r c) = r
rate_in (line.Root h) = 0
rate_in (line.Classify h m x) = 0
rate_in (line.Leave h m) = 0
rate_in (line.Output h m d) = 0

ceiling_in : HostLine → ℕ
ceiling_in (line.Class h x r c) = c
ceiling_in (line.Root h) = 0
ceiling_in (line.Classify h m x) = 0
ceiling_in (line.Leave h m) = 0
ceiling_in (line.Output h m d) = 0

is_class : HostLine → Bool
is_class (line.Class h x r c) = true
is_class (line.Root h) = false
is_class (line.Classify h m x) = false
is_class (line.Leave h m) = false
is_class (line.Output h m d) = false

-- not two lines of one class
abbrev AreOtherClasses : HostLine → HostLine → Type 0
AreOtherClasses k l = is_class k ≡ true → is_class l ≡ true → host_in k ≡ host_in l → number_of k ≡ number_of l → ⊥

module _ (net : Network) (policy : Policy) (sources : List (List ℕ)) (cells : ℕ → ℕ → List HostCell) where
  -- where a line of a class comes from
  record HasPlace (x : ℕ) (js : List ℕ) (s : ℕ) (l : HostLine) : Type 0 where
    place : ℕ
    statement : ℕ
    stands : slice_get js place ≡ Some statement
    host : host_in l ≡ s
    number : number_of l ≡ x + place
    rate : rate_in l ≡ rate_at net policy sources cells statement s
    ceiling : ceiling_in l ≡ ceiling_at net policy sources cells statement s

  placed : (s x : ℕ) (js : List ℕ) (l : HostLine) → In l (class_lines net policy sources cells s x js) → HasPlace x js s l
  unfolding host_in number_of rate_in ceiling_in
  placed s x [] l i = absurd i
  placed s x (j ∷ js) l (inl e) = record {
    place = 0;
    statement = j;
    stands = refl;
    host = ap host_in e;
    number = ap number_of e ∙ plus x;
    rate = ap rate_in e;
    ceiling = ap ceiling_in e;
  }
    where
      plus : (n : ℕ) → n ≡ n + 0
      plus n = omega arith
  placed s x (j ∷ js) l (inr i) =
      let later = placed s (suc x) js l i in
      record { place = suc later.place; statement = later.statement; stands = later.stands; host = later.host; number = (let e = later.number in omega arith); rate = later.rate; ceiling = later.ceiling }

  -- no other line is a class
  readings-none : (h d : ℕ) (l : HostLine) → In l (readings net policy sources cells h d) → is_class l ≡ false
  unfolding is_class
  readings-none h d l i = by (list_any (λ c. is_classed net policy sources cells (owner_is net policy sources cells c) h) (cells h d)) i
    where
      one : (c : HostCell) (b : Bool) → In l (cond b (line.Classify h (match_of_cell net policy sources cells h d c) (class_at net policy sources cells h (owner_is net policy sources cells c)) ∷ line.Leave h (match_of_cell net policy sources cells h d c) ∷ []) (line.Leave h (match_of_cell net policy sources cells h d c) ∷ [])) → is_class l ≡ false
      one c true (inl e) = ap is_class e
      one c true (inr (inl e)) = ap is_class e
      one c true (inr (inr e)) = absurd e
      one c false (inl e) = ap is_class e
      one c false (inr e) = absurd e

      by : (b : Bool) → In l (cond b (flat_map (reading_of net policy sources cells h d) (cells h d)) []) → is_class l ≡ false
      by true i = let made = in_flat_map (reading_of net policy sources cells h d) (cells h d) l i in one made.0 (is_classed net policy sources cells (owner_is net policy sources cells made.0) h) made.2
      by false i = absurd i

  outputs-none : (h d : ℕ) (l : HostLine) → In l (outputs net policy sources cells h d) → is_class l ≡ false
  unfolding is_class
  outputs-none h d l i = by (list_any (λ c. is_out net policy sources cells (owner_is net policy sources cells c) h) (cells h d)) i
    where
      by : (b : Bool) → In l (cond b (map (output_of_cell net policy sources cells h d) (cells h d)) []) → is_class l ≡ false
      by true i = let made = in_map (output_of_cell net policy sources cells h d) (cells h d) l i in ap is_class made.2
      by false i = absurd i

  -- nor are those of both lists
  reads-none : (h : ℕ) (l : HostLine) → In l (flat_map (readings net policy sources cells h) (others net policy sources cells h) ++ flat_map (outputs net policy sources cells h) (others net policy sources cells h)) → is_class l ≡ false
  reads-none h l i = rest (in_append (flat_map (readings net policy sources cells h) (others net policy sources cells h)) (flat_map (outputs net policy sources cells h) (others net policy sources cells h)) l i)
    where
      rest : In l (flat_map (readings net policy sources cells h) (others net policy sources cells h)) ⊎ In l (flat_map (outputs net policy sources cells h) (others net policy sources cells h)) → is_class l ≡ false
      rest (inl j) = let made = in_flat_map (readings net policy sources cells h) (others net policy sources cells h) l j in readings-none h made.0 l made.2
      rest (inr j) = let made = in_flat_map (outputs net policy sources cells h) (others net policy sources cells h) l j in outputs-none h made.0 l made.2

  headed-class : (h : ℕ) (l : HostLine) (lines : List HostLine) → is_class l ≡ true → In l (headed net policy sources cells h lines) → In l lines
  unfolding is_class
  headed-class h l [] c i = i
  headed-class h l (x ∷ lines) c (inl e) = absurd (false-true (sym (ap is_class e) ∙ c))
  headed-class h l (x ∷ lines) c (inr i) = i

  -- a class line of a host comes from its place there
  class-at : (h : ℕ) (l : HostLine) → is_class l ≡ true → In l (lines_at net policy sources cells h) → HasPlace 1 (classed_at net policy sources cells h) h l
  class-at h l c i = by (in_append (headed net policy sources cells h (class_lines net policy sources cells h 1 (classed_at net policy sources cells h)))
      (flat_map (readings net policy sources cells h) (others net policy sources cells h) ++ flat_map (outputs net policy sources cells h) (others net policy sources cells h)) l i)
    where
      by : In l (headed net policy sources cells h (class_lines net policy sources cells h 1 (classed_at net policy sources cells h)))
          ⊎ In l (flat_map (readings net policy sources cells h) (others net policy sources cells h) ++ flat_map (outputs net policy sources cells h) (others net policy sources cells h)) →
          HasPlace 1 (classed_at net policy sources cells h) h l
      by (inl j) = placed h 1 (classed_at net policy sources cells h) l (headed-class h l _ c j)
      by (inr j) = absurd (false-true (sym (reads-none h l j) ∙ c))

  classes-apart : (h x : ℕ) (js : List ℕ) → Pairwise AreOtherClasses (class_lines net policy sources cells h x js)
  unfolding number_of
  classes-apart h x [] = tt
  classes-apart h x (j ∷ js) = (all_from (AreOtherClasses (line.Class h x (rate_at net policy sources cells j h) (ceiling_at net policy sources cells j h))) (class_lines net policy sources cells h (suc x) js) (λ l i c d e n. later l (placed h (suc x) js l i) n), classes-apart h (suc x) js)
    where
      later : (l : HostLine) → HasPlace (suc x) js h l → x ≡ number_of l → ⊥
      later l p n = let e = p.number in let no : ⊥ = omega arith in no

  headed-apart : (h : ℕ) (lines : List HostLine) → Pairwise AreOtherClasses lines → Pairwise AreOtherClasses (headed net policy sources cells h lines)
  unfolding is_class
  headed-apart h [] p = tt
  headed-apart h (l ∷ lines) p = (all_from (AreOtherClasses (line.Root h)) (l ∷ lines) (λ k i c. absurd (false-true c)), p)

  none-apart : (lines : List HostLine) → ((l : HostLine) → In l lines → is_class l ≡ false) → Pairwise AreOtherClasses lines
  none-apart [] none = tt
  none-apart (l ∷ lines) none = (all_from (AreOtherClasses l) lines (λ k i c. absurd (false-true (sym (none l (inl refl)) ∙ c))), none-apart lines (λ k i. none k (inr i)))

  lines-apart : Pairwise AreOtherClasses (host_lines net policy sources cells)
  lines-apart = pairwise-flat AreOtherClasses (λ h k. h ≢ k) (lines_at net policy sources cells) (all_hosts net) (hosts-differ net)
      (λ h. pairwise-append AreOtherClasses (headed net policy sources cells h (class_lines net policy sources cells h 1 (classed_at net policy sources cells h)))
      (flat_map (readings net policy sources cells h) (others net policy sources cells h) ++ flat_map (outputs net policy sources cells h) (others net policy sources cells h))
      (headed-apart h (class_lines net policy sources cells h 1 (classed_at net policy sources cells h)) (classes-apart h 1 (classed_at net policy sources cells h)))
      (none-apart _ (reads-none h))
      (λ k l i j c d. absurd (false-true (sym (reads-none h l j) ∙ d))))
      (λ h k other a b i j c d e n. other (sym (class-at h a c i).host ∙ e ∙ (class-at k b d j).host))

module _ (net : Network) (policy : Policy) (ends : List Ends) (walks : List (List Symbol)) (config : Config) (m : IsMade net policy ends walks config) where
  pub has-one-line : HasOneLinePerClass config
  unfolding is_class host_in number_of
  has-one-line i j s x r c q d e f =
      pairwise-place AreOtherClasses config.hosts (subst (Pairwise AreOtherClasses) (sym m.hosts) (lines-apart net policy m.sources m.cells)) i j (line.Class s x r c) (line.Class s x q d) e f
      (λ no. no refl refl refl refl) (λ no. no refl refl refl refl)

  source-host : (i s : ℕ) → IsLiveSource net policy i s → IsHost net s
  source-host i s l = ap is_some l.allowed.proper.source

  the-ends : (i : ℕ) → IsGuaranteed policy i → (e : Ends) × (i ≡ e.statement) × AreTheEnds net policy e
  the-ends i g =
      let member = in_map (λ e. e.statement) ends i (in_from (map (λ e. e.statement) ends) i (m.ends_are.all i g)) in
      (member.0, member.2, all_in (AreTheEnds net policy) ends member.0 m.ends_are.each member.1)

  module _ (i cap : ℕ) (hosts : List ℕ) (capped : max_of policy i ≡ Some cap) (are : AreLiveSources net policy i hosts) (some : hosts ≢ []) where
    live : (s : ℕ) → In s hosts → IsLiveSource net policy i s
    live s h = (are.exactly s).0 (in_to hosts s h)

    below : i < length (paths_of policy)
    below = let s = some-member hosts some in below-source net policy ends walks config m i s.0 (live s.0 s.1)

    -- a guaranteed statement has one live source, and its cap as ceiling there
    for-guaranteed : IsGuaranteed policy i → (ceilings : List ℕ) × AllZip (IsCeiling net policy ends walks config i) hosts ceilings × (sum ceilings ≡ cap)
    for-guaranteed g = (cap ∷ [], subst (λ hs. AllZip (IsCeiling net policy ends walks config i) hs (cap ∷ [])) (sym one) (ceiling, tt), sum_by-cons (λ n. n) cap [] ∙ plus cap)
      where
        plus : (n : ℕ) → n + 0 ≡ n
        plus n = omega arith

        e : (e : Ends) × (i ≡ e.statement) × AreTheEnds net policy e
        e = the-ends i g

        only : (h : ℕ) → In h hosts → h ≡ e.0.src
        only h j = let l = live h j in (e.2.only h l.allowed.to (record { packet = l.packet; is_packet = l.is_packet; proper = l.allowed.proper; matches = l.matches ∙ e.1 })).0

        one : hosts ≡ e.0.src ∷ []
        one = one-member e.0.src hosts (increasing-pairwise hosts are.ascending) only some

        source : IsLiveSource net policy i e.0.src
        source = live e.0.src (subst (In e.0.src) (sym one) (inl refl))

        is : is_classed net policy m.sources m.cells i e.0.src ≡ true
        is = is-classed net policy ends walks config m i e.0.src below (source, inl g)

        limit : ceiling_at net policy m.sources m.cells i e.0.src ≡ cap
        limit =
            ap (λ b. cond b (unwrap_or (max_of policy i) (link_capacity net policy m.sources m.cells e.0.src)) (unwrap_or (share_at net policy m.sources m.cells i e.0.src) 0)) (positive-is (min_of policy i) g)
            ∙ ap (λ o. unwrap_or o (link_capacity net policy m.sources m.cells e.0.src)) capped

        ceiling : IsCeiling net policy ends walks config i e.0.src cap
        ceiling = inr (
          class_at net policy m.sources m.cells e.0.src i,
          rate_at net policy m.sources m.cells i e.0.src,
          class-of net policy ends walks config m i e.0.src below is,
          subst (λ c. Contains config.hosts (line.Class e.0.src (class_at net policy m.sources m.cells e.0.src i) (rate_at net policy m.sources m.cells i e.0.src) c)) limit
              (class-line net policy ends walks config m i e.0.src (source-host i e.0.src source) below is),
        )

    -- else each live source has its share
    for-shares : nat_lt 0 (min_of policy i) ≡ false → (ceilings : List ℕ) × AllZip (IsCeiling net policy ends walks config i) hosts ceilings × (sum ceilings ≡ cap)
    for-shares free = (
      map (share cap (length hosts)) (range_with_len 0 (length hosts)),
      zip-places (IsCeiling net policy ends walks config i) (share cap (length hosts)) hosts 0 (λ k h at. let start : 0 + k ≡ k = omega arith in subst (λ n. IsCeiling net policy ends walks config i h (share cap (length hosts) n)) (sym start) (each k h at)),
      sum-map (share cap (length hosts)) (range_with_len 0 (length hosts)) ∙ share-sum cap (length hosts) (some-length hosts some),
    )
      where
        not_guaranteed : IsGuaranteed policy i → ⊥
        not_guaranteed g = false-true (sym free ∙ positive-is (min_of policy i) g)

        each : (k h : ℕ) → slice_get hosts k ≡ Some h → IsCeiling net policy ends walks config i h (share cap (length hosts) k)
        each k h at = by (share cap (length hosts) k) refl
          where
            has : IsShareAt net policy i h (share cap (length hosts) k)
            has = record { cap = cap; capped = capped; hosts = hosts; sources = are; place = k; stands = at; value = refl }

            source : IsLiveSource net policy i h
            source = live h (at-in hosts k h at)

            by : (c : ℕ) → share cap (length hosts) k ≡ c → IsCeiling net policy ends walks config i h c
            by zero e = inl (none, refl)
              where
                none : IsClassed net policy ends walks config i h → ⊥
                none (l, inl g) = not_guaranteed g
                none (l, inr r) = let same = share-same net policy i h r.0 (share cap (length hosts) k) r.1 has in let above = r.2 in let no_way : ⊥ = omega arith in no_way
            by (suc c) e =
                let has_it : IsShareAt net policy i h (suc c) = subst (IsShareAt net policy i h) e has in
                let above : 0 < suc c = omega arith in
                let is : is_classed net policy m.sources m.cells i h ≡ true = is-classed net policy ends walks config m i h below (source, inr (suc c, has_it, above)) in
                let limit : ceiling_at net policy m.sources m.cells i h ≡ suc c =
                ap (λ b. cond b (unwrap_or (max_of policy i) (link_capacity net policy m.sources m.cells h)) (unwrap_or (share_at net policy m.sources m.cells i h) 0)) free
                ∙ ap (λ o. unwrap_or o 0) (is-share net policy m.sources m.sources_are i h (suc c) below has_it) in
                inr (
                  class_at net policy m.sources m.cells h i,
                  rate_at net policy m.sources m.cells i h,
                  class-of net policy ends walks config m i h below is,
                  subst (λ n. Contains config.hosts (line.Class h (class_at net policy m.sources m.cells h i) (rate_at net policy m.sources m.cells i h) n)) limit (class-line net policy ends walks config m i h (source-host i h source) below is),
                )

    pub sums : (ceilings : List ℕ) × AllZip (IsCeiling net policy ends walks config i) hosts ceilings × (sum ceilings ≡ cap)
    sums = by (nat_lt 0 (min_of policy i)) refl
      where
        by : (b : Bool) → nat_lt 0 (min_of policy i) ≡ b → (ceilings : List ℕ) × AllZip (IsCeiling net policy ends walks config i) hosts ceilings × (sum ceilings ≡ cap)
        by true e = for-guaranteed (positive (min_of policy i) e)
        by false e = for-shares e

  pub keeps-caps : KeepsCaps net policy ends walks config
  keeps-caps = record {
    sums = λ i cap hosts capped are some. sums i cap hosts capped are some;
    classed = λ s p c valid allowed share above. in-its-class net policy ends walks config m s p valid allowed c share above;
  }
