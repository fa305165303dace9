-- What products come to, one after the other.
use Rattle.std.proofs.Common.{◌≡◌, ◌⊎◌, inl, inr, ℕ, List, [], ◌∷◌, ◌++◌, length, Contains, Option, None, Some, refl, sym, ◌∙◌, ap, subst, arith}
use Rattle.std.specs.Prelude.{sum_by, IsSome}
use Rattle.std.specs.List.{AllZip}
use Rattle.std.proofs.lemmas.List.Sums.{sum_by_push}
use Rattle.merlin_model.specs.Networks.{Network}
use Rattle.merlin_model.proofs.Members.{in_to, in_append-right}
use Rattle.rules_model.specs.Products.{Vertex, Group, IsVertex}
use Rattle.rules_model.specs.Tables.{TagKey as ModelKey, tag_key_of}
use Rattle.product_graph.specs.Products.{dest_of}
use Rattle.product_graph.proofs.Lists.{all-map, none-some, contains-left, contains-right, contains-last, contains-one, contains-snoc, contains-none}
use Rattle.openflow_rules.specs.declared.fault.RuleFault.{RuleFault}
use Rattle.openflow_rules.specs.declared.fault.RuleFault.TheVariants.{TooManyTags, TooManyCells, TooManyEntries, OutOfMemory}
use Rattle.openflow_rules.specs.declared.spans.GroupSpan.{GroupSpan}
use Rattle.openflow_rules.specs.declared.gathering.Gathered.{Gathered}
use Rattle.openflow_rules.specs.Planning.{entries_in}
use Rattle.openflow_rules.specs.Gathered.{IsRoomAfter, IsRoomBeside, IsKeyPut, IsTagOfVertex, AreTagsPut, IsTagFault, AreInnerOf, IsBranchKept, IsBranchFor, IsTagIn, IsAddition, IsGathered}
use Rattle.openflow_rules.proofs.Counting.{room-next}

-- keys of a kind are keys of a wider kind
pub fault-wider : (P Q : ModelKey → Type 0) → ((k : ModelKey) → P k → Q k) → (f : RuleFault) → IsTagFault P f → IsTagFault Q f
fault-wider P Q wider (TooManyTags count) h = (record { keys = h.0.keys; ascend = h.0.ascend; each = all-map P Q wider h.0.keys h.0.each; many = h.0.many }, h.1)
fault-wider P Q wider (TooManyCells count) h = h
fault-wider P Q wider (TooManyEntries count) h = h
fault-wider P Q wider OutOfMemory h = h

-- The tags of vertices, one after the other.
module _ (group : ℕ) where
  of-more : (vs : List Vertex) (v : Vertex) (k : ModelKey) → IsTagOfVertex group vs k ⊎ (k ≡ tag_key_of group v) → IsTagOfVertex group (vs ++ v ∷ []) k
  of-more vs v k (inl h) = (h.0, contains-left vs (v ∷ []) h.0 h.1, h.2)
  of-more vs v k (inr e) = (v, contains-last vs v, e)

  more-of : (vs : List Vertex) (v : Vertex) (k : ModelKey) → IsTagOfVertex group (vs ++ v ∷ []) k → IsTagOfVertex group vs k ⊎ (k ≡ tag_key_of group v)
  more-of vs v k h = by (contains-snoc vs v h.0 h.1)
    where
      by : Contains vs h.0 ⊎ (h.0 ≡ v) → IsTagOfVertex group vs k ⊎ (k ≡ tag_key_of group v)
      by (inl c) = inl (h.0, c, h.2)
      by (inr e) = inr (h.2 ∙ ap (tag_key_of group) e)

  pub tags-none : (tags : List ModelKey) → AreTagsPut group [] tags tags
  tags-none tags k = (inl, λ h. by h)
    where
      by : Contains tags k ⊎ IsTagOfVertex group [] k → Contains tags k
      by (inl c) = c
      by (inr h) = absurd (contains-none h.0 h.1)

  pub tags-next : (vs : List Vertex) (v : Vertex) (old mid new : List ModelKey) → AreTagsPut group vs old mid → IsKeyPut (tag_key_of group v) mid new → AreTagsPut group (vs ++ v ∷ []) old new
  tags-next vs v old mid new h put k = (λ c. to ((put k).0 c), λ s. (put k).1 (from s))
    where
      to : Contains mid k ⊎ (k ≡ tag_key_of group v) → Contains old k ⊎ IsTagOfVertex group (vs ++ v ∷ []) k
      to (inr e) = inr (of-more vs v k (inr e))
      to (inl c) = old-or ((h k).0 c)
        where
          old-or : Contains old k ⊎ IsTagOfVertex group vs k → Contains old k ⊎ IsTagOfVertex group (vs ++ v ∷ []) k
          old-or (inl o) = inl o
          old-or (inr t) = inr (of-more vs v k (inl t))

      from : Contains old k ⊎ IsTagOfVertex group (vs ++ v ∷ []) k → Contains mid k ⊎ (k ≡ tag_key_of group v)
      from (inl o) = inl ((h k).1 (inl o))
      from (inr t) = mid-or (more-of vs v k t)
        where
          mid-or : IsTagOfVertex group vs k ⊎ (k ≡ tag_key_of group v) → Contains mid k ⊎ (k ≡ tag_key_of group v)
          mid-or (inl u) = inl ((h k).1 (inr u))
          mid-or (inr e) = inr e

  -- what the fault of one more vertex is for all of them
  pub tag-wider : (vs rest : List Vertex) (v : Vertex) (old mid : List ModelKey) → AreTagsPut group vs old mid → (k : ModelKey) → Contains mid k ⊎ (k ≡ tag_key_of group v) → Contains old k ⊎ IsTagOfVertex group (vs ++ v ∷ rest) k
  tag-wider vs rest v old mid h k (inl c) = by ((h k).0 c)
    where
      by : Contains old k ⊎ IsTagOfVertex group vs k → Contains old k ⊎ IsTagOfVertex group (vs ++ v ∷ rest) k
      by (inl o) = inl o
      by (inr t) = inr (t.0, contains-left vs (v ∷ rest) t.0 t.1, t.2)
  tag-wider vs rest v old mid h k (inr e) = inr (v, contains-mid vs, e)
    where
      contains-mid : (xs : List Vertex) → Contains (xs ++ v ∷ rest) v
      contains-mid xs = in_to (xs ++ v ∷ rest) v (in_append-right xs (v ∷ rest) v (inl refl))

-- The products, one after the other.
module _ (net : Network) (groups : List Group) where
  zip-snoc : {X Y : Type 0} (R : X → Y → Type 0) (xs : List X) (x : X) (ys : List Y) (y : Y) → AllZip R xs ys → R x y → AllZip R (xs ++ x ∷ []) (ys ++ y ∷ [])
  zip-snoc R [] x [] y h is = (is, tt)
  zip-snoc R [] x (v ∷ ys) y h is = absurd h
  zip-snoc R (u ∷ xs) x [] y h is = absurd h
  zip-snoc R (u ∷ xs) x (v ∷ ys) y h is = (h.0, zip-snoc R xs x ys y h.1 is)

  -- a tag of one product is one of all
  pub in-more : (spans more : List GroupSpan) (k : ModelKey) → IsTagIn net groups spans k → IsTagIn net groups (spans ++ more) k
  in-more spans more k t = record { span = t.span; among = contains-left spans more t.span t.among; vertex = t.vertex; outside = t.outside; stands = t.stands; is = t.is }

  in-last : (spans : List GroupSpan) (s : GroupSpan) (k : ModelKey) → IsTagIn net groups (s ∷ []) k → IsTagIn net groups (spans ++ s ∷ []) k
  in-last spans s k t = record { span = t.span; among = contains-right spans (s ∷ []) t.span t.among; vertex = t.vertex; outside = t.outside; stands = t.stands; is = t.is }

  pub of-inner : (s : GroupSpan) (vs : List Vertex) → AreInnerOf net groups s vs → (k : ModelKey) → IsTagOfVertex s.group vs k → IsTagIn net groups (s ∷ []) k
  of-inner s vs are k h =
      let v = (are.are h.0).0 h.1 in
      record { span = s; among = contains-last [] s; vertex = h.0; outside = v.0; stands = v.1; is = h.2 }

  inner-of : (s : GroupSpan) (vs : List Vertex) → AreInnerOf net groups s vs → (k : ModelKey) → (t : IsTagIn net groups (s ∷ []) k) → IsTagOfVertex s.group vs k
  inner-of s vs are k t =
      let same : t.span ≡ s = contains-one s t.span t.among in
      (t.vertex, (are.are t.vertex).1 (t.outside, subst (λ x. IsVertex net groups x.group (dest_of x.span) t.vertex) same t.stands), t.is ∙ ap (λ x. tag_key_of x.group t.vertex) same)

  last-or : (spans : List GroupSpan) (s : GroupSpan) (k : ModelKey) → IsTagIn net groups (spans ++ s ∷ []) k → IsTagIn net groups spans k ⊎ IsTagIn net groups (s ∷ []) k
  last-or spans s k t = by (contains-snoc spans s t.span t.among)
    where
      by : Contains spans t.span ⊎ (t.span ≡ s) → IsTagIn net groups spans k ⊎ IsTagIn net groups (s ∷ []) k
      by (inl c) = inl (record { span = t.span; among = c; vertex = t.vertex; outside = t.outside; stands = t.stands; is = t.is })
      by (inr e) = inr (record { span = t.span; among = subst (λ x. Contains (s ∷ []) x) (sym e) (contains-last [] s); vertex = t.vertex; outside = t.outside; stands = t.stands; is = t.is })

  pub gathered-none : (g : Gathered) → g.tags ≡ [] → IsRoomBeside 0 g.room → g.branches ≡ [] → IsGathered net groups [] g
  gathered-none g none room empty = record {
    tags = λ k. (λ c. absurd (contains-none k (subst (λ l. Contains l k) none c)), λ t. absurd (contains-none t.span t.among));
    few = let e : length g.tags ≡ 0 = ap length none in omega (arith, e);
    vertices = [];
    are = tt;
    room = room;
    branches = λ some. subst (AllZip (IsBranchFor net groups) []) (sym empty) tt;
  }

  pub gathered-next : (spans : List GroupSpan) (s : GroupSpan) (old new : Gathered) → IsGathered net groups spans old → IsAddition net groups s old new → IsGathered net groups (spans ++ s ∷ []) new
  gathered-next spans s old new h add = record {
    tags = λ k. (λ c. to k ((add.tags k).0 c), λ t. (add.tags k).1 (from k (last-or spans s k t)));
    few = add.few;
    vertices = h.vertices ++ add.vertices ∷ [];
    are = zip-snoc (AreInnerOf net groups) spans s h.vertices add.vertices h.are add.are;
    room = subst (λ n. IsRoomBeside n new.room) (sym (sum_by_push entries_in h.vertices add.vertices)) (room-next (sum_by entries_in h.vertices) (entries_in add.vertices) old.room new.room h.room add.room);
    branches = λ some. kept old.room new.room h.branches add.room add.kept some;
  }
    where
      to : (k : ModelKey) → Contains old.tags k ⊎ IsTagOfVertex s.group add.vertices k → IsTagIn net groups (spans ++ s ∷ []) k
      to k (inl c) = in-more spans (s ∷ []) k ((h.tags k).0 c)
      to k (inr t) = in-last spans s k (of-inner s add.vertices add.are k t)

      from : (k : ModelKey) → IsTagIn net groups spans k ⊎ IsTagIn net groups (s ∷ []) k → Contains old.tags k ⊎ IsTagOfVertex s.group add.vertices k
      from k (inl t) = inl ((h.tags k).1 t)
      from k (inr t) = inr (inner-of s add.vertices add.are k t)

      kept : (before after : Option ℕ) → (IsSome before → AllZip (IsBranchFor net groups) spans old.branches) → IsRoomAfter before (entries_in add.vertices) after → IsBranchKept after add.branch old.branches new.branches → IsSome after → AllZip (IsBranchFor net groups) (spans ++ s ∷ []) new.branches
      kept before None all room keep some = let no : ⊥ = cc in absurd no
      kept None (Some left) all room keep some = absurd (none-some (sym room))
      kept (Some r) (Some left) all room keep some = subst (AllZip (IsBranchFor net groups) (spans ++ s ∷ [])) (sym keep) (zip-snoc (IsBranchFor net groups) spans s old.branches add.branch (all refl) add.branch_is)

  -- what the fault of one more product is for all of them
  pub gathered-wider : (spans rest : List GroupSpan) (s : GroupSpan) (g : Gathered) → IsGathered net groups spans g → (k : ModelKey) → Contains g.tags k ⊎ IsTagIn net groups (s ∷ []) k → IsTagIn net groups (spans ++ s ∷ rest) k
  gathered-wider spans rest s g h k (inl c) = in-more spans (s ∷ rest) k ((h.tags k).0 c)
  gathered-wider spans rest s g h k (inr t) =
      let same : t.span ≡ s = contains-one s t.span t.among in
      record { span = t.span; among = in_to (spans ++ s ∷ rest) t.span (in_append-right spans (s ∷ rest) t.span (inl same)); vertex = t.vertex; outside = t.outside; stands = t.stands; is = t.is }

  -- the tags that were there, and those of one more product
  pub of-inner-or : (s : GroupSpan) (vs : List Vertex) → AreInnerOf net groups s vs → (old : List ModelKey) (k : ModelKey) → Contains old k ⊎ IsTagOfVertex s.group vs k → Contains old k ⊎ IsTagIn net groups (s ∷ []) k
  of-inner-or s vs are old k (inl c) = inl c
  of-inner-or s vs are old k (inr t) = inr (of-inner s vs are k t)
