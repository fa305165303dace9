-- What tells packets between two hosts apart: the protocols that are mentioned, and the ports under each.
use Rattle.std.proofs.Common.{Some, ◌≡◌, ◌⊎◌, ℕ, suc, inl, inr, false, ◌&&◌, ◌==◌, cond, List, [], ◌∷◌, refl, sym, ◌∙◌, ap, ap₂, subst, arith}
use Rattle.std.specs.List.{AllByRecursion, flat_map}
use Rattle.merlin_model.specs.declared.network.HostAddress.{HostAddress}
use Rattle.merlin_model.specs.declared.policy.Field.{Field}
use Rattle.merlin_model.specs.declared.policy.Field.TheVariants.{EthSrc, EthDst, IpSrc, IpDst, Proto, Sport, Dport}
use Rattle.merlin_model.specs.declared.policy.Test.{Test}
use Rattle.merlin_model.specs.declared.policy.Test.TheVariants.{Is, Port, Within}
use Rattle.merlin_model.specs.declared.policy.Pred.{Pred}
use Rattle.merlin_model.specs.Packets.{Packet, field_of}
use Rattle.merlin_model.specs.Predicates.{passes, holds, IsPred, IsPort, IsAddress}
use Rattle.packet_model.specs.Fields.{IsBetween}
use Rattle.merlin_model.proofs.Members.{In, in_append-left, in_append-right, in_flat_map, flat_map_in}
use Rattle.predicate_logic.specs.Residues.{residue, residues}
use Rattle.predicate_logic.specs.Mentions.{tests_of, test_mentions, mentions, ascending}
use Rattle.predicate_logic.proofs.Meanings.{residue-holds}
use Rattle.predicate_logic.proofs.Untested.{tests-decide}
use Rattle.predicate_logic.proofs.Placing.{in-ascending}
use Rattle.predicate_split.specs.Walks.{AreFresh}
use Rattle.predicate_split.specs.Left.{left_between}
use Rattle.predicate_split.specs.Cells.{owner_from, between_hosts}
use Rattle.predicate_split.proofs.Splitting.{residues-fresh}
use Rattle.predicate_split.proofs.Starting.{preds-start}

-- the packet goes between these addresses
pub record GoesBetween (src dst : HostAddress) (p : Packet) : Type 0 where
  pub eth_src : p.eth_src ≡ src.eth
  pub eth_dst : p.eth_dst ≡ dst.eth
  pub ip_src : p.ip_src ≡ src.ip
  pub ip_dst : p.ip_dst ≡ dst.ip

pub goes : (p : Packet) (src dst : HostAddress) → IsBetween p src dst → GoesBetween src dst p
goes p src dst between = record {
  eth_src = ap (λ (a : HostAddress). a.eth) between.1;
  eth_dst = ap (λ (a : HostAddress). a.eth) between.2;
  ip_src = ap (λ (a : HostAddress). a.ip) between.1;
  ip_dst = ap (λ (a : HostAddress). a.ip) between.2;
}

pub between-holds : (src dst : HostAddress) (p : Packet) → GoesBetween src dst p → (pred : Pred) → holds (left_between src dst pred) p ≡ holds pred p
unfolding left_between
between-holds src dst p at pred =
    residue-holds IpDst dst.ip p at.ip_dst (residue IpSrc src.ip (residue EthDst dst.eth (residue EthSrc src.eth pred)))
    ∙ residue-holds IpSrc src.ip p at.ip_src (residue EthDst dst.eth (residue EthSrc src.eth pred))
    ∙ residue-holds EthDst dst.eth p at.eth_dst (residue EthSrc src.eth pred)
    ∙ residue-holds EthSrc src.eth p at.eth_src pred

pub owner-alike : (n : ℕ) (preds : List Pred) (p q : Packet) → AllByRecursion (λ pred. holds pred p ≡ holds pred q) preds → owner_from n preds p ≡ owner_from n preds q
owner-alike n [] p q h = refl
owner-alike n (pred ∷ rest) p q h = ap₂ (λ b o. cond b (Some n) o) h.0 (owner-alike (suc n) rest p q h.1)

-- packets between the hosts that pass the same tests of what is left are judged alike
pub alike-between : (src dst : HostAddress) (p q : Packet) → GoesBetween src dst p → GoesBetween src dst q → (preds : List Pred) →
    ((t : Test) → In t (flat_map tests_of (between_hosts src dst preds)) → passes t p ≡ passes t q) → AllByRecursion (λ pred. holds pred p ≡ holds pred q) preds
unfolding left_between
alike-between src dst p q at to [] same = tt
alike-between src dst p q at to (pred ∷ rest) same = (
  sym (between-holds src dst p at pred) ∙ tests-decide p q (left_between src dst pred) (λ t i. same t (in_append-left (tests_of (left_between src dst pred)) (flat_map tests_of (between_hosts src dst rest)) t i)) ∙ between-holds src dst q to pred,
  alike-between src dst p q at to rest (λ t i. same t (in_append-right (tests_of (left_between src dst pred)) (flat_map tests_of (between_hosts src dst rest)) t i)),
)

pub alike-under : (src dst : HostAddress) (p q : Packet) (proto : ℕ) → p.proto ≡ proto → q.proto ≡ proto → GoesBetween src dst p → GoesBetween src dst q → (preds : List Pred) →
    ((t : Test) → In t (flat_map tests_of (residues Proto proto (between_hosts src dst preds))) → passes t p ≡ passes t q) → AllByRecursion (λ pred. holds pred p ≡ holds pred q) preds
unfolding left_between
alike-under src dst p q proto pp qp at to [] same = tt
alike-under src dst p q proto pp qp at to (pred ∷ rest) same =
    let last = residue Proto proto (left_between src dst pred) in (
      sym (residue-holds Proto proto p pp (left_between src dst pred) ∙ between-holds src dst p at pred)
          ∙ tests-decide p q last (λ t i. same t (in_append-left (tests_of last) (flat_map tests_of (residues Proto proto (between_hosts src dst rest))) t i))
          ∙ residue-holds Proto proto q qp (left_between src dst pred) ∙ between-holds src dst q to pred,
      alike-under src dst p q proto pp qp at to rest (λ t i. same t (in_append-right (tests_of last) (flat_map tests_of (residues Proto proto (between_hosts src dst rest))) t i)),
    )

-- What tests are left.

pub left-fresh : (src dst : HostAddress) (preds : List Pred) → AllByRecursion IsPred preds → AreFresh (Proto ∷ Sport ∷ Dport ∷ []) 0 (between_hosts src dst preds)
left-fresh src dst preds h =
    residues-fresh IpDst (Proto ∷ Sport ∷ Dport ∷ []) (3, omega arith, refl) 0 dst.ip (residues IpSrc src.ip (residues EthDst dst.eth (residues EthSrc src.eth preds)))
    (residues-fresh IpSrc (IpDst ∷ Proto ∷ Sport ∷ Dport ∷ []) (2, omega arith, refl) 0 src.ip (residues EthDst dst.eth (residues EthSrc src.eth preds))
    (residues-fresh EthDst (IpSrc ∷ IpDst ∷ Proto ∷ Sport ∷ Dport ∷ []) (1, omega arith, refl) 0 dst.eth (residues EthSrc src.eth preds)
    (residues-fresh EthSrc (EthDst ∷ IpSrc ∷ IpDst ∷ Proto ∷ Sport ∷ Dport ∷ []) (0, omega arith, refl) 0 src.eth preds (preds-start 0 preds h))))

pub under-fresh : (src dst : HostAddress) (preds : List Pred) → AllByRecursion IsPred preds → (proto : ℕ) → AreFresh (Sport ∷ Dport ∷ []) proto (residues Proto proto (between_hosts src dst preds))
under-fresh src dst preds h proto = residues-fresh Proto (Sport ∷ Dport ∷ []) (4, omega arith, refl) 0 proto (between_hosts src dst preds) (left-fresh src dst preds h)

named_in : (f : Field) (n : ℕ) (t : Test) (preds : List Pred) → In t (flat_map tests_of preds) → In n (test_mentions f t) → In n (ascending (flat_map (mentions f) preds))
named_in f n t preds i j =
    let m = in_flat_map tests_of preds t i in
    in-ascending (flat_map (mentions f) preds) n (flat_map_in (mentions f) preds m.0 n m.1 (flat_map_in (test_mentions f) (tests_of m.0) t n m.2 j))

apart : (v n : ℕ) → ¬ (v ≡ n) → (v == n) ≡ false
apart v n h = grind (arith, h)

-- one value stands for the other: they are equal, or neither is among these
abbrev pub StandsFor : List ℕ → ℕ → ℕ → Type 0
StandsFor ns u v = (u ≡ v) ⊎ ((¬ In u ns) × (¬ In v ns))

same_test : (ns : List ℕ) (u v n : ℕ) → StandsFor ns u v → In n ns → (u == n) ≡ (v == n)
same_test ns u v n (inl e) i = ap (λ m. m == n) e
same_test ns u v n (inr (a, b)) i = apart u n (λ e. a (subst (λ m. In m ns) (sym e) i)) ∙ sym (apart v n (λ e. b (subst (λ m. In m ns) (sym e) i)))

not_among : (f : Field) → In f (Sport ∷ Dport ∷ []) → (f ≡ Sport) ⊎ (f ≡ Dport)
not_among f (inl e) = inl e
not_among f (inr (inl e)) = inr e
not_among f (inr (inr h)) = absurd h

-- no block of addresses is left
pub no_block : (f : Field) → IsAddress f → In f (Proto ∷ Sport ∷ Dport ∷ []) → ⊥
no_block f (inl a) (inl e) = let k : IpSrc ≡ Proto = sym a ∙ e in cc
no_block f (inl a) (inr (inl e)) = let k : IpSrc ≡ Sport = sym a ∙ e in cc
no_block f (inl a) (inr (inr (inl e))) = let k : IpSrc ≡ Dport = sym a ∙ e in cc
no_block f (inr a) (inl e) = let k : IpDst ≡ Proto = sym a ∙ e in cc
no_block f (inr a) (inr (inl e)) = let k : IpDst ≡ Sport = sym a ∙ e in cc
no_block f (inr a) (inr (inr (inl e))) = let k : IpDst ≡ Dport = sym a ∙ e in cc
no_block f a (inr (inr (inr j))) = absurd j

pub under-pass : (src dst : HostAddress) (preds : List Pred) → AllByRecursion IsPred preds → (proto : ℕ) (p q : Packet) →
    StandsFor (ascending (flat_map (mentions Sport) (residues Proto proto (between_hosts src dst preds)))) p.sport q.sport →
    StandsFor (ascending (flat_map (mentions Dport) (residues Proto proto (between_hosts src dst preds)))) p.dport q.dport →
    (t : Test) → In t (flat_map tests_of (residues Proto proto (between_hosts src dst preds))) → passes t p ≡ passes t q
under-pass src dst preds h proto p q sp dp (Is f n) i = by (not_among f (under-fresh src dst preds h proto (Is f n) i).0)
  where
    left : List Pred
    left = residues Proto proto (between_hosts src dst preds)

    by : (f ≡ Sport) ⊎ (f ≡ Dport) → (field_of f p == n) ≡ (field_of f q == n)
    by (inl e) =
        subst (λ g. (field_of g p == n) ≡ (field_of g q == n)) (sym e)
        (same_test (ascending (flat_map (mentions Sport) left)) p.sport q.sport n sp (named_in Sport n (Is Sport n) left (subst (λ g. In (Is g n) (flat_map tests_of left)) e i) (inl refl)))
    by (inr e) =
        subst (λ g. (field_of g p == n) ≡ (field_of g q == n)) (sym e)
        (same_test (ascending (flat_map (mentions Dport) left)) p.dport q.dport n dp (named_in Dport n (Is Dport n) left (subst (λ g. In (Is g n) (flat_map tests_of left)) e i) (inl refl)))
under-pass src dst preds h proto p q sp dp (Port r f n) i = absurd (none (under-fresh src dst preds h proto (Port r f n) i).0)
  where
    none : In Proto (Sport ∷ Dport ∷ []) → ⊥
    none (inl e) = cc
    none (inr (inl e)) = cc
    none (inr (inr j)) = j
under-pass src dst preds h proto p q sp dp (Within f n length) i = absurd (no_block f (under-fresh src dst preds h proto (Within f n length) i).1 (inr (under-fresh src dst preds h proto (Within f n length) i).0))

pub unnamed-pass : (src dst : HostAddress) (preds : List Pred) → AllByRecursion IsPred preds → (p q : Packet) →
    (¬ In p.proto (ascending (flat_map (mentions Proto) (between_hosts src dst preds)))) → (¬ In q.proto (ascending (flat_map (mentions Proto) (between_hosts src dst preds)))) →
    (t : Test) → In t (flat_map tests_of (between_hosts src dst preds)) → passes t p ≡ passes t q
unnamed-pass src dst preds h p q a b (Is f n) i = by (left-fresh src dst preds h (Is f n) i).0
  where
    left : List Pred
    left = between_hosts src dst preds

    bare : IsPort f → ⊥
    bare port = ((left-fresh src dst preds h (Is f n) i).2 port).0 (inl refl)

    by : In f (Proto ∷ Sport ∷ Dport ∷ []) → (field_of f p == n) ≡ (field_of f q == n)
    by (inl e) =
        subst (λ g. (field_of g p == n) ≡ (field_of g q == n)) (sym e)
        (same_test (ascending (flat_map (mentions Proto) left)) p.proto q.proto n (inr (a, b)) (named_in Proto n (Is Proto n) left (subst (λ g. In (Is g n) (flat_map tests_of left)) e i) (inl refl)))
    by (inr (inl e)) = absurd (bare (inl e))
    by (inr (inr (inl e))) = absurd (bare (inr e))
    by (inr (inr (inr j))) = absurd j
unnamed-pass src dst preds h p q a b (Port r f n) i = ap₂ (λ c d. c && (d == n)) same refl ∙ both_false
  where
    left : List Pred
    left = between_hosts src dst preds

    named : In r (ascending (flat_map (mentions Proto) left))
    named = named_in Proto r (Port r f n) left i (inl refl)

    same : (p.proto == r) ≡ false
    same = apart p.proto r (λ e. a (subst (λ m. In m (ascending (flat_map (mentions Proto) left))) (sym e) named))

    other : (q.proto == r) ≡ false
    other = apart q.proto r (λ e. b (subst (λ m. In m (ascending (flat_map (mentions Proto) left))) (sym e) named))

    both_false : (false && (field_of f p == n)) ≡ ((q.proto == r) && (field_of f q == n))
    both_false = ap (λ c. c && (field_of f q == n)) (sym other)
unnamed-pass src dst preds h p q a b (Within f n length) i = absurd (no_block f (left-fresh src dst preds h (Within f n length) i).1 (left-fresh src dst preds h (Within f n length) i).0)
