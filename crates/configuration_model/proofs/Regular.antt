-- Of regular cells of one priority at most one cell_matches a packet, and lists of one priority each fall.
use Rattle.std.proofs.Common.{◌≡◌, ℕ, ◌≤◌, ◌==◌, ◌&&◌, ◌||◌, ◌⊎◌, inl, inr, not, Bool, true, false, List, [], ◌∷◌, ◌++◌, Option, None, Some, is_some, refl, sym, ◌∙◌, ap, arith}
use Rattle.std.proofs.lemmas.Bool.{eqb-true}
use Rattle.std.specs.List.{AllByRecursion}
use Rattle.merlin_model.specs.Packets.{Packet}
use Rattle.merlin_model.specs.Networks.{Pairwise}
use Rattle.merlin_model.specs.Machine.{agrees}
use Rattle.merlin_model.proofs.Members.{In, all_in, in_append}
use Rattle.rules_model.proofs.Pieces.{all-from}
use Rattle.predicate_split.specs.declared.pair_cells.Cell.{Cell as HostCell}
use Rattle.predicate_split.specs.Cells.{cell_matches}
use Rattle.configuration_model.specs.Cells.{priority_by, priority_of, IsRegular}
use Rattle.configuration_model.proofs.Lists.{None-Some, false-true}

abbrev IsStar : Option ℕ → Option ℕ → Option ℕ → Type 0
IsStar p a b = p ≡ None → (a ≡ None) × (b ≡ None)

named-proto : (p a b : Option ℕ) → is_some p ≡ not (priority_by p a b == 20)
named-proto None a b = refl
named-proto (Some p) None None = refl
named-proto (Some p) None (Some b) = refl
named-proto (Some p) (Some a) None = refl
named-proto (Some p) (Some a) (Some b) = refl

named-sport : (p a b : Option ℕ) → IsStar p a b → is_some a ≡ ((priority_by p a b == 50) || (priority_by p a b == 60))
named-sport None None b star = refl
named-sport None (Some a) b star = absurd (None-Some (sym (star refl).0))
named-sport (Some p) None None star = refl
named-sport (Some p) None (Some b) star = refl
named-sport (Some p) (Some a) None star = refl
named-sport (Some p) (Some a) (Some b) star = refl

named-dport : (p a b : Option ℕ) → IsStar p a b → is_some b ≡ ((priority_by p a b == 40) || (priority_by p a b == 60))
named-dport None a None star = refl
named-dport None a (Some b) star = absurd (None-Some (sym (star refl).1))
named-dport (Some p) None None star = refl
named-dport (Some p) None (Some b) star = refl
named-dport (Some p) (Some a) None star = refl
named-dport (Some p) (Some a) (Some b) star = refl

part-one : (a b : Option ℕ) (n : ℕ) → is_some a ≡ is_some b → agrees a n ≡ true → agrees b n ≡ true → a ≡ b
part-one None None n same e f = refl
part-one None (Some y) n same e f = absurd (false-true same)
part-one (Some x) None n same e f = absurd (false-true (sym same))
part-one (Some x) (Some y) n same e f = ap Some (eqb-true x n e ∙ sym (eqb-true y n f))

record Passes (p : Packet) (c : HostCell) : Type 0 where
  proto : agrees c.proto p.proto ≡ true
  sport : agrees c.sport p.sport ≡ true
  dport : agrees c.dport p.dport ≡ true

passed : (p : Packet) (c : HostCell) → cell_matches p c ≡ true → Passes p c
passed p c e = by (agrees c.proto p.proto) refl (agrees c.sport p.sport) refl (agrees c.dport p.dport) refl e
  where
    by : (x : Bool) → agrees c.proto p.proto ≡ x → (y : Bool) → agrees c.sport p.sport ≡ y → (z : Bool) → agrees c.dport p.dport ≡ z → (x && y && z) ≡ true → Passes p c
    by true f true g true h e = record { proto = f; sport = g; dport = h }
    by true f true g false h e = absurd (false-true e)
    by true f false g z h e = absurd (false-true e)
    by false f y g z h e = absurd (false-true e)

pub regular-one : (own : Option ℕ → Option ℕ → Option ℕ → Option ℕ) (p : Packet) (b c : HostCell) → IsRegular own b → IsRegular own c → cell_matches p b ≡ true → cell_matches p c ≡ true → priority_of b ≡ priority_of c → b ≡ c
regular-one own p b c rb rc fb fc level = λ i. record { proto = proto i; sport = sport i; dport = dport i; owner = owner i }
  where
    pb : Passes p b
    pb = passed p b fb

    pc : Passes p c
    pc = passed p c fc

    proto : b.proto ≡ c.proto
    proto = part-one b.proto c.proto p.proto (named-proto b.proto b.sport b.dport ∙ ap (λ n. not (n == 20)) level ∙ sym (named-proto c.proto c.sport c.dport)) pb.proto pc.proto

    sport : b.sport ≡ c.sport
    sport = part-one b.sport c.sport p.sport (named-sport b.proto b.sport b.dport rb.star ∙ ap (λ n. (n == 50) || (n == 60)) level ∙ sym (named-sport c.proto c.sport c.dport rc.star)) pb.sport pc.sport

    dport : b.dport ≡ c.dport
    dport = part-one b.dport c.dport p.dport (named-dport b.proto b.sport b.dport rb.star ∙ ap (λ n. (n == 40) || (n == 60)) level ∙ sym (named-dport c.proto c.sport c.dport rc.star)) pb.dport pc.dport

    owner : b.owner ≡ c.owner
    owner = rb.owner ∙ (λ i. own (proto i) (sport i) (dport i)) ∙ sym rc.owner

pub falls-on : (m : ℕ) (xs ys : List HostCell) → AllByRecursion (λ c. priority_of c ≡ m) xs → AllByRecursion (λ c. priority_of c ≤ m) ys → Pairwise (λ b c. priority_of c ≤ priority_of b) ys → Pairwise (λ b c. priority_of c ≤ priority_of b) (xs ++ ys)
falls-on m [] ys level under falls = falls
falls-on m (x ∷ xs) ys level under falls = (below xs level.1, falls-on m xs ys level.1 under falls)
  where
    low : (c : HostCell) → priority_of c ≤ m → priority_of c ≤ priority_of x
    low c le = same (priority_of x) (priority_of c) m level.0 le
      where
        same : (a b n : ℕ) → a ≡ n → b ≤ n → b ≤ a
        same a b n e le = omega arith

    equal : (c : HostCell) → priority_of c ≡ m → priority_of c ≤ m
    equal c e = same (priority_of c) m e
      where
        same : (a n : ℕ) → a ≡ n → a ≤ n
        same a n e = omega arith

    under-all : (zs : List HostCell) → AllByRecursion (λ c. priority_of c ≤ m) zs → AllByRecursion (λ c. priority_of c ≤ priority_of x) zs
    under-all zs h = all-from (λ c. priority_of c ≤ priority_of x) zs (λ c i. low c (all_in (λ c. priority_of c ≤ m) zs c h i))

    both : (zs : List HostCell) → AllByRecursion (λ c. priority_of c ≡ m) zs → (c : HostCell) → In c (zs ++ ys) → priority_of c ≤ m
    both zs h c i = by (in_append zs ys c i)
      where
        by : In c zs ⊎ In c ys → priority_of c ≤ m
        by (inl j) = equal c (all_in (λ c. priority_of c ≡ m) zs c h j)
        by (inr j) = all_in (λ c. priority_of c ≤ m) ys c under j

    below : (zs : List HostCell) → AllByRecursion (λ c. priority_of c ≡ m) zs → AllByRecursion (λ c. priority_of c ≤ priority_of x) (zs ++ ys)
    below zs h = all-from (λ c. priority_of c ≤ priority_of x) (zs ++ ys) (λ c i. low c (both zs h c i))
