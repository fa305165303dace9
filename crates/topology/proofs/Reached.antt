-- Where directed links lead, out of the tables.
use Rattle.std.proofs.Common.{◌≡◌, ◌==◌, ◌&&◌, ℕ, Bool, true, false, List, map, find, Option, Some, None, option_map, nat_eq, IfSome, IfNone, refl, sym, ◌∙◌, ap}
use Rattle.std.specs.Map.{lookup}
use Rattle.std.proofs.lemmas.Bool.{eqb-true, eq-eqb}
use Rattle.std.proofs.lemmas.Cmp.{nat_eq_equiv}
use Rattle.merlin_model.specs.declared.network.DirectedLink.{DirectedLink}
use Rattle.merlin_model.specs.Networks.{Network, directed_links, AreLinked}
use Rattle.merlin_model.proofs.Members.{in_from, in_to}
use Rattle.topology.specs.Look.{far_end}
use Rattle.topology.specs.Tables.{port_entry, ends_entry}
use Rattle.topology.proofs.Lookup.{lookup_made, find_in, find_none, if_some, if_none, map_some}

-- a pair of numbers is looked up by both
both_same : (a b c d : ℕ) → (nat_eq a c && nat_eq b d) ≡ ((c == a) && (d == b))
both_same a b c d = ap (λ x. x && nat_eq b d) (nat_eq_equiv.symm a c) ∙ ap (λ x. nat_eq c a && x) (nat_eq_equiv.symm b d)

pub looked_up-far_end : (ws : List DirectedLink) (loc port : ℕ) → lookup (λ k. nat_eq loc k.0 && nat_eq port k.1) (map port_entry ws) ≡ option_map far_end (find (λ w. (w.from == loc) && (w.out_port == port)) ws)
looked_up-far_end ws loc port = lookup_made (λ k. nat_eq loc k.0 && nat_eq port k.1) (λ w. (w.from == loc) && (w.out_port == port)) port_entry (λ w. both_same loc port w.from w.out_port) ws

pub looked_up-port : (ws : List DirectedLink) (from to : ℕ) → lookup (λ k. nat_eq from k.0 && nat_eq to k.1) (map ends_entry ws) ≡ option_map (λ w. w.out_port) (find (λ w. (w.from == from) && (w.to == to)) ws)
looked_up-port ws from to = lookup_made (λ k. nat_eq from k.0 && nat_eq to k.1) (λ w. (w.from == from) && (w.to == to)) ends_entry (λ w. both_same from to w.from w.to) ws

both_true : (a b : Bool) → (a && b) ≡ true → (a ≡ true) × (b ≡ true)
both_true true b e = (refl, e)
both_true false b e = absurd (never e)
  where
    never : false ≡ true → ⊥
    never e = cc

module _ (net : Network) (from to : ℕ) (port : Option ℕ) (is : port ≡ option_map (λ w. w.out_port) (find (λ w. (w.from == from) && (w.to == to)) (directed_links net))) where
  pub port_of_link : IfSome port (λ p. (x : AreLinked net from to) × (x.link.out_port ≡ p))
  port_of_link = if_some _ port (λ p e.
      let there = map_some (λ w. w.out_port) (find (λ w. (w.from == from) && (w.to == to)) (directed_links net)) p (sym is ∙ e) in
      let found = find_in (λ w. (w.from == from) && (w.to == to)) (directed_links net) there.0 there.1 in
      let ends = both_true (there.0.from == from) (there.0.to == to) found.1 in
      (record { link = there.0; present = in_to (directed_links net) there.0 found.0; starts = eqb-true _ _ ends.0; ends = eqb-true _ _ ends.1 }, there.2))

  pub port_of_none : IfNone port (AreLinked net from to → ⊥)
  port_of_none = if_none _ port (λ e linked.
      find_none (λ w. (w.from == from) && (w.to == to)) (directed_links net) (nothing (find (λ w. (w.from == from) && (w.to == to)) (directed_links net)) (sym is ∙ e)) linked.link (in_from (directed_links net) linked.link linked.present) (both (eq-eqb _ _ linked.starts) (eq-eqb _ _ linked.ends)))
    where
      nothing : (o : Option DirectedLink) → option_map (λ w. w.out_port) o ≡ None → o ≡ None
      nothing None e = refl
      nothing (Some w) e = cc

      both : {a b : Bool} → a ≡ true → b ≡ true → (a && b) ≡ true
      both {a} {b} e f = ap (λ x. x && b) e ∙ f
