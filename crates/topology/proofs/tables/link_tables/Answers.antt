use Rattle.std.proofs.Common.{◌≡◌, ◌&&◌, ℕ, Bool, List, map, nat_eq, sym, ◌∙◌, subst}
use Rattle.std.specs.Map.{keys_of}
use Rattle.std.specs.List.{IsDistinct}
use Rattle.topology.specs.Tables.{port_entry, ends_entry}
use Rattle.topology.proofs.Tabled.{keys_from_apart, told_pair_unequal}
use Rattle.topology.proofs.tables.link_tables.Goals as goal

abbrev pair_eq : ℕ × ℕ → ℕ × ℕ → Bool
pair_eq x y = nat_eq x.0 y.0 && nat_eq x.1 y.1

pub table_of-requires : goal.table_of-requires
table_of-requires c =
    let entries : c.deref.result.now ≡ map port_entry c.args.directed_links.now = c.deref.ensures.value ∙ c.in_ok-far_ends.ensures in
    subst (λ (es : List ((ℕ × ℕ) × (ℕ × ℕ))). IsDistinct pair_eq (keys_of es)) (sym entries)
    (keys_from_apart pair_eq port_entry _ c.args.directed_links.now (λ v w r. told_pair_unequal v.from v.out_port w.from w.out_port (λ same. (r same).0)) c.requires)

pub table_of-requires-2 : goal.table_of-requires-2
table_of-requires-2 c =
    let entries : c.deref-2.result.now ≡ map ends_entry c.args.directed_links.now = c.deref-2.ensures.value ∙ c.in_ok-ports.ensures in
    subst (λ (es : List ((ℕ × ℕ) × ℕ)). IsDistinct pair_eq (keys_of es)) (sym entries)
    (keys_from_apart pair_eq ends_entry _ c.args.directed_links.now (λ v w r. told_pair_unequal v.from v.to w.from w.to (λ same. (r same).1)) c.requires)
