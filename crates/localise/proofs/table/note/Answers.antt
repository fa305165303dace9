use Rattle.std.proofs.Common.{rules, ◌≡◌, ◌∙◌, ap, sym, cond, Bool, true, false, List, ℕ, Option, Some}
use Rattle.std.specs.Prelude.{bytes_eq}
use Rattle.std.specs.Option.{option_map}
use Rattle.std.proofs.lemmas.Map.Text.{btree_map_updates_str}
use Rattle.localise.specs.declared.limits.Limits.{Limits}
use Rattle.localise.specs.Limits.{held_for, together, limits_from}
use Rattle.localise.proofs.Tabled.{updated_one}
use Rattle.localise.proofs.table.note.Goals as goal

-- src/table.rt:54:1
pub returns-in-Some : goal.returns-in-Some
returns-in-Some c = λ name.
    let is = btree_map_updates_str c.bytes.result.now c.args.table.now (c.get_mut.follows.lender c.joined.result) (Some c.joined.result) ((c.get_mut.follows.holds c.joined.result).3 (search rules)) name in
    is ∙ updated_one (λ l. together l (limits_from (Some c.args.share) c.args.bound)) (held_for c.args.table.now) c.bytes.result.now c.args.id.now c.bytes.ensures c.in-Some.limits.now (sym c.in-Some.ensures.value) c.joined.result (c.joined.ensures ∙ ap (together c.in-Some.limits.now) c.from_share.ensures) name
