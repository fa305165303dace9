use Rattle.std.proofs.Common.{◌≡◌, ◌∙◌, ◌+◌, ◌∷◌, ℕ, List, Some, cond, ap, sym, drop, length, arith, zero-add}
use Rattle.std.specs.Prelude.{bytes_eq, filter_map}
use Rattle.std.specs.Option.{option_map}
use Rattle.merlin_model.specs.declared.policy.Part.{Part}
use Rattle.merlin_model.specs.Networks.{AreDifferent}
use Rattle.merlin_model.specs.Rates.{id_of_part, share_in, ids_of, amount_of, share}
use Rattle.localise.specs.Limits.{held_for, together, limits_in, limits_from}
use Rattle.localise.proofs.Repeated.{differ, back_id}
use Rattle.localise.proofs.Divided.{asked_from, share_from, share_from_start, noted_first}
use Rattle.localise.proofs.sharing.share_term.Goals as goal

pub loop-part-init : goal.loop-part-init
loop-part-init c =
    let term = c.args.term.now in
    let items = c.as_slice-part-items.ensures in
    let start : (name : List ℕ) → share_from c.amount-amount.result c.id_count-count.result 0 name (filter_map id_of_part c.as_slice-part-items.result.now) ≡ share_in name term =
    λ name. (λ k. share_from (c.amount-amount.ensures k) (c.id_count-count.ensures k) 0 name (filter_map id_of_part (items k))) ∙ share_from_start term name in
    record {
      asked = λ name. (λ k. option_map (λ held. together held (limits_from (start name k) term.bound)) (held_for c.args.table.now name));
      places = zero-add (length (filter_map id_of_part c.as_slice-part-items.result.now)) ∙ (ap (λ (ps : List Part). length (filter_map id_of_part ps)) items ∙ sym c.id_count-count.ensures);
      different = rw items (differ (ids_of term) c.requires);
    }

pub loop-part-preserved : goal.loop-part-preserved
loop-part-preserved c =
    let term = c.args.term.now in
    let parts = c.as_slice-part-items.result.now in
    let i = c.loop-part.part-index in
    let behind = filter_map id_of_part (drop (i + 1) parts) in
    let split : filter_map id_of_part (drop i parts) ≡ c.in-Id.id ∷ behind = back_id parts i c.part-item.result c.loop-part-test.true c.part-item.is c.in-Id.id c.in-Id.is in
    let different : AreDifferent (c.in-Id.id ∷ behind) = rw split at c.loop-part.invariant.different in
    let places : c.loop-part.place + length (c.in-Id.id ∷ behind) ≡ c.id_count-count.result = rw split at c.loop-part.invariant.places in
    let noted = noted_first c.amount-amount.result c.id_count-count.result term.bound c.loop-part.place c.in-Id.id behind different (held_for c.loop-part.table) (held_for c.note.new.table)
    (λ name. c.note.ensures name ∙ ap (λ s. cond (bytes_eq c.in-Id.id name) (option_map (λ l. together l (limits_from (Some s) term.bound)) (held_for c.loop-part.table name)) (held_for c.loop-part.table name)) c.share.ensures) in
    record {
      asked = λ name. noted name ∙ (ap (λ (names : List (List ℕ)). asked_from c.amount-amount.result c.id_count-count.result term.bound c.loop-part.place names name (held_for c.loop-part.table name)) (sym split) ∙ c.loop-part.invariant.asked name);
      places = omega arith;
      different = different.1;
    }
