use Rattle.std.proofs.Common.{◌≡◌, ◌∙◌, ◌≤◌, ◌++◌, ◌∷◌, ℕ, List, [], ap, sym, map, length, take, slice_get, Some, true, false, arith}
use Rattle.std.specs.Prelude.{filter_map}
use Rattle.merlin_model.specs.declared.policy.Part.{Part}
use Rattle.merlin_model.specs.Rates.{id_of_part}
use Rattle.localise.specs.declared.fault.RateFault.TheVariants.{RepeatedId}
use Rattle.localise.specs.Faults.{is_among, repeats_in}
use Rattle.localise.specs.Limits.{has_met}
use Rattle.localise.proofs.Through.{first_of_map}
use Rattle.localise.proofs.Repeated.{front_id, front_constant, repeated_here, new_here, constant_here, none_repeated, was_met, was_new}
use Rattle.localise.proofs.Tabled.{met_more}
use Rattle.localise.proofs.asking.ask_term.Goals as goal

pub loop-part-preserved-in_default : goal.loop-part-preserved-in_default
loop-part-preserved-in_default c =
    let parts = c.as_slice-part-items.result.now in
    let i = c.loop-part.part-index in
    let part = c.part-item.result in
    record {
      met = λ name. c.loop-part.invariant.met name ∙ ap (λ names. is_among names name) (sym (front_constant parts i part c.loop-part-test.true c.part-item.is c.in_default.field-0 c.in_default.is));
      rest = constant_here parts i part c.loop-part-test.true c.part-item.is c.loop-part.invariant.rest c.in_default.field-0 c.in_default.is;
    }

pub returns-then-not-branch-clause-err : goal.returns-then-not-branch-clause-err
returns-then-not-branch-clause-err c =
    let parts = c.as_slice-part-items.result.now in
    let i = c.loop-part.part-index in
    let met : is_among (filter_map id_of_part (take i parts)) c.in-Id.id ≡ true =
    sym (c.loop-part.invariant.met c.in-Id.id) ∙ (ap (has_met c.loop-part.met) (sym c.bytes.ensures) ∙ was_met _ _ c.in_ok-insert.ensures.added c.if-not-branch.true) in
    let first = repeated_here parts i c.part-item.result c.loop-part-test.true c.part-item.is c.loop-part.invariant.rest c.in-Id.id c.in-Id.is met in
    let all : slice_get (map (λ (id : List ℕ). RepeatedId id) (repeats_in (filter_map id_of_part parts))) 0 ≡ Some (RepeatedId c.in-Id.id) = first_of_map (λ (id : List ℕ). RepeatedId id) (repeats_in (filter_map id_of_part parts)) c.in-Id.id first in
    ap (λ (ps : List Part). slice_get (map (λ (id : List ℕ). RepeatedId id) (repeats_in (filter_map id_of_part ps))) 0) (sym c.as_slice-part-items.ensures) ∙ (all ∙ ap (λ (id : List ℕ). Some (RepeatedId id)) (sym c.in_ok-id.ensures))

pub loop-part-preserved : goal.loop-part-preserved
loop-part-preserved c =
    let parts = c.as_slice-part-items.result.now in
    let i = c.loop-part.part-index in
    let part = c.part-item.result in
    let new : is_among (filter_map id_of_part (take i parts)) c.in-Id.id ≡ false =
    sym (c.loop-part.invariant.met c.in-Id.id) ∙ (ap (has_met c.loop-part.met) (sym c.bytes.ensures) ∙ was_new _ _ c.in_ok-insert.ensures.added c.if-not-branch.false) in
    let front = front_id parts i part c.loop-part-test.true c.part-item.is c.in-Id.id c.in-Id.is in
    record {
      met = λ name.
          met_more (filter_map id_of_part (take i parts)) c.loop-part.met c.insert.new.self c.loop-part.invariant.met c.bytes.result.now c.in_ok-insert.ensures.updates name
          ∙ ap (λ names. is_among names name) (ap (λ (key : List ℕ). filter_map id_of_part (take i parts) ++ key ∷ []) c.bytes.ensures ∙ sym front);
      rest = new_here parts i part c.loop-part-test.true c.part-item.is c.loop-part.invariant.rest c.in-Id.id c.in-Id.is new;
    }

pub returns-clause-ok : goal.returns-clause-ok
returns-clause-ok c =
    let past : length c.as_slice-part-items.result.now ≤ c.loop-part.part-index = omega arith in
    ap (λ (ps : List Part). repeats_in (filter_map id_of_part ps)) (sym c.as_slice-part-items.ensures) ∙ none_repeated c.as_slice-part-items.result.now c.loop-part.part-index past c.loop-part.invariant.rest
