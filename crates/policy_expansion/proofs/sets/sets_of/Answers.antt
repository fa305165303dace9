use Rattle.std.proofs.Common.{◌≡◌, ap, sym, ◌∙◌, length, ◌≤◌, true, false, is_some, Some, arith}
use Rattle.std.specs.Option.{option_map}
use Rattle.std.proofs.lemmas.List.{take_all}
use Rattle.policy_expansion.specs.declared.policy.ExpansionFault.TheVariants.{DuplicateSet}
use Rattle.policy_expansion.specs.WrittenOut.{first_places, known_literals}
use Rattle.policy_expansion.specs.Tables.{under}
use Rattle.policy_expansion.proofs.Repeated.{first_here, clear_past, no_repeat}
use Rattle.policy_expansion.proofs.Tabled.{stood, filled_more}
use Rattle.policy_expansion.proofs.sets.sets_of.Goals as goal

pub returns-then-is_some-clause-err : goal.returns-then-is_some-clause-err
returns-then-is_some-clause-err c =
    let sets = c.args.written.now in
    let i = c.loop-set.set-index in
    let x = c.set-item.result in
    let before = stood sets i x c.loop-set-test.true c.set-item.is c.loop-set.sets c.loop-set.invariant.filled in
    let there : is_some (under c.loop-set.sets x.name) ≡ true = ap (λ name. is_some (under c.loop-set.sets name)) (sym c.bytes.ensures) ∙ (ap is_some (sym c.in_ok-insert.ensures.old) ∙ (sym c.is_some.ensures ∙ c.if-is_some.true)) in
    let first = first_here (λ s. s.name) sets i x c.loop-set-test.true c.set-item.is c.loop-set.invariant.clear (sym before ∙ there) in
    ap (option_map DuplicateSet) first ∙ ap (λ name. Some (DuplicateSet name)) (sym c.in_ok-name.ensures)

pub loop-set-preserved : goal.loop-set-preserved
loop-set-preserved c =
    let sets = c.args.written.now in
    let i = c.loop-set.set-index in
    let x = c.set-item.result in
    let before = stood sets i x c.loop-set-test.true c.set-item.is c.loop-set.sets c.loop-set.invariant.filled in
    let absent : is_some (under c.loop-set.sets x.name) ≡ false = ap (λ name. is_some (under c.loop-set.sets name)) (sym c.bytes.ensures) ∙ (ap is_some (sym c.in_ok-insert.ensures.old) ∙ (sym c.is_some.ensures ∙ c.if-is_some.false)) in
    record {
      filled = filled_more sets i x c.loop-set-test.true c.set-item.is c.loop-set.sets c.loop-set.invariant.filled c.insert.new.self c.bytes.result.now c.in_ok-literals.literals absent c.bytes.ensures (c.in_ok-literals.ensures ∙ ap first_places c.as_slice.ensures) c.in_ok-insert.ensures.updates;
      clear = clear_past (λ s. s.name) sets i x c.loop-set-test.true c.set-item.is c.loop-set.invariant.clear (sym before ∙ absent);
    }

pub returns-clause-ok : goal.returns-clause-ok
returns-clause-ok c =
    let past : length c.args.written.now ≤ c.loop-set.set-index = omega arith in (
      λ name. c.loop-set.invariant.filled name ∙ ap (λ sets. known_literals sets name) (take_all c.loop-set.set-index c.args.written.now past),
      ap (option_map DuplicateSet) (no_repeat (λ s. s.name) c.args.written.now c.loop-set.set-index past c.loop-set.invariant.clear),
    )
