use Rattle.std.proofs.Common.{◌≡◌, ◌∙◌, ◌+◌, ◌++◌, ℕ, List, [], ap, sym, drop, option_map}
use Rattle.merlin_model.specs.declared.policy.Term.{Term}
use Rattle.merlin_model.specs.Rates.{ids_of}
use Rattle.localise.specs.Faults.{repeats_in, repeated_ids}
use Rattle.localise.specs.Limits.{held_for, limits_of, together}
use Rattle.localise.proofs.Through.{here}
use Rattle.localise.proofs.Divided.{append_none, asked_by, asked_by-cons}
use Rattle.localise.proofs.sharing.share_all.Goals as goal

pub share_term-requires : goal.share_term-requires
share_term-requires c =
    let term = c.term-item.result in
    let split = here repeated_ids c.args.terms.now c.loop-term.term-index term c.loop-term-test.true c.term-item.is in
    (append_none (repeats_in (ids_of term)) (repeated_ids (drop (c.loop-term.term-index + 1) c.args.terms.now)) (sym split ∙ c.loop-term.invariant.different)).0

pub loop-term-preserved : goal.loop-term-preserved
loop-term-preserved c =
    let term = c.term-item.result in
    let terms = c.args.terms.now in
    let i = c.loop-term.term-index in
    let split = here repeated_ids terms i term c.loop-term-test.true c.term-item.is in
    record {
      asked = λ name.
          asked_by-cons term (drop (i + 1) terms) name (held_for c.loop-term.table name) (held_for c.share_term.new.table name) (c.share_term.ensures name)
          ∙ (sym (here (λ (ts : List Term). asked_by ts name (held_for c.loop-term.table name)) terms i term c.loop-term-test.true c.term-item.is)
          ∙ c.loop-term.invariant.asked name);
      different = (append_none (repeats_in (ids_of term)) (repeated_ids (drop (i + 1) terms)) (sym split ∙ c.loop-term.invariant.different)).1;
    }
