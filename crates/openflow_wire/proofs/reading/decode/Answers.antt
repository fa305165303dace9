use Rattle.std.proofs.Common.{◌≡◌, None, Some, is_some, drop, cond, ap, sym, refl, ◌∙◌}
use Rattle.openflow_wire.specs.declared.layout.TheConstants.{FIELDS}
use Rattle.openflow_wire.specs.Messages.{fault_behind, first_fault, actions_of}
use Rattle.openflow_wire.proofs.reading.decode.Goals as goal

pub returns-in_default-2-clause-err : goal.returns-in_default-2-clause-err
returns-in_default-2-clause-err c =
    let none : first_fault c.args.bytes.now FIELDS ≡ None = sym c.fault_in.ensures.found ∙ c.in_default.is in
    let no_actions : actions_of (drop 72 c.args.bytes.now) ≡ None =
    ap actions_of (sym c.behind_fields.ensures) ∙ sym c.in_ok-actions.ensures ∙ c.in_default-2.is in
    ap (fault_behind c.args.bytes.now) none ∙ ap (λ o. cond (is_some o) None (Some 72)) no_actions

pub returns-clause-ok : goal.returns-clause-ok
returns-clause-ok c =
    let none : first_fault c.args.bytes.now FIELDS ≡ None = sym c.fault_in.ensures.found ∙ c.in_default.is in
    let actions : actions_of (drop 72 c.args.bytes.now) ≡ Some c.in-Some-2.actions =
    ap actions_of (sym c.behind_fields.ensures) ∙ sym c.in_ok-actions.ensures ∙ c.in-Some-2.is in
    record {
      taken = ap (fault_behind c.args.bytes.now) none ∙ ap (λ o. cond (is_some o) None (Some 72)) actions;
      place = refl;
      priority = c.short_at.ensures;
      fits = c.match_in.ensures;
      actions = actions;
      number = c.word_at.ensures;
    }
