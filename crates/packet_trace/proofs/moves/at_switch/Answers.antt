use Rattle.std.proofs.Common.{◌∙◌, None, length, sym, ap, subst, refl}
use Rattle.std.proofs.lemmas.Option.{slice_get_read, slice_get_within}
use Rattle.merlin_model.specs.Machine.{act, acting_rule, at_switch}
use Rattle.merlin_model.proofs.ActsAt.{acts_only}
use Rattle.merlin_model.proofs.Traces.{Some-inj}
use Rattle.packet_trace.specs.Fitting.{frame_of, NoneFits}
use Rattle.packet_trace.specs.Steps.{seen}
use Rattle.packet_trace.proofs.Best.{none_acts}
use Rattle.packet_trace.proofs.moves.at_switch.Goals as goal

pub returns-in-None : goal.returns-in-None
returns-in-None c =
    let none = subst (λ rules. NoneFits rules (frame_of c.args.frame.now)) c.as_slice-rules.ensures c.in-None.ensures.none in
    ap (λ o. seen None (at_switch c.args.net.now (frame_of c.args.frame.now) o)) (sym (none_acts c.args.config.now.rules (frame_of c.args.frame.now) none))

pub returns-in-Some : goal.returns-in-Some
returns-in-Some c =
    let found = c.in-Some.ensures.some in
    let within = slice_get_within c.as_slice-rules.result.now c.in-Some.place found.0 found.1.stands in
    let at = slice_get_read c.as_slice-rules.result.now (length c.as_slice-rules.result.now) c.in-Some.place c.index-rules-place.result refl within c.index-rules-place.is in
    let same = Some-inj (sym found.1.stands ∙ at) in
    let acts = acts_only c.as_slice-rules.result.now (frame_of c.args.frame.now) c.in-Some.place found.0 found.1 in
    let actions = c.as_slice.ensures ∙ ap (λ rule. rule.actions) (sym c.index-rules-place.is ∙ sym same) in
    let rule = sym (ap (λ rules. acting_rule rules (frame_of c.args.frame.now)) c.as_slice-rules.ensures) ∙ acts in
    c.act.ensures ∙ ap (λ actions. seen None (act c.args.net.now (frame_of c.args.frame.now) c.args.frame.now.tag actions)) actions
    ∙ ap (λ o. seen None (at_switch c.args.net.now (frame_of c.args.frame.now) o)) (sym rule)
