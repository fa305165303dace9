use Rattle.std.proofs.Common.{◌≡◌, ◌∙◌, Some, length, slice_get, sym, ap, subst, refl}
use Rattle.std.specs.List.{position}
use Rattle.std.proofs.lemmas.Option.{slice_get_read}
use Rattle.std.proofs.lemmas.List.Quantifiers.{position-Some}
use Rattle.packet_trace.specs.Fitting.{frame_of}
use Rattle.packet_trace.specs.Processes.{is_process_for}
use Rattle.packet_trace.proofs.Steps.{no_line, line_move}
use Rattle.packet_trace.proofs.moves.at_middlebox.Goals as goal

pub returns-in-None : goal.returns-in-None
returns-in-None c =
    let f = frame_of c.args.frame.now in
    let is_for = ap (λ eth_dst. position (is_process_for f.loc f.tag eth_dst) c.as_slice-lines.result.now) (sym c.value-eth_dst.ensures.value) in
    let none = ap (position (is_process_for f.loc f.tag f.packet.eth_dst)) (sym c.as_slice-lines.ensures) ∙ is_for ∙ sym c.in-None.ensures in
    no_line c.args.net.now c.args.config.now f c.requires.middlebox none

pub returns-in-Some : goal.returns-in-Some
returns-in-Some c =
    let f = frame_of c.args.frame.now in
    let is_for = ap (λ eth_dst. position (is_process_for f.loc f.tag eth_dst) c.as_slice-lines.result.now) (sym c.value-eth_dst.ensures.value) in
    let found = is_for ∙ sym c.in-Some.ensures in
    let within = (position-Some (is_process_for f.loc f.tag f.packet.eth_dst) c.as_slice-lines.result.now c.in-Some.place c.index-lines-place.result found).0 in
    let at = slice_get_read c.as_slice-lines.result.now (length c.as_slice-lines.result.now) c.in-Some.place c.index-lines-place.result refl within c.index-lines-place.is in
    let stands = subst (λ lines. slice_get lines c.in-Some.place ≡ Some c.index-lines-place.result) c.as_slice-lines.ensures at in
    let first = ap (position (is_process_for f.loc f.tag f.packet.eth_dst)) (sym c.as_slice-lines.ensures) ∙ found in
    line_move c.args.net.now c.args.config.now f c.requires.middlebox c.in-Some.place c.index-lines-place.result c.at_line.result first stands c.at_line.ensures
