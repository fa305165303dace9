use Rattle.std.proofs.Common.{◌≡◌, ◌∙◌, ◌&&◌, false, length, refl, sym, ap}
use Rattle.std.proofs.lemmas.Option.{slice_get_read}
use Rattle.merlin_model.specs.Machine.{is_for}
use Rattle.packet_trace.specs.Fitting.{frame_of, beats}
use Rattle.packet_trace.proofs.Best.{taken, kept}
use Rattle.packet_trace.proofs.fitting.better.Goals as goal
use Rattle.packet_trace.proofs.fitting.better.Goals.{else-beats-via-then-beats+else-is_for, else-beats-via-else-beats}

pub returns-then-is_for : goal.returns-then-is_for
returns-then-is_for c =
    let at = slice_get_read c.args.rules.now (length c.args.rules.now) c.args.place c.index-rules-place.result refl c.requires.place c.index-rules-place.is in
    taken c.args.rules.now (frame_of c.args.frame.now) c.args.place c.args.best c.index-rules-place.result at (sym c.beats.ensures ∙ c.if-beats.true) (sym c.is_for.ensures ∙ c.if-is_for.true) c.requires.best

pub returns-else-beats : goal.returns-else-beats
returns-else-beats c =
    let at = slice_get_read c.args.rules.now (length c.args.rules.now) c.args.place c.index-rules-place.result refl c.requires.place c.index-rules-place.is in
    let fits = is_for (frame_of c.args.frame.now) c.index-rules-place.result in
    let fails : (beats c.args.best c.index-rules-place.result.priority && is_for (frame_of c.args.frame.now) c.index-rules-place.result) ≡ false = elim c.else-beats.branch [
      | else-beats-via-then-beats+else-is_for w ↦ ap (λ b. b && fits) (sym c.beats.ensures ∙ w.if-beats.true) ∙ (sym w.is_for.ensures ∙ w.if-is_for.false)
      | else-beats-via-else-beats w ↦ ap (λ b. b && fits) (sym c.beats.ensures ∙ w.if-beats.false)
    ] in
    kept c.args.rules.now (frame_of c.args.frame.now) c.args.place c.args.best c.index-rules-place.result at fails c.requires.best
