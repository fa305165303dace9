use Rattle.std.proofs.Common.{◌≡◌, take}
use Rattle.merlin_base.specs.Outside.{NoneFalls}
use Rattle.merlin.specs.Reading.{AreContents, files_wanted, texts_read}
use Rattle.merlin.proofs.reading.read_files.Given as goal

abbrev pub invariant-loop-file : goal.invariant-loop-file
invariant-loop-file g l =
    (g.F.Files.contents l.files ≡ g.F.Files.contents l.fn.files) × NoneFalls (g.F.Files.faults l.fn.files) (g.F.Files.faults l.files)
    × AreContents (g.F.Files.contents l.fn.files) (files_wanted (take l.file-index l.wanted)) (texts_read l.contents.items)
