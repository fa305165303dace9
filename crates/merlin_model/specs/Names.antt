-- The text that a name keeps.
use Rattle.std.specs.Prelude.{ℕ, List}
use Rattle.merlin_model.specs.declared.name.Kept.{Kept}
use Rattle.merlin_model.specs.declared.name.Kept.TheVariants as kept

abbrev pub kept_text : Kept → List ℕ
kept_text (kept.Short text) = text
kept_text (kept.Long text) = text
