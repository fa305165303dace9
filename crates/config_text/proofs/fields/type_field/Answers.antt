use Rattle.std.proofs.Common.{◌≡◌, ◌++◌, ◌∷◌, [], ℕ, List, Bool, true, false, codes, ◌∙◌, append_assoc}
use Rattle.config_text.specs.Lines.{type_field}
use Rattle.config_text.specs.Separated.{AreTextsAdded}
use Rattle.config_text.proofs.Separators.{written_one}
use Rattle.config_text.proofs.fields.type_field.Goals as goal

named : (b : Bool) (s : ℕ) (old new : List ℕ) → b ≡ true → new ≡ old ++ s ∷ codes "dl_type=0x0800" → AreTextsAdded s old (type_field b) 44 new
named true s old new is e = rw e (written_one s old (codes "dl_type=0x0800"))
named false s old new is e = absurd cc

pub returns : goal.returns
returns c = named c.args.is_named c.args.separator c.args.line.now c.text.new.self c.if-not-is_named.false
    (c.in_ok-text.ensures ∙ rw c.in_ok-byte.ensures (append_assoc c.args.line.now (c.args.separator ∷ []) (codes "dl_type=0x0800")))
