-- The `process` line that acts on a frame.
use Rattle.std.specs.Prelude.{ℕ, ◌==◌, ◌&&◌, Bool, Option}
use Rattle.merlin_model.specs.declared.config.Process.{Process}
use Rattle.merlin_model.specs.Machine.{tag_is}

-- the line stands at this middlebox, for this tag and destination
abbrev pub is_process_for : ℕ → Option ℕ → ℕ → Process → Bool
is_process_for loc tag eth_dst line = (line.loc == loc) && tag_is tag line.tag && (line.eth_dst == eth_dst)
