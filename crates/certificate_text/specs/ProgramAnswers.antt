-- Why a text is no program.
use Rattle.std.specs.Prelude.{ℕ, List}
use Rattle.certificate_text.specs.declared.program.ProgramTextFault.{ProgramTextFault}
use Rattle.certificate_text.specs.declared.program.ProgramTextFault.TheVariants.{BadProgram, OutOfMemory}
use Rattle.merlin_base.specs.Faults.{IsFirstWrongLine}
use Rattle.certificate_text.specs.ProgramTexts.{program_text, IsProgramText}

-- the first wrong line; nothing is said of want of memory
abbrev pub IsProgramFault : List ℕ → ProgramTextFault → Type 0
IsProgramFault text (BadProgram at) = IsFirstWrongLine program_text IsProgramText text at
IsProgramFault text OutOfMemory = Unit {0}
