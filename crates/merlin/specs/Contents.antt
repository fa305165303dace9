-- What all files of a command hold: those that its words name, and those that the contents of these
-- name.
use Rattle.std.specs.Prelude.{◌≡◌, ◌⊎◌, ◌++◌, ℕ, List, []}
use Rattle.merlin_base.specs.Outside.{KnownContents}
use Rattle.merlin.specs.declared.reading.Unread.{Unread}
use Rattle.merlin.specs.Reading.{AreContents, IsFirstTooLong, RoseIn, IsUnread}
use Rattle.merlin.specs.Commands.{Form, files_of, NamesFurther}

-- The files of the words hold this, and name these further files.
pub record HasNamed (known : KnownContents) (form : Form) (first : List (List ℕ))
    (more : List (List ℕ × ℕ)) : Type 0 where
  pub are_contents : AreContents known (files_of form) first
  pub names : NamesFurther form first more

-- This is what the files hold, those of the words and then the further ones, where contents are told,
-- and none is too long.
pub record AreContentsOf (known : KnownContents) (form : Form) (contents : List (List ℕ))
    : Type 0 where
  pub first : List (List ℕ)
  pub more : List (List ℕ × ℕ)
  pub further : List (List ℕ)
  pub named : HasNamed known form first more
  pub are_further : AreContents known more further
  pub whole : contents ≡ first ++ further

-- the files that the words name are all files of the command, whatever they hold
abbrev pub NamesNothing : Form → Type 0
NamesNothing form =
    (first : List (List ℕ)) (more : List (List ℕ × ℕ)) → NamesFurther form first more → more ≡ []

-- It is so of further files.
pub record IsSoOfFurther (known : KnownContents) (form : Form)
    (IsSo : List (List ℕ × ℕ) → Type 0) : Type 0 where
  pub first : List (List ℕ)
  pub more : List (List ℕ × ℕ)
  pub named : HasNamed known form first more
  pub is_so : IsSo more

-- It is so of the files of the words, or else of further ones, once the files of the words are read.
abbrev pub IsSoOfFiles : KnownContents → Form → (List (List ℕ × ℕ) → Type 0) → Type 0
IsSoOfFiles known form IsSo = IsSo (files_of form) ⊎ IsSoOfFurther known form IsSo

-- the first file that is too long has this name
abbrev pub IsFirstTooLongOf : KnownContents → Form → List ℕ → Type 0
IsFirstTooLongOf known form name =
    IsSoOfFiles known form (λ files. IsFirstTooLong known files name)

-- the count of one of the files has risen
abbrev pub RoseInFilesOf : KnownContents → Form → (List ℕ → ℕ) → (List ℕ → ℕ) → Type 0
RoseInFilesOf known form before now = IsSoOfFiles known form (λ files. RoseIn files before now)

-- why the files were not all read
abbrev pub IsUnreadOf : KnownContents → Form → (List ℕ → ℕ) → (List ℕ → ℕ) → Unread → Type 0
IsUnreadOf known form before now reason =
    IsSoOfFiles known form (λ files. IsUnread known files before now reason)
