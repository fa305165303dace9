-- Files that are read one after the other, each with the most bytes that it may have.
use Rattle.std.specs.Prelude.{◌≡◌, ◌⊎◌, ◌≤◌, ℕ, ⊤, List, [], ◌∷◌, length, map}
use Rattle.std.specs.declared.vec.Vec.{Vec}
use Rattle.std.specs.declared.alloc.Global.{Global}
use Rattle.merlin_base.specs.Outside.{KnownContents, IsFile, IsLongerThan, Rose}
use Rattle.merlin_base.specs.declared.transfer.ReadFail.{ReadFail}
use Rattle.merlin_base.specs.declared.transfer.ReadFail.TheVariants as fails
use Rattle.merlin.specs.declared.reading.Wanted.{Wanted}
use Rattle.merlin.specs.declared.reading.Unread.{Unread}
use Rattle.merlin.specs.declared.reading.Unread.TheVariants as unread

-- these are the contents of the files, where contents are told, and none is too long
abbrev pub AreContents : KnownContents → List (List ℕ × ℕ) → List (List ℕ) → Type 0
AreContents known [] [] = ⊤
AreContents known [] (text ∷ texts) = ⊥
AreContents known (file ∷ files) [] = ⊥
AreContents known (file ∷ files) (text ∷ texts) =
    IsFile known file.0 text × (length text ≤ file.1) × AreContents known files texts

-- the first file that is too long has this name
abbrev pub IsFirstTooLong : KnownContents → List (List ℕ × ℕ) → List ℕ → Type 0
IsFirstTooLong known [] name = ⊥
IsFirstTooLong known (file ∷ files) name =
    ((name ≡ file.0) × IsLongerThan known file.0 file.1)
    ⊎ ((text : List ℕ) × IsFile known file.0 text × (length text ≤ file.1)
    × IsFirstTooLong known files name)

-- one of the files has this name
abbrev pub IsNameIn : List (List ℕ × ℕ) → List ℕ → Type 0
IsNameIn [] name = ⊥
IsNameIn (file ∷ files) name = (name ≡ file.0) ⊎ IsNameIn files name

-- the count of one of the files has risen
abbrev pub RoseIn : List (List ℕ × ℕ) → (List ℕ → ℕ) → (List ℕ → ℕ) → Type 0
RoseIn files before now = (name : List ℕ) × IsNameIn files name × Rose (before name) (now name)

-- the contents of files name no further ones
abbrev pub NamesNone : List (List ℕ) → List (List ℕ × ℕ) → Type 0
NamesNone contents more = more ≡ []

-- the files that are wanted, and the bytes that were read
abbrev pub files_wanted : List Wanted → List (List ℕ × ℕ)
files_wanted wanted = map (λ file. (file.name.now, file.limit)) wanted

abbrev pub texts_read : List (Vec ℕ Global) → List (List ℕ)
texts_read contents = map (λ text. text.items) contents

-- what a read that failed is to a file of this name
abbrev pub IsReason : ReadFail → List ℕ → Unread → Type 0
IsReason fails.Outside name reason = reason ≡ unread.Fault
IsReason fails.TooLong name reason = (reason ≡ unread.TooLong name) ⊎ (reason ≡ unread.OutOfMemory)
IsReason fails.OutOfMemory name reason = reason ≡ unread.OutOfMemory

-- why files were not all read
abbrev pub IsUnread : KnownContents → List (List ℕ × ℕ) → (List ℕ → ℕ) → (List ℕ → ℕ) → Unread
    → Type 0
IsUnread known files before now unread.Fault = RoseIn files before now
IsUnread known files before now (unread.TooLong name) = IsFirstTooLong known files name
IsUnread known files before now unread.OutOfMemory = ⊤

-- why files that something names were not all read
abbrev pub IsUnreadNamed : KnownContents → (List (List ℕ × ℕ) → Type 0) → (List ℕ → ℕ) → (List ℕ → ℕ)
    → Unread → Type 0
IsUnreadNamed known Names before now unread.OutOfMemory = ⊤
IsUnreadNamed known Names before now reason =
    (files : List (List ℕ × ℕ)) × Names files × IsUnread known files before now reason
