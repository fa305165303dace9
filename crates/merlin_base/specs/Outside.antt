-- What calls on files and on a sink do to the faults, the contents and the bytes that are told.
use Rattle.std.specs.Prelude.{◌≡◌, ◌+◌, ◌-◌, ◌^◌, ◌<◌, ◌≤◌, ℕ, List, ◌++◌, length, min, take, ⊤, Option, None, Some, Result, Err, OnOk, OnErr, IfOk, IfSome}
use Rattle.std.specs.Io.KnownBytes.{Consumes, IsAtEnd}
use Rattle.merlin_base.specs.declared.outside.OutsideFault.{OutsideFault}
use Rattle.merlin_base.specs.declared.outside.OutsideFault.TheVariants.{Failed, OutOfMemory}

-- a count has risen, or stands at the end of its type
abbrev pub Rose : ℕ → ℕ → Type 0
Rose before now = min (before + 1) (2 ^ 64 - 1) ≤ now

-- The count rises at an error, unless it stands at its end, and only then. Want of memory is no answer.
pub record CountsFault {T : Type 0} (before now : ℕ) (result : Result T OutsideFault) : Type 0 where
  pub ok : OnOk result (now ≡ before)
  pub err : OnErr result (now ≡ min (before + 1) (2 ^ 64 - 1))
  pub memory : ¬ (result ≡ Err OutOfMemory)

-- Contents by name, where an object tells them. A name that the object lacks has none.
abbrev pub KnownContents : Type 0
KnownContents = Option (List ℕ → Option (List ℕ))

-- The file of this name is these bytes and then the unread rest, where contents are told.
abbrev pub IsReadUpTo : KnownContents → Option (List ℕ) → List ℕ → List ℕ → Type 0
IsReadUpTo None rest name done = ⊤
IsReadUpTo (Some contents) None name done = ⊥
IsReadUpTo (Some contents) (Some xs) name done = contents name ≡ Some (done ++ xs)

-- These bytes are the whole file, where contents are told.
abbrev pub IsFile : KnownContents → List ℕ → List ℕ → Type 0
IsFile known name bytes = IfSome known (λ contents. contents name ≡ Some bytes)

-- The file is longer than this, where contents are told.
abbrev pub IsLongerThan : KnownContents → List ℕ → ℕ → Type 0
IsLongerThan known name limit = IfSome known (λ contents. (bytes : List ℕ) × (contents name ≡ Some bytes) × (limit < length bytes))

-- No count falls.
abbrev pub NoneFalls : (List ℕ → ℕ) → (List ℕ → ℕ) → Type 0
NoneFalls before now = (name : List ℕ) → before name ≤ now name

-- Each count has risen.
abbrev pub EachRose : (List ℕ → ℕ) → (List ℕ → ℕ) → Type 0
EachRose before now = (name : List ℕ) → Rose (before name) (now name)

-- Failed is answered only where the fact holds.
abbrev pub FailsOnlyIf : {T : Type 0} → Result T OutsideFault → Type 0 → Type 0
FailsOnlyIf result fact = result ≡ Err Failed → fact

-- The bytes taken grow by these, where they are told.
abbrev pub Grows : Option (List ℕ) → Option (List ℕ) → List ℕ → Type 0
Grows None now piece = now ≡ None
Grows (Some xs) now piece = now ≡ Some (xs ++ piece)

-- The bytes taken grow by a prefix of these.
abbrev pub GrowsByPrefix : Option (List ℕ) → Option (List ℕ) → List ℕ → Type 0
GrowsByPrefix before now piece = (n : ℕ) × (n ≤ length piece) × Grows before now (take n piece)

-- A read gave the next bytes that are left, and none only at the end or with no room.
abbrev pub GivesNext : {E : Type 0} → Option (List ℕ) → Option (List ℕ) → Result ℕ E → List ℕ → Type 0
GivesNext before now result buf = IfOk result (λ n. Consumes before now (take n buf) × (n ≡ 0 → 0 < length buf → IsAtEnd now))
