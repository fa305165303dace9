-- Files that are read one after the other.
use Rattle.std.proofs.Common.{◌≡◌, ◌≤◌, ◌<◌, ◌+◌, ℕ, suc, List, [], ◌∷◌, ◌++◌, length, take, drop, get_or, refl, inl, inr, sym, ◌∙◌, ap, subst, arith, drop-cons}
use Rattle.std.proofs.lemmas.List.{map-append, take_more, take-append-drop}
use Rattle.std.specs.declared.vec.Vec.{Vec}
use Rattle.std.specs.declared.alloc.Global.{Global}
use Rattle.merlin_base.specs.Outside.{KnownContents, IsLongerThan, NoneFalls, Rose}
use Rattle.merlin_base.specs.declared.transfer.ReadFail.{ReadFail}
use Rattle.merlin_base.specs.declared.transfer.ReadFail.TheVariants as fails
use Rattle.merlin.specs.Reading.{AreContents, IsFirstTooLong, IsNameIn, IsReason, IsUnread, files_wanted, texts_read}
use Rattle.merlin.specs.declared.reading.Wanted.{Wanted}
use Rattle.merlin.specs.declared.reading.Unread.{Unread}
use Rattle.merlin.specs.declared.reading.Unread.TheVariants as unread

-- one file

pub IsUnread-one : (known : KnownContents) (name : List ℕ) (limit : ℕ) (before now : List ℕ
    → ℕ) (fail : ReadFail) (reason : Unread) → IsReason fail name reason
    → (fail ≡ fails.Outside → Rose (before name) (now name)) → (fail ≡ fails.TooLong
    → IsLongerThan known name limit) → IsUnread known ((name, limit) ∷ []) before now reason
IsUnread-one known name limit before now fails.Outside reason e rose long = rw e (name, inl refl, rose refl)
IsUnread-one known name limit before now fails.TooLong reason (inl e) rose long = rw e (inl (refl, long refl))
IsUnread-one known name limit before now fails.TooLong reason (inr e) rose long = rw e tt
IsUnread-one known name limit before now fails.OutOfMemory reason e rose long = rw e tt

-- a file after others

pub AreContents-more : (known : KnownContents) (files : List (List ℕ
    × ℕ)) (texts : List (List ℕ)) (file : List ℕ × ℕ) (text : List ℕ)
    → AreContents known files texts → AreContents known (file ∷ []) (text ∷ [])
    → AreContents known (files ++ file ∷ []) (texts ++ text ∷ [])
AreContents-more known [] [] file text are more = more
AreContents-more known [] (x ∷ texts) file text are more = absurd are
AreContents-more known (f ∷ files) [] file text are more = absurd are
AreContents-more known (f ∷ files) (x ∷ texts) file text are more = (are.0, are.1, AreContents-more known files texts file text are.2 more)

long-after : (known : KnownContents) (files : List (List ℕ
    × ℕ)) (texts : List (List ℕ)) (file : List ℕ × ℕ) (rest : List (List ℕ × ℕ)) (name : List ℕ)
    → AreContents known files texts → IsFirstTooLong known (file ∷ []) name
    → IsFirstTooLong known (files ++ file ∷ rest) name
long-after known [] [] file rest name are (inl long) = inl long
long-after known [] [] file rest name are (inr (text, is, fits, none)) = absurd none
long-after known [] (x ∷ texts) file rest name are long = absurd are
long-after known (f ∷ files) [] file rest name are long = absurd are
long-after known (f ∷ files) (x ∷ texts) file rest name are long = inr (x, are.0, are.1, long-after known files texts file rest name are.2 long)

name-after : (files : List (List ℕ × ℕ)) (file : List ℕ × ℕ) (rest : List (List ℕ
    × ℕ)) (name : List ℕ) → IsNameIn (file ∷ []) name → IsNameIn (files ++ file ∷ rest) name
name-after [] file rest name (inl same) = inl same
name-after [] file rest name (inr none) = absurd none
name-after (f ∷ files) file rest name is = inr (name-after files file rest name is)

Rose-earlier : (before between now : ℕ) → before ≤ between → Rose between now → Rose before now
Rose-earlier before between now earlier rose = grind arith

pub IsUnread-after : (known : KnownContents) (files : List (List ℕ
    × ℕ)) (texts : List (List ℕ)) (file : List ℕ × ℕ) (rest : List (List ℕ
    × ℕ)) (before between now : List ℕ → ℕ) (reason : Unread)
    → AreContents known files texts → NoneFalls before between
    → IsUnread known (file ∷ []) between now reason
    → IsUnread known (files ++ file ∷ rest) before now reason
IsUnread-after known files texts file rest before between now unread.Fault are later (name, is, rose) = (
  name,
  name-after files file rest name is,
  Rose-earlier (before name) (between name) (now name)
      (later name) rose,
)
IsUnread-after known files texts file rest before between now (unread.TooLong name) are later long = long-after known files texts file rest name are long
IsUnread-after known files texts file rest before between now unread.OutOfMemory are later h = tt

-- The files that are wanted, one after another. What was told when a file was read is what was told before.

abbrev named : Wanted → List ℕ × ℕ
named file = (file.name.now, file.limit)

module _ (known other : KnownContents) (same : other ≡ known) (wanted : List Wanted) (at : ℕ) (default : Wanted)
    (within : at < length wanted) (contents : List (Vec ℕ Global))
    (are : AreContents known (files_wanted (take at wanted)) (texts_read contents)) where
  reached : files_wanted (take (at + 1) wanted) ≡ files_wanted (take at wanted) ++ named (get_or wanted at default) ∷ []
  reached =
      ap files_wanted (take_more wanted at default within)
      ∙ map-append named (take at wanted) (get_or wanted at default ∷ [])

  whole : files_wanted wanted ≡ files_wanted (take at wanted) ++ named (get_or wanted at default) ∷ files_wanted (drop (suc at) wanted)
  whole =
      ap files_wanted (sym (take-append-drop at wanted) ∙ ap (λ ws. take at wanted ++ ws) (drop-cons wanted at default within))
      ∙ map-append named (take at wanted) (get_or wanted at default ∷ drop (suc at) wanted)

  pub AreContents-next : (text : Vec ℕ Global) → AreContents other (named (get_or wanted at default) ∷ []) (text.items ∷ [])
      → AreContents known (files_wanted (take (at + 1) wanted)) (texts_read (contents ++ text ∷ []))
  AreContents-next text more =
      rw (reached, map-append (λ (v : Vec ℕ Global). v.items) contents (text ∷ []))
      (AreContents-more known (files_wanted (take at wanted)) (texts_read contents) (named (get_or wanted at default)) text.items are
      (subst (λ k. AreContents k (named (get_or wanted at default) ∷ []) (text.items ∷ [])) same more))

  pub IsUnread-next : (before between now : List ℕ → ℕ) (reason : Unread) → NoneFalls before between
      → IsUnread other (named (get_or wanted at default) ∷ []) between now reason → IsUnread known (files_wanted wanted) before now reason
  IsUnread-next before between now reason later unread =
      rw whole
      (IsUnread-after known (files_wanted (take at wanted)) (texts_read contents) (named (get_or wanted at default)) (files_wanted (drop (suc at) wanted))
      before between now reason are later (subst (λ k. IsUnread k (named (get_or wanted at default) ∷ []) between now reason) same unread))

pub NoneFalls-join : (a b c : List ℕ → ℕ) → NoneFalls a b → NoneFalls b c → NoneFalls a c
NoneFalls-join a b c p q name = omega (arith, p name, q name)

-- what was so since a later time was so since an earlier one
pub IsUnread-earlier : (known : KnownContents) (files : List (List ℕ × ℕ)) (before between now : List ℕ → ℕ) (reason : Unread)
    → NoneFalls before between → IsUnread known files between now reason → IsUnread known files before now reason
IsUnread-earlier known files before between now unread.Fault later (name, is, rose) =
    (name, is, Rose-earlier (before name) (between name) (now name) (later name) rose)
IsUnread-earlier known files before between now (unread.TooLong name) later long = long
IsUnread-earlier known files before between now unread.OutOfMemory later h = tt
