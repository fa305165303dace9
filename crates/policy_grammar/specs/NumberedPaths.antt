-- Which path over numbers a path as it is written stands for, and the names in it.
use Rattle.std.specs.Prelude.{if◌then◌else◌, ℕ, Bool, true, false, not, is_some, bytes_eq, codes, List, [], ◌∷◌, ◌++◌, find, Option, None, Some}
use Rattle.merlin_model.specs.declared.policy.Path.{Path, Nothing as NoWord, Empty as EmptyWord, Dot as AnyPlace, Loc, Cat as Sequence, Alt as Choice, Star as Repetition, Not as Complement}
use Rattle.policy_grammar.specs.declared.written.RawPath.{RawPath, Dot, Named, Cat, Cat', Alt, Alt', Star, Star', Not, Not', Row_of-RawPath, end_of-RawPath, more_of-RawPath}

-- a name of a path, with the byte at which it starts, and whether some `!` stands above it
pub record PathName : Type 0 where
  pub text : List ℕ
  pub place : ℕ
  pub negated : Bool

abbrev mutual
  -- the names of a path in the order of the text
  pub names_of : Bool → RawPath → List PathName
  names_of negated Dot = []
  names_of negated (Named text place) = record { text = text; place = place; negated = negated } ∷ []
  names_of negated (Cat' _ parts) = names_of_each negated parts
  names_of negated (Alt' _ parts) = names_of_each negated parts
  names_of negated (Star' _ (more_of-RawPath part end_of-RawPath)) = names_of negated part
  names_of negated (Not' _ (more_of-RawPath part end_of-RawPath)) = names_of true part

  pub names_of_each : {n : _} → Bool → Row_of-RawPath n → List PathName
  names_of_each negated end_of-RawPath = []
  names_of_each negated (more_of-RawPath part rest) = names_of negated part ++ names_of_each negated rest

-- the names of a whole path
abbrev pub path_names : RawPath → List PathName
path_names path = names_of false path

-- the first name that stands for nothing, where a name stands for a location or for a function
abbrev pub first_unknown : (List ℕ → Option Path) → RawPath → Option PathName
first_unknown known path = find (λ name. not (is_some (known name.text))) (path_names path)

-- paths one after another, grouped to the right
abbrev pub in_sequence : List Path → Path
in_sequence [] = EmptyWord
in_sequence (p ∷ []) = p
in_sequence (p ∷ q ∷ ps) = Sequence p (in_sequence (q ∷ ps))

-- what a name stands for; one that stands for nothing has no word
abbrev pub place_or_none : Option Path → Path
place_or_none None = NoWord
place_or_none (Some path) = path

abbrev mutual
  -- the same path over what its names stand for
  pub numbered : (List ℕ → Option Path) → RawPath → Path
  numbered known Dot = AnyPlace
  numbered known (Named text place) = place_or_none (known text)
  numbered known (Cat' _ parts) = in_sequence (each_numbered known parts)
  numbered known (Alt' _ parts) = Choice (each_numbered known parts)
  numbered known (Star' _ (more_of-RawPath part end_of-RawPath)) = Repetition (numbered known part)
  numbered known (Not' _ (more_of-RawPath part end_of-RawPath)) = Complement (numbered known part)

  pub each_numbered : {n : _} → (List ℕ → Option Path) → Row_of-RawPath n → List Path
  each_numbered known end_of-RawPath = []
  each_numbered known (more_of-RawPath part rest) = numbered known part ∷ each_numbered known rest

-- A worked example: `h1 .* !(h2|nat) h2`, where `h1` and `h2` are the locations 0 and 1.

abbrev pub two_places : List ℕ → Option Path
two_places name =
    if bytes_eq name (codes "h1") then Some (Loc 0)
    else if bytes_eq name (codes "h2") then Some (Loc 1)
    else None

abbrev pub row_path : RawPath
row_path = Cat (Named (codes "h1") 0 ∷ Star Dot ∷ Not (Alt (Named (codes "h2") 7 ∷ Named (codes "nat") 10 ∷ [])) ∷ Named (codes "h2") 15 ∷ [])
