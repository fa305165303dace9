-- The command `fairness`.
use Rattle.std.specs.Prelude.{◌≡◌, ◌++◌, ℕ, List, [], ◌∷◌, codes}
use Rattle.std.specs.Fmt.{decimal}
use Rattle.merlin_base.specs.Faults.{IsFirstWrongLine}
use Rattle.merlin_base.specs.declared.status.Status.{Status}
use Rattle.merlin_base.specs.declared.status.Status.TheVariants as status
use Rattle.config_text.specs.Words.{line}
use Rattle.fair_share.specs.declared.share.Share.{Share}
use Rattle.fair_share.specs.Shares.{Demands, IsSound, IsFirstUnsound, IsBestDivision, share_rates}
use Rattle.fair_share.specs.Reading.{IsDemandsText}
use Rattle.fair_share.specs.ShareTexts.{shares_text, AreShares, IsSharesText}
use Rattle.merlin.specs.declared.reading.TheConstants.{TEXT_LIMIT}
use Rattle.merlin.specs.declared.fairness.Fairness.{Fairness}
use Rattle.merlin.specs.declared.fairness.FairnessReply.{FairnessReply}
use Rattle.merlin.specs.declared.fairness.FairnessReply.TheVariants.{Refused, BadShares, Sound, Unsound}
use Rattle.merlin.specs.Fair.{IsDemandsRefusal, refused_demands_lines}

-- Its words and its files.

pub record FairnessForm : Type 0 where
  pub demands : List ℕ
  pub shares : List ℕ

abbrev pub fairness_form : Fairness → FairnessForm
fairness_form words = record { demands = words.demands.now; shares = words.shares.now }

abbrev pub IsFairnessForm : List (List ℕ) → FairnessForm → Type 0
IsFairnessForm words form = words ≡ codes "fairness" ∷ form.demands ∷ form.shares ∷ []

abbrev pub fairness_files : FairnessForm → List (List ℕ × ℕ)
fairness_files form = (form.demands, TEXT_LIMIT) ∷ (form.shares, TEXT_LIMIT) ∷ []

-- What each reply means of the demands and the shares.

-- the bytes stand for these demands and this division of them
pub record AreReadAs (demands_bytes shares_bytes : List ℕ) (demands : Demands) (shares : List Share)
    : Type 0 where
  pub is_demands : IsDemandsText demands_bytes demands
  pub is_shares : IsSharesText demands shares_bytes shares

-- The demands are read, and this is the first wrong line of the shares.
pub record HasWrongShares (demands_bytes shares_bytes : List ℕ) (at : ℕ) : Type 0 where
  pub demands : Demands
  pub is_demands : IsDemandsText demands_bytes demands
  pub wrong : IsFirstWrongLine (shares_text demands) (AreShares demands) shares_bytes at

-- The division is feasible, each of its lines is right, and it is the best.
pub record HasSoundShares (demands_bytes shares_bytes : List ℕ) : Type 0 where
  pub demands : Demands
  pub shares : List Share
  pub read : AreReadAs demands_bytes shares_bytes demands shares
  pub sound : IsSound demands shares
  pub best : IsBestDivision demands (share_rates shares)

-- The tenant of this name is the first at fault.
pub record HasUnsoundShares (demands_bytes shares_bytes name : List ℕ) : Type 0 where
  pub demands : Demands
  pub shares : List Share
  pub read : AreReadAs demands_bytes shares_bytes demands shares
  pub place : ℕ
  pub first : IsFirstUnsound demands shares place
  pub named : name ≡ first.tenant.name

-- The demands are looked at first, then the shares.
abbrev pub Judges : List ℕ → List ℕ → FairnessReply → Type 0
Judges demands shares (Refused fault) = IsDemandsRefusal demands fault
Judges demands shares (BadShares at) = HasWrongShares demands shares at
Judges demands shares Sound = HasSoundShares demands shares
Judges demands shares (Unsound name) = HasUnsoundShares demands shares name

abbrev pub IsFairnessReply : List (List ℕ) → FairnessReply → Type 0
IsFairnessReply contents reply = (demands shares : List ℕ)
    × (contents ≡ demands ∷ shares ∷ []) × Judges demands shares reply

-- Its lines and its status.

abbrev pub fairness_lines : FairnessReply → List (List ℕ)
fairness_lines (Refused fault) = refused_demands_lines fault
fairness_lines (BadShares at) = line (codes "refused: shares at " ++ decimal at) ∷ []
fairness_lines Sound = line (codes "yes") ∷ []
fairness_lines (Unsound name) = line (codes "no " ++ name) ∷ []

abbrev pub fairness_status : FairnessReply → Status
fairness_status (Refused fault) = status.Refused
fairness_status (BadShares at) = status.Refused
fairness_status Sound = status.Done
fairness_status (Unsound name) = status.CheckNo
