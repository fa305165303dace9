-- The command `fair`.
use Rattle.std.specs.Prelude.{◌≡◌, ◌≢◌, ◌++◌, ◌-◌, ℕ, List, [], ◌∷◌, codes}
use Rattle.std.specs.List.{AllZip}
use Rattle.std.specs.Fmt.{decimal}
use Rattle.merlin_base.specs.declared.status.Status.{Status}
use Rattle.merlin_base.specs.declared.status.Status.TheVariants as status
use Rattle.config_text.specs.Words.{line}
use Rattle.fair_share.specs.declared.share.Share.{Share}
use Rattle.fair_share.specs.declared.fault.DemandFault.{DemandFault}
use Rattle.fair_share.specs.declared.fault.DemandFault.TheVariants as faults
use Rattle.fair_share.specs.Shares.{Demands, IsSound, IsBestDivision, share_rates}
use Rattle.fair_share.specs.Filling.{IsNamed}
use Rattle.fair_share.specs.Reading.{IsDemandsText, RefusesDemands}
use Rattle.fair_share.specs.ShareTexts.{share_lines}
use Rattle.merlin.specs.declared.reading.TheConstants.{TEXT_LIMIT}
use Rattle.merlin.specs.declared.fair.Fair.{Fair}
use Rattle.merlin.specs.declared.fair.FairReply.{FairReply}
use Rattle.merlin.specs.declared.fair.FairReply.TheVariants.{Refused, Divided}

-- Its words and its file.

pub record FairForm : Type 0 where
  pub demands : List ℕ

abbrev pub fair_form : Fair → FairForm
fair_form words = record { demands = words.demands.now }

abbrev pub IsFairForm : List (List ℕ) → FairForm → Type 0
IsFairForm words form = words ≡ codes "fair" ∷ form.demands ∷ []

abbrev pub fair_files : FairForm → List (List ℕ × ℕ)
fair_files form = (form.demands, TEXT_LIMIT) ∷ []

-- What each reply means of the demands.

-- why demands are refused: want of memory is no refusal
abbrev pub IsDemandsRefusal : List ℕ → DemandFault → Type 0
IsDemandsRefusal demands fault = (fault ≢ faults.OutOfMemory) × RefusesDemands demands fault

-- The lines are those of a division for which `fairness` says yes, and so of a best one. Each names
-- the demand where the share is the demand, else the innermost cap that makes it right.
pub record AreBestLines (demands : Demands) (lines : List (List ℕ)) : Type 0 where
  pub shares : List Share
  pub sound : IsSound demands shares
  pub best : IsBestDivision demands (share_rates shares)
  pub named : AllZip (IsNamed demands (share_rates shares)) demands.tenants shares
  pub written : lines ≡ share_lines demands shares

-- the bytes stand for demands, and the lines divide them
pub record IsDivided (demands_bytes : List ℕ) (lines : List (List ℕ)) : Type 0 where
  pub demands : Demands
  pub is_demands : IsDemandsText demands_bytes demands
  pub best : AreBestLines demands lines

abbrev pub Divides : List ℕ → FairReply → Type 0
Divides demands (Refused fault) = IsDemandsRefusal demands fault
Divides demands (Divided lines) = IsDivided demands lines.items

abbrev pub IsFairReply : List (List ℕ) → FairReply → Type 0
IsFairReply contents reply = (demands : List ℕ) × (contents ≡ demands ∷ []) × Divides demands reply

-- Its lines and its status.

-- What a refusal is called. A count is one past its limit. Want of memory has no name.
abbrev pub demand_fault_text : DemandFault → List ℕ
demand_fault_text faults.Json = codes "demands json"
demand_fault_text (faults.Shape what) = codes "demands shape " ++ what
demand_fault_text (faults.TooLarge what count) =
    codes "more than " ++ (decimal (count - 1) ++ (codes " " ++ what))
demand_fault_text (faults.DuplicateName name) = codes "duplicate name " ++ name
demand_fault_text (faults.UnknownCap name) = codes "unknown cap " ++ name
demand_fault_text faults.OutOfMemory = []

abbrev pub refused_demands_lines : DemandFault → List (List ℕ)
refused_demands_lines fault = line (codes "refused: " ++ demand_fault_text fault) ∷ []

abbrev pub fair_lines : FairReply → List (List ℕ)
fair_lines (Refused fault) = refused_demands_lines fault
fair_lines (Divided lines) = lines.items

abbrev pub fair_status : FairReply → Status
fair_status (Refused fault) = status.Refused
fair_status (Divided lines) = status.Done
