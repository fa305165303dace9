-- Divisions as texts: a line for each tenant, in order.
use Rattle.std.specs.Prelude.{◌≡◌, ◌≤◌, ◌<◌, ⊤, ℕ, List, [], ◌∷◌, ◌++◌, length, map, codes, Option, None, Some, MatchOption, slice_get}
use Rattle.std.specs.Option.{option_map_or}
use Rattle.std.specs.List.{AllByRecursion, AllZip, zip}
use Rattle.std.specs.Fmt.{decimal}
use Rattle.merlin_base.specs.Texts.{joined}
use Rattle.merlin_base.specs.Lexemes.{IsName}
use Rattle.merlin_base.specs.Faults.{IsFirstWrongLine}
use Rattle.merlin_model.specs.declared.limits.TheConstants.{MAX_RATE}
use Rattle.fair_share.specs.declared.cap.Cap.{Cap}
use Rattle.fair_share.specs.declared.cap.Tenant.{Tenant}
use Rattle.fair_share.specs.declared.share.Share.{Share}
use Rattle.fair_share.specs.declared.share_text.SharesFault.{SharesFault}
use Rattle.fair_share.specs.declared.share_text.SharesFault.TheVariants.{BadShares, OutOfMemory}
use Rattle.fair_share.specs.Shares.{Demands}

-- the name of the cap at a place
abbrev pub cap_name : List Cap → ℕ → List ℕ
cap_name caps c = option_map_or (λ cap. cap.name) (slice_get caps c) []

abbrev pub cap_bound_text : List Cap → Option ℕ → List ℕ
cap_bound_text caps None = codes "demand"
cap_bound_text caps (Some c) = codes "cap " ++ cap_name caps c

-- a line without its newline
abbrev pub share_words : List Cap → Tenant → Share → List ℕ
share_words caps tenant share =
    codes "share " ++ (tenant.name ++ (codes " " ++ (decimal share.rate ++ (codes "kbps " ++ cap_bound_text caps share.cap))))

abbrev pub share_line : List Cap → Tenant → Share → List ℕ
share_line caps tenant share = share_words caps tenant share ++ 10 ∷ []

-- a line for each tenant
abbrev pub share_lines : Demands → List Share → List (List ℕ)
share_lines d shares = map (λ p. share_line d.caps p.0 p.1) (zip d.tenants shares)

abbrev pub shares_text : Demands → List Share → List ℕ
shares_text d shares = joined (share_lines d shares)

-- a rate within its limit, and a cap that is there
pub record IsShare (caps : List Cap) (share : Share) : Type 0 where
  pub rate : share.rate ≤ MAX_RATE
  pub cap : MatchOption share.cap ⊤ (λ c. c < length caps)

-- one share for each tenant
abbrev pub AreShares : Demands → List Share → Type 0
AreShares d shares = AllZip (λ tenant share. IsShare d.caps share) d.tenants shares

-- all caps have names, or all tenants
abbrev pub AreNamed : List Cap → Type 0
AreNamed caps = AllByRecursion (λ cap. IsName cap.name) caps

abbrev pub HaveNames : List Tenant → Type 0
HaveNames tenants = AllByRecursion (λ tenant. IsName tenant.name) tenants

-- the bytes stand for these shares
pub record IsSharesText (d : Demands) (bytes : List ℕ) (shares : List Share) : Type 0 where
  pub text : bytes ≡ shares_text d shares
  pub are_shares : AreShares d shares

-- the first wrong line; nothing is said of want of memory
abbrev pub IsSharesFault : Demands → List ℕ → SharesFault → Type 0
IsSharesFault d bytes (BadShares at) = IsFirstWrongLine (shares_text d) (AreShares d) bytes at
IsSharesFault d bytes OutOfMemory = ⊤
