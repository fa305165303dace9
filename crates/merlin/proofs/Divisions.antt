-- What is replied to demands and to divisions of them.
use Rattle.std.proofs.Common.{◌≡◌, ◌++◌, ◌-◌, ℕ, suc, List, [], ◌∷◌, length, append_assoc, refl, ◌∙◌, ap, subst}
use Rattle.std.specs.Prelude.{codes}
use Rattle.std.specs.List.{AllZip}
use Rattle.std.specs.Fmt.{decimal}
use Rattle.merlin_base.specs.Faults.{IsFirstWrongLine}
use Rattle.merlin_base.specs.declared.status.Status.TheVariants as status
use Rattle.fair_share.specs.declared.fault.DemandFault.{DemandFault}
use Rattle.fair_share.specs.declared.fault.DemandFault.TheVariants as faults
use Rattle.fair_share.specs.declared.share.Share.{Share}
use Rattle.fair_share.specs.Shares.{Demands, IsSound, IsFirstUnsound}
use Rattle.fair_share.specs.Reading.{IsDemandsText}
use Rattle.fair_share.specs.ShareTexts.{shares_text, AreShares, IsSharesText}
use Rattle.fair_share.proofs.OneReading.{demands-one, demands-apart, demands-kept}
use Rattle.fair_share.proofs.OneDivision.{one-division}
use Rattle.fair_share.proofs.OneVerdict.{sound-apart}
use Rattle.merlin.specs.declared.fair.FairReply.{FairReply}
use Rattle.merlin.specs.declared.fair.FairReply.TheVariants as fair
use Rattle.merlin.specs.declared.fairness.FairnessReply.{FairnessReply}
use Rattle.merlin.specs.declared.fairness.FairnessReply.TheVariants as fairness
use Rattle.merlin.specs.declared.fairness.FairnessReply.TheVariants.{BadShares, Sound, Unsound}
use Rattle.merlin.specs.Fair.{demand_fault_text, IsDemandsRefusal, Divides, IsFairReply, fair_status}
use Rattle.merlin.specs.Fairness.{AreReadAs, HasWrongShares, Judges, IsFairnessReply, fairness_status}
use Rattle.merlin.proofs.Compiling.{of_two}

pub excess_text-is : (what text : List ℕ) (count : ℕ)
    → text ≡ codes "refused: more than " ++ (decimal (count - 1) ++ codes " ")
    → text ++ what ≡ codes "refused: " ++ demand_fault_text (faults.TooLarge what count)
excess_text-is what text count e =
    ap (λ t. t ++ what) e ∙ ap (λ t. codes "refused: more than " ++ t) (append_assoc (decimal (count - 1)) (codes " ") what)

pub AllZip-length : {A B : Type 0} (R : A → B → Type 0) (xs : List A) (ys : List B) → AllZip R xs ys
    → length ys ≡ length xs
AllZip-length R [] [] all = refl
AllZip-length R [] (y ∷ ys) all = absurd all
AllZip-length R (x ∷ xs) [] all = absurd all
AllZip-length R (x ∷ xs) (y ∷ ys) all = ap suc (AllZip-length R xs ys all.1)

-- what bytes stand for is not refused
not_refused : (bytes : List ℕ) (demands : Demands) (fault : DemandFault) → IsDemandsText bytes demands
    → IsDemandsRefusal bytes fault → ⊥
not_refused bytes demands fault is (known, refuses) = known (demands-apart bytes demands fault is refuses)

pub Divides-done : (bytes : List ℕ) (demands : Demands) → IsDemandsText bytes demands
    → (reply : FairReply) → Divides bytes reply → fair_status reply ≡ status.Done
Divides-done bytes demands is (fair.Refused fault) h = absurd (not_refused bytes demands fault is h)
Divides-done bytes demands is (fair.Divided lines) h = refl

Divides-one : (bytes : List ℕ) (r s : FairReply) → Divides bytes r → Divides bytes s
    → fair_status s ≡ fair_status r
Divides-one bytes (fair.Refused fault) (fair.Refused other) h k = refl
Divides-one bytes (fair.Refused fault) (fair.Divided lines) h k = absurd (not_refused bytes k.demands fault k.is_demands h)
Divides-one bytes (fair.Divided lines) s h k = Divides-done bytes h.demands h.is_demands s k

-- Texts that are read are read in one way.
module _ (d s : List ℕ) (demands : Demands) (shares : List Share) (read : AreReadAs d s demands shares) where
  -- what holds of one reading holds of the other
  of_read : (P : Demands → List Share → Type 0) (other : Demands) (division : List Share)
      → AreReadAs d s other division → P other division → P demands shares
  of_read P other division twin h =
      let same : other ≡ demands = demands-one d other demands twin.is_demands read.is_demands in
      let there : IsSharesText demands s division = subst (λ x. IsSharesText x s division) same twin.is_shares in
      let one : division ≡ shares = one-division demands s division shares (demands-kept d demands read.is_demands) there read.is_shares in
      subst (P demands) one (subst (λ x. P x division) same h)

  no_wrong : (at : ℕ) → HasWrongShares d s at → ⊥
  no_wrong at h =
      let same : h.demands ≡ demands = demands-one d h.demands demands h.is_demands read.is_demands in
      let wrong : IsFirstWrongLine (shares_text demands) (AreShares demands) s at = subst (λ x. IsFirstWrongLine (shares_text x) (AreShares x) s at) same h.wrong in
      wrong.none shares read.is_shares.are_shares read.is_shares.text

  pub Judges-sound : IsSound demands shares → (reply : FairnessReply) → Judges d s reply → reply ≡ Sound
  Judges-sound sound (fairness.Refused fault) h = absurd (not_refused d demands fault read.is_demands h)
  Judges-sound sound (BadShares at) h = absurd (no_wrong at h)
  Judges-sound sound Sound h = refl
  Judges-sound sound (Unsound name) h =
      let first : (place : ℕ) × IsFirstUnsound demands shares place = of_read (λ x y. (place : ℕ) × IsFirstUnsound x y place) h.demands h.shares h.read (h.place, h.first) in
      absurd (sound-apart demands shares first.0 sound first.1)

  pub Judges-unsound : (¬ IsSound demands shares) → (reply : FairnessReply) → Judges d s reply
      → fairness_status reply ≡ status.CheckNo
  Judges-unsound unsound (fairness.Refused fault) h = absurd (not_refused d demands fault read.is_demands h)
  Judges-unsound unsound (BadShares at) h = absurd (no_wrong at h)
  Judges-unsound unsound Sound h = absurd (unsound (of_read IsSound h.demands h.shares h.read h.sound))
  Judges-unsound unsound (Unsound name) h = refl

-- two replies have one status

refused : (d s : List ℕ) (fault : DemandFault) → IsDemandsRefusal d fault → (r : FairnessReply)
    → Judges d s r → fairness_status r ≡ status.Refused
refused d s fault h (fairness.Refused other) k = refl
refused d s fault h (BadShares at) k = refl
refused d s fault h Sound k = absurd (not_refused d k.demands fault k.read.is_demands h)
refused d s fault h (Unsound name) k = absurd (not_refused d k.demands fault k.read.is_demands h)

wrong : (d s : List ℕ) (at : ℕ) → HasWrongShares d s at → (r : FairnessReply) → Judges d s r
    → fairness_status r ≡ status.Refused
wrong d s at h (fairness.Refused other) k = refl
wrong d s at h (BadShares other) k = refl
wrong d s at h Sound k = absurd (no_wrong d s k.demands k.shares k.read at h)
wrong d s at h (Unsound name) k = absurd (no_wrong d s k.demands k.shares k.read at h)

Judges-one : (d s : List ℕ) (r t : FairnessReply) → Judges d s r → Judges d s t
    → fairness_status t ≡ fairness_status r
Judges-one d s (fairness.Refused fault) t h k = refused d s fault h t k
Judges-one d s (BadShares at) t h k = wrong d s at h t k
Judges-one d s Sound t h k = ap fairness_status (Judges-sound d s h.demands h.shares h.read h.sound t k)
Judges-one d s (Unsound name) t h k =
    Judges-unsound d s h.demands h.shares h.read (λ sound. sound-apart h.demands h.shares h.place sound h.first) t k

-- the same of what the files hold

of_one : (P : List ℕ → Type 0) (contents : List (List ℕ)) (a b : List ℕ) → contents ≡ a ∷ []
    → contents ≡ b ∷ [] → P b → P a
of_one P contents a b e e' h = let same : b ≡ a = cc in subst P same h

pub IsFairReply-divides : (bytes : List ℕ) (r : FairReply) → IsFairReply (bytes ∷ []) r → Divides bytes r
IsFairReply-divides bytes r (d, e, h) = of_one (λ x. Divides x r) (bytes ∷ []) bytes d refl e h

pub IsFairReply-one : (contents : List (List ℕ)) (r s : FairReply) → IsFairReply contents r
    → IsFairReply contents s → fair_status s ≡ fair_status r
IsFairReply-one contents r s (d, e, h) (b, e', k) = Divides-one d r s h (of_one (λ x. Divides x s) contents d b e e' k)

pub IsFairnessReply-judges : (d s : List ℕ) (r : FairnessReply) → IsFairnessReply (d ∷ s ∷ []) r
    → Judges d s r
IsFairnessReply-judges d s r (a, b, e, h) = of_two (λ x y. Judges x y r) (d ∷ s ∷ []) d s a b refl e h

pub IsFairnessReply-one : (contents : List (List ℕ)) (r t : FairnessReply) → IsFairnessReply contents r
    → IsFairnessReply contents t → fairness_status t ≡ fairness_status r
IsFairnessReply-one contents r t (d, s, e, h) (a, b, e', k) =
    Judges-one d s r t h (of_two (λ x y. Judges x y t) contents d s a b e e' k)
