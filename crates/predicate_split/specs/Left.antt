-- What is left of predicates, with their places, once fields are fixed. What can hold nowhere any more is not kept.
use Rattle.std.specs.Prelude.{ℕ, suc, List, [], ◌∷◌, if◌then◌else◌}
use Rattle.std.specs.List.{flat_map}
use Rattle.merlin_model.specs.declared.policy.Field.{Field}
use Rattle.merlin_model.specs.declared.policy.Field.TheVariants.{EthSrc, EthDst, IpSrc, IpDst}
use Rattle.merlin_model.specs.declared.policy.Pred.{Pred}
use Rattle.merlin_model.specs.declared.network.HostAddress.{HostAddress}
use Rattle.predicate_logic.specs.Residues.{is_no, residue}
use Rattle.predicate_logic.specs.Mentions.{mentions, ascending}
use Rattle.predicate_split.specs.declared.pairs.PlacedPred.{PlacedPred}
use Rattle.predicate_split.specs.Overlaps.{preds_in, entry_residue}

-- what is left of a predicate between two hosts
unfoldable pub left_between : HostAddress → HostAddress → Pred → Pred
left_between src dst pred = residue IpDst dst.ip (residue IpSrc src.ip (residue EthDst dst.eth (residue EthSrc src.eth pred)))

-- what is left of the predicates that can hold between two hosts, with their places, counted from n
abbrev pub entries_between : HostAddress → HostAddress → ℕ → List Pred → List PlacedPred
entries_between src dst n [] = []
entries_between src dst n (pred ∷ rest) =
    if is_no (left_between src dst pred) then entries_between src dst (suc n) rest
    else record { place = n; pred = left_between src dst pred } ∷ entries_between src dst (suc n) rest

-- what is left of the entries that can hold where the field has this value
abbrev pub entries_at : Field → ℕ → List PlacedPred → List PlacedPred
entries_at f v [] = []
entries_at f v (e ∷ rest) =
    if is_no (residue f v e.pred) then entries_at f v rest
    else entry_residue f v e ∷ entries_at f v rest

-- the values that entries mention
abbrev pub named_by : Field → List PlacedPred → List ℕ
named_by f entries = ascending (flat_map (mentions f) (preds_in entries))
