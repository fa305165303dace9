use Rattle.std.proofs.Common.{◌≡◌, ◌≢◌, ℕ, Option, Some, inl, sym, ap, subst}
use Rattle.std.specs.Prelude.{unwrap_or}
use Rattle.merlin_model.specs.declared.network.HostAddress.{HostAddress}
use Rattle.merlin_model.specs.Networks.{Network, address_of}
use Rattle.configuration_model.specs.Checked.{preds_of}
use Rattle.configuration_model.specs.Cells.{AreCells}
use Rattle.configuration_model.specs.Hosts.{host_at}
use Rattle.predicate_split.specs.Cells.{cells_between}
use Rattle.queue_and_tc.proofs.Owned.{own, is-regular, falling}
use Rattle.queue_and_tc.proofs.laws.pair_cells_name_owners.Goals as goal

host-is : (net : Network) (s : ℕ) (a : HostAddress) → address_of net s ≡ Some a → host_at net s ≡ a
host-is net s a e = ap (λ (o : Option HostAddress). unwrap_or o (record { eth = 0; ip = 0 })) e

pub returns : goal.returns
returns c net policy lawful formed s d a b other from to =
    let preds = preds_of policy in
    let apart : a ≢ b = λ (same : a ≡ b). other (lawful.addresses s d a b from to (inl (ap (λ (x : HostAddress). x.eth) same))) in
    let are : AreCells preds a b (cells_between preds a b) = record {
      first = λ p packet src dst. c.first_cell_names_the_owner.ensures preds a b p formed packet (apart, src, dst);
      falling = falling preds a b c.cells_by_priority.ensures.falls;
      one = λ p x y i j fx fy same. c.cells_by_priority.ensures.one (own preds a b) p x y (is-regular preds a b x i) (is-regular preds a b y j) fx fy same;
    } in
    subst (λ (x : HostAddress). AreCells preds a b (cells_between preds x (host_at net d))) (sym (host-is net s a from))
    (subst (λ (y : HostAddress). AreCells preds a b (cells_between preds a y)) (sym (host-is net d b to)) are)
