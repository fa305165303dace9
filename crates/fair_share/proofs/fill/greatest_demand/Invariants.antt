use Rattle.std.proofs.Common.{◌≡◌, ℕ, ◌≤◌, ◌<◌, Some, slice_get}
use Rattle.fair_share.specs.declared.cap.Tenant.{Tenant}
use Rattle.fair_share.proofs.fill.greatest_demand.Given as goal

abbrev pub invariant-loop-tenant : goal.invariant-loop-tenant
invariant-loop-tenant l = (i : ℕ) (tenant : Tenant) → i < l.tenant-index → slice_get l.tenants i ≡ Some tenant → tenant.demand ≤ l.top
