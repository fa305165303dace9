-- What is found for a policy, step by step.
use Rattle.std.proofs.Common.{◌≡◌, ◌<◌, ◌+◌, ◌++◌, ℕ, List, [], ◌∷◌, Some, slice_get, get_or, take, length, subst, sym}
use Rattle.std.proofs.lemmas.List.{take_more}
use Rattle.std.specs.List.{AllZip}
use Rattle.merlin_model.specs.declared.policy.Ends.{Ends}
use Rattle.merlin_model.specs.Networks.{Network}
use Rattle.merlin_model.specs.Policies.{Policy as NumberedPolicy}
use Rattle.merlin_model.specs.Rates.{IsGuaranteed}
use Rattle.merlin_model.specs.Assignments.{AreTheEnds, AreAllEnds}
use Rattle.path_automaton.proofs.Building.{all-get}
use Rattle.rate_formula.specs.Usage.{ids_in}
use Rattle.policy_check.proofs.Forms.{zip-push}
use Rattle.policy_flows.specs.Faults.{RefusesStatements}
use Rattle.policy_flows.specs.Layouts.{StatementParts}
use Rattle.policy_flows.specs.declared.fault.ProgramFault.{ProgramFault}
use Rattle.policy_flows.specs.declared.fault.ProgramFault.TheVariants as program_fault
use Rattle.policy_expansion.specs.declared.policy.Policy.{Policy}
use Rattle.merlin_compile.specs.declared.fault.CompileFault.{CompileFault}
use Rattle.merlin_compile.specs.declared.fault.CompileFault.TheVariants as faults
use Rattle.merlin_compile.specs.Input.{AreInputs}
use Rattle.merlin_compile.specs.Causes.{RefusesPolicy, IsCompileFault}
use Rattle.merlin_compile.specs.Compiled.{AreIdsOf}
use Rattle.merlin_compile.specs.Provisions.{NamesGuaranteed}

-- the statement that is too heavy is guaranteed
pub named-guaranteed : (net : Network) (policy : NumberedPolicy) (parts : StatementParts) (ends : List Ends) (fault : ProgramFault) → AreAllEnds net policy ends →
    RefusesStatements net parts ends fault → NamesGuaranteed policy fault
named-guaranteed net policy parts ends (program_fault.Vertices count) all h = tt
named-guaranteed net policy parts ends (program_fault.Edges count) all h = tt
named-guaranteed net policy parts ends (program_fault.Heavy statement link) all h =
    subst (IsGuaranteed policy) (sym h.first.named) (all-get (AreTheEnds net policy) ends h.first.place h.first.of all.each h.first.stands).guaranteed
named-guaranteed net policy parts ends program_fault.OutOfMemory all h = tt

-- the id of one statement more
pub ids-more : (policy : NumberedPolicy) (ends : List Ends) (ids : List (List ℕ)) (i : ℕ) (id : List ℕ) (e : Ends) → i < length ends → AreIdsOf policy (take i ends) ids →
    slice_get (ids_in policy) (get_or ends i e).statement ≡ Some id → AreIdsOf policy (take (i + 1) ends) (ids ++ id ∷ [])
ids-more policy ends ids i id e lt so_far named =
    subst (λ es. AreIdsOf policy es (ids ++ id ∷ [])) (sym (take_more ends i e lt))
    (zip-push (λ e id. slice_get (ids_in policy) e.statement ≡ Some id) (take i ends) ids (get_or ends i e) id so_far named)

-- what refuses a policy over a network refuses the texts that stand for them
pub refused-over : (p t : List ℕ) (raw : Policy) (net : Network) → AreInputs p t raw net → (fault : CompileFault) → RefusesPolicy net raw fault → IsCompileFault fault p t
refused-over p t raw net read (faults.Policy fault) h = absurd h
refused-over p t raw net read (faults.Net fault) h = absurd h
refused-over p t raw net read (faults.Check fault) h = record { raw = raw; net = net; read = read; refused = h }
refused-over p t raw net read (faults.Ends fault text) h = record { raw = raw; net = net; read = read; refused = h }
refused-over p t raw net read (faults.Rules fault) h = record { raw = raw; net = net; read = read; refused = h }
refused-over p t raw net read (faults.Program fault) h = record { raw = raw; net = net; read = read; refused = h }
refused-over p t raw net read (faults.Heavy id link) h = record { raw = raw; net = net; read = read; refused = h }
refused-over p t raw net read faults.OutOfMemory h = tt
