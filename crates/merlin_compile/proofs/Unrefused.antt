-- What two texts stand for, where nothing is wrong with it, is not refused.
use Rattle.std.proofs.Common.{◌≡◌, ◌≤◌, ℕ, List, length, refl, sym, subst}
use Rattle.merlin_model.specs.declared.policy.Ends.{Ends}
use Rattle.merlin_model.specs.declared.policy.Objective.{Objective}
use Rattle.merlin_model.specs.declared.policy.Symbol.{Symbol}
use Rattle.merlin_model.specs.Networks.{Network}
use Rattle.merlin_model.specs.Policies.{Policy as NumberedPolicy, paths_of}
use Rattle.merlin_model.specs.Assignments.{AreAllEnds}
use Rattle.policy_expansion.specs.declared.policy.Policy.{Policy}
use Rattle.policy_parser.specs.declared.fault.PolicyFault.{PolicyFault}
use Rattle.policy_parser.specs.declared.fault.PolicyFault.TheVariants as policy_faults
use Rattle.policy_parser.specs.Policies.{IsPolicyText, IsRefused}
use Rattle.policy_check.specs.declared.fault.CheckFault.{CheckFault}
use Rattle.policy_check.specs.declared.fault.CheckFault.TheVariants as check_faults
use Rattle.policy_check.specs.declared.fault.EndsFault.{EndsFault}
use Rattle.policy_check.specs.declared.fault.EndsFault.TheVariants as ends_faults
use Rattle.policy_check.specs.declared.guarantees.TheConstants.{MAX_GUARANTEES}
use Rattle.policy_check.specs.Checked.{CheckedPolicy, IsCheckOf}
use Rattle.policy_check.specs.Numbered.{numbered_policy}
use Rattle.policy_check.specs.Rules.{KeepsAllRules, BreaksRule}
use Rattle.policy_check.specs.Ends.{BreaksEnds}
use Rattle.policy_flows.specs.declared.fault.ProgramFault.{ProgramFault}
use Rattle.policy_flows.specs.declared.fault.ProgramFault.TheVariants as program_faults
use Rattle.policy_flows.specs.Faults.{RefusesStatements}
use Rattle.topology.specs.Symbols.{network_symbols}
use Rattle.topology_rules.specs.Faults.{IsTopology, Refuses as IsRefusedTopology}
use Rattle.topology_rules.specs.declared.fault.NetFault.{NetFault}
use Rattle.topology_rules.specs.declared.fault.NetFault.TheVariants as net_faults
use Rattle.openflow_rules.specs.declared.fault.RuleFault.{RuleFault}
use Rattle.openflow_rules.specs.declared.fault.RuleFault.TheVariants as rule_faults
use Rattle.openflow_rules.specs.Planning.{IsWithinLimits, PassesLimit}
use Rattle.walk_search.specs.Parts.{checked_parts}
use Rattle.merlin_compile.specs.declared.outcome.Compiled.{Compiled}
use Rattle.merlin_compile.specs.declared.outcome.Compiled.TheVariants.{Least, Infeasible, Budget}
use Rattle.merlin_compile.specs.declared.fault.CompileFault.{CompileFault}
use Rattle.merlin_compile.specs.declared.fault.CompileFault.TheVariants as faults
use Rattle.merlin_compile.specs.Input.{WasChecked, HasOnePairs, HasFewRules, HasProgram, IsInput}
use Rattle.merlin_compile.specs.Causes.{PassesProgramLimit, RefusesPolicy, IsRefusedOver, IsCompileFault, IsWantOfMemory}
use Rattle.merlin_compile.specs.Compiled.{IsCompiledFrom}
use Rattle.merlin_compile.proofs.OneInput.{not-refused, one-policy, numbered-same, ends-same}

-- What is known: a text stands for one topology, and is not refused then; what keeps rules breaks none, ends that stand are at no fault, what is within the
-- limits passes none, and two checks of one policy pass the same limits.
pub record Known : Type 0 where
  pub one : (bytes : List ℕ) (net other : Network) → IsTopology bytes net → IsTopology bytes other → net ≡ other
  pub apart : (bytes : List ℕ) (net : Network) (cause : NetFault) → IsTopology bytes net → IsRefusedTopology cause bytes → cause ≡ net_faults.OutOfMemory
  pub rules : (net : Network) (symbols : List Symbol) (raw : Policy) (fault : CheckFault) → KeepsAllRules net symbols raw → BreaksRule net symbols raw fault → fault ≡ check_faults.OutOfMemory
  pub ends : (net : Network) (policy : NumberedPolicy) (ends : List Ends) (fault : EndsFault) → AreAllEnds net policy ends → length ends ≤ MAX_GUARANTEES → BreaksEnds net policy fault → fault ≡ ends_faults.OutOfMemory
  pub limits : (net : Network) (checked : CheckedPolicy) (ends : List Ends) (fault : RuleFault) → AreAllEnds net checked.policy ends → IsWithinLimits net checked ends → PassesLimit net checked ends fault → fault ≡ rule_faults.OutOfMemory
  pub one_limit : (net : Network) (raw : Policy) (checked other : CheckedPolicy) (ends : List Ends) (fault : RuleFault) → AreAllEnds net (numbered_policy net raw) ends →
      IsCheckOf net (network_symbols net) raw checked → length checked.automaton_numbers ≡ length (paths_of checked.policy) →
      IsCheckOf net (network_symbols net) raw other → length other.automaton_numbers ≡ length (paths_of other.policy) →
      IsWithinLimits net checked ends → PassesLimit net other ends fault → PassesLimit net checked ends fault
  pub one_program : (net : Network) (raw : Policy) (checked other : CheckedPolicy) (ends : List Ends) (fault : ProgramFault) → HasOnePairs net raw checked ends → WasChecked net raw other → HasProgram net checked ends →
      RefusesStatements net (checked_parts net other) ends fault → fault ≡ program_faults.OutOfMemory

is_want : {F : Type 0} (make : F → CompileFault) (fault none : F) → IsWantOfMemory (make none) → fault ≡ none → IsWantOfMemory (make fault)
is_want make fault none h e = subst (λ f. IsWantOfMemory (make f)) (sym e) h

not-heavy : (statement link : ℕ) → program_faults.Heavy statement link ≡ program_faults.OutOfMemory → ⊥
not-heavy statement link e = cc

module _ (known : Known) where
  module _ (net : Network) (raw : Policy) (checked : CheckedPolicy) (ends : List Ends) (rules : HasFewRules net raw checked ends) (program : HasProgram net checked ends) where
    -- another check of the policy passes no limit of its program
    program-kept : (other : CheckedPolicy) (fault : ProgramFault) → WasChecked net raw other → PassesProgramLimit net other ends fault → fault ≡ program_faults.OutOfMemory
    program-kept other (program_faults.Vertices count) was h = known.one_program net raw checked other ends (program_faults.Vertices count) rules.pairs was program h
    program-kept other (program_faults.Edges count) was h = known.one_program net raw checked other ends (program_faults.Edges count) rules.pairs was program h
    program-kept other (program_faults.Heavy statement link) was h = absurd h
    program-kept other program_faults.OutOfMemory was h = refl

    policy-kept : (fault : CompileFault) → RefusesPolicy net raw fault → IsWantOfMemory fault
    policy-kept (faults.Policy fault) h = absurd h
    policy-kept (faults.Net fault) h = absurd h
    policy-kept (faults.Check fault) h = is_want faults.Check fault check_faults.OutOfMemory tt (known.rules net (network_symbols net) raw fault rules.pairs.was.is_check.rules h)
    policy-kept (faults.Ends fault text) (other, h) =
        let policy = numbered-same net raw checked other rules.pairs.was h.was in
        is_want (λ f. faults.Ends f text) fault ends_faults.OutOfMemory tt
        (known.ends net other.policy ends fault (subst (λ p. AreAllEnds net p ends) policy rules.pairs.ends_are.are) rules.pairs.ends_are.few h.breaks)
    policy-kept (faults.Rules fault) (other, h) =
        let was = rules.pairs.was in
        let same : h.ends ≡ ends = ends-same net raw other checked h.ends ends h.pairs rules.pairs in
        is_want faults.Rules fault rule_faults.OutOfMemory tt
        (known.limits net checked ends fault rules.pairs.ends_are.are rules.within
        (known.one_limit net raw checked other ends fault (subst (λ p. AreAllEnds net p ends) was.is_check.policy rules.pairs.ends_are.are)
        was.is_check was.numbers h.pairs.was.is_check h.pairs.was.numbers rules.within (subst (λ l. PassesLimit net other l fault) same h.passes)))
    policy-kept (faults.Program fault) (other, h) =
        let same : h.ends ≡ ends = ends-same net raw other checked h.ends ends h.rules.pairs rules.pairs in
        is_want faults.Program fault program_faults.OutOfMemory tt (program-kept other fault h.rules.pairs.was (subst (λ l. PassesProgramLimit net other l fault) same h.large))
    policy-kept (faults.Heavy id link) (other, h) =
        let same : h.ends ≡ ends = ends-same net raw other checked h.ends ends h.rules.pairs rules.pairs in
        let heavy = h.heavy.heavy in
        let fault : ProgramFault = program_faults.Heavy h.heavy.statement link in
        absurd (not-heavy h.heavy.statement link (known.one_program net raw checked other ends fault rules.pairs h.rules.pairs.was program
        (subst (λ l. RefusesStatements net (checked_parts net other) l fault) same heavy)))
    policy-kept faults.OutOfMemory h = tt

  -- two texts stand for one policy and one network
  texts-kept : (p t : List ℕ) (net : Network) (checked : CheckedPolicy) (ends : List Ends) → IsInput p t net checked ends → (fault : CompileFault) → IsRefusedOver p t fault → IsWantOfMemory fault
  texts-kept p t net checked ends i fault h =
      let network : h.net ≡ net = known.one t h.net net h.read.network i.read.network in
      let policy : h.raw ≡ i.raw = one-policy p h.raw i.raw h.read.stands i.read.stands in
      policy-kept net i.raw checked ends i.rules i.program fault (subst (λ r. RefusesPolicy net r fault) policy (subst (λ n. RefusesPolicy n h.raw fault) network h.refused))

  pub input-kept : (p t : List ℕ) (net : Network) (checked : CheckedPolicy) (ends : List Ends) (fault : CompileFault) → IsInput p t net checked ends → IsCompileFault fault p t → IsWantOfMemory fault
  input-kept p t net checked ends (faults.Policy fault) i h = want-policy fault i.raw i.read.stands h
    where
      want-policy : (f : PolicyFault) (raw : Policy) → IsPolicyText p raw → IsRefused f p → IsWantOfMemory (faults.Policy f)
      want-policy policy_faults.OutOfMemory raw stands refused = tt
      want-policy (policy_faults.BadByte at) raw stands refused = absurd (not-refused p raw (policy_faults.BadByte at) (λ e. cc) stands refused)
      want-policy (policy_faults.BadNumber at) raw stands refused = absurd (not-refused p raw (policy_faults.BadNumber at) (λ e. cc) stands refused)
      want-policy (policy_faults.Syntax at) raw stands refused = absurd (not-refused p raw (policy_faults.Syntax at) (λ e. cc) stands refused)
      want-policy (policy_faults.DuplicateSet name) raw stands refused = absurd (not-refused p raw (policy_faults.DuplicateSet name) (λ e. cc) stands refused)
      want-policy (policy_faults.MixedSet name) raw stands refused = absurd (not-refused p raw (policy_faults.MixedSet name) (λ e. cc) stands refused)
      want-policy (policy_faults.UnknownSet name) raw stands refused = absurd (not-refused p raw (policy_faults.UnknownSet name) (λ e. cc) stands refused)
      want-policy (policy_faults.TooManyStatements count) raw stands refused = absurd (not-refused p raw (policy_faults.TooManyStatements count) (λ e. cc) stands refused)
      want-policy (policy_faults.DuplicateId id) raw stands refused = absurd (not-refused p raw (policy_faults.DuplicateId id) (λ e. cc) stands refused)
  input-kept p t net checked ends (faults.Net fault) i h = is_want faults.Net fault net_faults.OutOfMemory tt (known.apart t net fault i.read.network h.refused)
  input-kept p t net checked ends (faults.Check fault) i h = texts-kept p t net checked ends i (faults.Check fault) h
  input-kept p t net checked ends (faults.Ends fault text) i h = texts-kept p t net checked ends i (faults.Ends fault text) h
  input-kept p t net checked ends (faults.Rules fault) i h = texts-kept p t net checked ends i (faults.Rules fault) h
  input-kept p t net checked ends (faults.Program fault) i h = texts-kept p t net checked ends i (faults.Program fault) h
  input-kept p t net checked ends (faults.Heavy id link) i h = texts-kept p t net checked ends i (faults.Heavy id link) h
  input-kept p t net checked ends faults.OutOfMemory i h = tt

  pub compiled-kept : (p t : List ℕ) (o : Objective) (budget : ℕ) (compiled : Compiled) (fault : CompileFault) → IsCompiledFrom p t o budget compiled → IsCompileFault fault p t → IsWantOfMemory fault
  compiled-kept p t o budget (Least solved) fault c h = input-kept p t solved.net c.checked c.ends fault c.input h
  compiled-kept p t o budget (Infeasible asked tree) fault c h = input-kept p t c.net c.checked c.ends fault c.input h
  compiled-kept p t o budget (Budget partial) fault c h = input-kept p t partial.net c.checked c.ends fault c.input h
