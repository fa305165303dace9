use Rattle.std.proofs.Common.{◌++◌, ℕ, List, [], false, cond, map, Some, sym, ◌∙◌, ap}
use Rattle.policy_names.specs.declared.fault.NameFault.TheVariants.{UnknownName, FunctionUnderNot}
use Rattle.policy_names.specs.Names.{faulty_in, fault_of_name}
use Rattle.policy_names.specs.Meanings.{meaning_in}
use Rattle.policy_names.proofs.Shapes.{first_of_append, first_of_map, none_first}
use Rattle.policy_names.proofs.resolving.ask_names.Goals as goal
use Rattle.policy_names.proofs.resolving.ask_names.Goals.{then-is_known, else-is_known}

pub returns-in_default-clause-ok : goal.returns-in_default-clause-ok
returns-in_default-clause-ok c =
    let known = meaning_in c.args.names.now in
    ap (λ (l : List (List ℕ)). map (fault_of_name known) (l ++ [])) (none_first (faulty_in known false c.args.path.now) (sym c.in_default.ensures))

pub returns-clause-err : goal.returns-clause-err
returns-clause-err c =
    let known = meaning_in c.args.names.now in
    let faulty = c.in-Some.faulty.now in
    let first = first_of_map (fault_of_name known) (faulty_in known false c.args.path.now ++ []) faulty (first_of_append (faulty_in known false c.args.path.now) [] faulty (sym c.in-Some.ensures)) in
    elim c.if-is_known.branch [
      | then-is_known w ↦
          rw w.result-is
          (first
          ∙ (ap (λ b. Some (cond b (FunctionUnderNot faulty) (UnknownName faulty))) (sym c.is_known.ensures ∙ w.if-is_known.true)
          ∙ ap (λ (name : List ℕ). Some (FunctionUnderNot name)) (sym c.in_ok-name.ensures)))
      | else-is_known w ↦
          rw w.result-is
          (first
          ∙ (ap (λ b. Some (cond b (FunctionUnderNot faulty) (UnknownName faulty))) (sym c.is_known.ensures ∙ w.if-is_known.false)
          ∙ ap (λ (name : List ℕ). Some (UnknownName name)) (sym c.in_ok-name.ensures)))
    ]
