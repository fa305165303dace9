use Rattle.std.proofs.Common.{◌≡◌, ◌++◌, ◌∷◌, [], ℕ, List, None, get_or, take, sym, ◌∙◌, ap, subst}
use Rattle.std.specs.List.{AllZip}
use Rattle.std.proofs.lemmas.List.{take_more}
use Rattle.rule_tables.specs.declared.branches.OwnedCell.{OwnedCell}
use Rattle.rule_tables.specs.Entries.{IsBetweenHosts, IsEntryMade, IsCellEntry}
use Rattle.rule_tables.proofs.Entering.{zip-push, all-at}
use Rattle.rule_tables.proofs.entries.entries_of.Goals.{in-Some+in_ok-push, in_default}
use Rattle.rule_tables.proofs.entries.entries_of.Goals as goal

abbrev no_cell : OwnedCell
no_cell = record { source = 0; dest = 0; cell = record { proto = None; sport = None; dport = None; owner = None }; group = 0 }

pub loop-cell-preserved : goal.loop-cell-preserved
loop-cell-preserved c = λ of ready are between.
    let net = c.args.net.now in
    let tags = c.args.tags.now in
    let owned : List OwnedCell = c.args.owned.now in
    let i : ℕ = c.loop-cell.cell-index in
    let cell : OwnedCell = get_or owned i no_cell in
    let here : IsBetweenHosts net cell = all-at (IsBetweenHosts net) owned i no_cell c.loop-cell-test.true between in
    let made : IsEntryMade net of tags cell c.in_ok-entry.field-0 = c.in_ok-entry.ensures of ready are here in
    elim c.match-branch-3.branch [
      | in-Some+in_ok-push w ↦
          let entries : c.match-branch-3.entries.items ≡ c.loop-cell.entries.items ++ w.in-Some.entry ∷ [] = ap (λ r. r.items) w.entries-is ∙ w.in_ok-push.ensures.items in
          subst (λ (cs : List OwnedCell). AllZip (IsCellEntry net of tags) cs c.match-branch-3.entries.items) (sym (take_more owned i no_cell c.loop-cell-test.true))
          (subst (AllZip (IsCellEntry net of tags) (take i owned ++ cell ∷ [])) (sym entries)
          (zip-push (IsCellEntry net of tags) (take i owned) c.loop-cell.entries.items cell w.in-Some.entry (c.loop-cell.invariant of ready are between) (subst (IsEntryMade net of tags cell) w.in-Some.is made)))
      | in_default w ↦ absurd (subst (IsEntryMade net of tags cell) w.in_default.is made)
    ]
