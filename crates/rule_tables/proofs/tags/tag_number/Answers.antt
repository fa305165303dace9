use Rattle.std.proofs.Common.{◌≡◌, ℕ, None, Some, slice_get, get_or, false, true, sym, ◌∙◌, arith}
use Rattle.rule_tables.specs.declared.branches.TagKey.{TagKey}
use Rattle.rule_tables.proofs.Leading.{some-same}
use Rattle.rule_tables.proofs.Searching.{stands-there, get-some, below-length}
use Rattle.rule_tables.proofs.tags.tag_number.Goals.{else-place-tags-via-then-place-tags+else-is_same, else-place-tags-via-else-place-tags}
use Rattle.rule_tables.proofs.tags.tag_number.Goals as goal

abbrev no_key : TagKey
no_key = record { group = 0; state = 0; fun = None }

false-true : false ≡ true → ⊥
false-true e = cc

pub returns-else-place-tags-clause-none : goal.returns-else-place-tags-clause-none
returns-else-place-tags-clause-none c = λ up among.
    let tags = c.args.tags.now in
    let place : ℕ = c.count_below-place.result in
    let stands : slice_get tags place ≡ Some c.args.key.now = stands-there tags c.args.key.now place up (c.count_below-place.ensures up) among in
    elim c.else-place-tags.branch [
      | else-place-tags-via-then-place-tags+else-is_same w ↦
          let same : get_or tags place no_key ≡ c.args.key.now = some-same (sym (get-some tags place no_key (below-length tags place c.args.key.now stands)) ∙ stands) in
          false-true (sym w.if-is_same.false ∙ w.is_same.ensures.1 same)
      | else-place-tags-via-else-place-tags w ↦ let lt = below-length tags place c.args.key.now stands in let le = w.if-place-tags.false in omega arith
    ]
