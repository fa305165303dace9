use Rattle.std.proofs.Common.{◌≡◌, ◌++◌, [], List, sym, ◌∙◌, ap, ap₂}
use Rattle.merlin_model.specs.declared.policy.Path.{Path}
use Rattle.path_regex.specs.Normal.{members, added_all, one_of}
use Rattle.path_regex.proofs.Shapes.{added_all-append}
use Rattle.path_regex.specs.Shared.{form_at}
use Rattle.path_regex.proofs.Sharing.{kept, grows-twice}
use Rattle.path_regex.proofs.Joined.{named-chain, named-members}
use Rattle.path_regex.proofs.forms.Forms.either.Goals as goal

pub all_added-requires-2-clause-chain : goal.all_added-requires-2-clause-chain
all_added-requires-2-clause-chain c = named-chain c.all_added.new.self c.in_ok-one.one _ c.in_ok-one.ensures.value.1

pub one_of-requires-clause-chain : goal.one_of-requires-clause-chain
one_of-requires-clause-chain c = named-chain c.all_added-2.new.self c.in_ok-all.all _ c.in_ok-all.ensures.value.1

pub returns-clause-value : goal.returns-clause-value
returns-clause-value c =
    let first : Path = form_at c.args.self.now c.args.first in
    let second : Path = form_at c.args.self.now c.args.second in
    let none : form_at c.put.new.self c.in_ok-none.none ≡ _ = c.in_ok-none.ensures.value.1 in
    let one : members (form_at c.all_added.new.self c.in_ok-one.one) ≡ added_all (members second) [] =
    named-members c.all_added.new.self c.in_ok-one.one _ c.in_ok-one.ensures.value.1
    ∙ ap₂ (λ (a b : Path). added_all (members a) (members b)) (kept c.in_ok-none.ensures.grows c.args.second c.requires.second) none in
    let all : members (form_at c.all_added-2.new.self c.in_ok-all.all) ≡ added_all (members first) (added_all (members second) []) =
    named-members c.all_added-2.new.self c.in_ok-all.all _ c.in_ok-all.ensures.value.1
    ∙ ap₂ (λ (a : Path) (l : List Path). added_all (members a) l) (kept (grows-twice c.in_ok-none.ensures.grows c.in_ok-one.ensures.grows) c.args.first c.requires.first) one in (
      c.one_of.ensures.0,
      c.one_of.ensures.1
          ∙ ap one_of (all ∙ sym (added_all-append (members first) (members second ++ []) [] ∙ ap (added_all (members first)) (added_all-append (members second) [] []))),
    )
