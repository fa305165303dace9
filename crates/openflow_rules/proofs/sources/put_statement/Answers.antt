use Rattle.std.proofs.Common.{◌≡◌, ◌<◌, ◌∙◌, ℕ, List, Vec, length, get_or, slice_get, Some, sym, ap, subst}
use Rattle.std.specs.Prelude.{unwrap_or}
use Rattle.std.specs.declared.alloc.Global.{Global}
use Rattle.merlin_model.specs.declared.policy.Pred.{Pred}
use Rattle.merlin_model.specs.Networks.{Pairwise}
use Rattle.merlin_model.specs.Rates.{AreLiveSources}
use Rattle.product_graph.proofs.Lists.{get-at}
use Rattle.policy_check.specs.Checked.{CheckedPolicy}
use Rattle.configuration_model.specs.Checked.{preds_of}
use Rattle.openflow_rules.specs.declared.walk_rows.WalkRow.{WalkRow}
use Rattle.openflow_rules.specs.declared.sources.SourceSearch.{SourceSearch}
use Rattle.openflow_rules.specs.Gathered.{AreAllBelow}
use Rattle.openflow_rules.specs.Sources.{IsSourceSearch, AreWalkRows, AreSenders, TellsStatement, pred_of_statement}
use Rattle.openflow_rules.proofs.Inner.{hosts-below}
use Rattle.openflow_rules.proofs.Sending.{tells-statement, rows-within, hosts-up, senders-live}
use Rattle.openflow_rules.proofs.SourceSteps.{map-set, done-skip, done-put}
use Rattle.openflow_rules.proofs.sources.put_statement.Goals as goal

-- the predicate at the place of a statement tells it
tells : (search : SourceSearch) → IsSourceSearch search → (statement : ℕ) (preds : List Pred) (pred : Pred) → statement < length search.group_of.now → preds ≡ preds_of search.site.checked.now.policy → pred ≡ unwrap_or (slice_get preds statement) search.default.now →
    TellsStatement search.site.checked.now.policy statement pred
tells search is statement preds pred lt all found =
    let checked : CheckedPolicy = search.site.checked.now in
    let same : pred_of_statement checked.policy statement ≡ pred =
    sym (found ∙ ap (λ (l : List Pred). unwrap_or (slice_get l statement) search.default.now) all ∙ ap (unwrap_or (slice_get (preds_of checked.policy) statement)) is.default) in
    subst (TellsStatement checked.policy statement) same (tells-statement checked.policy is.sound statement (subst (λ n. statement < n) is.group_of lt))

-- what the hosts of a list send is what all hosts send
live : (search : SourceSearch) → IsSourceSearch search → (statement : ℕ) (pred : Pred) (rows : List WalkRow) (found : List ℕ) → TellsStatement search.site.checked.now.policy statement pred → AreWalkRows search.site.net.now search.site.checked.now.policy statement rows →
    AreSenders search.site.net.now pred rows search.hosts.now found → AreLiveSources search.site.net.now search.site.checked.now.policy statement found
live search is statement pred rows found told are senders =
    senders-live search.site.net.now search.site.checked.now.policy statement pred told rows are found (subst (λ hosts. AreSenders search.site.net.now pred rows hosts found) is.hosts senders)

pub returns-then-search-statement : goal.returns-then-search-statement
returns-then-search-statement c =
    done-skip c.args.search.now.site.net.now c.args.search.now.site.checked.now.policy c.args.search.now.group_of.now c.args.group c.args.statement (get_or c.args.search.now.group_of.now c.args.statement 0) _
    (get-at c.args.search.now.group_of.now c.args.statement 0 c.requires.statement) c.if-search-statement.true c.requires.known

pub senders-requires-clause-formed : goal.senders-requires-clause-formed
senders-requires-clause-formed c = (tells c.args.search.now c.requires.search c.args.statement c.preds.result.now c.pred_at-pred.result.now c.requires.statement c.preds.ensures c.pred_at-pred.ensures).formed

pub senders-requires-clause-rows : goal.senders-requires-clause-rows
senders-requires-clause-rows c =
    let here = get-at c.args.search.now.group_of.now c.args.statement 0 c.requires.statement in
    rows-within c.args.search.now.site.net.now c.args.search.now.site.checked.now.policy c.args.statement c.args.rows.now (c.requires.rows c.args.statement (here ∙ ap (λ (g : ℕ). Some g) c.if-search-statement.false))

pub senders-requires-clause-hosts : goal.senders-requires-clause-hosts
senders-requires-clause-hosts c = subst (AreAllBelow (length c.args.search.now.site.net.now.locations)) (sym c.requires.search.hosts) (hosts-below c.args.search.now.site.net.now)

pub senders-requires-clause-ascend : goal.senders-requires-clause-ascend
senders-requires-clause-ascend c = subst (λ (hosts : List ℕ). Pairwise (λ a b. a < b) hosts) (sym c.requires.search.hosts) (hosts-up c.args.search.now.site.net.now)

pub returns : goal.returns
returns c =
    let search : SourceSearch = c.args.search.now in
    let here = get-at search.group_of.now c.args.statement 0 c.requires.statement ∙ ap (λ (g : ℕ). Some g) c.if-search-statement.false in
    let told = tells search c.requires.search c.args.statement c.preds.result.now c.pred_at-pred.result.now c.requires.statement c.preds.ensures c.pred_at-pred.ensures in
    done-put search.site.net.now search.site.checked.now.policy search.group_of.now c.args.group c.args.statement _ _ c.in_ok-found.found.items here
    (live search c.requires.search c.args.statement c.pred_at-pred.result.now c.args.rows.now c.in_ok-found.found.items told (c.requires.rows c.args.statement here) c.in_ok-found.ensures)
    (map-set (λ (hosts : Vec ℕ Global). hosts.items) c.args.sources.now.items c.args.statement c.in_ok-found.found) c.requires.known
