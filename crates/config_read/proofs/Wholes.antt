-- Whole results, put together from their parts and taken apart.
use Rattle.std.proofs.Common.{◌≡◌, ℕ, inl, inr, Bool, true, false, List, [], ◌∷◌, ◌++◌, length, refl, sym, ◌∙◌, ap, subst, append_assoc, append-nil, arith}
use Rattle.std.proofs.lemmas.List.{append_cancel_left}
use Rattle.std.specs.Prelude.{codes}
use Rattle.std.specs.List.{AllByRecursion, flat_map}
use Rattle.std.specs.Fmt.{decimal}
use Rattle.merlin_model.specs.declared.policy.Objective.{Objective}
use Rattle.merlin_model.specs.declared.policy.Objective.TheVariants.{Shortest}
use Rattle.merlin_model.specs.declared.config.Config.{Config}
use Rattle.merlin_model.specs.declared.certificate.Tree.{Tree, Leaf}
use Rattle.merlin_model.specs.Networks.{Network}
use Rattle.merlin_base.specs.Faults.{IsWholeLines, IsFirstWrongLine, GoesWrong}
use Rattle.merlin_base.proofs.Cutting.{Free, free_append, cut_once}
use Rattle.merlin_base.proofs.WrongLines.{line_wrong, lift_wrong}
use Rattle.config_text.specs.Result.{objective_word}
use Rattle.config_lines.specs.Lines.{rule_line, process_line, queue_line, host_line, load_line, walk_line}
use Rattle.config_read.specs.declared.result.Head.{Head}
use Rattle.config_read.specs.declared.result.Head.TheVariants.{Least, Infeasible}
use Rattle.config_read.specs.declared.result.ResultText.{ResultText}
use Rattle.config_read.specs.Heads.{IsVersion, first_line, IsWrittenValue, least_then, infeasible_then}
use Rattle.config_read.specs.Sections.{IsEmptyConfig, IsVersionLoad}
use Rattle.config_read.specs.Tails.{closing_tree, IsTree}
use Rattle.config_read.specs.Results.{is_feasible, lines_of_head, lines_of, start_text, result_text, IsHead, IsConfigOf, IsResult}
use Rattle.config_read.proofs.HeadTexts.{objective_free, value_free}
use Rattle.config_read.proofs.HostKinds.{lacks_byte, tested}
use Rattle.config_read.proofs.VersionLoads.{plain_loads, no_loads, loads_by}
use Rattle.config_read.proofs.TreeTails.{some_tree}
use Rattle.config_read.proofs.Bodies.{Lists, from_walks, AreWalks}
use Rattle.config_read.proofs.FirstLines.{behind_first, IsForm, wrong_first}

true_false : true ≡ false → ⊥
true_false e = cc

-- the result of these parts, with its tree
abbrev pub result_of : Network → ℕ → Head → Config → Tree → ResultText × Tree
result_of net version head config tree = (
  record {
    version = version;
    head = head;
    config = config;
    tree_start = length (start_text net (record { version = version; head = head; config = config; tree_start = 0 }));
  },
  tree,
)

abbrev pub config_in : Lists → Config
config_in p = record { rules = p.1.1.0; processes = p.1.1.1.0; queues = p.1.1.1.1.0; hosts = p.1.1.1.1.1.0 }

abbrev pub least_of : Network → ℕ → Objective → List ℕ → Lists → ResultText × Tree
least_of net version objective value p = result_of net version (Least objective value p.0 p.1.0) (config_in p) p.1.1.1.1.1.1

abbrev pub no_config : Config
no_config = record { rules = []; processes = []; queues = []; hosts = [] }

abbrev pub infeasible_of : Network → ℕ → Objective → Tree → ResultText × Tree
infeasible_of net version objective tree = result_of net version (Infeasible objective) no_config tree

-- Their texts behind the first line.

pub least_text : (net : Network) (version : ℕ) (objective : Objective) (value : List ℕ) (p : Lists) → behind_first net (least_of net version objective value p) ≡ least_then objective value (from_walks net p)
least_text net version objective value p =
    by (objective_word objective) value (flat_map (walk_line net) p.0) (flat_map (load_line net) p.1.0) (flat_map (rule_line net) p.1.1.0) (flat_map (process_line net) p.1.1.1.0)
    (flat_map (queue_line net) p.1.1.1.1.0) (flat_map (host_line net) p.1.1.1.1.1.0) (closing_tree p.1.1.1.1.1.1)
  where
    by : (o v w l r p q h t : List ℕ) → (codes "objective " ++ (o ++ 32 ∷ (v ++ 10 ∷ (w ++ l)))) ++ ((r ++ (p ++ (q ++ h))) ++ t) ≡ codes "objective " ++ (o ++ 32 ∷ (v ++ 10 ∷ (w ++ (l ++ (r ++ (p ++ (q ++ (h ++ t))))))))
    by o v w l r p q h t = simp append_assoc

pub infeasible_text : (net : Network) (version : ℕ) (objective : Objective) (tree : Tree) → behind_first net (infeasible_of net version objective tree) ≡ infeasible_then objective (closing_tree tree)
infeasible_text net version objective tree = by (objective_word objective) (closing_tree tree)
  where
    by : (o t : List ℕ) → (codes "objective " ++ (o ++ 10 ∷ [])) ++ t ≡ codes "objective " ++ (o ++ 10 ∷ t)
    by o t = simp append_assoc

-- They are results.

pub least_is : (net : Network) (version : ℕ) (objective : Objective) (value : List ℕ) (p : Lists) → IsVersion version → IsWrittenValue value → AreWalks net version p → IsForm net version true (least_of net version objective value p)
least_is net version objective value p v written are = record {
  is = record {
    version = v;
    head = (written, are.0, plain_loads net version p.1.0 are.1.0, no_loads net version p.1.0 are.1.0);
    config = record { rules = are.1.1.0; processes = are.1.1.1.0; queues = are.1.1.1.1.0; hosts = are.1.1.1.1.1.0 };
    tree = are.1.1.1.1.1.1;
    tree_start = refl;
  };
  same_version = refl;
  same_kind = refl;
}

pub infeasible_is : (net : Network) (version : ℕ) (objective : Objective) (tree : Tree) → IsVersion version → IsTree tree → IsForm net version false (infeasible_of net version objective tree)
infeasible_is net version objective tree v is = record {
  is = record { version = v; head = tt; config = record { rules = refl; processes = refl; queues = refl; hosts = refl }; tree = is; tree_start = refl };
  same_version = refl;
  same_kind = refl;
}

-- A result is put together from its parts.

pub result_is : (net : Network) (r : ResultText × Tree) → IsResult net r → r ≡ result_of net r.0.version r.0.head r.0.config r.1
result_is net r is = λ i. (record { version = r.0.version; head = r.0.head; config = r.0.config; tree_start = is.tree_start i }, r.1)

pub record AsLeast (net : Network) (version : ℕ) (r : ResultText × Tree) : Type 0 where
  pub objective : Objective
  pub value : List ℕ
  pub lists : Lists
  pub written : IsWrittenValue value
  pub are : AreWalks net version lists
  pub is : r ≡ least_of net version objective value lists

pub as_least : (net : Network) (version : ℕ) (r : ResultText × Tree) → IsForm net version true r → AsLeast net version r
as_least net version r f = by r.0.head refl f.same_kind f.is.head f.is.config
  where
    by : (head : Head) → r.0.head ≡ head → is_feasible head ≡ true → IsHead net r.0.version head → IsConfigOf net head r.0.config → AsLeast net version r
    by (Least objective value walks loads) e feasible h c = record {
      objective = objective;
      value = value;
      lists = (walks, (loads, (r.0.config.rules, (r.0.config.processes, (r.0.config.queues, (r.0.config.hosts, r.1))))));
      written = h.0;
      are =
          (h.1, (subst (λ v. AllByRecursion (IsVersionLoad net v) loads) f.same_version (loads_by net r.0.version loads f.is.version h.2 h.3), (c.rules, (c.processes, (c.queues, (c.hosts, f.is.tree))))));
      is = result_is net r f.is ∙ (λ i. result_of net (f.same_version i) (e i) r.0.config r.1);
    }
    by (Infeasible objective) e feasible h c = absurd (true_false (sym feasible))

pub record AsInfeasible (net : Network) (version : ℕ) (r : ResultText × Tree) : Type 0 where
  pub objective : Objective
  pub tree : Tree
  pub tree_is : IsTree tree
  pub is : r ≡ infeasible_of net version objective tree

pub config_is : (config : Config) → IsEmptyConfig config → config ≡ no_config
config_is config is = λ i. record { rules = is.rules i; processes = is.processes i; queues = is.queues i; hosts = is.hosts i }

pub as_infeasible : (net : Network) (version : ℕ) (r : ResultText × Tree) → IsForm net version false r → AsInfeasible net version r
as_infeasible net version r f = by r.0.head refl f.same_kind f.is.config
  where
    by : (head : Head) → r.0.head ≡ head → is_feasible head ≡ false → IsConfigOf net head r.0.config → AsInfeasible net version r
    by (Least objective value walks loads) e feasible c = absurd (true_false feasible)
    by (Infeasible objective) e feasible c = record {
      objective = objective;
      tree = r.1;
      tree_is = f.is.tree;
      is = result_is net r f.is ∙ (λ i. result_of net (f.same_version i) (e i) (config_is r.0.config c i) r.1);
    }

-- The second line.

-- one text has one second line
pub least_rest : (o p : Objective) (a b x y : List ℕ) → IsWrittenValue a → IsWrittenValue b → least_then o a x ≡ least_then p b y → (objective_word o ≡ objective_word p) × (a ≡ b) × (x ≡ y)
least_rest o p a b x y f g e =
    let words = cut_once 32 (objective_word o) (objective_word p) (a ++ 10 ∷ x) (b ++ 10 ∷ y) (objective_free 32 o (omega arith)) (objective_free 32 p (omega arith))
    (append_cancel_left (codes "objective ") (objective_word o ++ 32 ∷ (a ++ 10 ∷ x)) (objective_word p ++ 32 ∷ (b ++ 10 ∷ y)) e) in
    let values = cut_once 10 a b x y (value_free a f) (value_free b g) words.rest in (words.front, values.front, values.rest)

pub infeasible_rest : (o p : Objective) (x y : List ℕ) → infeasible_then o x ≡ infeasible_then p y → (objective_word o ≡ objective_word p) × (x ≡ y)
infeasible_rest o p x y e =
    let words = cut_once 10 (objective_word o) (objective_word p) x y (objective_free 10 o (omega arith)) (objective_free 10 p (omega arith))
    (append_cancel_left (codes "objective ") (objective_word o ++ 10 ∷ x) (objective_word p ++ 10 ∷ y) e) in (words.front, words.rest)

pub least_more : (o : Objective) (value x y : List ℕ) → least_then o value x ++ y ≡ least_then o value (x ++ y)
least_more o value x y = simp append_assoc

pub infeasible_more : (o : Objective) (x y : List ℕ) → infeasible_then o x ++ y ≡ infeasible_then o (x ++ y)
infeasible_more o x y = simp append_assoc

-- the text behind the first line, and what stands behind that, from the second line on
pub least_tail : (net : Network) (version : ℕ) (r : ResultText × Tree) (a : AsLeast net version r) (x : List ℕ) → behind_first net r ++ x ≡ least_then a.objective a.value (from_walks net a.lists ++ x)
least_tail net version r a x =
    ap (λ s. behind_first net s ++ x) a.is ∙ ap (λ z. z ++ x) (least_text net version a.objective a.value a.lists) ∙ least_more a.objective a.value (from_walks net a.lists) x

pub infeasible_tail : (net : Network) (version : ℕ) (r : ResultText × Tree) (a : AsInfeasible net version r) (x : List ℕ) → behind_first net r ++ x ≡ infeasible_then a.objective (closing_tree a.tree ++ x)
infeasible_tail net version r a x =
    ap (λ s. behind_first net s ++ x) a.is ∙ ap (λ z. z ++ x) (infeasible_text net version a.objective a.tree) ∙ infeasible_more a.objective (closing_tree a.tree) x

-- Where a text goes wrong behind its second line, so it does behind the first.

least_whole : (o : Objective) (value : List ℕ) → IsWholeLines (least_then o value [])
least_whole o value = inr (codes "objective " ++ (objective_word o ++ 32 ∷ value), by (objective_word o) value)
  where
    by : (o value : List ℕ) → codes "objective " ++ (o ++ 32 ∷ (value ++ 10 ∷ [])) ≡ (codes "objective " ++ (o ++ 32 ∷ value)) ++ 10 ∷ []
    by o value = simp append_assoc

pub least_wrong : (net : Network) (version : ℕ) (text rest : List ℕ) (objective : Objective) (value : List ℕ) (left : ℕ) → IsVersion version → IsWrittenValue value → text ≡ least_then objective value rest → GoesWrong (from_walks net) (AreWalks net version) rest left →
    GoesWrong (behind_first net) (IsForm net version true) text left
least_wrong net version text rest objective value left v written e g =
    lift_wrong (behind_first net) (IsForm net version true) (from_walks net) (AreWalks net version) (least_then objective value []) rest text left (least_whole objective value) (e ∙ sym (least_more objective value [] rest)) up down g
  where
    up : (p : Lists) → AreWalks net version p → (r : ResultText × Tree) × IsForm net version true r × (more : List ℕ) × (behind_first net r ≡ least_then objective value [] ++ (from_walks net p ++ more))
    up p are = (
      least_of net version objective value p,
      least_is net version objective value p v written are,
      [],
      least_text net version objective value p ∙ ap (least_then objective value) (sym (append-nil (from_walks net p))) ∙ sym (least_more objective value [] (from_walks net p ++ [])),
    )

    down : (r : ResultText × Tree) (x t : List ℕ) → IsForm net version true r → behind_first net r ++ x ≡ least_then objective value [] ++ t → (p : Lists) × AreWalks net version p × (y : List ℕ) × (from_walks net p ++ y ≡ t)
    down r x t is h =
        let a = as_least net version r is in
        (a.lists, a.are, x, (least_rest a.objective objective a.value value (from_walks net a.lists ++ x) t a.written written (sym (least_tail net version r a x) ∙ h ∙ least_more objective value [] t)).2)

infeasible_whole : (o : Objective) → IsWholeLines (infeasible_then o [])
infeasible_whole o = inr (codes "objective " ++ objective_word o, by (objective_word o))
  where
    by : (o : List ℕ) → codes "objective " ++ (o ++ 10 ∷ []) ≡ (codes "objective " ++ o) ++ 10 ∷ []
    by o = simp append_assoc

pub infeasible_wrong : (net : Network) (version : ℕ) (text rest : List ℕ) (objective : Objective) (left : ℕ) → IsVersion version → text ≡ infeasible_then objective rest → GoesWrong closing_tree IsTree rest left → GoesWrong (behind_first net) (IsForm net version false) text left
infeasible_wrong net version text rest objective left v e g =
    lift_wrong (behind_first net) (IsForm net version false) closing_tree IsTree (infeasible_then objective []) rest text left (infeasible_whole objective) (e ∙ sym (infeasible_more objective [] rest)) up down g
  where
    up : (tree : Tree) → IsTree tree → (r : ResultText × Tree) × IsForm net version false r × (more : List ℕ) × (behind_first net r ≡ infeasible_then objective [] ++ (closing_tree tree ++ more))
    up tree is = (
      infeasible_of net version objective tree,
      infeasible_is net version objective tree v is,
      [],
      infeasible_text net version objective tree ∙ ap (infeasible_then objective) (sym (append-nil (closing_tree tree))) ∙ sym (infeasible_more objective [] (closing_tree tree ++ [])),
    )

    down : (r : ResultText × Tree) (x t : List ℕ) → IsForm net version false r → behind_first net r ++ x ≡ infeasible_then objective [] ++ t → (tree : Tree) × IsTree tree × (y : List ℕ) × (closing_tree tree ++ y ≡ t)
    down r x t is h =
        let a = as_infeasible net version r is in
        (a.tree, a.tree_is, x, (infeasible_rest a.objective objective (closing_tree a.tree ++ x) t (sym (infeasible_tail net version r a x) ∙ h ∙ infeasible_more objective [] t)).1)

-- The second line is wrong where no result has it.

abbrev second_front : Head → List ℕ
second_front (Least objective value walks loads) = codes "objective " ++ (objective_word objective ++ 32 ∷ value)
second_front (Infeasible objective) = codes "objective " ++ objective_word objective

abbrev behind_second : Network → Head → List ℕ → List ℕ
behind_second net (Least objective value walks loads) more = (flat_map (walk_line net) walks ++ flat_map (load_line net) loads) ++ more
behind_second net (Infeasible objective) more = more

second_is : (net : Network) (head : Head) (more : List ℕ) → lines_of_head net head ++ more ≡ second_front head ++ 10 ∷ behind_second net head more
second_is net (Least objective value walks loads) more = by (objective_word objective) value (flat_map (walk_line net) walks ++ flat_map (load_line net) loads) more
  where
    by : (o value x y : List ℕ) → (codes "objective " ++ (o ++ 32 ∷ (value ++ 10 ∷ x))) ++ y ≡ (codes "objective " ++ (o ++ 32 ∷ value)) ++ 10 ∷ (x ++ y)
    by o value x y = simp append_assoc
second_is net (Infeasible objective) more = by (objective_word objective) more
  where
    by : (o y : List ℕ) → (codes "objective " ++ (o ++ 10 ∷ [])) ++ y ≡ (codes "objective " ++ o) ++ 10 ∷ y
    by o y = simp append_assoc

second_free : (net : Network) (version : ℕ) (head : Head) → IsHead net version head → Free 10 (second_front head)
unfolding lacks_byte
second_free net version (Least objective value walks loads) is =
    free_append 10 (codes "objective ") (objective_word objective ++ 32 ∷ value) (tested 10 (codes "objective ") refl)
    (free_append 10 (objective_word objective) (32 ∷ value) (objective_free 10 objective (omega arith)) ((λ e. omega arith), value_free value is.0))
second_free net version (Infeasible objective) is = free_append 10 (codes "objective ") (objective_word objective) (tested 10 (codes "objective ") refl) (objective_free 10 objective (omega arith))

wrong_second : (net : Network) (version : ℕ) (feasible : Bool) (text : List ℕ) (some : ResultText × Tree) → IsForm net version feasible some → ((r : ResultText × Tree) (rest : List ℕ) → IsForm net version feasible r → text ≡ second_front r.0.head ++ 10 ∷ rest → ⊥) →
    GoesWrong (behind_first net) (IsForm net version feasible) text (length text)
wrong_second net version feasible text some is none =
    line_wrong (behind_first net) (IsForm net version feasible) (λ r. second_front r.0.head) (λ r. behind_second net r.0.head (lines_of net r.0.config ++ closing_tree r.1)) text some is
    (λ r. second_is net r.0.head (lines_of net r.0.config ++ closing_tree r.1)) (λ r f. second_free net r.0.version r.0.head f.is.head) none

pub no_least : (net : Network) (version : ℕ) (text : List ℕ) → IsVersion version → ((objective : Objective) (value rest : List ℕ) → IsWrittenValue value → text ≡ least_then objective value rest → ⊥) → GoesWrong (behind_first net) (IsForm net version true) text (length text)
no_least net version text v none =
    wrong_second net version true text (least_of net version Shortest (decimal 0) empty) (least_is net version Shortest (decimal 0) empty v (inl (0, omega arith, refl)) (tt, (tt, (tt, (tt, (tt, (tt, some_tree)))))))
    (λ r rest f e. by r.0.head r.0.version rest f.same_kind f.is.head e)
  where
    empty : Lists
    empty = ([], ([], ([], ([], ([], ([], Leaf []))))))

    same : (o value rest : List ℕ) → (codes "objective " ++ (o ++ 32 ∷ value)) ++ 10 ∷ rest ≡ codes "objective " ++ (o ++ 32 ∷ (value ++ 10 ∷ rest))
    same o value rest = simp append_assoc

    by : (head : Head) (version : ℕ) (rest : List ℕ) → is_feasible head ≡ true → IsHead net version head → text ≡ second_front head ++ 10 ∷ rest → ⊥
    by (Least objective value walks loads) version rest f h e = none objective value rest h.0 (e ∙ same (objective_word objective) value rest)
    by (Infeasible objective) version rest f h e = true_false (sym f)

pub no_infeasible : (net : Network) (version : ℕ) (text : List ℕ) → IsVersion version → ((objective : Objective) (rest : List ℕ) → text ≡ infeasible_then objective rest → ⊥) → GoesWrong (behind_first net) (IsForm net version false) text (length text)
no_infeasible net version text v none =
    wrong_second net version false text (infeasible_of net version Shortest (Leaf [])) (infeasible_is net version Shortest (Leaf []) v some_tree) (λ r rest f e. by r.0.head rest f.same_kind e)
  where
    same : (o rest : List ℕ) → (codes "objective " ++ o) ++ 10 ∷ rest ≡ codes "objective " ++ (o ++ 10 ∷ rest)
    same o rest = simp append_assoc

    by : (head : Head) (rest : List ℕ) → is_feasible head ≡ false → text ≡ second_front head ++ 10 ∷ rest → ⊥
    by (Least objective value walks loads) rest f e = true_false f
    by (Infeasible objective) rest f e = none objective rest (e ∙ same (objective_word objective) rest)

-- The first line is wrong where no result has it.
pub no_first : (net : Network) (text : List ℕ) → ((version : ℕ) (feasible : Bool) (rest : List ℕ) → IsVersion version → text ≡ first_line version feasible ++ rest → ⊥) → IsFirstWrongLine (result_text net) (IsResult net) text 0
no_first net text none = wrong_first net text (infeasible_of net 1 Shortest (Leaf [])) (infeasible_is net 1 Shortest (Leaf []) (inl refl) some_tree).is none
