-- All files of a command: those of its words, and those that the contents of these name.
use Rattle.std.proofs.Common.{◌≡◌, ◌≢◌, ◌↔◌, ◌≤◌, ◌-◌, ℕ, List, [], ◌∷◌, ◌++◌, length, take, drop, get_or, inl, inr, refl, sym, ◌∙◌, ap, subst, arith}
use Rattle.std.specs.declared.vec.Vec.{Vec}
use Rattle.std.specs.declared.alloc.Global.{Global}
use Rattle.std.proofs.lemmas.List.{append-nil, length-map, map-append, take_rest}
use Rattle.merlin_base.specs.Outside.{KnownContents, NoneFalls}
use Rattle.delegation_text.specs.declared.entry.TreeEntry.{TreeEntry}
use Rattle.delegation_text.specs.declared.fault.EntryFault.{EntryFault}
use Rattle.delegation_text.specs.declared.fault.EntryFault.TheVariants as entry_faults
use Rattle.delegation_text.specs.Trees.{IsDelegationText, RefusesTreeText}
use Rattle.delegation_text.proofs.OneTree.{entries-apart}
use Rattle.delegation_verdict.specs.declared.reply.DelegateReply.{DelegateReply}
use Rattle.delegation_verdict.specs.Verdict.{Delegates}
use Rattle.merlin.specs.declared.reading.Unread.{Unread}
use Rattle.merlin.specs.declared.reading.Unread.TheVariants as unread
use Rattle.merlin.specs.declared.commands.Command.{Command}
use Rattle.merlin.specs.declared.commands.Command.TheVariants as commands
use Rattle.merlin.specs.declared.delegate.Delegate.{Delegate}
use Rattle.merlin.specs.Reading.{AreContents, IsFirstTooLong, RoseIn, IsUnread, IsUnreadNamed, texts_read}
use Rattle.merlin.specs.Commands.{CommandName, Compiling, Refining, Refuting, Dividing, Judging, Tracing, Wiring, Unwiring, Delegating, command_meaning, Form, form_of, files_of, NamesFurther}
use Rattle.merlin.specs.Contents.{HasNamed, AreContentsOf, NamesNothing, IsSoOfFurther, IsFirstTooLongOf, RoseInFilesOf, IsUnreadOf}
use Rattle.merlin.specs.Delegate.{DelegateForm, policy_files, TreeNames, NamesPolicies, ArePoliciesOf, HasAdded, HasTextForEach, IsDelegateReply}
use Rattle.merlin.proofs.Files.{IsUnread-earlier}
use Rattle.merlin.proofs.Replies.{AreContents-length, texts_read-length}
use Rattle.merlin.proofs.NamedPolicies.{as_many_nodes}

-- A command whose files name no others.

-- each command but one names nothing
pub names_nothing : (form : Form) → form.name ≢ Delegating → NamesNothing form
names_nothing form other first more = by form.name form.request other
  where
    by : (name : CommandName) (request : (command_meaning name).Request) → name ≢ Delegating → (command_meaning name).NamesFiles request first more → more ≡ []
    by Compiling request other is = is
    by Refining request other is = is
    by Refuting request other is = is
    by Dividing request other is = is
    by Judging request other is = is
    by Tracing request other is = is
    by Wiring request other is = is
    by Unwiring request other is = is
    by Delegating request other is = absurd (other refl)

-- so that no file is named
names_none : (form : Form) → form.name ≢ Delegating → (first : List (List ℕ)) → NamesFurther form first []
names_none form other first = by form.name form.request other
  where
    by : (name : CommandName) (request : (command_meaning name).Request) → name ≢ Delegating → (command_meaning name).NamesFiles request first []
    by Compiling request other = refl
    by Refining request other = refl
    by Refuting request other = refl
    by Dividing request other = refl
    by Judging request other = refl
    by Tracing request other = refl
    by Wiring request other = refl
    by Unwiring request other = refl
    by Delegating request other = absurd (other refl)

no_more : (known : KnownContents) (more : List (List ℕ × ℕ)) (further : List (List ℕ)) → more ≡ [] → AreContents known more further → further ≡ []
no_more known [] [] e are = refl
no_more known [] (x ∷ further) e are = absurd are
no_more known (f ∷ more) further e are = cc

module _ (known : KnownContents) (form : Form) where
  -- what is read first is all, where nothing more is named
  pub AreContentsOf-first : (contents : List (List ℕ)) → NamesFurther form contents [] → AreContents known (files_of form) contents
      → AreContentsOf known form contents
  AreContentsOf-first contents names are = record {
    first = contents;
    more = [];
    further = [];
    named = record { are_contents = are; names = names };
    are_further = tt;
    whole = sym (append-nil contents);
  }

  -- where the command names nothing, its contents are those of its words
  pub AreContents-by_words : (contents : List (List ℕ)) → NamesNothing form → AreContentsOf known form contents
      → AreContents known (files_of form) contents
  AreContents-by_words contents nothing are =
      let none : are.further ≡ [] = no_more known are.more are.further (nothing are.first are.more are.named.names) are.are_further in
      let same : contents ≡ are.first = are.whole ∙ ap (λ xs. are.first ++ xs) none ∙ append-nil are.first in
      subst (AreContents known (files_of form)) (sym same) are.named.are_contents

  pub length_by_words : (contents : List (Vec ℕ Global)) → NamesNothing form → AreContentsOf known form (texts_read contents)
      → length contents ≡ length (files_of form)
  length_by_words contents nothing are =
      sym (texts_read-length contents) ∙ AreContents-length known (files_of form) (texts_read contents) (AreContents-by_words (texts_read contents) nothing are)

  long_by_words : (name : List ℕ) → NamesNothing form → IsFirstTooLongOf known form name → IsFirstTooLong known (files_of form) name
  long_by_words name nothing (inl long) = long
  long_by_words name nothing (inr further) =
      absurd (subst (λ files. IsFirstTooLong known files name) (nothing further.first further.more further.named.names) further.is_so)

  no_name : {P : List ℕ → Type 0} → ((name : List ℕ) × ⊥ × P name) → ⊥
  no_name (name, none, p) = none

  rose_by_words : (before now : List ℕ → ℕ) → NamesNothing form → RoseInFilesOf known form before now → RoseIn (files_of form) before now
  rose_by_words before now nothing (inl rose) = rose
  rose_by_words before now nothing (inr further) =
      absurd (no_name (subst (λ files. RoseIn files before now) (nothing further.first further.more further.named.names) further.is_so))

  -- The same in both directions.

  pub AreContentsOf-words : (contents : List (List ℕ)) → form.name ≢ Delegating → AreContentsOf known form contents ↔ AreContents known (files_of form) contents
  AreContentsOf-words contents other = (AreContents-by_words contents (names_nothing form other), AreContentsOf-first contents (names_none form other contents))

  pub IsFirstTooLongOf-words : (name : List ℕ) → form.name ≢ Delegating → IsFirstTooLongOf known form name ↔ IsFirstTooLong known (files_of form) name
  IsFirstTooLongOf-words name other = (long_by_words name (names_nothing form other), λ long. inl long)

  pub RoseInFilesOf-words : (before now : List ℕ → ℕ) → form.name ≢ Delegating → RoseInFilesOf known form before now ↔ RoseIn (files_of form) before now
  RoseInFilesOf-words before now other = (rose_by_words before now (names_nothing form other), λ rose. inl rose)

  -- Why files were not all read.

  pub IsUnreadOf-earlier : (before between now : List ℕ → ℕ) (reason : Unread) → NoneFalls before between → IsUnreadOf known form between now reason
      → IsUnreadOf known form before now reason
  IsUnreadOf-earlier before between now reason later (inl unread) = inl (IsUnread-earlier known (files_of form) before between now reason later unread)
  IsUnreadOf-earlier before between now reason later (inr further) =
      inr (record { first = further.first; more = further.more; named = further.named; is_so = IsUnread-earlier known further.more before between now reason later further.is_so })

  pub IsUnreadOf-named : (first : List (List ℕ)) (before now : List ℕ → ℕ) (reason : Unread) → AreContents known (files_of form) first
      → IsUnreadNamed known (NamesFurther form first) before now reason → IsUnreadOf known form before now reason
  IsUnreadOf-named first before now unread.Fault are (more, names, unread) =
      inr (record { first = first; more = more; named = record { are_contents = are; names = names }; is_so = unread })
  IsUnreadOf-named first before now (unread.TooLong name) are (more, names, unread) =
      inr (record { first = first; more = more; named = record { are_contents = are; names = names }; is_so = unread })
  IsUnreadOf-named first before now unread.OutOfMemory are named = inl tt

-- What was read first is all, but of one command.
pub AreContentsOf-no_tree : (known : KnownContents) (command : Command) → ((words : Delegate) → command ≡ commands.Delegate words → ⊥) → (contents : List (List ℕ))
    → AreContents known (files_of (form_of command)) contents → AreContentsOf known (form_of command) contents
AreContentsOf-no_tree known (commands.Compile words) other contents are = AreContentsOf-first known (form_of (commands.Compile words)) contents refl are
AreContentsOf-no_tree known (commands.Refine words) other contents are = AreContentsOf-first known (form_of (commands.Refine words)) contents refl are
AreContentsOf-no_tree known (commands.Refute words) other contents are = AreContentsOf-first known (form_of (commands.Refute words)) contents refl are
AreContentsOf-no_tree known (commands.Fair words) other contents are = AreContentsOf-first known (form_of (commands.Fair words)) contents refl are
AreContentsOf-no_tree known (commands.Fairness words) other contents are = AreContentsOf-first known (form_of (commands.Fairness words)) contents refl are
AreContentsOf-no_tree known (commands.Trace words) other contents are = AreContentsOf-first known (form_of (commands.Trace words)) contents refl are
AreContentsOf-no_tree known (commands.Wire words) other contents are = AreContentsOf-first known (form_of (commands.Wire words)) contents refl are
AreContentsOf-no_tree known (commands.Unwire words) other contents are = AreContentsOf-first known (form_of (commands.Unwire words)) contents refl are
AreContentsOf-no_tree known (commands.Delegate words) other contents are = absurd (other words refl)

-- A command whose files may name others.

-- a tree and a topology are two files
pub two_files : (known : KnownContents) (form : DelegateForm) (contents : List (Vec ℕ Global))
    → AreContents known (files_of (record { name = Delegating; request = form })) (texts_read contents) → length contents ≡ 2
two_files known form contents are =
    sym (texts_read-length contents) ∙ AreContents-length known (files_of (record { name = Delegating; request = form })) (texts_read contents) are

-- a tree, its topology and what its policies hold
pub AreContentsOf-added : (known : KnownContents) (form : DelegateForm) (contents whole : List (List ℕ))
    → AreContents known (files_of (record { name = Delegating; request = form })) contents → HasAdded known contents whole
    → AreContentsOf known (record { name = Delegating; request = form }) whole
AreContentsOf-added known form contents whole are added = record {
  first = contents;
  more = added.more;
  further = added.policies;
  named = record { are_contents = are; names = added.named };
  are_further = added.are_contents;
  whole = added.whole;
}

-- a tree has as many policies as nodes
each_named : (known : KnownContents) (tree : List ℕ) (more : List (List ℕ × ℕ)) (policies : List (List ℕ)) → TreeNames tree more → AreContents known more policies
    → (entries : List TreeEntry) → IsDelegationText tree entries → length policies ≡ length entries
each_named known tree more policies (inl (others, is', e)) are entries is =
    AreContents-length known more policies are ∙ ap length e ∙ length-map others _ ∙ as_many_nodes tree others entries is' is
each_named known tree more policies (inr (none, e)) are entries is = absurd (none entries is)

pub HasTextForEach-read : (known : KnownContents) (form : DelegateForm) (contents : List (List ℕ))
    → AreContentsOf known (record { name = Delegating; request = form }) contents → HasTextForEach contents
HasTextForEach-read known form contents are = by are.named.names
  where
    by : NamesPolicies are.first are.more → HasTextForEach contents
    by (tree, topology, two, names) = record {
      tree = tree;
      topology = topology;
      policies = are.further;
      whole = are.whole ∙ ap (λ xs. xs ++ are.further) two;
      each = each_named known tree are.more are.further names are.are_further;
    }

-- What was read, as a tree, a topology and the rest.

two_and_rest : {A : Type 0} (xs : List A) (a b : A) → 2 ≤ length xs → a ≡ get_or xs 0 a → b ≡ get_or xs 1 b → xs ≡ a ∷ b ∷ drop 2 xs
two_and_rest [] a b long p q = absurd (omega arith)
two_and_rest (x ∷ []) a b long p q = absurd (omega arith)
two_and_rest (x ∷ y ∷ xs) a b long p q = rw (p, q)

-- the rest, as a slice gives it
abbrev rest_of : List (Vec ℕ Global) → List (Vec ℕ Global)
rest_of contents = take (length contents - 2) (drop 2 contents)

module _ (contents : List (Vec ℕ Global)) (a b : Vec ℕ Global) (texts : HasTextForEach (texts_read contents)) (first : a ≡ get_or contents 0 a) (second : b ≡ get_or contents 1 b) where
  texts_split : texts_read contents ≡ a.items ∷ b.items ∷ texts_read (rest_of contents)
  texts_split =
      let many : length (texts_read contents) ≡ length (texts.tree ∷ texts.topology ∷ texts.policies) = ap length texts.whole in
      let long : 2 ≤ length contents = omega (arith, many, texts_read-length contents) in
      let split : contents ≡ a ∷ b ∷ rest_of contents = rw (take_rest contents 2) (two_and_rest contents a b long first second) in
      ap texts_read split

  pub text_for_each : (tree : List ℕ) → tree ≡ a.items → (entries : List TreeEntry) → IsDelegationText tree entries → length (rest_of contents) ≡ length entries
  text_for_each tree same entries is =
      let split = texts_split in
      let whole = texts.whole in
      let first_is : tree ≡ texts.tree = cc in
      let rest_is : texts_read (rest_of contents) ≡ texts.policies = cc in
      sym (texts_read-length (rest_of contents)) ∙ ap length rest_is ∙ texts.each entries (subst (λ t. IsDelegationText t entries) first_is is)

  pub IsDelegateReply-told : (tree topology : List ℕ) (reply : DelegateReply) → tree ≡ a.items → topology ≡ b.items
      → Delegates tree topology (texts_read (rest_of contents)) reply → IsDelegateReply (texts_read contents) reply
  IsDelegateReply-told tree topology reply same same' h =
      (tree, topology, texts_read (rest_of contents), texts_split ∙ (λ i. sym same i ∷ sym same' i ∷ texts_read (rest_of contents)), h)

-- What is read after the tree.

module _ (known : KnownContents) (tree : List ℕ) where
  -- a refused tree names no policies
  pub ArePoliciesOf-refused : (fault : EntryFault) (policies : List (Vec ℕ Global)) → RefusesTreeText tree fault → (fault ≢ entry_faults.OutOfMemory) × (policies ≡ [])
      → ArePoliciesOf known tree (texts_read policies)
  ArePoliciesOf-refused fault policies refused (refusal, none) = record {
    more = [];
    named = inr ((λ entries is. refusal (entries-apart tree entries fault is refused)), refl);
    are_contents = subst (λ xs. AreContents known [] (texts_read xs)) (sym none) tt;
  }

  pub IsUnreadNamed-memory : (Names : List (List ℕ × ℕ) → Type 0) (before now : List ℕ → ℕ) (reason : Unread) → reason ≡ unread.OutOfMemory → IsUnreadNamed known Names before now reason
  IsUnreadNamed-memory Names before now unread.Fault e = cc
  IsUnreadNamed-memory Names before now (unread.TooLong name) e = cc
  IsUnreadNamed-memory Names before now unread.OutOfMemory e = tt

  -- the tree is the first of two texts
  names_of_two : (contents : List (Vec ℕ Global)) (a : Vec ℕ Global) → length contents ≡ 2 → a ≡ get_or contents 0 a → tree ≡ a.items
      → (more : List (List ℕ × ℕ)) → TreeNames tree more → NamesPolicies (texts_read contents) more
  names_of_two [] a two is same more names = absurd (omega (arith, two))
  names_of_two (x ∷ []) a two is same more names = absurd (omega (arith, two))
  names_of_two (x ∷ y ∷ []) a two is same more names =
      (tree, y.items, ap (λ (v : Vec ℕ Global). v.items ∷ y.items ∷ []) (sym is) ∙ ap (λ (t : List ℕ). t ∷ y.items ∷ []) (sym same), names)
  names_of_two (x ∷ y ∷ z ∷ xs) a two is same more names = absurd (omega (arith, two))

  pub HasAdded-policies : (contents policies all : List (Vec ℕ Global)) (a : Vec ℕ Global) → length contents ≡ 2 → a ≡ get_or contents 0 a → tree ≡ a.items
      → ArePoliciesOf known tree (texts_read policies) → all ≡ contents ++ policies → HasAdded known (texts_read contents) (texts_read all)
  HasAdded-policies contents policies all a two is same are e = record {
    more = are.more;
    policies = texts_read policies;
    named = names_of_two contents a two is same are.more are.named;
    are_contents = are.are_contents;
    whole = ap texts_read e ∙ map-append (λ (v : Vec ℕ Global). v.items) contents policies;
  }

  pub IsUnreadNamed-after : (contents : List (Vec ℕ Global)) (a : Vec ℕ Global) → length contents ≡ 2 → a ≡ get_or contents 0 a → tree ≡ a.items
      → (before now : List ℕ → ℕ) (reason : Unread) → IsUnreadNamed known (TreeNames tree) before now reason
      → IsUnreadNamed known (NamesPolicies (texts_read contents)) before now reason
  IsUnreadNamed-after contents a two is same before now unread.Fault (more, names, unread) = (more, names_of_two contents a two is same more names, unread)
  IsUnreadNamed-after contents a two is same before now (unread.TooLong name) (more, names, unread) = (more, names_of_two contents a two is same more names, unread)
  IsUnreadNamed-after contents a two is same before now unread.OutOfMemory h = tt
