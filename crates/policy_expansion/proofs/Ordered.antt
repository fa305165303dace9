-- The first fault in the order of their kinds.
use Rattle.std.proofs.Common.{◌≡◌, ◌+◌, ℕ, List, [], ◌∷◌, length, map, Option, None, Some, refl, sym, ◌∙◌, ap, subst}
use Rattle.std.specs.Prelude.{flat_map, Ok, Err}
use Rattle.std.specs.Option.{option_or, option_map_or}
use Rattle.policy_grammar.specs.declared.written.Literal.{Literal}
use Rattle.policy_grammar.specs.declared.written.WrittenStatement.{WrittenStatement}
use Rattle.policy_grammar.specs.declared.written.WrittenPolicy.{WrittenPolicy}
use Rattle.policy_expansion.specs.declared.policy.Statement.{Statement}
use Rattle.policy_expansion.specs.declared.policy.ExpansionFault.{ExpansionFault}
use Rattle.policy_expansion.specs.declared.policy.ExpansionFault.TheVariants.{DuplicateSet, MixedSet, UnknownSet, TooManyStatements, DuplicateId, OutOfMemory}
use Rattle.policy_expansion.specs.WrittenOut.{known_literals, written_out, statements_of}
use Rattle.policy_expansion.specs.Faults.{duplicate_set, mixed_set, unknown_set, count_of_default, too_many, duplicate_id, fault_of, IsFault}
use Rattle.policy_expansion.specs.Expansion.{plain, policy_of, expansion, IsExpansion}

is_first : (a b : Option ExpansionFault) (f : ExpansionFault) → IsFault a f → IsFault (option_or a b) f
is_first a b (DuplicateSet name) e = ap (λ o. option_or o b) e
is_first a b (MixedSet name) e = ap (λ o. option_or o b) e
is_first a b (UnknownSet name) e = ap (λ o. option_or o b) e
is_first a b (TooManyStatements count) e = ap (λ o. option_or o b) e
is_first a b (DuplicateId id) e = ap (λ o. option_or o b) e
is_first a b OutOfMemory e = tt

is_later : (a b : Option ExpansionFault) (f : ExpansionFault) → a ≡ None → IsFault b f → IsFault (option_or a b) f
is_later a b f none h = subst (λ (o : Option ExpansionFault). IsFault (option_or o b) f) (sym none) h

both_none : (a b : Option ExpansionFault) → a ≡ None → b ≡ None → option_or a b ≡ None
both_none a b none rest = ap (λ o. option_or o b) none ∙ rest

to_error : (w : WrittenPolicy) (f : ExpansionFault) → fault_of w ≡ Some f → expansion w ≡ Err f
to_error w f e = ap (λ o. option_map_or Err o (Ok (policy_of w))) e

-- the refusal for the fault that counts
pub refused : (w : WrittenPolicy) (f : ExpansionFault) → IsFault (fault_of w) f → IsExpansion w (Err f)
refused w (DuplicateSet name) e = to_error w _ e
refused w (MixedSet name) e = to_error w _ e
refused w (UnknownSet name) e = to_error w _ e
refused w (TooManyStatements count) e = to_error w _ e
refused w (DuplicateId id) e = to_error w _ e
refused w OutOfMemory e = tt

pub same_ids : (xs : List WrittenStatement) → map (λ s. s.id) (map plain xs) ≡ map (λ s. s.id) xs
same_ids [] = refl
same_ids (x ∷ xs) = ap (λ ids. x.id ∷ ids) (same_ids xs)

-- One kind after another, with the sets known by a table.
module _ (w : WrittenPolicy) (known : List ℕ → Option (List Literal)) (same : (name : List ℕ) → known name ≡ known_literals w.sets name) where
  as_known : known ≡ known_literals w.sets
  as_known = λ k name. same name k

  abbrev statements : List WrittenStatement
  statements = flat_map (written_out known) w.items

  pub as_statements : flat_map (written_out known) w.items ≡ statements_of w
  as_statements = ap (λ f. flat_map (written_out f) w.items) as_known

  pub by_sets : (f : ExpansionFault) → IsFault (duplicate_set w.sets) f → IsFault (fault_of w) f
  by_sets f h = is_first _ _ f h

  pub by_kinds : (f : ExpansionFault) → duplicate_set w.sets ≡ None → IsFault (mixed_set w.sets) f → IsFault (fault_of w) f
  by_kinds f a h = is_later _ _ f a (is_first _ _ f h)

  pub by_names : (f : ExpansionFault) → duplicate_set w.sets ≡ None → mixed_set w.sets ≡ None → IsFault (unknown_set known w.items) f → IsFault (fault_of w) f
  by_names f a b h = is_later _ _ f a (is_later _ _ f b (is_first _ _ f (subst (λ (g : List ℕ → Option (List Literal)). IsFault (unknown_set g w.items) f) as_known h)))

  module _ (a : duplicate_set w.sets ≡ None) (b : mixed_set w.sets ≡ None) (n : unknown_set known w.items ≡ None) where
    names_known : unknown_set (known_literals w.sets) w.items ≡ None
    names_known = ap (λ g. unknown_set g w.items) (sym as_known) ∙ n

    pub by_count : (f : ExpansionFault) → IsFault (too_many (length (flat_map (written_out known) w.items) + count_of_default w.default_path)) f → IsFault (fault_of w) f
    by_count f h = is_later _ _ f a (is_later _ _ f b (is_later _ _ f names_known (is_first _ _ f (subst (λ (xs : List WrittenStatement). IsFault (too_many (length xs + count_of_default w.default_path)) f) as_statements h))))

    module _ (c : too_many (length (flat_map (written_out known) w.items) + count_of_default w.default_path) ≡ None) (written : List Statement) (are : written ≡ map plain (flat_map (written_out known) w.items)) where
      few : too_many (length (statements_of w) + count_of_default w.default_path) ≡ None
      few = ap (λ xs. too_many (length xs + count_of_default w.default_path)) (sym as_statements) ∙ c

      as_ids : map (λ s. s.id) written ≡ map (λ s. s.id) (statements_of w)
      as_ids = ap (map (λ s. s.id)) are ∙ (same_ids statements ∙ ap (map (λ s. s.id)) as_statements)

      pub by_ids : (f : ExpansionFault) → IsFault (duplicate_id (map (λ s. s.id) written)) f → IsFault (fault_of w) f
      by_ids f h = is_later _ _ f a (is_later _ _ f b (is_later _ _ f names_known (is_later _ _ f few (subst (λ (ids : List (List ℕ)). IsFault (duplicate_id ids) f) as_ids h))))

      pub no_fault : duplicate_id (map (λ s. s.id) written) ≡ None → fault_of w ≡ None
      no_fault d = both_none _ _ a (both_none _ _ b (both_none _ _ names_known (both_none _ _ few (ap duplicate_id (sym as_ids) ∙ d))))
