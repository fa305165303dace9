-- Where walks start.
use Rattle.std.proofs.Common.{ℕ, inl, inr, ◌⊎◌, List, [], ◌∷◌, refl, sym, subst}
use Rattle.std.specs.List.{AllByRecursion, flat_map}
use Rattle.merlin_model.specs.declared.policy.Field.{Field}
use Rattle.merlin_model.specs.declared.policy.Field.TheVariants.{EthSrc, EthDst, IpSrc, IpDst, Proto, Sport, Dport}
use Rattle.merlin_model.specs.declared.policy.Test.{Test}
use Rattle.merlin_model.specs.declared.policy.Test.TheVariants.{Is, Port, Within}
use Rattle.merlin_model.specs.declared.policy.Pred.{Pred, Yes, No, Test as Tests, All, All', AnyOf, AnyOf', Not, Not', Row_of-Pred, end_of-Pred, more_of-Pred}
use Rattle.merlin_model.specs.declared.policy.Pred.TheBlock.{hidden-the_row-Pred-0, hidden-the_row-Pred-1}
use denote.Hole.Carrier.{hidden}
use Rattle.merlin_model.specs.Predicates.{IsTest, IsPred, ArePreds}
use Rattle.merlin_model.proofs.Members.{In, in_append}
use Rattle.predicate_logic.specs.Mentions.{tests_of, row_tests}
use Rattle.predicate_split.specs.Classes.{zero_packet}
use Rattle.packet_model.specs.Texts.{all_fields}
use Rattle.predicate_split.specs.Walks.{IsFresh, AreFresh, IsUnfixed}

either : {A B C : Type 0} → (A → C) → (B → C) → A ⊎ B → C
either f g (inl a) = f a
either f g (inr b) = g b

mutual
  pred_tests : (q : Pred) → IsPred q → (t : Test) → In t (tests_of q) → IsTest t
  pred_tests Yes h t i = absurd i
  pred_tests No h t i = absurd i
  pred_tests (Tests s) h t (inl e) = subst IsTest (sym e) h
  pred_tests (Tests s) h t (inr i) = absurd i
  pred_tests (All' _ row) h t i = each_tests row h t i
  pred_tests (AnyOf' _ row) h t i = each_tests row h t i
  pred_tests (Not' _ (more_of-Pred q end_of-Pred)) h t i = pred_tests q h.0 t i

  each_tests : {n : _} → (row : Row_of-Pred n) → ArePreds row → (t : Test) → In t (row_tests row) → IsTest t
  each_tests end_of-Pred h t i = absurd i
  each_tests (more_of-Pred q rest) h t i = either (pred_tests q h.0 t) (each_tests rest h.1 t) (in_append (tests_of q) (row_tests rest) t i)

in_all : (f : Field) → In f all_fields
in_all EthSrc = inl refl
in_all EthDst = inr (inl refl)
in_all IpSrc = inr (inr (inl refl))
in_all IpDst = inr (inr (inr (inl refl)))
in_all Proto = inr (inr (inr (inr (inl refl))))
in_all Sport = inr (inr (inr (inr (inr (inl refl)))))
in_all Dport = inr (inr (inr (inr (inr (inr (inl refl))))))

test-starts : (proto : ℕ) (t : Test) → IsTest t → IsFresh all_fields proto t
test-starts proto (Is f n) h = (in_all f, h.1, λ port. absurd (h.0 port))
test-starts proto (Port q f n) h = (in_all Proto, in_all f, h.0, h.1, h.2)
test-starts proto (Within f n length) h = (in_all f, h.0, h.1, h.2, h.3)

pub pred-starts : (proto : ℕ) (q : Pred) → IsPred q → AreFresh all_fields proto (q ∷ [])
pred-starts proto q h t i = test-starts proto t (either (pred_tests q h t) (λ e. absurd e) (in_append (tests_of q) [] t i))

pub zero-open : IsUnfixed all_fields zero_packet
zero-open EthSrc i = refl
zero-open EthDst i = refl
zero-open IpSrc i = refl
zero-open IpDst i = refl
zero-open Proto i = refl
zero-open Sport i = refl
zero-open Dport i = refl

-- well-formed predicates put together

pub all_formed : (preds : List Pred) → AllByRecursion IsPred preds → IsPred (All preds)
unfolding hidden-the_row-Pred-0 hidden
all_formed [] h = tt
all_formed (pred ∷ rest) h = (h.0, all_formed rest h.1)

pub none_formed : (preds : List Pred) → AllByRecursion IsPred preds → IsPred (Not (AnyOf preds))
unfolding hidden-the_row-Pred-0 hidden-the_row-Pred-1 hidden
none_formed preds h = (any_formed preds h, tt)
  where
    any_formed : (preds : List Pred) → AllByRecursion IsPred preds → IsPred (AnyOf preds)
    any_formed [] h = tt
    any_formed (pred ∷ rest) h = (h.0, any_formed rest h.1)

pub preds-start : (proto : ℕ) (preds : List Pred) → AllByRecursion IsPred preds → AreFresh all_fields proto preds
preds-start proto [] h t i = absurd i
preds-start proto (q ∷ rest) h t i = either (λ j. test-starts proto t (pred_tests q h.0 t j)) (preds-start proto rest h.1 t) (in_append (tests_of q) (flat_map tests_of rest) t i)
