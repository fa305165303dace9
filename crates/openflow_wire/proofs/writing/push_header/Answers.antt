use Rattle.std.proofs.Common.{◌≡◌, ◌++◌, ℕ, List, [], ◌∷◌, OnOk, sym, ap, subst, ◌∙◌}
use Rattle.std.proofs.lemmas.Grind.{flat_map-append}
use Rattle.std.proofs.lemmas.List.{append_assoc}
use Rattle.openflow_wire.specs.declared.numbers.Number.{Number}
use Rattle.openflow_wire.specs.declared.numbers.Number.TheVariants.{Byte, Short, Word, Long}
use Rattle.openflow_wire.specs.Fields.{number_bytes, bytes_of}
use Rattle.openflow_wire.specs.Messages.{match_numbers}
use Rattle.openflow_wire.proofs.writing.push_header.Goals as goal

-- three lists of numbers behind what stood
pushed : (old : List ℕ) (xs ys zs : List Number) →
    ((old ++ bytes_of xs) ++ bytes_of ys) ++ bytes_of zs ≡ old ++ bytes_of (xs ++ (ys ++ zs))
pushed old xs ys zs =
    append_assoc (old ++ bytes_of xs) (bytes_of ys) (bytes_of zs)
    ∙ append_assoc old (bytes_of xs) (bytes_of ys ++ bytes_of zs)
    ∙ ap (λ bs. old ++ (bytes_of xs ++ bs)) (sym (flat_map-append number_bytes ys zs))
    ∙ ap (λ bs. old ++ bs) (sym (flat_map-append number_bytes xs (ys ++ zs)))

abbrev first : ℕ → ℕ → List Number
first xid size = Byte 1 ∷ Byte 14 ∷ Short size ∷ Word xid ∷ []

abbrev last : ℕ → List Number
last priority =
    Long 0 ∷ Short 0 ∷ Short 0 ∷ Short 0 ∷ Short priority ∷ Word 4294967295 ∷ Short 65535 ∷ Short 0 ∷ []

pub returns : goal.returns
returns c =
    let old = c.args.bytes.now.items in
    let xs = first c.args.xid c.args.size in
    let ys = match_numbers c.args.rule.now.fits in
    let zs = last c.args.rule.now.priority in
    let once : c.push_numbers.new.bytes.items ≡ old ++ bytes_of xs = c.in_ok-push_numbers.ensures in
    let twice : c.push_numbers-2.new.bytes.items ≡ (old ++ bytes_of xs) ++ bytes_of ys =
    c.in_ok-push_numbers-2.ensures ∙ ap (λ ns. c.push_numbers.new.bytes.items ++ bytes_of ns) c.match_numbers.ensures
    ∙ ap (λ bs. bs ++ bytes_of ys) once in
    subst (λ (bs : List ℕ). OnOk c.push_numbers-3.result (c.push_numbers-3.new.bytes.items ≡ bs))
    (ap (λ bs. bs ++ bytes_of zs) twice ∙ pushed old xs ys zs) c.push_numbers-3.ensures
