use Rattle.std.proofs.Common.{◌≡◌, ◌<◌, ◌≤◌, nat_abs, ◌^◌, to_z, of_z, w64, arith}
use Rattle.std.proofs.lemmas.Int.{ints}
use Rattle.merlin_base.proofs.Decimals.{between}
use Rattle.merlin_base.proofs.PairTexts.{has-parts, no_colon, pair_is}
use Rattle.merlin_base.proofs.pairs.read_pair.Goals as goal

pub returns-clause-some : goal.returns-clause-some
returns-clause-some c =
    let read = c.in-Some-read_whole.ensures.some in
    let limit = c.requires in
    let size = read.1 in
    let w = between (2 ^ 60) c.in-Some-read_whole.whole (omega arith) in
    let low = w.low in let high = w.high in
    let same : to_z w64 (of_z w64 c.in-Some-read_whole.whole) ≡ c.in-Some-read_whole.whole = omega (arith, ints) in
    pair_is c.args.text.now c.in-Some.numbers.now c.in-Some-split_at_byte.first.now c.in-Some-split_at_byte.behind.now c.cut_before.result.0.now c.cut_before.result.1.now c.in-Some-read_number.number c.in-Some-read_whole.whole _ c.args.limit same
    c.in-Some.ensures.some c.in-Some-split_at_byte.ensures.some.0 c.cut_before.ensures.whole c.in-Some-read_number.ensures.some read c.cut_before.ensures.begins

pub returns-in_default-split_at_byte-clause-none : goal.returns-in_default-split_at_byte-clause-none
returns-in_default-split_at_byte-clause-none c = λ pair rest small limit begins e. no_colon c.args.text.now c.in-Some.numbers.now pair rest c.in-Some.ensures.some c.in_default-split_at_byte.ensures.none e

pub returns-in_default-read_number-clause-none : goal.returns-in_default-read_number-clause-none
returns-in_default-read_number-clause-none c = λ pair rest small limit begins e.
    let l = c.requires in let small_pair : (pair.0 < 10 ^ 19) × (nat_abs pair.1 ≤ 2 ^ 60) = (small, omega arith) in
    let parts = has-parts _ _ _ _ _ _ pair rest c.in-Some.ensures.some c.in-Some-split_at_byte.ensures.some.0 c.in-Some-split_at_byte.ensures.some.1 c.cut_before.ensures.whole c.cut_before.ensures.lacks c.cut_before.ensures.begins small_pair begins e in
    c.in_default-read_number.ensures.none pair.0 small parts.number

pub returns-in_default-read_whole-clause-none : goal.returns-in_default-read_whole-clause-none
returns-in_default-read_whole-clause-none c = λ pair rest small limit begins e.
    let l = c.requires in let small_pair : (pair.0 < 10 ^ 19) × (nat_abs pair.1 ≤ 2 ^ 60) = (small, omega arith) in
    let parts = has-parts _ _ _ _ _ _ pair rest c.in-Some.ensures.some c.in-Some-split_at_byte.ensures.some.0 c.in-Some-split_at_byte.ensures.some.1 c.cut_before.ensures.whole c.cut_before.ensures.lacks c.cut_before.ensures.begins small_pair begins e in
    c.in_default-read_whole.ensures.none pair.1 limit parts.whole
