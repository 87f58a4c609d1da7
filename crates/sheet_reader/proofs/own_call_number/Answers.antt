-- `sheet_reader::own_call_number` meets its contract. Assumes nothing.
use Rattle.std.proofs.Common.{ℕ, ◌+◌, ◌*◌, Bool, not, List, eqb, get_or, ap, ◌∙◌, rules, arith}
use borrow.Author.Tests.{tests}
use Rattle.format.specs.Sheet.{call_number, same_call, unlike_earlier}
use Rattle.sheet_reader.proofs.Laws.{all-every, two-there}
use Rattle.sheet_reader.proofs.own_call_number.Goals as goal

pub returns : goal.returns
unfolding unlike_earlier
returns c =
    let s = c.args.sheet.now in
    let i = c.args.position in
    let there = c.earlier.ensures in
    let like : List ℕ → Bool = λ p. eqb (get_or p 0 0 + 256 * get_or p 1 0) (call_number s i) in
    c.none.ensures like (λ p b e. search (rules, tests))
    ∙ all-every (λ p. not (like p)) (λ j. not (same_call s j i)) c.earlier.result.now i there.count
    (λ j l. ap (λ n. not (eqb n (call_number s i)))
    (two-there s j 0 (10 + 6 * j) _ _ (there.bytes j 0 l (omega arith)) (there.bytes j 1 l (omega arith)) (omega arith)))
