-- `sheet_reader::own_pixel` meets its contract. Assumes nothing.
use Rattle.std.proofs.Common.{ℕ, ◌+◌, ◌*◌, Bool, not, ◌&&◌, List, eqb, get_or, ◌∙◌, rules, arith}
use Rattle.std.proofs.Math.Path.{ap₂}
use borrow.Author.Tests.{tests}
use Rattle.format.specs.Sheet.{column, row, same_pixel, unlike_earlier}
use Rattle.sheet_reader.proofs.Laws.{all-every, two-there}
use Rattle.sheet_reader.proofs.own_pixel.Goals as goal

pub returns : goal.returns
unfolding unlike_earlier
returns c =
    let s = c.args.sheet.now in
    let i = c.args.position in
    let there = c.earlier.ensures in
    let like : List ℕ → Bool = λ p. eqb (get_or p 4 0 + 256 * get_or p 5 0) (row s i) && eqb (get_or p 2 0 + 256 * get_or p 3 0) (column s i) in
    c.none.ensures like (λ p b e. search (rules, tests))
    ∙ all-every (λ p. not (like p)) (λ j. not (same_pixel s j i)) c.earlier.result.now i there.count
    (λ j l. ap₂ (λ m n. not (eqb m (row s i) && eqb n (column s i)))
    (two-there s j 4 (14 + 6 * j) _ _ (there.bytes j 4 l (omega arith)) (there.bytes j 5 l (omega arith)) (omega arith))
    (two-there s j 2 (12 + 6 * j) _ _ (there.bytes j 2 l (omega arith)) (there.bytes j 3 l (omega arith)) (omega arith)))
