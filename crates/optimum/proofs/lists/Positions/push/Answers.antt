-- `optimum::lists::Positions::push` meets its contract: the cell behind the others is written. Assumes nothing.
use Rattle.std.proofs.Common.{◌≡◌, ◌+◌, ◌<◌, [], ◌∷◌, ◌++◌, length, length-append, ap, arith}
use Rattle.optimum.proofs.ListsLaws.{pushed}
use Rattle.optimum.proofs.lists.Positions.push.Goals as goal

pub returns-clause-list : goal.returns-clause-list
returns-clause-list c = λ l e.
    let few : length l < 32 = omega (arith, ap (λ r. r.count) e) in
    let more : length l + 1 ≡ length (l ++ c.args.position ∷ []) = omega (arith, length-append l (c.args.position ∷ [])) in
    rw (c.from.ensures, e) (rw (pushed l c.args.position few, more))
