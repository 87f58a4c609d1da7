-- `sheet_reader::none` meets its contract. Assumes nothing.
use Rattle.std.proofs.Common.{true, false, not, [], get_or, refl, sym, ap, rules, arith}
use Rattle.std.specs.List.{list_all}
use Rattle.std.specs.Fn.{FnReturnsAt}
use Rattle.std.proofs.lemmas.List.Recursion.{and_fails_at, and_from_places}
use Rattle.sheet_reader.proofs.none.Goals as goal

pub returns-then-like : goal.returns-then-like
returns-then-like g c p f =
    let points = c.args.points.now in
    let i = c.loop-point.point-index in
    let here : FnReturnsAt g.F.Fn c.args.like (get_or points i []) true = search rules in
    sym (and_fails_at (list_all (λ x. not (p x))) (λ x. not (p x)) refl (λ x y. refl) points i [] c.loop-point-test.true
    (ap not (sym (f (get_or points i []) true here))))

pub returns : goal.returns
returns g c p f =
    sym (and_from_places (list_all (λ x. not (p x))) (λ x. not (p x)) refl (λ x y. refl) c.args.points.now []
    (λ i l. ap not (sym (f (get_or c.args.points.now i []) false (c.loop-point.invariant i (omega arith))))))
