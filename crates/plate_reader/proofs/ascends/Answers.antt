-- `plate_reader::ascends` meets its contract. Assumes nothing.
use Rattle.std.proofs.Common.{◌<◌, ◌≤◌, ltb, rules, tests}
use Rattle.std.proofs.lemmas.Iterator.{cases_from_all, YieldsList-from_slice}
use Rattle.std.proofs.lemmas.List.Sorted.{answers_always}
use Rattle.plate_reader.proofs.Ascending.{all_first, then_sorted}
use Rattle.plate_reader.proofs.ascends.Goals as goal

pub returns-then-all : goal.returns-then-all
returns-then-all c =
    then_sorted _ _ _ _
    (cases_from_all _ _ _ (λ x. x < c.args.n) (λ x. c.args.n ≤ x) c.all.ensures.ran (YieldsList-from_slice c.args.list.now cc)
    (λ x q k. search (rules, tests)) (λ x q k. search (rules, tests)))
    c.if-all.true (c.is_sorted_by.ensures.cases ltb (answers_always _ _ _ (λ f a r g h. search rules)))

pub returns-else-all : goal.returns-else-all
returns-else-all c =
    all_first _ _ _
    (cases_from_all _ _ _ (λ x. x < c.args.n) (λ x. c.args.n ≤ x) c.all.ensures.ran (YieldsList-from_slice c.args.list.now cc)
    (λ x q k. search (rules, tests)) (λ x q k. search (rules, tests)))
    c.if-all.false
