-- `clash::SheetChoice::later_clash` meets its contract. Assumes nothing.
use Rattle.std.proofs.Common.{ap, ◌∙◌, arith, rules}
use Rattle.format.specs.Sheet.{points_of}
use Rattle.clash.specs.FirstClash.{first_of, ordered_clash, later_clash}
use Rattle.clash.specs.ChoiceFlags.{held}
use Rattle.clash.proofs.Laws.{ordered-above, ordered-below}
use Rattle.clash.proofs.FirstOfRange.{first_from_find_map}
use Rattle.clash.proofs.SheetChoice.later_clash.Goals as goal

pub returns : goal.returns
unfolding later_clash
returns c =
    first_from_find_map (ordered_clash (points_of c.args.self.now.sheet.now) (held c.args.self.now.inside) c.args.first) _ c.find_map.ensures.runs
    (λ a r q k. search rules)
    (λ x r l k. let e = ordered-above (points_of c.args.self.now.sheet.now) (held c.args.self.now.inside) c.args.first x (omega arith) in rw e (search rules))
    (ordered-below _ _ _)
    ∙ ap (first_of _) c.point_count-n.ensures
