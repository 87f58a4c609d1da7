-- `clash::SheetChoice::first_clash` meets its contract. Assumes nothing.
use Rattle.std.proofs.Common.{refl, ap, ◌∙◌, rules}
use Rattle.format.specs.Sheet.{points_of}
use Rattle.clash.specs.FirstClash.{first_of, clash_of, first_clash}
use Rattle.clash.specs.ChoiceFlags.{held}
use Rattle.clash.proofs.FirstOfRange.{first_from_find_map}
use Rattle.clash.proofs.SheetChoice.first_clash.Goals as goal

pub returns : goal.returns
unfolding first_clash first_of
returns c =
    first_from_find_map (clash_of (points_of c.args.self.now.sheet.now) (held c.args.self.now.inside)) _ c.find_map.ensures.runs
    (λ a r q k. search rules) (λ x r l k. search rules) refl
    ∙ ap (first_of _) c.point_count.ensures
