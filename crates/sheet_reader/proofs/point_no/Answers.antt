-- The call number is allowed, so the points before are there, whole. Assumes nothing.
use Rattle.std.proofs.Common.{◌+◌, ◌*◌, ◌≤◌, sym, ap, ◌∙◌, length}
use Rattle.format.specs.Sheet.{up_to}
use Rattle.sheet_reader.specs.declared.reader.SheetPoint.{SheetPoint}
use Rattle.sheet_reader.proofs.Laws.{whole_before}
use Rattle.sheet_reader.proofs.point_no.Goals as goal
use Rattle.sheet_reader.proofs.point_no.Goals.{Else-not-up_to}

there : (c : Else-not-up_to) → 10 + 6 * c.args.position ≤ length c.args.sheet.now
there c =
    whole_before c.args.sheet.now c.args.position
    (sym (c.up_to.ensures ∙ ap (λ (t : SheetPoint). up_to 9999 t.call_number) c.requires) ∙ c.if-not-up_to.false)

pub own_call_number-requires : goal.own_call_number-requires
own_call_number-requires c = there (goal.at.own_call_number-requires c).Else-not-up_to

pub own_pixel-requires : goal.own_pixel-requires
own_pixel-requires c = there (goal.at.own_pixel-requires c).Else-not-up_to
