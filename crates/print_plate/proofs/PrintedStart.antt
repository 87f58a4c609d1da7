-- The first 203 bytes of an input decide what is printed, one more than the largest sheet has: so print_plate needn't read all of an input.
-- Assumes nothing.
use Rattle.std.specs.Prelude.{◌≡◌, refl, List, ℕ, ◌+◌, ◌*◌, ◌≤◌, ◌<◌, leb, length, take, None}
use Rattle.std.proofs.Common.{sym, ap, ◌∙◌, take_all, arith}
use borrow.Author.Tests.{leb-true, leb-false, ne_eqb}
use Rattle.labeling.proofs.Decide.{decide}
use Rattle.format.specs.Sizes.{sheet_room, plate_room, workspace_cells}
use Rattle.format.specs.Sheet.{point_count, sheet_no}
use Rattle.format.proofs.Accepted.{accepted}
use Rattle.format.proofs.Asking.{then-first}
use Rattle.format.specs.MakingQuestions.{room_no, asked_no, output_fits, choice_no, choosing_no, making_no}
use Rattle.format.proofs.Start.{start-decides}
use Rattle.print_plate.specs.PrintedText.{printed_text}

-- a sheet that is refused is refused in making
refused-making : (s : List ℕ) → (sheet_no s ≡ 0 → ⊥) → making_no s None plate_room workspace_cells ≡ sheet_no s
unfolding making_no choosing_no asked_no room_no
refused-making s refused =
    let e : sheet_no s ≡ room_no s (output_fits s plate_room) workspace_cells = then-first (sheet_no s) _ (sheet_no s) refused refl in
    let f : sheet_no s ≡ asked_no s None (output_fits s plate_room) workspace_cells =
    then-first (room_no s (output_fits s plate_room) workspace_cells) _ (sheet_no s) (λ z. refused (e ∙ z)) e in
    sym (then-first (asked_no s None (output_fits s plate_room) workspace_cells) (choice_no s) (sheet_no s) (λ z. refused (f ∙ z)) f)

module _ (k : ℕ) (s : List ℕ) (enough : sheet_room < k) where
  -- an input of more than k bytes is no sheet
  too_long : k < length s → sheet_no s ≡ 0 → ⊥
  too_long more z =
      let a = accepted s z in
      let l : length s ≡ 10 + 6 * point_count s = a.long in
      let few : point_count s ≤ 32 = a.proper.few in
      omega arith

  -- so the text is that of a refusal, with the number of the first bytes
  cut : k < length s → printed_text (take k s) ≡ printed_text s
  unfolding printed_text
  cut more =
      let refused : sheet_no s ≡ 0 → ⊥ = too_long more in
      let same : sheet_no (take k s) ≡ sheet_no s = start-decides k s (omega arith) in
      let a : making_no (take k s) None plate_room workspace_cells ≡ sheet_no s =
      refused-making (take k s) (λ z. refused (sym same ∙ z)) ∙ same in
      rw (a, refused-making s refused, ne_eqb (sheet_no s) 0 refused)

  -- THE FIRST BYTES' TEXT is the input's.
  pub start-printed : printed_text (take k s) ≡ printed_text s
  start-printed =
      decide (leb (length s) k)
      (λ e. ap printed_text (take_all k s (leb-true _ _ e)))
      (λ e. cut (leb-false _ _ e))
