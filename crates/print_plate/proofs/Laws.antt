-- The text by the promises of the plate maker and of the lines. Assumes nothing.
use mathlib.Core.Path.{◌≡◌, sym, ap, ap₂, ◌∙◌}
use mathlib.Core.List.{List}
use Rattle.std.specs.Prelude.{None, Result, Ok, Err}
use Prim.Native.Nat.{ℕ, ◌+◌, ◌*◌, ◌≤◌}
use lib.ListN.{length, take}
use borrow.Author.Tests.{ne_eqb}
use native.Mathlib.Omega.{arith}
use Rattle.format.specs.declared.refusal.Refusal.{Refusal}
use Rattle.format.specs.Answers.{number}
use Rattle.format.proofs.Answers.{number-not-none}
use Rattle.format.specs.Sizes.{plate_room, workspace_cells}
use Rattle.format.specs.Sheet.{point_count}
use Rattle.format.specs.MakingQuestions.{making_no}
use Rattle.format.specs.Plate.{best_choice_of, best_plate}
use Rattle.plate_reader.proofs.DemandTwoReader.{parts}
use Rattle.plate_maker.specs.Making.{Making}
use Rattle.plate_maker.proofs.MakingLaws.{refused-no, made_none, made-accepted, made-start}
use Rattle.lines.specs.Listing.{listing_of}
use Rattle.lines.specs.DeskLines.{refusal_line}
use Rattle.lines.specs.Writing.{Prints}
use Rattle.lines.proofs.Writing.{prints-whole, prints-within}
use Rattle.print_plate.specs.PrintedText.{printed_text, text_room}

same-no : (s o w : List ℕ) →
    length o ≡ plate_room →
    length w ≡ workspace_cells →
    making_no s None plate_room workspace_cells ≡ making_no s None (length o) (length w)
same-no s o w out cells = ap₂ (making_no s None) (sym out) (sym cells)

module _ {s o w o' w' t t' : List ℕ} {answer : Result ℕ Refusal} {r : ℕ} (m : Making s None o w answer o' w')
    (out : length o ≡ plate_room) (cells : length w ≡ workspace_cells) (room : text_room ≤ length t) where
  pub made-text : {k : ℕ} → answer ≡ Ok k → Prints (24 + 16 * point_count (take k o')) (listing_of (take k o')) t r t'
      → (r ≤ length t') × (take r t' ≡ printed_text s)
  unfolding printed_text best_plate
  made-text {k} e x =
      let n : Making s None o w (Ok k) o' w' = rw e at m in
      let z : making_no s None plate_room workspace_cells ≡ 0 = same-no s o w out cells ∙ made_none n in
      let points : point_count (take k o') ≡ point_count s =
      ap point_count (made-start n) ∙ (parts s (best_choice_of s None) (made-accepted n)).points in
      let few : point_count s ≤ 32 = (made-accepted n).proper.few in
      (prints-within x, rw z (prints-whole (omega arith) x ∙ ap listing_of (made-start n)))

  pub refused-text : {refusal : Refusal} {k : ℕ} → answer ≡ Err refusal → k ≡ number refusal → Prints 14 (refusal_line k) t r t'
      → (r ≤ length t') × (take r t' ≡ printed_text s)
  unfolding printed_text
  refused-text {refusal} {k} e f x =
      let n : Making s None o w (Err refusal) o' w' = rw e at m in
      let z : making_no s None plate_room workspace_cells ≡ k = same-no s o w out cells ∙ sym (refused-no n) ∙ sym f in
      let some : k ≡ 0 → ⊥ = λ g. number-not-none refusal (sym f ∙ g) in
      (prints-within x, rw (z, ne_eqb k 0 some) (prints-whole (omega arith) x))
