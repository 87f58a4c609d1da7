-- The theorems on the definitions of specs/Entries.antt. Assumes nothing.
use Rattle.std.specs.Prelude.{◌≡◌, ℕ, ◌+◌, ◌*◌, ◌<◌, ◌≤◌, ◌≢◌, List, length, slice_index, slice_index_or, slice_set}
use Rattle.std.proofs.Common.{◌∙◌, arith}
use Rattle.std.proofs.Math.ListN.{length-set}
use Rattle.std.proofs.Math.Seq.{get_or-set_same, get_or-set_other}
use Rattle.orders.specs.Words.{value_at, with_value}
use Rattle.orders.proofs.Words.{length-with, value-with, value-other, with-other}
use Rattle.optimum.specs.Places.{entries, notes, table_cells}
use Rattle.optimum.specs.Entries.{note_at, with_entry}

module _ (t : List ℕ) (i x k : ℕ) (small : i < entries) where
  pub length-entry : length (with_entry t i x k) ≡ length t
  unfolding with_entry
  length-entry = length-set (with_value t i x) (notes + i) (k + 1) ∙ length-with t i x

  -- What was stored is read back,
  pub entry-note : table_cells ≤ length t → note_at (with_entry t i x k) i ≡ k + 1
  unfolding note_at with_entry
  entry-note h = get_or-set_same (with_value t i x) (notes + i) (k + 1) 0 (omega (arith, length-with t i x))

  -- and no other place changes: a note changes no number, and a number no note.
  pub entry-note-other : (j : ℕ) → (j ≢ i) → note_at (with_entry t i x k) j ≡ note_at t j
  unfolding note_at with_entry
  entry-note-other j h =
      get_or-set_other (with_value t i x) (notes + i) (notes + j) (k + 1) 0 (λ e. h (omega arith))
      ∙ with-other t i x (notes + j) (λ p q. omega arith)

  value-kept : (j : ℕ) → j < entries → value_at (with_entry t i x k) j ≡ value_at (with_value t i x) j
  unfolding value_at with_entry
  value-kept j l =
      let at : (c : ℕ) → c < notes → slice_index (slice_set (with_value t i x) (notes + i) (k + 1)) c ≡ slice_index_or (with_value t i x) c 0 =
      λ c m. get_or-set_other (with_value t i x) (notes + i) c (k + 1) 0 (λ e. omega arith) in
      omega (arith, at (j * 4) (omega arith), at (j * 4 + 1) (omega arith), at (j * 4 + 2) (omega arith), at (j * 4 + 3) (omega arith))

  pub entry_value : table_cells ≤ length t → value_at (with_entry t i x k) i ≡ x
  entry_value h = value-kept i small ∙ value-with t i x (omega arith)

  pub entry-value-other : (j : ℕ) → j < entries → (j ≢ i) → value_at (with_entry t i x k) j ≡ value_at t j
  entry-value-other j l h = value-kept j l ∙ value-other t i j x h
