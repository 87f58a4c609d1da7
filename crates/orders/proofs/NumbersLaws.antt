-- The theorems on the definitions of specs/Numbers.antt. Assumes nothing.
use Rattle.std.specs.Prelude.{◌≡◌, refl, List, ℕ, ◌+◌, ◌≤◌, ◌<◌, length, get_or, set}
use Rattle.std.proofs.Common.{◌∙◌, ap, arith, length-set, get_or-set_same, get_or-set_other}
use Rattle.std.proofs.lemmas.List.{get_or-replicate}
use Rattle.format.specs.Sheet.{point_count, label_width, label_height}
use Rattle.orders.specs.Layout.{sum_cells, triangular_field, tetrahedral_field, count_cell, width_cell, height_cell, array_cells}
use Rattle.orders.specs.Sums.{tri, tet}
use Rattle.orders.specs.Cells.{BothWritten}
use Rattle.orders.specs.Numbers.{blank_of, Numbers, counted}

pub blank-long : length blank_of ≡ array_cells
unfolding blank_of
blank-long = refl

blank-cell : (c : ℕ) → c < array_cells → get_or blank_of c 0 ≡ 0
unfolding blank_of
blank-cell c l = get_or-replicate {A = ℕ} array_cells c 0 0 l

module _ (sheet s : List ℕ) (l : length s ≡ array_cells) where
  pub counted-long : length (counted sheet s) ≡ array_cells
  counted-long = simp length-set l

  abbrev with_n : List ℕ
  with_n = set s count_cell (point_count sheet)

  abbrev with_w : List ℕ
  with_w = set with_n width_cell (label_width sheet)

  counted-n : get_or (counted sheet s) count_cell 0 ≡ point_count sheet
  counted-n =
      get_or-set_other with_w height_cell count_cell (label_height sheet) 0 (λ e. omega arith)
      ∙ (get_or-set_other with_n width_cell count_cell (label_width sheet) 0 (λ e. omega arith)
      ∙ get_or-set_same s count_cell (point_count sheet) 0 (omega arith))

  counted-w : get_or (counted sheet s) width_cell 0 ≡ label_width sheet
  counted-w =
      get_or-set_other with_w height_cell width_cell (label_height sheet) 0 (λ e. omega arith)
      ∙ get_or-set_same with_n width_cell (label_width sheet) 0 (simp length-set (omega arith))

  counted-h : get_or (counted sheet s) height_cell 0 ≡ label_height sheet
  counted-h = get_or-set_same with_w height_cell (label_height sheet) 0 (simp length-set (omega arith))

  counted-other : (c : ℕ) → c < count_cell → get_or (counted sheet s) c 0 ≡ get_or s c 0
  counted-other c b =
      get_or-set_other with_w height_cell c (label_height sheet) 0 (λ e. omega arith)
      ∙ (get_or-set_other with_n width_cell c (label_width sheet) 0 (λ e. omega arith)
      ∙ get_or-set_other s count_cell c (point_count sheet) 0 (λ e. omega arith))

-- The numbers written one after the other: those of the sheet, and the two tables.
module _ (sheet s₁ s₂ : List ℕ) (w₁ : s₁ ≡ counted sheet blank_of)
    (w₂ : BothWritten (λ k. triangular_field + k) tri (λ k. tetrahedral_field + k) tet sum_cells s₁ s₂) where
  first-long : length s₁ ≡ array_cells
  first-long = rw w₁ (counted-long sheet blank_of blank-long)

  -- A cell beside the tables.
  kept : (c : ℕ) → (triangular_field ≤ c → c < tetrahedral_field + sum_cells → ⊥) → get_or s₂ c 0 ≡ get_or (counted sheet blank_of) c 0
  kept c t =
      w₂.other c (λ i l e. t (omega arith) (omega arith)) (λ i l e. t (omega arith) (omega arith)) ∙ ap (λ x. get_or x c 0) w₁

  pub numbers-made : Numbers sheet s₂
  numbers-made = record {
    long = w₂.long ∙ first-long;
    n-is = kept count_cell (λ x y. omega arith) ∙ counted-n sheet blank_of blank-long;
    w-is = kept width_cell (λ x y. omega arith) ∙ counted-w sheet blank_of blank-long;
    h-is = kept height_cell (λ x y. omega arith) ∙ counted-h sheet blank_of blank-long;
    tri-is = w₂.first;
    tet-is = w₂.second;
    other = λ c l n. kept c n ∙ (counted-other sheet blank_of blank-long c l ∙ blank-cell c (omega arith));
  }
