-- The tests of Marks.antt and Conflicts.antt decide the facts beside them.
-- Assumes nothing.
use Rattle.std.specs.Prelude.{Bool, ℕ, ◌<◌}
use Rattle.labeling.specs.Points.{Points, Choice, Pixel, at_column, in_margin}
use Rattle.labeling.specs.Marks.{Label, Leader, Outer, Marks, LabelOnMap, label_b, leader_b, outer_b, marks_b, label_on_map_b}
use Rattle.labeling.specs.Conflicts.{Overlap, Hits, Conflict, Free, overlap_b, hits_b, conflict_b, every, apart_b, within_b, valid_b}
use Rattle.labeling.proofs.Decide.{Decides, dec-lt, dec-le, dec-eq, dec-none, dec-and, dec-and₃}
use Rattle.labeling.proofs.Decide.{dec-and₄, dec-or, dec-not, dec-cond, dec-map, dec-unless, dec_if}
pub use Rattle.labeling.proofs.Every.{every_of, every-is}

-- `every` decides that each number below n has the fact that is tested.
pub dec-every : (f : ℕ → Bool) (F : ℕ → Type 0) (n : ℕ) → ((i : ℕ) → Decides (f i) (F i))
    → Decides (every f n) ((i : ℕ) → i < n → F i)
dec-every f F n d = record { is = λ e i l. (d i).is (every-is f n e i l); of = λ k. every_of f n (λ i l. (d i).of (k i l)) }

-- THE TESTS OF Marks.antt AND Conflicts.antt

pub dec-label : (P : Points) (i : ℕ) (p : Pixel) → Decides (label_b P i p) (Label P i p)
dec-label P i (at_column x y) = dec-and₄ (dec-le _ _) (dec-lt _ _) (dec-le _ _) (dec-lt _ _)
dec-label P i (in_margin d y) = dec-none

pub dec-leader : (P : Points) (k i : ℕ) (p : Pixel) → Decides (leader_b P k i p) (Leader P k i p)
dec-leader P k i (at_column x y) = dec-and (dec-eq _ _) (dec-le _ _)
dec-leader P k i (in_margin d y) = dec-and (dec-eq _ _) (dec-lt _ _)

pub dec-outer : (P : Points) (k i : ℕ) (p : Pixel) → Decides (outer_b P k i p) (Outer P k i p)
dec-outer P k i (at_column x y) = dec-none
dec-outer P k i (in_margin d y) = dec-and₄ (dec-le _ _) (dec-lt _ _) (dec-le _ _) (dec-lt _ _)

pub dec-marks : (P : Points) (S : Choice) (i : ℕ) (p : Pixel) → Decides (marks_b P S i p) (Marks P S i p)
unfolding marks_b Marks
dec-marks P S i p = dec-cond (S i) (dec-label P i p) (dec-or (dec-leader P _ i p) (dec-outer P _ i p))

pub dec-overlap : (P : Points) (i j : ℕ) → Decides (overlap_b P i j) (Overlap P i j)
dec-overlap P i j = dec-and₄ (dec-lt _ _) (dec-lt _ _) (dec-lt _ _) (dec-lt _ _)

pub dec-hits : (P : Points) (i j : ℕ) → Decides (hits_b P i j) (Hits P i j)
dec-hits P i j = dec-and₃ (dec-le _ _) (dec-lt _ _) (dec-le _ _)

pub dec-conflict : (P : Points) (S : Choice) (i j : ℕ) → Decides (conflict_b P S i j) (Conflict P S i j)
unfolding conflict_b Conflict
dec-conflict P S i j =
    dec-cond (S i) (dec-cond (S j) (dec-overlap P i j) (dec-hits P i j)) (dec-cond (S j) (dec-hits P j i) (dec-eq _ _))

pub dec-label-on-map : (P : Points) (i : ℕ) → Decides (label_on_map_b P i) (LabelOnMap P i)
dec-label-on-map P i = dec-and (dec-le _ _) (dec-le _ _)

pub dec-free : (P : Points) (S : Choice) → Decides (valid_b P S) (Free P S)
unfolding valid_b apart_b within_b
dec-free P S =
    dec-map (λ x. record { apart = λ i j l m. x.0 i l j m; within = x.1 }) (λ f. (λ i l j m. f.apart i j l m, f.within))
    (dec-and (dec-every _ _ P.n (λ i. dec-every _ _ P.n (λ j. dec-unless (dec-eq i j) (dec-not (dec-conflict P S i j)))))
    (dec-every _ _ P.n (λ i. dec_if (S i) (dec-label-on-map P i))))
