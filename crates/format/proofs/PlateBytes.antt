-- "its position and its margin column, a byte each": a margin column is less than the number of points that are placed, and a plate's
-- numbers are bytes if the sheet's are. Assumes nothing.
use Rattle.std.specs.Prelude.{◌≡◌, true, false, cond, List, [], ◌∷◌, ◌++◌, ℕ, zero, suc, ◌+◌, ◌≤◌, ◌<◌, eqb, length}
use Rattle.std.proofs.Common.{arith}
use Rattle.labeling.specs.Points.{Points, Choice, before, insert, outside_below, outside}
use Rattle.labeling.specs.Points.{next_margin, placed_from, placed, margin_in, margin_column, among}
use Rattle.labeling.proofs.Decide.{decide}
use Rattle.labeling.proofs.Margin.{among_none, outside-lists, next-most}
use Rattle.labeling.proofs.Order.{outside-length}
use Rattle.format.specs.Sheet.{point_count, points_of}
use Rattle.format.specs.Plate.{inside_below, inside_section, pairs, outside_section, plate_of}
use Rattle.format.proofs.PlateLength.{inside-length}
use Rattle.format.specs.Accepted.{Accepted}
use Rattle.format.specs.PlateBytes.{Bytes}

-- MARGIN COLUMNS

from-most : (P : Points) (j k i : ℕ) (l : List ℕ) → margin_in i (placed_from P j k l) ≤ k + length l
unfolding placed_from margin_in
from-most P j k i [] = decide (eqb i j) (λ e. rw e (omega arith)) (λ e. rw e (omega arith))
from-most P j k i (m ∷ l) =
    decide (eqb i j)
    (λ e. rw e (omega arith))
    (λ e. rw e (omega (arith, from-most P m (next_margin P j k m) i l, next-most P j k m)))

placed_less : (P : Points) (i : ℕ) (l : List ℕ) → among i l ≡ true → margin_in i (placed P l) < length l
unfolding placed
placed_less P i [] e = absurd (among_none i e)
placed_less P i (j ∷ l) e = omega (arith, from-most P j 0 i l)

-- A MARGIN COLUMN IS LESS THAN THE NUMBER OF OUTSIDE POINTS, and so than n
pub margin-less : (P : Points) (S : Choice) (i : ℕ) → i < P.n → S i ≡ false → margin_column P S i < length (outside P S)
unfolding margin_column outside
margin-less P S i l e = placed_less P i (outside_below P S P.n) (outside-lists P S P.n i l e)

pub outside-most : (P : Points) (S : Choice) → length (outside P S) ≤ P.n
unfolding outside
outside-most P S = omega (arith, outside-length P S P.n)

pub margin-below : (P : Points) (S : Choice) (i : ℕ) → i < P.n → S i ≡ false → margin_column P S i < P.n
margin-below P S i l e = omega (arith, margin-less P S i l e, outside-most P S)

bytes-append : (k l : List ℕ) → Bytes k → Bytes l → Bytes (k ++ l)
bytes-append [] l a b = b
bytes-append (x ∷ k) l a b = (a.0, bytes-append k l a.1 b)

inside-bytes : (S : Choice) (m : ℕ) → m ≤ 256 → Bytes (inside_below S m)
unfolding inside_below
inside-bytes S zero u = tt
inside-bytes S (suc m) u =
    bytes-append (inside_below S m) (cond (S m) (m ∷ []) []) (inside-bytes S m (omega arith))
    (decide (S m) (λ e. rw e (omega arith, tt)) (λ e. rw e tt))

insert-bytes : (P : Points) (i : ℕ) (l : List ℕ) → i < 256 → Bytes l → Bytes (insert P i l)
unfolding insert
insert-bytes P i [] u b = (u, tt)
insert-bytes P i (j ∷ l) u b = decide (before P i j) (λ e. rw e (u, b)) (λ e. rw e (b.0, insert-bytes P i l u b.1))

outside-bytes : (P : Points) (S : Choice) (m : ℕ) → m ≤ 256 → Bytes (outside_below P S m)
unfolding outside_below
outside-bytes P S zero u = tt
outside-bytes P S (suc m) u =
    let ih = outside-bytes P S m (omega arith) in
    decide (S m) (λ e. rw e ih) (λ e. rw e (insert-bytes P m (outside_below P S m) (omega arith) ih))

from_bytes : (P : Points) (j k : ℕ) (l : List ℕ) → Bytes (j ∷ l) → k + length l < 256 → Bytes (pairs (placed_from P j k l))
unfolding placed_from pairs
from_bytes P j k [] b u = (b.0, (omega arith, tt))
from_bytes P j k (i ∷ l) b u =
    (b.0, (omega arith, from_bytes P i (next_margin P j k i) l b.1 (omega (arith, next-most P j k i))))

placed-bytes : (P : Points) (l : List ℕ) → Bytes l → length l < 256 → Bytes (pairs (placed P l))
unfolding placed pairs
placed-bytes P [] b u = tt
placed-bytes P (j ∷ l) b u = from_bytes P j 0 l b (omega arith)

-- A PLATE'S NUMBERS ARE BYTES
pub plate-bytes : (s : List ℕ) (S : Choice) → Accepted s → Bytes s → Bytes (plate_of s S)
unfolding plate_of inside_section outside_section outside
plate-bytes s S a b =
    let few : point_count s ≤ 32 = a.proper.few in
    let all = outside-length (points_of s) S (point_count s) in
    bytes-append (s ++ inside_section s S) (outside_section s S)
    (bytes-append s (inside_section s S) b
    (omega (arith, inside-length S (point_count s), all), inside-bytes S (point_count s) (omega arith))) (
      omega (arith, all),
      placed-bytes (points_of s) (outside_below (points_of s) S (point_count s))
          (outside-bytes (points_of s) S (point_count s) (omega arith)) (omega (arith, all)),
    )
