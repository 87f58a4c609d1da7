-- What a desk holds of a loaded sheet, and what the plate maker's promise says of a plate: the figures of the padded bytes are the
-- sheet's, the ranks are those of the list that was lent, and the inside section of a made plate is the best choice's. Assumes nothing.
use Rattle.std.specs.Prelude.{◌≡◌, refl, ℕ, zero, suc, ◌+◌, ◌*◌, ◌-◌, ◌≤◌, ◌<◌, ltb, get_or, set, replicate, Option}
use Rattle.std.proofs.Common.{sym, ap, ◌∙◌, length-append, get_or-append-add, ltb-true, ltb-false, arith}
use Rattle.std.proofs.Math.Path.{ap₂}
use mathlib.Core.List.{List, [], ◌∷◌, ◌++◌, append_assoc, append-nil}
use Rattle.std.proofs.Math.ListN.{length, take, drop, get_or-append, get_or-eq_default}
use Rattle.std.proofs.lemmas.List.{length-replicate, get_or-replicate, set_at, get_or_at}
use Rattle.std.proofs.Math.Seq.{take_at, drop_at}
use Rattle.format.specs.Sizes.{sheet_room}
use Rattle.format.specs.Padded.{padded}
use Rattle.labeling.proofs.Decide.{decide, same}
use Rattle.labeling.specs.Points.{Choice, outside, placed}
use Rattle.format.specs.Sheet.{two_bytes, point_count, points_of, sheet_length}
use Rattle.format.specs.RankList.{rank_in}
use Rattle.format.specs.Accepted.{Accepted}
use Rattle.format.specs.Plate.{inside_below, inside_section, outside_section, pairs, plate_of}
use Rattle.plate_reader.specs.PlateQuestions.{inside_list}
use Rattle.plate_reader.specs.PlateSections.{Parts}
use Rattle.plate_reader.proofs.PlateSections.{read_back}
use Rattle.desk.specs.Desk.{ranks_below, ranks_held, rank_held}
use Rattle.desk.specs.Calls.{section_read}

-- THE PADDED BYTES

zeros : (n k : ℕ) → ◌≡◌ {A = ℕ} (get_or (replicate n 0) k 0) 0
zeros n k =
    decide (ltb k n)
    (λ e. get_or-replicate n k 0 0 (ltb-true k n e))
    (λ e. get_or-eq_default (replicate n 0) 0 (rw (length-replicate {A = ℕ} n 0) (ltb-false k n e)))

-- bytes past the end read 0, padded or not
byte-same : (s : List ℕ) (k : ℕ) → get_or (padded sheet_room s) k 0 ≡ get_or s k 0
unfolding padded
byte-same s k =
    decide (ltb k (length s))
    (λ e. get_or-append s _ 0 k (ltb-true k (length s) e))
    (λ e. let l : length s ≤ k = ltb-false k (length s) e in
    ap (λ j. get_or (s ++ replicate (sheet_room - length s) 0) j 0) (let q : k ≡ length s + (k - length s) = omega arith in q)
    ∙ get_or-append-add s (replicate (sheet_room - length s) 0) (k - length s) 0
    ∙ zeros (sheet_room - length s) (k - length s)
    ∙ sym (get_or-eq_default s 0 l))

two-same : (s : List ℕ) (k : ℕ) → two_bytes (padded sheet_room s) k ≡ two_bytes s k
unfolding two_bytes
two-same s k = ap₂ (λ a b. a + 256 * b) (byte-same s k) (byte-same s (k + 1))

-- so the figures are the sheet's
pub points-same : (s : List ℕ) → points_of (padded sheet_room s) ≡ points_of s
points-same s = λ i. record {
  n = byte-same s 9 i;
  map_width = two-same s 1 i;
  map_height = two-same s 3 i;
  w = two-same s 5 i;
  h = two-same s 7 i;
  column = λ k. two-same s (12 + 6 * k) i;
  row = λ k. two-same s (14 + 6 * k) i;
}

pub count_same : (s : List ℕ) → point_count (padded sheet_room s) ≡ point_count s
count_same s = byte-same s 9

-- THE RANKS

pub ranks-length : (rank : ℕ → ℕ) (m : ℕ) → length (ranks_below rank m) ≡ m
unfolding ranks_below
ranks-length rank zero = refl
ranks-length rank (suc m) = omega (arith, length-append (ranks_below rank m) (rank m ∷ []), ranks-length rank m)

ranks-at : (rank : ℕ → ℕ) (m p : ℕ) → p < m → get_or (ranks_below rank m) p 0 ≡ rank p
unfolding ranks_below
ranks-at rank zero p l = absurd (omega arith)
ranks-at rank (suc m) p l =
    same p m
    (λ e. rw e (get_or_at (ranks_below rank m) (rank m) [] 0 m (ranks-length rank m)))
    (λ ne. get_or-append (ranks_below rank m) (rank m ∷ []) 0 p (omega (arith, ranks-length rank m)) ∙ ranks-at rank m p (omega arith))

-- one more is written
pub ranks_more : (rank : ℕ → ℕ) (n m : ℕ) → m < n
    → set (padded n (ranks_below rank m)) m (rank m) ≡ padded n (ranks_below rank (suc m))
unfolding padded ranks_below
ranks_more rank n m l =
    let e : n - length (ranks_below rank m) ≡ suc (n - suc m) = omega (arith, ranks-length rank m) in
    let q : n - length (ranks_below rank m ++ rank m ∷ []) ≡ n - suc m =
    omega (arith, length-append (ranks_below rank m) (rank m ∷ []), ranks-length rank m) in
    rw (e, q) (set_at (ranks_below rank m) 0 (replicate (n - suc m) 0) (rank m) m (ranks-length rank m)
    ∙ sym (append_assoc (ranks_below rank m) (rank m ∷ []) (replicate (n - suc m) 0)))

-- the rank of each point is the list's
pub rank-held : (s : List ℕ) (r : Option (List ℕ)) (p : ℕ) → p < point_count s → rank_held (ranks_held s r) p ≡ rank_in r p
unfolding padded
rank-held s r p l =
    get_or-append (ranks_below (rank_in r) (point_count s)) _ 0 p (omega (arith, ranks-length (rank_in r) (point_count s)))
    ∙ ranks-at (rank_in r) (point_count s) p l

-- A PLATE AT THE START OF AN OUTPUT

module _ (s : List ℕ) (S : Choice) (a : Accepted s) (rest : List ℕ) where
  parts : Parts (plate_of s S ++ rest) s (inside_below S (point_count s)) (length (outside (points_of s) S))
      (pairs (placed (points_of s) (outside (points_of s) S)) ++ rest)
  unfolding plate_of inside_section outside_section
  parts = read_back _ _ _ _ _ a.long (append_assoc (s ++ inside_section s S) (outside_section s S) rest)

  -- the inside positions that are read are the choice's
  pub plate-inside : inside_list (plate_of s S ++ rest) ≡ inside_below S (point_count s)
  plate-inside = parts.inside

  -- the inside section that is read is the choice's
  section-start : section_read (plate_of s S ++ rest) ≡ inside_section s S
  unfolding section_read plate_of inside_section
  section-start =
      let I = length (inside_below S (point_count s)) ∷ inside_below S (point_count s) in
      let O = outside_section s S in
      let n : sheet_length (plate_of s S ++ rest) ≡ length s = (let c = parts.points in let l = a.long in omega arith) in
      let e : plate_of s S ++ rest ≡ s ++ (I ++ (O ++ rest)) = append_assoc (s ++ I) O rest ∙ append_assoc s I (O ++ rest) in
      ap₂ take (ap (λ k. 1 + k) parts.inside-count) (ap₂ drop n e ∙ drop_at s (I ++ (O ++ rest)) (length s) refl)
      ∙ take_at I (O ++ rest) (1 + length (inside_below S (point_count s))) (omega arith)

-- the inside section of a plate is the choice's
pub section-read : (s : List ℕ) (S : Choice) → Accepted s
    → section_read (plate_of s S) ≡ length (inside_below S (point_count s)) ∷ inside_below S (point_count s)
unfolding inside_section
section-read s S a = ap section_read (sym (append-nil (plate_of s S))) ∙ section-start s S a []
