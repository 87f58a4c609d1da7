-- The questions 11 to 20 are all answered yes exactly if the sheet keeps the documents' rules, question by question. Assumes nothing.
use Rattle.std.specs.Prelude.{◌≡◌, refl, Bool, true, not, List, ℕ, zero, suc, ◌+◌, ◌*◌, ◌≤◌, ◌<◌, ltb, eqb, length}
use Rattle.std.proofs.Common.{sym, arith}
use borrow.Author.Tests.{eqb-true, eqb-false, eq-eqb}
use Rattle.labeling.proofs.Decide.{decide, same, Decides, dec-lt, dec-le, dec-eq, dec-and, dec-not}
use Rattle.labeling.proofs.Tests.{dec-every}
use Rattle.format.specs.Sheet.{frame_count, map_width, map_height, label_width, label_height, point_count, call_number, column}
use Rattle.format.specs.Sheet.{row, ask, up_to, same_call, same_pixel, unlike_earlier, point_no, points_no, questions_no}
use Rattle.format.specs.Sheet.{sheet_no, plate_sheet_no}
use Rattle.format.specs.Accepted.{UpTo, Proper, Accepted, NoneOf, SameCall, SamePixel, Unlike}

-- A question and those after it are all answered yes.
pub none-ask : {b : Bool} {after : ℕ} {A B : Type 0} (k : ℕ) → 1 ≤ k → Decides b A → NoneOf after B → NoneOf (ask b k after) (A × B)
none-ask {b} k pos d e = record {
  is = λ z. decide b (λ t. (d.is t, e.is (rw t at z))) (λ t. let q : k ≡ 0 = rw t at z in absurd (omega arith));
  of = λ y. let t : b ≡ true = d.of y.0 in rw t (e.of y.1);
}

pub none_left : NoneOf 0 (Unit {0})
none_left = record { is = λ e. tt; of = λ t. refl }

pub dec-up_to : (most x : ℕ) → Decides (up_to most x) (UpTo most x)
dec-up_to most x = dec-and (dec-le _ _) (dec-le _ _)

pub dec-unlike : (like : ℕ → ℕ → Bool) (Like : ℕ → ℕ → Type 0) (i : ℕ)
    → ((j : ℕ) → Decides (like j i) (Like j i)) → Decides (unlike_earlier like i) (Unlike Like i)
unfolding unlike_earlier
dec-unlike like Like i d = dec-every (λ j. not (like j i)) (λ j. Like j i → ⊥) i (λ j. dec-not (d j))

-- no two positions below m are alike, if each is unlike the earlier ones
all-unlike : (Like : ℕ → ℕ → Type 0) (m : ℕ) → ((i j : ℕ) → Like i j → Like j i)
    → ((i : ℕ) → i < m → Unlike Like i) → (i j : ℕ) → i < m → j < m → Like i j → i ≡ j
all-unlike Like m back u i j l k e =
    decide (ltb i j)
    (λ t. absurd (u j k i ((dec-lt i j).is t) e))
    (λ t. same i j (λ q. q) (λ ne. let n : j ≤ i = borrow.Author.Tests.ltb-false i j t in absurd (u i l j (omega arith) (back i j e))))

unlike-all : (Like : ℕ → ℕ → Type 0) (m : ℕ) → ((i j : ℕ) → i < m → j < m → Like i j → i ≡ j) → (i : ℕ) → i < m → Unlike Like i
unlike-all Like m d i l j k e = let q : j ≡ i = d j i (omega arith) l e in omega arith

-- The rules of one point.
PointProper : List ℕ → ℕ → Type 0
PointProper s i =
    UpTo 9999 (call_number s i)
    × (((column s i < map_width s) × (row s i < map_height s)) × (Unlike (SameCall s) i × (Unlike (SamePixel s) i × Unit {0})))

none-point : (s : List ℕ) (i : ℕ) → NoneOf (point_no s i) (PointProper s i)
unfolding point_no PointProper
none-point s i =
    none-ask 17 (omega arith) (dec-up_to _ _)
    (none-ask 18 (omega arith) (dec-and (dec-lt _ _) (dec-lt _ _))
    (none-ask 19 (omega arith) (dec-unlike (same_call s) (SameCall s) i (λ j. dec-eq _ _))
    (none-ask 20 (omega arith) (dec-unlike (same_pixel s) (SamePixel s) i (λ j. dec-and (dec-eq _ _) (dec-eq _ _))) none_left)))

-- the first no of the positions below m is 0 exactly if each has none
none-points : (s : List ℕ) (m : ℕ) → NoneOf (points_no s m) ((i : ℕ) → i < m → PointProper s i)
unfolding points_no
none-points s zero = record { is = λ e i l. absurd (omega arith); of = λ f. refl }
none-points s (suc m) = record {
  is = λ e. decide (eqb (points_no s m) 0)
      (λ t i l. same i m
      (λ q. rw q ((none-point s m).is (rw t at e)))
      (λ ne. (none-points s m).is (eqb-true _ _ t) i (omega arith)))
      (λ t. let z : points_no s m ≡ 0 = rw t at e in absurd (eqb-false _ _ t z));
  of = λ f.
      let z : points_no s m ≡ 0 = (none-points s m).of (λ i l. f i (omega arith)) in
      rw (eq-eqb (points_no s m) 0 z) ((none-point s m).of (f m (omega arith)));
}

-- What all the questions ask, where `Fits` is what 16 asks.
Asked : List ℕ → Type 0 → Type 0
Asked s Fits =
    (10 ≤ length s)
    × ((frame_count s ≡ 1)
    × ((UpTo 4096 (map_width s) × UpTo 4096 (map_height s))
    × ((UpTo 256 (label_width s) × UpTo 256 (label_height s))
    × ((point_count s ≤ 32) × (Fits × ((i : ℕ) → i < point_count s → PointProper s i))))))

none-questions : (s : List ℕ) {fits : Bool} {Fits : Type 0} → Decides fits Fits → NoneOf (questions_no s fits) (Asked s Fits)
unfolding questions_no Asked
none-questions s d =
    none-ask 11 (omega arith) (dec-le _ _)
    (none-ask 12 (omega arith) (dec-eq _ _)
    (none-ask 13 (omega arith) (dec-and (dec-up_to _ _) (dec-up_to _ _))
    (none-ask 14 (omega arith) (dec-and (dec-up_to _ _) (dec-up_to _ _))
    (none-ask 15 (omega arith) (dec-le _ _)
    (none-ask 16 (omega arith) d (none-points s (point_count s)))))))

asked-proper : (s : List ℕ) (Fits : Type 0) → Asked s Fits → Proper s
unfolding Asked PointProper
asked-proper s Fits q =
    let points = q.1.1.1.1.1.1 in
    record {
      frame = q.1.0;
      map-width = q.1.1.0.0;
      map-height = q.1.1.0.1;
      label-width = q.1.1.1.0.0;
      label-height = q.1.1.1.0.1;
      few = q.1.1.1.1.0;
      call-number = λ i l. (points i l).0;
      on-map = λ i l. (points i l).1.0;
      calls = all-unlike (SameCall s) (point_count s) (λ i j. sym) (λ i l. (points i l).1.1.0);
      pixels = record {
        apart = λ i j l m r c.
            all-unlike (SamePixel s) (point_count s) (λ i j e. (sym e.0, sym e.1)) (λ i l. (points i l).1.1.1.0) i j l m (r, c);
      };
    }

asked-fits : (s : List ℕ) (Fits : Type 0) → Asked s Fits → Fits
unfolding Asked
asked-fits s Fits q = q.1.1.1.1.1.0

proper-asked : (s : List ℕ) (Fits : Type 0) → Proper s → 10 ≤ length s → Fits → Asked s Fits
unfolding Asked PointProper
proper-asked s Fits p long f = (
  long,
  (
    p.frame,
    (
      (p.map-width, p.map-height),
      (
        (p.label-width, p.label-height),
        (
          p.few,
          (
            f,
            λ i l. (
              p.call-number i l,
              (
                p.on-map i l,
                (
                  unlike-all (SameCall s) (point_count s) p.calls i l,
                  (unlike-all (SamePixel s) (point_count s) (λ i j l m e. p.pixels.apart i j l m e.0 e.1) i l, tt),
                ),
              ),
            ),
          ),
        ),
      ),
    ),
  ),
)

-- THE THEOREM: a sheet has no no exactly if it is accepted in the sense of the documents' rules.
pub none-sheet : (s : List ℕ) → NoneOf (sheet_no s) (Accepted s)
unfolding sheet_no
none-sheet s = record {
  is = λ e.
      let q : Asked s (length s ≡ 10 + 6 * point_count s) = (none-questions s (dec-eq (length s) (10 + 6 * point_count s))).is e in
      record { proper = asked-proper s _ q; long = asked-fits s _ q };
  of = λ a.
      let l : length s ≡ 10 + 6 * point_count s = a.long in
      (none-questions s (dec-eq (length s) (10 + 6 * point_count s))).of (proper-asked s _ a.proper (omega arith) l);
}

-- The same for the start of a plate.
pub none-plate-sheet : (p : List ℕ) → NoneOf (plate_sheet_no p) (Proper p × (10 + 6 * point_count p ≤ length p))
unfolding plate_sheet_no
none-plate-sheet p = record {
  is = λ e.
      let q : Asked p (10 + 6 * point_count p ≤ length p) = (none-questions p (dec-le (10 + 6 * point_count p) (length p))).is e in
      (asked-proper p _ q, asked-fits p _ q);
  of = λ a.
      let l : 10 + 6 * point_count p ≤ length p = a.1 in
      (none-questions p (dec-le (10 + 6 * point_count p) (length p))).of (proper-asked p _ a.0 (omega arith) l);
}
