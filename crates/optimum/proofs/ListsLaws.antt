-- The two lists of a choice, position by position. Assumes nothing.
use Rattle.std.specs.Prelude.{◌≡◌, ℕ, zero, suc, ◌+◌, ◌-◌, ◌<◌, ◌≤◌, true, false, List, [], ◌∷◌, ◌++◌, length, replicate, slice_set, refl}
use Rattle.std.proofs.lemmas.List.{set_at}
use Rattle.std.proofs.Common.{sym, ◌∙◌, ap, append_assoc, append-nil, add-one, arith, length-append}
use Rattle.labeling.specs.Points.{Choice}
use Rattle.labeling.proofs.Decide.{decide}
use Rattle.format.specs.Plate.{inside_below}
use Rattle.format.specs.Padded.{padded}
use Rattle.format.proofs.Padded.{drop-zeros}
use Rattle.format.specs.Written.{written}
use Rattle.format.proofs.Written.{written-more, written-first}
use Rattle.optimum.specs.Choosing.{listed}
use Rattle.optimum.specs.Split.{outside_down, Listed}
use Rattle.optimum.specs.declared.lists.Positions.{Positions}

-- INSIDE

pub inside-few : (S : Choice) (m : ℕ) → length (inside_below S m) ≤ m
unfolding inside_below
inside-few S zero = omega arith
inside-few S (suc m) =
    let ih : length (inside_below S m) ≤ m = inside-few S m in
    decide (S m)
    (λ e. rw e (omega (arith, length-append (inside_below S m) (m ∷ []))))
    (λ e. rw e (omega (arith, length-append (inside_below S m) [])))

-- position m is inside, and is listed after those below it
pub inside-taken : (S : Choice) (m : ℕ) → S m ≡ true → inside_below S (m + 1) ≡ inside_below S m ++ m ∷ []
unfolding inside_below
inside-taken S m e = rw (add-one m, e)

pub inside-passed : (S : Choice) (m : ℕ) → S m ≡ false → inside_below S (m + 1) ≡ inside_below S m
unfolding inside_below
inside-passed S m e = rw (add-one m, e, append-nil)

-- position m is inside, and is written after those below it
pub inside-more : (S : Choice) (d : List ℕ) (m count : ℕ) (list : List ℕ)
    → count < length d → S m ≡ true → count ≡ length (inside_below S m) → list ≡ written d 0 (inside_below S m)
    → (count + 1 ≡ length (inside_below S (m + 1))) × (slice_set list count m ≡ written d 0 (inside_below S (m + 1)))
unfolding inside_below
inside-more S d m count list h e q f =
    let l = inside_below S m in
    let z : count ≡ 0 + length l = omega arith in
    rw (add-one m, e) (omega (arith, length-append l (m ∷ [])), rw (f, z) (written-more d 0 l m (omega arith)))

pub inside-same : (S : Choice) (d : List ℕ) (m count : ℕ) (list : List ℕ)
    → S m ≡ false → count ≡ length (inside_below S m) → list ≡ written d 0 (inside_below S m)
    → (count ≡ length (inside_below S (m + 1))) × (list ≡ written d 0 (inside_below S (m + 1)))
unfolding inside_below
inside-same S d m count list e q f = rw (add-one m, e, append-nil) (q, f)

-- OUTSIDE

pub down-few : (S : Choice) (position : ℕ → ℕ) (m : ℕ) → length (outside_down S position m) ≤ m
unfolding outside_down
down-few S position zero = omega arith
down-few S position (suc m) =
    let ih : length (outside_down S position m) ≤ m = down-few S position m in
    decide (S (position (suc m))) (λ e. rw e (omega arith)) (λ e. rw e (omega arith))

pub listed-none : (l : List ℕ) (r : Positions) → r ≡ listed [] → Listed l l r
listed-none l r e = record { done = []; is = e; rest = refl }

pub listed_more : (whole : List ℕ) (p : ℕ) (left : List ℕ) (r r' : Positions) → Listed whole (p ∷ left) r
    → ((l : List ℕ) → r ≡ listed l → r' ≡ listed (l ++ p ∷ [])) → Listed whole left r'
listed_more whole p left r r' f g = record { done = f.done ++ p ∷ []; is = g f.done f.is; rest = simp append_assoc f.rest }

pub listed-whole : (whole : List ℕ) (r : Positions) → Listed whole [] r → r ≡ listed whole
listed-whole whole r f = let e : f.done ≡ whole = sym (append-nil f.done) ∙ f.rest in f.is ∙ ap listed e

-- ONE MORE IN 32 CELLS

pub pushed : (l : List ℕ) (p : ℕ) → length l < 32 → slice_set (padded 32 l) (length l) p ≡ padded 32 (l ++ p ∷ [])
unfolding padded
pushed l p h =
    let k : 32 - length l ≡ suc (31 - length l) = omega arith in
    let m : 32 - length (l ++ p ∷ []) ≡ 31 - length l = omega (arith, length-append l (p ∷ [])) in
    rw (k, m, set_at l 0 (replicate (31 - length l) 0) p (length l) refl, append_assoc)

-- A LIST WRITTEN INTO ZEROS

pub written-padded : (l : List ℕ) → written (replicate 32 0) 0 l ≡ padded 32 l
unfolding padded
written-padded l = written-first (replicate 32 0) l ∙ ap (λ x. l ++ x) (drop-zeros 32 (length l))
