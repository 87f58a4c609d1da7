-- Facts about the tests of a sheet, for the proofs of this crate. Assumes nothing.
use Rattle.std.specs.Prelude.{◌≡◌, Bool, true, List, ℕ, zero, suc, ◌+◌, ◌<◌, length, get_or, drop, [], ◌*◌, ◌≤◌, Result}
use Rattle.std.proofs.Common.{get_or-take, ap, ◌∙◌, eq-eqb, ne_eqb, leb-true, add-one, sym, refl, arith}
use Rattle.std.proofs.Math.ListN.{get_or-eq_default}
use Rattle.std.proofs.lemmas.List.{get_or-drop}
use Rattle.std.specs.List.{list_all}
use Rattle.std.specs.Simd.{first_chunks}
use Rattle.std.proofs.lemmas.List.Recursion.{and_at, and_from_places}
use Rattle.labeling.specs.Conflicts.{every}
use Rattle.labeling.proofs.Decide.{dec-true, dec-unique, same, less, and_left}
use Rattle.labeling.proofs.Tests.{dec-every}
use Rattle.format.specs.declared.refusal.Refusal.{Refusal}
use Rattle.format.specs.Answers.{no_of, outcome, outcome_of}
use Rattle.format.proofs.Answers.{outcome-no}
use Rattle.format.specs.Sheet.{two_bytes, call_number, up_to, point_no, points_no}

-- THE EARLIER POINTS

-- the bytes of a chunk of six
pub chunk-byte : (n : ℕ) (xs : List ℕ) (j k : ℕ) → j < n → k < 6
    → get_or (get_or (first_chunks 6 n xs) j []) k 0 ≡ get_or xs (6 * j + k) 0
chunk-byte zero xs j k l m = absurd (omega arith)
chunk-byte (suc n) xs zero k l m = get_or-take 6 xs k 0 m ∙ ap (λ i. get_or xs i 0) (omega arith)
chunk-byte (suc n) xs (suc j) k l m =
    chunk-byte n (drop 6 xs) j k (omega arith) m
    ∙ get_or-drop 6 xs (6 * j + k) 0
    ∙ ap (λ i. get_or xs i 0) (omega arith)

-- the number of two bytes of the point at position j
pub two-there : (s : List ℕ) (j k m low high : ℕ) → low ≡ get_or s (10 + 6 * j + k) 0 → high ≡ get_or s (10 + 6 * j + (k + 1)) 0
    → m ≡ 10 + 6 * j + k → low + 256 * high ≡ two_bytes s m
unfolding two_bytes
two-there s j k m low high a b e =
    rw (a, b, e) (ap (λ i. get_or s (10 + 6 * j + k) 0 + 256 * get_or s i 0) (omega arith))

-- a test that all points pass, by the test of each position
pub all-every : (p : List ℕ → Bool) (q : ℕ → Bool) (points : List (List ℕ)) (n : ℕ) → length points ≡ n
    → ((j : ℕ) → j < n → p (get_or points j []) ≡ q j) → list_all p points ≡ every q n
all-every p q points n long same =
    dec-unique
    (record {
      is = λ e i k. sym (same i k) ∙ and_at (list_all p) p refl (λ x y. refl) points i [] (omega arith) e;
      of = λ f. and_from_places (list_all p) p refl (λ x y. refl) points [] (λ i k. same i (omega arith) ∙ f i (omega arith));
    })
    (dec-every q (λ i. q i ≡ true) n (λ i. dec-true (q i)))

-- POINT BY POINT

-- a call number that is allowed isn't 0, so its place is in the sheet: the points before it are there, whole
pub whole_before : (s : List ℕ) (i : ℕ) → up_to 9999 (call_number s i) ≡ true → 10 + 6 * i ≤ length s
unfolding two_bytes
whole_before s i e =
    less (length s) (10 + 6 * i)
    (λ l. let some : 1 ≤ call_number s i = leb-true _ _ (and_left _ _ e) in
    let low : get_or s (10 + 6 * i) 0 ≡ 0 = get_or-eq_default s 0 (omega (arith, l)) in
    let high : get_or s (10 + 6 * i + 1) 0 ≡ 0 = get_or-eq_default s 0 (omega (arith, l)) in
    absurd (omega (arith, some, low, high)))
    (λ l. l)

-- one more point without a no
pub points-more : (s : List ℕ) (m : ℕ) → points_no s m ≡ 0 → point_no s m ≡ 0 → points_no s (m + 1) ≡ 0
unfolding points_no
points-more s m e q = rw (add-one, eq-eqb (points_no s m) 0 e) q

-- the first point with a no decides
pub points-first : (s : List ℕ) (m k : ℕ) → points_no s m ≡ 0 → (point_no s m ≡ 0 → ⊥) → m < k → point_no s m ≡ points_no s k
unfolding points_no
points-first s m zero e ne l = absurd (omega arith)
points-first s m (suc k) e ne l =
    same m k
    (λ q. rw (← q, eq-eqb (points_no s m) 0 e))
    (λ no.
    let ih : point_no s m ≡ points_no s k = points-first s m k e ne (omega arith) in
    rw (ne_eqb (points_no s k) 0 (λ z. ne (ih ∙ z))) ih)

-- THE ANSWER whose number is k

pub outcome_by_no : (r : Result (Unit {0}) Refusal) (k : ℕ) → no_of r ≡ k → outcome r ≡ outcome_of k
outcome_by_no r k e = outcome-no r ∙ ap outcome_of e
