-- Weights that break every tie of up to 32 points: with them the best choice is the preferred one. A method of finding it, which no
-- statement about best choices needs. Assumes nothing.
use Rattle.std.specs.Prelude.{◌≡◌, refl, true, false, ℕ, zero, suc, ◌+◌, ◌*◌, ◌-◌, ◌/◌, ◌^◌, ◌≤◌, ◌<◌, ltb, eqb}
use Rattle.std.proofs.Common.{ltb-true, ltb-false, eqb-true, arith}
use Rattle.labeling.specs.Points.{Points, Choice}
use Rattle.labeling.specs.Conflicts.{every}
use Rattle.labeling.proofs.Decide.{decide, same}
use Rattle.labeling.proofs.Tests.{every-is}
use Rattle.labeling.specs.Best.{weight_below, weight, Best, Preferred}
use Rattle.labeling.proofs.Agree.{weight_below-agree}
use Rattle.labeling.proofs.Preferred.{other-inside}
use Rattle.recurrence.specs.TieBreak.{tie_break, tie_broken}

two_pos : (k : ℕ) → 1 ≤ 2 ^ k
two_pos zero = omega arith
two_pos (suc k) = let ih = two_pos k in omega arith

pub tie-pos : (i : ℕ) → 1 ≤ tie_break i
unfolding tie_break
tie-pos i = two_pos (31 - i)

tie-first : tie_break 0 ≡ 2147483648
unfolding tie_break
tie-first = refl

-- each position adds half of what the one before it adds
tie-half : (i : ℕ) → i < 31 → tie_break i ≡ tie_break (suc i) + tie_break (suc i)
unfolding tie_break
tie-half i l = let e : 31 - i ≡ suc (31 - suc i) = omega arith in rw e (omega arith)

tie-last : (i : ℕ) → 31 ≤ i → tie_break (suc i) ≡ tie_break i
unfolding tie_break
tie-last i l = let e : 31 - suc i ≡ 31 - i = omega arith in rw e refl

-- none adds more than the first
pub tie-most : (i : ℕ) → tie_break i ≤ 2147483648
tie-most zero = omega (arith, tie-first)
tie-most (suc i) =
    decide (ltb i 31)
    (λ e. omega (arith, tie-most i, tie-half i (ltb-true i 31 e)))
    (λ e. omega (arith, tie-most i, tie-last i (ltb-false i 31 e)))

-- as a program computes it: the first's, shifted
pub tie-shifted : (i : ℕ) → i < 32 → 2147483648 / 2 ^ i ≡ tie_break i
unfolding tie_break every
tie-shifted i l = eqb-true _ _ (every-is (λ j. eqb (2147483648 / 2 ^ j) (2 ^ (31 - j))) 32 refl i l)

-- what is added is less than 2^32 in all
tie-small : (S : Choice) (m : ℕ) → m ≤ 31 → weight_below tie_break S (suc m) + tie_break m ≤ 4294967296
unfolding weight_below
tie-small S zero u = decide (S 0) (λ t. rw t (omega (arith, tie-first))) (λ t. rw t (omega (arith, tie-first)))
tie-small S (suc m) u =
    let ih = tie-small S m (omega arith) in
    let h = tie-half m (omega arith) in
    decide (S (suc m)) (λ t. rw t (omega (arith, ih, h))) (λ t. rw t (omega (arith, ih, h)))

tie-below : (S : Choice) (m : ℕ) → m ≤ 32 → weight_below tie_break S m < 4294967296
unfolding weight_below
tie-below S zero u = omega arith
tie-below S (suc m) u = omega (arith, tie-small S m (omega arith), tie-pos m)

-- at the first difference the one with the point inside adds more
tie-more : (S R : Choice) (i m : ℕ) → ((j : ℕ) → j < i → S j ≡ R j) → S i ≡ false → R i ≡ true → i ≤ m → m ≤ 31
    → weight_below tie_break S (suc m) + tie_break m ≤ weight_below tie_break R (suc m)
unfolding weight_below
tie-more S R i zero a s r l u =
    let e : i ≡ 0 = omega arith in
    let s' : S 0 ≡ false = rw e at s in
    let r' : R 0 ≡ true = rw e at r in
    rw (s', r') (omega arith)
tie-more S R i (suc m) a s r l u =
    same i (suc m)
    (λ e.
    let s' : S (suc m) ≡ false = rw e at s in
    let r' : R (suc m) ≡ true = rw e at r in
    let w : weight_below tie_break S (suc m) ≡ weight_below tie_break R (suc m) =
    weight_below-agree tie_break S R (suc m) (λ j k. a j (omega arith)) in
    rw (s', r') (omega (arith, w)))
    (λ ne.
    let ih = tie-more S R i m a s r (omega arith) (omega arith) in
    let h = tie-half m (omega arith) in
    decide (S (suc m)) (λ t. rw t (omega (arith, ih, h))) (λ t. rw t (omega (arith, ih, h))))

-- the weight in two parts
broken-parts : (v : ℕ → ℕ) (S : Choice) (m : ℕ)
    → weight_below (tie_broken v) S m ≡ weight_below v S m * 4294967296 + weight_below tie_break S m
unfolding weight_below tie_broken
broken-parts v S zero = refl
broken-parts v S (suc m) =
    let ih = broken-parts v S m in
    decide (S m) (λ e. rw e (omega (arith, ih))) (λ e. rw e (omega (arith, ih)))

-- A BEST CHOICE WITH TIES BROKEN IS THE PREFERRED ONE
module _ (P : Points) (v : ℕ → ℕ) (few : P.n ≤ 32) (S : Choice) (b : Best P (tie_broken v) S) where
  parts : (R : Choice) → weight P (tie_broken v) R ≡ weight P v R * 4294967296 + weight_below tie_break R P.n
  unfolding weight
  parts R = broken-parts v R P.n

  broken-best : Best P v S
  broken-best = record {
    valid = b.valid;
    most = λ R ok. omega (arith, b.most R ok, parts R, parts S, tie-below S P.n few);
  }

  pub broken-preferred : Preferred P v S
  broken-preferred = record {
    best = broken-best;
    first = λ R r i l d. other-inside (S i) (R i) d.differ
        (λ t. decide (S i) (λ e. e) (λ e. absurd (more R r i l d.before t e)));
  }
    where
      last : (m : ℕ) → 1 ≤ m → m ≡ suc (m - 1)
      last m l = omega arith

      more : (R : Choice) → Best P v R → (i : ℕ) → i < P.n → ((j : ℕ) → j < i → S j ≡ R j) → R i ≡ true → S i ≡ false
          → ⊥
      more R r i l a t e =
          let q : P.n ≡ suc (P.n - 1) = last P.n (omega arith) in
          let g = tie-more S R i (P.n - 1) a e t (omega arith) (omega arith) in
          let g' : weight_below tie_break S P.n + tie_break (P.n - 1) ≤ weight_below tie_break R P.n = rw (← q) at g in
          omega (arith, g', b.most R r.valid, parts R, parts S, r.most S b.valid, tie-pos (P.n - 1))
