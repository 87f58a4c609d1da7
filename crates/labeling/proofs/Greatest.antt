-- The best is reached by a valid choice, and no valid choice exceeds it; any number with these two properties is the best.
-- Assumes nothing.
use Rattle.std.specs.Prelude.{◌≡◌, false, ℕ, suc, ◌≤◌, ◌<◌, pred}
use Rattle.std.proofs.Common.{arith}
use Rattle.labeling.specs.Points.{Points, Choice, DistinctRows}
use Rattle.labeling.specs.Marks.{Valid}
use Rattle.labeling.proofs.Decide.{Decides, dec-lt, dec-map}
use Rattle.labeling.proofs.Pixels.{nothing-inside}
use Rattle.labeling.specs.Best.{weight, count, one_each, Best, best, Feasible, feasible_b}
use Rattle.labeling.specs.Best.{best_sum, best_count, best_choice}
use Rattle.labeling.specs.Greatest.{Reaches}
pub use Rattle.labeling.proofs.GreatestFrom.{put-at, put-off, up-to-put, most-from, chosen-from, best-most}

-- IT IS REACHED, unless it is 0: by best_choice
pub best-reached : (P : Points) (v : ℕ → ℕ) → 1 ≤ P.w → 1 ≤ best P v → Reaches P v (best P v)
unfolding best best_choice
best-reached P v pos l =
    let r = chosen-from P v P.n 0 (λ i. false) pos l in record { choice = best_choice P v; valid = r.0; weighs = r.1 }

-- and it is 0 just where no choice is valid
pub best_none : (P : Points) (v : ℕ → ℕ) (R : Choice) → 1 ≤ P.w → best P v ≡ 0 → Valid P R → ⊥
best_none P v R pos e ok = omega (arith, best-most P v R pos ok)

-- a valid choice of this weight is best
pub best-is : (P : Points) (v : ℕ → ℕ) (S : Choice) → 1 ≤ P.w → Valid P S → suc (weight P v S) ≡ best P v → Best P v S
best-is P v S pos ok e = record { valid = ok; most = λ R a. omega (arith, best-most P v R pos a) }

-- best_choice is a best choice
pub best_choice-best : (P : Points) (v : ℕ → ℕ) → 1 ≤ P.w → 1 ≤ best P v → Best P v (best_choice P v)
unfolding best best_choice
best_choice-best P v pos l =
    let r = chosen-from P v P.n 0 (λ i. false) pos l in best-is P v (best_choice P v) pos r.0 r.1

-- a best choice has this weight
pub best_of : (P : Points) (v : ℕ → ℕ) (S : Choice) → 1 ≤ P.w → Best P v S → best P v ≡ suc (weight P v S)
best_of P v S pos b =
    let u = best-most P v S pos b.valid in
    let r = best-reached P v pos (omega arith) in
    let q : suc (weight P v r.choice) ≡ best P v = r.weighs in
    let m : weight P v r.choice ≤ weight P v S = b.most r.choice r.valid in
    omega arith

-- ANY NUMBER WITH THESE TWO PROPERTIES IS THE BEST
pub best-unique : (P : Points) (v : ℕ → ℕ) (t : ℕ) → 1 ≤ P.w → Reaches P v t → ((R : Choice) → Valid P R → weight P v R < t) → best P v ≡ t
best-unique P v t pos r f =
    let q : suc (weight P v r.choice) ≡ t = r.weighs in
    let u : weight P v r.choice < best P v = best-most P v r.choice pos r.valid in
    let s = best-reached P v pos (omega arith) in
    let y : suc (weight P v s.choice) ≡ best P v = s.weighs in
    let z : weight P v s.choice < t = f s.choice s.valid in
    omega arith

-- THE BEST IS NOT 0 EXACTLY IF SOME CHOICE IS VALID
pub feasible-best : (P : Points) (v : ℕ → ℕ) → 1 ≤ P.w → Feasible P → 1 ≤ best P v
feasible-best P v pos f = omega (arith, best-most P v f.0 pos f.1)

pub best-feasible : (P : Points) (v : ℕ → ℕ) → 1 ≤ P.w → 1 ≤ best P v → Feasible P
best-feasible P v pos l = let r = best-reached P v pos l in (r.choice, r.valid)

pub dec-feasible : (P : Points) → 1 ≤ P.w → Decides (feasible_b P) (Feasible P)
dec-feasible P pos = dec-map (best-feasible P one_each pos) (feasible-best P one_each pos) (dec-lt 0 (best P one_each))

-- so it is with distinct rows
pub distinct-feasible : (P : Points) → DistinctRows P → Feasible P
distinct-feasible P d = (λ i. false, nothing-inside P d)

-- the weight of a best choice is the best sum
pub best-sums : (P : Points) (v : ℕ → ℕ) (S : Choice) → 1 ≤ P.w → Best P v S → weight P v S ≡ best_sum P v
unfolding best_sum
best-sums P v S pos b = rw (best_of P v S pos b) (omega arith)

-- no valid choice weighs more than the best sum
pub best-sum-most : (P : Points) (v : ℕ → ℕ) (R : Choice) → 1 ≤ P.w → Valid P R → weight P v R ≤ best_sum P v
unfolding best_sum
best-sum-most P v R pos ok = below (best P v) (best-most P v R pos ok)
  where
    below : (t : ℕ) → weight P v R < t → weight P v R ≤ pred t
    below t l = omega arith

-- THE BEST SUM IS THE GREATEST: where some choice is valid, a valid choice has it
pub best-sum-reached : (P : Points) (v : ℕ → ℕ) → 1 ≤ P.w → Feasible P → (S : Choice) × Valid P S × (weight P v S ≡ best_sum P v)
best-sum-reached P v pos f =
    let b = best_choice-best P v pos (feasible-best P v pos f) in
    (best_choice P v, b.valid, best-sums P v (best_choice P v) pos b)

-- THE BEST COUNT IS THE GREATEST COUNT: the case where each position weighs 1
pub best-count-most : (P : Points) (R : Choice) → 1 ≤ P.w → Valid P R → count P R ≤ best_count P
unfolding count best_count
best-count-most P R pos ok = best-sum-most P one_each R pos ok

pub best-count-reached : (P : Points) → 1 ≤ P.w → Feasible P → (S : Choice) × Valid P S × (count P S ≡ best_count P)
unfolding count best_count
best-count-reached P pos f = best-sum-reached P one_each pos f
