-- How values add up: a value with one more point, and the values of two parts together. Assumes nothing.
use Rattle.std.specs.Prelude.{◌≡◌, refl, ℕ, zero, suc, ◌+◌, ◌-◌, ◌≤◌, ◌<◌, max}
use Rattle.std.proofs.Common.{sym, ◌∙◌, arith}
use Rattle.recurrence.specs.Recurrence.{plus, join}
use Rattle.labeling.proofs.Decide.{less}
use Rattle.recurrence.proofs.RecurrenceTests.{plus-of, join-of}

-- ONE MORE POINT

-- It gives no less,
pub plus-more : (w x : ℕ) → x ≤ plus w x
unfolding plus
plus-more w zero = omega arith
plus-more w (suc x) = omega arith

-- and more if there is a choice and the point weighs something.
pub plus-most : (w x : ℕ) → 1 ≤ w → 1 ≤ x → x < plus w x
plus-most w x l m = omega (arith, plus-of w x m)

-- A greater value gives no less with it.
pub plus-rises : (w x y : ℕ) → x ≤ y → plus w x ≤ plus w y
unfolding plus
plus-rises w zero y l = omega arith
plus-rises w (suc x) zero l = absurd (omega arith)
plus-rises w (suc x) (suc y) l = omega arith

-- TWO PARTS

-- Nothing joins with a value that isn't there.
pub join-none : (x : ℕ) → join x 0 ≡ 0
unfolding join plus
join-none zero = refl
join-none (suc x) = refl

-- 1, the value without open points, joins with nothing of its own.
pub join_first : (y : ℕ) → join 1 y ≡ y
unfolding join plus
join_first zero = refl
join_first (suc y) = omega arith

pub join_last : (x : ℕ) → 1 ≤ x → join x 1 ≡ x
join_last x l = omega (arith, join-of x 1 l (omega arith))

-- Greater values join to no less,
pub join-rises : (x y x' y' : ℕ) → x ≤ x' → y ≤ y' → join x y ≤ join x' y'
unfolding join
join-rises zero y x' y' l m = omega arith
join-rises (suc x) zero x' y' l m = omega (arith, join-none (suc x))
join-rises (suc x) (suc y) x' y' l m =
    omega (arith, join-of (suc x) (suc y) (omega arith) (omega arith), join-of x' y' (omega arith) (omega arith))

-- and a greater one to more, if there is something to join with.
pub join-less : (x y z : ℕ) → 1 ≤ x → y < z → join x y < join x z
join-less x zero z l m = omega (arith, join-none x, join-of x z l (omega arith))
join-less x (suc y) z l m = omega (arith, join-of x (suc y) l (omega arith), join-of x z l (omega arith))

-- The greater of two values, in either part.
pub join-max-high : (x y z : ℕ) → join x (max y z) ≡ max (join x y) (join x z)
join-max-high x y z =
    less y z (λ k. let e : max y z ≡ z = omega arith in rw e (omega (arith, join-rises x y x z (omega arith) (omega arith))))
    (λ k. let e : max y z ≡ y = omega arith in rw e (omega (arith, join-rises x z x y (omega arith) k)))

pub join-max-low : (x y z : ℕ) → join (max x y) z ≡ max (join x z) (join y z)
join-max-low x y z =
    less x y (λ k. let e : max x y ≡ y = omega arith in rw e (omega (arith, join-rises x z y z (omega arith) (omega arith))))
    (λ k. let e : max x y ≡ x = omega arith in rw e (omega (arith, join-rises y z x z k (omega arith))))

-- One more point, in either part.
pub join-plus-high : (w x y : ℕ) → join x (plus w y) ≡ plus w (join x y)
unfolding plus join
join-plus-high w zero y = refl
join-plus-high w (suc x) zero = rw (join-none (suc x)) (join-none (suc x))
join-plus-high w (suc x) (suc y) =
    let e = join-of (suc x) (suc y) (omega arith) (omega arith) in
    omega (arith, join-of (suc x) (w + suc y) (omega arith) (omega arith), plus-of w (join (suc x) (suc y)) (omega arith))

pub join-plus-low : (w x y : ℕ) → join (plus w x) y ≡ plus w (join x y)
unfolding plus join
join-plus-low w zero y = refl
join-plus-low w (suc x) zero = rw (join-none (suc x)) (join-none (w + suc x))
join-plus-low w (suc x) (suc y) =
    let e = join-of (suc x) (suc y) (omega arith) (omega arith) in
    omega (arith, join-of (w + suc x) (suc y) (omega arith) (omega arith), plus-of w (join (suc x) (suc y)) (omega arith))

-- A point may be counted with either part.
pub join-plus : (x w y : ℕ) → 1 ≤ x → join x (plus w y) ≡ join (x + w) y
unfolding plus
join-plus x w zero l = join-none x ∙ sym (join-none (x + w))
join-plus x w (suc y) l = omega (arith, join-of x (w + suc y) l (omega arith), join-of (x + w) (suc y) (omega arith) (omega arith))

-- Three parts.
pub join-assoc : (x y z : ℕ) → join (join x y) z ≡ join x (join y z)
unfolding join
join-assoc zero y z = refl
join-assoc (suc x) y z = join-plus-low x y z

-- Three parts, as a program adds them.
pub joins-low : (x y z : ℕ) → y ≡ 0 → 0 ≡ join x (join y z)
unfolding join
joins-low x y z e = rw e (sym (join-none x))

pub joins-high : (x y z : ℕ) → z ≡ 0 → 0 ≡ join x (join y z)
joins-high x y z e = rw (e, join-none y) (sym (join-none x))

pub joins-both : (x y z : ℕ) → 1 ≤ x → (y ≡ 0 → ⊥) → (z ≡ 0 → ⊥) → x + (y - 1) + (z - 1) ≡ join x (join y z)
joins-both x y z l m n =
    let e = join-of y z (omega arith) (omega arith) in
    omega (arith, join-of x (join y z) l (omega arith))
