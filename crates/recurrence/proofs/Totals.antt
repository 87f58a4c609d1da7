-- The weight of a choice counted by rank is its weight counted by point; and a value is at most one more than the weight of all points.
-- Assumes nothing.
use Rattle.std.specs.Prelude.{◌≡◌, refl, Bool, cond, ◌&&◌, ℕ, zero, suc, ◌+◌, ◌-◌, ◌≤◌, ◌<◌, ltb, leb}
use Rattle.std.proofs.Common.{sym, ◌∙◌, lt-ltb, le-ltb, le-leb, arith}
use Rattle.std.proofs.lemmas.Bool.{lt-leb}
use Rattle.labeling.proofs.Decide.{decide, same, dec-lt, dec-le, dec-false, dec-unique}
use Rattle.recurrence.specs.Recurrence.{Heights, Sorted, total, between, reach, may_be_inside}
use Rattle.recurrence.specs.Recurrence.{rows_differ, plus, join, value, out_value, in_value, open_weight}
use Rattle.recurrence.specs.RecurrenceTests.{Between}
use Rattle.recurrence.proofs.RecurrenceTests.{dec-between, value-zero, value-skip, value-step, open-zero, open-skip, open_in}
use Rattle.recurrence.proofs.Slabs.{rank_is}
use Rattle.recurrence.specs.Totals.{all}

-- BY RANK AND BY POINT

-- The weight of the inside points among 1 to m of rank less than t.
part : Heights → (ℕ → Bool) → ℕ → ℕ → ℕ
part H S t zero = 0
part H S t (suc m) = cond (ltb (H.rank (suc m)) t && S (suc m)) (H.weight (suc m)) 0 + part H S t m

-- No point has a rank less than 0.
part_none : (H : Heights) (S : ℕ → Bool) (m : ℕ) → part H S 0 m ≡ 0
unfolding part
part_none H S zero = refl
part_none H S (suc m) = rw (le-ltb (H.rank (suc m)) 0 (omega arith)) (omega (arith, part_none H S m))

-- Every point has a rank less than n.
part-all : {H : Heights} → Sorted H → (S : ℕ → Bool) (m : ℕ) → m ≤ H.n → part H S H.n m ≡ total H S m
unfolding part total
part-all {H} L S zero l = refl
part-all {H} L S (suc m) l =
    rw (lt-ltb (H.rank (suc m)) H.n (L.rank_below (suc m) (record { low = omega arith; high = l })))
    (omega (arith, part-all L S m (omega arith)))

-- A number other than t is less than t + 1 exactly if it is less than t.
pub ltb_next : (a t : ℕ) → (a ≡ t → ⊥) → ltb a (suc t) ≡ ltb a t
ltb_next a t ne =
    dec-unique (dec-lt a (suc t)) (record { is = λ e. omega (arith, (dec-lt a t).is e); of = λ l. (dec-lt a t).of (omega arith) })

-- A number other than m + 1 is at most m + 1 exactly if it is at most m.
leb-next : (a m : ℕ) → (a ≡ suc m → ⊥) → leb a (suc m) ≡ leb a m
leb-next a m ne =
    dec-unique (dec-le a (suc m)) (record { is = λ e. omega (arith, (dec-le a m).is e); of = λ l. (dec-le a m).of (omega arith) })

-- One rank more adds its point.
part_step : {H : Heights} → Sorted H → (S : ℕ → Bool) (t m : ℕ) → t < H.n → m ≤ H.n
    → part H S (suc t) m ≡ cond (leb (H.at_rank t) m && S (H.at_rank t)) (H.weight (H.at_rank t)) 0 + part H S t m
unfolding part
part_step {H} L S t zero l u = rw (lt-leb (H.at_rank t) 0 (L.at_rank-point t l).low) refl
part_step {H} L S t (suc m) l u =
    let p = H.at_rank t in
    let ih = part_step L S t m l (omega arith) in
    same p (suc m)
    (λ e.
    let r : H.rank (suc m) ≡ t = rw (← e) (L.rank-at_rank t l) in
    let ih' = rw (lt-leb p m (omega arith)) at ih in
    rw (lt-ltb (H.rank (suc m)) (suc t) (omega arith), le-ltb (H.rank (suc m)) t (omega arith), le-leb p (suc m) (omega arith), e)
    (omega (arith, ih')))
    (λ ne.
    let nr : H.rank (suc m) ≡ t → ⊥ = λ z. ne (sym (rank_is L t (suc m) (record { low = omega arith; high = u }) z)) in
    rw (ltb_next (H.rank (suc m)) t nr, leb-next p m ne) (omega (arith, ih)))

-- The weight of the open points between the boundaries, by point.
open-part : {H : Heights} → Sorted H → (S : ℕ → Bool) (t : ℕ) → t ≤ H.n → open_weight H S t 0 (suc H.n) ≡ part H S t H.n
unfolding open_weight
open-part {H} L S zero l = sym (part_none H S H.n)
open-part {H} L S (suc t) l =
    let k = L.at_rank-point t l in
    rw (
      (dec-between 0 (H.at_rank t) (suc H.n)).of (record { low = k.low; high = omega (arith, k.high) }),
      part_step L S t H.n l (omega arith),
      le-leb (H.at_rank t) H.n k.high,
    )
    (omega (arith, open-part L S t (omega arith)))

-- THE WEIGHT OF ALL OPEN POINTS BETWEEN THE BOUNDARIES IS THE WHOLE WEIGHT.
pub open-total : {H : Heights} → Sorted H → (S : ℕ → Bool) → open_weight H S H.n 0 (suc H.n) ≡ total H S H.n
open-total {H} L S = open-part L S H.n (omega arith) ∙ part-all L S H.n (omega arith)

-- A bound of the value of two parts.
join-bound : (x y k m : ℕ) → x ≤ suc k → y ≤ suc m → join x y ≤ suc (k + m)
unfolding join plus
join-bound zero y k m h l = omega arith
join-bound (suc x) zero k m h l = omega arith
join-bound (suc x) (suc y) k m h l = omega arith

-- A bound of a value with one more point.
plus-bound : (x y m : ℕ) → y ≤ suc m → plus x y ≤ suc (x + m)
unfolding plus
plus-bound x zero m h = omega arith
plus-bound x (suc y) m h = omega arith

-- Fewer points are between closer a and b.
open-narrow : (H : Heights) (t a b a' b' : ℕ) → a ≤ a' → b' ≤ b → open_weight H all t a' b' ≤ open_weight H all t a b
open-narrow H zero a b a' b' h k = omega (arith, open-zero H all a' b')
open-narrow H (suc t) a b a' b' h k =
    let x = H.at_rank t in
    let ih = open-narrow H t a b a' b' h k in
    decide (between a' x b')
    (λ e.
    let m = (dec-between a' x b').is e in
    omega (
      arith,
      ih,
      open_in H all t a' b' e refl,
      open_in H all t a b ((dec-between a x b).of (record { low = omega (arith, m.low); high = omega (arith, m.high) })) refl,
    ))
    (λ e. decide (between a x b)
    (λ f. omega (arith, ih, open-skip H all t a' b' e, open_in H all t a b f refl))
    (λ f. omega (arith, ih, open-skip H all t a' b' e, open-skip H all t a b f)))

-- The points on both sides of p weigh no more than those between a and b.
open-two : (H : Heights) (t a b p : ℕ) → Between a p b → open_weight H all t a p + open_weight H all t p b ≤ open_weight H all t a b
open-two H zero a b p k = omega (arith, open-zero H all a p, open-zero H all p b)
open-two H (suc t) a b p k =
    let x = H.at_rank t in
    let ih = open-two H t a b p k in
    decide (between a x p)
    (λ e.
    let m = (dec-between a x p).is e in
    omega (
      arith,
      ih,
      open_in H all t a p e refl,
      open-skip H all t p b (dec-false (dec-between p x b) (λ n. omega (arith, m.high, n.low))),
      open_in H all t a b ((dec-between a x b).of (record { low = m.low; high = omega (arith, m.high, k.high) })) refl,
    ))
    (λ e. decide (between p x b)
    (λ f.
    let m = (dec-between p x b).is f in
    omega (
      arith,
      ih,
      open-skip H all t a p e,
      open_in H all t p b f refl,
      open_in H all t a b ((dec-between a x b).of (record { low = omega (arith, m.low, k.low); high = m.high })) refl,
    ))
    (λ f. decide (between a x b)
    (λ g. omega (arith, ih, open-skip H all t a p e, open-skip H all t p b f, open_in H all t a b g refl))
    (λ g. omega (arith, ih, open-skip H all t a p e, open-skip H all t p b f, open-skip H all t a b g))))

-- A value is at most one more than the weight of the open points.
pub value-open : (H : Heights) (t a b q : ℕ) → value H t a b q ≤ suc (open_weight H all t a b)
unfolding out_value in_value
value-open H zero a b q = omega (arith, value-zero H a b q)
value-open H (suc t) a b q =
    let p = H.at_rank t in
    let r = reach H a p q in
    decide (between a p b)
    (λ e.
    let two = open-two H t a b p ((dec-between a p b).is e) in
    let h₁ = value-open H t a p q in
    let h₂ = value-open H t p b r in
    let h₃ = value-open H t a b q in
    let out : out_value H t a b q ≤ suc (open_weight H all t a p + open_weight H all t p b) =
    decide (rows_differ H p b) (λ c. rw c (join-bound _ _ _ _ h₁ h₂)) (λ c. rw c (omega arith)) in
    let ins : in_value H t a b q ≤ suc (H.weight p + open_weight H all t a b) =
    decide (may_be_inside H t a b q) (λ c. rw c (plus-bound _ _ _ h₃)) (λ c. rw c (omega arith)) in
    omega (arith, value-step H t a b q e, out, ins, two, open_in H all t a b e refl))
    (λ e. omega (arith, value-skip H t a b q e, open-skip H all t a b e, value-open H t a b q))

-- With more ranks there are more open points.
open-grow : (H : Heights) (t m a b : ℕ) → open_weight H all t a b ≤ open_weight H all (m + t) a b
open-grow H t zero a b = let z : 0 + t ≡ t = omega arith in rw z (omega arith)
open-grow H t (suc m) a b =
    let z : suc m + t ≡ suc (m + t) = omega arith in
    let ih = open-grow H t m a b in
    rw z (decide (between a (H.at_rank (m + t)) b) (λ e. omega (arith, ih, open_in H all (m + t) a b e refl))
    (λ e. omega (arith, ih, open-skip H all (m + t) a b e)))

-- A VALUE IS AT MOST ONE MORE THAN THE WEIGHT OF ALL POINTS.
pub value-bound : {H : Heights} → Sorted H → (t a b q : ℕ) → t ≤ H.n → b ≤ suc H.n → value H t a b q ≤ suc (total H all H.n)
value-bound {H} L t a b q l u =
    omega (arith, value-open H t a b q, open-narrow H t 0 (suc H.n) a b (omega arith) u, grown, open-total L all)
  where
    grown : open_weight H all t 0 (suc H.n) ≤ open_weight H all H.n 0 (suc H.n)
    grown = let e : (H.n - t) + t ≡ H.n = omega arith in rw e at (open-grow H t (H.n - t) 0 (suc H.n))
