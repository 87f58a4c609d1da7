-- One entry of the table, by a loop over the ranks downwards. Assumes nothing.
use Rattle.std.specs.Prelude.{◌≡◌, ℕ, zero, suc, ◌+◌, ◌-◌, ◌<◌, ◌≤◌, max, Bool, true, false, ◌&&◌, List}
use Rattle.std.proofs.Common.{sym, ◌∙◌, ap, add-one}
use native.Mathlib.Omega.{arith}
use borrow.Author.Tests.{lt-ltb, le-ltb}
use Rattle.labeling.proofs.Decide.{not-both, same, and_left, and_right, less, dec-false}
use Rattle.recurrence.specs.Recurrence.{Heights, Sorted, between, value, plus, join, in_value, takes_in}
use Rattle.recurrence.specs.RecurrenceTests.{Between}
use Rattle.recurrence.proofs.RecurrenceTests.{dec-between, value-zero, value-skip, value-step}
use Rattle.recurrence.proofs.Joins.{plus-most, join-none, join_first, join_last, join-less, join-rises, join-max-high, join-plus}
use Rattle.recurrence.specs.Recovered.{TakesDown}
use Rattle.recurrence.specs.Safe.{Safe, unreached}
use Rattle.recurrence.proofs.Safe.{dec-unreached, safe-outside, safe-inside}
use Rattle.orders.specs.Arrays.{heights_of}
use Rattle.orders.specs.Layout.{weight_bound}
use Rattle.optimum.specs.Packed.{Packed}
use Rattle.optimum.specs.Slabs.{open_below, slab_has, slab_below, slab_value, slab_inside, slab_out, slab_in}
use Rattle.optimum.specs.Table.{CutAt, Settled, better_of, Kept, Opened, Running, Stepped}
use Rattle.optimum.proofs.Steps.{reaches-fitting, at-rank, open-between, open-weight}
use Rattle.optimum.specs.declared.table.Slab.{Slab}
use Rattle.optimum.specs.declared.table.Found.{Found}
use Rattle.optimum.specs.declared.values.Run.{Run}
use Rattle.std.specs.declared.ops.ControlFlow.TheVariants.{Continue, Break}

-- THE BETTER OF TWO

pub better-more : (f g : Found) → f.value < g.value → better_of f g ≡ g
unfolding better_of
better-more f g l = rw (lt-ltb f.value g.value l)

pub better-rest : (f g : Found) → g.value ≤ f.value → better_of f g ≡ f
unfolding better_of
better-rest f g l = rw (le-ltb f.value g.value l)

better-value : (f g : Found) → (better_of f g).value ≡ max f.value g.value
better-value f g = less f.value g.value (λ l. rw (better-more f g l) (omega arith)) (λ l. rw (better-rest f g l) (omega arith))

-- A SLAB WITHOUT POINTS BETWEEN ITS ENDS

value_none : (H : Heights) (t a b q : ℕ) → b ≤ a + 1 → value H t a b q ≡ 1
value_none H zero a b q l = value-zero H a b q
value_none H (suc t) a b q l =
    value-skip H t a b q (dec-false (dec-between a (H.at_rank t) b) (λ k. omega (arith, k.low, k.high))) ∙ value_none H t a b q l

pub settled-none : (H : Heights) (x : Slab) → x.upper ≤ x.lower + 1 → Settled H x (record { value = 1; cut = 0 })
settled-none H x l = record {
  value = sym (value_none H (open_below H x) x.lower x.upper x.reaching l);
  below = omega arith;
  cut = λ _. record {
    below = omega arith;
    above = record {
      takes = λ t u v z.
          let k : Between x.lower (H.at_rank t) x.upper = (dec-between x.lower (H.at_rank t) x.upper).is z in
          absurd (omega (arith, k.low, k.high));
    };
    within = λ t u. absurd (omega arith);
    out = λ t u. absurd (omega arith);
  };
}

-- THE LOOP begins,
pub running-first : (H : Heights) (x : Slab) (t : ℕ) → t ≡ open_below H x → open_below H x ≤ 32
    → Running H x t (record { best = record { value = 0; cut = 0 }; acc = 1 })
running-first H x t e l = record {
  below = omega arith;
  some = omega arith;
  room = omega arith;
  comes = rw e (omega (arith, join_first (slab_value H x)));
  cut_below = omega arith;
  inside = λ _. record { takes = λ r u v. absurd (omega arith) };
  outside = λ u. absurd (omega arith);
}

pub running-prev : {H : Heights} {x : Slab} {t : ℕ} {r : Run} → 0 < t → Running H x t r → Running H x (suc (t - 1)) r
running-prev {H} {x} {t} l k = let e : suc (t - 1) ≡ t = omega arith in rw e k

-- One more rank of points taken in.
takes-next : {H : Heights} {t u a b q : ℕ}
    → (between a (H.at_rank t) b ≡ true → takes_in H t a b q ≡ true) → TakesDown H (suc t) u a b q → TakesDown H t u a b q
takes-next {H} {t} f k = record { takes = λ r l m z. same r t (λ y. rw y (f (rw y at z))) (λ ne. k.takes r (omega arith) m z) }

-- The point of rank t isn't between.
running-skip : {H : Heights} {x : Slab} {t : ℕ} {r : Run} → slab_has x (H.at_rank t) ≡ false → Running H x (suc t) r → Running H x t r
running-skip {H} {x} {t} {r} e k =
    let v : slab_below H (suc t) x ≡ slab_below H t x = value-skip H t x.lower x.upper x.reaching e in
    record {
      below = omega (arith, k.below);
      some = k.some;
      room = omega (arith, k.room);
      comes = rw v at k.comes;
      cut_below = k.cut_below;
      inside = λ l. takes-next (λ z. absurd (not-both z e)) (k.inside (rw v l));
      outside = λ l u. k.outside l (rw v u);
    }

-- What a point gives inside, with acc, if it may be, and if not.
in_taken : (H : Heights) (t : ℕ) (x : Slab) (acc w : ℕ) → 1 ≤ acc → slab_inside H t x ≡ true → w ≡ H.weight (H.at_rank t)
    → join acc (slab_in H t x) ≡ join (acc + w) (slab_below H t x)
unfolding in_value
in_taken H t x acc w l g e = rw (g, e) (join-plus acc (H.weight (H.at_rank t)) (slab_below H t x) l)

in-barred : (H : Heights) (t : ℕ) (x : Slab) (acc : ℕ) → slab_inside H t x ≡ false → join acc (slab_in H t x) ≡ 0
unfolding in_value
in-barred H t x acc g = rw g (join-none acc)

-- It is between: what it gives outside may be a new best.
module _ {H : Heights} {x : Slab} {t : ℕ} {r : Run} (e : slab_has x (H.at_rank t) ≡ true) (k : Running H x (suc t) r) (out : Found)
    (f : out.value ≡ join r.acc (slab_out H t x)) (c : out.cut ≡ suc t) where
  both : join r.acc (slab_below H (suc t) x) ≡ max out.value (join r.acc (slab_in H t x))
  both =
      ap (join r.acc) (value-step H t x.lower x.upper x.reaching e)
      ∙ (join-max-high r.acc (slab_out H t x) (slab_in H t x) ∙ rw f)

  abbrev next : ℕ
  next = (better_of r.best out).value

  next-is : next ≡ max r.best.value out.value
  next-is = better-value r.best out

  next-below : (better_of r.best out).cut ≤ open_below H x
  next-below =
      less r.best.value out.value
      (λ l. rw (better-more r.best out l) (omega (arith, c, k.below)))
      (λ l. rw (better-rest r.best out l) k.cut_below)

  -- Inside it gives no more than the new best: that has its cut.
  next-cut : 1 ≤ next → join r.acc (slab_in H t x) ≤ next → CutAt H x (better_of r.best out).cut
  unfolding takes_in
  next-cut l u =
      less r.best.value out.value
      (λ m.
      let less-in : slab_in H t x ≤ slab_out H t x = less (slab_out H t x) (slab_in H t x)
      (λ v. absurd (omega (arith, join-less r.acc (slab_out H t x) (slab_in H t x) k.some v, next-is, f)))
      (λ v. v) in
      rw (better-more r.best out m, c) (record {
        below = k.below;
        above = k.inside (omega (arith, both));
        within = λ i v. let z : t ≡ i = omega arith in rw (← z) e;
        out = λ i v. let z : t ≡ i = omega arith in rw (← z) (le-ltb (slab_out H t x) (slab_in H t x) less-in);
      }))
      (λ m. rw (better-rest r.best out m) (k.outside (omega (arith, next-is)) (omega (arith, both, next-is))))

  -- It may be inside: the loop goes on.
  running-on : (w : ℕ) → slab_inside H t x ≡ true → w ≡ H.weight (H.at_rank t) → w < weight_bound
      → Running H x t (record { best = better_of r.best out; acc = r.acc + w })
  unfolding takes_in
  running-on w g h small =
      let i = in_taken H t x r.acc w k.some g h in
      record {
        below = omega (arith, k.below);
        some = omega (arith, k.some);
        room = omega (arith, k.room);
        comes = omega (arith, k.comes, both, i, next-is);
        cut_below = next-below;
        inside = λ l. takes-next
            (λ z. lt-ltb (slab_out H t x) (slab_in H t x) (less (slab_out H t x) (slab_in H t x) (λ v. v)
            (λ v. absurd (omega (arith, join-rises r.acc (slab_in H t x) r.acc (slab_out H t x) (omega arith) v, i, f, next-is)))))
            (k.inside (omega (arith, both, i, next-is)));
        outside = λ l u. next-cut l (omega (arith, i));
      }

  -- It may not: the loop ends.
  running-stop : slab_inside H t x ≡ false → Settled H x (better_of r.best out)
  running-stop g =
      let i = in-barred H t x r.acc g in
      record { value = omega (arith, k.comes, both, i, next-is); below = next-below; cut = λ l. next-cut l (omega (arith, i)) }

-- It is safe: the loop goes on without what it gives outside.
running-safe : {H : Heights} → Sorted H → {x : Slab} {t : ℕ} {r : Run} → Safe H t x.lower x.upper x.reaching
    → Running H x (suc t) r
    → (w : ℕ) → w ≡ H.weight (H.at_rank t) → 1 ≤ w → w < weight_bound
    → Running H x t (record { best = r.best; acc = r.acc + w })
unfolding takes_in in_value
running-safe {H} L {x} {t} {r} is k w h heavy small =
    let no_more : slab_out H t x ≤ slab_below H t x = safe-outside L is in
    let weighs : slab_in H t x ≡ plus w (slab_below H t x) = rw (is.may-be-inside, h) in
    let whole : join r.acc (slab_below H (suc t) x) ≡ join (r.acc + w) (slab_below H t x) =
    ap (join r.acc) (safe-inside L is) ∙ in_taken H t x r.acc w k.some is.may-be-inside h in
    record {
      below = omega (arith, k.below);
      some = omega (arith, k.some);
      room = omega (arith, k.room);
      comes = k.comes ∙ ap (max r.best.value) whole;
      cut_below = k.cut_below;
      inside = λ l. takes-next
          (λ z. lt-ltb (slab_out H t x) (slab_in H t x) (less 0 (slab_below H t x)
          (λ n. omega (arith, plus-most w (slab_below H t x) heavy n))
          (λ n.
          let none : slab_below H t x ≡ 0 = omega arith in absurd (omega (arith, ap (join (r.acc + w)) none, join-none (r.acc + w))))))
          (k.inside (omega (arith, whole)));
      outside = λ l u. k.outside l (omega (arith, whole));
    }

-- ONE STEP, as the program takes it: the point isn't between,
pub step_skip : {s : List ℕ} {x : Slab} {t : ℕ} {r : Run} {table : List ℕ} (p : ℕ) → p ≡ (heights_of s).at_rank t
    → slab_has x p ≡ false → Running (heights_of s) x (suc t) r → Kept s table table → Stepped s x t (Continue r) table table
step_skip p e b k m = record { step = running-skip (rw e at b) k; kept = m }

module _ {s : List ℕ} {x : Slab} {t p : ℕ} {r : Run} {table table' : List ℕ}
    (o : Opened s x p × ((heights_of s).rank p ≡ t)) (k : Running (heights_of s) x (suc t) r) (m : Kept s table table')
    (g : Bool) (h : g ≡ slab_inside (heights_of s) ((heights_of s).rank p) x) where
  here : Packed s → slab_has x ((heights_of s).at_rank t) ≡ true
  here packed = rw o.1 at (open-between o.0 packed)

  point : Packed s → (heights_of s).at_rank t ≡ p
  point packed = rw o.1 at (at-rank o.0 packed)

  inside-here : g ≡ slab_inside (heights_of s) t x
  inside-here = rw o.1 at h

  below-lower : t < (heights_of s).rank x.lower
  unfolding open_below
  below-lower = omega (arith, o.1, o.0.below)

  -- is safe,
  pub step-safe : Packed s → (safe : Bool) → safe ≡ (g && unreached (heights_of s) p x.upper) → safe ≡ true
      → (w : ℕ) → w ≡ (heights_of s).weight p
      → Stepped s x t (Continue (record { best = r.best; acc = r.acc + w })) table table'
  step-safe packed safe d e w v =
      let H = heights_of s in
      let L = packed.sorted in
      let proper = o.0.ready.proper in
      let none = (dec-unreached H p x.upper proper.upper).is (and_right g _ (sym d ∙ e)) in
      let is : Safe H t x.lower x.upper x.reaching = record {
        ranked = omega (arith, o.1, L.rank_below p o.0.point);
        within = (dec-between x.lower (H.at_rank t) x.upper).is (here packed);
        upper = proper.upper;
        over = reaches-fitting H x.lower x.reaching proper.fits;
        lower-rank = λ l. below-lower;
        may-be-inside = sym inside-here ∙ and_left g _ (sym d ∙ e);
        unreached = rw (point packed) none;
      } in
      record {
        step = running-safe L is k w (v ∙ rw (point packed)) (omega (arith, v, packed.heavy p o.0.point)) (open-weight o.0 packed w v);
        kept = m;
      }

  module _ (packed : Packed s) (out : Found) (f : out.value ≡ join r.acc (slab_out (heights_of s) ((heights_of s).rank p) x))
      (c : out.cut ≡ t + 1) (best : Found) (b : best ≡ better_of r.best out) where
    -- may not be inside,
    pub step-stop : g ≡ false → Stepped s x t (Break best) table table'
    step-stop z = record { step = rw b (running-stop (here packed) k out (rw o.1 at f) (c ∙ add-one t) (sym inside-here ∙ z)); kept = m }

    -- or may.
    pub step-on : (w : ℕ) → g ≡ true → w ≡ (heights_of s).weight p
        → Stepped s x t (Continue (record { best = best; acc = r.acc + w })) table table'
    step-on w z v = record {
      step =
          rw b (running-on (here packed) k out (rw o.1 at f) (c ∙ add-one t) w (sym inside-here ∙ z)
          (v ∙ rw (point packed)) (open-weight o.0 packed w v));
      kept = m;
    }

-- No rank is left: all points inside may be the best.
pub running-last : {H : Heights} {x : Slab} {t : ℕ} {r : Run} → t ≤ 0 → Running H x t r
    → Settled H x (better_of r.best (record { value = r.acc; cut = 0 }))
running-last {H} {x} {t} {r} l k =
    let all : Found = record { value = r.acc; cut = 0 } in
    let none : t ≡ 0 = omega arith in
    let one : slab_below H t x ≡ 1 = rw none (value-zero H x.lower x.upper x.reaching) in
    let whole : join r.acc (slab_below H t x) ≡ r.acc = ap (join r.acc) one ∙ join_last r.acc k.some in
    less r.best.value r.acc
    (λ m. rw (better-more r.best all m) (record {
      value = omega (arith, k.comes, whole);
      below = omega arith;
      cut = λ _. record {
        below = omega arith;
        above = rw none at (k.inside (omega (arith, whole)));
        within = λ i u. absurd (omega arith);
        out = λ i u. absurd (omega arith);
      };
    }))
    (λ m. rw (better-rest r.best all m) (record {
      value = omega (arith, k.comes, whole);
      below = k.cut_below;
      cut = λ u. k.outside u (omega (arith, whole));
    }))
