-- The flags that the recovery sets are the recovered choice's. Assumes nothing.
use Rattle.std.specs.Prelude.{◌≡◌, ℕ, zero, suc, ◌+◌, ◌-◌, ◌<◌, ◌≤◌, Bool, true, false, cond, ◌&&◌, ◌||◌, List, length, set, ◌==◌, ◌≢◌, nat_le, nat_lt, refl}
use Rattle.std.proofs.Math.Path.{sym, ap}
use Rattle.std.proofs.Common.{◌∙◌, length-set, get_or-set_same}
use native.Mathlib.Omega.{arith}
use Rattle.std.proofs.Math.Seq.{get_or-set_other}
use borrow.Author.Tests.{ltb-true, ltb-false, eqb-true, lt-leb, le-leb, lt-ltb, le-ltb}
use Rattle.labeling.proofs.Decide.{not-both, decide, same, and_right, or-rest, dec-false, dec-map, dec-unique, false_of}
use Rattle.recurrence.specs.Recurrence.{Heights, between, reach, value, takes_in, recovered}
use Rattle.recurrence.specs.RecurrenceTests.{Between, CanOut}
use Rattle.recurrence.proofs.RecurrenceTests.{dec-between, recovered-skip, recovered-in, recovered-out}
use Rattle.recurrence.proofs.Recovered.{takes_out, value-down, recovered-down}
use Rattle.orders.specs.Arrays.{heights_of}
use Rattle.orders.specs.Layout.{field_cells}
use Rattle.optimum.specs.Packed.{Packed}
use Rattle.optimum.specs.Slabs.{open_below, slab_has, slab_value, slab_takes, slab_recovered, lower_part, upper_part}
use Rattle.optimum.specs.Split.{flagged}
use Rattle.optimum.specs.Table.{Memo, Ready, Opened, CutAt, Recoverable, inside_flag, taken}
use Rattle.optimum.specs.Table.{flagged_taken, Taking, Flagged, FlaggedDown, Blank, Solved}
use Rattle.optimum.proofs.Steps.{opened, ready-low, ready-high, open-below-low, open-below-high, open-below-n, fitting-zero}
use Rattle.optimum.specs.declared.table.Slab.{Slab}

-- THE CHOICE AND ITS FLAGS

-- A recovered choice's points are between the ends.
recovered-range : (H : Heights) (t a b q i : ℕ) → recovered H t a b q i ≡ true → Between a i b
unfolding recovered
recovered-range H zero a b q i e = absurd (not-both e refl)
recovered-range H (suc t) a b q i e =
    let p = H.at_rank t in
    decide (between a p b)
    (λ z.
    let k = (dec-between a p b).is z in
    decide (takes_in H t a b q)
    (λ m.
    let e' = sym (recovered-in H t a b q i z m) ∙ e in
    decide (i == p)
    (λ y. let y' : i ≡ p = eqb-true i p y in record { low = omega (arith, k.low); high = omega (arith, k.high) })
    (λ y. recovered-range H t a b q i (or-rest _ _ e' y)))
    (λ m.
    let e' = sym (recovered-out H t a b q i z m) ∙ e in
    decide (nat_lt i p)
    (λ y. let r = recovered-range H t a p q i (rw y at e') in record { low = r.low; high = omega (arith, r.high, k.high) })
    (λ y.
    let r = recovered-range H t p b (reach H a p q) i (and_right (nat_lt p i) _ (rw y at e')) in
    record { low = omega (arith, r.low, k.low); high = r.high })))
    (λ z. recovered-range H t a b q i (sym (recovered-skip H t a b q i z) ∙ e))

-- No point is open: no flag is set.
pub flagged-zero : (H : Heights) (t : ℕ) (x : Slab) (m : List Bool) → t ≡ 0 → Flagged H t x m m
unfolding recovered
flagged-zero H t x m e = rw e (record { same = refl; set = λ i l. refl })

-- The slab is cut at the point of rank t.
flagged-out : (H : Heights) (t : ℕ) (x : Slab) → slab_has x (H.at_rank t) ≡ true → (m m₁ m₂ : List Bool) → slab_takes H t x ≡ false
    → Flagged H t (record { lower = x.lower; upper = H.at_rank t; reaching = x.reaching }) m m₁
    → Flagged H t (record { lower = H.at_rank t; upper = x.upper; reaching = reach H x.lower (H.at_rank t) x.reaching }) m₁ m₂
    → Flagged H (suc t) x m m₂
flagged-out H t x e m m₁ m₂ k y z = record {
  same = z.same ∙ y.same;
  set = λ i u. rw (recovered-out H t x.lower x.upper x.reaching i e k)
      (decide (nat_lt i p)
      (λ v.
      let v' : i < p = ltb-true i p v in
      z.set i u ∙ rw (high-none i (λ g. omega (arith, g.low)), v) (y.set i u))
      (λ v.
      let v' : p ≤ i = ltb-false i p v in
      let y' : flagged m₁ i ≡ flagged m i = y.set i u ∙ rw (low-none i (λ g. omega (arith, g.high))) in
      decide (nat_lt p i)
      (λ w. z.set i u ∙ rw (v, w, y'))
      (λ w.
      let w' : i ≤ p = ltb-false p i w in
      z.set i u ∙ rw (high-none i (λ g. omega (arith, g.low)), v, w) y')));
}
  where
    p : ℕ
    p = H.at_rank t

    high-none : (i : ℕ) → (Between (H.at_rank t) i x.upper → ⊥)
        → recovered H t (H.at_rank t) x.upper (reach H x.lower (H.at_rank t) x.reaching) i ≡ false
    high-none i f = false_of _ (λ g. f (recovered-range H t (H.at_rank t) x.upper (reach H x.lower (H.at_rank t) x.reaching) i g))

    low-none : (i : ℕ) → (Between x.lower i (H.at_rank t) → ⊥) → recovered H t x.lower (H.at_rank t) x.reaching i ≡ false
    low-none i f = false_of _ (λ g. f (recovered-range H t x.lower (H.at_rank t) x.reaching i g))

-- DOWN TO THE CUT

-- The flag of a point that is taken is set, and that of another isn't.
module _ (H : Heights) (k t i r : ℕ) (m : List Bool) (e : r ≡ H.rank i) where
  pub flagged-low : r < k → m ≡ flagged_taken H k t i m
  unfolding flagged_taken taken
  flagged-low l = sym (rw (lt-leb k (H.rank i) (omega arith)))

  pub flagged-high : k ≤ r → t ≤ r → m ≡ flagged_taken H k t i m
  unfolding flagged_taken taken
  flagged-high l u = sym (rw (le-leb k (H.rank i) (omega arith), le-ltb (H.rank i) t (omega arith)))

  pub flagged-taken : k ≤ r → r < t → set m i inside_flag ≡ flagged_taken H k t i m
  unfolding flagged_taken taken
  flagged-taken l u = sym (rw (le-leb k (H.rank i) (omega arith), lt-ltb (H.rank i) t (omega arith)))

module _ {s : List ℕ} {x : Slab} {k : ℕ} (r : Ready s x) where
  -- The loop begins above the lower end,
  pub taking-first : (m : List Bool) → Taking (heights_of s) x k (x.lower + 1) m m
  taking-first m = record {
    low = omega arith;
    high = omega (arith, r.proper.order);
    same = refl;
    set = λ j. rw (dec-false (dec-between x.lower j (x.lower + 1)) (λ b. omega (arith, b.low, b.high))) refl;
  }

  module _ {i : ℕ} {m m₁ : List Bool} (packed : Packed s) (y : Taking (heights_of s) x k i m m₁) where
    -- takes the next point,
    pub taking-next : (t : ℕ) (m₂ : List Bool) → i < x.upper → length m ≡ field_cells → t ≡ open_below (heights_of s) x
        → m₂ ≡ flagged_taken (heights_of s) k t i m₁ → Taking (heights_of s) x k (i + 1) m m₂
    unfolding flagged_taken
    taking-next t m₂ l n f e =
        let long : i < length m₁ = omega (arith, y.same, r.proper.upper, packed.few) in
        let here : between x.lower i (i + 1) ≡ true =
        (dec-between x.lower i (i + 1)).of (record { low = y.low; high = omega arith }) in
        let there : between x.lower i i ≡ false = dec-false (dec-between x.lower i i) (λ b. omega (arith, b.high)) in
        decide (taken (heights_of s) k (open_below (heights_of s) x) i)
        (λ z.
        let e' : m₂ ≡ set m₁ i inside_flag = rw (f, z) at e in
        record {
          low = omega (arith, y.low);
          high = omega arith;
          same = ap length e' ∙ (length-set m₁ i inside_flag ∙ y.same);
          set = λ j. same j i
              (λ v. rw (v, z, here, e') (get_or-set_same m₁ i inside_flag false long))
              (λ ne. rw (e', get_or-set_other m₁ i j inside_flag false ne, further j ne) (y.set j));
        })
        (λ z.
        let e' : m₂ ≡ m₁ = rw (f, z) at e in
        record {
          low = omega (arith, y.low);
          high = omega arith;
          same = ap length e' ∙ y.same;
          set = λ j. same j i
              (λ v. rw (v, z, here, e') (y.set i ∙ rw there))
              (λ ne. rw (e', further j ne) (y.set j));
        })
      where
        further : (j : ℕ) → (j ≢ i) → between x.lower j (i + 1) ≡ between x.lower j i
        further j ne =
            dec-unique (dec-between x.lower j (i + 1))
            (dec-map (λ b. record { low = b.low; high = omega (arith, b.high) })
            (λ b. record { low = b.low; high = omega (arith, b.high) }) (dec-between x.lower j i))

    -- and ends at the upper end.
    pub taking-last : x.upper ≤ i → CutAt (heights_of s) x k → FlaggedDown (heights_of s) x k m m₁
    unfolding taken
    taking-last l c =
        let H = heights_of s in
        let t = open_below H x in
        let e : i ≡ x.upper = omega (arith, y.high) in
        record {
          same = y.same;
          whole = λ m'' f. record {
            same = f.same ∙ y.same;
            set = λ j u. same j 0
                (λ v. rw v (f.set 0 (omega arith)
                ∙ rw (y.set 0, dec-false (dec-between x.lower 0 i) (λ g. omega (arith, g.low)), nothing k, nothing t) refl))
                (λ ne. f.set j u
                ∙ (ap (cond (slab_recovered H k x j) inside_flag) (y.set j)
                ∙ (rw e (joined (slab_recovered H k x j) (slab_has x j && (nat_le k (H.rank j) && nat_lt (H.rank j) t)) (flagged m j))
                ∙ ap (λ (g : Bool). cond g inside_flag (flagged m j))
                (sym (recovered-down packed.sorted k x.lower x.upper x.reaching
                (record { low = omega arith; high = u }) t c.below (open-below-n r packed) c.above)))));
          };
        }
      where
        nothing : (t : ℕ) → slab_recovered (heights_of s) t x 0 ≡ false
        nothing t =
            false_of (slab_recovered (heights_of s) t x 0)
            (λ f. let g = recovered-range (heights_of s) t x.lower x.upper x.reaching 0 f in omega (arith, g.low))

        joined : (u v : Bool) (d : Bool) → cond u inside_flag (cond v inside_flag d) ≡ cond (u || v) inside_flag d
        joined true v d = refl
        joined false v d = refl

-- A CUT

module _ {s table : List ℕ} {x : Slab} {k p : ℕ} (a : Recoverable s table x) (c : CutAt (heights_of s) x k)
    (ne : k ≡ 0 → ⊥) (e : p ≡ (heights_of s).at_rank (k - 1)) where
  prev : k ≡ suc (k - 1)
  prev = omega arith

  -- The point is open in the slab.
  pub cut_opened : Packed s → Opened s x p × ((heights_of s).rank p ≡ k - 1)
  cut_opened packed = opened a.asked.ready packed (k - 1) p (omega (arith, c.below)) e (rw e (c.within (k - 1) prev))

  -- Both parts have a choice, because the slab has.
  choices : CanOut (heights_of s) (k - 1) x.lower x.upper x.reaching
  choices =
      (takes_out (rw prev at (value-down (open_below (heights_of s) x) c.below c.above a.some))
      (c.within (k - 1) prev) (c.out (k - 1) prev)).0

  pub cut_low : Packed s → Recoverable s table (lower_part x p)
  cut_low packed =
      let o = cut_opened packed in
      record {
        asked = record { ready = ready-low o.0; memo = a.asked.memo };
        some = rw (open-below-low o.0, o.1, e) choices.low;
      }

  pub cut_high : Packed s → {table' : List ℕ} → Memo (heights_of s) table' → (over : ℕ) → over ≡ reach (heights_of s) x.lower p x.reaching
      → Recoverable s table' (upper_part x p over)
  cut_high packed m over f =
      let o = cut_opened packed in
      record {
        asked = record { ready = ready-high o.0 over f; memo = m };
        some = rw (open-below-high o.0 over, o.1, f, e) choices.high;
      }

  -- The flags of both parts are set: so are the slab's, below its cut.
  pub cut-flagged : Packed s → (m m₁ m₂ : List Bool) (over : ℕ) → over ≡ reach (heights_of s) x.lower p x.reaching
      → Flagged (heights_of s) (open_below (heights_of s) (lower_part x p)) (lower_part x p) m m₁
      → Flagged (heights_of s) (open_below (heights_of s) (upper_part x p over)) (upper_part x p over) m₁ m₂
      → Flagged (heights_of s) k x m m₂
  cut-flagged packed m m₁ m₂ over f u v =
      let H = heights_of s in
      let o = cut_opened packed in
      let r : H.rank p ≡ k - 1 = o.1 in
      let u' : Flagged H (k - 1) (lower_part x (H.at_rank (k - 1))) m m₁ =
      rw (open-below-low o.0, r, e) at u in
      let v' : Flagged H (k - 1) (upper_part x (H.at_rank (k - 1)) (reach H x.lower (H.at_rank (k - 1)) x.reaching)) m₁ m₂ =
      rw (open-below-high o.0 over, r, f, e) at v in
      rw (← prev) at (flagged-out H (k - 1) x (c.within (k - 1) prev) m m₁ m₂ (c.out (k - 1) prev) u' v')

-- ALL POINTS

module _ (s : List ℕ) (n : ℕ) (e : n ≡ (heights_of s).n) where
  abbrev all_points : Slab
  all_points = record { lower = 0; upper = n + 1; reaching = 0 }

  end : n + 1 ≡ suc (heights_of s).n
  end = omega arith

  pub all-ready : Ready s all_points
  all-ready = record { proper = record { order = omega arith; upper = omega arith; fits = fitting-zero (heights_of s) 0 } }

  module _ (packed : Packed s) where
    all-open-below : open_below (heights_of s) all_points ≡ (heights_of s).n
    unfolding open_below
    all-open-below = rw end (omega (arith, packed.lower-rank, packed.upper-rank))

    all-value : (v : ℕ) → v ≡ slab_value (heights_of s) all_points → v ≡ value (heights_of s) (heights_of s).n 0 (suc (heights_of s).n) 0
    all-value v f = f ∙ rw (all-open-below, end) refl

    -- There is no choice,
    pub all_none : (m : List Bool) (v : ℕ) → v ≡ slab_value (heights_of s) all_points → v ≡ 0 → Solved (heights_of s) m 0
    all_none m v f g = record { best = sym g ∙ all-value v f; flagged = λ l. absurd (omega arith) }

    -- or the flags are those of the best one.
    pub all-solved : (m m' : List Bool) (v : ℕ) → Blank m → Flagged (heights_of s) (open_below (heights_of s) all_points) all_points m m'
        → v ≡ slab_value (heights_of s) all_points → Solved (heights_of s) m' v
    all-solved m m' v z y f =
        let y' : Flagged (heights_of s) (heights_of s).n (record { lower = 0; upper = suc (heights_of s).n; reaching = 0 }) m m' =
        rw (all-open-below, end) at y in
        record {
          best = all-value v f;
          flagged = λ _ j p.
              y'.set j p.high
              ∙ ap (cond (recovered (heights_of s) (heights_of s).n 0 (suc (heights_of s).n) 0 j) inside_flag)
              (z.zero j (omega (arith, p.high, packed.few)));
        }
