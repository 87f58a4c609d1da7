-- `optimum::values::value_of` and the three functions that it computes a value by meet their contracts: what lies between a slab's ends
-- falls, and what is noted stays right. Assumes nothing.
use Rattle.std.proofs.Common.{◌≡◌, ℕ, suc, List, Bool, true, sym, refl, ◌∙◌, arith}
use Rattle.orders.specs.Arrays.{heights_of}
use Rattle.optimum.specs.declared.table.Slab.{Slab}
use Rattle.optimum.specs.declared.values.Run.{Run}
use Rattle.optimum.specs.Packed.{Packed}
use Rattle.optimum.specs.Slabs.{slab_has}
use Rattle.optimum.specs.Table.{Running, Asked, Opened}
use Rattle.optimum.proofs.Steps.{open-below-few, opened, open-small, open-candidate, open-weight}
use Rattle.optimum.proofs.Steps.{ready-high, low_value, high_value, low_small, high_small, out-cut, out_none}
use Rattle.optimum.proofs.Running.{step_skip, step-safe, step-stop, step-on, settled-none, running-first, running-last}
use Rattle.optimum.proofs.Memo.{memo-stored, valued-after, kept_refl, kept_trans}
use Rattle.optimum.proofs.values.+entry_outside_value_step_value_of.Goals as goal

-- ENTRY

pub entry-returns-then-slab-lt2 : goal.entry-returns-then-slab-lt2
entry-returns-then-slab-lt2 t c = (settled-none _ _ (omega (arith, c.if-slab-lt2.true)), kept_refl c.requires.memo)

pub entry-loop-t-init : goal.entry-loop-t-init
entry-loop-t-init t c =
    (running-first _ _ _ c.open_below-t.ensures (open-below-few c.requires.ready c.args.points.now.packed), kept_refl c.requires.memo)

pub entry-returns : goal.entry-returns
entry-returns t c =
    let inv = c.loop-t.invariant in
    (rw c.better.ensures (running-last c.loop-t-test.false inv.0), inv.1)

-- WHAT A POINT GIVES OUTSIDE

pub outside_value-returns-then-not-rows_differ : goal.outside_value-returns-then-not-rows_differ
outside_value-returns-then-not-rows_differ t c = record {
  is = out_none c.requires.opened c.args.points.now.packed _ (sym c.rows_differ.ensures ∙ c.if-not-rows_differ.true);
  kept = kept_refl c.requires.memo;
}

pub outside_value-reach-over-requires : goal.outside_value-reach-over-requires
outside_value-reach-over-requires t c =
    let o = c.requires.opened in
    (o.point, (open-candidate o).fits, o.low)

pub outside_value-value_of-y-requires : goal.outside_value-value_of-y-requires
outside_value-value_of-y-requires t c =
    let o = c.requires.opened in
    rw c.upper_part.ensures (
      omega (arith, o.low, o.high, c.decreases),
      record { ready = ready-high o _ c.reach-over.ensures; memo = c.value_of-x.ensures.kept.memo },
    )

pub outside_value-joined-requires : goal.outside_value-joined-requires
outside_value-joined-requires t c =
    let packed = c.args.points.now.packed in
    let o = c.requires.opened in (
      c.requires.some,
      c.requires.room,
      low_small o packed _ (low_value o _ (rw c.lower_part.ensures at c.value_of-x.ensures.is)),
      high_small o packed _ (high_value o _ _ (rw c.upper_part.ensures at c.value_of-y.ensures.is) c.reach-over.ensures),
    )

pub outside_value-returns : goal.outside_value-returns
outside_value-returns t c =
    let packed = c.args.points.now.packed in
    let o = c.requires.opened in
    let differ = sym c.rows_differ.ensures ∙ c.if-not-rows_differ.false in
    record {
      is =
          out-cut o packed _ _ _ _ differ c.joined.ensures (low_value o _ (rw c.lower_part.ensures at c.value_of-x.ensures.is))
          (high_value o _ _ (rw c.upper_part.ensures at c.value_of-y.ensures.is) c.reach-over.ensures);
      kept = kept_trans c.value_of-x.ensures.kept c.value_of-y.ensures.kept;
    }

-- ONE STEP

-- the point of rank t is open in the slab, where the code's test finds it there
here : {s table : List ℕ} {x : Slab} {t : ℕ} {r : Run} → Packed s → Asked s table x × Running (heights_of s) x (suc t) r
    → (p : ℕ) → p ≡ (heights_of s).at_rank t → {b : Bool} → b ≡ slab_has x p → b ≡ true
    → Opened s x p × ((heights_of s).rank p ≡ t)
here {t = t} packed k p e h b = opened k.0.ready packed t p (omega (arith, k.1.below)) e (sym h ∙ b)

pub step-returns-then-not-has : goal.step-returns-then-not-has
step-returns-then-not-has t c =
    step_skip _ c.at_rank-p.ensures.0 (sym c.has.ensures ∙ c.if-not-has.true)
    c.requires.1 (kept_refl c.requires.0.memo)

pub step-may_be_inside-inside-requires : goal.step-may_be_inside-inside-requires
step-may_be_inside-inside-requires t c =
    let o = (here c.args.points.now.packed c.requires _ c.at_rank-p.ensures.0 c.has.ensures c.if-not-has.false).0 in
    open-candidate o

pub step-is_safe-requires : goal.step-is_safe-requires
step-is_safe-requires t c =
    let o = (here c.args.points.now.packed c.requires _ c.at_rank-p.ensures.0 c.has.ensures c.if-not-has.false).0 in
    (o.point.low, o.high, omega (arith, o.ready.proper.upper))

pub step-weight-requires : goal.step-weight-requires
step-weight-requires t c =
    let packed = c.args.points.now.packed in
    open-small (here packed c.requires _ c.at_rank-p.ensures.0 c.has.ensures c.if-not-has.false).0 packed

pub step-overflow_add-result : goal.step-overflow_add-result
step-overflow_add-result t c =
    let packed = c.args.points.now.packed in
    let o = (here packed c.requires _ c.at_rank-p.ensures.0 c.has.ensures c.if-not-has.false).0 in
    record { fits = omega (arith, open-weight o packed c.weight.result c.weight.ensures, c.requires.1.room) }

pub step-returns-then-is_safe : goal.step-returns-then-is_safe
step-returns-then-is_safe t c =
    let packed = c.args.points.now.packed in
    let h = here packed c.requires _ c.at_rank-p.ensures.0 c.has.ensures c.if-not-has.false in
    step-safe h c.requires.1 (kept_refl c.requires.0.memo) _ c.may_be_inside-inside.ensures packed _
    c.is_safe.ensures c.if-is_safe.true _ c.weight.ensures

pub step-outside_value-requires : goal.step-outside_value-requires
step-outside_value-requires t c =
    let o = (here c.args.points.now.packed c.requires _ c.at_rank-p.ensures.0 c.has.ensures c.if-not-has.false).0 in (
      omega (arith, c.decreases),
      record { opened = o; memo = c.requires.0.memo; some = c.requires.1.some; room = omega (arith, c.requires.1.room) },
    )

pub step-returns-then-not-inside : goal.step-returns-then-not-inside
step-returns-then-not-inside t c =
    let packed = c.args.points.now.packed in
    let h = here packed c.requires _ c.at_rank-p.ensures.0 c.has.ensures c.if-not-has.false in
    let out = c.outside_value.ensures in
    step-stop h c.requires.1 out.kept _ c.may_be_inside-inside.ensures packed _ out.is
    refl _ c.better-best.ensures c.if-not-inside.true

pub step-weight-requires-2 : goal.step-weight-requires-2
step-weight-requires-2 t c =
    let packed = c.args.points.now.packed in
    open-small (here packed c.requires _ c.at_rank-p.ensures.0 c.has.ensures c.if-not-has.false).0 packed

pub step-overflow_add-result-2 : goal.step-overflow_add-result-2
step-overflow_add-result-2 t c =
    let packed = c.args.points.now.packed in
    let o = (here packed c.requires _ c.at_rank-p.ensures.0 c.has.ensures c.if-not-has.false).0 in
    record { fits = omega (arith, open-weight o packed c.weight-2.result c.weight-2.ensures, c.requires.1.room) }

pub step-returns : goal.step-returns
step-returns t c =
    let packed = c.args.points.now.packed in
    let h = here packed c.requires _ c.at_rank-p.ensures.0 c.has.ensures c.if-not-has.false in
    let out = c.outside_value.ensures in
    step-on h c.requires.1 out.kept _ c.may_be_inside-inside.ensures packed _ out.is refl _
    c.better-best.ensures _ c.if-not-inside.false c.weight-2.ensures

-- THE VALUE

pub value_of-write_entry-requires : goal.value_of-write_entry-requires
value_of-write_entry-requires t c =
    let found = c.entry-found.ensures in
    (c.place-at.ensures.1, found.1.memo.room, omega (arith, found.0.below, open-below-few c.requires.ready c.args.points.now.packed))

pub value_of-returns : goal.value_of-returns
value_of-returns t c =
    let place = c.place-at.ensures in
    let found = c.entry-found.ensures in
    rw c.write_entry.ensures
    (valued-after found.1 (memo-stored c.requires.ready found.1.memo _ found.0 _ place.0 place.1 c.args.points.now.packed))
