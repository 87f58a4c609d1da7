-- How the table is read, and how it grows. Assumes nothing.
use Rattle.std.specs.Prelude.{◌≡◌, ℕ, ◌+◌, ◌-◌, ◌<◌, ◌≤◌, List, length, replicate, ◌≢◌, slice_index, slice_set, refl}
use Rattle.std.proofs.Common.{sym, ◌∙◌, ap, length-set, get_or-set_same, get_or-set_other, arith}
use Rattle.std.proofs.Math.Seq.{paste}
use Rattle.std.proofs.lemmas.List.Edits.{length-paste}
use Rattle.std.proofs.lemmas.Slice.{put_mid-paste}
use Rattle.std.proofs.lemmas.List.{length-replicate, places}
use borrow.Rule.Slice.PartMut.{put_mid}
use Rattle.labeling.proofs.Decide.{same, less}
use Rattle.recurrence.specs.Recurrence.{Heights}
use Rattle.orders.specs.Arrays.{heights_of}
use Rattle.orders.specs.Sums.{tet}
use Rattle.optimum.specs.Places.{entries, notes}
use Rattle.optimum.proofs.Places.{place_same, place-rows}
use Rattle.orders.specs.Words.{value_at}
use Rattle.optimum.specs.Packed.{Packed}
use Rattle.optimum.specs.Entries.{note_at, with_entry}
use Rattle.optimum.proofs.Entries.{length-entry, entry-note, entry-note-other, entry_value, entry-value-other}
use Rattle.optimum.specs.Slabs.{slab_place, Proper}
use Rattle.optimum.specs.Table.{CutAt, Settled, Room, Memo, entry_at, Ready, Asked, Kept, Unnoted, Valued, Recoverable}
use Rattle.optimum.proofs.Steps.{fitting-le, place-room}
use Rattle.optimum.specs.declared.table.Slab.{Slab}
use Rattle.optimum.specs.declared.table.Found.{Found}

-- NOTHING IS NOTED YET

pasted-zero : (table : List ℕ) (at m i : ℕ) → at + m ≤ length table → i < m
    → slice_index (paste table at (replicate m 0) m) (at + i) ≡ 0
pasted-zero table at m i l u = grind (arith, places)

-- The notes of n points are cleared.
pub cleared : (s table zeros : List ℕ) (n m : ℕ) → n ≡ (heights_of s).n → m ≡ tet (n + 3) → notes + m ≤ length table
    → zeros ≡ replicate m 0 → Unnoted s table (put_mid notes (notes + m - notes) table zeros)
unfolding note_at
cleared s table zeros n m e f l z =
    rw (put_mid-paste notes (notes + m - notes) table zeros (replicate m 0) m z (omega arith) (omega (arith, length-replicate {A = ℕ} m 0)))
    (record {
      same = length-paste table notes (replicate m 0) m l (omega (arith, length-replicate {A = ℕ} m 0));
      none = λ i u.
          pasted-zero table notes m i l (omega (arith, f, ap (λ (h : ℕ). tet (h + 3)) e));
    })

-- The notes before the cell i are cleared.
pub record Clearing (table table' : List ℕ) (i : ℕ) : Type 0 where
  pub low : notes ≤ i
  pub same : length table' ≡ length table
  pub none : (j : ℕ) → notes + j < i → note_at table' j ≡ 0

-- They are cleared cell by cell.
pub clearing-first : (table : List ℕ) → Clearing table table notes
clearing-first table = record { low = omega arith; same = refl; none = λ j l. absurd (omega arith) }

pub clearing-next : {table t : List ℕ} {i : ℕ} → i < length table → Clearing table t i → Clearing table (slice_set t i 0) (i + 1)
unfolding note_at
clearing-next {table} {t} {i} l x = record {
  low = omega (arith, x.low);
  same = length-set t i 0 ∙ x.same;
  none = λ j u. same (notes + j) i
      (λ e. rw e (get_or-set_same t i 0 0 (omega (arith, x.same))))
      (λ ne. get_or-set_other t i (notes + j) 0 0 ne ∙ x.none j (omega arith));
}

pub clearing-last : {s table t : List ℕ} {i n m : ℕ} → n ≡ (heights_of s).n → m ≡ tet (n + 3) → notes + m ≤ i → Clearing table t i
    → Unnoted s table t
clearing-last {s} {table} {t} {i} {n} {m} e f l x =
    record { same = x.same; none = λ j u. x.none j (omega (arith, f, ap (λ (h : ℕ). tet (h + 3)) e)) }

-- A table without notes holds nothing that is wrong.
pub memo-none : {s t table : List ℕ} → Room table → Unnoted s t table → Memo (heights_of s) table
memo-none {s} {t} {table} l u = record {
  room = l;
  right = λ x p ne.
      absurd (ne (u.none (slab_place x)
      (place-rows x.lower x.upper x.reaching (heights_of s).n
      (fitting-le (heights_of s) x.lower x.reaching p.fits) p.order p.upper)));
}

-- A NOTED ENTRY

-- Its value,
pub memo-value : {s table : List ℕ} {x : Slab} → Asked s table x → (v m i : ℕ) → m ≡ note_at table i
    → v ≡ value_at table i → i ≡ slab_place x → (m ≢ 0) → Valued s x v table table
memo-value {s} {table} {x} a v m i e f g ne =
    let e' : m ≡ note_at table (slab_place x) = e ∙ ap (note_at table) g in
    let f' : v ≡ value_at table (slab_place x) = f ∙ ap (value_at table) g in
    record {
      is = f' ∙ (a.memo.right x a.ready.proper (λ k. ne (e' ∙ k))).value;
      kept = record { memo = a.memo; same = refl };
      noted = λ k. ne (e' ∙ k);
    }

-- its note,
pub memo-noted : (table : List ℕ) (m i : ℕ) {p : ℕ} → m ≡ note_at table i → i ≡ p → (note_at table p ≢ 0) → 1 ≤ m
memo-noted table m i e f ne = less 0 m (λ l. l) (λ l. let z : m ≡ 0 = omega arith in absurd (ne (ap (note_at table) (sym f) ∙ (sym e ∙ z))))

-- and its cut.
pub memo-cut : {s t table : List ℕ} {x : Slab} → Recoverable s t x → {v : ℕ} → Valued s x v t table
    → (m i : ℕ) → m ≡ note_at table i → i ≡ slab_place x → CutAt (heights_of s) x (m - 1)
memo-cut {s} {t} {table} {x} a v m i e g =
    let e' : m ≡ note_at table (slab_place x) = e ∙ ap (note_at table) g in
    let k = v.kept.memo.right x a.asked.ready.proper v.noted in
    rw e' (k.cut (omega (arith, k.value, a.some)))

-- A NEW ENTRY

-- Two slabs with the same ends and label are one.
slab-same : (x y : Slab) → x.lower ≡ y.lower → x.upper ≡ y.upper → x.reaching ≡ y.reaching → x ≡ y
slab-same x y e f g = whole
  where
    whole : ◌≡◌ {A = Slab} (record { lower = x.lower; upper = x.upper; reaching = x.reaching }) y
    whole = rw (e, f, g) refl

-- Two slabs at one place are one.
place-once : {H : Heights} {x y : Slab} → Proper H x → Proper H y → slab_place x ≡ slab_place y → x ≡ y
place-once {H} {x} {y} p q e =
    let u =
    place_same x.lower x.upper x.reaching y.lower y.upper y.reaching
    (fitting-le H x.lower x.reaching p.fits) p.order (fitting-le H y.lower y.reaching q.fits) q.order e in
    slab-same x y u.0 u.1 u.2

module _ {s table : List ℕ} {x : Slab} (r : Ready s x) (m : Memo (heights_of s) table) (f : Found)
    (k : Settled (heights_of s) x f) (i : ℕ) (g : i ≡ slab_place x) (l : i < entries) where
  abbrev stored : List ℕ
  stored = with_entry table i f.value f.cut

  note-here : note_at stored i ≡ f.cut + 1
  note-here = entry-note table i f.value f.cut l m.room

  entry_here : entry_at stored i ≡ f
  entry_here = let c : f.cut + 1 - 1 ≡ f.cut = omega arith in rw (entry_value table i f.value f.cut l m.room, note-here, c) refl

  -- Every entry is right: this one, and the others, which are as they were.
  memo-more : Packed s → Memo (heights_of s) stored
  memo-more packed = record {
    room = omega (arith, length-entry table i f.value f.cut l, m.room);
    right = λ y p ne. same (slab_place y) i
        (λ z. rw (z, entry_here, place-once p r.proper (z ∙ g)) k)
        (λ z.
        let o : note_at stored (slab_place y) ≡ note_at table (slab_place y) = entry-note-other table i f.value f.cut l (slab_place y) z in
        let v : value_at stored (slab_place y) ≡ value_at table (slab_place y) =
        entry-value-other table i f.value f.cut l (slab_place y) (place-room {s = s} (record { proper = p }) packed) z in
        rw (v, o) (m.right y p (λ t. ne (o ∙ t))));
  }

  pub memo-stored : Packed s → Valued s x f.value table stored
  memo-stored packed = record {
    is = k.value;
    kept = record { memo = memo-more packed; same = length-entry table i f.value f.cut l };
    noted = λ z. omega (arith, ap (note_at stored) g, note-here);
  }

-- WHAT IS KEPT, one call after the other.

pub kept_refl : {s table : List ℕ} → Memo (heights_of s) table → Kept s table table
kept_refl m = record { memo = m; same = refl }

pub kept_trans : {s t t' t'' : List ℕ} → Kept s t t' → Kept s t' t'' → Kept s t t''
kept_trans x y = record { memo = y.memo; same = y.same ∙ x.same }

pub valued-after : {s : List ℕ} {x : Slab} {r : ℕ} {t t' t'' : List ℕ} → Kept s t t' → Valued s x r t' t'' → Valued s x r t t''
valued-after k v = record { is = v.is; kept = kept_trans k v.kept; noted = v.noted }
