-- Facts about the tests of a clash, for the proofs of this crate. Assumes nothing.
use mathlib.Core.Path.{◌≡◌, refl, sym, ap, ◌∙◌}
use mathlib.Core.Bool.{true, false, not}
use Prim.Native.Nat.{ℕ, zero, suc, ◌+◌, ◌<◌}
use Rattle.std.specs.Prelude.{Option, None, Some}
use borrow.Author.Tests.{lt-ltb, le-ltb}
use native.Mathlib.Omega.{arith}
use Rattle.labeling.specs.Points.{Points, Choice}
use Rattle.labeling.specs.Marks.{label_on_map_b}
use Rattle.labeling.proofs.Decide.{not-both, same}
use Rattle.clash.specs.declared.Clash.{Clash}
use Rattle.clash.specs.declared.ClashKind.TheVariants.{Overhang}
use Rattle.clash.specs.FirstClash.{is_clash, or_else, clash_if, pair_clash, own_clash, first_of, ordered_clash, later_clash, clash_of}
use Rattle.clash.proofs.ClashPixels.{no-clash, first-none}

or-clash : (c d : Option Clash) → is_clash c ≡ true → c ≡ or_else c d
or-clash None d e = absurd (not-both e refl)
or-clash (Some c) d e = refl

-- the first with a clash decides
pub first_found : (f : ℕ → Option Clash) (m k : ℕ) → first_of f m ≡ None → is_clash (f m) ≡ true → m < k → f m ≡ first_of f k
unfolding first_of
first_found f m zero e y l = absurd (omega arith)
first_found f m (suc k) e y l =
    same m k
    (λ q. rw (← q, e))
    (λ ne.
    let ih : f m ≡ first_of f k = first_found f m k e y (omega arith) in
    ih ∙ or-clash (first_of f k) (f k) (ap is_clash (sym ih) ∙ y))

-- a position and one above it
pub ordered-above : (P : Points) (S : Choice) (i j : ℕ) → i < j → ordered_clash P S i j ≡ pair_clash P S i j
ordered-above P S i j l = rw (lt-ltb i j l)

-- no clash of a position with itself and those below
pub ordered-below : (P : Points) (S : Choice) (i : ℕ) → first_of (ordered_clash P S i) (i + 1) ≡ None
ordered-below P S i = first-none (ordered_clash P S i) (i + 1) (λ j l. rw (le-ltb i j (omega arith)))

-- A POSITION'S OWN CLASH

pub own-inside : (P : Points) (S : Choice) (i : ℕ) (r : Option Clash)
    → S i ≡ true → r ≡ clash_if (not (label_on_map_b P i)) i i Overhang → r ≡ own_clash P S i
unfolding own_clash
own-inside P S i r a e = rw a e

pub own-outside : (P : Points) (S : Choice) (i : ℕ) → S i ≡ false → None ≡ own_clash P S i
unfolding own_clash
own-outside P S i a = rw a

-- its own clash comes first
pub own-found : (P : Points) (S : Choice) (i : ℕ) → is_clash (own_clash P S i) ≡ true → own_clash P S i ≡ clash_of P S i
unfolding clash_of
own-found P S i e = or-clash (own_clash P S i) (later_clash P S i) e

pub own-none : (P : Points) (S : Choice) (i : ℕ) → is_clash (own_clash P S i) ≡ false → later_clash P S i ≡ clash_of P S i
unfolding clash_of
own-none P S i e = rw (no-clash (own_clash P S i) e)
