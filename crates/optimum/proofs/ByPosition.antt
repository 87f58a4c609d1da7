-- The theorems on the definitions of specs/ByPosition.antt. Assumes nothing.
use Rattle.std.specs.Prelude.{◌≡◌, ℕ, ◌+◌, ◌<◌, Bool, false, List, length, slice_set}
use Rattle.std.proofs.Common.{◌∙◌, arith, get_or-set_same, get_or-set_other}
use Rattle.recurrence.specs.Recurrence.{Point}
use Rattle.labeling.proofs.Decide.{same}
use Rattle.orders.specs.Arrays.{heights_of, position_at}
use Rattle.optimum.specs.Split.{flagged, Numbered}
use Rattle.optimum.specs.ByPosition.{CopiedTo}

pub copied_none : (heights : List ℕ) (flags inside : List Bool) → CopiedTo heights flags inside 0
copied_none heights flags inside i a b = absurd (omega arith)

pub copied_next : (heights : List ℕ) (flags inside : List Bool) (m p : ℕ) → Numbered heights → m < (heights_of heights).n
    → length inside ≡ 32 → p ≡ position_at heights (m + 1) → CopiedTo heights flags inside m
    → CopiedTo heights flags (slice_set inside p (flagged flags (m + 1))) (m + 1)
copied_next heights flags inside m p N l e q f i a b =
    let last : Point (heights_of heights) (m + 1) = record { low = omega arith; high = omega arith } in
    let point : Point (heights_of heights) i = record { low = a; high = omega arith } in
    same i (m + 1)
    (λ z.
    rw (q, z) (get_or-set_same inside (position_at heights (m + 1)) (flagged flags (m + 1)) false (omega (arith, N.below (m + 1) last, N.few))))
    (λ ne.
    get_or-set_other inside p (position_at heights i) (flagged flags (m + 1)) false (λ z. ne (N.once i (m + 1) point last (z ∙ q)))
    ∙ f i a (omega arith))
