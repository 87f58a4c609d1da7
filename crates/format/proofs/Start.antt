-- The first 203 bytes, one more than the largest sheet has, decide a sheet's questions: no longer sheet is accepted, and its first no is
-- among 12 to 16. So a program may judge a sheet of any length by a buffer that holds this many. Assumes nothing.
use Rattle.std.specs.Prelude.{◌≡◌, refl, List, ℕ, ◌+◌, ◌*◌, ◌≤◌, ◌<◌, leb, take}
use Rattle.std.proofs.Common.{ap, ◌∙◌, get_or-take, take_all}
use Rattle.std.proofs.Math.Path.{ap₂}
use Rattle.std.proofs.Math.ListN.{length, get_or, length-take}
use borrow.Author.Tests.{le-leb, ne_eqb, leb-true, leb-false}
use native.Mathlib.Omega.{arith}
use Rattle.labeling.proofs.Decide.{decide}
use Rattle.format.specs.Sizes.{sheet_room}
use Rattle.format.specs.Sheet.{two_bytes, questions_no, sheet_no}

module _ (k : ℕ) (s : List ℕ) (enough : sheet_room < k) where
  byte-same : (i : ℕ) → i ≤ sheet_room → get_or (take k s) i 0 ≡ get_or s i 0
  byte-same i l = get_or-take k s i 0 (omega arith)

  two-same : (i : ℕ) → i + 1 ≤ sheet_room → two_bytes (take k s) i ≡ two_bytes s i
  unfolding two_bytes
  two-same i l = ap₂ (λ a b. a + 256 * b) (byte-same i (omega arith)) (byte-same (i + 1) l)

  -- a sheet of more than k bytes
  cut-long : k < length s → sheet_no (take k s) ≡ sheet_no s
  unfolding sheet_no questions_no
  cut-long more =
      let l : length (take k s) ≡ k = length-take k s ∙ omega arith in
      let n : get_or (take k s) 9 0 ≡ get_or s 9 0 = byte-same 9 (omega arith) in
      rw (
        l,
        n,
        byte-same 0 (omega arith),
        two-same 1 (omega arith),
        two-same 3 (omega arith),
        two-same 5 (omega arith),
        two-same 7 (omega arith),
        le-leb 10 k (omega arith),
        le-leb 10 (length s) (omega arith),
      )
      (decide (leb (get_or s 9 0) 32)
      (λ e. let few : get_or s 9 0 ≤ 32 = leb-true _ _ e in
      rw (e, ne_eqb k (10 + 6 * get_or s 9 0) (λ z. omega arith), ne_eqb (length s) (10 + 6 * get_or s 9 0) (λ z. omega arith)) refl)
      (λ e. rw e refl))

  -- THE FIRST BYTES DECIDE
  pub start-decides : sheet_no (take k s) ≡ sheet_no s
  start-decides =
      decide (leb (length s) k)
      (λ e. ap sheet_no (take_all k s (leb-true _ _ e)))
      (λ e. cut-long (leb-false _ _ e))
