-- Texts added one after another. Assumes nothing.
use Rattle.std.specs.Prelude.{◌≡◌, Bool, true, false, List, [], ◌∷◌, ℕ, ◌+◌, ◌/◌, ◌%◌, ◌≤◌, ◌<◌, length}
use Rattle.std.proofs.Common.{sym, append-nil, add-one, arith}
use Rattle.lines.specs.Rooms.{point_room, points_room}
use Rattle.lines.specs.Text.{ascii, digit, decimal, spaced}
use Rattle.lines.proofs.Decimal.{decimal_step, decimal-length}
use Rattle.lines.specs.Listing.{place, point_line, point_lines}
use Rattle.lines.specs.Writing.{Added}
use Rattle.lines.specs.Put.{Put}
use Rattle.lines.proofs.Put.{put-more}
use Rattle.lines.proofs.Writing.{added_more}

-- a number of 16 bits with a digit more
pub put-longer : {o o₁ o₂ : List ℕ} {at m r : ℕ} (n : ℕ) → n < 65536 → 10 ≤ n → at + 5 ≤ length o
    → Put 5 o at (decimal (n / 10)) m o₁ → Put 1 o₁ m (digit (n % 10) ∷ []) r o₂ → Put 5 o at (decimal n) r o₂
put-longer {o} {o₁} {o₂} {at} {m} {r} n f great room a b =
    let all : Put 6 o at (decimal n) r o₂ = rw (decimal_step n great) (put-more room a b) in
    record { fits = decimal-length n f; next-is = all.next-is; text-is = all.text-is }

-- "`in`, or `out` and its margin column"
module _ {t t₁ : List ℕ} (inside : Bool) (margin : ℕ) where
  pub place_in : inside ≡ true → Added 3 (ascii " in") t t₁ → Added 10 (place inside margin) t t₁
  unfolding place
  place_in e x = let f : length t₁ ≤ length t + 3 = x.fits in rw e (record { text-is = x.text-is; fits = omega arith })

  pub place_out : {t₂ : List ℕ} → inside ≡ false → Added 4 (ascii " out") t t₁ → Added 6 (spaced margin) t₁ t₂
      → Added 10 (place inside margin) t t₂
  unfolding place
  place_out e x y = rw e (added_more x y (omega arith))

-- the lines of one point more
pub point_more : {t t₁ t₂ : List ℕ} (p : List ℕ) (i : ℕ) → Added (points_room i) (point_lines p i) t t₁
    → Added point_room (point_line p i) t₁ t₂ → Added (points_room (i + 1)) (point_lines p (i + 1)) t t₂
unfolding point_lines
point_more p i x y = rw (add-one i) (added_more x y (omega arith))

-- no point's line
pub point_none : (t p : List ℕ) → Added (points_room 0) (point_lines p 0) t t
unfolding point_lines
point_none t p = record { text-is = sym (append-nil t); fits = omega arith }
