-- The theorems on the definitions of specs/Written.antt. Assumes nothing.
use Rattle.std.specs.Prelude.{◌≡◌, List, [], ◌∷◌, ◌++◌, ℕ, suc, ◌+◌, ◌≤◌, ◌<◌, length, get_or, take, drop, set}
use Rattle.std.proofs.Common.{◌∙◌, ap, append_assoc, zero-add, add-one, arith, le-leb, length-append, length-take-le, take-suc, drop-cons, take_at, drop_at, drop-drop}
use Rattle.std.proofs.lemmas.Bool.{lt-leb}
use Rattle.std.proofs.lemmas.List.{set_at}
use Rattle.std.proofs.Math.Seq.{take-length, paste-zero}
use Rattle.format.specs.Written.{written, written_if_room}

pub written-fits : (d : List ℕ) (at : ℕ) (w : List ℕ) → at + length w ≤ length d → written_if_room d at w ≡ written d at w
unfolding written_if_room
written-fits d at w h = rw (le-leb (at + length w) (length d) h)

pub written-no-room : (d : List ℕ) (at : ℕ) (w : List ℕ) → length d < at + length w → written_if_room d at w ≡ d
unfolding written_if_room
written-no-room d at w h = rw (lt-leb (at + length w) (length d) h)

pub written_none : (d : List ℕ) (at : ℕ) → d ≡ written d at []
unfolding written
written_none d at = paste-zero d at []

front_length : (d : List ℕ) (at : ℕ) (w : List ℕ) → at ≤ length d → length (take at d ++ w) ≡ at + length w
front_length d at w h = simp (length-append, length-take-le at d h)

-- one more element
pub written-more : (d : List ℕ) (at : ℕ) (w : List ℕ) (x : ℕ) → at + length w < length d
    → set (written d at w) (at + length w) x ≡ written d at (w ++ x ∷ [])
unfolding written
written-more d at w x h =
    let a : at ≤ length d = omega arith in
    let k : at + length (w ++ x ∷ []) ≡ suc (at + length w) = omega (arith, length-append w (x ∷ [])) in
    rw (
      drop-cons d (at + length w) 0 h,
      set_at (take at d ++ w) (get_or d (at + length w) 0) (drop (suc (at + length w)) d) x (at + length w) (front_length d at w a),
      k,
    )
    (simp append_assoc)

-- one after the other
pub written_twice : (d : List ℕ) (at : ℕ) (w v : List ℕ) → at + length w ≤ length d
    → written (written d at w) (at + length w) v ≡ written d at (w ++ v)
unfolding written
written_twice d at w v h =
    let a : at ≤ length d = omega arith in
    let p : length (take at d ++ w) ≡ at + length w = front_length d at w a in
    let k : at + length (w ++ v) ≡ at + length w + length v = omega (arith, length-append w v) in
    rw (
      take_at (take at d ++ w) (drop (at + length w) d) (at + length w) p,
      ← drop-drop (length v) (at + length w) (take at d ++ w ++ drop (at + length w) d),
      drop_at (take at d ++ w) (drop (at + length w) d) (at + length w) p,
      drop-drop,
      k,
    )
    (simp append_assoc)

-- one element in front
pub written-front : (d : List ℕ) (at : ℕ) (w : List ℕ) (x : ℕ) → at < length d → set (written d (at + 1) w) at x ≡ written d at (x ∷ w)
unfolding written
written-front d at w x h =
    let y : ℕ = get_or d at 0 in
    let r : List ℕ = drop (at + suc (length w)) d in
    let k : at + 1 + length w ≡ at + suc (length w) = omega arith in
    let a : at ≤ length d = omega arith in
    rw (
      k,
      add-one,
      take-suc d at 0 h,
      append_assoc (take at d) (y ∷ []) w,
      append_assoc (take at d) (y ∷ w) r,
      set_at (take at d) y (w ++ r) x at (length-take-le at d a),
    )
    (simp append_assoc)

-- from the start on
pub written-first : (d w : List ℕ) → written d 0 w ≡ w ++ drop (length w) d
unfolding written
written-first d w = rw zero-add

-- a turn of the loop that copies s
pub copied_more : (d : List ℕ) (at : ℕ) (s output : List ℕ) (i : ℕ) → at + length s ≤ length d → i < length s
    → output ≡ written d at (take i s) → set output (at + i) (get_or s i 0) ≡ written d at (take (i + 1) s)
copied_more d at s output i h k e =
    let a : i ≤ length s = omega arith in
    let n : length (take i s) ≡ i = length-take-le i s a in
    let p : at + i ≡ at + length (take i s) = omega arith in
    rw (add-one, take-suc s i 0 k, e)
    (ap (λ m. set (written d at (take i s)) m (get_or s i 0)) p ∙ written-more d at (take i s) (get_or s i 0) (omega arith))

pub copied-whole : (d : List ℕ) (at : ℕ) (s output : List ℕ) (i : ℕ) → i ≡ length s → output ≡ written d at (take i s)
    → output ≡ written d at s
copied-whole d at s output i q e = rw (q, take-length) at e
