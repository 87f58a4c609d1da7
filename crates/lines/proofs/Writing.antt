-- The theorems on the definitions of specs/Writing.antt. Assumes nothing.
use Rattle.std.specs.Prelude.{◌≡◌, cond, List, ◌++◌, ℕ, ◌+◌, ◌≤◌, leb, length, take, drop}
use Rattle.std.proofs.Common.{ap, ◌∙◌, append_assoc, length-append, leb-true, zero-add, le_trans, arith}
use Rattle.labeling.proofs.Decide.{decide}
use Rattle.format.proofs.Written.{written-first}
use Rattle.lines.specs.Writing.{Prints, Added}
use Rattle.lines.proofs.Put.{put-text, put-printed}

-- a text that fits is counted, and stands at the start
prints-fitting : {room : ℕ} {l o o' : List ℕ} {n : ℕ} → length l ≤ length o → Prints room l o n o'
    → (n ≡ length l) × (o' ≡ l ++ drop (length l) o)
prints-fitting {room} {l} {o} {o'} {n} f x =
    let p = put-printed f x in (p.next-is ∙ zero-add (length l), p.text-is ∙ written-first o l)

-- what a buffer with enough room has at its start is the text
pub prints-whole : {room : ℕ} {l o o' : List ℕ} {n : ℕ} → room ≤ length o → Prints room l o n o' → take n o' ≡ l
prints-whole h x = put-text (put-printed (le_trans x.fits h) x)

-- what is counted is there
pub prints-within : {room : ℕ} {l o o' : List ℕ} {n : ℕ} → Prints room l o n o' → n ≤ length o'
prints-within {room} {l} {o} {o'} {n} x =
    decide (leb (length l) (length o))
    (λ t.
    let e = prints-fitting (leb-true (length l) (length o) t) x in
    rw e.1 (omega (arith, e.0, length-append l (drop (length l) o))))
    (λ t. let e : n ≡ 0 = x.answer-is ∙ ap (λ b. cond b (length l) 0) t in omega arith)

-- a longer buffer is long enough too
pub prints-looser : {a b : ℕ} {l o o' : List ℕ} {n : ℕ} → a ≤ b → Prints a l o n o' → Prints b l o n o'
prints-looser h x = record { fits = le_trans x.fits h; answer-is = x.answer-is; buffer-is = x.buffer-is }

-- one text after another
pub added_more : {a b r : ℕ} {k l t t₁ t₂ : List ℕ} → Added a k t t₁ → Added b l t₁ t₂ → a + b ≤ r → Added r (k ++ l) t t₂
added_more {a} {b} {r} {k} {l} {t} {t₁} {t₂} x y h =
    let f : length t₁ ≤ length t + a = x.fits in
    let g : length t₂ ≤ length t₁ + b = y.fits in
    record {
      text-is = y.text-is ∙ ap (λ u. u ++ l) x.text-is ∙ append_assoc t k l;
      fits = omega arith;
    }
