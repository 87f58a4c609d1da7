-- The theorems on the definitions of specs/Put.antt. Assumes nothing.
use Rattle.std.specs.Prelude.{◌≡◌, cond, refl, List, [], ◌∷◌, ◌++◌, ℕ, ◌+◌, ◌≤◌, ◌<◌, length, take, drop, set}
use Rattle.std.proofs.Common.{sym, ap, ◌∙◌, length-append, length-take-le, take_at, le-leb, zero-add, arith}
use Rattle.format.specs.Written.{written}
use Rattle.format.proofs.Written.{written_none, written-more, written_twice, written-first, written-fits}
use Rattle.lines.specs.Writing.{Prints, Added}
use Rattle.lines.specs.Put.{Put}

-- one byte
pub put_one : (o : List ℕ) (at x : ℕ) → at < length o → Put 1 o at (x ∷ []) (at + 1) (set o at x)
put_one o at x h =
    let e : at ≡ at + length {A = ℕ} [] = omega arith in
    record {
      fits = omega arith;
      next-is = refl;
      text-is = ap (λ d. set d at x) (written_none o at) ∙ ap (λ i. set (written o at []) i x) e ∙ written-more o at [] x (omega arith);
    }

-- one text after another
pub put-more : {a b : ℕ} {o o₁ o₂ k l : List ℕ} {at m n : ℕ} → at + a ≤ length o → Put a o at k m o₁ → Put b o₁ m l n o₂
    → Put (a + b) o at (k ++ l) n o₂
put-more {a} {b} {o} {o₁} {o₂} {k} {l} {at} {m} {n} room x y =
    let f : length k ≤ a = x.fits in
    let g : length l ≤ b = y.fits in
    let p : m ≡ at + length k = x.next-is in
    let q : n ≡ m + length l = y.next-is in
    record {
      fits = rw (length-append k l) (omega arith);
      next-is = omega (arith, length-append k l);
      text-is =
          y.text-is
          ∙ ap (λ i. written o₁ i l) p
          ∙ ap (λ t. written t (at + length k) l) x.text-is
          ∙ written_twice o at k l (omega arith);
    }

-- room for more
pub put-looser : {a b : ℕ} {o o₁ l : List ℕ} {at m : ℕ} → a ≤ b → Put a o at l m o₁ → Put b o at l m o₁
put-looser {a} {b} {o} {o₁} {l} {at} {m} h x =
    let f : length l ≤ a = x.fits in
    record { fits = omega arith; next-is = x.next-is; text-is = x.text-is }

-- the text at the start
pub put-text : {a : ℕ} {o o₁ l : List ℕ} {n : ℕ} → Put a o 0 l n o₁ → take n o₁ ≡ l
put-text {a} {o} {o₁} {l} {n} x =
    let e : n ≡ length l = x.next-is ∙ zero-add (length l) in
    ap (take n) (x.text-is ∙ written-first o l) ∙ take_at l (drop (length l) o) n (sym e)

-- a text that was put into a local buffer, and copied from there
pub prints-put : {room : ℕ} {o o₁ l t t' : List ℕ} {n r : ℕ} → Put room o 0 l n o₁ → Prints (length (take n o₁)) (take n o₁) t r t'
    → Prints room l t r t'
prints-put {room} {o} {o₁} {l} {t} {t'} {n} {r} x y =
    let z : Prints (length l) l t r t' = rw (put-text x) at y in
    record { fits = x.fits; answer-is = z.answer-is; buffer-is = z.buffer-is }

-- what a call writes into a buffer that it fits is put at its start
pub put-printed : {room : ℕ} {l o o' : List ℕ} {n : ℕ} → length l ≤ length o → Prints room l o n o' → Put room o 0 l n o'
put-printed {room} {l} {o} {o'} {n} f x = record {
  fits = x.fits;
  next-is = x.answer-is ∙ ap (λ b. cond b (length l) 0) (le-leb (length l) (length o) f) ∙ sym (zero-add (length l));
  text-is = x.buffer-is ∙ written-fits o 0 l (rw (zero-add (length l)) f);
}

-- what is put at the end of a text is added to it
pub added_put : {room : ℕ} {o o' l : List ℕ} {at n : ℕ} → at ≤ length o → Put room o at l n o' → Added room l (take at o) (take n o')
unfolding written
added_put {room} {o} {o'} {l} {at} {n} h x =
    let long : length (take at o ++ l) ≡ at + length l = simp (length-append, length-take-le at o h) in
    let e : take n o' ≡ take at o ++ l =
    ap (take n) x.text-is ∙ take_at (take at o ++ l) (drop (at + length l) o) n (long ∙ sym x.next-is) in
    let f : length l ≤ room = x.fits in
    record { text-is = e; fits = rw (e, length-append) (omega arith) }
