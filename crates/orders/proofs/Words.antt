-- The theorems on the definitions of specs/Words.antt. Assumes nothing.
use Rattle.std.specs.Prelude.{◌≡◌, refl, List, [], ◌∷◌, ◌≢◌, ℕ, zero, suc, ◌+◌, ◌*◌, ◌/◌, ◌%◌, ◌≤◌, ◌<◌, length, get_or, set}
use borrow.Rule.Slice.PartMut.{put_mid}
use Rattle.std.proofs.Common.{ap, arith, length-set, get_or-set_same, get_or-set_other}
use Rattle.labeling.proofs.Decide.{same}
use Rattle.orders.specs.Words.{value_at, with_value, four, FourSmall}

pub length-with : (t : List ℕ) (i x : ℕ) → length (with_value t i x) ≡ length t
unfolding with_value
length-with t i x = simp length-set

module _ (t : List ℕ) (k a b c d : ℕ) where
  four-other : (j : ℕ) → (j ≢ k) → (j ≢ k + 1) → (j ≢ k + 2) → (j ≢ k + 3) → get_or (four t k a b c d) j 0 ≡ get_or t j 0
  four-other j p q r s = simp get_or-set_other

  four-read : k + 3 < length t
      → (get_or (four t k a b c d) k 0 ≡ a) × (get_or (four t k a b c d) (k + 1) 0 ≡ b)
      × (get_or (four t k a b c d) (k + 2) 0 ≡ c) × (get_or (four t k a b c d) (k + 3) 0 ≡ d)
  four-read h =
      let p : k ≢ k + 1 = λ e. omega arith in
      let q : k ≢ k + 2 = λ e. omega arith in
      let r : k ≢ k + 3 = λ e. omega arith in
      let s : k + 1 ≢ k + 2 = λ e. omega arith in
      let u : k + 1 ≢ k + 3 = λ e. omega arith in
      let v : k + 2 ≢ k + 3 = λ e. omega arith in
      let h0 : k < length t = omega arith in
      let h1 : k + 1 < length (set t k a) = simp length-set (omega arith) in
      let h2 : k + 2 < length (set (set t k a) (k + 1) b) = simp length-set (omega arith) in
      let h3 : k + 3 < length (set (set (set t k a) (k + 1) b) (k + 2) c) = simp length-set (omega arith) in (
        simp (get_or-set_other, get_or-set_same),
        simp (get_or-set_other, get_or-set_same),
        simp (get_or-set_other, get_or-set_same),
        simp (get_or-set_same),
      )

-- Four cells copied to the front, and from k on.
front : (t : List ℕ) (a b c d : ℕ) → 3 < length t → put_mid 0 4 t (a ∷ b ∷ c ∷ d ∷ []) ≡ set (set (set (set t 0 a) 1 b) 2 c) 3 d
front [] a b c d h = absurd (omega arith)
front (p ∷ []) a b c d h = absurd (omega arith)
front (p ∷ q ∷ []) a b c d h = absurd (omega arith)
front (p ∷ q ∷ r ∷ []) a b c d h = absurd (omega arith)
front (p ∷ q ∷ r ∷ s ∷ t) a b c d h = refl

copied : (t : List ℕ) (k l m n a b c d : ℕ) → k + 3 < length t → l ≡ k + 1 → m ≡ k + 2 → n ≡ k + 3
    → put_mid k 4 t (a ∷ b ∷ c ∷ d ∷ []) ≡ set (set (set (set t k a) l b) m c) n d
copied [] k l m n a b c d h e f g = absurd (omega arith)
copied (p ∷ t) zero l m n a b c d h e f g = rw (e, f, g) (front (p ∷ t) a b c d (omega arith))
copied (p ∷ t) (suc k) zero m n a b c d h e f g = absurd (omega arith)
copied (p ∷ t) (suc k) (suc l) zero n a b c d h e f g = absurd (omega arith)
copied (p ∷ t) (suc k) (suc l) (suc m) zero a b c d h e f g = absurd (omega arith)
copied (p ∷ t) (suc k) (suc l) (suc m) (suc n) a b c d h e f g =
    ap (λ x. p ∷ x) (copied t k l m n a b c d (omega arith) (omega arith) (omega arith) (omega arith))

-- What was stored is read back.
pub value-with : (t : List ℕ) (i x : ℕ) → i * 4 + 3 < length t → value_at (with_value t i x) i ≡ x
unfolding value_at with_value
value-with t i x h =
    let r = four-read t (i * 4) (x % 65536) (x / 65536 % 65536) (x / 4294967296 % 65536) (x / 281474976710656) h in
    omega (arith, r.0, r.1, r.2, r.3)

-- No other place changes.
pub value-other : (t : List ℕ) (i j x : ℕ) → (j ≢ i) → value_at (with_value t i x) j ≡ value_at t j
unfolding value_at with_value
value-other t i j x h =
    let o = four-other t (i * 4) (x % 65536) (x / 65536 % 65536) (x / 4294967296 % 65536) (x / 281474976710656) in
    let ne : (e : ℕ) (f : ℕ) → e < 4 → f < 4 → j * 4 + e ≢ i * 4 + f = λ e f a b q. h (omega arith) in
    let at : (e : ℕ) → e < 4 → get_or (with_value t i x) (j * 4 + e) 0 ≡ get_or t (j * 4 + e) 0 =
    λ e l.
    o (j * 4 + e) (λ q. ne e 0 l (omega arith) (omega arith)) (ne e 1 l (omega arith)) (ne e 2 l (omega arith)) (ne e 3 l (omega arith)) in
    let z : j * 4 + 0 ≡ j * 4 = omega arith in
    let a0 = rw z at (at 0 (omega arith)) in
    omega (arith, a0, at 1 (omega arith), at 2 (omega arith), at 3 (omega arith))

-- A cell that isn't one of the four stays.
pub with-other : (t : List ℕ) (i x c : ℕ) → (i * 4 ≤ c → c < i * 4 + 4 → ⊥) → get_or (with_value t i x) c 0 ≡ get_or t c 0
unfolding with_value
with-other t i x c ne =
    four-other t (i * 4) (x % 65536) (x / 65536 % 65536) (x / 4294967296 % 65536) (x / 281474976710656) c
    (λ e. ne (omega arith) (omega arith)) (λ e. ne (omega arith) (omega arith))
    (λ e. ne (omega arith) (omega arith)) (λ e. ne (omega arith) (omega arith))

-- Those of a number of 64 bits are.
pub with-small : (t : List ℕ) (i x : ℕ) → i * 4 + 3 < length t → x < 18446744073709551616 → FourSmall (with_value t i x) (i * 4)
unfolding with_value
with-small t i x h l =
    let r = four-read t (i * 4) (x % 65536) (x / 65536 % 65536) (x / 4294967296 % 65536) (x / 281474976710656) h in
    record { first = omega (arith, r.0); second = omega (arith, r.1); third = omega (arith, r.2); fourth = omega (arith, r.3) }

-- So a number fixes its four cells.
pub value-cells : (s t : List ℕ) (i : ℕ) → FourSmall s (i * 4) → FourSmall t (i * 4) → value_at s i ≡ value_at t i
    → (c : ℕ) → i * 4 ≤ c → c < i * 4 + 4 → get_or s c 0 ≡ get_or t c 0
unfolding value_at
value-cells s t i a b e c l u =
    same c (i * 4)
    (λ z. rw z (omega (arith, a.first, b.first)))
    (λ p. same c (i * 4 + 1)
    (λ z. rw z (omega (arith, a.first, b.first, a.second, b.second)))
    (λ q. same c (i * 4 + 2)
    (λ z. rw z (omega (arith, a.first, b.first, a.second, b.second, a.third, b.third)))
    (λ r. let z : c ≡ i * 4 + 3 = omega arith in
    rw z (omega (arith, a.first, b.first, a.second, b.second, a.third, b.third)))))
