-- The laws of numbers in decimal. Assumes nothing.
use Rattle.std.specs.Prelude.{◌≡◌, refl, List, [], ◌∷◌, ◌++◌, ℕ, zero, suc, ◌+◌, ◌-◌, ◌*◌, ◌/◌, ◌%◌, ◌≤◌, ◌<◌, ltb, length, get_or}
use Rattle.std.proofs.Common.{sym, ap, ◌∙◌, length-append, get_or-append-add, ltb-true, ltb-false, lt-ltb, le-ltb, arith}
use Rattle.std.proofs.Math.ListN.{get_or-append}
use Rattle.labeling.proofs.Decide.{decide, same}
use Rattle.lines.specs.Text.{digit, decimal_in, decimal, read_from}
use Rattle.lines.specs.Decimal.{InDecimal}

-- THE STEPS: a number below 10 is one digit, any other has its last digit at its end

in_small : (k n : ℕ) → n < 10 → decimal_in (suc k) n ≡ digit n ∷ []
unfolding decimal_in
in_small k n s = rw (lt-ltb n 10 s)

in_step : (k n : ℕ) → 10 ≤ n → decimal_in (suc k) n ≡ decimal_in k (n / 10) ++ digit (n % 10) ∷ []
unfolding decimal_in
in_step k n s = rw (le-ltb n 10 s)

-- room for more digits than there are changes nothing
in-enough : (k m n : ℕ) → n < k → n < m → decimal_in k n ≡ decimal_in m n
in-enough zero m n l g = absurd (omega arith)
in-enough (suc k) zero n l g = absurd (omega arith)
in-enough (suc k) (suc m) n l g =
    decide (ltb n 10)
    (λ e. let s : n < 10 = ltb-true n 10 e in in_small k n s ∙ sym (in_small m n s))
    (λ e.
    let s : 10 ≤ n = ltb-false n 10 e in
    in_step k n s ∙ ap (λ t. t ++ digit (n % 10) ∷ []) (in-enough k m (n / 10) (omega arith) (omega arith)) ∙ sym (in_step m n s))

pub decimal-small : (n : ℕ) → n < 10 → decimal n ≡ digit n ∷ []
unfolding decimal
decimal-small n s = in_small n n s

pub decimal_step : (n : ℕ) → 10 ≤ n → decimal n ≡ decimal (n / 10) ++ digit (n % 10) ∷ []
unfolding decimal
decimal_step n s = in_step n n s ∙ ap (λ t. t ++ digit (n % 10) ∷ []) (in-enough n (suc (n / 10)) (n / 10) (omega arith) (omega arith))

-- what holds of digits and goes on from a number to one with a digit more holds of every number
module _ (P : ℕ → List ℕ → Type 0) (small : (n : ℕ) → n < 10 → P n (digit n ∷ []))
    (step : (n : ℕ) (l : List ℕ) → 10 ≤ n → P (n / 10) l → P n (l ++ digit (n % 10) ∷ [])) where
  by-digits-in : (k n : ℕ) → n < k → P n (decimal n)
  by-digits-in zero n l = absurd (omega arith)
  by-digits-in (suc k) n l =
      decide (ltb n 10)
      (λ e. let s : n < 10 = ltb-true n 10 e in rw (decimal-small n s) (small n s))
      (λ e.
      let s : 10 ≤ n = ltb-false n 10 e in rw (decimal_step n s) (step n (decimal (n / 10)) s (by-digits-in k (n / 10) (omega arith))))

  by_digits : (n : ℕ) → P n (decimal n)
  by_digits n = by-digits-in (suc n) n (omega arith)

-- a digit at the end
read_more : (m : ℕ) (l : List ℕ) (c : ℕ) → read_from m (l ++ c ∷ []) ≡ 10 * read_from m l + (c - 48)
read_more m [] c = refl
read_more m (b ∷ l) c = read_more (10 * m + (b - 48)) l c

last-at : (l : List ℕ) (c : ℕ) → get_or (l ++ c ∷ []) (length l) 0 ≡ c
last-at l c = let e : length l ≡ length l + 0 = omega arith in ap (λ i. get_or (l ++ c ∷ []) i 0) e ∙ get_or-append-add l (c ∷ []) 0 0

-- the first digit of a number that isn't 0
first-digit : (n : ℕ) (l : List ℕ) → 1 ≤ n → InDecimal n l → 49 ≤ get_or l 0 0
first-digit n [] s d = absurd (let p = d.some in omega arith)
first-digit n (b ∷ []) s d = let r : 10 * 0 + (b - 48) ≡ n = d.reads in omega arith
first-digit n (b ∷ c ∷ l) s d = d.no-leading-zero (omega arith)

one-digit : (n : ℕ) → n < 10 → InDecimal n (digit n ∷ [])
one-digit n s = record {
  reads = omega arith;
  some = omega arith;
  digits = λ i l. let e : i ≡ 0 = omega arith in rw e (omega arith, omega arith);
  no-leading-zero = λ l. absurd (omega arith);
}

one_more : (n : ℕ) (l : List ℕ) → 10 ≤ n → InDecimal (n / 10) l → InDecimal n (l ++ digit (n % 10) ∷ [])
one_more n l s d =
    let c = digit (n % 10) in
    let long : length (l ++ c ∷ []) ≡ length l + 1 = length-append l (c ∷ []) in
    record {
      reads = let r : read_from 0 l ≡ n / 10 = d.reads in omega (arith, read_more 0 l c);
      some = omega arith;
      digits = λ i h. same i (length l)
          (λ e. rw (e, last-at l c) (omega arith, omega arith))
          (λ ne. rw (get_or-append l (c ∷ []) 0 i (omega arith)) (d.digits i (omega arith)));
      no-leading-zero = λ h. rw (get_or-append l (c ∷ []) 0 0 (let p = d.some in omega arith)) (first-digit (n / 10) l (omega arith) d);
    }

pub decimal-right : (n : ℕ) → InDecimal n (decimal n)
decimal-right = by_digits InDecimal one-digit one_more

-- HOW LONG: a number of 16 bits has at most 5 digits

one-long : (n : ℕ) → n < 10 → length (decimal n) ≡ 1
one-long n s = rw (decimal-small n s)

pub one-longer : (n : ℕ) → 10 ≤ n → length (decimal n) ≡ length (decimal (n / 10)) + 1
one-longer n s = rw (decimal_step n s, length-append)

longer : (b k : ℕ) → ((n : ℕ) → n < b → length (decimal n) ≤ k) → 1 ≤ k → (n : ℕ) → n < 10 * b → length (decimal n) ≤ suc k
longer b k short some n l =
    decide (ltb n 10)
    (λ e. omega (arith, one-long n (ltb-true n 10 e)))
    (λ e. let s : 10 ≤ n = ltb-false n 10 e in omega (arith, one-longer n s, short (n / 10) (omega arith)))

pub decimal-length : (n : ℕ) → n < 65536 → length (decimal n) ≤ 5
decimal-length n l =
    let one : (m : ℕ) → m < 10 → length (decimal m) ≤ 1 = λ m s. omega (arith, one-long m s) in
    longer 10000 4 (longer 1000 3 (longer 100 2 (longer 10 1 one (omega arith)) (omega arith)) (omega arith)) (omega arith) n (omega arith)
