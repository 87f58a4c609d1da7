-- The theorems on the definitions of specs/Places.antt. Assumes nothing.
use Rattle.std.specs.Prelude.{◌≡◌, ℕ, suc, ◌+◌, ◌<◌, ◌≤◌, refl}
use Rattle.std.proofs.Common.{ap, arith}
use Rattle.std.proofs.Math.Decide.{le_ind}
use Rattle.labeling.proofs.Decide.{less}
use Rattle.orders.specs.Sums.{tri, tet}
use Rattle.optimum.specs.Places.{entries, place_of}

-- HOW PLACES ARE APART

-- Triangular and tetrahedral numbers rise.
pub tri-mono : (a a' : ℕ) → a ≤ a' → tri a ≤ tri a'
unfolding tri
tri-mono a = le_ind (λ n. tri a ≤ tri n) (omega arith) (λ m h ih. omega arith)

pub tet-mono : (b b' : ℕ) → b ≤ b' → tet b ≤ tet b'
unfolding tet
tet-mono b = le_ind (λ n. tet b ≤ tet n) (omega arith) (λ m h ih. omega arith)

-- The places of a are below those of a', and the places of b below those of b'.
in-slab : (a a' q : ℕ) → q ≤ a → a < a' → tri (suc a) + q < tri (suc a')
unfolding tri
in-slab a a' q h k = omega (arith, tri-mono (suc (suc a)) (suc a') (omega arith))

in_row : (a b b' q : ℕ) → q ≤ a → a < b → b < b' → place_of a b q < tet (suc b')
unfolding tet place_of
in_row a b b' q h k l = omega (arith, tet-mono (suc (suc b)) (suc b') (omega arith), in-slab a b q h k)

-- The places of n points are below the tetrahedral number of n + 3, and those of 32 points below `entries`.
pub place-rows : (a b q n : ℕ) → q ≤ a → a < b → b ≤ suc n → place_of a b q < tet (n + 3)
place-rows a b q n h k l = let e : suc (n + 2) ≡ n + 3 = omega arith in rw e at (in_row a b (n + 2) q h k (omega arith))

pub tet-below : (k r : ℕ) → r ≡ tet k → k ≤ 35 → r ≤ entries
unfolding tet tri
tet-below k r e l = omega (arith, tet-mono k 35 l)

pub place-below : (a b q : ℕ) → q ≤ a → a < b → b ≤ 33 → place_of a b q < entries
place-below a b q h k l = omega (arith, place-rows a b q 32 h k (omega arith), tet-below 35 (tet 35) refl (omega arith))

-- Two entries at one place are one entry.
pub place_same : (a b q a' b' q' : ℕ) → q ≤ a → a < b → q' ≤ a' → a' < b' → place_of a b q ≡ place_of a' b' q'
    → (a ≡ a') × (b ≡ b') × (q ≡ q')
unfolding place_of
place_same a b q a' b' q' qa ab qa' ab' e =
    less b b' (λ l. absurd (omega (arith, in_row a b b' q qa ab l)))
    (λ m. less b' b (λ l. absurd (omega (arith, in_row a' b' b q' qa' ab' l)))
    (λ m'.
    let eb : b ≡ b' = omega arith in
    let et : tet (suc b) ≡ tet (suc b') = ap (λ (i : ℕ). tet (suc i)) eb in
    less a a' (λ l. absurd (omega (arith, in-slab a a' q qa l)))
    (λ k. less a' a (λ l. absurd (omega (arith, in-slab a' a q' qa' l)))
    (λ k'.
    let ea : a ≡ a' = omega arith in
    let er : tri (suc a) ≡ tri (suc a') = ap (λ (i : ℕ). tri (suc i)) ea in
    (ea, eb, omega arith)))))
