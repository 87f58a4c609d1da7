-- When two lists of bytes are the same, and the bytes from a place on. Assumes nothing.
use Rattle.std.specs.Prelude.{◌≡◌, refl, true, List, [], ◌∷◌, ℕ, suc, ◌+◌, ◌-◌, ◌<◌, eqb, length, get_or, take, drop}
use Rattle.std.proofs.Common.{ap, ◌∙◌, length-drop, take_all, drop-cons, eqb-true, eq-eqb, add-one, arith}
use Rattle.labeling.proofs.Decide.{not-both, and_left, and_right, and_both, Decides}
use Rattle.format.specs.Bytes.{same_bytes}

bytes-is : (k l : List ℕ) → same_bytes k l ≡ true → k ≡ l
bytes-is [] [] e = refl
bytes-is [] (y ∷ l) e = absurd (not-both e refl)
bytes-is (x ∷ k) [] e = absurd (not-both e refl)
bytes-is (x ∷ k) (y ∷ l) e =
    let h : x ≡ y = eqb-true x y (and_left _ _ e) in
    let t : k ≡ l = bytes-is k l (and_right (eqb x y) _ e) in
    λ i. h i ∷ t i

bytes-itself : (k : List ℕ) → same_bytes k k ≡ true
bytes-itself [] = refl
bytes-itself (x ∷ k) = and_both _ _ (eq-eqb x x refl) (bytes-itself k)

pub dec-bytes : (k l : List ℕ) → Decides (same_bytes k l) (k ≡ l)
dec-bytes k l = record { is = bytes-is k l; of = λ e. rw (← e) (bytes-itself k) }

-- the bytes from place k on, as code lends them
pub all_after : (k : ℕ) (l : List ℕ) → take (length l - k) (drop k l) ≡ drop k l
all_after k l = take_all (length l - k) (drop k l) (omega (arith, length-drop k l))

-- there are two bytes more, and then the rest
pub pair-after : (k : ℕ) (l : List ℕ) → k + 1 < length l → drop k l ≡ get_or l k 0 ∷ get_or l (k + 1) 0 ∷ drop (k + 2) l
pair-after k l h =
    let one : drop k l ≡ get_or l k 0 ∷ drop (k + 1) l = rw (add-one, drop-cons l k 0 (omega arith)) in
    let place : suc (k + 1) ≡ k + 2 = omega arith in
    let two : drop (k + 1) l ≡ get_or l (k + 1) 0 ∷ drop (k + 2) l =
    drop-cons l (k + 1) 0 h ∙ ap (λ n. get_or l (k + 1) 0 ∷ drop n l) place in
    one ∙ ap (λ t. get_or l k 0 ∷ t) two
