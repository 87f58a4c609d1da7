-- A list that ascends, by its places: each position is below n, and below the next. Assumes nothing.
use Rattle.std.proofs.Common.{◌≡◌, refl, ℕ, zero, suc, ◌<◌, true, false, Bool, List, [], ◌∷◌, length, get_or, add-one, arith, lt-ltb, ltb, ◌≤◌, sym}
use Rattle.std.proofs.lemmas.Bool.{ltb-true, ltb-false, true≢false, false≢true}
use Rattle.std.proofs.lemmas.Bool.Decides.{same_from_decides}
use Rattle.std.specs.Bool.{MatchBool}
use Rattle.std.specs.List.{AllWithin, HoldsAt, IsAllAdjacentAnswer}
use Rattle.format.specs.Ascending.{ascending}
use Rattle.format.proofs.InsideList.{ascending-head}

pub ascending_each : (n : ℕ) (l : List ℕ) → ascending n l ≡ true → (k : ℕ) → k < length l → get_or l k 0 < n
ascending_each n [] e k b = absurd (omega arith)
ascending_each n (i ∷ l) e zero b = (ascending-head n i l e).0
ascending_each n (i ∷ l) e (suc k) b = ascending_each n l (ascending-head n i l e).2 k (omega arith)

pub ascending_next : (n : ℕ) (l : List ℕ) → ascending n l ≡ true → (k : ℕ) → suc k < length l → get_or l k 0 < get_or l (suc k) 0
ascending_next n [] e k b = absurd (omega arith)
ascending_next n (i ∷ []) e k b = absurd (omega arith)
ascending_next n (i ∷ j ∷ l) e zero b = ltb-true i j (ascending-head n i (j ∷ l) e).1
ascending_next n (i ∷ j ∷ l) e (suc k) b = ascending_next n (j ∷ l) (ascending-head n i (j ∷ l) e).2 k (omega arith)

pub ascending_from : (n : ℕ) (l : List ℕ) → ((k : ℕ) → k < length l → get_or l k 0 < n)
    → ((k : ℕ) → suc k < length l → get_or l k 0 < get_or l (suc k) 0) → ascending n l ≡ true
unfolding ascending
ascending_from n [] each next = refl
ascending_from n (i ∷ []) each next = rw (lt-ltb i n (each 0 (omega arith))) refl
ascending_from n (i ∷ j ∷ l) each next =
    rw (
      lt-ltb i n (each 0 (omega arith)),
      lt-ltb i j (next 0 (omega arith)),
      ascending_from n (j ∷ l) (λ k b. each (suc k) (omega arith)) (λ k b. next (suc k) (omega arith)),
    ) refl

-- what `all` and `is_sorted_by` answer, together
pub all_first : (n : ℕ) (l : List ℕ) (r : Bool)
    → MatchBool r (AllWithin (λ x. x < n) l 0 (length l)) ((k : ℕ) × (k < length l) × HoldsAt (λ x. n ≤ x) l k)
    → r ≡ false → r ≡ ascending n l
all_first n l true by f = absurd (true≢false f)
all_first n l false by f =
    same_from_decides false (ascending n l)
    ((λ e. absurd (false≢true e)), (λ e. let h = ascending_each n l e by.0 by.1 in absurd (omega (arith, by.2 0))))
    ((λ e. e), (λ e. e))

pub then_sorted : (n : ℕ) (l : List ℕ) (all r : Bool)
    → MatchBool all (AllWithin (λ x. x < n) l 0 (length l)) ((k : ℕ) × (k < length l) × HoldsAt (λ x. n ≤ x) l k)
    → all ≡ true → IsAllAdjacentAnswer (λ x y b. b ≡ ltb x y) l r → r ≡ ascending n l
then_sorted n l false r by e sorted = absurd (false≢true e)
then_sorted n l true true by e sorted =
    sym (ascending_from n l (λ k b. by k 0 (omega arith) b)
    (λ k b. ltb-true _ _ (sym (rw (← add-one k) (sorted k 0 (omega arith))))))
then_sorted n l true false by e sorted =
    same_from_decides false (ascending n l) (
      (λ e. absurd (false≢true e)),
      (λ e.
          let h = ascending_next n l e sorted.0 (omega (arith, sorted.1)) in
          let g : get_or l (suc sorted.0) 0 ≤ get_or l sorted.0 0 = ltb-false _ _ (sym (rw (← add-one sorted.0) (sorted.2 0))) in
          absurd (omega arith)),
    )
    ((λ e. e), (λ e. e))
