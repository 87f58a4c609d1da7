-- What the questions of a mark ask, as facts: a list without a no is its count byte and an ascending list of positions below n. Assumes
-- nothing.
use Rattle.std.specs.Prelude.{◌≡◌, refl, Bool, true, List, [], ◌∷◌, ℕ, zero, suc, ◌+◌, ◌<◌, ltb, eqb, length, get_or}
use Rattle.std.proofs.Common.{eqb-true, eq-eqb, arith}
use Rattle.std.proofs.lemmas.Bool.{eqb-false}
use Rattle.labeling.proofs.Decide.{decide, same, Decides, dec-lt, dec-eq, dec-and, and_both, dec-true}
use Rattle.format.specs.Accepted.{NoneOf}
use Rattle.format.proofs.Accepted.{none-ask, none_left}
use Rattle.format.proofs.Asking.{none_then}
use Rattle.format.specs.Ascending.{below_next, ascending}
use Rattle.format.proofs.InsideList.{ascending-head}
use Rattle.mark_questions.specs.MarkQuestions.{positions, list_count, count_right, above_before, entry_no, entries_no, list_no}
use Rattle.mark_questions.specs.MarkQuestions.{loaded_list_no, mark_no}
use Rattle.mark_questions.specs.Lists.{Counted, Listed}

-- ENTRY BY ENTRY

-- What 32 and 33 ask of entry k.
Entry : ℕ → List ℕ → ℕ → Type 0
Entry n p k = (get_or p k 0 < n) × ((above_before p k ≡ true) × Unit {0})

none-entry : (n : ℕ) (p : List ℕ) (k : ℕ) → NoneOf (entry_no n p k) (Entry n p k)
unfolding entry_no Entry
none-entry n p k = none-ask 32 (omega arith) (dec-lt _ _) (none-ask 33 (omega arith) (dec-true _) none_left)

-- the first no of the first m entries is 0 exactly if each has none
none-entries : (n : ℕ) (p : List ℕ) (m : ℕ) → NoneOf (entries_no n p m) ((k : ℕ) → k < m → Entry n p k)
unfolding entries_no
none-entries n p zero = record { is = λ e k l. absurd (omega arith); of = λ f. refl }
none-entries n p (suc m) = record {
  is = λ e. decide (eqb (entries_no n p m) 0)
      (λ t k l. same k m
      (λ q. rw q ((none-entry n p m).is (rw t at e)))
      (λ ne. (none-entries n p m).is (eqb-true _ _ t) k (omega arith)))
      (λ t. let z : entries_no n p m ≡ 0 = rw t at e in absurd (eqb-false _ _ t z));
  of = λ f.
      let z : entries_no n p m ≡ 0 = (none-entries n p m).of (λ k l. f k (omega arith)) in
      rw (eq-eqb (entries_no n p m) 0 z) ((none-entry n p m).of (f m (omega arith)));
}

-- each entry is below n and above the one before it, exactly if the list is ascending
entries-up : (n : ℕ) (p : List ℕ) → ((k : ℕ) → k < length p → Entry n p k) → ascending n p ≡ true
unfolding ascending Entry
entries-up n [] f = refl
entries-up n (i ∷ q) f =
    and_both _ _ ((dec-lt i n).of (f 0 (omega arith)).0)
    (and_both _ _ (next q (λ l. (f 1 (omega arith)).1.0)) (entries-up n q (λ k l. ((f (suc k) (omega arith)).0, (above k l, tt)))))
  where
    next : (q : List ℕ) → (0 < length q → ltb i (get_or q 0 0) ≡ true) → below_next i q ≡ true
    next [] g = refl
    next (j ∷ q) g = g (omega arith)

    above : (k : ℕ) → k < length q → above_before q k ≡ true
    above zero l = refl
    above (suc k) l = (f (suc (suc k)) (omega arith)).1.0

up-entries : (n : ℕ) (p : List ℕ) → ascending n p ≡ true → (k : ℕ) → k < length p → Entry n p k
unfolding Entry
up-entries n [] e k l = absurd (omega arith)
up-entries n (i ∷ q) e zero l = ((ascending-head n i q e).0, (refl, tt))
up-entries n (i ∷ q) e (suc k) l =
    let h = ascending-head n i q e in
    let ih = up-entries n q h.2 in
    ((ih k (omega arith)).0, (above q k (omega arith) h.1 (ih k (omega arith)).1.0, tt))
  where
    above : (q : List ℕ) (k : ℕ) → k < length q → below_next i q ≡ true → above_before q k ≡ true → above_before (i ∷ q) (suc k) ≡ true
    above [] k l b f = absurd (omega arith)
    above (j ∷ q) zero l b f = b
    above (j ∷ q) (suc k) l b f = f

pub dec-counted : (l : List ℕ) → Decides (count_right l) (Counted l)
unfolding count_right
dec-counted l = dec-and (dec-lt 0 (length l)) (dec-eq (length l) (1 + get_or l 0 0))

pub none_list : (n : ℕ) (l : List ℕ) → NoneOf (list_no n l) (Listed n l)
unfolding list_no
none_list n l =
    let d = none-ask 31 (omega arith) (dec-counted l) (none-entries n (positions l) (list_count l)) in
    record {
      is = λ e. let x = d.is e in record { counted = x.0; up = entries-up n (positions l) x.1 };
      of = λ f. d.of (f.counted, up-entries n (positions l) f.up);
    }

-- a choice's list, with its count byte
pub choice-listed : (n : ℕ) (p : List ℕ) → ascending n p ≡ true → Listed n (length p ∷ p)
choice-listed n p e = record { counted = (omega arith, omega arith); up = e }

-- THE QUESTIONS OF A MARK

-- a list is marked exactly if a sheet is loaded, the list is well-formed, and a number is left
pub none-mark : (loaded : Bool) (n last : ℕ) (l : List ℕ)
    → NoneOf (mark_no loaded n last l) (((loaded ≡ true) × Listed n l) × ((last < 9999) × Unit {0}))
unfolding mark_no loaded_list_no
none-mark loaded n last l =
    none_then (none-ask 51 (omega arith) (record { is = λ e. e; of = λ e. e }) (none_list n l))
    (none-ask 52 (omega arith) (dec-lt last 9999) none_left)
