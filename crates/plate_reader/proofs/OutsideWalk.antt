-- Question 43 without a list of the outside points: the bytes are walked pair by pair, each held against the one before it. Where there
-- are as many pairs as outside points, the walk says just what 43 asks. Assumes nothing.
use Rattle.std.proofs.lemmas.Bool.{not-true}
use Rattle.std.specs.Prelude.{◌≡◌, true, false, ℕ, suc, ◌*◌, ◌≤◌, ◌<◌, ltb, eqb}
use Rattle.std.proofs.Math.Path.{refl, ap}
use Rattle.std.proofs.Common.{sym, ◌∙◌, arith}
use mathlib.Core.List.{List, [], ◌∷◌}
use Rattle.std.proofs.Math.ListN.{length}
use Rattle.labeling.specs.Points.{Points, Choice, Distinct, before, outside, next_margin, placed_from, placed}
use Rattle.labeling.proofs.Decide.{not-both, decide, same, Decides, dec-lt, dec-eq, dec-and, and_left, and_right, and_both}
use Rattle.labeling.proofs.Margin.{among-head, among-tail, among-rest, among_none, outside-lists}
use Rattle.labeling.specs.Order.{Before, First, Ordered}
use Rattle.labeling.proofs.Order.{dec-before, before-trans, before-asym, outside-is, outside-ordered}
use Rattle.format.proofs.Bytes.{dec-bytes}
use Rattle.format.specs.Plate.{pairs}
use Rattle.format.proofs.PlateLength.{placed-length, pairs-length}
use Rattle.plate_reader.specs.PlateQuestions.{pairs_right}
use Rattle.plate_reader.specs.OutsideWalk.{outside_point, pair_follows, pairs_after, pairs_follow, Within, Outsiders, After, Walked}

-- without the first of each, where the firsts are the same
within-rest : (P : Points) (i j : ℕ) (l k : List ℕ) → First P i l → Within (i ∷ l) (j ∷ k) → i ≡ j → Within l k
within-rest P i j l k f w e x a =
    among-rest x j k (w x (among-tail x i l a)) (λ z. before-asym P i i (rw (z ∙ sym e) at (f x a)) (rw (z ∙ sym e) at (f x a)))

-- without the first of k, where the firsts differ
within-later : (P : Points) (i j : ℕ) (l k : List ℕ) → First P i l → First P j k → Within (i ∷ l) (j ∷ k) → (i ≡ j → ⊥) → Within (i ∷ l) k
within-later P i j l k f g w ne x a =
    among-rest x j k (w x a)
    (λ z. before-asym P i j
    (f j (among-rest j i l (rw z at a) (λ q. ne (sym q))))
    (g i (among-rest i j k (w i (among-head i i l refl)) ne)))

within-shorter : (P : Points) (l k : List ℕ) → Ordered P l → Ordered P k → Within l k → length l ≤ length k
within-shorter P [] k o q w = omega arith
within-shorter P (i ∷ l) [] o q w = absurd (among_none i (w i (among-head i i l refl)))
within-shorter P (i ∷ l) (j ∷ k) o q w =
    same i j
    (λ e. let ih : length l ≤ length k = within-shorter P l k o.1 q.1 (within-rest P i j l k o.0 w e) in omega arith)
    (λ ne.
    let ih : suc (length l) ≤ length k = within-shorter P (i ∷ l) k o q.1 (within-later P i j l k o.0 q.0 w ne) in omega arith)

-- as many members as there are: the same list
within_all : (P : Points) (l k : List ℕ) → Ordered P l → Ordered P k → Within l k → length l ≡ length k → l ≡ k
within_all P [] [] o q w e = refl
within_all P [] (j ∷ k) o q w e = absurd (omega arith)
within_all P (i ∷ l) [] o q w e = absurd (omega arith)
within_all P (i ∷ l) (j ∷ k) o q w e =
    same i j
    (λ z. let t : l ≡ k = within_all P l k o.1 q.1 (within-rest P i j l k o.0 w z) (omega arith) in λ d. z d ∷ t d)
    (λ ne.
    let short : suc (length l) ≤ length k = within-shorter P (i ∷ l) k o q.1 (within-later P i j l k o.0 q.0 w ne) in
    absurd (omega arith))

dec-outside-point : (P : Points) (S : Choice) (i : ℕ) → Decides (outside_point P S i) ((i < P.n) × (S i ≡ false))
dec-outside-point P S i = dec-and (dec-lt i P.n) (record { is = not-true (S i); of = λ e. rw e refl })

after_is : (P : Points) (S : Choice) (j k : ℕ) (b : List ℕ) → pairs_after P S j k b ≡ true → After P S j k b
unfolding pairs_after placed_from pairs
after_is P S j k [] e = record {
  positions = [];
  ordered = (λ x a. absurd (among_none x a), tt);
  outsiders = λ x a. absurd (among_none x a);
  is = refl;
}
after_is P S j k (i ∷ []) e = absurd (not-both e refl)
after_is P S j k (i ∷ m ∷ b) e =
    let f = and_left (pair_follows P S j k i m) _ e in
    let g = and_right (outside_point P S i) _ f in
    let out : (i < P.n) × (S i ≡ false) = (dec-outside-point P S i).is (and_left _ _ f) in
    let ord : Before P j i = (dec-before P j i).is (and_left _ _ g) in
    let col : m ≡ next_margin P j k i = (dec-eq _ _).is (and_right (before P j i) _ g) in
    let r = after_is P S i m b (and_right (pair_follows P S j k i m) _ e) in
    record {
      positions = i ∷ r.positions;
      ordered = (λ x a. same x i (λ q. rw q ord) (λ ne. before-trans P j i x ord (r.ordered.0 x (among-rest x i _ a ne))), r.ordered);
      outsiders = λ x a. same x i (λ q. rw q out) (λ ne. r.outsiders x (among-rest x i _ a ne));
      is = ap (λ t. j ∷ k ∷ t) (r.is ∙ ap (λ c. pairs (placed_from P i c r.positions)) col);
    }

-- The bytes after position j in margin column k, for the positions l.
rest_pairs : Points → ℕ → ℕ → List ℕ → List ℕ
rest_pairs P j k [] = []
rest_pairs P j k (i ∷ l) = pairs (placed_from P i (next_margin P j k i) l)

pairs-from : (P : Points) (j k : ℕ) (l : List ℕ) → pairs (placed_from P j k l) ≡ j ∷ k ∷ rest_pairs P j k l
unfolding placed_from pairs rest_pairs
pairs-from P j k [] = refl
pairs-from P j k (i ∷ l) = refl

after-of : (P : Points) (S : Choice) (j k : ℕ) (l : List ℕ) → Ordered P (j ∷ l) → Outsiders P S l
    → pairs_after P S j k (rest_pairs P j k l) ≡ true
unfolding pairs_after rest_pairs
after-of P S j k [] o out = refl
after-of P S j k (i ∷ l) o out =
    rw (pairs-from P i (next_margin P j k i) l)
    (and_both _ _
    (and_both _ _ ((dec-outside-point P S i).of (out i (among-head i i l refl)))
    (and_both _ _ ((dec-before P j i).of (o.0 i (among-head i i l refl)))
    ((dec-eq (next_margin P j k i) (next_margin P j k i)).of refl)))
    (after-of P S i (next_margin P j k i) l o.1 (λ x a. out x (among-tail x i l a))))

follow-is : (P : Points) (S : Choice) (b : List ℕ) → pairs_follow P S b ≡ true → Walked P S b
unfolding pairs_follow placed pairs
follow-is P S [] e = record { positions = []; ordered = tt; outsiders = λ x a. absurd (among_none x a); is = refl }
follow-is P S (i ∷ []) e = absurd (not-both e refl)
follow-is P S (i ∷ m ∷ b) e =
    let e₁ = and_right (outside_point P S i) _ e in
    let out : (i < P.n) × (S i ≡ false) = (dec-outside-point P S i).is (and_left _ _ e) in
    let col : m ≡ 0 = (dec-eq m 0).is (and_left _ _ e₁) in
    let r = after_is P S i m b (and_right (eqb m 0) _ e₁) in
    record {
      positions = i ∷ r.positions;
      ordered = r.ordered;
      outsiders = λ x a. same x i (λ q. rw q out) (λ ne. r.outsiders x (among-rest x i _ a ne));
      is = r.is ∙ ap (λ c. pairs (placed_from P i c r.positions)) col;
    }

follow-of : (P : Points) (S : Choice) (l : List ℕ) → Ordered P l → Outsiders P S l → pairs_follow P S (pairs (placed P l)) ≡ true
unfolding pairs_follow placed pairs
follow-of P S [] o out = refl
follow-of P S (i ∷ l) o out =
    rw (pairs-from P i 0 l)
    (and_both _ _ ((dec-outside-point P S i).of (out i (among-head i i l refl)))
    (after-of P S i 0 l o (λ x a. out x (among-tail x i l a))))

-- THE THEOREM: with as many pairs as there are outside points, the walk answers 43.
-- an outside point is one of those that outside lists
listed : (P : Points) (S : Choice) (l : List ℕ) → Outsiders P S l → Within l (outside P S)
unfolding outside
listed P S l out x a = let o = out x a in outside-lists P S P.n x o.0 o.1

module _ (P : Points) (S : Choice) (b : List ℕ) (d : Distinct P) (many : length b ≡ 2 * length (outside P S)) where
  outside-in-order : Ordered P (outside P S)
  unfolding outside
  outside-in-order = outside-ordered P S P.n d (omega arith)

  outside-outsiders : Outsiders P S (outside P S)
  unfolding outside
  outside-outsiders = outside-is P S P.n

  follow-right : pairs_follow P S b ≡ true → pairs_right P S b ≡ true
  unfolding pairs_right
  follow-right e =
      let r = follow-is P S b e in
      let l = r.positions in
      let x : length b ≡ length (pairs (placed P l)) = ap length r.is in
      let n : length l ≡ length (outside P S) = omega (arith, pairs-length (placed P l), placed-length P l) in
      let q : l ≡ outside P S = within_all P l (outside P S) r.ordered outside-in-order (listed P S l r.outsiders) n in
      (dec-bytes _ _).of (r.is ∙ ap (λ k. pairs (placed P k)) q)

  right-follow : pairs_right P S b ≡ true → pairs_follow P S b ≡ true
  unfolding pairs_right
  right-follow e =
      let q : b ≡ pairs (placed P (outside P S)) = (dec-bytes _ _).is e in
      rw q (follow-of P S (outside P S) outside-in-order outside-outsiders)

  pub walk-right : pairs_follow P S b ≡ pairs_right P S b
  walk-right =
      decide (pairs_right P S b) (λ e. right-follow e ∙ sym e)
      (λ e. decide (pairs_follow P S b) (λ f. absurd (not-both (follow-right f) e)) (λ f. f ∙ sym e))

-- ONLY POSITIONS BELOW n MATTER to the walk.
module _ (P : Points) (S R : Choice) (e : (i : ℕ) → i < P.n → S i ≡ R i) where
  outside-point-same : (i : ℕ) → outside_point P S i ≡ outside_point P R i
  outside-point-same i = decide (ltb i P.n) (λ t. rw (t, e i ((dec-lt i P.n).is t))) (λ t. rw t)

  after_same : (j k : ℕ) (b : List ℕ) → pairs_after P S j k b ≡ pairs_after P R j k b
  unfolding pairs_after
  after_same j k [] = refl
  after_same j k (i ∷ []) = refl
  after_same j k (i ∷ m ∷ b) = rw (outside-point-same i, after_same i m b)

  pub follow-same : (b : List ℕ) → pairs_follow P S b ≡ pairs_follow P R b
  unfolding pairs_follow
  follow-same [] = refl
  follow-same (i ∷ []) = refl
  follow-same (i ∷ m ∷ b) = rw (outside-point-same i, after_same i m b)
