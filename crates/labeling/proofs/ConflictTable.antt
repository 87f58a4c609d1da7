-- The table of conflicts for a pair in height order is right, and a conflict is mutual. Assumes nothing.
use Rattle.std.specs.Prelude.{◌≡◌, ◌⊎◌, ◌↔◌, ℕ, ◌≤◌, ◌<◌, ltb}
use Rattle.std.proofs.Common.{sym, inl, inr, ltb-true, ltb-false, arith}
use Rattle.labeling.specs.Points.{Points, Choice, Distinct}
use Rattle.labeling.specs.Marks.{Shared}
use Rattle.labeling.specs.Conflicts.{Overlap, Hits, Conflict}
use Rattle.labeling.proofs.Decide.{decide, same}
use Rattle.labeling.proofs.Pixels.{shared-iff-conflict}
use Rattle.labeling.specs.ConflictTable.{Under, TableConflict}

-- of two different points on different pixels one is under the other
pub under-total : (P : Points) (i j : ℕ) → Distinct P → i < P.n → j < P.n → (i ≡ j → ⊥) → Under P i j ⊎ Under P j i
under-total P i j d l m ne =
    decide (ltb (P.row i) (P.row j))
    (λ a. inl (inl (ltb-true _ _ a)))
    (λ a. let x : P.row j ≤ P.row i = ltb-false _ _ a in
    same (P.row i) (P.row j)
    (λ q. decide (ltb (P.column i) (P.column j))
    (λ b. inl (inr (q, ltb-true _ _ b)))
    (λ b. let y : P.column j ≤ P.column i = ltb-false _ _ b in
    let apart : P.column i ≡ P.column j → ⊥ = λ c. ne (d.apart i j l m q c) in
    inr (inr (sym q, omega arith))))
    (λ other. inr (inl (omega arith))))

pub under-le : (P : Points) (i j : ℕ) → Under P i j → P.row i ≤ P.row j
under-le P i j (inl a) = omega arith
under-le P i j (inr a) = omega arith

-- the upper of two points never has its label on the lower one's leader
pub upper-never : (P : Points) (i j : ℕ) → Under P i j → Hits P j i → ⊥
upper-never P i j (inl a) o = omega arith
upper-never P i j (inr a) o = omega arith

-- of a pair in height order the table says just what Conflict says
pub conflict-iff-table : (P : Points) (S : Choice) (i j : ℕ) → 1 ≤ P.h → Under P i j → Conflict P S i j ↔ TableConflict P S i j
unfolding Conflict TableConflict
conflict-iff-table P S i j pos u =
    let l = under-le P i j u in
    decide (S i)
    (λ a. decide (S j) (λ b. rw (a, b) (λ o. omega arith, λ o. omega arith)) (λ b. rw (a, b) (λ o. omega arith, λ o. omega arith)))
    (λ a. decide (S j) (λ b. rw (a, b) (λ o. upper-never P i j u o, λ o. absurd o)) (λ b. rw (a, b) (λ o. o, λ o. o)))

-- (ii) TWO POINTS SHARE A MARKED PIXEL EXACTLY IF THE TABLE SAYS THAT THEY CONFLICT
pub shared-iff-table : (P : Points) (S : Choice) (i j : ℕ) → 1 ≤ P.w → 1 ≤ P.h → i < P.n → j < P.n → Under P i j
    → Shared P S i j ↔ TableConflict P S i j
shared-iff-table P S i j wide high l m u =
    let s = shared-iff-conflict P S i j wide l m in
    let t = conflict-iff-table P S i j high u in
    (λ x. t.0 (s.0 x), λ x. s.1 (t.1 x))

-- a conflict is mutual
pub conflict-sym : (P : Points) (S : Choice) (i j : ℕ) → Conflict P S i j → Conflict P S j i
unfolding Conflict
conflict-sym P S i j c =
    decide (S i)
    (λ a. decide (S j)
    (λ b. let o : Overlap P i j = rw (a, b) at c in rw (a, b) (omega arith))
    (λ b. let o : Hits P i j = rw (a, b) at c in rw (a, b) o))
    (λ a. decide (S j)
    (λ b. let o : Hits P j i = rw (a, b) at c in rw (a, b) o)
    (λ b. let o : P.row i ≡ P.row j = rw (a, b) at c in rw (a, b) (sym o)))
