-- Facts about outside pairs, for the chains that go through them. Assumes nothing.
use Rattle.std.specs.Prelude.{◌≡◌, refl, cond, List, [], ◌∷◌, ℕ, suc, ◌+◌, ◌/◌, max, eqb, length, slice_index, find, fold, Option, None, Some, MatchOption, unwrap_or, true, false}
use Rattle.std.proofs.Common.{ap, ◌∙◌, arith}
use Rattle.std.specs.Simd.{first_chunks}
use Rattle.std.specs.Option.{option_map}
use Rattle.lines.specs.Listing.{margins, used, columns_used, margin_of}

-- Whole pairs, as the code lends them.
abbrev pub pairs_of : List ℕ → List (List ℕ)
pairs_of l = first_chunks 2 (length l / 2) l

pair-first : (i k : ℕ) (l : List ℕ) → pairs_of (i ∷ k ∷ l) ≡ (i ∷ k ∷ []) ∷ pairs_of l
pair-first i k l = let e : length (i ∷ k ∷ l) / 2 ≡ suc (length l / 2) = omega arith in ap (λ n. first_chunks 2 n (i ∷ k ∷ l)) e

-- COLUMNS USED

-- What a pair asks for: its margin column plus 1.
abbrev pub next_column : List ℕ → ℕ
next_column p = slice_index p 1 + 1

used-more : (k : ℕ) (l : List ℕ) → used (k ∷ l) ≡ max (k + 1) (used l)
used-more k [] = omega arith
used-more k (j ∷ l) = omega arith

columns-from : (u : ℕ) (l : List ℕ) → fold (λ a p. max a (next_column p)) u (pairs_of l) ≡ max u (columns_used l)
unfolding columns_used
columns-from u [] = omega arith
columns-from u (i ∷ []) = omega arith
columns-from u (i ∷ k ∷ l) =
    ap (fold (λ a p. max a (next_column p)) u) (pair-first i k l)
    ∙ columns-from (max u (k + 1)) l
    ∙ (let e = used-more k (margins l) in omega arith)

pub columns-folded : (l : List ℕ) → fold (λ a p. max a (next_column p)) 0 (pairs_of l) ≡ columns_used l
columns-folded l = columns-from 0 l ∙ omega arith

-- THE MARGIN COLUMN OF A POSITION

pub margin-found : (i : ℕ) (l : List ℕ)
    → unwrap_or (option_map (λ p. slice_index p 1) (find (λ p. eqb i (slice_index p 0)) (pairs_of l))) 0 ≡ margin_of i l
unfolding margin_of
margin-found i [] = refl
margin-found i (j ∷ []) = refl
margin-found i (j ∷ k ∷ l) =
    let rest : Option (List ℕ) = find (λ p. eqb i (slice_index p 0)) (pairs_of l) in
    rw (pair-first j k l)
    (elim (eqb i j) as (λ b. unwrap_or (option_map (λ p. slice_index p 1) (cond b (Some (j ∷ k ∷ [])) rest)) 0 ≡ cond b k (margin_of i l))
    [ true ↦ refl | false ↦ margin-found i l ])

pub found-value : {A : Type 0} (o : Option A) (v : A → List ℕ) (r : ℕ) → MatchOption o (r ≡ 0) (λ x. r ≡ slice_index (v x) 1)
    → r ≡ unwrap_or (option_map (λ p. slice_index p 1) (option_map v o)) 0
found-value None v r e = e
found-value (Some x) v r e = e
