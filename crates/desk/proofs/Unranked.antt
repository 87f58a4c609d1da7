-- "Without a list every rank is 1 and all earlier answers hold" (document 02 (e)), at the desk: sums are counts; and a load with a list of
-- ones is one without a list. Assumes nothing.
use Rattle.std.specs.Prelude.{◌≡◌, refl, List, [], ◌∷◌, ◌++◌, ℕ, zero, suc, ◌<◌, length, None, Some, Ok, Err}
use Rattle.std.proofs.Common.{sym, ap, ap₂, ◌∙◌, subst, arith}
use Rattle.format.specs.Sheet.{point_count}
use Rattle.format.specs.RankList.{rank_in}
use Rattle.format.specs.Padded.{padded}
use Rattle.format.specs.Sizes.{most_points}
use Rattle.format.specs.MakingQuestions.{load_no}
use Rattle.format.specs.Unranked.{ones}
use Rattle.format.proofs.Unranked.{without-list, rank-one, ones-load, ones-best}
use Rattle.mark_questions.specs.MarkQuestions.{list_count}
use Rattle.desk.specs.Desk.{sum_of, list_sum, ranks_below, ranks_held, held_of, with_held, loaded_desk, load_result, load_answer_of, load_of, LoadAnswer}
use Rattle.desk.specs.Desk.{VerdictOutcome}
use Rattle.desk.specs.Calls.{Calls, Taken, last_taken}
use Rattle.desk.specs.Calls.{section_read}
use Rattle.desk.specs.DemandThree.{VerdictRight, BestList}
use Rattle.desk.proofs.DemandThreeProof.{demand-three}
use Rattle.desk.specs.declared.Desk.{Desk}
use Rattle.desk.specs.Unranked.{VerdictByCount, BestByCount, ByCount}

-- WITHOUT A LIST

-- the sum of a list is its count
sum-count : (l : List ℕ) → sum_of (rank_in None) l ≡ length l
unfolding sum_of rank_in
sum-count [] = refl
sum-count (p ∷ l) = omega (arith, sum-count l)

pub verdict-by-count : (s l : List ℕ) (v : VerdictOutcome) → VerdictRight s None l v → VerdictByCount s l v
verdict-by-count s l v r =
    let c : list_sum (rank_in None) l ≡ list_count l = sum-count _ in
    let b = (without-list s).best in
    record { valid = rw (c, b) at r.valid; at_most = rw (c, b) at r.at_most }

pub best-by-count : (s l : List ℕ) → BestList s None l → BestByCount s l
best-by-count s l r =
    let c : list_sum (rank_in None) l ≡ list_count l = sum-count _ in
    record {
      valid = r.valid;
      greatest = λ other v.
          let g = r.greatest other v in
          let o : list_sum (rank_in None) other ≡ list_count other = sum-count _ in
          omega arith;
      best = rw (c, (without-list s).best) at r.best;
    }

pub by_count : (calls : Calls) (s : List ℕ) → last_taken calls ≡ Some (record { sheet = s; ranks = None }) → ByCount calls s
by_count calls s e = record {
  mark = λ l z.
      let m = ((demand-three calls).mark l).marked z in
      let r = taken-right l m.verdict _ _ (sym m.last-accepted ∙ e) m.right in
      (m.verdict, m.outcome, verdict-by-count s l m.verdict r);
  plates = λ p m. best-by-count s (section_read p) ((demand-three calls).plates s None e p m);
}
  where
    taken-right : (l : List ℕ) (v : VerdictOutcome) (t u : Taken) → Some t ≡ Some u → VerdictRight t.sheet t.ranks l v
        → VerdictRight u.sheet u.ranks l v
    taken-right l v t u q r = let y : t ≡ u = cc in subst (λ (x : Taken). VerdictRight x.sheet x.ranks l v) y r

-- A LIST OF ONES

ranks-same : (rank other : ℕ → ℕ) (m : ℕ) → ((i : ℕ) → i < m → rank i ≡ other i) → ranks_below rank m ≡ ranks_below other m
unfolding ranks_below
ranks-same rank other zero e = refl
ranks-same rank other (suc m) e =
    ap₂ (λ l x. l ++ x ∷ []) (ranks-same rank other m (λ i l. e i (omega arith))) (e m (omega arith))

-- the load's result is that without a list, answer and desk
pub ones-loaded : (d : Desk) (s w : List ℕ) → load_of d s (Some (ones s)) w ≡ load_of d s None w
unfolding load_of
ones-loaded d s w =
    ap (λ k. load_result d s (Some (ones s)) (load_answer_of k)) (ones-load s (length w)) ∙ same (load_answer_of (load_no s None (length w)))
  where
    held : ranks_held s (Some (ones s)) ≡ ranks_held s None
    held = ap (padded most_points) (ranks-same (rank_in (Some (ones s))) (rank_in None) (point_count s) (rank-one s))

    same-desk : (a : LoadAnswer) → loaded_desk a d s (Some (ones s)) ≡ loaded_desk a d s None
    same-desk (Ok x) = λ i. with_held d (held_of s (held i) (ones-best s i))
    same-desk (Err x) = refl

    same : (a : LoadAnswer) → load_result d s (Some (ones s)) a ≡ load_result d s None a
    same a = λ i. record { desk = same-desk a i; answer = a }
