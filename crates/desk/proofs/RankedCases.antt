-- Loads and marks with ranks, worked out by hand (document 02 (e)): label 4 by 2, points (4,3) and (3,4), of which one can be inside, with
-- the ranks 1 and 2. Assumes nothing.
use Rattle.std.specs.Prelude.{◌≡◌, refl, List, [], ◌∷◌, ◌++◌, ℕ, length, Option, None, Some, Ok}
use Rattle.std.proofs.Math.Path.{ap, ap₂}
use Rattle.std.proofs.Common.{◌∙◌, arith}
use Rattle.std.proofs.Math.ListN.{replicate}
use Rattle.labeling.specs.Points.{among}
use Rattle.labeling.specs.Conflicts.{conflict_b, apart_b, within_b, valid_b, every}
use Rattle.labeling.specs.Best.{weight_below, weight, put, best_from, best, best_sum}
use Rattle.format.specs.Sizes.{workspace_cells}
use Rattle.format.specs.Sheet.{two_bytes, points_of, unlike_earlier, point_no, points_no, questions_no, sheet_no}
use Rattle.format.specs.Padded.{padded}
use Rattle.format.specs.RankList.{rank_in, rank_count_right, ranks_allowed, ranks_no}
use Rattle.format.specs.MakingQuestions.{load_asked_no, load_no}
use Rattle.clash.specs.FirstClash.{pair_clash, own_clash, first_of, later_clash, clash_of, first_clash}
use Rattle.clash.specs.declared.ClashKind.TheVariants.{Labels}
use Rattle.plate_reader.proofs.Cases.{at, sheet}
use Rattle.mark_questions.specs.MarkQuestions.{count_right, entry_no, entries_no, list_no, loaded_list_no, mark_no}
use Rattle.desk.specs.Desk.{sum_of, fresh, ranks_below, ranks_held, held_of, with_held, verdict_at, mark_of}
use Rattle.desk.proofs.DeskLaws.{load-yes, load-no}
use Rattle.desk.specs.Calls.{load, Calls, no_calls, ◌and_then◌, desk_after}
use Rattle.desk.specs.declared.Desk.{Desk}
use Rattle.desk.specs.declared.Verdict.TheVariants.{Valid, Clash}

abbrev pair : List ℕ
pair = sheet 4 2 2 (at 1 4 3 (at 2 3 4 []))

abbrev ranks : List ℕ
ranks = 2 ∷ 1 ∷ 2 ∷ []

-- A desk with the pair, these ranks in it and this best sum.
abbrev holding : List ℕ → ℕ → Desk
holding r best = with_held fresh (held_of pair (r ++ replicate 30 0) best)

-- THE LOADS, with a workspace that is large enough: with the list, without one, with an empty list, and with a rank 0 in it.
numbers : (load_no pair (Some ranks) workspace_cells ≡ 0) × (load_no pair None workspace_cells ≡ 0)
    × (load_no pair (Some []) workspace_cells ≡ 62) × (load_no pair (Some (2 ∷ 0 ∷ 2 ∷ [])) workspace_cells ≡ 63)
unfolding two_bytes every unlike_earlier point_no points_no questions_no sheet_no rank_in rank_count_right ranks_allowed ranks_no
    load_asked_no load_no conflict_b apart_b within_b valid_b weight_below weight put best_from best
numbers = (refl, refl, refl, refl)

-- The best sums: 2 with the list, 1 without.
sums : (best_sum (points_of pair) (rank_in (Some ranks)) ≡ 2) × (best_sum (points_of pair) (rank_in None) ≡ 1)
unfolding two_bytes every rank_in conflict_b apart_b within_b valid_b weight_below weight put best_from best best_sum
sums = (refl, refl)

-- The ranks as the desk keeps them.
kept : (ranks_held pair (Some ranks) ≡ 1 ∷ 2 ∷ replicate 30 0) × (ranks_held pair None ≡ 1 ∷ 1 ∷ replicate 30 0)
unfolding rank_in padded ranks_below
kept = (refl, refl)

-- THE MARKS at a desk with the list's ranks: the first point alone, the second alone, both
marks : ((mark_of (holding (1 ∷ 2 ∷ []) 2) (1 ∷ 0 ∷ [])).answer ≡ Ok (record { number = 1; verdict = Valid 1 1 }))
    × ((mark_of (holding (1 ∷ 2 ∷ []) 2) (1 ∷ 1 ∷ [])).answer ≡ Ok (record { number = 1; verdict = Valid 2 0 }))
    × ((mark_of (holding (1 ∷ 2 ∷ []) 2) (2 ∷ 0 ∷ 1 ∷ [])).answer ≡ Ok (record { number = 1; verdict = Clash 0 1 Labels }))
unfolding two_bytes among padded pair_clash own_clash first_of later_clash clash_of first_clash
    sum_of count_right entry_no entries_no list_no loaded_list_no mark_no verdict_at mark_of
marks = (refl, refl, refl)

-- With a workspace w that is just large enough.
module _ (w : List ℕ) (cells : length w ≡ workspace_cells) where
  abbrev loaded : Calls
  loaded = no_calls and_then load pair (Some ranks) w

  -- What the load with the list comes to, and what comes after it.
  pub record Ranked : Type 0 where
    -- the ranks are kept, and the best is a sum of them
    pub desk : desk_after loaded ≡ holding (1 ∷ 2 ∷ []) 2
    -- the first point alone falls short by 1, the second doesn't, and both clash
    pub first : (mark_of (desk_after loaded) (1 ∷ 0 ∷ [])).answer ≡ Ok (record { number = 1; verdict = Valid 1 1 })
    pub second : (mark_of (desk_after loaded) (1 ∷ 1 ∷ [])).answer ≡ Ok (record { number = 1; verdict = Valid 2 0 })
    pub both : (mark_of (desk_after loaded) (2 ∷ 0 ∷ 1 ∷ [])).answer ≡ Ok (record { number = 1; verdict = Clash 0 1 Labels })
    -- a load that is refused for its list, with 62 or 63, leaves the ranks
    pub refused-62 : desk_after (loaded and_then load pair (Some []) w) ≡ desk_after loaded
    pub refused-63 : desk_after (loaded and_then load pair (Some (2 ∷ 0 ∷ 2 ∷ [])) w) ≡ desk_after loaded
    -- a load without a list doesn't
    pub unranked : desk_after (loaded and_then load pair None w) ≡ holding (1 ∷ 1 ∷ []) 1

  number : (r : Option (List ℕ)) → load_no pair r (length w) ≡ load_no pair r workspace_cells
  number r = ap (load_no pair r) cells

  pub ranked : Ranked
  unfolding desk_after
  ranked =
      let yes-list = load-yes fresh pair (Some ranks) w (number (Some ranks) ∙ numbers.0) in
      let at : desk_after loaded ≡ holding (1 ∷ 2 ∷ []) 2 =
      ap (λ x. x.desk) yes-list ∙ ap₂ (λ l b. with_held fresh (held_of pair l b)) kept.0 sums.0 in
      record {
        desk = at;
        first = ap (λ d. (mark_of d (1 ∷ 0 ∷ [])).answer) at ∙ marks.0;
        second = ap (λ d. (mark_of d (1 ∷ 1 ∷ [])).answer) at ∙ marks.1;
        both = ap (λ d. (mark_of d (2 ∷ 0 ∷ 1 ∷ [])).answer) at ∙ marks.2;
        refused-62 =
            ap (λ x. x.desk) (load-no (desk_after loaded) pair (Some []) w (λ z. (let e = number (Some []) ∙ numbers.2 in omega arith)));
        refused-63 = ap (λ x. x.desk) (load-no (desk_after loaded) pair (Some (2 ∷ 0 ∷ 2 ∷ [])) w
            (λ z. (let e = number (Some (2 ∷ 0 ∷ 2 ∷ [])) ∙ numbers.3 in omega arith)));
        unranked =
            ap (λ x. x.desk) (load-yes (desk_after loaded) pair None w (number None ∙ numbers.1))
            ∙ ap₂ (λ l b. with_held (desk_after loaded) (held_of pair l b)) kept.1 sums.1
            ∙ ap (λ d. with_held d (held_of pair (1 ∷ 1 ∷ replicate 30 0) 1)) at;
      }
