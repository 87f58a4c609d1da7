-- Document 01's cases P1 to P10, and of document 02 labels at the map's edges (a), stacked outer labels (b), shared rows (c), ties (d) and
-- ranks (e): each case of specs/Cases.antt is right. The tests only compute it. Assumes nothing.
use Rattle.std.specs.Prelude.{Option, None, Some, ◌≡◌, refl, Bool, true, false, cond, ◌&&◌, List, [], ◌∷◌, ◌++◌, ℕ, T, eqb}
use Rattle.std.proofs.Common.{sym, ap, ◌∙◌, eqb-true}
use Rattle.labeling.specs.Points.{before, insert, outside_below, outside, next_margin, placed_from, placed, among}
use Rattle.labeling.specs.Conflicts.{conflict_b, apart_b, within_b, valid_b, every}
use Rattle.labeling.proofs.Decide.{not-both, and_left, and_right}
use Rattle.labeling.proofs.Pixels.{dec-valid}
use Rattle.labeling.specs.Best.{weight_below, weight, put, best_from, best, best_choice_from, best_choice}
use Rattle.format.specs.RankList.{rank_in, rank_count_right, ranks_allowed, ranks_no}
use Rattle.format.specs.Sheet.{two_bytes, point_count, points_of, unlike_earlier, point_no, points_no, questions_no, sheet_no, plate_sheet_no}
use Rattle.format.specs.Accepted.{Accepted}
use Rattle.format.proofs.Accepted.{accepted}
use Rattle.format.specs.Plate.{choice_of, inside_below, inside_section, pairs, outside_section, plate_of, best_plate}
use Rattle.format.specs.MakingQuestions.{choice_no}
use Rattle.format.specs.Bytes.{same_bytes}
use Rattle.format.proofs.Bytes.{dec-bytes}
use Rattle.format.specs.Ascending.{ascending}
use Rattle.clash.specs.declared.ClashKind.{ClashKind}
use Rattle.clash.specs.declared.ClashKind.TheVariants.{Labels, LabelAndLeader, Overhang, TwoLeaders}
use Rattle.clash.specs.declared.Clash.{Clash}
use Rattle.clash.specs.FirstClash.{between, pair_clash, own_clash, first_of, later_clash, clash_of, first_clash}
use Rattle.clash.proofs.ClashPixels.{first-clash-right}
use Rattle.plate_reader.specs.PlateQuestions.{sheet_of, inside_list, outside_pairs, sections_fit, pairs_right, sections_no, plate_no}
pub use Rattle.plate_reader.specs.Cases.{Expected, made_with, valid, clashes, made, Case, at, sheet, sheet1, sheet2, sheet8}
pub use Rattle.plate_reader.specs.Cases.{stacked, touching, framed, sheet_of_five, ridge, cases, Says, read_no, Right, Each}

-- THE TESTS

-- The place of each kind in the enum, and back.
abbrev kind_place : ClashKind → ℕ
kind_place Labels = 0
kind_place LabelAndLeader = 1
kind_place Overhang = 2
kind_place TwoLeaders = 3

abbrev kind_at : ℕ → ClashKind
kind_at k = cond (eqb k 0) Labels (cond (eqb k 1) LabelAndLeader (cond (eqb k 2) Overhang TwoLeaders))

abbrev same_clash : Option Clash → ℕ → ℕ → ClashKind → Bool
same_clash None i j k = false
same_clash (Some c) i j k = eqb c.first i && (eqb c.second j && eqb (kind_place c.kind) (kind_place k))

abbrev says_b : Expected → Case → Bool
says_b (made_with r) c =
    eqb (ranks_no (point_count c.sheet) r) 0
    && (eqb (choice_no c.sheet) 0 && same_bytes (best_plate c.sheet r) (c.sheet ++ c.added))
says_b valid c = valid_b (points_of c.sheet) (choice_of c.inside)
says_b (clashes i j k) c = same_clash (first_clash (points_of c.sheet) (choice_of c.inside)) i j k

abbrev right_b : Case → Bool
right_b c =
    let s = c.sheet in
    let S = choice_of c.inside in
    eqb (sheet_no s) 0
    && (says_b c.expected c
    && (same_bytes (plate_of s S) (s ++ c.added) && eqb (plate_no (s ++ c.added)) (read_no c.expected)))

abbrev each_b : List Case → Bool
each_b [] = true
each_b (c ∷ cs) = right_b c && each_b cs

kind-back : (k : ClashKind) → kind_at (kind_place k) ≡ k
kind-back Labels = refl
kind-back LabelAndLeader = refl
kind-back Overhang = refl
kind-back TwoLeaders = refl

same_kind : (m k : ClashKind) → eqb (kind_place m) (kind_place k) ≡ true → m ≡ k
same_kind m k e = sym (kind-back m) ∙ ap kind_at (eqb-true (kind_place m) (kind_place k) e) ∙ kind-back k

same-clash : (c : Option Clash) (i j : ℕ) (k : ClashKind) → same_clash c i j k ≡ true → c ≡ between i j k
same-clash None i j k e = absurd (not-both e refl)
same-clash (Some c) i j k e =
    let e₁ = and_right (eqb c.first i) _ e in
    let p : c.first ≡ i = eqb-true c.first i (and_left _ _ e) in
    let q : c.second ≡ j = eqb-true c.second j (and_left _ _ e₁) in
    let r : c.kind ≡ k = same_kind c.kind k (and_right (eqb c.second j) _ e₁) in
    λ d. between (p d) (q d) (r d)

says : (x : Expected) (c : Case) → Accepted c.sheet → says_b x c ≡ true → Says x c
says (made_with r) c a e =
    let e₁ = and_right (eqb (ranks_no (point_count c.sheet) r) 0) _ e in (
      eqb-true _ _ (and_left _ _ e),
      eqb-true _ _ (and_left _ _ e₁),
      (dec-bytes _ _).is (and_right (eqb (choice_no c.sheet) 0) _ e₁),
    )
says valid c a e = (dec-valid (points_of c.sheet) (choice_of c.inside) a.proper.label-width.0).is e
says (clashes i j k) c a e = ((first-clash-right c.sheet (choice_of c.inside) a).between i j k).0 (same-clash _ i j k e)

right : (c : Case) → right_b c ≡ true → Right c
right c e =
    let s = c.sheet in
    let S = choice_of c.inside in
    let e₁ = and_right (eqb (sheet_no s) 0) _ e in
    let e₂ = and_right (says_b c.expected c) _ e₁ in
    let ok : sheet_no s ≡ 0 = eqb-true _ _ (and_left _ _ e) in
    record {
      accepted = ok;
      expected = says c.expected c (accepted s ok) (and_left _ _ e₁);
      plate = (dec-bytes _ _).is (and_left _ _ e₂);
      read = eqb-true _ _ (and_right (same_bytes (plate_of s S) (s ++ c.added)) _ e₂);
    }

each : (cs : List Case) → each_b cs ≡ true → Each cs
each [] e = tt
each (c ∷ cs) e = (right c (and_left _ _ e), each cs (and_right (right_b c) _ e))

-- the computation
all_pass : T (each_b cases)
unfolding two_bytes unlike_earlier point_no points_no questions_no sheet_no plate_sheet_no inside_below inside_section
    pairs outside_section plate_of among before insert outside_below outside next_margin placed_from placed conflict_b
    apart_b within_b valid_b every weight_below weight put best_from best best_choice_from best_choice rank_in
    rank_count_right ranks_allowed ranks_no best_plate pair_clash own_clash first_of later_clash clash_of first_clash
    sheet_of inside_list outside_pairs sections_fit ascending pairs_right sections_no plate_no
all_pass = tt

T-is : (b : Bool) → T b → b ≡ true
T-is true t = refl
T-is false t = absurd t

-- THE TABLE'S THEOREM: every case is right.
pub all_right : Each cases
all_right = each cases (T-is (each_b cases) all_pass)
