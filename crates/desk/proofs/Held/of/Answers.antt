-- `desk::Held::of` meets its contract. Assumes nothing.
use mathlib.Core.Path.{refl, ap, ◌∙◌}
use native.Mathlib.Omega.{arith}
use Rattle.std.specs.Prelude.{option_copied}
use Rattle.std.proofs.lemmas.Result.{err_from_is_err_and}
use Rattle.format.specs.Sizes.{most_points}
use Rattle.format.specs.Padded.{padded}
use Rattle.format.specs.RankList.{rank_in}
use Rattle.desk.specs.Desk.{ranks_below}
use Rattle.desk.proofs.Laws.{load_workspace, load_refused, made-few, made-short, load-made}
use Rattle.desk.proofs.Held.of.Goals as goal

pub returns-in_err-make_with-clause-held : goal.returns-in_err-make_with-clause-held
returns-in_err-make_with-clause-held c =
    let p = err_from_is_err_and c.from_residual.result c.from_residual.ensures.1 in
    rw (p.1, p.2) (load_refused _ _ _ _ _ _ _ refl c.in_err-make_with.ensures _ refl)

pub returns-in_err-make_with-clause-workspace : goal.returns-in_err-make_with-clause-workspace
returns-in_err-make_with-clause-workspace c = load_workspace _ _ _ _ _ _ _ refl c.in_err-make_with.ensures

pub padded_ranks-ranks-requires : goal.padded_ranks-ranks-requires
padded_ranks-ranks-requires c =
    let few = made-few _ _ _ _ _ _ _ refl c.in_ok-make_with.ensures _ refl in
    omega (arith, few, c.point_count.ensures)

pub padded_sheet-requires : goal.padded_sheet-requires
padded_sheet-requires c = made-short _ _ _ _ _ _ _ refl c.in_ok-make_with.ensures _ refl

pub returns-clause-held : goal.returns-clause-held
returns-clause-held c =
    let rank = rank_in (option_copied c.args.ranks) in
    load-made _ _ _ _ _ _ _ refl c.in_ok-make_with.ensures _ _ _ _ refl
    (c.padded_ranks-ranks.ensures ∙ ap (λ n. padded most_points (ranks_below rank n)) c.point_count.ensures) c.inside_sum-best.ensures
    c.padded_sheet.ensures

pub returns-clause-workspace : goal.returns-clause-workspace
returns-clause-workspace c = load_workspace _ _ _ _ _ _ _ refl c.in_ok-make_with.ensures
