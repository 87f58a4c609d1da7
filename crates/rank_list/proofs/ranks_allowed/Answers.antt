-- `rank_list::ranks_allowed` meets its contract. Assumes nothing.
use Rattle.std.proofs.Common.{rules, tests, refl, ◌∙◌, arith, Some}
use Rattle.std.proofs.lemmas.Iterator.{YieldsList-from_range}
use Rattle.std.proofs.lemmas.Iterator.Search.{all_from_yields_List}
use Rattle.format.specs.Sheet.{up_to}
use Rattle.format.specs.RankList.{rank_in, ranks_allowed}
use Rattle.rank_list.proofs.Ranges.{all-every}
use Rattle.rank_list.proofs.ranks_allowed.Goals as goal

pub returns : goal.returns
unfolding rank_in ranks_allowed
returns c =
    let n = c.args.n in
    all_from_yields_List (λ i. up_to 9 (rank_in (Some c.args.ranks.now) i)) _ _ _ c.all.ensures.ran
    (YieldsList-from_range 0 n n refl (omega arith)) (λ x b q k. search (rules, tests))
    ∙ all-every _ n
