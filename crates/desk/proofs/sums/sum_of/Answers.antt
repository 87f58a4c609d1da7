-- `desk::sums::sum_of` meets its contract. Assumes nothing.
use Rattle.std.proofs.Common.{◌≡◌, sym, ◌∙◌, rules}
use Rattle.std.specs.List.{sum_by}
use Rattle.std.proofs.iter.runs.Made.{chains}
use Rattle.desk.specs.Desk.{rank_held}
use Rattle.desk.proofs.SumsLaws.{sum-by}
use Rattle.desk.proofs.sums.sum_of.Goals as goal

pub returns : goal.returns
returns c =
    let e : c.sum.result ≡ sum_by (rank_held c.args.ranks.now) c.args.positions.now = search (rules, chains) in
    e ∙ sym (sum-by (rank_held c.args.ranks.now) c.args.positions.now)
