-- `orders::given::write_given` meets its contract: a weight and a permission are written in each turn. Assumes nothing.
use Rattle.std.proofs.Common.{◌≡◌, ◌∙◌, ap, ℕ, ◌≤◌, ◌<◌, ◌+◌, get_or, option_copied, arith}
use Rattle.orders.specs.Layout.{first_position}
use Rattle.format.specs.RankList.{rank_in}
use Rattle.orders.specs.Given.{weight_of, permitted, permission}
use Rattle.orders.proofs.GivenLaws.{weight_is, permission_is}
use Rattle.orders.proofs.GivenCells.{given-more}
use Rattle.orders.proofs.given.write_given.Goals as goal
use Rattle.orders.proofs.given.write_given.Goals.{After-position_after-position, At-loop-k}

-- The weight is that of the position's rank.
weighed : (rank : ℕ → ℕ) {p q x w : ℕ} → w ≡ weight_of (λ _. x) p → x ≡ rank p → p ≡ q → w ≡ weight_of rank q
weighed rank {p} {q} {x} a b e = rw (← e) (omega (arith, a, weight_is (λ _. x) p, b, weight_is rank p))

-- The positions are as they were at first.
kept : (c : At-loop-k)
    → get_or c.loop-k.heights (first_position + c.loop-k.k) 0
    ≡ get_or c.args.heights.now (first_position + c.loop-k.k) 0
kept c = c.loop-k.invariant.other (first_position + c.loop-k.k) (λ p q. omega arith) (λ p q. omega arith)

-- The position is one of the sheet's.
placed : (c : After-position_after-position)
    → c.position_after-position.result < c.args.n
placed c =
    let kept = c.loop-k.invariant.other (first_position + c.loop-k.k) (λ p q. omega arith) (λ p q. omega arith) in
    omega (arith, c.position_after-position.ensures, kept, c.requires.0.below c.loop-k.k (omega arith))

pub loop-k-preserved : goal.loop-k-preserved
unfolding permitted
loop-k-preserved c =
    let args = c.args in
    let sheet = args.sheet.now in
    let rank = rank_in (option_copied args.ranks) in
    let e = c.position_after-position.ensures ∙ kept (goal.at.loop-k-preserved c).At-loop-k in
    let few : c.loop-k.k < 32 = omega arith in
    let light : rank c.position_after-position.result ≤ 9 = c.requires.1 _ (placed (goal.at.loop-k-preserved c).After-position_after-position) in
    rw c.write_weight.ensures
    (given-more c.loop-k.invariant c.told-heights few (rw e at light) _ _
    (weighed rank c.weight_of-weight.ensures c.rank_of.ensures e)
    (c.from-allowed.ensures ∙ (permission_is _ ∙ (ap permission c.label_on_map.ensures ∙ ap (λ p. permission (permitted sheet p)) e))))
