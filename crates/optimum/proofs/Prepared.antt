-- The theorems on the definitions of specs/Prepared.antt. Assumes nothing.
use Rattle.std.proofs.Common.{sym, ◌∙◌, ap, arith}
use Rattle.std.specs.Prelude.{ℕ, suc, ◌+◌, List}
use Rattle.recurrence.specs.Totals.{all}
use Rattle.recurrence.specs.Recurrence.{total}
use Rattle.format.specs.Sheet.{points_of}
use Rattle.orders.specs.Arrays.{heights_of, position_at}
use Rattle.orders.specs.Given.{weight_of, permitted}
use Rattle.orders.proofs.GivenLaws.{weight-some}
use Rattle.orders.specs.Layout.{triangular_field, tetrahedral_field}
use Rattle.orders.specs.BothOrders.{BothOrders}
use Rattle.optimum.proofs.SameHeights.{total-same, arranged-same}
use Rattle.optimum.specs.Limits.{InOrder, Limited}
use Rattle.optimum.proofs.LimitsLaws.{kept_same, kept-position, kept-order}
use Rattle.optimum.specs.Prepared.{Prepared}

pub in_order : {rank : ℕ → ℕ} {sheet s : List ℕ} → BothOrders rank sheet s → InOrder s
in_order o = record { long = o.cells.long; few = o.few; sorted = o.sorted }

pub prepared : {rank : ℕ → ℕ} {sheet s r : List ℕ} → BothOrders rank sheet s → Limited s r → Prepared rank sheet r
prepared {rank} {sheet} {s} {r} o m =
    let H = kept_same m.kept o.few in
    let q = kept-order m.kept (in_order o) in
    let a =
    arranged-same H (points_of sheet) (weight_of rank) (permitted sheet) (position_at s)
    (position_at r) (kept-position m.kept) o.arranged in
    record {
      packed = record {
        few = q.few;
        sorted = q.sorted;
        top-is = m.top-is;
        high_is = m.high_is;
        lower-rank = H.rank 0 (omega arith) ∙ (o.lower-rank ∙ sym H.n);
        upper-rank =
            ap (λ x. (heights_of r).rank (suc x)) H.n
            ∙ (H.rank (suc (heights_of s).n) (omega (arith, o.few)) ∙ (o.upper-rank ∙ sym H.n));
        tri-is = λ k l. m.kept.cell (triangular_field + k) (λ a b. omega arith) ∙ o.cells.tri-is k l;
        tet-is = λ k l. m.kept.cell (tetrahedral_field + k) (λ a b. omega arith) ∙ o.cells.tet-is k l;
        heavy = λ i k. omega (arith, a.weight i k, weight-some rank (position_at r i));
        light =
            omega (arith, o.light, ap (total (heights_of r) all) H.n, total-same H (heights_of s).n (omega arith));
      };
      arranged = a;
    }
