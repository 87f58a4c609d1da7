-- The test that a label reaches over no point between its point and b decides that. Assumes nothing.
use Rattle.std.specs.Prelude.{ℕ, suc, ◌≤◌}
use Rattle.std.proofs.Common.{arith}
use Rattle.labeling.proofs.Decide.{Decides, dec-lt, dec-and, dec-not, dec-map}
use Rattle.recurrence.specs.Recurrence.{Heights}
use Rattle.recurrence.proofs.RecurrenceTests.{dec-every-point, dec-reaches}
use Rattle.recurrence.specs.Safe.{Unreached, unreached}

pub dec-unreached : (H : Heights) (p b : ℕ) → b ≤ suc H.n → Decides (unreached H p b) (Unreached H p b)
unfolding unreached
dec-unreached H p b u =
    dec-map
    (λ f. record { none = λ y l m r. f y (omega arith) (omega arith) (l, (m, r)) })
    (λ f y l m x. f.none y x.0 x.1.0 x.1.1)
    (dec-every-point _ _ H.n (λ y. dec-not (dec-and (dec-lt p y) (dec-and (dec-lt y b) (dec-reaches H y p)))))
