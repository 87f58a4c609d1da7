-- What the recovery takes can be had. Assumes nothing.
use Rattle.std.specs.Prelude.{◌≡◌, true, false, ℕ, suc, ◌≤◌, ◌<◌}
use Rattle.std.proofs.Common.{arith}
use borrow.Author.Tests.{ltb-true, ltb-false}
use Rattle.recurrence.specs.Recurrence.{Heights, between, value, out_value, in_value, takes_in}
use Rattle.recurrence.specs.RecurrenceTests.{CanOut, CanIn}
use Rattle.recurrence.proofs.RecurrenceTests.{value-step, out-is, in_is}

module _ {H : Heights} {t a b q : ℕ} (y : 1 ≤ value H (suc t) a b q) (e : between a (H.at_rank t) b ≡ true) where
  -- The point of rank t is put inside: it can be, and gives the value.
  pub takes-in : takes_in H t a b q ≡ true → CanIn H t a b q × (value H (suc t) a b q ≡ in_value H t a b q)
  unfolding takes_in
  takes-in m =
      let more : out_value H t a b q < in_value H t a b q = ltb-true _ _ m in
      (in_is H t a b q (omega arith), omega (arith, value-step H t a b q e))

  -- It is left outside: it can be, and gives the value.
  pub takes_out : takes_in H t a b q ≡ false → CanOut H t a b q × (value H (suc t) a b q ≡ out_value H t a b q)
  unfolding takes_in
  takes_out m =
      let less : in_value H t a b q ≤ out_value H t a b q = ltb-false _ _ m in
      (out-is H t a b q (omega (arith, value-step H t a b q e)), omega (arith, value-step H t a b q e))
