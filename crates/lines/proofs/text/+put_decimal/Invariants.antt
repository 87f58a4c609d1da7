-- The number without its last digit is smaller. Assumes nothing.
use Rattle.lines.proofs.text.+put_decimal.Given as goal

abbrev pub decreases-put_decimal : goal.decreases-put_decimal
decreases-put_decimal l = l.number
