-- The measure of `write_decimal::put_decimal`.
use Rattle.write_decimal.proofs.+put_decimal.Given as goal

abbrev pub decreases-put_decimal : goal.decreases-put_decimal
decreases-put_decimal l = l.n
