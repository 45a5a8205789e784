-- The recursion ends: a tenth of a number from 10 on is less.
use Rattle.text.proofs.page.Page.+put_digits.Given as goal

abbrev pub decreases-put_digits : goal.decreases-put_digits
decreases-put_digits g l = l.n
