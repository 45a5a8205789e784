-- What the first tests and that of all steps say is the rule.
use Rattle.std.proofs.Common.{rules, tests, sym, ◌∙◌}
use Rattle.costs.proofs.Counted.{counted}
use Rattle.costs.proofs.Rows.{good_row_tests}
use Rattle.costs.specs.Steps.{good_step}
use Rattle.costs.proofs.Row.is_good.Goals as goal

pub returns-then-begins : goal.returns-then-begins
returns-then-begins c =
    let x = c.args.self.0.now in
    let n = c.used-used.result in
    counted (good_step x n) 0 8 _ _ _ c.all.ensures.ran (λ k t f e. search (rules, tests))
    ∙ rw (sym c.begins.ensures ∙ c.if-begins.true) at (good_row_tests x n c.used-used.ensures)

pub returns-else-begins : goal.returns-else-begins
returns-else-begins c =
    rw c.if-begins.false
    (rw (sym c.begins.ensures ∙ c.if-begins.false) at (good_row_tests c.args.self.0.now c.used-used.result c.used-used.ensures))
