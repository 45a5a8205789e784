-- A section begins with its count: a number that is not below 0, within its bounds, and of which as many follow.
use Rattle.std.proofs.Common.{rules, ◌≡◌, sym, ◌∙◌, true, false, ◌&&◌, ◌||◌, ◌≤◌, length, take, drop, ◌∷◌, pos, ◌≤ℤ◌, leb}
use Rattle.std.specs.Int.Signed.{le_z}
use Rattle.std.specs.List.{list_all}
use Rattle.section_file.proofs.Sections.{below_0, out_of_range, begins, shown}
use Rattle.section_file.proofs.layout.section.Goals as goal
use Rattle.section_file.proofs.layout.section.Goals.{then-minus, else-minus}

pub returns-in_err-count-2 : goal.returns-in_err-count-2
returns-in_err-count-2 c =
    let negative : pos 0 ≤ℤ c.in_ok-count.count.now → ⊥ = search rules in
    let starts : c.args.values.now ≡ c.in_ok-count.count.now ∷ c.in_ok-count.rest.now = search rules in
    rw (c.from_residual-in_err-count-2.ensures, starts) (sym (below_0 _ _ _ _ _ negative))

pub returns-then-not-contains : goal.returns-then-not-contains
returns-then-not-contains c =
    let counted : c.in_ok-count.count.now ≡ pos c.in_ok-count-2.count = search rules in
    let starts : c.args.values.now ≡ c.in_ok-count.count.now ∷ c.in_ok-count.rest.now = search rules in
    let out : leb c.args.least c.in_ok-count-2.count && leb c.in_ok-count-2.count c.args.most ≡ false = search rules in
    rw (starts, counted) (sym (out_of_range _ _ _ _ _ out))

pub returns : goal.returns
returns c =
    let n = c.in_ok-count-2.count in
    let rest = c.in_ok-count.rest.now in
    let counted : c.in_ok-count.count.now ≡ pos n = search rules in
    let starts : c.args.values.now ≡ c.in_ok-count.count.now ∷ rest = search rules in
    let within : leb c.args.least n && leb n c.args.most ≡ true = search rules in
    let first : c.in_ok-numbers.numbers.now ≡ take n rest = search rules in
    let others : c.in_ok-numbers.rest.now ≡ drop n rest = search rules in
    let room : n ≤ length rest = search rules in
    let allows : c.if-minus.then_some ≡ (c.args.minus || list_all (le_z (pos 0)) (take n rest)) =
    elim c.if-minus.branch [
      | then-minus w ↦ rw w.if-minus.true (w.then_some-is ∙ w.if-minus.true)
      | else-minus w ↦ rw (w.if-minus.false, ← first, ← w.unsigned.ensures) w.then_some-is
    ] in
    rw (starts, counted, c.then_some.ensures, begins c.args.least c.args.most c.args.minus rest n within room, ← allows, ← first, ← others)
    (shown c.if-minus.then_some c.in_ok-numbers.numbers c.in_ok-numbers.rest)
