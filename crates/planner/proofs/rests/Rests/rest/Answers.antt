-- The entry is in the tables, and the sum, being the best of the rest, fits.
use Rattle.std.proofs.Common.{to_z-of_z, ◌≡◌, sym, ◌∙◌, false, ℕ, pos, ◌+ℤ◌, ◌*ℤ◌, SFits, Some, get_or, arith, to_z, of_z}
use borrow.Author.Rules.{sfits_of}
use Rattle.std.specs.Int.{w64}
use Rattle.rules.specs.Objectives.{aim_of}
use Rattle.costs.proofs.Bounds.{mag_product}
use Rattle.planner.specs.declared.clock.Clock.{Clock}
use Rattle.planner.specs.declared.clock.Departure.{Departure}
use Rattle.planner.specs.Rests.{Counts, Rows, counted, best_at, rise_at, entry, looked_up, Held}
use Rattle.planner.proofs.rests.Rests.rest.Goals as goal

-- what the last departure adds, and the sum, where the entry is by the trains left alone
module _ {objective : ℕ} {c : Clock} {last : Departure} {counts : Counts} {changes : Rows} (H : Held objective c counts changes)
    (begun : c.last ≡ Some last) (e : (aim_of objective).listed ≡ false) where
  added_fits : SFits w64 (rise_at counts c.ones c.twos *ℤ pos last.second)
  added_fits =
      let soon = rw begun at H.soon in
      record { sfits = omega (arith, mag_product 1000000 (rise_at counts c.ones c.twos) last.second (H.rises e), soon) }

  sum_fits : SFits w64 (best_at counts c.ones c.twos last.station +ℤ rise_at counts c.ones c.twos *ℤ pos last.second)
  unfolding looked_up
  sum_fits = let small = rw (begun, e) at H.small in record { sfits = omega (arith, small) }

module _ (c : goal.After-from) where
  free : (aim_of c.args.objective).listed ≡ false
  free = sym c.listed.ensures ∙ c.if-listed.false

  departed : to_z w64 (of_z w64 c.from.result) ≡ pos c.unwrap-last.result.second
  departed = to_z-of_z {w = w64} (sfits_of c.from.type_inv) ∙ c.from.ensures

  base : SFits w64 (get_or (counted c.args.self.counts.now c.args.clock.ones c.args.clock.twos).best c.side-at.result (pos 0))
  unfolding entry
  base = record { sfits = omega arith }

  rate : SFits w64 (rise_at c.args.self.counts.now c.args.clock.ones c.args.clock.twos)
  unfolding entry
  rate = record { sfits = omega arith }

pub overflow_mul-result : goal.overflow_mul-result
unfolding entry
overflow_mul-result c = rw (to_z-of_z (rate c), departed c) (added_fits c.requires c.unwrap-last.ensures (free c))

pub overflow_add-result : goal.overflow_add-result
unfolding entry
overflow_add-result c =
    let added = added_fits c.requires c.unwrap-last.ensures (free c) in
    rw (to_z-of_z (base c), to_z-of_z (rate c), departed c, c.side-at.ensures, to_z-of_z added) (sum_fits c.requires c.unwrap-last.ensures (free c))

pub returns : goal.returns
unfolding entry looked_up
returns c =
    let added = added_fits c.requires c.unwrap-last.ensures (free c) in
    let sum = sum_fits c.requires c.unwrap-last.ensures (free c) in
    rw (to_z-of_z (base c), to_z-of_z (rate c), departed c, c.side-at.ensures, to_z-of_z added, to_z-of_z sum, c.unwrap-last.ensures, free c)
