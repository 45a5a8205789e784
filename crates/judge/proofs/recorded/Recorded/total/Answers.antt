-- The first train's cost begins the sum, and each train after it is joined to what is held.
use borrow.Author.Rules.{sfits_of}
use mathlib.Core.Path.{sym, ◌∙◌, ap}
use Prim.Native.Nat.{◌<◌}
use native.Mathlib.Omega.{arith}
use mir.Facts.{to_z-of_z}
use mir.Syntax.{w64}
use mir.Val.{to_z}
use Rattle.rules.specs.Trains.{Section, aim, count, told}
use Rattle.costs.proofs.Bounds.{joined_held, joined_small}
use Rattle.judge.proofs.Totals.{cost_at, from, starts, turns}
use Rattle.judge.proofs.recorded.Recorded.total.Goals as goal

pub loop-k-init : goal.loop-k-init
loop-k-init c =
    let S : Section = told c.args.self.now.section in
    let cost = to_z-of_z {w = w64} (sfits_of c.cost_of-total.type_inv) ∙ c.cost_of-total.ensures in (
      ap (λ z. from S c.args.self.now.departures.now z 1) cost ∙ starts S c.args.self.now.departures.now c.requires.filled,
      rw cost (omega (arith, c.requires.small 0 c.requires.filled)),
    )

pub loop-k-preserved : goal.loop-k-preserved
unfolding aim
loop-k-preserved c =
    let S : Section = told c.args.self.now.section in
    let ds = c.args.self.now.departures.now in
    let total = to_z w64 c.loop-k.total-bits in
    let number : c.loop-k.k < count S = omega (arith, c.args.self.now.each) in
    let small = c.requires.small c.loop-k.k number in
    let held =
    joined_held S.objective total (cost_at S ds c.loop-k.k) c.loop-k.k c.loop-k.invariant.1 small (omega (arith, c.args.self.now.each, c.args.self.now.few)) in
    rw (
      to_z-of_z (sfits_of c.joined-total.type_inv),
      c.joined-total.ensures,
      to_z-of_z (sfits_of c.cost_of.type_inv),
      c.cost_of.ensures,
      held,
    ) (
      sym (turns S ds total c.loop-k.k number) ∙ c.loop-k.invariant.0,
      joined_small S.objective _ _ c.loop-k.k c.loop-k.invariant.1 small,
    )
