-- Each turn stores the pair of its changes.
use Rattle.std.proofs.Common.{◌≡◌, ◌∙◌, arith, length-set, length-take-le}
use Rattle.planner.specs.Cells.{gone_of}
use Rattle.planner.proofs.CellPairs.{no_pairs, next_pair, pairs_ahead}
use Rattle.planner.proofs.cells.change_cell.Goals as goal

pub loop-k-init : goal.loop-k-init
loop-k-init c =
    let all = length-take-le _ _ (omega arith) in
    (all, all, no_pairs _ _)

pub pair-requires : goal.pair-requires
unfolding gone_of
pair-requires c = rw c.seconds-second.ensures (c.requires.chooses c.loop-k.k (omega (arith, c.loop-k.invariant.1)))

pub loop-k-preserved : goal.loop-k-preserved
unfolding gone_of
loop-k-preserved c =
    let (long, end, pairs) = c.loop-k.invariant in (
      length-set c.loop-k.values-items c.loop-k.k c.pair.result ∙ long,
      end,
      next_pair _ c.loop-k.values-items c.pair.result c.loop-k.k (omega arith) (rw c.seconds-second.ensures at c.pair.ensures) pairs,
    )

pub returns : goal.returns
unfolding gone_of
returns c =
    let (long, end, pairs) = c.loop-k.invariant in
    let all : c.loop-k.k ≡ gone_of c.args.terms c.args.ones c.args.twos = omega (arith, end) in
    pairs_ahead _ c.loop-k.values-items _ _ (omega (arith, long)) (rw all at pairs)
