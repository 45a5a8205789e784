-- An arrival fits 32 bits.
use Rattle.std.proofs.Common.{arith}
use Rattle.rules.specs.Line.{running, arrival}
use Rattle.judge.proofs.recorded.Recorded.cost_of.Goals as goal

pub overflow_cast-arrival : goal.overflow_cast-arrival
unfolding running arrival
overflow_cast-arrival c =
    omega (arith, c.arrival-arrival.ensures, c.requires.judged.timely c.args.k c.requires.numbered)
