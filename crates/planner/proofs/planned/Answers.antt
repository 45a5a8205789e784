-- A section of which nothing is refused has good terms and stations that can be put in order.
use Rattle.std.proofs.Common.{length}
use Rattle.rules.specs.declared.Station.TheVariants.{One as one, Two as two}
use Rattle.rules.specs.Trains.{told}
use Rattle.best.proofs.Accepted.{accepted}
use Rattle.planner.proofs.Beginning.{planning, list_few}
use Rattle.planner.proofs.planned.Goals as goal

pub of-requires : goal.of-requires
of-requires c = list_few (told c.args.section) (accepted _ (length c.args.departures.now) c.requires) one

pub of-requires-2 : goal.of-requires-2
of-requires-2 c = list_few (told c.args.section) (accepted _ (length c.args.departures.now) c.requires) two

pub invariant_of-day : goal.invariant_of-day
invariant_of-day c =
    record {
      planned = rw (c.of.ensures.list, c.of-2.ensures.list)
          (planning _ _ _ _ c.numbers-numbers.ensures _ _ (accepted _ (length c.args.departures.now) c.requires) c.of.ensures.order c.of-2.ensures.order);
    }
