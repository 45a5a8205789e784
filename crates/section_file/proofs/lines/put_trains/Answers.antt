-- A line more is put, of the next departure.
use Rattle.std.proofs.Common.{◌≡◌, sym, ◌∙◌, arith, rules, get_or, ◌<◌, ◌^◌, append-nil, length-take, pos, to_z, of_z, w64}
use mir.Facts.{to_z_pos}
use lib.ListN.{drop_of_length-le}
use Rattle.std.proofs.lemmas.List.{take_all}
use Rattle.rules.specs.Line.{running, arrival}
use Rattle.section_file.proofs.Printed.{train_on}
use Rattle.section_file.proofs.lines.put_trains.Goals as goal

pub overflow_cast-arrival : goal.overflow_cast-arrival
unfolding arrival running
overflow_cast-arrival c = record { sfits = omega (arith, c.arrival-arrival.ensures, c.from.type_inv) }

pub loop-place-preserved : goal.loop-place-preserved
unfolding arrival running
loop-place-preserved c =
    let k = c.loop-place.place in
    let departures = c.args.departures.now in
    let place : to_z w64 k ≡ pos k = search rules in
    let departure : to_z w64 (of_z w64 c.from.result) ≡ pos (get_or departures k 0) = search rules in
    let small : c.arrival-arrival.result < 2 ^ 63 = omega (arith, c.arrival-arrival.ensures, c.from.type_inv) in
    let arrives : to_z w64 c.arrival-arrival.result ≡ pos c.arrival-arrival.result = to_z_pos w64 small in
    record {
      room = rw (c.put_line.ensures, length-take) (omega arith);
      whole = rw (c.put_line.ensures, c.station_word.ensures, place, departure, arrives, c.arrival-arrival.ensures)
          (train_on 8192 c.loop-place.page c.args.timing c.args.station departures k c.loop-place-test.true ∙ c.loop-place.invariant.whole);
    }

pub returns : goal.returns
returns c =
    sym (take_all 8192 c.loop-place.page c.loop-place.invariant.room)
    ∙ rw (drop_of_length-le c.args.departures.now c.loop-place-test.false, append-nil) at c.loop-place.invariant.whole
