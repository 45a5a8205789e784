-- Of a value, the lines of all trains follow, station by station; of a refusal, nothing.
use Rattle.std.proofs.Common.{◌≡◌, arith, rules, length-take, to_z, of_z, w64}
use Rattle.rules.specs.Trains.{told}
use Rattle.rules.specs.Answers.{says}
use Rattle.section_file.proofs.Printed.{put_three}
use Rattle.section_file.proofs.Trains.{lines_are, ones_found, ones_within}
use Rattle.section_file.proofs.lines.put_answer.Goals as goal

pub split_at-requires : goal.split_at-requires
unfolding says
split_at-requires c =
    let complete = rw c.in-Ok.is at c.requires in
    let S = told c.args.section.now in
    omega (arith, complete.0, ones_found S c.numbers.ensures, ones_within S)

pub put_trains-requires : goal.put_trains-requires
unfolding says
put_trains-requires c =
    let complete = rw c.in-Ok.is at c.requires in
    record {
      room = rw (c.put_line.ensures, length-take) (omega arith);
      few = omega (arith, complete.0, complete.1, c.split_at.ensures.front_len, c.split_at.ensures.back_len);
    }

pub put_trains-requires-in-Ok : goal.put_trains-requires-in-Ok
unfolding says
put_trains-requires-in-Ok c =
    let complete = rw c.in-Ok.is at c.requires in
    record {
      room = rw (c.put_trains.ensures, length-take) (omega arith);
      few = omega (arith, complete.0, complete.1, c.split_at.ensures.back_len);
    }

pub returns-in-Ok : goal.returns-in-Ok
unfolding says
returns-in-Ok c =
    let complete = rw c.in-Ok.is at c.requires in
    let S = told c.args.section.now in
    let value : to_z w64 (of_z w64 c.in-Ok.value) ≡ c.in-Ok.value = search rules in
    rw (
      c.in-Ok.is,
      c.put_trains-in-Ok.ensures,
      c.put_trains.ensures,
      c.put_line.ensures,
      value,
      c.split_at.ensures.front,
      c.split_at.ensures.back,
      ones_found S c.numbers.ensures,
      lines_are S c.args.departures.now complete.0,
    ) (put_three 8192 c.args.page.now _ _ _)

pub returns-in-Err : goal.returns-in-Err
unfolding says
returns-in-Err c = rw c.in-Err.is c.put_refusal.ensures
