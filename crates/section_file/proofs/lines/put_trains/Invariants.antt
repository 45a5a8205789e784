-- The loop's invariant: with the lines that are left, the page has the station's.
use Rattle.std.proofs.Common.{◌≡◌, ◌≤◌, ◌++◌, length, take, drop}
use Rattle.section_file.specs.Printing.{station_lines}
use Rattle.section_file.proofs.lines.put_trains.Given as goal

abbrev pub invariant-loop-place : goal.invariant-loop-place
invariant-loop-place l = record {
  room : length l.page ≤ 8192;
  whole :
      take 8192 (l.page ++ station_lines l.timing l.station l.place (drop l.place l.departures))
      ≡ take 8192 (l.fn.page ++ station_lines l.timing l.station 0 l.departures);
}
