-- The loop's invariant: the values stored and the numbers of the words that are left are the text's.
use Rattle.std.proofs.Common.{length, drop}
use Rattle.text.specs.Words.{words}
use Rattle.text.proofs.Scans.{Begun}
use Rattle.text.proofs.read.numbers.Given as goal

abbrev pub invariant-loop-word : goal.invariant-loop-word
invariant-loop-word l = Begun (words l.text) l.initial.values l.values l.count (drop (length l.yielded) (words l.text))
