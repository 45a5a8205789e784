-- The loop's invariant: what is left of the word brings the amount so far to the word's.
use Rattle.std.proofs.Common.{◌≡◌, ◌≤◌, drop}
use Rattle.text.specs.Numbers.{amount_on}
use Rattle.text.proofs.read.amount.Given as goal

abbrev pub invariant-loop-byte : goal.invariant-loop-byte
invariant-loop-byte l =
    record {
      small : l.amount ≤ 4294967295;
      whole : amount_on l.amount (drop l.byte-index l.word) ≡ amount_on 0 l.word;
    }
