-- The loop's invariant: the room holds the bytes so far.
use Rattle.std.proofs.Common.{length, ◌≡◌, ◌≤◌, take}
use Rattle.text.proofs.page.Page.put.Given as goal

abbrev pub invariant-loop-k : goal.invariant-loop-k
invariant-loop-k g l = (length l.room ≡ l.more) × (l.k ≤ l.more) × (take l.k l.room ≡ take l.k l.bytes)
