-- The departures, lent to the writer in two parts, come back as what it wrote in the first part, then what it wrote in the second.
use Rattle.std.proofs.Common.{List, ◌++◌, append-nil, ◌≡◌, ◌∙◌, ap₂, ℕ, ◌-◌, ◌≤◌, le_refl, length, take, drop, length-take-le, take_at}
use borrow.Rule.Slice.PartMut.{mid_of, put_mid, mid_len, Post-is}
use lib.Seq.{length_front, drop-length}
use Rattle.planner.specs.Writer.{InListOrder, BothInListOrder}

-- n departures were lent and came back as `one`; then the rest is lent
module _ (n : ℕ) (departures one : List ℕ) (h : n ≤ length departures) (kept : length one ≡ length (take n departures)) where
  abbrev half : List ℕ
  half = one ++ drop n departures

  part_count : length (take n departures) ≡ n
  part_count = length-take-le n departures h

  whole : length half ≡ length departures
  whole = length_front departures one n kept

  rest_count : length (mid_of n (length half - n) half) ≡ length departures - n
  rest_count = mid_len n (length half) half (le_refl (length half)) ∙ rw whole

  pub both : (two first second ones twos : List ℕ)
      → InListOrder (length (take n departures)) first ones one
      → InListOrder (length (mid_of n (length half - n) half)) second twos two
      → BothInListOrder n (length departures - n) first second ones twos (put_mid n (length half - n) half two)
  unfolding InListOrder BothInListOrder
  both two first second ones twos p q leaves leaves' tells told =
      let before : n ≤ length half = rw whole h in
      rw (take_at one (drop n departures) n (kept ∙ part_count), Post-is n (length half) half before, drop-length half, append-nil)
      (ap₂ ◌++◌ ((rw part_count at p) leaves tells) ((rw rest_count at q) leaves' told))
