-- How large costs and values can be: a good train's cost is bounded, and joining adds up at most.
-- `mag z` is n for n and for -(n + 1), the bound by which a number fits 64 bits.
use mathlib.Core.Bool.{Bool}
use mathlib.Core.List.{List, [], ◌∷◌}
use mathlib.Core.Path.{◌≡◌}
use Prim.Native.Nat.{ℕ, suc, ◌+◌, ◌*◌, ◌≤◌, ◌<◌}
use native.Mathlib.Nat.{mul-le-mul_right}
use native.Mathlib.Omega.{arith}
use lib.Dec.{T}
use lib.IntN.{ℤ, pos, negsuc, neg_ℤ, ◌+ℤ◌, ◌*ℤ◌}
use lib.Signed.{mag, le_z}
use mir.Syntax.{w64}
use mir.Val.{SFits}
use Rattle.rules.specs.Lists.{those, every}
use Rattle.rules.specs.Figures.{figure, within, Step, used, good_row, last_cost, row_cost}
use Rattle.rules.specs.Objectives.{larger, lateness, weighted, by_rows, aim_of}
use Rattle.rules.proofs.Tests.{both}
use Rattle.costs.proofs.Table.{each}
use Rattle.costs.specs.Held.{held}
use Rattle.std.proofs.lemmas.Int.{ints}
use Rattle.costs.proofs.Held.{held_fits}

mag_sum : (a b : ℤ) → mag (a +ℤ b) ≤ mag a + mag b + 1
mag_sum a b = grind (arith, ints)

mag_negated : (a : ℤ) → mag (neg_ℤ a) ≤ mag a + 1
mag_negated a = grind (arith, ints)

mag_larger : (a b : ℤ) → mag (larger a b) ≤ mag a + mag b + 1
unfolding larger
mag_larger a b = grind arith

pub mag_within : (b : ℕ) (z : ℤ) → T (within (pos 0) (pos b) z) → mag z ≤ b
unfolding within
mag_within b z h = grind (arith, ints)

mag_signed : (b : ℕ) (z : ℤ) → T (within (negsuc b) (pos (suc b)) z) → mag z ≤ suc b
unfolding within
mag_signed b z h = grind (arith, ints)

pub mag_product : (b : ℕ) (z : ℤ) (a : ℕ) → T (within (pos 0) (pos b) z) → mag (z *ℤ pos a) ≤ b * a
unfolding within
mag_product b (pos n) a h = mul-le-mul_right a (mag_within b (pos n) h)
mag_product b (negsuc n) a h = absurd h

mag_last : (b : ℕ) (begun : Step → Bool) (ss : List Step) (c : ℤ) → mag c ≤ b
    → T (every (λ s. within (pos 0) (pos b) s.cost) ss) → mag (last_cost c (those begun ss)) ≤ b
mag_last b begun [] c h e = h
mag_last b begun (s ∷ ss) c h e =
    let (first, rest) = simp both at e in
    let small : mag s.cost ≤ b = mag_within b s.cost first in
    grind (arith, mag_last b begun ss s.cost small rest, mag_last b begun ss c h rest)

pub joined_bound : (a b : ℤ) (n : ℕ) → mag ((aim_of n).joined a b) ≤ mag a + mag b + 1
unfolding lateness weighted by_rows
joined_bound a b =
    each (λ _ _ O. mag (O.joined a b) ≤ mag a + mag b + 1) (λ _. mag_larger a b) (mag_sum a b) (mag_sum a b) (mag_larger a b)

-- no arrival is later than 10,010,000, and no cost larger than what weight 10,000 makes of it
module _ (x : List ℤ) (arrival : ℕ) (h : arrival ≤ 10010000) where
  late_bound : T (lateness.good x) → mag (lateness.cost x arrival) ≤ 100100000000
  unfolding lateness
  late_bound g =
      omega (arith, mag_sum (pos arrival) (neg_ℤ (figure x 0)), mag_negated (figure x 0), mag_signed 999999 (figure x 0) g)

  weight_bound : T (weighted.good x) → mag (weighted.cost x arrival) ≤ 100100000000
  unfolding weighted
  weight_bound g = omega (arith, mag_product 10000 (figure x 0) arrival g)

  row_bound : (join : ℤ → ℤ → ℤ) → T ((by_rows join).good x) → mag ((by_rows join).cost x arrival) ≤ 100100000000
  unfolding by_rows good_row row_cost
  row_bound join g =
      let (((_, e), _), _) = simp both at g in
      omega (arith, mag_last 1000000 (λ s. le_z s.start (pos arrival)) (used x) (pos 0) (omega arith) e)

  pub cost_bound : (n : ℕ) → T ((aim_of n).good x) → mag ((aim_of n).cost x arrival) ≤ 100100000000
  cost_bound =
      each (λ _ _ O. T (O.good x) → mag (O.cost x arrival) ≤ 100100000000) (λ _. late_bound) weight_bound (row_bound ◌+ℤ◌) (row_bound larger)

-- a total of k costs, joined with one more, is a total of k + 1, and fits
module _ (n : ℕ) (total cost : ℤ) (k : ℕ) (h : mag total ≤ k * 100100000001) (l : mag cost ≤ 100100000000) where
  pub joined_small : mag ((aim_of n).joined total cost) ≤ (k + 1) * 100100000001
  joined_small = omega (arith, joined_bound total cost n)

  pub joined_fits : k < 96 → SFits w64 ((aim_of n).joined total cost)
  joined_fits few = record { sfits = omega (arith, joined_small) }

  pub joined_held : k < 96 → held ((aim_of n).joined total cost) ≡ (aim_of n).joined total cost
  joined_held few = held_fits _ (joined_fits few)
