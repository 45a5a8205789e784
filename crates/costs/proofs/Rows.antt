-- A row by the places of its figures: its used steps and the rest as stretches, what it costs step by step, and the rule of a good row.
use mathlib.Core.Bool.{false, cond, ◌&&◌}
use mathlib.Core.List.{List, map, map-append}
use mathlib.Core.Path.{◌≡◌, refl, ap, ◌∙◌}
use Prim.Native.Nat.{ℕ, zero, suc, ◌+◌, ◌-◌, min}
use native.Mathlib.Nat.{zero-add}
use native.Mathlib.Omega.{arith}
use lib.IntN.{ℤ, pos}
use lib.Signed.{le_z, lt_z}
use Rattle.rules.specs.Lists.{those, every, count_from}
use Rattle.rules.specs.Figures.{Step, figure, within, is_zero, step_count, steps, used, unused, last_cost, row_cost, good_row}
use Rattle.costs.specs.Steps.{bounded, above, climbs, nothing, good_step}
use lib.Dec.{eqb}
use Rattle.rules.proofs.Lists.{those_append}
use Rattle.costs.proofs.Stretches.{every_map, every_both, every_split, neighbours_map, last_cost_append, count_last, take_count, drop_count}

abbrev step : List ℤ → ℕ → Step
step x k = record { start = figure x (1 + k); cost = figure x (9 + k) }

abbrev pub many : List ℤ → ℕ
many x = min (step_count (figure x 0)) 8

used_steps : (x : List ℤ) → used x ≡ map (step x) (count_from 0 (many x))
unfolding used steps
used_steps x = take_count (step x) 0 8 (step_count (figure x 0))

unused_steps : (x : List ℤ) → unused x ≡ map (step x) (count_from (many x) (8 - many x))
unfolding unused steps
unused_steps x = rw zero-add at (drop_count (step x) 0 8 (step_count (figure x 0)))

-- what some steps of a row come to at an arrival, and its first ones
abbrev come_to : List ℤ → ℕ → List ℕ → ℤ
come_to x arrival ks = last_cost (pos 0) (those (λ s. le_z s.start (pos arrival)) (map (step x) ks))

unfoldable pub so_far : List ℤ → ℕ → ℕ → ℤ
so_far x arrival n = come_to x arrival (count_from 0 n)

pub row_cost_so_far : (x : List ℤ) (arrival : ℕ) → row_cost x arrival ≡ so_far x arrival (many x)
unfolding row_cost so_far
row_cost_so_far x arrival = rw (used_steps x)

pub so_far_more : (x : List ℤ) (arrival k : ℕ)
    → so_far x arrival (k + 1) ≡ cond (le_z (figure x (1 + k)) (pos arrival)) (figure x (9 + k)) (so_far x arrival k)
unfolding so_far
so_far_more x arrival k =
    let more : k + 1 ≡ suc k = omega arith in
    rw more
    (ap (come_to x arrival) (count_last 0 k) ∙
    rw (map-append (step x) (count_from 0 k), those_append, last_cost_append, zero-add k)
    (grind arith))

climbs_after : (x : List ℤ) (k n : ℕ) → every (climbs x) (count_from (suc k) n) ≡ every (above x) (count_from (suc k) n)
climbs_after x k zero = refl
climbs_after x k (suc n) =
    let later : eqb (suc k) 0 ≡ false = grind arith in
    rw (later, climbs_after x (suc k) n)

all_rise : (x : List ℤ) (n : ℕ) → every (climbs x) (count_from 0 n) ≡ every (above x) (count_from 1 (n - 1))
all_rise x zero = refl
all_rise x (suc n) = let others : suc n - 1 ≡ n = omega arith in rw others (climbs_after x 0 n)

-- the rule by the places of the steps, of which n are used
pub good_row_tests : (x : List ℤ) (n : ℕ) → n ≡ many x
    → (within (pos 1) (pos 8) (figure x 0) && is_zero (figure x 1)) && every (good_step x n) (count_from 0 8) ≡ good_row x
unfolding good_row
good_row_tests x n e =
    let whole : many x + (8 - many x) ≡ 8 = omega arith in
    let used_ones = count_from 0 (many x) in
    rw (
      e,
      used_steps x,
      unused_steps x,
      rw whole at (every_split (λ k. bounded x k && climbs x k) (nothing x) (many x) 0 (many x) (8 - many x) (omega arith)),
      neighbours_map (λ s t. lt_z s.start t.start) (step x) 0 (many x),
      neighbours_map (λ s t. le_z s.cost t.cost) (step x) 0 (many x),
      every_map (λ s. le_z s.start (pos 1000000)) (step x) used_ones,
      every_map (λ s. within (pos 0) (pos 1000000) s.cost) (step x) used_ones,
      every_map (λ s. is_zero s.start && is_zero s.cost) (step x) (count_from (many x) (8 - many x)),
      every_both (bounded x) (climbs x) used_ones,
      all_rise x (many x),
      every_both (λ k. le_z (figure x (1 + k)) (pos 1000000)) (λ k. within (pos 0) (pos 1000000) (figure x (9 + k))) used_ones,
      every_both (λ k. lt_z (figure x (1 + (k - 1))) (figure x (1 + k))) (λ k. le_z (figure x (9 + (k - 1))) (figure x (9 + k))) (count_from 1 (many x - 1)),
    )
    (grind arith)
