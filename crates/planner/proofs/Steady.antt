-- Under objectives 1 and 2 a train that is later costs steadily more: what the rest costs more is known second by second.
-- What the two objectives share stands in `Steady`.
use Rattle.std.proofs.Common.{false, true≢false, List, [], ◌∷◌, ◌++◌, ◌≡◌, refl, sym, ◌∙◌, ap, ap₂, ℕ, zero, suc, ◌+◌, ◌*◌, ◌<◌, ◌≤◌, arith, T, ℤ, pos, ◌+ℤ◌, ◌-ℤ◌, ◌*ℤ◌, length}
use lib.IntN.{+ℤ_idr, *ℤ-zero}
use Rattle.std.proofs.lemmas.Grind.{common_steps}
use Rattle.rules.specs.Figures.{figure, within}
use Rattle.rules.specs.Objectives.{Objective, larger, lateness, weighted, by_rows, aim_of}
use Rattle.theory.proofs.Integers.{times_suc}
use Rattle.theory.specs.Schedule.{All}
use Rattle.costs.proofs.Table.{each}
use Rattle.planner.specs.Rests.{lesser}
use Rattle.planner.specs.Cells.{slope, rises}

-- What is added to both of two numbers does not change which is the larger.
pub lesser_more : (a b k : ℤ) → lesser (a +ℤ k) (b +ℤ k) ≡ lesser a b +ℤ k
unfolding lesser
lesser_more a b k = grind (arith, common_steps)

larger_more : (a b k : ℤ) → larger (a +ℤ k) (b +ℤ k) ≡ larger a b +ℤ k
unfolding larger
larger_more a b k = grind (arith, common_steps)

-- costs rise by the same for each second, and so do joined ones
pub record Steady (O : Objective) : Type 0 where
  pub climbs : (x : List ℤ) (a u : ℕ) → O.cost x (a + u) ≡ O.cost x a +ℤ slope O x *ℤ pos u
  pub swaps : (a b c : ℤ) → O.joined a (O.joined b c) ≡ O.joined b (O.joined a c)
  pub last : (x : List ℤ) → O.joined (slope O x) (pos 0) ≡ slope O x
  -- a good train's slope is at most 10,000, and joined ones are together no more than their sum
  pub gentle : (x : List ℤ) → T (O.good x) → T (within (pos 0) (pos 10000) (slope O x))
  pub adds : (a b : ℕ) (z w : ℤ) → T (within (pos 0) (pos a) z) → T (within (pos 0) (pos b) w) → T (within (pos 0) (pos (a + b)) (O.joined z w))
  pub joins : (x y : List ℤ) (ys : List (List ℤ)) (c v : ℤ) (u : ℕ)
      → O.joined (c +ℤ slope O x *ℤ pos u) (v +ℤ rises O (y ∷ ys) *ℤ pos u) ≡ O.joined c v +ℤ rises O (x ∷ y ∷ ys) *ℤ pos u

gained : (y z w : ℤ) → y ≡ z +ℤ w *ℤ pos 1 → y -ℤ z ≡ w
gained y z w e = grind (arith, common_steps)

-- where the cost rises by a number for each second, that is the slope
slope_is : (O : Objective) (x : List ℤ) (w : ℤ) → ((a u : ℕ) → O.cost x (a + u) ≡ O.cost x a +ℤ w *ℤ pos u) → slope O x ≡ w
unfolding slope
slope_is O x w by = gained _ _ w (by 0 1)

weighted_climbs : (x : List ℤ) (a u : ℕ) → weighted.cost x (a + u) ≡ weighted.cost x a +ℤ figure x 0 *ℤ pos u
unfolding weighted
weighted_climbs x a u = grind (arith, common_steps)

lateness_climbs : (x : List ℤ) (a u : ℕ) → lateness.cost x (a + u) ≡ lateness.cost x a +ℤ pos 1 *ℤ pos u
unfolding lateness
lateness_climbs x a u = grind (arith, common_steps)

weighted_slope : (x : List ℤ) → slope weighted x ≡ figure x 0
weighted_slope x = slope_is weighted x (figure x 0) (weighted_climbs x)

lateness_slope : (x : List ℤ) → slope lateness x ≡ pos 1
lateness_slope x = slope_is lateness x (pos 1) (lateness_climbs x)

-- however many trains are later, the largest lateness rises by a second for a second
lateness_rises : (x : List ℤ) (xs : List (List ℤ)) → rises lateness (x ∷ xs) ≡ pos 1
unfolding lateness larger
lateness_rises x [] = rw (lateness_slope x)
lateness_rises x (y ∷ ys) = rw (lateness_slope x, lateness_rises y ys)

larger_swaps : (a b c : ℤ) → larger a (larger b c) ≡ larger b (larger a c)
unfolding larger
larger_swaps a b c = grind (arith, common_steps)

-- numbers from 0 to a bound, by their sum and by the larger
sum_adds : (a b : ℕ) (z w : ℤ) → T (within (pos 0) (pos a) z) → T (within (pos 0) (pos b) w) → T (within (pos 0) (pos (a + b)) (z +ℤ w))
unfolding within
sum_adds a b z w h k = grind (arith, common_steps)

larger_adds : (a b : ℕ) (z w : ℤ) → T (within (pos 0) (pos a) z) → T (within (pos 0) (pos b) w) → T (within (pos 0) (pos (a + b)) (larger z w))
unfolding larger within
larger_adds a b z w h k = grind (arith, common_steps)

pub wider : (a b : ℕ) (z : ℤ) → a ≤ b → T (within (pos 0) (pos a) z) → T (within (pos 0) (pos b) z)
unfolding within
wider a b z l h = grind (arith, common_steps)

crosswise : (a b c d : ℤ) → (a +ℤ b) +ℤ (c +ℤ d) ≡ (a +ℤ c) +ℤ (b +ℤ d)
crosswise a b c d = grind (arith, common_steps)

sum_times : (a b : ℤ) (u : ℕ) → (a +ℤ b) *ℤ pos u ≡ a *ℤ pos u +ℤ b *ℤ pos u
sum_times a b zero = rw (*ℤ-zero (a +ℤ b), *ℤ-zero a, *ℤ-zero b)
sum_times a b (suc u) = rw (times_suc (a +ℤ b) u, times_suc a u, times_suc b u, sum_times a b u) (crosswise (a *ℤ pos u) (b *ℤ pos u) a b)

steady_weighted : Steady weighted
unfolding weighted
steady_weighted =
    record {
      climbs = λ x a u. weighted_climbs x a u ∙ ap (λ w. weighted.cost x a +ℤ w *ℤ pos u) (sym (weighted_slope x));
      swaps = λ a b c. grind (arith, common_steps);
      last = λ x. +ℤ_idr (slope weighted x);
      gentle = λ x g. rw (weighted_slope x) g;
      adds = sum_adds;
      joins = λ x y ys c v u.
          let r : ℤ = rises weighted (y ∷ ys) in
          crosswise c (slope weighted x *ℤ pos u) v (r *ℤ pos u) ∙ ap (λ z. (c +ℤ v) +ℤ z) (sym (sum_times (slope weighted x) r u));
    }

steady_lateness : Steady lateness
unfolding lateness within
steady_lateness =
    record {
      climbs = λ x a u. lateness_climbs x a u ∙ ap (λ w. lateness.cost x a +ℤ w *ℤ pos u) (sym (lateness_slope x));
      swaps = larger_swaps;
      last = λ x. lateness_rises x [] ∙ sym (lateness_slope x);
      gentle = λ x g. rw (lateness_slope x) search;
      adds = larger_adds;
      joins = λ x y ys c v u.
          ap₂ (λ w r. larger (c +ℤ w *ℤ pos u) (v +ℤ r *ℤ pos u)) (lateness_slope x) (lateness_rises y ys)
          ∙ larger_more c v (pos 1 *ℤ pos u)
          ∙ ap (λ r. larger c v +ℤ r *ℤ pos u) (sym (lateness_rises x (y ∷ ys)));
    }

pub steady : (n : ℕ) → (aim_of n).listed ≡ false → Steady (aim_of n)
unfolding lateness weighted by_rows
steady = each (λ _ _ O. O.listed ≡ false → Steady O) (λ _ _. steady_lateness) (λ _. steady_weighted) (λ e. absurd (true≢false e)) (λ e. absurd (true≢false e))

module _ (O : Objective) (K : Steady O) where
  -- a train of later ones may be counted first
  pub rises_into : (x : List ℤ) (ys zs : List (List ℤ)) → rises O (ys ++ (x ∷ zs)) ≡ rises O (x ∷ (ys ++ zs))
  rises_into x [] zs = refl
  rises_into x (y ∷ ys) zs =
      ap (O.joined (slope O y)) (rises_into x ys zs) ∙ K.swaps (slope O y) (slope O x) (rises O (ys ++ zs))

  pub rises_most : {zs : List (List ℤ)} → All (λ x. T (O.good x)) zs → T (within (pos 0) (pos (length zs * 10000)) (rises O zs))
  unfolding within
  rises_most All.none = search
  rises_most (All.more {x = x} {xs = zs} g a) =
      let more : 10000 + length zs * 10000 ≡ suc (length zs) * 10000 = omega arith in
      rw more at (K.adds 10000 (length zs * 10000) (slope O x) (rises O zs) (K.gentle x g) (rises_most a))

  pub joins_more : (x : List ℤ) (ys : List (List ℤ)) → 0 < length ys → (c v : ℤ) (u : ℕ)
      → O.joined (c +ℤ slope O x *ℤ pos u) (v +ℤ rises O ys *ℤ pos u) ≡ O.joined c v +ℤ rises O (x ∷ ys) *ℤ pos u
  joins_more x [] h = absurd (omega arith)
  joins_more x (y ∷ ys) h = K.joins x y ys
