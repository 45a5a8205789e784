-- Laws of the integers' order, sum and maximum: both ways to join costs are lawful.
-- An integer is read as two naturals, of which one is 0, so that `omega` can do the rest.
use Prim.Native.Nat.{ℕ, zero, suc, ◌+◌, ◌-◌, ◌≤◌}
use native.Mathlib.Nat.{add-zero, add-suc, add-sub_of_le}
use native.Mathlib.Decide.{dec_le}
use native.Mathlib.Omega.{arith}
use mathlib.Core.Path.{◌≡◌, refl, ◌∙◌, ap}
use mathlib.Core.Logic.{◌⊎◌, inl, inr, ⊎_elim, by_cases}
use lib.Dec.{T, not_T, ltb, leb→le, le→leb, ltb→lt, nltb→le}
use lib.IntN.{ℤ, pos, negsuc, neg_ℤ, sub_ℕ, ◌+ℤ◌, ◌-ℤ◌, ◌*ℤ◌, +ℤ_assoc, +ℤ_comm, +ℤ_idl, +ℤ_idr, +ℤ_invr, suc_ℤ-*ℤ, *ℤ_comm, zero-*ℤ}
use lib.Signed.{◌≤ℤ◌, le_z, le_z_yes, ≤ℤ_refl}
use Rattle.theory.specs.Values.{Ordered}
use Rattle.theory.specs.Integers.{maxℤ, Grade, nothing, at, Below, larger, sum, largest}
use Rattle.theory.proofs.Choices.{cond_ind}
use Rattle.theory.proofs.Values.{or_else, both}

-- how far an integer is above 0, and how far below
abbrev up : ℤ → ℕ
up (pos n) = n
up (negsuc n) = 0

abbrev down : ℤ → ℕ
down (pos n) = 0
down (negsuc n) = suc n

le→parts : (a b : ℤ) → T (le_z a b) → up a + down b ≤ up b + down a
le→parts (pos a) (pos b) t = omega (arith, leb→le)
le→parts (pos a) (negsuc b) t = absurd t
le→parts (negsuc a) (pos b) t = omega arith
le→parts (negsuc a) (negsuc b) t = omega (arith, leb→le)

parts→le : (a b : ℤ) → up a + down b ≤ up b + down a → T (le_z a b)
parts→le (pos a) (pos b) h = omega (arith, le→leb)
parts→le (pos a) (negsuc b) h = omega arith
parts→le (negsuc a) (pos b) h = tt
parts→le (negsuc a) (negsuc b) h = omega (arith, le→leb)

parts→eq : (a b : ℤ) → up a + down b ≡ up b + down a → a ≡ b
parts→eq (pos a) (pos b) h = ap pos (omega arith)
parts→eq (pos a) (negsuc b) h = absurd (omega arith)
parts→eq (negsuc a) (pos b) h = absurd (omega arith)
parts→eq (negsuc a) (negsuc b) h = ap negsuc (omega arith)

difference : (a b : ℕ) → up (sub_ℕ a b) + b ≡ a + down (sub_ℕ a b)
difference a b =
    cond_ind (λ z. up z + b ≡ a + down z) (ltb a b) (λ t. omega (arith, ltb→lt))
    (λ n. omega (arith, nltb→le a b (not_T (ltb a b) n)))

-- a sum is as far above 0, less as far below, as its summands are together
balance : (a b : ℤ) → up (a +ℤ b) + (down a + down b) ≡ (up a + up b) + down (a +ℤ b)
balance (pos a) (pos b) = omega arith
balance (pos a) (negsuc b) = omega (arith, difference a (suc b))
balance (negsuc a) (pos b) = omega (arith, difference b (suc a))
balance (negsuc a) (negsuc b) = omega arith

pub ≤ℤ_trans : {a b c : ℤ} → a ≤ℤ b → b ≤ℤ c → a ≤ℤ c
≤ℤ_trans h k = omega (arith, le→parts, parts→le)

pub ≤ℤ_total : (a b : ℤ) → (a ≤ℤ b) ⊎ (b ≤ℤ a)
≤ℤ_total a b = by_cases (dec_le (up a + down b) (up b + down a)) (λ h. inl (omega (arith, parts→le))) (λ n. inr (omega (arith, parts→le)))

pub ≤ℤ_antisym : {a b : ℤ} → a ≤ℤ b → b ≤ℤ a → a ≡ b
≤ℤ_antisym {a} {b} h k = parts→eq a b (omega (arith, le→parts))

pub +ℤ_mono : (c : ℤ) {a b : ℤ} → a ≤ℤ b → (c +ℤ a) ≤ℤ (c +ℤ b)
+ℤ_mono c {a} {b} h = omega (arith, le→parts, parts→le, balance c a, balance c b)

pub sum_ordered : Ordered sum
sum_ordered =
    record {
      trans = ≤ℤ_trans;
      total = ≤ℤ_total;
      antisym = ≤ℤ_antisym;
      assoc = +ℤ_assoc;
      comm = +ℤ_comm;
      none_left = +ℤ_idl;
      mono = +ℤ_mono;
    }

negated : {a b : ℤ} → a ≤ℤ b → neg_ℤ b ≤ℤ neg_ℤ a
negated {a} {b} h =
    omega (arith, le→parts, parts→le, rw +ℤ_invr at (balance a (neg_ℤ a)), rw +ℤ_invr at (balance b (neg_ℤ b)))

max_left : (a b : ℤ) → a ≤ℤ maxℤ a b
max_left a b = cond_ind (λ z. a ≤ℤ z) (le_z a b) (λ t. le_z_yes t) (λ t. ≤ℤ_refl a)

max_right : (a b : ℤ) → b ≤ℤ maxℤ a b
max_right a b = cond_ind (λ z. b ≤ℤ z) (le_z a b) (λ t. ≤ℤ_refl b) (λ n. or_else sum sum_ordered (λ h. n h.le))

max_least : {a b c : ℤ} → a ≤ℤ c → b ≤ℤ c → maxℤ a b ≤ℤ c
max_least {a} {b} {c} h k = cond_ind (λ z. z ≤ℤ c) (le_z a b) (λ t. k) (λ t. h)

-- a difference rises with its second; the larger of two is least where the smaller due has the earlier second
pub difference_rises : (a : ℤ) {s t : ℕ} → s ≤ t → (pos s -ℤ a) ≤ℤ (pos t -ℤ a)
difference_rises a {s} {t} h = omega (arith, parts→le, balance (pos s) (neg_ℤ a), balance (pos t) (neg_ℤ a))

pub difference_swap : {a b : ℤ} {s t : ℕ} → a ≤ℤ b → s ≤ t → maxℤ (pos s -ℤ a) (pos t -ℤ b) ≤ℤ maxℤ (pos t -ℤ a) (pos s -ℤ b)
difference_swap {a} {b} {s} {t} h k =
    ≤ℤ_trans (max_least (difference_rises a k) (+ℤ_mono (pos t) (negated h))) (max_left (pos t -ℤ a) (pos s -ℤ b))

pub times_suc : (w : ℤ) (n : ℕ) → w *ℤ pos (suc n) ≡ w *ℤ pos n +ℤ w
times_suc w n = *ℤ_comm w (pos (suc n)) ∙ suc_ℤ-*ℤ (pos n) w ∙ ap (λ z. z +ℤ w) (*ℤ_comm (pos n) w)

-- a product rises with its second; the sum of two is least where the larger weight has the earlier second
product_swap_by : {a b : ℤ} → b ≤ℤ a → (s n : ℕ) → (a *ℤ pos s +ℤ b *ℤ pos (s + n)) ≤ℤ (a *ℤ pos (s + n) +ℤ b *ℤ pos s)
product_swap_by h s zero = rw add-zero (≤ℤ_refl _)
product_swap_by {a} {b} h s (suc n) =
    rw (add-suc, times_suc a (s + n), times_suc b (s + n), ← +ℤ_assoc, +ℤ_assoc (a *ℤ pos (s + n)) a, +ℤ_comm a, ← +ℤ_assoc)
    (both sum sum_ordered (product_swap_by h s n) h)

pub product_swap : {a b : ℤ} {s t : ℕ} → b ≤ℤ a → s ≤ t → (a *ℤ pos s +ℤ b *ℤ pos t) ≤ℤ (a *ℤ pos t +ℤ b *ℤ pos s)
product_swap {s = s} {t = t} h k = rw add-sub_of_le at (product_swap_by h s (t - s))

pub product_rises : {w : ℤ} → pos 0 ≤ℤ w → {s t : ℕ} → s ≤ t → (w *ℤ pos s) ≤ℤ (w *ℤ pos t)
product_rises h k = simp (zero-*ℤ, +ℤ_idr) at (product_swap h k)

pub raise : {a b : ℤ} → a ≤ℤ b → Below (at a) (at b)
raise h = record { le = h.le }

pub lower : {a b : ℤ} → Below (at a) (at b) → a ≤ℤ b
lower h = record { le = h.le }

grade_trans : {g h k : Grade} → Below g h → Below h k → Below g k
grade_trans {g = nothing} p q = record { le = tt }
grade_trans {g = at a} {h = nothing} p q = absurd p.le
grade_trans {g = at a} {h = at b} {k = nothing} p q = absurd q.le
grade_trans {g = at a} {h = at b} {k = at c} p q = raise (≤ℤ_trans (lower p) (lower q))

grade_total : (g h : Grade) → Below g h ⊎ Below h g
grade_total nothing h = inl (record { le = tt })
grade_total (at a) nothing = inr (record { le = tt })
grade_total (at a) (at b) = ⊎_elim (λ h. inl (raise h)) (λ h. inr (raise h)) (≤ℤ_total a b)

grade_antisym : {g h : Grade} → Below g h → Below h g → g ≡ h
grade_antisym {g = nothing} {h = nothing} p q = refl
grade_antisym {g = nothing} {h = at b} p q = absurd q.le
grade_antisym {g = at a} {h = nothing} p q = absurd p.le
grade_antisym {g = at a} {h = at b} p q = ap at (≤ℤ_antisym (lower p) (lower q))

grade_same : (g : Grade) → Below g g
grade_same g = ⊎_elim (λ h. h) (λ h. h) (grade_total g g)

larger_left : {k : Grade} (g h : Grade) → Below k g → Below k (larger g h)
larger_left nothing h p = grade_trans p (record { le = tt })
larger_left (at a) nothing p = p
larger_left (at a) (at b) p = grade_trans p (raise (max_left a b))

larger_right : {k : Grade} (g h : Grade) → Below k h → Below k (larger g h)
larger_right nothing h p = p
larger_right (at a) nothing p = grade_trans p (record { le = tt })
larger_right (at a) (at b) p = grade_trans p (raise (max_right a b))

larger_least : {g h k : Grade} → Below g k → Below h k → Below (larger g h) k
larger_least {g = nothing} p q = q
larger_least {g = at a} {h = nothing} p q = p
larger_least {g = at a} {h = at b} {k = nothing} p q = absurd p.le
larger_least {g = at a} {h = at b} {k = at c} p q = raise (max_least (lower p) (lower q))

ruleset bounds = (grade_same, grade_antisym, larger_left, larger_right, larger_least)

pub largest_ordered : Ordered largest
largest_ordered =
    record {
      trans = grade_trans;
      total = grade_total;
      antisym = grade_antisym;
      assoc = λ g h k. search bounds depth 6;
      comm = λ g h. search bounds;
      none_left = λ g. refl;
      mono = λ k p. search bounds;
    }
