-- Laws of a section at the start of a file's numbers: where there is none, what it is, and how many numbers it has.
use Rattle.std.proofs.Common.{Bool, true, false, ◌==◌, ◌&&◌, ◌||◌, cond, Option, Some, None, ℕ, ◌≤◌, ◌≡◌, refl, List, [], ◌∷◌, length, take, drop, ℤ, pos, negsuc, nat_abs, ◌≤ℤ◌, arith, leb, Bor, option_map, length-take-le, length-drop, ◌+◌}
use Rattle.std.specs.Bool.{then_some}
use Rattle.std.specs.Int.Signed.{le_z}
use Rattle.std.specs.List.{list_all}
use Rattle.std.proofs.lemmas.Bool.{le-leb}
use Rattle.std.proofs.lemmas.Bool.Decides.{nat_tests}
use Rattle.std.proofs.Math.Facts.{yes_leb}
use Rattle.rules.specs.Figures.{within}
use Rattle.section_file.specs.Layout.{section_of, ended}

module _ (least most : ℕ) (minus : Bool) (zs : List ℤ) where
  pub below_0 : (z : ℤ) → (pos 0 ≤ℤ z → ⊥) → section_of least most minus (z ∷ zs) ≡ None
  unfolding within
  below_0 (pos n) h = absurd (h (record { le = yes_leb (omega arith) }))
  below_0 (negsuc n) h = refl

  module _ (n : ℕ) where
    abbrev allowed : Bool
    allowed = minus || list_all (le_z (pos 0)) (take n zs)

    pub out_of_range : leb least n && leb n most ≡ false → section_of least most minus (pos n ∷ zs) ≡ None
    unfolding within
    out_of_range e = rw e refl

    pub begins : leb least n && leb n most ≡ true → n ≤ length zs → section_of least most minus (pos n ∷ zs) ≡ then_some allowed (take n zs, drop n zs)
    unfolding within
    begins e h = rw (e, le-leb n (length zs) h) (by_test allowed)
      where
        by_test : (t : Bool) → cond {A = Option (List ℤ × List ℤ)} t (Some (take n zs, drop n zs)) None ≡ then_some t (take n zs, drop n zs)
        by_test true = refl
        by_test false = refl

-- what code that has two parts of the numbers answers, in these terms
pub shown : (t : Bool) (numbers rest : Bor (List ℤ)) → option_map {U = List ℤ × List ℤ} (λ p. (p.0.now, p.1.now)) (then_some {T = Bor (List ℤ) × Bor (List ℤ)} t (numbers, rest)) ≡ then_some t (numbers.now, rest.now)
shown true numbers rest = refl
shown false numbers rest = refl

-- how many numbers a section has, and how many it takes with its count
pub record Counted (least most : ℕ) (zs numbers rest : List ℤ) : Type 0 where
  pub enough : least ≤ length numbers
  pub few : length numbers ≤ most
  pub all : length numbers + length rest + 1 ≡ length zs

module _ (least most : ℕ) (minus : Bool) where
  abbrev tests : ℤ → List ℤ → Bool
  tests z zs = (le_z (pos least) z && le_z z (pos most)) && leb (nat_abs z) (length zs) && (minus || list_all (le_z (pos 0)) (take (nat_abs z) zs))

  passed : (z : ℤ) (zs : List ℤ) → tests z zs ≡ true → Counted least most (z ∷ zs) (take (nat_abs z) zs) (drop (nat_abs z) zs)
  passed (pos n) zs e =
      let room : n ≤ length zs = grind (arith, nat_tests) in
      let size : length (take n zs) ≡ n = length-take-le n zs room in
      record {
        enough = rw size (grind (arith, nat_tests));
        few = rw size (grind (arith, nat_tests));
        all = rw (size, length-drop) (omega arith);
      }
  passed (negsuc n) zs e = cc

  pub counted : (zs : List ℤ) {p : List ℤ × List ℤ} → Some p ≡ section_of least most minus zs → Counted least most zs p.0 p.1
  unfolding within
  counted [] e = cc
  counted (z ∷ zs) {p} e = by_test (tests z zs) refl e
    where
      by_test : (t : Bool) → tests z zs ≡ t → Some p ≡ cond {A = Option (List ℤ × List ℤ)} t (Some (take (nat_abs z) zs, drop (nat_abs z) zs)) None
          → Counted least most (z ∷ zs) p.0 p.1
      by_test true passes e = let same : p ≡ (take (nat_abs z) zs, drop (nat_abs z) zs) = cc in rw same (passed z zs passes)
      by_test false fails e = cc

-- whether anything follows the last section
pub something_more : (h xs ys ds zs : List ℤ) → length zs == 0 ≡ false → None ≡ ended h xs ys ds zs
something_more h xs ys ds [] more = cc
something_more h xs ys ds (z ∷ zs) more = refl

pub nothing_more : (zs : List ℤ) → length zs == 0 ≡ true → zs ≡ []
nothing_more [] none = refl
nothing_more (z ∷ zs) none = absurd (grind (arith, nat_tests))
