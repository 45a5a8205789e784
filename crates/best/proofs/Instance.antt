-- A section's line is lawful; the value of its schedules is their worth there, and its clock is the theory's.
use mathlib.Core.List.{List, [], ◌∷◌, map}
use mathlib.Core.Path.{◌≡◌, refl, sym, ◌∙◌, ap, ap₂}
use Prim.Native.Nat.{ℕ, ◌+◌, ◌<◌}
use native.Mathlib.Omega.{arith}
use lib.Dec.{T}
use lib.IntN.{ℤ}
use lib.ListN.{length}
use Rattle.rules.specs.declared.Station.{Station}
use Rattle.rules.specs.Line.{good_timing, arrival, gap}
use Rattle.rules.specs.Trains.{Section, aim, Train, Run}
use Rattle.rules.specs.Value.{cost_of, join_on, join_all}
use Rattle.rules.specs.Orders.{sent}
use Rattle.rules.proofs.Line.{gap_positive, gap_triangle}
use Rattle.theory.specs.Line.{Lawful}
use Rattle.theory.specs.Schedule.{after, leave, worth}
use Rattle.theory.proofs.Values.{none_right}
use Rattle.best.specs.Fair.{Fair}
use Rattle.best.specs.Instance.{line}

module _ (S : Section) (F : Fair (aim S)) where
  pub lawful : T (good_timing S.timing) → Lawful (line S F)
  unfolding cost_of arrival
  lawful good =
      record {
        ordered = F.ordered;
        positive = λ x y. gap_positive S.timing good x.station y.station;
        triangle = λ x y z. gap_triangle S.timing good x.station y.station z.station;
        rising = λ {x} g h. F.up (F.rising x.figures g (omega arith));
      }

  -- costs joined from the first one on are graded as what the theory joins
  graded_on : (c : ℤ) (rs : List Run)
      → F.grade (join_on (aim S).joined c (map (cost_of S) rs)) ≡ F.values.◌⊙◌ (F.grade c) (worth (line S F) rs)
  graded_on c [] = sym (none_right F.values F.ordered (F.grade c))
  graded_on c (r ∷ rs) =
      graded_on ((aim S).joined c (cost_of S r)) rs
      ∙ ap (λ v. F.values.◌⊙◌ v (worth (line S F) rs)) (F.joins c (cost_of S r))
      ∙ F.ordered.assoc _ _ _

  pub graded : (rs : List Run) → 0 < length rs
      → F.grade (join_all (aim S).joined (map (cost_of S) rs)) ≡ worth (line S F) rs
  graded [] h = absurd (omega arith)
  graded (r ∷ rs) h = graded_on (cost_of S r) rs

  pub sent_leaves : (clock : Station → ℕ) (early : Train → ℕ) → ((x : Train) → early x ≡ clock x.station)
      → (xs : List Train) → leave (line S F) early xs ≡ sent S.timing clock xs
  sent_leaves clock early same [] = refl
  sent_leaves clock early same (x ∷ xs) =
      ap₂ (λ d rs. record { train = x; departure = d } ∷ rs) (same x)
      (sent_leaves (λ s. clock x.station + gap S.timing x.station s) (after (line S F) x (early x)) (λ y. omega (arith, same x)) xs)
