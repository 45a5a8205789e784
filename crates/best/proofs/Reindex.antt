-- A schedule listed in any order and its departures by train number are the same schedule: as safe, and of the same value.
use mathlib.Core.List.{List, map}
use mathlib.Core.Logic.{◌≢◌}
use mathlib.Core.Path.{◌≡◌, refl, sym, ◌∙◌}
use Prim.Native.Nat.{ℕ, ◌<◌}
use native.Mathlib.Omega.{arith}
use borrow.Author.Tests.{eq-eqb, ne_eqb}
use lib.ListN.{get_or}
use Rattle.rules.specs.Trains.{Section, aim, count, Train, trains, Run, runs}
use Rattle.rules.specs.Safe.{Safe}
use Rattle.rules.specs.Value.{value}
use Rattle.rules.specs.Orders.{departure_of, by_number}
use Rattle.theory.specs.Schedule.{All, Pairs, worth}
use Rattle.theory.specs.Permutations.{Perm}
use Rattle.theory.proofs.Facts.{together, pairs_each, pairs_together, all_unmapped, pairs_unmapped}
use Rattle.theory.proofs.Permutations.{perm_back, perm_map, all_perm, pairs_perm, worth_perm}
use Rattle.best.specs.Fair.{Fair}
use Rattle.best.specs.Instance.{line}
use Rattle.best.proofs.Instance.{graded}
use Rattle.best.proofs.Pairwise.{pairs_safe}
use Rattle.best.proofs.Numbers.{leaving_at, rising, runs_set, runs_trains, runs_count, runs_rising}
use Rattle.best.proofs.Safety.{Fine, fine_turn, fine_keeps}

pub graded_value : (S : Section) (F : Fair (aim S)) → 0 < count S → (departures : List ℕ)
    → F.grade (value S departures) ≡ worth (line S F) (runs S departures)
unfolding value
graded_value S F filled departures = graded S F (runs S departures) (rw (runs_count S departures) filled)

-- where no two trains have one number, a departure is found by its train's
pub found : {rs : List Run} → Pairs (λ r r'. r'.train.number ≢ r.train.number) rs
    → All (λ r. departure_of r.train.number rs ≡ r.departure) rs
found Pairs.none = All.none
found (Pairs.more {x = r} a p) =
    let n = r.train.number in
    All.more {x = r} (rw (eq-eqb n n refl)) (together (λ r' h e. rw (ne_eqb r'.train.number n h) e) a (found p))

pub rebuilt : (f : Train → ℕ) {rs : List Run} → All (λ r. f r.train ≡ r.departure) rs
    → map (leaving_at f) (map (λ r. r.train) rs) ≡ rs
rebuilt f All.none = refl
rebuilt f (All.more e a) = rw (e, rebuilt f a)

module _ (S : Section) (rs : List Run) (same : Perm (trains S) (map (λ r. r.train) rs)) where
  distinct : Pairs (λ x y. y.number ≢ x.number) (map (λ r. r.train) rs)
  distinct = pairs_perm (λ x y h e. h (sym e)) same (pairs_each (λ x y h. omega arith) (rising S))

  pub unlike : Pairs (λ r r'. r'.train.number ≢ r.train.number) rs
  unlike = pairs_unmapped (λ r. r.train) rs distinct

  pub same_runs : Perm (runs S (by_number S rs)) rs
  unfolding by_number
  same_runs =
      let f : Train → ℕ = λ x. departure_of x.number rs in
      rw (runs_set S) (rw (rebuilt f (found unlike)) at (perm_map (leaving_at f) same))

  module _ (F : Fair (aim S)) where
    pub same_value : 0 < count S → F.grade (value S (by_number S rs)) ≡ worth (line S F) rs
    same_value filled = graded_value S F filled (by_number S rs) ∙ worth_perm (line S F) F.ordered same_runs

    pub still_safe : Pairs (Fine S F) rs → Safe S (by_number S rs)
    still_safe fine =
        pairs_safe S (by_number S rs)
        (pairs_together (λ r s n f. fine_keeps S F r s n f) (runs_rising S (by_number S rs))
        (pairs_perm (fine_turn S F) (perm_back same_runs) fine))

-- each run of recorded departures is found by its train's number, in whatever order the runs are listed
pub recorded : (S : Section) (departures : List ℕ) (rs : List Run) → Perm (runs S departures) rs
    → All (λ x. departure_of x.number rs ≡ get_or departures x.number 0) (trains S)
unfolding runs
recorded S departures rs p =
    let same : Perm (trains S) (map (λ r. r.train) rs) = rw (runs_trains S departures) at (perm_map (λ r. r.train) p) in
    all_unmapped (λ x. record { train = x; departure = get_or departures x.number 0 }) (trains S) (all_perm (perm_back p) (found (unlike S rs same)))

-- a schedule's departures by number, read by each train's number
pub reads : (S : Section) (rs : List Run) → Perm (trains S) (map (λ r. r.train) rs)
    → All (λ r. get_or (by_number S rs) r.train.number 0 ≡ r.departure) rs
reads S rs same =
    together (λ r e f. sym e ∙ f)
    (all_unmapped (λ r. r.train) rs (all_perm same (recorded S (by_number S rs) rs (same_runs S rs same))))
    (found (unlike S rs same))
