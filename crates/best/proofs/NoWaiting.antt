-- Waiting never helps: the order of a safe schedule, sent without waiting, is safe, lets no train arrive later and costs no more.
use mathlib.Core.List.{List}
use mathlib.Core.Logic.{◌≢◌, by_cases}
use mathlib.Core.Path.{◌≡◌, refl, sym, ap}
use Prim.Native.Nat.{ℕ, ◌≤◌, zero-le}
use native.Mathlib.Decide.{dec_lt}
use native.Mathlib.Omega.{arith}
use lib.Dec.{T}
use lib.ListN.{get_or}
use lib.Signed.{◌≤ℤ◌}
use Rattle.rules.specs.Line.{arrival}
use Rattle.rules.specs.Trains.{Section, aim, trains, Run, runs}
use Rattle.rules.specs.Safe.{Safe}
use Rattle.rules.specs.Value.{value}
use Rattle.rules.specs.Orders.{by_number}
use Rattle.theory.specs.Line.{Lawful}
use Rattle.theory.specs.Schedule.{All, Pairs, leave, Leaves}
use Rattle.theory.specs.Permutations.{Perm}
use Rattle.theory.specs.Timed.{timed}
use Rattle.theory.proofs.Facts.{all_any, pairs_each, pairs_together, pairs_mapped, all_unmapped}
use Rattle.theory.proofs.Permutations.{perm_map, all_perm, pairs_perm, worth_perm}
use Rattle.theory.proofs.Timed.{timed_perm, timed_leaves}
use Rattle.theory.proofs.Waiting.{waiting}
use Rattle.best.specs.Fair.{Fair}
use Rattle.best.specs.Instance.{line}
use Rattle.best.specs.Trainees.{own_order, prompt, WaitingNeverHelps}
use Rattle.best.proofs.Instance.{sent_leaves}
use Rattle.best.proofs.Numbers.{runs_trains}
use Rattle.best.proofs.Accepted.{Accepted}
use Rattle.best.proofs.Safety.{Fine, fine_turn}
use Rattle.best.proofs.Reindex.{graded_value, unlike}
use Rattle.best.proofs.Settled.{runs_fine}
use Rattle.best.proofs.Days.{Turn, day_value, day_safe}
use Rattle.best.proofs.Earliest.{none_later}

module _ (S : Section) (F : Fair (aim S)) (P : Lawful (line S F)) (A : Accepted S) (departures : List ℕ) (safe : Safe S departures) where
  -- the runs as they leave, and the same order without waiting
  abbrev as_they_leave : List Run
  as_they_leave = timed (runs S departures)

  fine : Pairs (Fine S F) as_they_leave
  fine = pairs_perm (fine_turn S F) (timed_perm (runs S departures)) (runs_fine S F P A.good departures safe)

  leaves : Pairs (Leaves (line S F)) as_they_leave
  leaves = timed_leaves (line S F) P (pairs_each (λ r s f. f.apart) (runs_fine S F P A.good departures safe))

  same_trains : Perm (trains S) (own_order S departures)
  unfolding own_order
  same_trains = rw (runs_trains S departures) at (perm_map (λ r. r.train) (timed_perm (runs S departures)))

  -- trains that keep list order leave in it
  turn : (r s : Run) → Fine S F r s → Leaves (line S F) r s → s.train.number ≢ r.train.number → Turn S r.train s.train
  turn r s f l u k e =
      by_cases (dec_lt s.train.number r.train.number)
      (λ h. absurd (omega (arith, f.second k e h, l.waits))) (λ n. omega arith)

  turns : Pairs (Turn S) (own_order S departures)
  unfolding own_order
  turns =
      let both : Pairs (λ r s. Fine S F r s × Leaves (line S F) r s) as_they_leave = pairs_together (λ r s f l. (f, l)) fine leaves in
      pairs_mapped (λ r. r.train) (pairs_together (λ r s h u. turn r s h.0 h.1 u) both (unlike S as_they_leave same_trains))

  good : All (λ r. T ((aim S).good r.train.figures)) as_they_leave
  good = all_perm (timed_perm (runs S departures)) (all_unmapped (λ r. r.train) (runs S departures) (rw (runs_trains S departures) A.good))

  prompt_sent : prompt S departures ≡ by_number S (leave (line S F) (λ x. 0) (own_order S departures))
  unfolding prompt
  prompt_sent = ap (by_number S) (sym (sent_leaves S F (λ s. 0) (λ x. 0) (λ x. refl) (own_order S departures)))

  prompt_no_later : (number : ℕ) → get_or (prompt S departures) number 0 ≤ get_or departures number 0
  unfolding own_order
  prompt_no_later = rw prompt_sent (none_later S F P departures (timed_perm (runs S departures)) leaves)

  prompt_no_dearer : value S (prompt S departures) ≤ℤ value S departures
  unfolding own_order
  prompt_no_dearer =
      F.down _ _
      (rw (prompt_sent, day_value S F P _ same_trains A.filled, graded_value S F A.filled departures)
      (rw (worth_perm (line S F) F.ordered (timed_perm (runs S departures)))
      (waiting (line S F) P leaves (all_any (λ r. zero-le) as_they_leave) good)))

  pub never_helps : WaitingNeverHelps S departures
  unfolding arrival
  never_helps =
      record {
        safe = rw prompt_sent (day_safe S F P _ same_trains turns);
        no_later = λ s number. omega (arith, prompt_no_later number);
        no_greater = prompt_no_dearer;
      }
