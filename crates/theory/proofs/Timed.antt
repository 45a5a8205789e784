-- A schedule whose runs keep apart can be listed so that they leave one after the other.
use mathlib.Core.List.{List}
use Rattle.theory.specs.Line.{Line, Lawful}
use Rattle.theory.specs.Schedule.{Run, Pairs, Leaves, Apart}
use Rattle.theory.specs.Permutations.{Perm}
use Rattle.theory.specs.Queue.{smaller}
use Rattle.theory.specs.Timed.{timed}
use Rattle.theory.proofs.Apart.{apart_turn, leaves_first}
use Rattle.theory.proofs.Facts.{pairs_together}
use Rattle.theory.proofs.Permutations.{pairs_perm}
use Rattle.theory.proofs.Queue.{no_larger, by_number, queue_perm, queue_sorted}

pub timed_perm : {X : Type 0} (rs : List (Run X)) → Perm rs (timed rs)
timed_perm rs = queue_perm (smaller (λ r. r.departure)) rs

module _ (L : Line) (P : Lawful L) where
  open L use {Train}

  pub timed_leaves : {rs : List (Run Train)} → Pairs (Apart L) rs → Pairs (Leaves L) (timed rs)
  timed_leaves {rs} a =
      pairs_together (λ r s o b. leaves_first L P (no_larger (λ t. t.departure) b) o)
      (pairs_perm (apart_turn L) (timed_perm rs) a) (queue_sorted _ (by_number (λ r. r.departure)) rs)
