-- Dominance: two schedules that keep apart from each other are worth, together, no less than the best of the day.
use Prim.Native.Nat.{◌≤◌}
use native.Mathlib.Omega.{arith}
use native.Mathlib.Decide.{dec_le}
use mathlib.Core.Path.{◌≡◌, refl, sym, ◌∙◌, ap}
use mathlib.Core.List.{List, [], ◌∷◌, Memᴰ}
use Rattle.theory.specs.Line.{Line, Lawful}
use Rattle.theory.specs.Schedule.{Run, All, Pairs, worth, Leaves, Apart, trains}
use Rattle.theory.specs.Orders.{days, best}
use Rattle.theory.specs.Merge.{merge}
use Rattle.theory.proofs.Choices.{pick_ind}
use Rattle.theory.proofs.Values.{none_right, exchange}
use Rattle.theory.proofs.Facts.{each, together, of_first, of_rest}
use Rattle.theory.proofs.Apart.{apart_turn, leaves_first}
use Rattle.theory.proofs.Best.{first_next, second_next, below}
use Rattle.theory.proofs.Waiting.{waiting}

module _ (L : Line) (P : Lawful L) where
  open L use {values, Train, Good, early, cost}
  open values use {◌≼◌, ◌⊙◌}
  open P use {ordered}

  infixl 6 ◌⊙◌
  infix 5 ◌≼◌
  pub merge_all : {Q : Run Train → Type 0} {rs ss : List (Run Train)} → All Q rs → All Q ss → All Q (merge rs ss)
  merge_all All.none b = b
  merge_all (All.more p a) All.none = All.more p a
  merge_all {Q} (All.more {x = r} p a) (All.more {x = s} q b) =
      pick_ind (All Q) (dec_le r.departure s.departure)
      (λ h. All.more p (merge_all a (All.more q b)))
      (λ n. All.more q (merge_all (All.more p a) b))

  pub merge_listed : (rs ss : List (Run Train)) → Memᴰ (trains (merge rs ss)) (days (trains rs) (trains ss))
  merge_listed [] ss = Memᴰ.head refl
  merge_listed (r ∷ rs) [] = Memᴰ.head refl
  merge_listed (r ∷ rs) (s ∷ ss) =
      pick_ind (λ m. Memᴰ (trains m) (days (trains (r ∷ rs)) (trains (s ∷ ss)))) (dec_le r.departure s.departure)
      (λ h. first_next r.train s.train (trains rs) (trains ss) (merge_listed rs (s ∷ ss)))
      (λ n. second_next r.train s.train (trains rs) (trains ss) (merge_listed (r ∷ rs) ss))

  pub merge_worth : (rs ss : List (Run Train)) → worth L (merge rs ss) ≡ worth L rs ⊙ worth L ss
  merge_worth [] ss = sym (ordered.none_left (worth L ss))
  merge_worth (r ∷ rs) [] = sym (none_right values ordered (worth L (r ∷ rs)))
  merge_worth (r ∷ rs) (s ∷ ss) =
      pick_ind (λ m. worth L m ≡ worth L (r ∷ rs) ⊙ worth L (s ∷ ss)) (dec_le r.departure s.departure)
      (λ h. ap (λ v. cost r.train r.departure ⊙ v) (merge_worth rs (s ∷ ss)) ∙ sym (ordered.assoc _ _ _))
      (λ n. ap (λ v. cost s.train s.departure ⊙ v) (merge_worth (r ∷ rs) ss) ∙ exchange values ordered _ _ _)

  -- a run that is no later than the first of a schedule from which it keeps apart leaves before all of it
  leads : {r s : Run Train} {ss : List (Run Train)}
      → r.departure ≤ s.departure → Pairs (Leaves L) (s ∷ ss) → All (Apart L r) (s ∷ ss) → All (Leaves L r) (s ∷ ss)
  leads h (Pairs.more ls p) (All.more a bs) =
      All.more (leaves_first L P h a) (together (λ t l b. leaves_first L P (omega arith) b) ls bs)

  pub merge_pairs : (rs ss : List (Run Train))
      → Pairs (Leaves L) rs → Pairs (Leaves L) ss → All (λ r. All (Apart L r) ss) rs → Pairs (Leaves L) (merge rs ss)
  merge_pairs [] ss p q a = q
  merge_pairs (r ∷ rs) [] p q a = p
  merge_pairs (r ∷ rs) (s ∷ ss) (Pairs.more ls p) (Pairs.more ms q) a =
      let first : Pairs (Leaves L) (r ∷ rs) = Pairs.more ls p in
      let second : Pairs (Leaves L) (s ∷ ss) = Pairs.more ms q in
      let turned : All (Apart L s) _ = each (λ t b. apart_turn L t s (of_first b)) a in
      pick_ind (Pairs (Leaves L)) (dec_le r.departure s.departure)
      (λ h. Pairs.more (merge_all ls (leads h second (of_first a))) (merge_pairs rs (s ∷ ss) p second (of_rest a)))
      (λ n. Pairs.more (merge_all (leads (omega arith) first turned) ms) (merge_pairs (r ∷ rs) ss first q (each (λ t. of_rest) a)))

  pub dominance : {rs ss : List (Run Train)} → Pairs (Leaves L) rs → Pairs (Leaves L) ss
      → All (λ r. All (Apart L r) ss) rs
      → All (λ r. early r.train ≤ r.departure) rs → All (λ s. early s.train ≤ s.departure) ss
      → All (λ r. Good r.train) rs → All (λ s. Good s.train) ss
      → best L early (trains rs) (trains ss) ≼ worth L rs ⊙ worth L ss
  dominance {rs} {ss} p q a e f g h =
      let cheap = waiting L P (merge_pairs rs ss p q a) (merge_all e f) (merge_all g h) in
      rw (← merge_worth rs ss) (ordered.trans (below L P early (trains rs) (trains ss) _ (merge_listed rs ss)) cheap)
