-- Exchange: a station's trains lose nothing by leaving in their queue's order, at the same departures.
-- Two trains in the wrong order trade departures; entering the queue one by one, all come to their place by such trades.
use Prim.Native.Nat.{ℕ, ◌≤◌}
use native.Mathlib.Nat.{le_trans}
use native.Mathlib.Omega.{arith}
use mathlib.Core.Path.{◌≡◌, refl, sym, ◌∙◌, ap}
use mathlib.Core.Bool.{Bool}
use mathlib.Core.List.{List, [], ◌∷◌, ◌++◌, append-nil}
use lib.Dec.{ltb}
use lib.ListN.{length, length-map}
use Rattle.theory.specs.Values.{Ordered}
use Rattle.theory.specs.Line.{Line, Lawful}
use Rattle.theory.specs.Schedule.{Run, trains, departures, All, Pairs, worth, Leaves}
use Rattle.theory.specs.Permutations.{Perm, turn}
use Rattle.theory.specs.Queue.{put, join, queue, Before, ascending, paired, requeued, Swappable}
use Rattle.theory.proofs.Values.{at_most, mono_left}
use Rattle.theory.proofs.Facts.{together, pairs_together}
use Rattle.theory.proofs.Apart.{Mates, mates_turn, mates_over, mates_trade, leaves_first}
use Rattle.theory.proofs.Permutations.{perm_same, perm_back, perm_into, perm_length, all_perm, pairs_perm, worth_perm}
use Rattle.theory.proofs.Queue.{Enters, first, later, put_perm, put_enters, put_sorted, queue_perm, no_larger, by_number, ascends}

paired_all : {X : Type 0} (q : List X) {P : ℕ → Type 0} {ds : List ℕ} → All P ds → All (λ r. P r.departure) (paired q ds)
paired_all [] a = All.none
paired_all (x ∷ q) All.none = All.none
paired_all (x ∷ q) (All.more p a) = All.more p (paired_all q a)

paired_ascends : {X : Type 0} (q : List X) {ds : List ℕ} → Pairs ◌≤◌ ds → Pairs (λ r s. r.departure ≤ s.departure) (paired q ds)
paired_ascends [] a = Pairs.none
paired_ascends (x ∷ q) Pairs.none = Pairs.none
paired_ascends (x ∷ q) (Pairs.more a p) = Pairs.more (paired_all q a) (paired_ascends q p)

module _ (L : Line) (O : Ordered L.values) (Fit : L.Train → Type 0) (ahead : L.Train → L.Train → Bool) (S : Swappable L Fit ahead) where
  open L use {values, Train, early}
  open values use {◌≼◌}

  infix 5 ◌≼◌
  -- what a schedule can become by trades and by being listed otherwise
  data Exchanged : List (Run Train) → List (Run Train) → Type 0 where
    listed : {rs ss : List (Run Train)} → Perm rs ss → Exchanged rs ss
    keep : {r : Run Train} {rs ss : List (Run Train)} → Exchanged rs ss → Exchanged (r ∷ rs) (r ∷ ss)
    then : {rs ss ts : List (Run Train)} → Exchanged rs ss → Exchanged ss ts → Exchanged rs ts
    trade :
        {x y : Train} {s t : ℕ} {rs : List (Run Train)} → Fit x → Fit y → Before ahead x y → s ≤ t →
        Exchanged (record { train = x; departure = t } ∷ record { train = y; departure = s } ∷ rs)
        (record { train = x; departure = s } ∷ record { train = y; departure = t } ∷ rs)

  exchanged_worth : {rs ss : List (Run Train)} → Exchanged rs ss → worth L ss ≼ worth L rs
  exchanged_worth (listed p) = at_most values O (sym (worth_perm L O p))
  exchanged_worth (keep e) = O.mono _ (exchanged_worth e)
  exchanged_worth (then e f) = O.trans (exchanged_worth f) (exchanged_worth e)
  exchanged_worth (trade {rs = rs} g h b k) = simp (← O.assoc) (mono_left values O (worth L rs) (S.swap g h b k))

  exchanged_ready :
      {rs ss : List (Run Train)} → Exchanged rs ss →
      All (λ r. early r.train ≤ r.departure) rs → All (λ r. early r.train ≤ r.departure) ss
  exchanged_ready (listed p) a = all_perm p a
  exchanged_ready (keep e) (All.more h a) = All.more h (exchanged_ready e a)
  exchanged_ready (then e f) a = exchanged_ready f (exchanged_ready e a)
  exchanged_ready (trade g h b k) (All.more p (All.more q a)) =
      All.more (le_trans (S.sooner b) q) (All.more (le_trans q k) a)

  -- what a train keeps that takes over another's departure holds of each run still
  module _ {Q : Run Train → Type 0} (over : (r s : Run Train) → Q r → Q s → Q (record { train = r.train; departure = s.departure })) where
    exchanged_all : {rs ss : List (Run Train)} → Exchanged rs ss → All Q rs → All Q ss
    exchanged_all (listed p) a = all_perm p a
    exchanged_all (keep e) (All.more h a) = All.more h (exchanged_all e a)
    exchanged_all (then e f) a = exchanged_all f (exchanged_all e a)
    exchanged_all (trade g h b k) (All.more p (All.more q a)) = All.more (over _ _ p q) (All.more (over _ _ q p) a)

  exchanged_mates : {rs ss : List (Run Train)} → Exchanged rs ss → Pairs (Mates L) rs → Pairs (Mates L) ss
  exchanged_mates (listed p) m = pairs_perm (mates_turn L) p m
  exchanged_mates (keep {r = r} e) (Pairs.more a m) = Pairs.more (exchanged_all (mates_over L r) e a) (exchanged_mates e m)
  exchanged_mates (then e f) m = exchanged_mates f (exchanged_mates e m)
  exchanged_mates (trade g h b k) (Pairs.more {x = r} (All.more n a) (Pairs.more {x = s} c m)) =
      Pairs.more (All.more (mates_trade L r s n) (together (taken r s) a c)) (Pairs.more (together (taken s r) c a) m)
    where
      taken : (r s z : Run Train) → Mates L r z → Mates L s z → Mates L (record { train = r.train; departure = s.departure }) z
      taken r s z m n =
          mates_turn L z _ (mates_over L z r s (mates_turn L r z m) (mates_turn L s z n))

  exchanged_after : (rs : List (Run Train)) {ss ts : List (Run Train)} → Exchanged ss ts → Exchanged (rs ++ ss) (rs ++ ts)
  exchanged_after [] e = e
  exchanged_after (r ∷ rs) e = keep (exchanged_after rs e)

  enter :
      {y : Train} {q p : List Train} {e : ℕ} {ds es : List ℕ} → Enters (Before ahead) y q p → Enters (Before ltb) e ds es →
      Pairs (Before ahead) q → Pairs (Before ltb) ds → Fit y → All Fit q → length q ≡ length ds →
      Exchanged (record { train = y; departure = e } ∷ paired q ds) (paired p es)
  enter (first a) (first b) r s g gs l = listed (perm_same _)
  enter (first a) (later k n) Pairs.none s g gs l = absurd (omega arith)
  enter {e = e} (first (All.more h a)) (later k n) (Pairs.more {x = x} b r) (Pairs.more c s) g (All.more g' gs) l =
      then (trade g g' h (no_larger (λ d. d) k)) (keep (enter {y = x} {e = e} (first b) n r s g' gs (omega arith)))
  enter (later h m) (first b) (Pairs.more c r) Pairs.none g gs l = absurd (omega arith)
  enter {y = y} (later h m) (first (All.more k b)) (Pairs.more c r) (Pairs.more {x = d'} d s) g (All.more g' gs) l =
      then (listed turn) (then (trade g' g h (no_larger (λ d. d) k)) (keep (enter {y = y} {e = d'} m (first d) r s g gs (omega arith))))
  enter {y = y} {e = e} (later h m) (later k n) (Pairs.more c r) (Pairs.more d s) g (All.more g' gs) l =
      then (listed turn) (keep (enter {y = y} {e = e} m n r s g gs (omega arith)))

  joined :
      (rs : List (Run Train)) {q : List Train} {ds : List ℕ} → Pairs (Before ahead) q → Pairs (Before ltb) ds →
      All (λ r. Fit r.train) rs → All Fit q → length q ≡ length ds →
      Exchanged (rs ++ paired q ds) (paired (join ahead q (trains rs)) (join ltb ds (departures rs)))
  joined [] r s gs hs l = listed (perm_same _)
  joined (t ∷ rs) {q} {ds} r s (All.more g gs) hs l =
      let K = by_number (λ d. d) in
      let p = put_perm ahead t.train q in
      let m : length (put ahead t.train q) ≡ length (put ltb t.departure ds) =
      omega (arith, perm_length p, perm_length (put_perm ltb t.departure ds)) in
      then (listed (perm_back (perm_into t rs (paired q ds))))
      (then (exchanged_after rs (enter (put_enters ahead S.ranked t.train r) (put_enters ltb K t.departure s) r s g hs l))
      (joined rs (put_sorted ahead S.ranked t.train r) (put_sorted ltb K t.departure s) gs (all_perm p (All.more g hs)) m))

  exchanged : {rs : List (Run Train)} → All (λ r. Fit r.train) rs → Exchanged rs (requeued ahead rs)
  exchanged {rs} gs = rw append-nil at (joined rs Pairs.none Pairs.none gs All.none refl)

  pub exchange : {rs : List (Run Train)} → All (λ r. Fit r.train) rs → worth L (requeued ahead rs) ≼ worth L rs
  exchange gs = exchanged_worth (exchanged gs)

  pub exchange_ready :
      {rs : List (Run Train)} → All (λ r. Fit r.train) rs → All (λ r. early r.train ≤ r.departure) rs →
      All (λ r. early r.train ≤ r.departure) (requeued ahead rs)
  exchange_ready gs a = exchanged_ready (exchanged gs) a

  pub exchange_all :
      {Q : Run Train → Type 0} → ((r s : Run Train) → Q r → Q s → Q (record { train = r.train; departure = s.departure })) →
      {rs : List (Run Train)} → All (λ r. Fit r.train) rs → All Q rs → All Q (requeued ahead rs)
  exchange_all over gs a = exchanged_all over (exchanged gs) a

  pub exchange_leaves :
      Lawful L → {rs : List (Run Train)} → All (λ r. Fit r.train) rs → Pairs (Mates L) rs → Pairs (Leaves L) (requeued ahead rs)
  exchange_leaves P {rs} gs m =
      pairs_together (λ r s n h. leaves_first L P h n.apart) (exchanged_mates (exchanged gs) m)
      (paired_ascends (queue ahead (trains rs)) (ascends (departures rs)))

-- a queue's trains and as many departures lose nothing by being paired
paired_parts : {X : Type 0} (q : List X) (ds : List ℕ) → length q ≡ length ds → (trains (paired q ds) ≡ q) × (departures (paired q ds) ≡ ds)
paired_parts [] [] l = (refl, refl)
paired_parts [] (d ∷ ds) l = absurd (omega arith)
paired_parts (x ∷ q) [] l = absurd (omega arith)
paired_parts (x ∷ q) (d ∷ ds) l = let (a, b) = paired_parts q ds (omega arith) in (ap (λ p. x ∷ p) a, ap (λ p. d ∷ p) b)

module _ {X : Type 0} (ahead : X → X → Bool) (rs : List (Run X)) where
  requeued_parts : (trains (requeued ahead rs) ≡ queue ahead (trains rs)) × (departures (requeued ahead rs) ≡ ascending (departures rs))
  requeued_parts =
      paired_parts _ _
      (sym (perm_length (queue_perm ahead (trains rs))) ∙ (simp length-map) ∙ perm_length (queue_perm ltb (departures rs)))

  pub requeued_trains : trains (requeued ahead rs) ≡ queue ahead (trains rs)
  requeued_trains = requeued_parts.0

  pub requeued_departures : Perm (departures rs) (departures (requeued ahead rs))
  requeued_departures = rw requeued_parts.1 (queue_perm ltb (departures rs))
