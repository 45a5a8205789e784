-- A station's trains, put in the station's order at the departures they have: they still keep apart, and cost no more.
-- Where list order is kept nothing moves; elsewhere it is the exchange of the theory.
use mathlib.Core.List.{List, []}
use mathlib.Core.Logic.{⊎_elim}
use mathlib.Core.Path.{◌≡◌, sym, ◌∙◌, ap}
use Prim.Native.Nat.{◌≤◌}
use native.Mathlib.Nat.{le_of_lt}
use native.Mathlib.Omega.{arith}
use lib.Dec.{T}
use Rattle.rules.specs.declared.Station.{Station}
use Rattle.rules.specs.Line.{gap, arrival}
use Rattle.rules.specs.Trains.{Section, aim, Train, trains_at, Run}
use Rattle.rules.specs.Value.{cost_of}
use Rattle.rules.specs.Orders.{station_order}
use Rattle.theory.specs.Line.{Lawful}
use Rattle.theory.specs.Schedule.{trains, departures, All, Pairs, worth, Leaves, Apart}
use Rattle.theory.specs.Queue.{queue, requeued, Before, Swappable}
use Rattle.theory.specs.Permutations.{Perm}
use Rattle.theory.proofs.Values.{same}
use Rattle.theory.proofs.Facts.{each, together, pairs_each, pairs_together, pairs_any, pairs_of, all_unmapped, pairs_unmapped}
use Rattle.theory.proofs.Permutations.{perm_same, all_perm}
use Rattle.theory.proofs.Apart.{leaves_first, Alike, apart_alike, Mates}
use Rattle.theory.proofs.Queue.{queue_perm, queue_kept}
use Rattle.theory.proofs.Exchange.{exchange, exchange_all, exchange_leaves, requeued_trains, requeued_departures}
use Rattle.best.specs.Fair.{Fair, Listed, Trades}
use Rattle.best.specs.Instance.{line, ahead_in}
use Rattle.best.proofs.Orders.{queue_same}
use Rattle.best.proofs.Numbers.{trains_station, rising_at}
use Rattle.best.proofs.Safety.{Fine}

module _ (S : Section) (s : Station) where
  order_queue : station_order S s ≡ queue (ahead_in S) (trains_at S s)
  unfolding station_order
  order_queue = queue_same (ahead_in S) [] (trains_at S s)

  pub order_perm : Perm (trains_at S s) (station_order S s)
  order_perm = rw order_queue (queue_perm (ahead_in S) (trains_at S s))

  pub order_station : All (λ x. x.station ≡ s) (station_order S s)
  order_station = all_perm order_perm (trains_station S s)

  pub order_listed : Listed (aim S) → station_order S s ≡ trains_at S s
  order_listed listed =
      order_queue ∙ queue_kept (ahead_in S) (trains_at S s)
      (pairs_any (λ x y. record { free = listed.nobody y.figures x.figures }) (trains_at S s))

module _ (S : Section) (F : Fair (aim S)) (P : Lawful (line S F)) where
  -- a station's trains with good figures
  abbrev Fit : Station → Train → Type 0
  Fit s x = T ((aim S).good x.figures) × (x.station ≡ s)

  swappable : (s : Station) → Trades (aim S) F.values F.grade → Swappable (line S F) (Fit s) (ahead_in S)
  unfolding cost_of arrival
  swappable s t =
      record {
        ranked =
            record {
              steps = λ h k. up (t.ranked.steps (down h) (down k));
              leads = λ h. up (t.ranked.leads h);
            };
        swap = λ {x} {y} g h b k. rw (g.1, h.1) (t.swap x.figures y.figures g.0 h.0 (down b) (omega arith));
        sooner = λ b. omega arith;
      }
    where
      up : {x y : Train} → Before (aim S).ahead x.figures y.figures → Before (ahead_in S) x y
      up b = record { free = b.free }

      down : {x y : Train} → Before (ahead_in S) x y → Before (aim S).ahead x.figures y.figures
      down b = record { free = b.free }

  alike : (x y : Train) → x.station ≡ y.station → Alike (line S F) x y
  alike x y e =
      record {
        waits = λ z. ap (λ s. gap S.timing z.station s) e;
        keeps = λ z. ap (λ s. gap S.timing s z.station) e;
      }

  -- the runs rs of a station's trains, settled into the station's order
  pub record Settled (s : Station) (rs : List Run) : Type 0 where
    pub runs : List Run
    pub queued : trains runs ≡ station_order S s
    pub leaving : Pairs (Leaves (line S F)) runs
    pub cheaper : F.values.◌≼◌ (worth (line S F) runs) (worth (line S F) rs)
    pub seconds : Perm (departures rs) (departures runs)
    pub clear : (r : Run) → All (Apart (line S F) r) rs → All (Apart (line S F) r) runs

  module _ (s : Station) (rs : List Run) (here : trains rs ≡ trains_at S s) (fine : Pairs (Fine S F) rs) where
    at_station : All (λ r. r.train.station ≡ s) rs
    at_station = all_unmapped (λ r. r.train) rs (rw here (trains_station S s))

    one_station : Pairs (λ r r'. r.train.station ≡ r'.train.station) rs
    one_station = pairs_each (λ r r' e. e.0 ∙ sym e.1) (pairs_of at_station)

    settle_listed : Listed (aim S) → Settled s rs
    settle_listed listed =
        record {
          runs = rs;
          queued = here ∙ sym (order_listed S s listed);
          leaving = pairs_together (λ r r' f h. leaves_first (line S F) P (h f) f.apart) fine in_turn;
          cheaper = same F.values F.ordered (worth (line S F) rs);
          seconds = perm_same (departures rs);
          clear = λ r a. a;
        }
      where
        in_turn : Pairs (λ r r'. Fine S F r r' → r.departure ≤ r'.departure) rs
        in_turn =
            pairs_together (λ r r' e n f. le_of_lt (f.first (rw listed.kept tt) e n))
            one_station (pairs_unmapped (λ r. r.train) rs (rw here (rising_at S s)))

    settle_trades : All (λ x. T ((aim S).good x.figures)) (trains_at S s) → Trades (aim S) F.values F.grade → Settled s rs
    settle_trades good trades =
        record {
          runs = requeued (ahead_in S) rs;
          queued = requeued_trains (ahead_in S) rs ∙ ap (queue (ahead_in S)) here ∙ sym (order_queue S s);
          leaving = exchange_leaves (line S F) F.ordered (Fit s) (ahead_in S) (swappable s trades) P fit mates;
          cheaper = exchange (line S F) F.ordered (Fit s) (ahead_in S) (swappable s trades) fit;
          seconds = requeued_departures (ahead_in S) rs;
          clear = λ r a. each (λ z c. c.1) (exchange_all (line S F) F.ordered (Fit s) (ahead_in S) (swappable s trades) (over r) fit (together (λ z e c. (e, c)) at_station a));
        }
      where
        fit : All (λ r. Fit s r.train) rs
        fit = together (λ r g e. (g, e)) (all_unmapped (λ r. r.train) rs (rw here good)) at_station

        mates : Pairs (Mates (line S F)) rs
        mates = pairs_together (λ r r' f e. record { alike = alike r.train r'.train e; apart = f.apart }) fine one_station

        over : (r z z' : Run) → (z.train.station ≡ s) × Apart (line S F) r z → (z'.train.station ≡ s) × Apart (line S F) r z'
            → (z.train.station ≡ s) × Apart (line S F) r (record { train = z.train; departure = z'.departure })
        over r z z' h k = (h.0, apart_alike (line S F) r z' (alike z'.train z.train (k.0 ∙ sym h.0)) k.1)

    pub settle : All (λ x. T ((aim S).good x.figures)) (trains_at S s) → Settled s rs
    settle good = ⊎_elim settle_listed (settle_trades good) F.order
