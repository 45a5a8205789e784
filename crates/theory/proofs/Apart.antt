-- Runs that keep apart: gaps are positive, so of two such runs the one that is no later leaves first.
-- Trains that wait alike, as those of one station do, may have each other's departures.
use Prim.Native.Nat.{◌≤◌}
use native.Mathlib.Omega.{arith}
use mathlib.Core.Path.{◌≡◌, sym, ◌∙◌}
use Rattle.theory.specs.Line.{Line, Lawful}
use Rattle.theory.specs.Schedule.{Run, Leaves, Apart}

module _ (L : Line) where
  open L use {Train, gap}

  pub apart_turn : (r s : Run Train) → Apart L r s → Apart L s r
  apart_turn r s (Apart.first l) = Apart.second l
  apart_turn r s (Apart.second l) = Apart.first l

  pub leaves_first : Lawful L → {r s : Run Train} → r.departure ≤ s.departure → Apart L r s → Leaves L r s
  leaves_first P h (Apart.first l) = l
  leaves_first P {r} {s} h (Apart.second l) = absurd (omega (arith, P.positive s.train r.train))

  -- neither waits longer for a train than the other does, nor is waited for longer
  pub record Alike (x y : Train) : Type 0 where
    pub waits : (z : Train) → gap z x ≡ gap z y
    pub keeps : (z : Train) → gap x z ≡ gap y z

  alike_turn : {x y : Train} → Alike x y → Alike y x
  alike_turn a = record { waits = λ z. sym (a.waits z); keeps = λ z. sym (a.keeps z) }

  alike_on : {x y z : Train} → Alike x y → Alike y z → Alike x z
  alike_on a b = record { waits = λ w. a.waits w ∙ b.waits w; keeps = λ w. a.keeps w ∙ b.keeps w }

  pub apart_alike : (r s : Run Train) {x : Train}
      → Alike s.train x → Apart L r s → Apart L r (record { train = x; departure = s.departure })
  apart_alike r s a (Apart.first l) = Apart.first (record { waits = rw (a.waits r.train) at l.waits })
  apart_alike r s a (Apart.second l) = Apart.second (record { waits = rw (a.keeps r.train) at l.waits })

  -- two runs of trains that wait alike, and that keep apart
  pub record Mates (r s : Run Train) : Type 0 where
    pub alike : Alike r.train s.train
    pub apart : Apart L r s

  pub mates_turn : (r s : Run Train) → Mates r s → Mates s r
  mates_turn r s m = record { alike = alike_turn m.alike; apart = apart_turn r s m.apart }

  -- a third's mates may take each other's departures, and so may two mates of themselves
  pub mates_over : (a r s : Run Train) → Mates a r → Mates a s → Mates a (record { train = r.train; departure = s.departure })
  mates_over a r s m n =
      record { alike = m.alike; apart = apart_alike a s (alike_on (alike_turn n.alike) m.alike) n.apart }

  pub mates_trade : (r s : Run Train) → Mates r s
      → Mates (record { train = r.train; departure = s.departure }) (record { train = s.train; departure = r.departure })
  mates_trade r s m =
      let given : Run Train = record { train = r.train; departure = s.departure } in
      let parted = apart_turn r given (apart_alike r s (alike_turn m.alike) m.apart) in
      record { alike = m.alike; apart = apart_alike given r m.alike parted }
