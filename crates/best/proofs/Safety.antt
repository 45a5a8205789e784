-- The rules of a pair, whichever of the two trains is named first: so they can be followed from one listing of a schedule to another.
use mathlib.Core.Logic.{◌↔◌, inl, inr, ⊎_elim}
use mathlib.Core.Path.{◌≡◌, refl, sym}
use Prim.Native.Nat.{◌<◌}
use native.Mathlib.Omega.{arith}
use lib.Dec.{T, leb→le, le→leb, ltb→lt, lt→ltb}
use Rattle.rules.specs.declared.Station.{Station}
use Rattle.rules.specs.declared.Station.TheVariants.{One as one, Two as two}
use Rattle.rules.specs.Line.{apart, same_station}
use Rattle.rules.specs.Trains.{Section, aim, Run}
use Rattle.rules.specs.Safe.{in_order, keeps}
use Rattle.rules.proofs.Tests.{both, either, if_both}
use Rattle.theory.specs.Schedule.{Apart}
use Rattle.theory.proofs.Apart.{apart_turn}
use Rattle.best.specs.Fair.{Fair}
use Rattle.best.specs.Instance.{line}

same→ : (s s' : Station) → T (same_station s s') → s ≡ s'
same→ one one t = refl
same→ one two t = absurd t
same→ two one t = absurd t
same→ two two t = refl

pub →same : (s s' : Station) → s ≡ s' → T (same_station s s')
→same one s' e = rw (← e) tt
→same two s' e = rw (← e) tt

module _ (S : Section) (F : Fair (aim S)) where
  -- two runs keep apart, and where list order is kept they leave as they are numbered
  pub record Fine (r s : Run) : Type 0 where
    pub apart : Apart (line S F) r s
    pub first : T (aim S).listed → r.train.station ≡ s.train.station → r.train.number < s.train.number → r.departure < s.departure
    pub second : T (aim S).listed → r.train.station ≡ s.train.station → s.train.number < r.train.number → s.departure < r.departure

  pub fine_turn : (r s : Run) → Fine r s → Fine s r
  fine_turn r s f =
      record {
        apart = apart_turn (line S F) r s f.apart;
        first = λ l e. f.second l (sym e);
        second = λ l e. f.first l (sym e);
      }

  apart_test : (r s : Run)
      → T (apart S.timing r.train.station r.departure s.train.station s.departure) ↔ Apart (line S F) r s
  unfolding apart
  apart_test r s = (
    λ h. ⊎_elim (λ t. Apart.first (record { waits = leb→le _ _ t })) (λ t. Apart.second (record { waits = leb→le _ _ t })) (simp either at h),
    λ a. simp either (elim a [ Apart.first l ↦ inl (le→leb _ _ l.waits) | Apart.second l ↦ inr (le→leb _ _ l.waits) ]),
  )

  pub keeps_fine : (r s : Run) → r.train.number < s.train.number → T (keeps S r s) → Fine r s
  unfolding keeps in_order
  keeps_fine r s n k =
      let (a, o) = simp (both, if_both) at k in
      record {
        apart = (apart_test r s).0 a;
        first = λ l e m. ltb→lt _ _ (o l (→same _ _ e));
        second = λ l e m. absurd (omega arith);
      }

  pub fine_keeps : (r s : Run) → r.train.number < s.train.number → Fine r s → T (keeps S r s)
  unfolding keeps in_order
  fine_keeps r s n f =
      simp (both, if_both) ((apart_test r s).1 f.apart, λ l t. lt→ltb _ _ (f.first l (same→ _ _ t) n))
