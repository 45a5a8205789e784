-- Laws of permutations: what holds of each element, of each pair either way round, and of the whole, holds in any order.
use mathlib.Core.Path.{◌≡◌, refl, sym, ◌∙◌, ap}
use mathlib.Core.List.{List, [], ◌∷◌, ◌++◌, map, append-nil}
use Prim.Native.Nat.{suc}
use lib.ListN.{length}
use Rattle.theory.specs.Values.{Ordered}
use Rattle.theory.specs.Line.{Line}
use Rattle.theory.specs.Schedule.{Run, All, Pairs, worth}
use Rattle.theory.specs.Permutations.{Perm, none, keep, turn, then}
use Rattle.theory.proofs.Values.{exchange}

module _ {X : Type 0} where
  pub perm_same : (xs : List X) → Perm xs xs
  perm_same [] = none
  perm_same (x ∷ xs) = keep (perm_same xs)

  pub perm_back : {xs ys : List X} → Perm xs ys → Perm ys xs
  perm_back none = none
  perm_back (keep p) = keep (perm_back p)
  perm_back turn = turn
  perm_back (then p q) = then (perm_back q) (perm_back p)

  pub perm_after : (zs : List X) {xs ys : List X} → Perm xs ys → Perm (zs ++ xs) (zs ++ ys)
  perm_after [] p = p
  perm_after (z ∷ zs) p = keep (perm_after zs p)

  pub perm_into : (x : X) (xs ys : List X) → Perm (xs ++ (x ∷ ys)) (x ∷ (xs ++ ys))
  perm_into x [] ys = perm_same (x ∷ ys)
  perm_into x (z ∷ xs) ys = then (keep (perm_into x xs ys)) turn

  pub perm_swap : (xs ys : List X) → Perm (xs ++ ys) (ys ++ xs)
  perm_swap [] ys = rw append-nil (perm_same ys)
  perm_swap (x ∷ xs) ys = then (keep (perm_swap xs ys)) (perm_back (perm_into x ys xs))

  pub perm_before : {xs ys : List X} → Perm xs ys → (zs : List X) → Perm (xs ++ zs) (ys ++ zs)
  perm_before {xs} {ys} p zs = then (perm_swap xs zs) (then (perm_after zs p) (perm_swap zs ys))

  pub perm_map : {Y : Type 0} (f : X → Y) {xs ys : List X} → Perm xs ys → Perm (map f xs) (map f ys)
  perm_map f none = none
  perm_map f (keep p) = keep (perm_map f p)
  perm_map f turn = turn
  perm_map f (then p q) = then (perm_map f p) (perm_map f q)

  pub perm_length : {xs ys : List X} → Perm xs ys → length xs ≡ length ys
  perm_length none = refl
  perm_length (keep p) = ap suc (perm_length p)
  perm_length turn = refl
  perm_length (then p q) = perm_length p ∙ perm_length q

  module _ {P : X → Type 0} where
    pub all_perm : {xs ys : List X} → Perm xs ys → All P xs → All P ys
    all_perm none a = a
    all_perm (keep p) (All.more h a) = All.more h (all_perm p a)
    all_perm turn (All.more h (All.more k a)) = All.more k (All.more h a)
    all_perm (then p q) a = all_perm q (all_perm p a)

  module _ {R : X → X → Type 0} where
    pub pairs_perm : ((x y : X) → R x y → R y x) → {xs ys : List X} → Perm xs ys → Pairs R xs → Pairs R ys
    pairs_perm back none r = r
    pairs_perm back (keep p) (Pairs.more a r) = Pairs.more (all_perm p a) (pairs_perm back p r)
    pairs_perm back turn (Pairs.more (All.more h a) (Pairs.more b r)) = Pairs.more (All.more (back _ _ h) b) (Pairs.more a r)
    pairs_perm back (then p q) r = pairs_perm back q (pairs_perm back p r)

module _ (L : Line) (O : Ordered L.values) where
  open L use {values, Train, cost}
  open values use {◌⊙◌}

  infixl 6 ◌⊙◌
  pub worth_perm : {rs ss : List (Run Train)} → Perm rs ss → worth L rs ≡ worth L ss
  worth_perm none = refl
  worth_perm (keep {x = r} p) = ap (λ z. cost r.train r.departure ⊙ z) (worth_perm p)
  worth_perm turn = exchange values O _ _ _
  worth_perm (then p q) = worth_perm p ∙ worth_perm q

  pub worth_append : (rs ss : List (Run Train)) → worth L (rs ++ ss) ≡ worth L rs ⊙ worth L ss
  worth_append [] ss = sym (O.none_left (worth L ss))
  worth_append (r ∷ rs) ss = ap (λ z. cost r.train r.departure ⊙ z) (worth_append rs ss) ∙ sym (O.assoc _ _ _)
