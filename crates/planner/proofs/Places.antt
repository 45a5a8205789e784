-- Laws of writing by place: every place is within the list, each turn keeps what is written, and all that is written is in list order.
use Rattle.std.proofs.Common.{Bool, true, false, List, ◌∷◌, map, ◌≡◌, refl, sym, ◌∙◌, ap, ap₂, ℕ, zero, suc, ◌+◌, ◌≤◌, ◌<◌, zero-add, add-one, arith, eqb-true, eqb, length, get_or, take, drop, set, length-take, drop_of_length-le, get_or-set_same, get_or-set_other, get_or-take, take-suc, drop-cons}
use borrow.Author.Tests.{eqb-false}
use Rattle.rules.specs.Lists.{count_from}
use Rattle.theory.specs.Schedule.{All}
use Rattle.theory.proofs.Facts.{each, all_append}
use Rattle.theory.proofs.Permutations.{all_perm, perm_back, perm_length}
use Rattle.best.proofs.Numbers.{length_count}
use Rattle.std.proofs.lemmas.List.{get_or-map}
use Rattle.planner.specs.Writer.{Covers, Tells, InListOrder}
use Rattle.planner.proofs.Left.{all_at}

all_below : (k n : ℕ) → All (λ i. i < k + n) (count_from k n)
all_below k zero = All.none
all_below k (suc n) =
    let first : k < k + suc n = omega arith in
    All.more first (each (λ i h. omega arith) (all_below (suc k) n))

-- a departure written at one place keeps those at the others
kept : (leaves : ℕ → ℕ) (departures : List ℕ) (place i : ℕ) → place < length departures
    → get_or departures i 0 ≡ leaves i → get_or (set departures place (leaves place)) i 0 ≡ leaves i
kept leaves departures place i h e = by_place (eqb i place) refl
  where
    by_place : (b : Bool) → eqb i place ≡ b → get_or (set departures place (leaves place)) i 0 ≡ leaves i
    by_place true same = rw (eqb-true i place same) (get_or-set_same departures place (leaves place) 0 h)
    by_place false other = get_or-set_other departures place i (leaves place) 0 (eqb-false i place other) ∙ e

-- where numbers in a row are places, what stands there is the rest of the list
in_a_row : (f : ℕ → ℕ) (xs : List ℕ) (k n : ℕ) → k + n ≡ length xs → All (λ i. get_or xs i 0 ≡ f i) (count_from k n) → drop k xs ≡ map f (count_from k n)
in_a_row f xs k zero e All.none = drop_of_length-le xs {i = k} (omega arith)
in_a_row f xs k (suc n) e (All.more p ps) =
    drop-cons xs k 0 (omega arith) ∙ ap₂ ◌∷◌ p (in_a_row f xs (suc k) n (omega arith) ps)

-- the trains at the first k places leave when the times tell
unfoldable pub Written : ℕ → List ℕ → List ℕ → ℕ → List ℕ → Type 0
Written n places times k departures = (leaves : ℕ → ℕ) → Tells n places times leaves → All (λ i. get_or departures i 0 ≡ leaves i) (take k places)

pub starts : (n : ℕ) (places times departures : List ℕ) → Written n places times 0 departures
unfolding Written
starts n places times departures leaves tells = All.none

module _ {n : ℕ} {places : List ℕ} (C : Covers n places) where
  enough : n ≤ length (take n places)
  enough = rw (← perm_length C.all, length_count 0 n) (omega arith)

  pub inside : (k : ℕ) → k < n → get_or places k 0 < n
  inside k h =
      rw (get_or-take n places k 0 h, zero-add n) at (all_at (all_perm C.all (all_below 0 n)) k 0 (omega (arith, enough)))

  module _ (times departures : List ℕ) (whole : length departures ≡ n) where
    pub turns : (k : ℕ) → k < n → Written n places times k departures
        → Written n places times (k + 1) (set departures (get_or places k 0) (get_or times k 0))
    unfolding Written
    turns k h written leaves tells =
        let place = get_or places k 0 in
        let told : get_or times k 0 ≡ leaves place =
        sym (get_or-take n times k 0 h) ∙ ap (λ xs. get_or xs k 0) tells ∙ get_or-map leaves (take n places) k 0 0 (omega (arith, enough)) ∙ ap leaves (get_or-take n places k 0 h) in
        let within : place < length departures = omega (arith, inside k h) in
        rw (told, add-one k, take-suc places k 0 (omega (arith, enough, length-take n places)))
        (all_append
        (each (λ i e. kept leaves departures place i within e) (written leaves tells))
        (All.more (get_or-set_same departures place (leaves place) 0 within) All.none))

    pub ends : Written n places times n departures → InListOrder n places times departures
    unfolding Written InListOrder
    ends written leaves tells =
        in_a_row leaves departures 0 n (omega arith) (all_perm (perm_back C.all) (written leaves tells))
