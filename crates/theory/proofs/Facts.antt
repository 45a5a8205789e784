-- Laws of facts that hold of each element of a list, or of each pair.
use mathlib.Core.List.{List, [], ◌∷◌, ◌++◌, map, Memᴰ}
use Rattle.theory.specs.Schedule.{All, Pairs}

module _ {X : Type 0} where
  -- a fact of each element, or of each pair, from two others, and from one
  pub together : {P Q R : X → Type 0} → ((x : X) → P x → Q x → R x) → {xs : List X} → All P xs → All Q xs → All R xs
  together f All.none All.none = All.none
  together f (All.more {x = x} p ps) (All.more q qs) = All.more (f x p q) (together f ps qs)

  pub each : {P Q : X → Type 0} → ((x : X) → P x → Q x) → {xs : List X} → All P xs → All Q xs
  each f ps = together (λ x p q. f x p) ps ps

  pub pairs_together : {P Q R : X → X → Type 0} → ((x y : X) → P x y → Q x y → R x y)
      → {xs : List X} → Pairs P xs → Pairs Q xs → Pairs R xs
  pairs_together f Pairs.none Pairs.none = Pairs.none
  pairs_together f (Pairs.more {x = x} a ps) (Pairs.more b qs) = Pairs.more (together (f x) a b) (pairs_together f ps qs)

  pub pairs_each : {P Q : X → X → Type 0} → ((x y : X) → P x y → Q x y) → {xs : List X} → Pairs P xs → Pairs Q xs
  pairs_each f ps = pairs_together (λ x y p q. f x y p) ps ps

  pub all_any : {P : X → Type 0} → ((x : X) → P x) → (xs : List X) → All P xs
  all_any f [] = All.none
  all_any f (x ∷ xs) = All.more (f x) (all_any f xs)

  pub pairs_any : {R : X → X → Type 0} → ((x y : X) → R x y) → (xs : List X) → Pairs R xs
  pairs_any f [] = Pairs.none
  pairs_any f (x ∷ xs) = Pairs.more (all_any (f x) xs) (pairs_any f xs)

  pub pairs_of : {P : X → Type 0} {xs : List X} → All P xs → Pairs (λ x y. P x × P y) xs
  pairs_of All.none = Pairs.none
  pairs_of (All.more p ps) = Pairs.more (each (λ y q. (p, q)) ps) (pairs_of ps)

  module _ {P : X → Type 0} where
    pub of_first : {x : X} {xs : List X} → All P (x ∷ xs) → P x
    of_first (All.more p ps) = p

    pub of_rest : {x : X} {xs : List X} → All P (x ∷ xs) → All P xs
    of_rest (All.more p ps) = ps

    pub at : {x : X} {xs : List X} → All P xs → Memᴰ x xs → P x
    at All.none m = elim m [ ]
    at (All.more p ps) (Memᴰ.head e) = rw e p
    at (All.more p ps) (Memᴰ.tail m) = at ps m

    pub all_append : {xs ys : List X} → All P xs → All P ys → All P (xs ++ ys)
    all_append All.none qs = qs
    all_append (All.more p ps) qs = All.more p (all_append ps qs)

    pub all_split : (xs : List X) {ys : List X} → All P (xs ++ ys) → All P xs × All P ys
    all_split [] ps = (All.none, ps)
    all_split (x ∷ xs) (All.more p ps) = let (a, b) = all_split xs ps in (All.more p a, b)

  module _ {R : X → X → Type 0} where
    pub pairs_append : {xs ys : List X} → Pairs R xs → Pairs R ys → All (λ x. All (R x) ys) xs → Pairs R (xs ++ ys)
    pairs_append Pairs.none qs c = qs
    pairs_append (Pairs.more a ps) qs (All.more b c) = Pairs.more (all_append a b) (pairs_append ps qs c)

    pub pairs_split : (xs : List X) {ys : List X} → Pairs R (xs ++ ys) → Pairs R xs × Pairs R ys × All (λ x. All (R x) ys) xs
    pairs_split [] ps = (Pairs.none, ps, All.none)
    pairs_split (x ∷ xs) (Pairs.more a ps) =
        let (b, c) = all_split xs a in
        let (p, q, d) = pairs_split xs ps in
        (Pairs.more b p, q, All.more c d)

-- a fact of what a list is mapped to, and the fact of each element that it comes from
module _ {X Y : Type 0} {P : Y → Type 0} (f : X → Y) where
  pub all_mapped : {xs : List X} → All (λ x. P (f x)) xs → All P (map f xs)
  all_mapped All.none = All.none
  all_mapped (All.more p ps) = All.more p (all_mapped ps)

  pub all_unmapped : (xs : List X) → All P (map f xs) → All (λ x. P (f x)) xs
  all_unmapped [] ps = All.none
  all_unmapped (x ∷ xs) (All.more p ps) = All.more p (all_unmapped xs ps)

pub pairs_unmapped : {X Y : Type 0} {R : Y → Y → Type 0} (f : X → Y) (xs : List X) → Pairs R (map f xs) → Pairs (λ x y. R (f x) (f y)) xs
pairs_unmapped f [] ps = Pairs.none
pairs_unmapped f (x ∷ xs) (Pairs.more a ps) = Pairs.more (all_unmapped f xs a) (pairs_unmapped f xs ps)

pub pairs_mapped : {X Y : Type 0} {R : Y → Y → Type 0} (f : X → Y) {xs : List X} → Pairs (λ x y. R (f x) (f y)) xs → Pairs R (map f xs)
pairs_mapped f Pairs.none = Pairs.none
pairs_mapped f (Pairs.more a ps) = Pairs.more (all_mapped f a) (pairs_mapped f ps)

-- a fact of each element of one list with each of another, from the other list's side
pub across : {X Y : Type 0} {P : X → Y → Type 0} {Q : Y → X → Type 0} → ((x : X) (y : Y) → P x y → Q y x)
    → (ys : List Y) {xs : List X} → All (λ x. All (P x) ys) xs → All (λ y. All (Q y) xs) ys
across f ys All.none = all_any (λ y. All.none) ys
across f ys (All.more {x = x} a b) = together (λ y p q. All.more (f x y p) q) a (across f ys b)
