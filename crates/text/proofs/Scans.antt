-- A text of which some numbers are read: how it goes on at a word more, a word too many, a word that is no number, and the end.
use borrow.Author.Tests.{le-leb, lt-leb}
use Rattle.std.proofs.Common.{ℕ, ◌+◌, ◌≤◌, ◌<◌, ◌≡◌, refl, ap, ◌∙◌, sym, ℤ, Option, Some, None, List, [], ◌∷◌, ◌++◌, length, take, drop, set, get_or, arith, length-append, length-take, length-set, length-take-le, take-append-drop}
use Rattle.std.proofs.lemmas.List.{append-nil, take_all, take_at, drop-set-lt, drop-drop, drop_more, take_more_set}
use lib.Seq.{append_snoc}
use Rattle.text.specs.Words.{words}
use Rattle.text.specs.Numbers.{number, after, each_number, numbers}
use Rattle.text.specs.Over.{over}
use Rattle.text.specs.Read.{few, leading, Reads}

-- numbers, and those that stand after them
abbrev with : List ℤ → Option (List ℤ) → Option (List ℤ)
with zs (Some ys) = Some (zs ++ ys)
with zs None = None

with_none : (ns : Option (List ℤ)) → with [] ns ≡ ns
with_none (Some zs) = refl
with_none None = refl

with_more : (zs : List ℤ) (z : ℤ) (ns : Option (List ℤ)) → with (zs ++ (z ∷ [])) ns ≡ with zs (after (Some z) ns)
with_more zs z (Some ys) = ap Some (append_snoc zs z ys)
with_more zs z None = refl

too_many : (zs : List ℤ) → length zs ≡ 1543 → (m : Option ℤ) (ns : Option (List ℤ)) → None ≡ few (with zs (after m ns))
too_many zs h (Some z) (Some ys) =
    let above : 1543 < length (zs ++ z ∷ ys) = simp length-append (omega arith) in
    rw (lt-leb _ 1543 above)
too_many zs h (Some z) None = refl
too_many zs h None ns = refl

-- the first `count` values and the numbers of the words that are left are those of all the words, and the values after those are as they were
pub record Begun (all : List (List ℕ)) (before values : List ℤ) (count : ℕ) (left : List (List ℕ)) : Type 0 where
  pub room : length values ≡ 1543
  pub counted : count ≤ 1543
  pub read : with (take count values) (each_number left) ≡ each_number all
  pub leads : take count values ++ leading left ≡ leading all
  pub keeps : drop count values ≡ drop count before

module _ (text : List ℕ) {before values : List ℤ} {count : ℕ} {left : List (List ℕ)} (b : Begun (words text) before values count left) where
  few_enough : length (take count values) ≤ 1543
  few_enough = rw length-take (omega (arith, b.counted))

  -- the values, where those so far are all the leading numbers that there is room for
  stays : take 1543 (leading (words text)) ≡ take count values → values ≡ over (take 1543 (leading (words text))) before
  unfolding over
  stays e = rw (e, length-take-le count values (omega (arith, b.counted, b.room)), ← b.keeps, take-append-drop)

  no_more : leading left ≡ [] → values ≡ over (take 1543 (leading (words text))) before
  no_more none = stays (rw (← b.leads, none, append-nil, take_all 1543 (take count values) few_enough))

  pub finished : left ≡ [] → Reads text before (Some count) values
  unfolding numbers
  finished none =
      let whole : Some (take count values) ≡ numbers text = simp (none, append-nil) at b.read in
      record {
        found = rw (← whole, le-leb (length (take count values)) 1543 few_enough);
        leaves = no_more (ap leading none);
        within = b.counted;
        room = b.room;
      }

  module _ {word : List ℕ} {rest : List (List ℕ)} (e : left ≡ word ∷ rest) where
    at_word : with (take count values) (after (number word) (each_number rest)) ≡ numbers text
    unfolding numbers
    at_word = rw e at b.read

    pub one_too_many : 1543 ≤ count → Reads text before None values
    one_too_many full =
        let most : length (take count values) ≡ 1543 = rw length-take (omega (arith, b.counted, b.room)) in
        record {
          found = rw (← at_word) (too_many (take count values) most (number word) (each_number rest));
          leaves = stays (rw (← b.leads) (take_at (take count values) (leading left) 1543 most));
          within = omega arith;
          room = b.room;
        }

    pub no_number : None ≡ number word → Reads text before None values
    no_number none =
        record {
          found = ap few (rw (← none) at at_word);
          leaves = no_more (rw (e, ← none));
          within = omega arith;
          room = b.room;
        }

    pub one_more : {z : ℤ} → count < 1543 → Some z ≡ number word → Begun (words text) before (set values count z) (count + 1) rest
    unfolding numbers
    one_more {z} l is =
        let here : count < length values = omega (arith, b.room) in
        record {
          room = length-set values count z ∙ b.room;
          counted = omega arith;
          read = rw (take_more_set values count z here) (with_more (take count values) z (each_number rest) ∙ rw (← is) at at_word);
          leads = rw (take_more_set values count z here, append_snoc) (rw (e, ← is) at b.leads);
          keeps = drop-set-lt (count + 1) values count z (omega arith) ∙ rw (← drop-drop 1 count values, ← drop-drop 1 count before, b.keeps);
        }

pub next_word : (all : List (List ℕ)) {i : ℕ} {word : List ℕ} → (i < length all) × (word ≡ get_or all i word) → drop i all ≡ word ∷ drop (i + 1) all
next_word all {i} {word} h = drop_more all i word h.0 ∙ ap (λ w. w ∷ drop (i + 1) all) (sym h.1)
