-- A page of which some bytes are written, and the others 0: how it goes on, and what the whole of it is.
use Rattle.std.proofs.Common.{ℕ, zero, suc, ◌≡◌, refl, [], ◌∷◌, ◌+◌, ◌-◌, ◌/◌, ◌%◌, ◌<◌, ◌≤◌, Fits, w64, append_assoc, List, ◌++◌, min, length, take, drop, replicate, arith, sym, ◌∙◌, ap, length-take-le, take_all, take-append-drop}
use Rattle.std.proofs.lemmas.Slice.{take-put_mid, drop-put_mid}
use Rattle.std.proofs.lemmas.List.{drop-drop, drop-replicate, take_min}
use Rattle.std.proofs.Math.Seq.{take-append-add}
use borrow.Rule.Slice.PartMut.{put_mid}
use Rattle.text.specs.Over.{over}
use Rattle.text.specs.Written.{decimal}
use Rattle.text.proofs.Decimal.{decimal_small, decimal_next}

module _ (room count more k : ℕ) (page bytes new : List ℕ) (whole : length page ≡ room) (within : count ≤ room) (most : more ≡ min (room - count) (length bytes)) (part : k ≡ count + more - count)
    (filled : length new ≡ more) (last : ℕ) (all : length (take more bytes) ≤ last) (end : last ≤ more) (done : take last new ≡ take last bytes) where
  put_there : new ≡ take more bytes
  put_there =
      let full : last ≡ more = omega (arith, length-take-le more bytes (omega arith)) in
      sym (take_all more new (omega (arith, filled))) ∙ rw full at done

  pub blank_after : drop count page ≡ replicate (room - count) 0 → drop (count + more) (put_mid count k page new) ≡ replicate (room - (count + more)) 0
  blank_after blank =
      let rest : room - (count + more) ≡ room - count - more = omega arith in
      rw (drop-put_mid count k page new (count + more) (omega arith) (omega arith) (omega (arith, filled)), ← drop-drop more count page, blank, drop-replicate, rest)

  pub written_on : take (count + more) (put_mid count k page new) ≡ take room (take count page ++ bytes)
  written_on =
      let n : room ≡ length (take count page) + (room - count) = rw (length-take-le count page (omega arith)) (omega arith) in
      rw (take-put_mid count k page new (count + more) (omega (arith, filled)) (omega arith), put_there, most, take_min)
      (sym (ap (λ m. take m (take count page ++ bytes)) n ∙ take-append-add (take count page) bytes (room - count)))

pub whole_page : (room count : ℕ) (page : List ℕ) → length page ≡ room → count ≤ room → drop count page ≡ replicate (room - count) 0 → page ≡ over (take count page) (replicate room 0)
unfolding over
whole_page room count page whole within blank =
    rw (length-take-le count page (omega arith), drop-replicate, ← blank, take-append-drop)

-- what is cut at the room of the page is cut there again
pub cut_again : (n : ℕ) (xs ys : List ℕ) → take n (take n xs ++ ys) ≡ take n (xs ++ ys)
cut_again zero xs ys = refl
cut_again (suc n) [] ys = refl
cut_again (suc n) (x ∷ xs) ys = ap (x ∷◌) (cut_again n xs ys)

-- a number of one digit, and one with a digit after a smaller number's
module _ (room : ℕ) (written : List ℕ) (n : ℕ) where
  pub one_digit : n < 10 → take room (written ++ (48 + n % 10) ∷ []) ≡ take room (written ++ decimal n)
  one_digit h = let one : n % 10 ≡ n = omega arith in rw (decimal_small n h, one) refl

  pub next_digit : Fits w64 n → 10 ≤ n → take room (take room (written ++ decimal (n / 10)) ++ (48 + n % 10) ∷ []) ≡ take room (written ++ decimal n)
  next_digit f h = rw (decimal_next n f h, cut_again, append_assoc) refl
