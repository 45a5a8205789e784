-- What is put onto a page piece by piece is put as one, and what is cut at the end of the page is what does not fit.
use Rattle.std.proofs.Common.{ℕ, ◌+◌, ◌<◌, ◌≡◌, refl, ap, List, [], ◌∷◌, ◌++◌, map, length, get_or, take, drop, append_assoc, ℤ, pos, add-one}
use Rattle.std.proofs.lemmas.List.{at_drop_more}
use Rattle.text.specs.Written.{signed}
use Rattle.text.proofs.Pages.{cut_again}
use Rattle.rules.specs.declared.Station.{Station}
use Rattle.rules.specs.declared.Timing.{Timing}
use Rattle.section_file.specs.Lines.{line}
use Rattle.section_file.specs.Printing.{train_at, station_lines}

-- what follows a line's first field
abbrev pub ending : List (List ℕ) → List ℕ
ending [] = 10 ∷ []
ending (f ∷ fs) = 32 ∷ (f ++ ending fs)

line_is : (f : List ℕ) (fs : List (List ℕ)) → line (f ∷ fs) ≡ f ++ ending fs
line_is f [] = refl
line_is f (g ∷ gs) = ap (λ l. f ++ (32 ∷ l)) (line_is g gs)

module _ (room : ℕ) (page : List ℕ) where
  -- a line's first field is put
  pub first_put : {page' : List ℕ} (f : List ℕ) (fs : List (List ℕ)) → page' ≡ take room (page ++ f)
      → take room (page' ++ ending fs) ≡ take room (page ++ line (f ∷ fs))
  first_put f fs put = rw (put, line_is, cut_again, append_assoc) refl

  -- a field more is put
  pub field_put : {page' page'' : List ℕ} {z : ℤ} (fields : List ℤ) (k : ℕ) → page' ≡ take room (page ++ (32 ∷ [])) → page'' ≡ take room (page' ++ signed z)
      → z ≡ get_or fields k (pos 0) → k < length fields
      → take room (page'' ++ ending (map signed (drop (k + 1) fields))) ≡ take room (page ++ ending (map signed (drop k fields)))
  field_put fields k space put e h =
      rw (put, space, e, cut_again, append_assoc, cut_again, append_assoc, at_drop_more (λ zs. ending (map signed zs)) fields k (pos 0) h) refl

  -- three pieces are put
  pub put_three : (a b c : List ℕ) → take room (take room (take room (page ++ a) ++ b) ++ c) ≡ take room (page ++ (a ++ (b ++ c)))
  put_three a b c = rw (cut_again, append_assoc, cut_again, append_assoc) refl

  -- a train's line more is put
  pub train_on : (t : Timing) (s : Station) (departures : List ℕ) (k : ℕ) → k < length departures
      → take room (take room (page ++ train_at t s k (get_or departures k 0)) ++ station_lines t s (k + 1) (drop (k + 1) departures))
      ≡ take room (page ++ station_lines t s k (drop k departures))
  train_on t s departures k h =
      rw (cut_again, append_assoc, at_drop_more (station_lines t s k) departures k 0 h, add-one k) refl
