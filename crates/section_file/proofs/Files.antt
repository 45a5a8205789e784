-- From a text to its file: what is read of the numbers, where there are not too many, is what all of them say.
use Rattle.std.proofs.Common.{Bool, true, false, cond, Option, Some, None, ℕ, ◌+◌, ◌≤◌, ◌<◌, ◌≡◌, refl, sym, List, length, ℤ, leb, arith}
use Rattle.std.specs.Option.{option_and_then}
use Rattle.std.proofs.lemmas.Bool.{le-leb, lt-leb, leb-false}
use Rattle.std.proofs.lemmas.Bool.Decides.{nat_tests}
use Rattle.text.specs.Numbers.{numbers}
use Rattle.text.specs.Read.{few, shown, Reads}
use Rattle.section_file.proofs.Sections.{counted, something_more}
use Rattle.section_file.specs.Layout.{File, section_of, after, laid_out}
use Rattle.section_file.specs.Answer.{read}

-- what follows a section is too long, if the numbers are
section_long : (least most : ℕ) (minus : Bool) (n : ℕ) (zs : List ℤ) (next : List ℤ → List ℤ → Option File)
    → ((h rest : List ℤ) → n < length rest → next h rest ≡ None) → most + 1 + n < length zs → after (section_of least most minus zs) next ≡ None
section_long least most minus n zs next never long = by_part (section_of least most minus zs) refl
  where
    by_part : (found : Option (List ℤ × List ℤ)) → found ≡ section_of least most minus zs → after found next ≡ None
    by_part None e = refl
    by_part (Some p) e = let part = counted least most minus zs e in never p.0 p.1 (omega (arith, part.few, part.all))

-- so more than 1,543 numbers are no file
long : (zs : List ℤ) → 1543 < length zs → laid_out zs ≡ None
unfolding laid_out
long zs l =
    section_long 3 3 false 1539 zs _ (λ h zs l.
    section_long 0 512 true 1026 zs _ (λ xs zs l.
    section_long 0 512 true 513 zs _ (λ ys zs l.
    section_long 0 512 false 0 zs _ (λ ds zs l. sym (something_more h xs ys ds zs (grind (arith, nat_tests)))) l) l) l) l

enough : (N : Option (List ℤ)) → option_and_then laid_out (few N) ≡ option_and_then laid_out N
enough None = refl
enough (Some zs) = by_room (leb (length zs) 1543) refl
  where
    by_room : (t : Bool) → leb (length zs) 1543 ≡ t → option_and_then laid_out (cond t (Some zs) None) ≡ laid_out zs
    by_room true e = refl
    by_room false e = sym (long zs (leb-false (length zs) 1543 e))

pub too_long : (text : List ℕ) → 16384 < length text → None ≡ read text
unfolding read
too_long text h = rw (lt-leb (length text) 16384 h) refl

-- what is read of a text that is not too long
pub read_is : {text : List ℕ} {r : Option ℕ} {before values : List ℤ} → Reads text before r values → length text ≤ 16384
    → option_and_then laid_out (shown r values) ≡ read text
unfolding read
read_is {text} reads h = rw (le-leb (length text) 16384 h, ← enough (numbers text), ← reads.found) refl
