-- What was read is all of the input, or longer than a file may be, as the input then is: either way the answer to it is the input's.
use Rattle.std.proofs.Common.{◌≡◌, refl, ℕ, Bool, true, false, ltb, ltb-false, ◌<◌, List, ◌++◌, Option, None, Some, IfSome, rules, arith, length, sym, ap, ◌∙◌, subst, append-nil, length-append, length-take-le, take}
use borrow.Author.Tests.{lt-leb, ltb-true}
use Rattle.std.specs.Io.KnownBytes.{Appends, Consumes, IsAtEnd}
use Rattle.std.proofs.lemmas.Result.{on_ok_weaker}
use Rattle.section_file.specs.Answer.{read, answer}
use Rattle.section.proofs.answer_input.Goals as goal

too_long : (text more : List ℕ) → 16384 < length text → answer text ≡ answer (text ++ more)
unfolding answer read
too_long text more h = rw (lt-leb (length text) 16384 h, lt-leb (length (text ++ more)) 16384 (omega (arith, length-append text more))) refl

all_read : (before after : Option (List ℕ)) (text : List ℕ) → Consumes before after text → (length text < 16385 → IsAtEnd after)
    → IfSome before (λ xs. answer text ≡ answer xs)
all_read None after text taken ended = tt
all_read (Some xs) None text taken ended = absurd taken
all_read (Some xs) (Some left) text taken ended = by_length (ltb (length text) 16385) refl
  where
    by_length : (t : Bool) → ltb (length text) 16385 ≡ t → answer text ≡ answer xs
    by_length true e = ap answer (sym (taken ∙ ap (λ (l : List ℕ). text ++ l) (ended (ltb-true (length text) 16385 e)) ∙ append-nil text))
    by_length false e = rw taken (too_long text left (omega (arith, ltb-false (length text) 16385 e)))

written : (before : Option (List ℕ)) (old new : Option (List ℕ)) (text bytes : List ℕ) → bytes ≡ answer text → IfSome before (λ xs. answer text ≡ answer xs)
    → Appends old new bytes → IfSome before (λ xs. Appends old new (answer xs))
written None old new text bytes e all h = tt
written (Some xs) old new text bytes e all h = subst (Appends old new) (e ∙ all) h

pub returns : goal.returns
returns g c =
    let taken = c.in_ok-n.ensures in
    let room : length c.read_full.new.text ≡ 16385 = search rules in
    let count = length-take-le c.in_ok-n.n c.read_full.new.text taken.within in
    let bytes : c.as_bytes-answer.result.now ≡ answer (take c.in_ok-n.n c.read_full.new.text) = search rules in
    on_ok_weaker
    c.write_all.result
    (written _ _ _ _ _ bytes (all_read _ _ _ taken.bytes (λ less. taken.ended (omega arith))))
    c.write_all.ensures.bytes
