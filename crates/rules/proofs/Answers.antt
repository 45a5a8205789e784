-- What an answer says leaves nothing of it open.
use mathlib.Core.Path.{◌≡◌, refl, ap, sym, ◌∙◌}
use Rattle.std.specs.Prelude.{ℤ, Result, Ok, Err}
use Rattle.rules.specs.declared.Answer.{Answer}
use Rattle.rules.specs.declared.Refusal.{Refusal}
use Rattle.rules.specs.Answers.{Verdict, value_is, refused, outcome_says, says}

-- the outcome that says a verdict
abbrev outcome_of : Verdict → Result ℤ Refusal
outcome_of (value_is v) = Ok v
outcome_of (refused number first second) = Err (record { number = number; first = first; second = second })

read_back : (o : Result ℤ Refusal) → outcome_of (outcome_says o) ≡ o
read_back (Ok v) = refl
read_back (Err r) = refl

pub same_answer : (a b : Answer) → says a ≡ says b → a ≡ b
unfolding says
same_answer a b e =
    ap (λ o. record { outcome = o }) (sym (read_back a.outcome) ∙ ap outcome_of e ∙ read_back b.outcome)
