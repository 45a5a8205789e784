-- The promises of the exported functions settle their results and all that they write.
use mathlib.Core.Path.{sym, ◌∙◌, ap}
use Prim.Native.Nat.{ℕ}
use lib.IntN.{ℤ}
use Rattle.promises.specs.Settles.{Settles, Leaves}
use Rattle.exports.specs.Told.{Told}
use Rattle.exports.proofs.pulpmitten_answer_text.Reads as answer_text
use Rattle.exports.proofs.pulpmitten_plan.Reads as plan
use Rattle.exports.proofs.pulpmitten_judge.Reads as judge

-- the answer's length, and the whole of `out`
pub one_length : Settles answer_text.Post
one_length κs args r r' exit exit' p q = p.0 ∙ sym q.0

pub one_out : Leaves answer_text.Post (λ κs exit. exit.1.0.now)
one_out κs args r r' exit exit' p q = p.1 ∙ sym q.1

-- a plan's refusal number, its departures, and `value`, `first` and `second`
pub one_plan : Settles plan.Post
one_plan κs args r r' exit exit' p q = ap (λ (t : Told). t.number) (p.0 ∙ sym q.0)

pub one_plan_departures : Leaves plan.Post (λ κs exit. exit.1.1.1.1.1.0.now)
one_plan_departures κs args r r' exit exit' p q = p.1 ∙ sym q.1

pub one_plan_told : Leaves plan.Post {X = λ κs. ℤ × ℕ × ℕ}
    (λ κs exit. (exit.1.1.1.1.1.1.0.now, exit.1.1.1.1.1.1.1.0.now, exit.1.1.1.1.1.1.1.1.0.now))
one_plan_told κs args r r' exit exit' p q = ap (λ (t : Told). (t.value, t.first, t.second)) (p.0 ∙ sym q.0)

-- a judgement's refusal number, and `value`, `first` and `second`
pub one_judgement : Settles judge.Post
one_judgement κs args r r' exit exit' p q = ap (λ (t : Told). t.number) (p ∙ sym q)

pub one_judgement_told : Leaves judge.Post {X = λ κs. ℤ × ℕ × ℕ}
    (λ κs exit. (exit.1.1.1.1.1.1.0.now, exit.1.1.1.1.1.1.1.0.now, exit.1.1.1.1.1.1.1.1.0.now))
one_judgement_told κs args r r' exit exit' p q = ap (λ (t : Told). (t.value, t.first, t.second)) (p ∙ sym q)
