-- The promises of the C functions settle their results and all that they write: they are those of the functions that they call.
use lib.IntN.{ℤ}
use Prim.Native.Nat.{ℕ}
use Rattle.promises.specs.Settles.{Settles, Leaves}
use Rattle.exports.proofs.Unique as linked
use Rattle.exports_c.proofs.pulpmitten_answer_text.Reads as answer_text
use Rattle.exports_c.proofs.pulpmitten_plan.Reads as plan
use Rattle.exports_c.proofs.pulpmitten_judge.Reads as judge

-- the answer's length, and the whole of `out`
pub one_length : Settles answer_text.Post
one_length = linked.one_length

pub one_out : Leaves answer_text.Post (λ κs exit. exit.1.0.now)
one_out = linked.one_out

-- a plan's refusal number, its departures, and `value`, `first` and `second`
pub one_plan : Settles plan.Post
one_plan = linked.one_plan

pub one_plan_departures : Leaves plan.Post (λ κs exit. exit.1.1.1.1.1.0.now)
one_plan_departures = linked.one_plan_departures

pub one_plan_told : Leaves plan.Post {X = λ κs. ℤ × ℕ × ℕ}
    (λ κs exit. (exit.1.1.1.1.1.1.0.now, exit.1.1.1.1.1.1.1.0.now, exit.1.1.1.1.1.1.1.1.0.now))
one_plan_told = linked.one_plan_told

-- a judgement's refusal number, and `value`, `first` and `second`
pub one_judgement : Settles judge.Post
one_judgement = linked.one_judgement

pub one_judgement_told : Leaves judge.Post {X = λ κs. ℤ × ℕ × ℕ}
    (λ κs exit. (exit.1.1.1.1.1.1.0.now, exit.1.1.1.1.1.1.1.0.now, exit.1.1.1.1.1.1.1.1.0.now))
one_judgement_told = linked.one_judgement_told
