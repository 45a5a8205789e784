-- A word that is read is one number more; one that is no number, or one too many, ends the reading.
use Rattle.std.proofs.Common.{◌≡◌, ◌+◌, ◌∷◌, length, drop, arith, rules, tests}
use Rattle.std.proofs.lemmas.Iterator.{YieldsList}
use Rattle.std.proofs.lemmas.Iterator.Consumers.{YieldsList-at, YieldsList-from_filter, YieldsList-turn, YieldsList-end}
use Rattle.std.proofs.lemmas.Iterator.Splits.{YieldsList-from_slice_split}
use Rattle.std.proofs.lemmas.List.{drop_all, length_push}
use mir.Syntax.{w32}
use mir.Val.{to_z, of_z}
use Rattle.text.specs.Words.{parts, words}
use Rattle.text.proofs.Scans.{next_word, finished, no_number, one_too_many, one_more}
use Rattle.text.proofs.Splitting.{some, words_are}
use Rattle.text.proofs.read.numbers.Given as given
use Rattle.text.proofs.read.numbers.Goals as goal
use Rattle.text.proofs.read.numbers.Goals.{After-into_iter-word-iterator, In-Some}

-- what the loop goes over is the words
road : (c : After-into_iter-word-iterator) → YieldsList ((given.iterator-loop-word).next_gives) (λ w. w.now) c.into_iter-word-iterator.result (words c.args.text.now)
road c =
    rw (words_are c.args.text.now)
    (YieldsList-at c.into_iter-word-iterator.ensures.into_iter_gives
    (YieldsList-from_filter _ some
    (YieldsList-at c.filter-words.ensures.source
    (YieldsList-from_slice_split _ parts c.args.text.now c.split.ensures.rest c.split.ensures.done c.split.ensures.closure (λ x r q k. search (rules, tests))))
    c.filter-words.ensures.closure (λ x r q k. search (rules, tests))))

here :
    (c : In-Some) → YieldsList ((given.iterator-loop-word).next_gives) (λ w. w.now) c.into_iter-word-iterator.result (words c.args.text.now)
    → drop (length c.loop-word.yielded) (words c.args.text.now) ≡ c.in-Some.word.now ∷ drop (length c.loop-word.yielded + 1) (words c.args.text.now)
here c e =
    next_word (words c.args.text.now)
    (YieldsList-turn e c.loop-word.yielded c.loop-word.word-iterator c.loop-word.yielded_by c.next.result c.next.new.self c.in-Some.word c.in-Some.is c.next.ensures.steps)

pub returns : goal.returns
returns c =
    let all = YieldsList-end (road (goal.at.returns c).After-into_iter-word-iterator) c.loop-word.yielded c.loop-word.word-iterator c.loop-word.yielded_by c.next.result c.next.new.self c.in-None.is c.next.ensures.steps in
    finished c.args.text.now c.loop-word.invariant (drop_all (length c.loop-word.yielded) (words c.args.text.now) (omega (arith, all.1)))

pub returns-in_err-values : goal.returns-in_err-values
returns-in_err-values c =
    let at = goal.at.returns-in_err-values c in
    rw c.from_residual.ensures (no_number c.args.text.now c.loop-word.invariant (here at.In-Some (road at.After-into_iter-word-iterator)) c.in_err-values.ensures)

pub returns-then-count-eq1543 : goal.returns-then-count-eq1543
returns-then-count-eq1543 c =
    let at = goal.at.returns-then-count-eq1543 c in
    one_too_many c.args.text.now c.loop-word.invariant (here at.In-Some (road at.After-into_iter-word-iterator)) (omega (arith, c.loop-word.invariant.room))

pub loop-word-preserved : goal.loop-word-preserved
loop-word-preserved c =
    let at = goal.at.loop-word-preserved c in
    let stored : to_z w32 (of_z w32 c.in_ok-values.field-0) ≡ c.in_ok-values.field-0 = search rules in
    rw (length_push, stored) (one_more c.args.text.now c.loop-word.invariant (here at.In-Some (road at.After-into_iter-word-iterator)) (omega (arith, c.loop-word.invariant.counted)) c.in_ok-values.ensures)
