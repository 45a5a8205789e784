-- A text's words are the parts that it is cut into, without those that are empty.
use Rattle.std.proofs.Common.{Bool, true, false, not, cond, ◌≡◌, refl, sym, ap, ◌∙◌, ℕ, List, [], ◌∷◌, ◌++◌, length, filter, nat_eq, arith}
use Rattle.std.proofs.lemmas.List.{append-nil}
use Rattle.std.specs.List.{slice_split, onto_first}
use Rattle.std.proofs.lemmas.Grind.{common_steps}
use lib.Seq.{append_snoc}
use Rattle.text.specs.Words.{parts, ended, words_on, words}

abbrev pub some : List ℕ → Bool
some word = not (nat_eq (length word) 0)

-- the parts, where the first goes on from a word that is begun
abbrev onto : List ℕ → List (List ℕ) → List (List ℕ)
onto word [] = word ∷ []
onto word (p ∷ ps) = (word ++ p) ∷ ps

onto_none : (ps : List (List ℕ)) → filter some (onto [] ps) ≡ filter some ps
onto_none [] = refl
onto_none (p ∷ ps) = refl

onto_one : (word : List ℕ) (b : ℕ) (ps : List (List ℕ)) → onto (word ++ b ∷ []) ps ≡ onto word (onto_first b ps)
onto_one word b [] = refl
onto_one word b (p ∷ ps) = ap (λ w. w ∷ ps) (append_snoc word b p)

ended_is : (word : List ℕ) (ps : List (List ℕ)) → ended word ++ filter some ps ≡ filter some (word ∷ ps)
ended_is [] ps = refl
ended_is (b ∷ bs) ps = let d : nat_eq (length (b ∷ bs)) 0 ≡ false = grind (arith, common_steps) in rw d refl

words_on_is : (word text : List ℕ) → words_on word text ≡ filter some (onto word (slice_split parts text))
words_on_is word [] = rw append-nil (sym (append-nil (ended word)) ∙ ended_is word [])
words_on_is word (b ∷ bs) = at_byte (parts b) (words_on_is [] bs) (words_on_is (word ++ b ∷ []) bs)
  where
    at_byte : (p : Bool) {rest more : List (List ℕ)} → rest ≡ filter some (onto [] (slice_split parts bs)) → more ≡ filter some (onto (word ++ b ∷ []) (slice_split parts bs))
        → cond p (ended word ++ rest) more ≡ filter some (onto word (cond p ([] ∷ slice_split parts bs) (onto_first b (slice_split parts bs))))
    at_byte true e f = rw (e, onto_none, append-nil) (ended_is word (slice_split parts bs))
    at_byte false e f = rw (f, onto_one) refl

pub words_are : (text : List ℕ) → words text ≡ filter some (slice_split parts text)
unfolding words
words_are text = words_on_is [] text ∙ onto_none (slice_split parts text)
