-- Laws of ordered values that follow from those of `Ordered`.
use mathlib.Core.Path.{◌≡◌, sym, ◌∙◌, ap}
use mathlib.Core.Logic.{⊎_elim}
use Rattle.theory.specs.Values.{Values, Ordered}
use Rattle.theory.specs.Orders.{least}
use Rattle.theory.proofs.Choices.{pick_ind}

module _ (W : Values) (O : Ordered W) where
  open W use {Val, ◌≼◌, compare, ◌⊙◌, none}

  infixl 6 ◌⊙◌
  infix 5 ◌≼◌
  pub same : (a : Val) → a ≼ a
  same a = ⊎_elim (λ h. h) (λ h. h) (O.total a a)

  pub at_most : {a b : Val} → a ≡ b → a ≼ b
  at_most {b = b} e = rw e (same b)

  pub or_else : {a b : Val} → ¬ (a ≼ b) → b ≼ a
  or_else {a} {b} n = ⊎_elim (λ h. absurd (n h)) (λ h. h) (O.total a b)

  pub none_right : (a : Val) → a ⊙ none ≡ a
  none_right a = O.comm a none ∙ O.none_left a

  pub mono_left : (c : Val) {a b : Val} → a ≼ b → a ⊙ c ≼ b ⊙ c
  mono_left c {a} {b} h = rw (O.comm a c, O.comm b c) (O.mono c h)

  pub both : {a b c d : Val} → a ≼ b → c ≼ d → a ⊙ c ≼ b ⊙ d
  both {b = b} {c = c} h k = O.trans (mono_left c h) (O.mono b k)

  pub exchange : (a b c : Val) → a ⊙ (b ⊙ c) ≡ b ⊙ (a ⊙ c)
  exchange a b c = sym (O.assoc a b c) ∙ ap (λ z. z ⊙ c) (O.comm a b) ∙ O.assoc b a c

  pub least_left : (a b : Val) → least W a b ≼ a
  least_left a b = pick_ind (λ z. z ≼ a) (compare a b) (λ h. same a) or_else

  pub least_right : (a b : Val) → least W a b ≼ b
  least_right a b = pick_ind (λ z. z ≼ b) (compare a b) (λ h. h) (λ n. same b)
