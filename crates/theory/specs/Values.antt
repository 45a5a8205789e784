-- What costs are: values that can be compared and joined (a sum, or the larger of two).
-- `Values` is the data and `Ordered` the laws: a total order, and a commutative join that keeps it.
use Rattle.std.specs.Prelude.{◌≡◌, ◌⊎◌}

pub record Values : Type 1 where
  pub Val : Type 0
  -- the first is no greater than the second
  pub ◌≼◌ : Val → Val → Type 0
  pub compare : (a b : Val) → Dec (a ≼ b)
  -- two costs joined, and the cost of no train at all
  pub ◌⊙◌ : Val → Val → Val
  pub none : Val
  infixl 6 ◌⊙◌
  infix 5 ◌≼◌

module _ (W : Values) where
  open W use {Val, ◌≼◌, ◌⊙◌, none}

  infixl 6 ◌⊙◌
  infix 5 ◌≼◌
  pub record Ordered : Type 0 where
    pub trans : {a b c : Val} → a ≼ b → b ≼ c → a ≼ c
    pub total : (a b : Val) → (a ≼ b) ⊎ (b ≼ a)
    pub antisym : {a b : Val} → a ≼ b → b ≼ a → a ≡ b
    pub assoc : (a b c : Val) → (a ⊙ b) ⊙ c ≡ a ⊙ (b ⊙ c)
    pub comm : (a b : Val) → a ⊙ b ≡ b ⊙ a
    pub none_left : (a : Val) → none ⊙ a ≡ a
    pub mono : (c : Val) {a b : Val} → a ≼ b → c ⊙ a ≼ c ⊙ b
