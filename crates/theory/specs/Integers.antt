-- Integers as costs: joined by their sum, or by the larger of two.
-- The largest of no cost at all is a least element added below the integers.
use Rattle.std.specs.Prelude.{Bool, true, false, cond, T, ℤ, pos, ◌+ℤ◌, ◌≤ℤ◌}
use Rattle.std.specs.Int.Signed.{le_z}
use Rattle.theory.specs.Values.{Values}

abbrev pub maxℤ : ℤ → ℤ → ℤ
maxℤ a b = cond (le_z a b) b a

pub data Grade : Type 0 where
  nothing : Grade
  at : ℤ → Grade

abbrev pub not_above : Grade → Grade → Bool
not_above nothing h = true
not_above (at a) nothing = false
not_above (at a) (at b) = le_z a b

pub record Below (g h : Grade) : Type 0 where
  pub le : T (not_above g h)

-- the number of a grade, 0 for nothing
abbrev pub number : Grade → ℤ
number nothing = pos 0
number (at a) = a

abbrev pub larger : Grade → Grade → Grade
larger nothing h = h
larger (at a) nothing = at a
larger (at a) (at b) = at (maxℤ a b)

-- what a test decides, where its passing says the same
abbrev pub decided : {P : Type 0} (t : Bool) → (T t → P) → (P → T t) → Dec P
decided true from to = yes (from tt)
decided false from to = no to

abbrev pub sum : Values
sum =
    record {
      Val = ℤ;
      ◌≼◌ = ◌≤ℤ◌;
      compare = λ a b. decided (le_z a b) (λ t. record { le = t }) (λ h. h.le);
      ◌⊙◌ = ◌+ℤ◌;
      none = pos 0;
    }

abbrev pub largest : Values
largest =
    record {
      Val = Grade;
      ◌≼◌ = Below;
      compare = λ g h. decided (not_above g h) (λ t. record { le = t }) (λ b. b.le);
      ◌⊙◌ = larger;
      none = nothing;
    }
