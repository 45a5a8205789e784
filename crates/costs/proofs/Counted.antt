-- A test of each number of a range, as `all` makes it.
use Rattle.std.proofs.Common.{◌≡◌, Bool, ℕ, zero, suc, ◌-◌, ◌∙◌, refl, add-one}
use Rattle.std.specs.Iterator.{ChecksAll}
use Rattle.std.specs.Fn.{Called}
use Rattle.std.specs.List.{list_all, range_with_len}
use Rattle.std.proofs.lemmas.Iterator.{YieldsList-from_range}
use Rattle.std.proofs.iter.Yields.{nat_range_steps}
use Rattle.std.proofs.lemmas.Iterator.Search.{all_from_yields_List}
use Rattle.std.specs.declared.ops.Range.{Range}
use denote.Param.Members.{Mut}
use Rattle.rules.specs.Lists.{every, count_from}

every_of_range : (p : ℕ → Bool) (a n : ℕ) → list_all p (range_with_len a n) ≡ every p (count_from a n)
every_of_range p a zero = refl
every_of_range p a (suc n) = rw (add-one a, every_of_range p (suc a) n)

module _ {F : Type 0} {g : Mut F (ℕ × Unit {0}) Bool} (test : ℕ → Bool) (a b : ℕ) where
  pub counted : (u : Range ℕ) (f : F) (r : Bool) → ChecksAll nat_range_steps g (record { start = a; end = b }) f r u
      → ((k : ℕ) (t : Bool) (f' : F) → Called g f (k, tt) t f' → (f' ≡ f) × (t ≡ test k)) → r ≡ every test (count_from a (b - a))
  counted u f r ran same = all_from_yields_List test u f r ran (YieldsList-from_range a b (b - a) refl refl) same ∙ every_of_range test a (b - a)
