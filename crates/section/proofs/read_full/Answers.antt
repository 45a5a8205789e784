-- What a turn reads stands after what was read before, and is what the input then lost.
use Rattle.std.proofs.Common.{◌≡◌, ℕ, ◌+◌, ◌-◌, ◌≤◌, List, ◌++◌, rules, length, take, drop, sym, ap, ◌∙◌, subst, le_refl, drop_at, length-take-le}
use Rattle.std.proofs.Math.Seq.{take-add}
use Rattle.std.proofs.lemmas.List.{take-append-le}
use Rattle.std.proofs.lemmas.Slice.{take-put_mid_below}
use Rattle.std.specs.Io.KnownBytes.{Consumes}
use Rattle.std.proofs.KnownBytes.{Consumes-trans}
use borrow.Rule.Slice.PartMut.{put_mid, post_of}
use Rattle.section.proofs.read_full.Goals as goal

module _ (at more : ℕ) (xs ys : List ℕ) (within : at ≤ length xs) (fits : more ≤ length ys) where
  -- the bytes of a part that was lent, as the whole has them afterwards
  put : take (at + more) (put_mid at (length xs - at) xs ys) ≡ take at xs ++ take more ys
  put =
      let after = post_of at (length xs - at) xs in
      let whole : List ℕ = put_mid at (length xs - at) xs ys in
      let part : take more (drop at whole) ≡ take more ys =
      ap (take more) (drop_at (take at xs) (ys ++ after) at (length-take-le at xs within)) ∙ take-append-le more ys after fits in
      take-add at more whole
      ∙ ap (λ (l : List ℕ). l ++ take more (drop at whole)) (take-put_mid_below _ _ _ _ _ (le_refl _) within)
      ∙ ap (λ (l : List ℕ). take at xs ++ l) part

pub loop-n-preserved : goal.loop-n-preserved
loop-n-preserved g c =
    let read = c.in_ok-more.ensures in
    record {
      within = search rules;
      bytes = subst (Consumes _ _) (sym (put c.loop-n.n c.in_ok-more.more c.loop-n.text c.read.new.buf c.loop-n.invariant.within read.bound.0))
          (Consumes-trans _ _ _ _ _ c.loop-n.invariant.bytes read.bytes.0);
    }
