-- What a copy over the start of a buffer leaves: as many bytes as there are and as fit stand there, and the rest is as it was.
use Rattle.std.proofs.Common.{ℕ, List, ◌++◌, ◌≡◌, refl, min, length, take, drop, length-take}
use Rattle.std.proofs.lemmas.List.{take_min}
use Rattle.text.specs.Over.{over}

pub copied : (bytes out part : List ℕ) (n : ℕ) → n ≡ min (length out) (length bytes) → part ≡ take n bytes → part ++ drop n out ≡ over (take (length out) bytes) out
unfolding over
copied bytes out part n e f = rw (f, e, length-take, take_min) refl
