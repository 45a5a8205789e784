-- The promises of the public functions settle their results and what they leave.
use Rattle.std.proofs.Common.{ℕ, ℤ, Option, Some, None, List, ◌≡◌, sym, ◌∙◌, ap, Fits, w64, length, take, length-take-le, arith}
use Rattle.promises.specs.Settles.{Settles, Leaves}
use Rattle.text.specs.Read.{Reads}
use Rattle.text.proofs.page.Page.new.Reads as new
use Rattle.text.proofs.page.Page.put.Reads as put
use Rattle.text.proofs.page.Page.put_number.Reads as put_number
use Rattle.text.proofs.page.Page.as_bytes.Reads as as_bytes
use Rattle.text.proofs.page.Page.whole.Reads as whole
use Rattle.text.proofs.write.number.Reads as number
use Rattle.text.proofs.read.numbers.Reads as numbers

pub one_number : Settles number.Post
one_number κs args r r' exit exit' p q = p.0 ∙ sym q.0

module _ {text : List ℕ} {before values values' : List ℤ} where
  same_scan : (r r' : Option ℕ) → Reads text before r values → Reads text before r' values' → r ≡ r'
  same_scan (Some m) (Some n) p q =
      let same : take m values ≡ take n values' = cc in
      let m_long : length (take m values) ≡ m = length-take-le m values (omega (arith, p.within, p.room)) in
      let n_long : length (take n values') ≡ n = length-take-le n values' (omega (arith, q.within, q.room)) in
      ap Some (sym m_long ∙ ap length same ∙ n_long)
  same_scan (Some m) None p q = cc
  same_scan None (Some n) p q = cc
  same_scan None None p q = cc

pub one_scan : Settles numbers.Post
one_scan κs args r r' exit exit' p q = same_scan r r' p q

pub one_values : Leaves numbers.Post (λ κs exit. exit.1.0.now)
one_values κs args r r' exit exit' p q = p.leaves ∙ sym q.leaves

-- of a page of any room
module _ (room : ℕ) (fits : Fits w64 room) where
  pub one_new : Settles (new.Post room fits)
  one_new κs args r r' exit exit' p q = p ∙ sym q

  pub one_put : Leaves (put.Post room fits) (λ κs exit. exit.0.now)
  one_put κs args r r' exit exit' p q = p ∙ sym q

  pub one_put_number : Leaves (put_number.Post room fits) (λ κs exit. exit.0.now)
  one_put_number κs args r r' exit exit' p q = p ∙ sym q

  -- what is found behind the reference, wherever it points
  pub one_as_bytes : (κs : _) (args : _) (r r' : _) (exit exit' : _) → as_bytes.Post room fits κs args r exit → as_bytes.Post room fits κs args r' exit' → r.now ≡ r'.now
  one_as_bytes κs args r r' exit exit' p q = p.0 ∙ sym q.0

  pub one_whole : (κs : _) (args : _) (r r' : _) (exit exit' : _) → whole.Post room fits κs args r exit → whole.Post room fits κs args r' exit' → r.now ≡ r'.now
  one_whole κs args r r' exit exit' p q = p ∙ sym q
