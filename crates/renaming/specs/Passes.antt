-- What a rename that is given asks, by meanings alone.
use Rattle.std.specs.Prelude.{◌≡◌, List, ℕ, ◌<◌}
use Rattle.ast.specs.Image.{names}
use Rattle.rows.specs.Rows.{Row}
use Rattle.sight.specs.Sight.{In}
use Rattle.meaning.specs.Meaning.{marks_in}
use Rattle.rename.specs.Rename.{renamed}

-- i is the binding of some row, x a name number, and the new image has the old one's occurrence list
pub record Passes (img : List ℕ) (i x : ℕ) : Type 0 where
  pub bound : (w : Row) × In w (marks_in img) × (w.right ≡ i)
  pub below : x < names img
  pub lists : marks_in (renamed img (marks_in img) i x) ≡ marks_in img
