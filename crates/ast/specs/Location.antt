-- The location of a node.
use Rattle.std.specs.Prelude.{List, ℕ, ◌+◌}
use Rattle.ast.specs.Image.{start_at, op_at}
use Rattle.ast.specs.declared.Location.{Location}

-- the two location words, with which a row begins
unfoldable pub location_of : List ℕ → ℕ → Location
location_of img n = record { 0 = op_at img (start_at img n); 1 = op_at img (start_at img n + 1) }
