use mathlib.Core.Path.{refl}
use Rattle.rows.specs.Rows.{put_rows}
use Rattle.rows.proofs.Rows.put.Goals as goal

pub returns : goal.returns
unfolding put_rows
returns c = record { appended = record { count = refl; words = cc (c.put-2.ensures, c.put.ensures) }; nodes = refl; lent = refl }
