use mathlib.Core.Path.{◌≡◌, sym, ap, ◌∙◌}
use native.Mathlib.Omega.{arith}
use Prim.Native.Nat.{suc, ◌-◌}
use Rattle.ast.specs.Image as image
use Rattle.names.proofs.name_start.Goals as goal

pub returns-then-i-eq0 : goal.returns-then-i-eq0
unfolding image.name_start
returns-then-i-eq0 c = sym (ap (image.name_start c.args.image.now.image.now) c.if-i-eq0.true)

pub returns : goal.returns
unfolding image.name_start
returns c = c.name_end.ensures ∙ ap (image.name_start c.args.image.now.image.now) (let q : suc (c.args.i - 1) ≡ c.args.i = (let z = c.if-i-eq0.false in omega arith) in q)
