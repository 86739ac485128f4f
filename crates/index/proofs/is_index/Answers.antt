use mathlib.Core.Path.{sym, ap, ◌∙◌}
use Rattle.ast.specs.Tests.{same}
use Rattle.names.proofs.Names.{same-is}
use Rattle.index.proofs.Tests.{room-small, own-long, own-room}
use Rattle.index.proofs.is_index.Goals as goal

pub slice_bounds-array-end : goal.slice_bounds-array-end
slice_bounds-array-end c = room-small c.requires

pub slice_bounds-own-end : goal.slice_bounds-own-end
slice_bounds-own-end c = sym (own-long c.requires 4294967295)

pub fill-requires : goal.fill-requires
fill-requires c = own-room c.requires 4294967295

pub returns : goal.returns
returns c = c.eq.ensures ∙ same-is _ _ ∙ ap (same c.args.words.now) c.fill.ensures
