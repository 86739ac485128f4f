use native.Mathlib.Omega.{arith}
use Rattle.names.proofs.Names.{place-fits, place-bytes}
use Rattle.names.proofs.NamedImage.bytes.Goals as goal

pub overflow_add-end : goal.overflow_add-end
overflow_add-end c =
    let n = c.args.self.now in
    let e = c.place-place.ensures in
    let f = place-fits _ _ n.sized.within n.rising_all _ c.requires _ _ e.start e.len in
    omega arith

pub slice_bounds-result-end : goal.slice_bounds-result-end
slice_bounds-result-end c =
    let n = c.args.self.now in
    let e = c.place-place.ensures in
    let f = place-fits _ _ n.sized.within n.rising_all _ c.requires _ _ e.start e.len in
    omega arith

pub returns : goal.returns
returns c =
    let n = c.args.self.now in
    let e = c.place-place.ensures in
    place-bytes _ _ n.sized.within n.rising_all _ c.requires _ _ e.start e.len
