-- The place of a name's bytes fits 16 bits twice over.
use mathlib.Core.Path.{◌≡◌, refl, sym, ◌∙◌, subst}
use mathlib.Core.List.{List}
use Prim.Native.Nat.{ℕ, ◌<◌}
use native.Mathlib.Decide.{dec_lt}
use native.Mathlib.Omega.{arith}
use Rattle.ast.specs.Image.{names}
use Rattle.names.specs.Name.{name_place}
use Rattle.ast.specs.Tests.{verdict}
use Rattle.names.specs.declared.NamePlace.{NamePlace}
use Rattle.ast.proofs.Accepted.{named, name_in, sized}
use Rattle.names.proofs.NameParts.{there, place-refused, place-beyond, place_is}

abbrev pub SmallPlace : NamePlace → Type 0
SmallPlace p = (p.start < 65536) × (p.len < 65536)

module _ (img : List ℕ) (x : ℕ) where
  none : (p : NamePlace) → p ≡ record { start = 0; len = 0 } → SmallPlace p
  none p e = subst SmallPlace (sym e) (omega arith)

  some : (p : NamePlace) → p ≡ name_place img x → verdict img ≡ 0 → x < names img → SmallPlace p
  some p e a l =
      let r = (named img a).rising_all in
      let s = sized img a in
      let i = name_in img r x l in
      let o = r.rises x l in
      subst SmallPlace (sym (e ∙ place_is img x (there img x a l) _ refl refl)) (omega arith)

  pub place-small : (p : NamePlace) → p ≡ name_place img x → SmallPlace p
  place-small p e = go (dec_lt 0 (verdict img)) (dec_lt x (names img))
    where
      go : Dec (0 < verdict img) → Dec (x < names img) → SmallPlace p
      go (yes h) d = none p (e ∙ place-refused img x (λ z. omega arith))
      go (no h) (yes l) = some p e (omega arith) l
      go (no h) (no l) = none p (e ∙ place-beyond img x (omega arith) (omega arith))
