-- Where names are asked for.
use mathlib.Core.Path.{◌≡◌, refl}
use mathlib.Core.List.{List, [], ◌∷◌}
use Prim.Native.Nat.{ℕ, suc, ◌<◌}
use Rattle.ast.specs.Image.{field, name_of}
use Rattle.ast.specs.Kinds.{Class, cases, kind_of}
use Rattle.ast.specs.Is.{Is, kind_by}
use Rattle.ast.proofs.Shapes.{child-is, case-child}
use Rattle.environment.specs.Layout.{names_most}
use Rattle.environment.specs.Asked.{Asks}
use Rattle.environment.proofs.Asking.{asked-term, asked-head, asked-then, ident-below}
use Rattle.bindings.specs.Promises.{Defines}

module _ (img : List ℕ) where
  -- the IdentTerm of a node of case Ident
  name_below : {cl : Class} {ks : List ℕ} {n i : ℕ} → Is img (kind_by cl (cases (13 ∷ ks) ∷ [])) n → 0 ≡ field img n 0 → i ≡ field img n 1 → name_of img i < names_most
  name_below {cl} {ks} is z q = ident-below img (child-is img is (case-child img cl (13 ∷ ks) is 0 _ z q refl))

  pub term_asks : {n i : ℕ} → Is img (kind_of 12) n → 0 ≡ field img n 0 → i ≡ field img n 1 → Asks img n i
  unfolding kind_of
  term_asks is z q = record { low = is.below; is = asked-term img _ is z q; below = name_below is z q }

  pub head-asks : {n i : ℕ} → Is img (kind_of 15) n → 0 ≡ field img n 0 → i ≡ field img n 1 → Asks img n i
  unfolding kind_of
  head-asks is z q = record { low = is.below; is = asked-head img _ is z q; below = name_below is z q }

  -- the variable v of the DefinedThenAtom d, at the atom above
  pub then-asks : {o d v : ℕ} → Defines img o d → suc v ≡ field img d 0 → Is img (kind_of 12) v → (i : ℕ) → 0 ≡ field img v 0 → i ≡ field img v 1 → Asks img o i
  unfolding kind_of
  then-asks {d = d} {v} a e is i z q = record { low = a.is.below; is = asked-then img d v i a.is a.number a.child e z q; below = name_below is z q }
