-- Laws of Name: where the name's bytes stand in the image.
use mathlib.Core.Path.{◌≡◌, refl, sym, ap, ap₂, ◌∙◌, subst}
use mathlib.Core.Bool.{Bool, true, false, ◌&&◌}
use mathlib.Core.List.{List}
use Prim.Native.Nat.{ℕ, ◌+◌, ◌-◌, ◌<◌, ◌≤◌}
use native.Mathlib.Omega.{arith}
use lib.Dec.{eqb, ltb}
use lib.ListN.{length, take, drop}
use borrow.Author.Tests.{lt-ltb, le-ltb, eq-eqb, ne_eqb, ltb-true, eqb-true}
use Rattle.ast.specs.Image.{names, bytes_place, name_start, name_end, name_bytes}
use Rattle.names.specs.Name.{has_name, name_call, name_place}
use Rattle.ast.specs.Tests.{verdict}
use Rattle.names.specs.declared.NamePlace.{NamePlace}
use Rattle.ast.proofs.Accepted.{named, name_in, sized}

module _ (img : List ℕ) (x : ℕ) where
  pub none-refused : (verdict img ≡ 0 → ⊥) → has_name img x ≡ false
  unfolding has_name
  none-refused h = rw (ne_eqb _ _ h)

  pub none-beyond : verdict img ≡ 0 → names img ≤ x → has_name img x ≡ false
  unfolding has_name
  none-beyond e h = rw (eq-eqb _ _ e, le-ltb _ _ h)

  pub there : verdict img ≡ 0 → x < names img → has_name img x ≡ true
  unfolding has_name
  there e h = rw (eq-eqb _ _ e, lt-ltb _ _ h)

  place_none : has_name img x ≡ false → name_place img x ≡ record { start = 0; len = 0 }
  unfolding name_place
  place_none e = rw (e, name_place)

  pub place-refused : (verdict img ≡ 0 → ⊥) → name_place img x ≡ record { start = 0; len = 0 }
  place-refused h = place_none (none-refused h)

  pub place-beyond : verdict img ≡ 0 → names img ≤ x → name_place img x ≡ record { start = 0; len = 0 }
  place-beyond e h = place_none (none-beyond e h)

  place-some : has_name img x ≡ true → name_place img x ≡ record { start = bytes_place img + name_start img x; len = name_end img x - name_start img x }
  unfolding name_place
  place-some e = rw (e, name_place)

  -- as the code has it
  pub place_is : has_name img x ≡ true → (p : NamePlace) → p.start ≡ bytes_place img + name_start img x → p.len ≡ name_end img x - name_start img x → name_place img x ≡ p
  place_is h p e f = place-some h ∙ ap₂ (λ a n. record { start = a; len = n }) (sym e) (sym f)

  has_both : has_name img x ≡ true → (verdict img ≡ 0) × (x < names img)
  unfolding has_name
  has_both e = go (eqb (verdict img) 0) (ltb x (names img)) (eqb-true _ _) (ltb-true _ _) e
    where
      go : (a b : Bool) → (a ≡ true → verdict img ≡ 0) → (b ≡ true → x < names img) → (a && b) ≡ true → (verdict img ≡ 0) × (x < names img)
      go true true f g h = (f refl, g refl)
      go true false f g h = cc
      go false b f g h = cc

  -- the place lies in the image, and the bytes there are the name's
  pub record Part (p : NamePlace) : Type 0 where
    pub fits : p.start + p.len ≤ length img
    pub bytes_are : take (p.start + p.len - p.start) (drop p.start img) ≡ name_call img x

  part-some : has_name img x ≡ true → Part (record { start = bytes_place img + name_start img x; len = name_end img x - name_start img x })
  unfolding name_call name_bytes
  part-some e =
      let (a, l) = has_both e in
      let r = (named img a).rising_all in
      let s = (sized img a).exact in
      let i = name_in img r x l in
      let o = r.rises x l in
      let from = bytes_place img + name_start img x in
      let q : from + (name_end img x - name_start img x) - from ≡ name_end img x - name_start img x = omega arith in
      record { fits = omega arith; bytes_are = rw (e, name_call) (ap (λ n. take n (drop from img)) q) }

  part_none : has_name img x ≡ false → Part (record { start = 0; len = 0 })
  unfolding name_call
  part_none e = record { fits = omega arith; bytes_are = rw (e, name_call) }

  pub name-part : (p : NamePlace) → p ≡ name_place img x → Part p
  name-part p e = go (has_name img x) refl
    where
      go : (b : Bool) → has_name img x ≡ b → Part p
      go true h = subst Part (sym (e ∙ place-some h)) (part-some h)
      go false h = subst Part (sym (e ∙ place_none h)) (part_none h)
