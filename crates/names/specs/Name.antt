-- Name (image, name number): the name's own bytes as a part of the image, for all inputs.
use Rattle.std.specs.Prelude.{◌≡◌, Option, unwrap_or, Bool, true, false, ◌&&◌, List, [], ℕ, ◌+◌, ◌-◌, eqb, ltb}
use Rattle.std.specs.Borrow.{Bor}
use Rattle.ast.specs.Image.{names, bytes_place, name_start, name_end, name_bytes}
use Rattle.ast.specs.Tests.{verdict}
use Rattle.names.specs.declared.NamePlace.{NamePlace}

module _ (img : List ℕ) (x : ℕ) where
  -- 1 to 12 accept the image, and the name number is below S
  unfoldable pub has_name : Bool
  has_name = eqb (verdict img) 0 && ltb x (names img)

  -- document 01's Name: the bytes of the name, an empty part where there is none
  unfoldable pub name_call : List ℕ
  name_call = elim has_name [ true ↦ name_bytes img x | false ↦ [] ]

  -- where these bytes stand in the image, start and length; 0 and 0 where there is none
  unfoldable pub name_place : NamePlace
  name_place = elim has_name [
    | true ↦ record { start = bytes_place img + name_start img x; len = name_end img x - name_start img x }
    | false ↦ record { start = 0; len = 0 }
  ]

-- the code's value as the definition's: 0 and 0 where there is no name
abbrev pub place_of : Option NamePlace → NamePlace
place_of p = unwrap_or p (record { start = 0; len = 0 })

-- a part of the lent image stands at a place: it points into the image's own memory, that many bytes after its start
pub record PartAt (image : Bor (List ℕ)) (p : NamePlace) (part : Bor (List ℕ)) : Type 0 where
  pub memory : part.ref_ptr.0 ≡ image.ref_ptr.0
  pub start : part.ref_ptr.1 ≡ image.ref_ptr.1 + p.start
