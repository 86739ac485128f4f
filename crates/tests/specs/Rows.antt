-- What the methods of a row promise.
use Rattle.std.specs.Prelude.{◌≡◌, List, ℕ, ◌+◌, ◌<◌, ltb, Result}
use Rattle.ast.specs.Image.{op_at, operands}
use Rattle.ast.specs.KindNumbers.{kind_number}
use Rattle.ast.specs.Kinds.{Field, kind_of}
use Rattle.ast.specs.Promises.{claim_all}
use Rattle.ast.specs.Rows.{numbers, after, after_fields, field_kids, fields_kids}
use Rattle.ast.specs.Tests.{◌▸◌, need, in_row, is_child, test_field, test_fields}
use Rattle.ast.specs.declared.kind.Kind.{Kind}
use Rattle.error.specs.declared.Refusal.{Refusal}
use Rattle.ast.specs.Times.{counts}
use Rattle.tests.specs.Claims.{Counted}
use Rattle.tests.specs.Steps.{Answered}
use Rattle.ast.specs.declared.times.Times.{Times}
use Rattle.tests.specs.declared.Row.{Row}

module _ (img : List ℕ) (n : ℕ) where
  -- fields of the row that passed: the place after, and the children claimed
  pub record Went (next : ℕ) (cs us vs : List ℕ) (row : Row) : Type 0 where
    pub image : row.image.now.image.now ≡ img
    pub node : row.node.0 ≡ n
    pub place : row.at ≡ next
    pub claimed : vs ≡ claim_all cs us

  -- the answer to the tests of a field, and of fields
  abbrev pub FieldStep : Field → ℕ → List ℕ → List ℕ → Result Row Refusal → Type 0
  FieldStep g p us vs r = Answered (test_field img n g p) (Went (after img g p) (numbers (field_kids img g p)) us vs) r

  abbrev pub FieldsStep : List Field → ℕ → List ℕ → List ℕ → Result Row Refusal → Type 0
  FieldsStep gs p us vs r = Answered (test_fields img n gs p) (Went (after_fields img gs p) (numbers (fields_kids img gs p)) us vs) r

-- the bytes of the row's image
abbrev bytes_of : Row → List ℕ
bytes_of row = row.image.now.image.now

-- the word at the place, where it lies in the rows
abbrev pub WordRead : Row → Result ℕ Refusal → Type 0
WordRead row r = Answered (in_row (bytes_of row) row.at) (λ w. (w ≡ op_at (bytes_of row) row.at) × (row.at < operands (bytes_of row))) r

-- the same of a number, of which there are `count`
abbrev pub NumberRead : ℕ → Row → Result ℕ Refusal → Type 0
NumberRead count row r =
    Answered (in_row (bytes_of row) row.at ▸ need 8 (ltb (op_at (bytes_of row) row.at) count))
    (λ w. (w ≡ op_at (bytes_of row) row.at) × (row.at < operands (bytes_of row)) × (w < count)) r

-- the place after
pub record After (row after : Row) : Type 0 where
  pub image : after.image.now.image.now ≡ bytes_of row
  pub node : after.node.0 ≡ row.node.0
  pub place : after.at ≡ row.at + 1

-- a node as a child
abbrev pub ChildTested : Row → ℕ → ℕ → List Times → Result Unit Refusal → List Times → Type 0
ChildTested row k c us r vs = Answered (is_child (bytes_of row) row.node.0 k c) (λ _. Counted c us vs) r

-- a field, which claims nothing, or claims children
abbrev pub NameTested : Field → Row → Result Row Refusal → Type 0
NameTested g row r = (us : List ℕ) → FieldStep (bytes_of row) row.node.0 g row.at us us r

abbrev pub FieldTested : Field → Row → List Times → Result Row Refusal → List Times → Type 0
FieldTested g row us r vs = FieldStep (bytes_of row) row.node.0 g row.at (counts us) (counts vs) r

-- the fields of a kind's row
abbrev pub FieldsTested : Kind → Row → List Times → Result Row Refusal → List Times → Type 0
FieldsTested k row us r vs = FieldsStep (bytes_of row) row.node.0 (kind_of (kind_number k)).fields row.at (counts us) (counts vs) r
