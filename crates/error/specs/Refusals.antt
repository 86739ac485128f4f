-- What the code gives in place of a result, as document 01's numbers.
use Rattle.std.specs.Prelude.{◌≡◌, ℕ, Result, Ok, Err}
use Rattle.ast.specs.Answer.{Answer, refused, twice}
use Rattle.error.specs.declared.Refusal.{Refusal}
use Rattle.error.specs.declared.Refusal.TheVariants as refusal
use Rattle.error.specs.declared.SymbolDeclaredTwice.{SymbolDeclaredTwice}
use Rattle.error.specs.declared.Unresolved.{Unresolved}
use Rattle.error.specs.declared.Unresolved.TheVariants.{Refused, Twice}

-- a refusal's number in the table of refusals
abbrev pub refusal_number : Refusal → ℕ
refusal_number refusal.ShortImage = 1
refusal_number refusal.SizesTooLarge = 2
refusal_number refusal.ImageLength = 3
refusal_number refusal.NameEnds = 4
refusal_number refusal.EqualNames = 5
refusal_number refusal.UnknownKind = 6
refusal_number refusal.RowOutside = 7
refusal_number refusal.UnknownNumber = 8
refusal_number refusal.WrongChild = 9
refusal_number refusal.LastRow = 10
refusal_number refusal.Parents = 11
refusal_number refusal.WrongVariable = 12
refusal_number refusal.ShortTable = 13
refusal_number refusal.ShortRows = 14
refusal_number refusal.UnknownMode = 15
refusal_number refusal.UnsoundTable = 16
refusal_number refusal.UnknownScope = 17
refusal_number refusal.WrongIndex = 18
refusal_number refusal.UnknownBinding = 19
refusal_number refusal.UnknownName = 20
refusal_number refusal.OtherList = 21

-- the number that a test of the definitions gives: 0 where nothing is refused
abbrev pub refusal_of : {A : Type 0} → Result A Refusal → ℕ
refusal_of (Ok _) = 0
refusal_of (Err r) = refusal_number r

-- what a call hands back in place of a result
abbrev pub unresolved_answer : Unresolved → Answer
unresolved_answer (Refused r) = refused (refusal_number r)
unresolved_answer (Twice t) = twice t.name t.first.0 t.second.0

-- what `?` makes of each
abbrev pub ByRefusal : Refusal → Unresolved → Type 0
ByRefusal r u = u ≡ Refused r

abbrev pub ByTwice : SymbolDeclaredTwice → Unresolved → Type 0
ByTwice t u = u ≡ Twice t
