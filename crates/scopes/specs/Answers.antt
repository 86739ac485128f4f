-- What the calls hand back: document 01's numbers and values for every case of the code's results.
use Rattle.std.specs.Prelude.{◌≡◌, List, ℕ, Option, Some, None, Result, Ok, Err}
use Rattle.ast.specs.Answer.{Answer, refused, result, located, other}
use Rattle.error.specs.Refusals.{refusal_number, unresolved_answer}
use Rattle.error.specs.declared.Refusal.{Refusal}
use Rattle.error.specs.declared.SymbolDeclaredTwice.{SymbolDeclaredTwice}
use Rattle.error.specs.declared.Unresolved.{Unresolved}
use Rattle.table.specs.Table.{Table}
use Rattle.table.specs.Values.{number_of}
use Rattle.scopes.specs.Resolve.{Way, stops, fills, way, table_by}
use Rattle.scopes.specs.declared.Looked.{Looked}
use Rattle.scopes.specs.declared.Resolved.{Resolved}

-- Resolve: K and Y, or why not
abbrev pub resolved_answer : Result Resolved Unresolved → Answer
resolved_answer (Ok r) = result r.scopes r.symbols
resolved_answer (Err u) = unresolved_answer u

-- Errors and Occurrences: the count of rows
abbrev pub rowed_answer : Result ℕ Unresolved → Answer
rowed_answer (Ok count) = result 0 count
rowed_answer (Err u) = unresolved_answer u

-- the table that resolving filled, by the words that it left
abbrev pub table_of : Resolved → List ℕ → Table
table_of r ws = record { words = ws; scopes = r.scopes; symbols = r.symbols }

-- the way that a call goes where nothing refuses, by what resolving hands back to it and the words ws that it leaves
abbrev pub resolved_way : Result Resolved SymbolDeclaredTwice → List ℕ → Way
resolved_way (Ok r) ws = fills (table_of r ws)
resolved_way (Err t) ws = stops t.name t.first.0 t.second.0

-- what resolving hands back and leaves there
pub record Resolves (img tab : List ℕ) (r : Result Resolved SymbolDeclaredTwice) (ws : List ℕ) : Type 0 where
  pub way_is : resolved_way r ws ≡ way img tab 0
  pub table_is : ws ≡ table_by img tab (way img tab 0)

-- Lookup: the scope that holds the symbol, its number and its node, or none
abbrev pub looked_answer : Result (Option Looked) Refusal → Answer
looked_answer (Ok (Some l)) = located l.scope.0 (number_of l.symbol) l.node.0
looked_answer (Ok None) = other 0 0
looked_answer (Err r) = refused (refusal_number r)
