-- The code's values as those of the definitions.
use Rattle.std.specs.Prelude.{Bool, ℕ, Option as Given, Some, None}
use Rattle.std.proofs.Math.Bool.{true, false}
use Rattle.std.proofs.Math.Option.{Option, none, some}
use Rattle.table.specs.Table.{Found}
use Rattle.table.specs.Layout.{entries, exits, parents, symbol_scopes, symbol_nodes}
use Rattle.table.specs.declared.Array.{Array}
use Rattle.table.specs.declared.Array.TheVariants.{Entries, Exits, Parents, SymbolScopes, SymbolNodes}
use Rattle.table.specs.declared.Found as code
use Rattle.table.specs.declared.Symbol.{Symbol}
use Rattle.table.specs.declared.Symbol.TheVariants as case

-- a symbol as it is found, or none
abbrev pub found_at : code.Found → Found
found_at f = record { node = f.node.0; scope = f.scope.0 }

abbrev pub found_of : Given code.Found → Option Found
found_of (Some f) = some (found_at f)
found_of None = none

-- an array's rank
abbrev pub rank_of : Array → ℕ
rank_of Entries = entries
rank_of Exits = exits
rank_of Parents = parents
rank_of SymbolScopes = symbol_scopes
rank_of SymbolNodes = symbol_nodes

-- a symbol's number, as the cases go
abbrev pub number_of : Symbol → ℕ
number_of case.Type = 0
number_of case.Pred = 1
number_of case.Func = 2
number_of case.Const = 3
number_of case.Enum = 4
number_of case.Ctor = 5
number_of case.Model = 6
number_of case.Rule = 7
number_of case.Arg = 8
number_of case.Var = 9

abbrev pub number_or_zero : Given Symbol → ℕ
number_or_zero (Some s) = number_of s
number_or_zero None = 0

abbrev pub is_symbol : Given Symbol → Bool
is_symbol (Some s) = true
is_symbol None = false
