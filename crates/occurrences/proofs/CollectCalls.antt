-- Occurrences and Once as their code goes: what the collectors find in the table that resolving fills.
use mathlib.Core.Path.{◌≡◌, refl, sym, ap, ◌∙◌}
use mathlib.Core.List.{List}
use mathlib.Core.Option.{Option}
use Prim.Native.Nat.{ℕ}
use Rattle.std.specs.Prelude.{Option as Given, Result, Ok, Err}
use Rattle.std.specs.Result.{result_err}
use Rattle.ast.specs.Answer.{Answer}
use Rattle.error.specs.declared.SymbolDeclaredTwice.{SymbolDeclaredTwice}
use Rattle.rows.specs.Rows.{Row}
use Rattle.scopes.specs.Resolve.{test_table}
use Rattle.scopes.specs.Answers.{table_of, Resolves}
use Rattle.scopes.specs.declared.Resolved.{Resolved}
use Rattle.scopes.proofs.Calls.{call-filled}
use Rattle.scopes.proofs.Headed.{resolved-filled}
use Rattle.occurrences.specs.Occurrences.{lone, lone_answer, once}
use Rattle.occurrences.specs.Promises.{module_lists, Whole, lone_of}
use Rattle.occurrences.specs.Answers.{once_answer}
use Rattle.occurrences.specs.declared.Lone.{Lone}
use Rattle.occurrences.proofs.Few.{rows_few}

-- the lone occurrence that a check hands back, as an answer
lone-told : {A : Type 0} (c : Result A Lone) → lone_answer (lone_of c) ≡ once_answer (Ok (result_err c))
unfolding lone_answer
lone-told (Ok a) = refl
lone-told (Err l) = refl

module _ (img tab : List ℕ) (passes : test_table img tab ≡ 0) {d : Result Resolved SymbolDeclaredTwice} {ws : List ℕ} (r : Resolves img tab d ws) {w : Resolved} (q : d ≡ Ok w) where
  pub whole : Whole img (table_of w ws)
  whole = let f = resolved-filled img tab passes r q in record { accepted = f.accepted; symbols = f.symbols; few = rows_few img (table_of w ws) f.accepted }

  pub once-checked : {A : Type 0} (c : Result A Lone) {o : Given Lone} → lone_of c ≡ lone (module_lists img (table_of w ws)) → o ≡ result_err c → once img tab ≡ record { answer = once_answer (Ok o); table = ws }
  unfolding once
  once-checked c e f =
      call-filled img tab _ passes r q
      ∙ ap (λ (x : Option Row). record { answer = lone_answer x; table = ws }) (sym e)
      ∙ ap (λ (x : Answer). record { answer = x; table = ws }) (lone-told c ∙ ap (λ (x : Given Lone). once_answer (Ok x)) (sym f))
