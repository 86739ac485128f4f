use mathlib.Core.Path.{refl, ap, ◌∙◌}
use native.Mathlib.Omega.{arith}
use borrow.Author.Rules.{rules}
use Rattle.table.specs.Layout.{table_length}
use Rattle.scopes.proofs.Resolving.{table-long}
use Rattle.scopes.proofs.Rooting.{lent, resolved-done, noted-done, resolved-twice}
use Rattle.scopes.proofs.resolve_into.Goals as goal

pub clear-requires : goal.clear-requires
clear-requires c = let l = table-long _ _ c.requires.0 in omega arith

pub walk_module-requires : goal.walk_module-requires
walk_module-requires c = lent _ _ c.requires.0 _ _ (c.words_for-words.ensures ∙ ap table_length c.node_count.ensures) c.clear.ensures refl c.clear.auto.words c.requires.1 refl

pub clear-requires-in-Err : goal.clear-requires-in-Err
clear-requires-in-Err c = let l = table-long _ _ c.requires.0 in let a = c.clear.auto.words in let b = c.in-Err.ensures.keeps.long in omega arith

pub returns-in-Ok-clause-resolves : goal.returns-in-Ok-clause-resolves
returns-in-Ok-clause-resolves c =
    let a = c.in-Ok.ensures.keeps in
    let b = c.insert_counts.ensures.keeps in
    resolved-done _ _ c.requires.0 _ _ (c.words_for-words.ensures ∙ ap table_length c.node_count.ensures) c.clear.ensures c.in-Ok.ensures.walk refl c.insert_counts.ensures.scopes c.insert_counts.ensures.symbols (rw c.in-Ok.ensures.keeps.image at c.insert_counts.ensures.words) (search rules)

pub returns-in-Ok-clause-noted : goal.returns-in-Ok-clause-noted
returns-in-Ok-clause-noted c =
    let a = c.in-Ok.ensures.keeps in
    let b = c.insert_counts.ensures.keeps in
    let d = c.insert_counts.ensures.env in
    noted-done _ _ c.requires.0 _ _ (c.words_for-words.ensures ∙ ap table_length c.node_count.ensures) c.clear.ensures c.in-Ok.ensures.walk refl c.insert_counts.ensures.scopes c.insert_counts.ensures.symbols (rw c.in-Ok.ensures.keeps.image at c.insert_counts.ensures.words) (search rules) (search rules)

pub returns-in-Err-clause-resolves : goal.returns-in-Err-clause-resolves
returns-in-Err-clause-resolves c =
    let a = c.in-Err.ensures.keeps in
    resolved-twice _ _ c.requires.0 _ _ (c.words_for-words.ensures ∙ ap table_length c.node_count.ensures) c.clear.ensures c.in-Err.ensures.walk _ refl refl c.clear-in-Err.ensures (search rules)
