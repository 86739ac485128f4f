use mathlib.Core.Path.{sym, ◌∙◌}
use borrow.Author.Tests.{eqb-true, eqb-false}
use Rattle.std.proofs.lemmas.Bool.{not-true, not-false}
use Rattle.ast.proofs.Scans.{need-in, need-out}
use Rattle.sound.proofs.Sounds.{Read, sound-nodes, sound_none, sound-scopes, sound-symbols, sound-root, sound-parents, sound-rows}
use Rattle.sound.proofs.test_sound.Goals as goal
use Rattle.sound.proofs.test_sound.Goals.{then-get-n-via-then-get-n, then-get-n-via-else-get-n+then-scopes-eq0, then-get-n-via-else-get-n+else-scopes-eq0+then-n-scopes, then-get-n-via-else-get-n+else-scopes-eq0+else-n-scopes+then-n-symbols}
use Rattle.sound.proofs.test_sound.Goals.{then-ne-via-then-ne, then-ne-via-else-ne+then-not-parents_below, then-ne-via-else-ne+else-not-parents_below+then-not-rows_sound}

pub returns-then-get-n : goal.returns-then-get-n
returns-then-get-n c =
    let r : Read _ _ _ _ _ _ = record { nodes_are = c.node_count-n.ensures; first-is = c.get.ensures; scopes-are = c.get-scopes.ensures; symbols-are = c.get-symbols.ensures } in
    sym (elim c.then-get-n.branch [
      | then-get-n-via-then-get-n w ↦ sound-nodes _ _ r w.if-get-n.true
      | then-get-n-via-else-get-n+then-scopes-eq0 w ↦ sound_none _ _ r w.if-get-n.false w.if-scopes-eq0.true
      | then-get-n-via-else-get-n+else-scopes-eq0+then-n-scopes w ↦ sound-scopes _ _ r w.if-get-n.false w.if-scopes-eq0.false w.if-n-scopes.true
      | then-get-n-via-else-get-n+else-scopes-eq0+else-n-scopes+then-n-symbols w ↦ sound-symbols _ _ r w.if-get-n.false w.if-scopes-eq0.false w.if-n-scopes.false w.if-n-symbols.true
    ])

pub returns-then-ne : goal.returns-then-ne
returns-then-ne c =
    let r : Read _ _ _ _ _ _ = record { nodes_are = c.node_count-n.ensures; first-is = c.get.ensures; scopes-are = c.get-scopes.ensures; symbols-are = c.get-symbols.ensures } in
    sym (elim c.then-ne.branch [
      | then-ne-via-then-ne w ↦ sound-root _ _ r c.if-get-n.false c.if-scopes-eq0.false c.if-n-scopes.false c.if-n-symbols.false _ c.parent_of.ensures (eqb-false _ _ (not-true _ (sym c.ne.ensures ∙ w.if-ne.true)))
      | then-ne-via-else-ne+then-not-parents_below w ↦
          sound-parents _ _ r c.if-get-n.false c.if-scopes-eq0.false c.if-n-scopes.false c.if-n-symbols.false _ c.parent_of.ensures (eqb-true _ _ (not-false _ (sym c.ne.ensures ∙ w.if-ne.false))) _ w.parents_below.ensures w.if-not-parents_below.true
      | then-ne-via-else-ne+else-not-parents_below+then-not-rows_sound w ↦
          sound-rows _ _ r c.if-get-n.false c.if-scopes-eq0.false c.if-n-scopes.false c.if-n-symbols.false _ c.parent_of.ensures (eqb-true _ _ (not-false _ (sym c.ne.ensures ∙ w.if-ne.false))) _ w.parents_below.ensures w.if-not-parents_below.false _ w.rows_sound.ensures
          ∙ need-out 16 _ w.if-not-rows_sound.true
    ])

pub returns : goal.returns
returns c =
    let r : Read _ _ _ _ _ _ = record { nodes_are = c.node_count-n.ensures; first-is = c.get.ensures; scopes-are = c.get-scopes.ensures; symbols-are = c.get-symbols.ensures } in
    sym (sound-rows _ _ r c.if-get-n.false c.if-scopes-eq0.false c.if-n-scopes.false c.if-n-symbols.false _ c.parent_of.ensures (eqb-true _ _ (not-false _ (sym c.ne.ensures ∙ c.if-ne.false))) _ c.parents_below.ensures c.if-not-parents_below.false _ c.rows_sound.ensures
    ∙ need-in 16 _ c.if-not-rows_sound.false)
