use mathlib.Core.Path.{◌∙◌}
use native.Mathlib.Omega.{arith}
use Rattle.error.proofs.Refused.{refusal-some, passed-on}
use Rattle.index.proofs.Tests.{indexed-refused, indexed-short, indexed-other, indexed-own, looked-room, compared-by}
use Rattle.index.proofs.test_indexed.Goals as goal
use Rattle.index.proofs.test_indexed.Goals.{then-index-words-via-then-index-words, then-index-words-via-else-index-words+then-not-is_index}

pub returns-then-index-words-clause-refusal : goal.returns-then-index-words-clause-refusal
returns-then-index-words-clause-refusal c =
    let e = c.words_for-words.ensures in
    elim c.then-index-words.branch [
      | then-index-words-via-then-index-words w ↦ indexed-short _ _ _ _ c.in_ok-accepted.ensures.refusal (let l = w.if-index-words.true in omega arith)
      | then-index-words-via-else-index-words+then-not-is_index w ↦
          indexed-other _ _ _ _ c.in_ok-accepted.ensures.refusal (let l = w.if-index-words.false in omega arith) _ (compared-by _ _ _ _ e w.is_index.ensures) w.if-not-is_index.true
    ]

pub returns-in_err-accepted-clause-refusal : goal.returns-in_err-accepted-clause-refusal
returns-in_err-accepted-clause-refusal c = passed-on _ _ c.from_residual.ensures.1 ∙ indexed-refused _ _ _ _ _ c.in_err-accepted.ensures.refusal (refusal-some _)

pub is_index-requires : goal.is_index-requires
is_index-requires c = looked-room _ _ _ _ _ c.in_ok-accepted.ensures.refusal c.words_for-words.ensures c.if-index-words.false

pub returns-clause-refusal : goal.returns-clause-refusal
returns-clause-refusal c =
    let e = c.words_for-words.ensures in
    indexed-own _ _ _ _ c.in_ok-accepted.ensures.refusal (let l = c.if-index-words.false in omega arith) _ (compared-by _ _ _ _ e c.is_index.ensures) c.if-not-is_index.false
