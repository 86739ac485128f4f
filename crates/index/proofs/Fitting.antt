-- Every number of an answer fits 16 bits, for both calls.
use mathlib.Core.Path.{◌≡◌, sym, subst}
use mathlib.Core.List.{List}
use Prim.Native.Nat.{ℕ, suc}
use native.Mathlib.Omega.{arith}
use Rattle.ast.specs.Answer.{Answer, result, Fits}
use Rattle.ast.proofs.Accepted.{sized}
use Rattle.ast.proofs.Refusals.{Low, first-low, need-low}
use Rattle.sound.specs.Sound.{symbols_in}
use Rattle.sound.proofs.Sounds.{sound-is}
use Rattle.scopes.proofs.Fitting.{refused-fits, table-low, sound-low, lookup-low, lookup-fits}
use Rattle.index.specs.Index.{Outcome, test_index, index_call, test_indexed, indexed_call}
use Rattle.index.proofs.Tests.{index-passed, Makes, fills, keeps, makes, Looks, looks, stops, indexed-looks}

module _ (img tab index : List ℕ) where
  index-low : Low (test_index img tab index)
  unfolding test_index
  index-low = first-low _ _ (table-low img tab) (first-low _ _ (sound-low img tab) (need-low 18 _ (omega arith)))

  indexed-low : (s : ℕ) → Low (test_indexed img tab index s)
  unfolding test_indexed
  indexed-low s = first-low _ _ (lookup-low img tab s) (first-low _ _ (need-low 18 _ (omega arith)) (need-low 18 _ (omega arith)))

  count-fits : test_index img tab index ≡ 0 → Fits (result 0 (symbols_in img tab))
  unfolding Fits
  count-fits e =
      let p = index-passed img tab index (sym e) in
      let few = (sound-is img tab p.1).few_symbols in
      let small = (sized img p.0).few_nodes in
      (omega arith, omega arith)

  pub index-fits : Fits (index_call img tab index).answer
  index-fits = go (makes img tab index)
    where
      go : {o : Outcome} → Makes img tab index o → Fits o.answer
      go (fills e) = count-fits e
      go (keeps r e) = refused-fits (suc r) (subst Low e index-low)

  pub indexed-fits : (s : ℕ) (bs : List ℕ) → Fits (indexed_call img tab index s bs)
  indexed-fits s bs = go (indexed-looks img tab index s bs)
    where
      go : {a : Answer} → Looks img tab index s bs a → Fits a
      go (looks e) = lookup-fits img tab s bs
      go (stops r e) = refused-fits (suc r) (subst Low e (indexed-low s))
