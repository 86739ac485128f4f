-- The refusals of both calls, in order, and what they answer.
use mathlib.Core.Path.{◌≡◌, refl, sym, ap, ap₂, ◌∙◌}
use mathlib.Core.Bool.{Bool, true, false}
use mathlib.Core.List.{List, ◌++◌}
use mathlib.Core.Option.{some}
use Prim.Native.Nat.{ℕ, zero, suc, ◌<◌, ◌≤◌}
use native.Mathlib.Omega.{arith}
use lib.Dec.{leb→le}
use lib.ListN.{length, take, drop, replicate, length-replicate}
use borrow.Author.Tests.{le-leb, lt-leb}
use Rattle.std.specs.Prelude.{Result, Ok, Err, IsErrAnd}
use Rattle.std.proofs.lemmas.List.{length-take-le}
use Rattle.ast.specs.Answer.{Answer, refused, result}
use Rattle.ast.specs.Tests.{same, verdict}
use Rattle.ast.proofs.Accepted.{both, needed, skip, stop, stop-at, sized}
use Rattle.ast.proofs.Bools.{true-is}
use Rattle.ast.proofs.Scans.{need-in, need-out}
use Rattle.names.specs.Number.{number_of}
use Rattle.names.proofs.Names.{same_true}
use Rattle.names.proofs.Numbers.{number-below}
use Rattle.error.specs.Refusals.{refusal_number}
use Rattle.error.specs.declared.Refusal.{Refusal}
use Rattle.sound.specs.Sound.{symbols_in, test_sound}
use Rattle.scopes.specs.Resolve.{test_table}
use Rattle.scopes.specs.Lookup.{test_lookup, lookup_call}
use Rattle.scopes.proofs.Lookups.{lookup-accepted, lookup-sound}
use Rattle.scopes.proofs.Resolving.{table-accepted}
use Rattle.index.specs.Promises.{Room, Indexed}
use Rattle.index.specs.Index.{index_length, index_words, Outcome, test_index, index_call, index_answer, test_indexed, indexed_call}

-- 1 to 13, 16, 18 -----------------------------------------------------------------------------------------------------
module _ (img tab index : List ℕ) where
  pub index-refused : (k : ℕ) → k ≡ test_table img tab → (k ≡ 0 → ⊥) → k ≡ test_index img tab index
  unfolding test_index
  index-refused k q h = sym (stop-at _ _ k (sym q) h)

  module _ (passed : 0 ≡ test_table img tab) where
    pub index-unsound : (k : ℕ) → k ≡ test_sound img tab → (k ≡ 0 → ⊥) → k ≡ test_index img tab index
    unfolding test_index
    index-unsound k q h = sym (skip _ _ (sym passed) ∙ stop-at _ _ k (sym q) h)

    module _ (sound : 0 ≡ test_sound img tab) where
      pub index-short : length index < index_length img → 18 ≡ test_index img tab index
      unfolding test_index
      index-short h = sym (skip _ _ (sym passed) ∙ skip _ _ (sym sound) ∙ need-out 18 _ (lt-leb _ _ h))

      pub index-room : index_length img ≤ length index → 0 ≡ test_index img tab index
      unfolding test_index
      index-room h = sym (skip _ _ (sym passed) ∙ skip _ _ (sym sound) ∙ need-in 18 _ (le-leb _ _ h))

-- 1 to 13, 16, 17, 18 -------------------------------------------------------------------------------------------------
module _ (img tab index : List ℕ) (s : ℕ) where
  pub indexed-refused : (k : ℕ) → k ≡ test_lookup img tab s → (k ≡ 0 → ⊥) → k ≡ test_indexed img tab index s
  unfolding test_indexed
  indexed-refused k q h = sym (stop-at _ _ k (sym q) h)

  module _ (passed : 0 ≡ test_lookup img tab s) where
    pub indexed-short : length index < index_length img → 18 ≡ test_indexed img tab index s
    unfolding test_indexed
    indexed-short h = sym (skip _ _ (sym passed) ∙ stop _ _ 17 (need-out 18 _ (lt-leb _ _ h)))

    module _ (room : index_length img ≤ length index) (b : Bool) (compared : b ≡ same (take (index_length img) index) (index_words img tab)) where
      pub indexed-other : b ≡ false → 18 ≡ test_indexed img tab index s
      unfolding test_indexed
      indexed-other h = sym (skip _ _ (sym passed) ∙ skip _ _ (need-in 18 _ (le-leb _ _ room)) ∙ need-out 18 _ (sym compared ∙ h))

      pub indexed-own : b ≡ true → 0 ≡ test_indexed img tab index s
      unfolding test_indexed
      indexed-own h = sym (skip _ _ (sym passed) ∙ skip _ _ (need-in 18 _ (le-leb _ _ room)) ∙ need-in 18 _ (sym compared ∙ h))

-- what the code may do where nothing is refused ------------------------------------------------------------------------
module _ (img tab index : List ℕ) where
  pub index-passed : 0 ≡ test_index img tab index → (verdict img ≡ 0) × (test_sound img tab ≡ 0) × (index_length img ≤ length index)
  unfolding test_index
  index-passed e =
      let a = both _ _ (sym e) in
      let b = both _ _ a.1 in
      (table-accepted img tab a.0, b.0, leb→le _ _ (needed 17 _ b.1))

  -- the front of the words, as long as the index is
  pub front-room : verdict img ≡ 0 → test_sound img tab ≡ 0 → (w : ℕ) → w ≡ index_length img → w ≤ length index → Room img tab (take w index)
  front-room a s w e l = record { accepted = a; sound = s; long = length-take-le w index l ∙ e }

  pub looked-room : (s w : ℕ) → 0 ≡ test_lookup img tab s → w ≡ index_length img → w ≤ length index → Room img tab (take w index)
  looked-room s w p e l = front-room (lookup-accepted img tab s p) (lookup-sound img tab s p) w e l

  pub compared-by : (w : ℕ) {b : Bool} → w ≡ index_length img → b ≡ same (take w index) (index_words img tab) → b ≡ same (take (index_length img) index) (index_words img tab)
  compared-by w e h = h ∙ ap (λ (n : ℕ). same (take n index) (index_words img tab)) e

  pub indexed-by : (s x : ℕ) (bs : List ℕ) → 0 ≡ test_indexed img tab index s → some x ≡ number_of img bs → Indexed img tab index s x
  unfolding test_indexed
  indexed-by s x bs e n =
      let a = both _ _ (sym e) in
      record { passed = sym a.0; begins = same_true _ _ (true-is _ (needed 17 _ (both _ _ a.1).1)); name = number-below img bs x (sym n) }

  pub looked-by : (s : ℕ) → 0 ≡ test_indexed img tab index s → 0 ≡ test_lookup img tab s
  unfolding test_indexed
  looked-by s e = sym (both _ _ (sym e)).0

-- words of an index are few, and as many of an array of the most have room for one
module _ {img tab words : List ℕ} (room : Room img tab words) where
  pub room-small : length words ≤ 3072
  room-small = let d = sized img room.accepted in let a = d.few_nodes in let b = d.few_names in let e = room.long in omega arith

  pub own-long : (v : ℕ) → length (take (length words) (replicate 3072 v)) ≡ length words
  own-long v = length-take-le (length words) (replicate 3072 v) (let a = room-small in omega (arith, length-replicate 3072 v))

  pub own-room : (v : ℕ) → Room img tab (take (length words) (replicate 3072 v))
  own-room v = record { accepted = room.accepted; sound = room.sound; long = own-long v ∙ room.long }

-- what the calls answer -----------------------------------------------------------------------------------------------
pub answered : (r : Result ℕ Refusal) (e : Refusal) → IsErrAnd r (λ y. y ≡ e) → index_answer r ≡ refused (refusal_number e)
answered (Ok n) e h = absurd h
answered (Err y) e h = ap (λ (k : Refusal). refused (refusal_number k)) h

module _ (img tab index : List ℕ) where
  -- the call that makes the index fills the words, or it refuses and keeps them
  pub data Makes : Outcome → Type 0 where
    fills : test_index img tab index ≡ 0 → Makes (record { answer = result 0 (symbols_in img tab); index = index_words img tab ++ drop (index_length img) index })
    keeps : (r : ℕ) → test_index img tab index ≡ suc r → Makes (record { answer = refused (suc r); index = index })

  pub makes : Makes (index_call img tab index)
  unfolding index_call
  makes = go (test_index img tab index) refl
    where
      go : (r : ℕ) → test_index img tab index ≡ r → Makes (elim r as (λ _. Outcome) [
        | zero ↦ record { answer = result 0 (symbols_in img tab); index = index_words img tab ++ drop (index_length img) index }
        | suc i ↦ record { answer = refused (suc i); index = index }
      ])
      go zero e = fills e
      go (suc r) e = keeps r e

  pub call-refused : (k : ℕ) → k ≡ test_index img tab index → (k ≡ 0 → ⊥) → index_call img tab index ≡ record { answer = refused k; index = index }
  call-refused k e h = go makes
    where
      go : {o : Outcome} → Makes o → o ≡ record { answer = refused k; index = index }
      go (fills q) = absurd (h (e ∙ q))
      go (keeps r q) = ap (λ (n : ℕ). record { answer = refused n; index = index }) (sym (e ∙ q))

  pub call-made : 0 ≡ test_index img tab index → (y : ℕ) → y ≡ symbols_in img tab → (new : List ℕ) → new ≡ index_words img tab ++ drop (index_length img) index
      → index_call img tab index ≡ record { answer = result 0 y; index = new }
  call-made e y q new f = go makes
    where
      go : {o : Outcome} → Makes o → o ≡ record { answer = result 0 y; index = new }
      go (fills h) = ap₂ (λ (n : ℕ) (ws : List ℕ). record { answer = result 0 n; index = ws }) (sym q) (sym f)
      go (keeps r h) = absurd (let z = e ∙ h in omega arith)

  module _ (s : ℕ) (bs : List ℕ) where
    -- lookup through the index is Lookup, or it refuses
    pub data Looks : Answer → Type 0 where
      looks : test_indexed img tab index s ≡ 0 → Looks (lookup_call img tab s bs)
      stops : (r : ℕ) → test_indexed img tab index s ≡ suc r → Looks (refused (suc r))

    pub indexed-looks : Looks (indexed_call img tab index s bs)
    unfolding indexed_call
    indexed-looks = go (test_indexed img tab index s) refl
      where
        go : (r : ℕ) → test_indexed img tab index s ≡ r → Looks (elim r as (λ _. Answer) [ zero ↦ lookup_call img tab s bs | suc i ↦ refused (suc i) ])
        go zero e = looks e
        go (suc r) e = stops r e

    pub indexed-call-refused : (k : ℕ) → k ≡ test_indexed img tab index s → (k ≡ 0 → ⊥) → refused k ≡ indexed_call img tab index s bs
    indexed-call-refused k e h = go indexed-looks
      where
        go : {a : Answer} → Looks a → refused k ≡ a
        go (looks q) = absurd (h (e ∙ q))
        go (stops r q) = ap refused (e ∙ q)

    pub indexed-call-looked : 0 ≡ test_indexed img tab index s → lookup_call img tab s bs ≡ indexed_call img tab index s bs
    indexed-call-looked e = go indexed-looks
      where
        go : {a : Answer} → Looks a → lookup_call img tab s bs ≡ a
        go (looks q) = refl
        go (stops r q) = absurd (let z = e ∙ q in omega arith)
