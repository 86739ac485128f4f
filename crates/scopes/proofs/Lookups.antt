-- Laws of Lookup: its refusals in order, and the answer.
use Rattle.std.proofs.lemmas.Bool.{and_parts}
use mathlib.Core.Path.{◌≡◌, refl, sym, ap, subst, ◌∙◌}
use mathlib.Core.Bool.{Bool, true, false, ◌&&◌, ◌||◌}
use mathlib.Core.List.{List}
use mathlib.Core.Option.{Option, none, some}
use Prim.Native.Nat.{ℕ, zero, suc, ◌<◌, ◌≤◌}
use native.Mathlib.Omega.{arith}
use lib.Dec.{T, leb, ltb, eqb, ltb→lt}
use lib.ListN.{length}
use borrow.Author.Tests.{lt-ltb, le-ltb, le-leb, lt-leb}
use Rattle.std.specs.Prelude.{Option as Given, Result, Ok, Err, IsErrAnd}
use Rattle.ast.specs.Image.{nodes, kind_at}
use Rattle.ast.specs.Kinds.{Kind, kinds, kind_of}
use Rattle.ast.specs.Tests.{verdict}
use Rattle.ast.specs.Answer.{refused, located, other}
use Rattle.ast.proofs.Accepted.{both, skip}
use Rattle.ast.proofs.Bools.{true-is}
use Rattle.ast.proofs.ByKind.{low-kind}
use Rattle.ast.proofs.Scans.{need-in, need-out}
use Rattle.ast.proofs.Vars.{every-kind}
use Rattle.error.specs.Refusals.{refusal_number}
use Rattle.error.specs.declared.Refusal.{Refusal}
use Rattle.table.specs.Layout.{table_length}
use Rattle.table.specs.Table.{Found, found, climb, symbol_of, declares}
use Rattle.table.proofs.Below.{climb-row}
use Rattle.sound.specs.Sound.{has_name, is_symbol, scopes_in, symbols_in, table_in, test_sound}
use Rattle.sound.proofs.Sounds.{halt, sound-is}
use Rattle.scopes.specs.Resolve.{test_table}
use Rattle.names.specs.Number.{number_of}
use Rattle.scopes.specs.Answers.{looked_answer}
use Rattle.scopes.specs.declared.Looked.{Looked}
use Rattle.scopes.specs.Lookup.{test_lookup, symbol_answer, found_by, lookup_call}

-- 1 to 13 -------------------------------------------------------------------------------------------------------------
module _ (img tab : List ℕ) where
  pub table-refused : (k : ℕ) → k ≡ verdict img → (k ≡ 0 → ⊥) → k ≡ test_table img tab
  unfolding test_table
  table-refused k q h = q ∙ sym (halt _ _ (λ e. h (q ∙ e)))

  module _ (accepted : 0 ≡ verdict img) where
    pub table_short : length tab < table_length (nodes img) → 13 ≡ test_table img tab
    unfolding test_table
    table_short h = sym (skip _ _ (sym accepted) ∙ need-out 13 _ (lt-leb _ _ h))

    pub table_long : table_length (nodes img) ≤ length tab → 0 ≡ test_table img tab
    unfolding test_table
    table_long h = sym (skip _ _ (sym accepted) ∙ need-in 13 _ (le-leb _ _ h))

-- 1 to 13, 16, 17 -----------------------------------------------------------------------------------------------------
module _ (img tab : List ℕ) (s : ℕ) where
  pub lookup-refused : (k : ℕ) → k ≡ test_table img tab → (k ≡ 0 → ⊥) → k ≡ test_lookup img tab s
  unfolding test_lookup
  lookup-refused k q h = q ∙ sym (halt _ _ (λ e. h (q ∙ e)))

  module _ (passed : 0 ≡ test_table img tab) where
    pub lookup-unsound : (k : ℕ) → k ≡ test_sound img tab → (k ≡ 0 → ⊥) → k ≡ test_lookup img tab s
    unfolding test_lookup
    lookup-unsound k q h = q ∙ sym (skip _ _ (sym passed) ∙ halt _ _ (λ e. h (q ∙ e)))

    module _ (sound : 0 ≡ test_sound img tab) where
      pub lookup_within : s < scopes_in img tab → 0 ≡ test_lookup img tab s
      unfolding test_lookup
      lookup_within h = sym (skip _ _ (sym passed) ∙ skip _ _ (sym sound) ∙ need-in 17 _ (lt-ltb _ _ h))

      pub lookup_beyond : scopes_in img tab ≤ s → 17 ≡ test_lookup img tab s
      unfolding test_lookup
      lookup_beyond h = sym (skip _ _ (sym passed) ∙ skip _ _ (sym sound) ∙ need-out 17 _ (le-ltb _ _ h))

-- where these tests pass, the image is accepted and the table sound
pub lookup-accepted : (img tab : List ℕ) (s : ℕ) → 0 ≡ test_lookup img tab s → verdict img ≡ 0
unfolding test_lookup test_table
lookup-accepted img tab s e = (both _ _ (both _ _ (sym e)).0).0

pub lookup-sound : (img tab : List ℕ) (s : ℕ) → 0 ≡ test_lookup img tab s → test_sound img tab ≡ 0
unfolding test_lookup
lookup-sound img tab s e = (both _ _ (both _ _ (sym e)).1).0

-- a symbol of a sound table is a declaration: its kind by the sound table's test, where b says that it has a name
named : Bool → ℕ → Bool
named b k = elim (eqb k 6) [ true ↦ b | false ↦ elim (eqb k 10) [ true ↦ b | false ↦ (leb 2 k && leb k 9) || eqb k 13 ] ]

implies : Bool → Bool → Bool
implies true c = c
implies false c = true

naming : Bool → ℕ → Kind → Bool
naming b k kd = implies (named b k) (declares k)

every-naming : (b : Bool) (k : ℕ) → k ≤ 40 → T (naming b k (kind_of k))
unfolding naming implies named declares kinds
every-naming true k l = every-kind (naming true) tt k l
every-naming false k l = every-kind (naming false) tt k l

named-declares : (b : Bool) (k : ℕ) → k ≤ 40 → named b k ≡ true → declares k ≡ true
unfolding naming implies
named-declares b k l h = true-is _ (subst (λ (c : Bool). T (implies c (declares k))) h (every-naming b k l))

module _ (img tab : List ℕ) (s : ℕ) (passed : 0 ≡ test_lookup img tab s) where
  symbol-declares : (n : ℕ) → is_symbol img n ≡ true → declares (kind_at img n) ≡ true
  unfolding is_symbol named
  symbol-declares n h =
      let c = and_parts (ltb n (nodes img)) (named (has_name img n) (kind_at img n)) h in
      named-declares (has_name img n) (kind_at img n) (low-kind img (lookup-accepted img tab s passed) n (ltb→lt n (nodes img) (subst T (sym c.0) tt))) c.1

  -- so is what is found in it
  pub climbed-declares : {y : ℕ} (f : Found) (x : ℕ) → y ≡ symbols_in img tab → some f ≡ climb img (suc s) tab y s x → declares (kind_at img f.node) ≡ true
  climbed-declares {y} f x q h =
      let r = climb-row img tab (suc s) y s x f (sym h) in
      symbol-declares f.node (subst (λ (g : Found). is_symbol img g.node ≡ true) r.is ((sound-is img tab (lookup-sound img tab s passed)).symbol r.row (let z = r.within in omega arith)))

  pub found-declares : (f : Found) (x : ℕ) → some f ≡ found img (table_in img tab) s x → declares (kind_at img f.node) ≡ true
  unfolding found
  found-declares f x h = climbed-declares f x refl h

-- the answer ----------------------------------------------------------------------------------------------------------
module _ (img : List ℕ) where
  pub answer_none : other 0 0 ≡ symbol_answer img none
  unfolding symbol_answer
  answer_none = refl

  pub answer-some : (l : Found) (k t : ℕ) → k ≡ kind_at img l.node → t ≡ symbol_of k → located l.scope t l.node ≡ symbol_answer img (some l)
  unfolding symbol_answer
  answer-some l k t e f = ap (λ (n : ℕ). located l.scope n l.node) (f ∙ ap symbol_of e)

module _ (img tab : List ℕ) (s : ℕ) where
  pub climbed-by : (x y : ℕ) (o : Option Found) → y ≡ symbols_in img tab → o ≡ climb img (suc s) tab y s x → symbol_answer img o ≡ symbol_answer img (found_by img tab s (some x))
  unfolding found_by found
  climbed-by x y o e f = ap (symbol_answer img) (f ∙ ap (λ c. climb img (suc s) tab c s x) e)

  pub found-by : (x : ℕ) (o : Option Found) → o ≡ found img (table_in img tab) s x → symbol_answer img o ≡ symbol_answer img (found_by img tab s (some x))
  unfolding found_by
  found-by x o f = ap (symbol_answer img) f

  module _ (bs : List ℕ) (k : ℕ) (tests-are : k ≡ test_lookup img tab s) where
    pub call-refused : (k ≡ 0 → ⊥) → refused k ≡ lookup_call img tab s bs
    unfolding lookup_call
    call-refused h = rw (← tests-are, lookup_call) (go k h)
      where
        go : (m : ℕ) → (m ≡ 0 → ⊥) → refused m ≡ elim m [ zero ↦ symbol_answer img (found_by img tab s (number_of img bs)) | suc r ↦ refused (suc r) ]
        go zero q = absurd (q refl)
        go (suc m) q = refl

    pub call-answer : k ≡ 0 → (o : Option ℕ) → o ≡ number_of img bs → symbol_answer img (found_by img tab s o) ≡ lookup_call img tab s bs
    unfolding lookup_call
    call-answer h o e = rw (sym tests-are ∙ h, lookup_call) (ap (λ u. symbol_answer img (found_by img tab s u)) e)

    pub call_none : k ≡ 0 → none ≡ number_of img bs → other 0 0 ≡ lookup_call img tab s bs
    unfolding symbol_answer found_by
    call_none h e = call-answer h none e

-- what `?` hands back
pub looked-refused : (r : Result (Given Looked) Refusal) (e : Refusal) → IsErrAnd r (λ y. y ≡ e) → looked_answer r ≡ refused (refusal_number e)
looked-refused (Ok l) e h = absurd h
looked-refused (Err y) e h = ap (λ (k : Refusal). refused (refusal_number k)) h
