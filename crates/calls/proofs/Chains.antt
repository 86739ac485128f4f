-- Document 02's S-3: in the index of a sound table each symbol row stands in exactly one chain, that of its name, and chains go by
-- insertion; what the call that makes it leaves; and lookup through it is Lookup.
use mathlib.Core.Path.{◌≡◌, refl, sym, ap, ap₂, subst, ◌∙◌}
use mathlib.Core.Logic.{◌≢◌, ◌⊎◌, inl, inr}
use mathlib.Core.Bool.{Bool, true, false, false≢true}
use mathlib.Core.List.{List, [], ◌∷◌, ◌++◌}
use Prim.Native.Nat.{ℕ, zero, suc, ◌+◌, ◌-◌, ◌<◌, ◌≤◌}
use native.Mathlib.Decide.{dec_lt, ℕ_discrete}
use native.Mathlib.Nat.{zero-add}
use native.Mathlib.Omega.{arith}
use lib.Dec.{eqb}
use lib.ListN.{length, get_or, take, drop, length-append, length-drop}
use borrow.Author.Tests.{eqb-true, eq-eqb, ne_eqb}
use Rattle.std.specs.List.{range_with_len}
use Rattle.std.proofs.lemmas.List.{take_at, drop_at}
use Rattle.ast.specs.Answer.{refused}
use Rattle.ast.specs.Image.{nodes, names}
use Rattle.ast.specs.Tests.{is, same, times, verdict}
use Rattle.ast.proofs.Accepted.{sized}
use Rattle.ast.proofs.Count.{is_same, is-other}
use Rattle.names.proofs.Names.{same_true}
use Rattle.table.specs.Layout.{all_ones}
use Rattle.sound.specs.Sound.{symbols_in, test_sound}
use Rattle.sound.proofs.Sounds.{sound-is}
use Rattle.scopes.specs.Lookup.{test_lookup, lookup_call}
use Rattle.scopes.proofs.Lookups.{call-refused}
use Rattle.sight.specs.Sight.{In}
use Rattle.index.specs.Index.{index_length, row_name, first_from, index_words, Outcome, test_index, index_call, test_indexed, indexed_call}
use Rattle.index.proofs.Rows.{row-name, first_none, index-long, begin-first, begin-next}
use Rattle.index.proofs.Tests.{indexed-refused, indexed-short, indexed-own, index-passed, Makes, fills, keeps, makes, indexed-call-refused, indexed-call-looked}
use Rattle.index.proofs.Tests.{indexed-other as other-words}
use Rattle.calls.specs.Chains.{follow, chain, rows_named, Rising}
use Rattle.calls.specs.Left.{IndexLeft}
use Rattle.calls.specs.Order.{passing}
use Rattle.calls.proofs.ByBytes.{same_self}

-- numbers in a row, of which some pass -----------------------------------------------------------------------------------
module _ (p : ℕ → Bool) where
  abbrev some_of : ℕ → ℕ → List ℕ
  some_of j c = passing p (range_with_len j c)

  out-of : (y c j : ℕ) → (y < j) ⊎ (j + c ≤ y) → times y (some_of j c) ≡ 0
  unfolding passing times
  out-of y zero j h = refl
  out-of y (suc c) j h = go (p j) (out-of y c (j + 1) (on h))
    where
      on : (y < j) ⊎ (j + suc c ≤ y) → (y < j + 1) ⊎ (j + 1 + c ≤ y)
      on (inl l) = inl (omega arith)
      on (inr l) = inr (omega arith)

      differ : (y < j) ⊎ (j + suc c ≤ y) → y ≢ j
      differ (inl l) e = omega arith
      differ (inr l) e = omega arith

      go : (b : Bool) → times y (some_of (j + 1) c) ≡ 0 → times y (elim b as (λ _. List ℕ) [ true ↦ j ∷ some_of (j + 1) c | false ↦ some_of (j + 1) c ]) ≡ 0
      go true e = ap₂ (λ (a b : ℕ). a + b) (is-other y j (differ h)) e
      go false e = e

  off : (y c j : ℕ) → p y ≡ false → times y (some_of j c) ≡ 0
  unfolding passing times
  off y zero j h = refl
  off y (suc c) j h = go (p j) refl (off y c (j + 1) h)
    where
      go : (b : Bool) → p j ≡ b → times y (some_of (j + 1) c) ≡ 0 → times y (elim b as (λ _. List ℕ) [ true ↦ j ∷ some_of (j + 1) c | false ↦ some_of (j + 1) c ]) ≡ 0
      go true q e = ap₂ (λ (a b : ℕ). a + b) (is-other y j (λ f. false≢true (sym h ∙ ap p f ∙ q))) e
      go false q e = e

  once-in : (y c j : ℕ) → j ≤ y → y < j + c → p y ≡ true → times y (some_of j c) ≡ 1
  unfolding passing times
  once-in y zero j a b h = absurd (omega arith)
  once-in y (suc c) j a b h = go (ℕ_discrete y j) (p j) refl (λ m n. once-in y c (j + 1) m n h)
    where
      go : Dec (y ≡ j) → (b : Bool) → p j ≡ b → (j + 1 ≤ y → y < j + 1 + c → times y (some_of (j + 1) c) ≡ 1)
          → times y (elim b as (λ _. List ℕ) [ true ↦ j ∷ some_of (j + 1) c | false ↦ some_of (j + 1) c ]) ≡ 1
      go (yes e) true q f = ap₂ (λ (m n : ℕ). m + n) (ap (λ (k : ℕ). is k j) e ∙ is_same j) (out-of y c (j + 1) (inl (omega arith)))
      go (yes e) false q f = absurd (false≢true (sym q ∙ ap p (sym e) ∙ h))
      go (no n) true q f = ap₂ (λ (k l : ℕ). k + l) (is-other y j n) (f (omega arith) (omega arith))
      go (no n) false q f = f (omega arith) (omega arith)

  from-on : (c j z : ℕ) → In z (some_of j c) → j ≤ z
  unfolding passing
  from-on zero j z i = absurd i
  from-on (suc c) j z i = go (p j) i (from-on c (j + 1) z)
    where
      go : (b : Bool) → In z (elim b as (λ _. List ℕ) [ true ↦ j ∷ some_of (j + 1) c | false ↦ some_of (j + 1) c ]) → (In z (some_of (j + 1) c) → j + 1 ≤ z) → j ≤ z
      go true (inl e) f = omega arith
      go true (inr k) f = let a = f k in omega arith
      go false k f = let a = f k in omega arith

  rising : (c j : ℕ) → Rising (some_of j c)
  unfolding passing
  rising zero j = tt
  rising (suc c) j = go (p j) (rising c (j + 1))
    where
      go : (b : Bool) → Rising (some_of (j + 1) c) → Rising (elim b as (λ _. List ℕ) [ true ↦ j ∷ some_of (j + 1) c | false ↦ some_of (j + 1) c ])
      go true r = ((λ z i. let a = from-on c (j + 1) z i in omega arith), r)
      go false r = r

-- of every accepted image, every sound table, and all words that begin with its index --------------------------------------
module _ (img tab index : List ℕ) (accepted : verdict img ≡ 0) (sound : test_sound img tab ≡ 0) (begins : take (index_length img) index ≡ index_words img tab) where
  abbrev Y : ℕ
  Y = symbols_in img tab

  few : Y ≤ nodes img
  few = (sound-is img tab sound).few_symbols

  small : nodes img ≤ 2048
  small = (sized img accepted).few_nodes

  ends : (f : ℕ) → follow img index f all_ones ≡ []
  unfolding follow
  ends zero = refl
  ends (suc f) = refl

  step : (f j : ℕ) → j < all_ones → follow img index (suc f) j ≡ j ∷ follow img index f (get_or index (names img + j) 0)
  unfolding follow
  step f j l = rw (ne_eqb j all_ones (λ z. omega arith), follow)

  follows : (c j x f : ℕ) → j + c ≡ Y → c ≤ f → follow img index f (first_from img tab c j x) ≡ passing (λ i. eqb (row_name img tab i) x) (range_with_len j c)
  unfolding first_from passing
  follows zero j x f p q = ends f
  follows (suc c) j x zero p q = absurd (omega arith)
  follows (suc c) j x (suc f) p q =
      go (eqb (row_name img tab j) x) refl (follows c (j + 1) x f (omega arith) (omega arith)) (follows c (j + 1) x (suc f) (omega arith) (omega arith))
    where
      rest : List ℕ
      rest = passing (λ i. eqb (row_name img tab i) x) (range_with_len (j + 1) c)

      next-is : row_name img tab j ≡ x → get_or index (names img + j) 0 ≡ first_from img tab c (j + 1) x
      next-is e =
          let n = few in
          let d : Y - (j + 1) ≡ c = omega arith in
          begin-next img tab index begins j (omega arith) ∙ ap₂ (λ k y. first_from img tab k (j + 1) y) d e

      go : (b : Bool) → eqb (row_name img tab j) x ≡ b → follow img index f (first_from img tab c (j + 1) x) ≡ rest → follow img index (suc f) (first_from img tab c (j + 1) x) ≡ rest
          → follow img index (suc f) (elim b as (λ _. ℕ) [ true ↦ j | false ↦ first_from img tab c (j + 1) x ]) ≡ elim b [ true ↦ j ∷ rest | false ↦ rest ]
      go true e h k =
          step f j (let n = few in let m = small in omega arith)
          ∙ ap (λ (l : List ℕ). j ∷ l) (ap (follow img index f) (next-is (eqb-true (row_name img tab j) x e)) ∙ h)
      go false e h k = k

  -- the chain of a name is the rows with that name, in insertion order
  pub chain-is : (x : ℕ) → x < names img → chain img index x ≡ rows_named img tab x
  chain-is x l = ap (follow img index (nodes img)) (begin-first img tab index begins x l) ∙ follows Y 0 x (nodes img) (zero-add Y) few

  -- each row stands once in the chain of its name, and in no other
  pub own-chain : (y : ℕ) → y < Y → (row_name img tab y < names img) × (times y (chain img index (row_name img tab y)) ≡ 1)
  own-chain y l =
      let b = row-name img tab accepted sound y l in
      (b, ap (times y) (chain-is (row_name img tab y) b) ∙ once-in _ y Y 0 (omega arith) (omega arith) (eq-eqb _ _ refl))

  pub other-chain : (x y : ℕ) → x < names img → row_name img tab y ≢ x → times y (chain img index x) ≡ 0
  other-chain x y l n = ap (times y) (chain-is x l) ∙ off _ y Y 0 (ne_eqb _ _ n)

  -- nothing else stands in a chain
  pub only-rows : (x y : ℕ) → x < names img → Y ≤ y → times y (chain img index x) ≡ 0
  only-rows x y l h = ap (times y) (chain-is x l) ∙ out-of _ y Y 0 (inr (omega arith))

  -- earlier rows stand before later ones
  pub chain-rises : (x : ℕ) → x < names img → Rising (chain img index x)
  chain-rises x l = subst Rising (sym (chain-is x l)) (rising _ Y 0)

-- what the call that makes the index leaves --------------------------------------------------------------------------------
module _ (img tab lent : List ℕ) where
  abbrev made : List ℕ
  made = index_words img tab ++ drop (index_length img) lent

  made-begins : take (index_length img) made ≡ index_words img tab
  made-begins = take_at (index_words img tab) (drop (index_length img) lent) (index_length img) (index-long img tab)

  made-long : index_length img ≤ length lent → length made ≡ length lent
  made-long h =
      let a = index-long img tab in
      let b = length-append (index_words img tab) (drop (index_length img) lent) in
      let c = length-drop (index_length img) lent in
      omega arith

  pub index-left : IndexLeft img tab lent (index_call img tab lent).answer (index_call img tab lent).index
  index-left = go (makes img tab lent)
    where
      go : {o : Outcome} → Makes img tab lent o → IndexLeft img tab lent o.answer o.index
      go (fills e) =
          record {
            untouched = λ h. absurd h;
            long = made-long (index-passed img tab lent (sym e)).2;
            past = drop_at (index_words img tab) (drop (index_length img) lent) (index_length img) (index-long img tab);
            unused = λ h y l m. begin-next img tab made made-begins y m ∙ first_none img tab (symbols_in img tab - (y + 1)) (y + 1) (row_name img tab y) (omega arith);
          }
      go (keeps r e) = record { untouched = λ h. refl; long = refl; past = refl; unused = λ h. absurd h }

  -- it begins with the index
  pub made-index : test_index img tab lent ≡ 0 → take (index_length img) (index_call img tab lent).index ≡ index_words img tab
  made-index e = go (makes img tab lent)
    where
      go : {o : Outcome} → Makes img tab lent o → take (index_length img) o.index ≡ index_words img tab
      go (fills q) = made-begins
      go (keeps r q) = absurd (let z = sym e ∙ q in omega arith)

-- lookup through words is Lookup, or 18 ------------------------------------------------------------------------------------
module _ (img tab index : List ℕ) (s : ℕ) (bs : List ℕ) where
  -- what Lookup refuses it refuses, whatever the words are
  pub refused-alike : (r : ℕ) → test_lookup img tab s ≡ suc r → indexed_call img tab index s bs ≡ lookup_call img tab s bs
  refused-alike r q =
      let some : suc r ≡ 0 → ⊥ = λ z. omega arith in
      sym (indexed-call-refused img tab index s bs (suc r) (indexed-refused img tab index s (suc r) (sym q) some) some) ∙ call-refused img tab s bs (suc r) (sym q) some

  -- through words that begin with the index it is Lookup, of every sound table
  pub indexed-looked : index_length img ≤ length index → take (index_length img) index ≡ index_words img tab → indexed_call img tab index s bs ≡ lookup_call img tab s bs
  indexed-looked long e = go (test_lookup img tab s) refl
    where
      same-words : true ≡ same (take (index_length img) index) (index_words img tab)
      same-words = sym (ap (λ (ws : List ℕ). same ws (index_words img tab)) e ∙ same_self (index_words img tab))

      go : (r : ℕ) → test_lookup img tab s ≡ r → indexed_call img tab index s bs ≡ lookup_call img tab s bs
      go zero q = sym (indexed-call-looked img tab index s bs (indexed-own img tab index s (sym q) long true same-words refl))
      go (suc r) q = refused-alike r q

  -- through others it is 18
  pub indexed-other : test_lookup img tab s ≡ 0 → take (index_length img) index ≢ index_words img tab → indexed_call img tab index s bs ≡ refused 18
  indexed-other q n = sym (indexed-call-refused img tab index s bs 18 (eighteen (dec_lt (length index) (index_length img)) (same (take (index_length img) index) (index_words img tab)) refl) (λ z. omega arith))
    where
      eighteen : Dec (length index < index_length img) → (b : Bool) → same (take (index_length img) index) (index_words img tab) ≡ b → 18 ≡ test_indexed img tab index s
      eighteen (yes l) b e = indexed-short img tab index s (sym q) l
      eighteen (no l) true e = absurd (n (same_true _ _ e))
      eighteen (no l) false e = other-words img tab index s (sym q) (omega arith) false (sym e) refl

-- so through what the call leaves that makes the index, whatever words it was lent, every lookup is Lookup
pub index-agrees : (img tab lent : List ℕ) → test_index img tab lent ≡ 0 → (s : ℕ) (bs : List ℕ) → indexed_call img tab (index_call img tab lent).index s bs ≡ lookup_call img tab s bs
index-agrees img tab lent e s bs =
    let long = (index-left img tab lent).long in
    let room = (index-passed img tab lent (sym e)).2 in
    indexed-looked img tab (index_call img tab lent).index s bs (omega arith) (made-index img tab lent e)
