-- Words stored into bytes: what stands where a word is stored, and that nothing else alters.
use mathlib.Core.Path.{◌≡◌, refl, sym, ap, ◌∙◌, subst}
use mathlib.Core.Logic.{◌⊎◌, inl, inr}
use mathlib.Core.List.{List, [], ◌∷◌}
use Prim.Native.Nat.{ℕ, zero, suc, ◌+◌, ◌/◌, ◌%◌, ◌-◌, ◌^◌, ◌<◌, ◌≤◌}
use native.Mathlib.Decide.{ℕ_discrete, dec_lt}
use native.Mathlib.Nat.{add-zero}
use native.Mathlib.Omega.{arith}
use lib.ListN.{length, get_or, set, drop, length-set}
use lib.Seq.{get_or-set_same, get_or-set_other, drop-set-lt, set_out, ext_get_or}
use Rattle.ast.specs.Image.{word}
use Rattle.ast.proofs.Words.{word_in, word_out}
use Rattle.sight.specs.Sight.{In}
use Rattle.renaming.specs.Bytes.{Bytes}
use Rattle.rename.specs.Rename.{set_word, set_words}

-- the bytes of a word
unfoldable pub byte_of : ℕ → ℕ → ℕ
byte_of x zero = x % 256
byte_of x (suc zero) = x / 256 % 256
byte_of x (suc (suc zero)) = x / 65536 % 256
byte_of x (suc (suc (suc j))) = x / 16777216

-- whether x is among xs
pub member : (x : ℕ) (xs : List ℕ) → Dec (In x xs)
member x [] = no (λ i. i)
member x (y ∷ ys) = go (ℕ_discrete x y) (member x ys)
  where
    go : Dec (x ≡ y) → Dec (In x ys) → Dec (In x (y ∷ ys))
    go (yes e) d = yes (inl e)
    go (no f) (yes i) = yes (inr i)
    go (no f) (no g) = no (λ h. elim h [ inl e ↦ f e | inr i ↦ g i ])

-- k lies outside the word at o
abbrev pub Apart : ℕ → ℕ → Type 0
Apart o k = (j : ℕ) → j < 4 → k ≡ o + j → ⊥

module _ (img : List ℕ) (o x : ℕ) where
  abbrev one : List ℕ
  one = set img o (x % 256)

  abbrev two : List ℕ
  two = set one (o + 1) (x / 256 % 256)

  abbrev three : List ℕ
  three = set two (o + 2) (x / 65536 % 256)

  -- a word stored: the length, the bytes outside it, and the bytes of it
  pub store-length : length (set_word img o x) ≡ length img
  unfolding set_word
  store-length = simp length-set

  pub store-other : (k : ℕ) → Apart o k → get_or (set_word img o x) k 0 ≡ get_or img k 0
  unfolding set_word
  store-other k h =
      get_or-set_other three (o + 3) k (x / 16777216) 0 (h 3 (omega arith)) ∙ get_or-set_other two (o + 2) k (x / 65536 % 256) 0 (h 2 (omega arith))
      ∙ get_or-set_other one (o + 1) k (x / 256 % 256) 0 (h 1 (omega arith)) ∙ get_or-set_other img o k (x % 256) 0 (λ e. h 0 (omega arith) (omega arith))

  store-drop : (k : ℕ) → o + 4 ≤ k → drop k (set_word img o x) ≡ drop k img
  unfolding set_word
  store-drop k h =
      drop-set-lt k three (o + 3) (x / 16777216) (omega arith) ∙ drop-set-lt k two (o + 2) (x / 65536 % 256) (omega arith)
      ∙ drop-set-lt k one (o + 1) (x / 256 % 256) (omega arith) ∙ drop-set-lt k img o (x % 256) (omega arith)

  module _ (fits : o + 4 ≤ length img) where
    pub store-at : (j : ℕ) → j < 4 → get_or (set_word img o x) (o + j) 0 ≡ byte_of x j
    unfolding set_word byte_of
    store-at zero h =
        rw add-zero (get_or-set_other three (o + 3) o (x / 16777216) 0 (omega arith) ∙ get_or-set_other two (o + 2) o (x / 65536 % 256) 0 (omega arith)
        ∙ get_or-set_other one (o + 1) o (x / 256 % 256) 0 (omega arith) ∙ get_or-set_same img o (x % 256) 0 (omega arith))
    store-at (suc zero) h =
        get_or-set_other three (o + 3) (o + 1) (x / 16777216) 0 (omega arith) ∙ get_or-set_other two (o + 2) (o + 1) (x / 65536 % 256) 0 (omega arith)
        ∙ get_or-set_same one (o + 1) (x / 256 % 256) 0 (simp length-set (omega arith))
    store-at (suc (suc zero)) h =
        get_or-set_other three (o + 3) (o + 2) (x / 16777216) 0 (omega arith) ∙ get_or-set_same two (o + 2) (x / 65536 % 256) 0 (simp length-set (omega arith))
    store-at (suc (suc (suc zero))) h = get_or-set_same three (o + 3) (x / 16777216) 0 (simp length-set (omega arith))
    store-at (suc (suc (suc (suc j)))) h = absurd (omega arith)

-- words stored at some offsets: all lie in the image, and two that are not the same lie apart
pub record Spaced (img os : List ℕ) : Type 0 where
  pub fits : (o : ℕ) → In o os → o + 4 ≤ length img
  pub apart : (o q : ℕ) → In o os → In q os → (o ≡ q) ⊎ ((o + 4 ≤ q) ⊎ (q + 4 ≤ o))

-- k lies outside all of them
abbrev pub Outside : List ℕ → ℕ → Type 0
Outside os k = (o : ℕ) → In o os → Apart o k

module _ (x : ℕ) where
  -- words stored one after another: the length, and the bytes outside all of them
  pub stores-length : (os img : List ℕ) → length (set_words os x img) ≡ length img
  unfolding set_words
  stores-length [] img = refl
  stores-length (o ∷ os) img = stores-length os (set_word img o x) ∙ store-length img o x

  pub stores-other : (os img : List ℕ) (k : ℕ) → Outside os k → get_or (set_words os x img) k 0 ≡ get_or img k 0
  unfolding set_words
  stores-other [] img k h = refl
  stores-other (o ∷ os) img k h = stores-other os (set_word img o x) k (λ q i. h q (inr i)) ∙ store-other img o x k (h o (inl refl))

  -- all of them lie before k
  pub stores-drop : (os img : List ℕ) (k : ℕ) → ((o : ℕ) → In o os → o + 4 ≤ k) → drop k (set_words os x img) ≡ drop k img
  unfolding set_words
  stores-drop [] img k h = refl
  stores-drop (o ∷ os) img k h = stores-drop os (set_word img o x) k (λ q i. h q (inr i)) ∙ store-drop img o x k (h o (inl refl))

  -- the last store of a byte counts, and they are all the same
  stores-at : (os img : List ℕ) → Spaced img os → (o : ℕ) → In o os → (j : ℕ) → j < 4 → get_or (set_words os x img) (o + j) 0 ≡ byte_of x j
  unfolding set_words
  stores-at [] img s o i j l = absurd i
  stores-at (q ∷ os) img s o i j l = go (member o os) i (stores-at os (set_word img q x) rest o)
    where
      rest : Spaced (set_word img q x) os
      rest = record { fits = λ r k. rw (store-length img q x) (s.fits r (inr k)); apart = λ r p k m. s.apart r p (inr k) (inr m) }

      far : (r : ℕ) → (o ≡ r → ⊥) → (o ≡ r) ⊎ ((o + 4 ≤ r) ⊎ (r + 4 ≤ o)) → Apart r (o + j)
      far r h (inl e) m k z = h e
      far r h (inr (inl e)) m k z = omega arith
      far r h (inr (inr e)) m k z = omega arith

      go : Dec (In o os) → In o (q ∷ os) → (In o os → (j : ℕ) → j < 4 → get_or (set_words os x (set_word img q x)) (o + j) 0 ≡ byte_of x j)
          → get_or (set_words os x (set_word img q x)) (o + j) 0 ≡ byte_of x j
      go (yes k) i f = f k j l
      go (no h) (inr k) f = absurd (h k)
      go (no h) (inl e) f =
          stores-other os (set_word img q x) (o + j) (λ r k. far r (λ z. h (subst (λ y. In y os) (sym z) k)) (s.apart o r i (inr k)))
          ∙ (rw e (store-at img q x (s.fits q (inl refl)) j l))

  -- the word at o lies outside all of them
  abbrev pub Clear : List ℕ → ℕ → Type 0
  Clear os o = (q : ℕ) → In q os → (o + 4 ≤ q) ⊎ (q + 4 ≤ o)

  clear-out : (os : List ℕ) (o : ℕ) → Clear os o → (j : ℕ) → j < 4 → Outside os (o + j)
  clear-out os o h j l q i = go (h q i)
    where
      go : (o + 4 ≤ q) ⊎ (q + 4 ≤ o) → Apart q (o + j)
      go (inl e) m k z = omega arith
      go (inr e) m k z = omega arith

  -- a word outside all of them is as it was
  pub words-other : (os img : List ℕ) (o : ℕ) → Clear os o → word (set_words os x img) o ≡ word img o
  words-other os img o h = go (dec_lt (length img) (o + 4))
    where
      byte-is : (k : ℕ) → Outside os k → get_or (set_words os x img) k 0 ≡ get_or img k 0
      byte-is k f = stores-other os img k f

      go : Dec (length img < o + 4) → word (set_words os x img) o ≡ word img o
      go (yes l) = word_out _ o (rw (stores-length os img) l) ∙ sym (word_out img o l)
      go (no l) =
          let s = stores-length os img in
          let a = word_in img o (omega arith) in
          let b = word_in (set_words os x img) o (omega arith) in
          let c₀ = byte-is o (rw add-zero at (clear-out os o h 0 (omega arith))) in
          let c₁ = byte-is (o + 1) (clear-out os o h 1 (omega arith)) in
          let c₂ = byte-is (o + 2) (clear-out os o h 2 (omega arith)) in
          let c₃ = byte-is (o + 3) (clear-out os o h 3 (omega arith)) in
          omega arith

  -- a word that was stored is read back
  pub words-at : (os img : List ℕ) → Spaced img os → (o : ℕ) → In o os → word (set_words os x img) o ≡ x
  unfolding byte_of
  words-at os img s o i =
      let l = stores-length os img in
      let f = s.fits o i in
      let b = word_in (set_words os x img) o (omega arith) in
      let c₀ : get_or (set_words os x img) o 0 ≡ x % 256 = rw add-zero at (stores-at os img s o i 0 (omega arith)) in
      let c₁ : get_or (set_words os x img) (o + 1) 0 ≡ x / 256 % 256 = stores-at os img s o i 1 (omega arith) in
      let c₂ : get_or (set_words os x img) (o + 2) 0 ≡ x / 65536 % 256 = stores-at os img s o i 2 (omega arith) in
      let c₃ : get_or (set_words os x img) (o + 3) 0 ≡ x / 16777216 = stores-at os img s o i 3 (omega arith) in
      omega arith

-- the bytes of a word, read back
word-bytes : (img : List ℕ) → Bytes img → (o : ℕ) → o + 4 ≤ length img → (j : ℕ) → j < 4 → byte_of (word img o) j ≡ get_or img (o + j) 0
unfolding byte_of
word-bytes img b o f zero l = let w = word_in img o f in let b₀ = b o in let b₁ = b (o + 1) in let b₂ = b (o + 2) in rw add-zero (omega arith)
word-bytes img b o f (suc zero) l = let w = word_in img o f in let b₀ = b o in let b₁ = b (o + 1) in let b₂ = b (o + 2) in omega arith
word-bytes img b o f (suc (suc zero)) l = let w = word_in img o f in let b₀ = b o in let b₁ = b (o + 1) in let b₂ = b (o + 2) in omega arith
word-bytes img b o f (suc (suc (suc zero))) l = let w = word_in img o f in let b₀ = b o in let b₁ = b (o + 1) in let b₂ = b (o + 2) in omega arith
word-bytes img b o f (suc (suc (suc (suc j)))) l = absurd (omega arith)

-- a byte lies in one of the words, or outside all
sought : (os : List ℕ) (k : ℕ) → ((o : ℕ) × In o os × ((j : ℕ) × (j < 4) × (k ≡ o + j))) ⊎ Outside os k
sought [] k = inr (λ o i. absurd i)
sought (o ∷ os) k = go (dec_lt k o) (dec_lt k (o + 4)) (sought os k)
  where
    rest : ((q : ℕ) × In q os × ((j : ℕ) × (j < 4) × (k ≡ q + j))) ⊎ Outside os k → Apart o k
        → ((q : ℕ) × In q (o ∷ os) × ((j : ℕ) × (j < 4) × (k ≡ q + j))) ⊎ Outside (o ∷ os) k
    rest (inl h) a = inl (h.0, inr h.1, h.2)
    rest (inr h) a = inr (λ q i. elim i [ inl e ↦ subst (λ y. Apart y k) (sym e) a | inr m ↦ h q m ])

    go : Dec (k < o) → Dec (k < o + 4) → ((q : ℕ) × In q os × ((j : ℕ) × (j < 4) × (k ≡ q + j))) ⊎ Outside os k
        → ((q : ℕ) × In q (o ∷ os) × ((j : ℕ) × (j < 4) × (k ≡ q + j))) ⊎ Outside (o ∷ os) k
    go (yes l) d r = rest r (λ j m e. omega arith)
    go (no l) (yes d) r = inl (o, inl refl, (k - o, omega arith, omega arith))
    go (no l) (no d) r = rest r (λ j m e. omega arith)

-- the words that img has at some places, stored into bytes that are its own everywhere else
pub stores-onto : (os img old : List ℕ) (y : ℕ) → Spaced img os → Bytes img → ((o : ℕ) → In o os → word img o ≡ y)
    → length old ≡ length img → ((k : ℕ) → Outside os k → get_or old k 0 ≡ get_or img k 0) → set_words os y old ≡ img
stores-onto os img old y s b h long other = ext_get_or 0 _ _ (stores-length y os old ∙ long) (λ k l. go k (sought os k))
  where
    spaced : Spaced old os
    spaced = record { fits = λ o i. rw long (s.fits o i); apart = s.apart }

    go : (k : ℕ) → ((o : ℕ) × In o os × ((j : ℕ) × (j < 4) × (k ≡ o + j))) ⊎ Outside os k → get_or (set_words os y old) k 0 ≡ get_or img k 0
    go k (inr f) = stores-other y os old k f ∙ other k f
    go k (inl (o, i, (j, l, e))) = rw e (stores-at y os old spaced o i j l ∙ ap (λ z. byte_of z j) (sym (h o i)) ∙ word-bytes img b o (s.fits o i) j l)

-- bytes stay bytes
set-bytes : (l : List ℕ) (j a : ℕ) → a < 256 → Bytes l → Bytes (set l j a)
set-bytes l j a h b k = go (ℕ_discrete k j) (dec_lt j (length l))
  where
    go : Dec (k ≡ j) → Dec (j < length l) → get_or (set l j a) k 0 < 256
    go (no z) d = rw (get_or-set_other l j k a 0 z) (b k)
    go (yes e) (yes d) = rw (e, get_or-set_same l j a 0 d) h
    go (yes e) (no d) = rw (set_out l j a (omega arith)) (b k)

store-bytes : (img : List ℕ) (o x : ℕ) → x < 2 ^ 32 → Bytes img → Bytes (set_word img o x)
unfolding set_word
store-bytes img o x l b =
    set-bytes (three img o x) (o + 3) (x / 16777216) (omega arith) (set-bytes (two img o x) (o + 2) (x / 65536 % 256) (omega arith)
    (set-bytes (one img o x) (o + 1) (x / 256 % 256) (omega arith) (set-bytes img o (x % 256) (omega arith) b)))

-- so they do where words are stored
pub stores-bytes : (os img : List ℕ) (x : ℕ) → x < 2 ^ 32 → Bytes img → Bytes (set_words os x img)
unfolding set_words
stores-bytes [] img x l b = b
stores-bytes (o ∷ os) img x l b = stores-bytes os (set_word img o x) x l (store-bytes img o x l b)
