-- The arrays of an environment back from all its words.
use mathlib.Core.Path.{◌≡◌, refl, ap, ap₂, sym, ◌∙◌}
use mathlib.Core.List.{List, ◌++◌, map, append_assoc}
use Prim.Native.Nat.{ℕ, ◌+◌}
use lib.ListN.{length, take, drop, length-append}
use lib.Seq.{take-append_seam, drop-append_seam}
use Rattle.std.specs.Simd.Lanes.{zip2}
use Rattle.std.proofs.lemmas.List.{length-map, map-id}
use Rattle.std.proofs.lemmas.Simd.{zip2-map}
use Rattle.environment.specs.Layout.{names_most, nodes_most}
use Rattle.environment.specs.declared.Note.{Note}

-- what was noted for a node, of its two words
abbrev pub note : ℕ → ℕ → Note
note a b = record { entry = a; exit = b }

-- the first of two parts, and the second
front_is : (n : ℕ) (xs ys : List ℕ) → length xs ≡ n → take n (xs ++ ys) ≡ xs
front_is n xs ys l = ap (λ (k : ℕ). take k (xs ++ ys)) (sym l) ∙ take-append_seam xs ys

rest_is : (n : ℕ) (xs ys : List ℕ) → length xs ≡ n → drop n (xs ++ ys) ≡ ys
rest_is n xs ys l = ap (λ (k : ℕ). drop k (xs ++ ys)) (sym l) ∙ drop-append_seam xs ys

-- the rest after two parts, and after three
rest-two : (m n k : ℕ) (xs ys zs : List ℕ) → length xs ≡ m → length ys ≡ n → k ≡ m + n → drop k (xs ++ (ys ++ zs)) ≡ zs
rest-two m n k xs ys zs p q e =
    ap (λ (l : List ℕ). drop k l) (sym (append_assoc xs ys zs))
    ∙ rest_is k (xs ++ ys) zs (length-append xs ys ∙ ap₂ (λ (a b : ℕ). a + b) p q ∙ sym e)

module _ (names hidden : List ℕ) (notes : List Note) where
  abbrev entries : List ℕ
  entries = map (λ (n : Note). n.entry) notes

  abbrev exits : List ℕ
  exits = map (λ (n : Note). n.exit) notes

  abbrev all : List ℕ
  all = names ++ (hidden ++ (map (λ (n : Note). n.entry) notes ++ map (λ (n : Note). n.exit) notes))

  pub first_back : length names ≡ names_most → take 1024 all ≡ names
  first_back l = front_is 1024 names _ l

  pub second_back : length names ≡ names_most → length hidden ≡ nodes_most → take 2048 (drop 1024 all) ≡ hidden
  second_back l h = ap (λ (xs : List ℕ). take 2048 xs) (rest_is 1024 names _ l) ∙ front_is 2048 hidden _ h

  pub notes_back : length names ≡ names_most → length hidden ≡ nodes_most → length notes ≡ nodes_most
      → zip2 (λ (a b : ℕ). note a b) (take 2048 (drop 3072 all)) (drop 5120 all) ≡ notes
  notes_back l h k =
      ap₂ (λ (xs ys : List ℕ). zip2 (λ (a b : ℕ). note a b) xs ys)
      (ap (λ (xs : List ℕ). take 2048 xs) (rest-two 1024 2048 3072 names hidden _ l h refl) ∙ front_is 2048 entries exits long)
      (ap (λ (xs : List ℕ). drop 5120 xs) (sym (append_assoc names hidden _))
      ∙ rest-two 3072 2048 5120 (names ++ hidden) entries exits (length-append names hidden ∙ ap₂ (λ (a b : ℕ). a + b) l h) long refl)
      ∙ zip2-map (λ (a b : ℕ). note a b) (λ (n : Note). n.entry) (λ (n : Note). n.exit) notes
      ∙ map-id notes
    where
      long : length entries ≡ 2048
      long = length-map notes (λ (n : Note). n.entry) ∙ k
