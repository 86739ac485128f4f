-- The fields of a row by its shape: words, a list, or a word and a list. What the typed reads of rows promise: predicates,
-- since they are of the image and the node too.
use Rattle.std.specs.Prelude.{◌≡◌, List, ℕ, ◌+◌}
use Rattle.ast.specs.Image.{field}
use Rattle.typed.specs.declared.nodes.NodeList.{NodeList}

module _ (img : List ℕ) (n : ℕ) where
  -- the words of the fields of n, where each is one word: one, two, three; an enum's row is its case number and its child
  abbrev pub One : ℕ → Type 0
  One a = a ≡ field img n 0

  pub record Two (a b : ℕ) : Type 0 where
    pub first : a ≡ field img n 0
    pub second : b ≡ field img n 1

  pub record Three (a b c : ℕ) : Type 0 where
    pub first : a ≡ field img n 0
    pub second : b ≡ field img n 1
    pub third : c ≡ field img n 2

  -- a list whose count is the j-th word, its first item the next
  pub record Listed (j : ℕ) (l : NodeList) : Type 0 where
    pub node : l.node.0 ≡ n
    pub count : l.count ≡ field img n j
    pub first : l.first ≡ j + 1

  -- a word, then a list
  pub record WordList (a : ℕ) (l : NodeList) : Type 0 where
    pub first : a ≡ field img n 0
    pub list : Listed 1 l
