-- The words of an environment, one array after another, the notes as their entries and their exits: what stands in them, and what
-- is stored there.
use mathlib.Core.Path.{◌≡◌, ap, sym, ◌∙◌}
use mathlib.Core.List.{List, ◌++◌, map}
use Prim.Native.Nat.{ℕ, ◌+◌, ◌-◌, ◌<◌}
use native.Mathlib.Omega.{arith}
use lib.ListN.{length, get_or, set, length-set}
use Rattle.std.proofs.lemmas.List.{get_or_default, length-map, map-set, get_or-map, set-append_left, set-append_right, get_or_append_left, get_or-append_right}
use Rattle.environment.specs.Layout.{names_most, nodes_most, hidden_place, entry_note, exit_note, standing, hidden, noted_entry, noted_exit, bound, noted}
use Rattle.environment.specs.declared.Environment.TheInside.{Inside}
use Rattle.environment.specs.declared.Note.{Note}

-- stored in the second of two parts
set_past : (xs ys : List ℕ) (n i v : ℕ) → length xs ≡ n → set (xs ++ ys) (n + i) v ≡ xs ++ set ys i v
set_past xs ys n i v l = set-append_right xs ys n (n + i) v l (omega arith) ∙ ap (λ (j : ℕ). xs ++ set ys j v) (let e : n + i - n ≡ i = omega arith in e)

get_past : (xs ys : List ℕ) (n i : ℕ) → length xs ≡ n → get_or (xs ++ ys) (n + i) 0 ≡ get_or ys i 0
get_past xs ys n i l = get_or-append_right xs ys n (n + i) 0 l (omega arith) ∙ ap (λ (j : ℕ). get_or ys j 0) (let e : n + i - n ≡ i = omega arith in e)

module _ (e : Inside) (sizes : (length e.names ≡ names_most) × (length e.hidden ≡ nodes_most) × (length e.notes ≡ nodes_most)) where
  abbrev entries : List ℕ
  entries = map (λ (n : Note). n.entry) e.notes

  abbrev exits : List ℕ
  exits = map (λ (n : Note). n.exit) e.notes

  abbrev notes : List ℕ
  notes = entries ++ exits

  entries-long : length entries ≡ nodes_most
  entries-long = length-map e.notes (λ (n : Note). n.entry) ∙ sizes.2

  abbrev pub all : List ℕ
  all = e.names ++ (e.hidden ++ notes)

  -- the word of a name, and what a row hides
  pub name_read : (x d : ℕ) → x < names_most → standing all x ≡ get_or e.names x d
  name_read x d l = let z = sizes.0 in get_or_append_left e.names (e.hidden ++ notes) 0 x (omega arith) ∙ get_or_default e.names x 0 d (omega arith)

  pub hidden_read : (j d : ℕ) → j < nodes_most → hidden all j ≡ get_or e.hidden j d
  hidden_read j d l =
      let z = sizes.1 in
      get_past e.names (e.hidden ++ notes) names_most j sizes.0
      ∙ get_or_append_left e.hidden notes 0 j (omega arith)
      ∙ get_or_default e.hidden j 0 d (omega arith)

  -- the words noted for a node
  entry_read : (n : ℕ) → n < nodes_most → noted_entry all n ≡ get_or entries n 0
  entry_read n l =
      let z = entries-long in
      ap (λ (i : ℕ). get_or all i 0) (let q : entry_note n ≡ names_most + (nodes_most + n) = omega arith in q)
      ∙ get_past e.names (e.hidden ++ notes) names_most (nodes_most + n) sizes.0
      ∙ get_past e.hidden notes nodes_most n sizes.1
      ∙ get_or_append_left entries exits 0 n (omega arith)

  exit_read : (n : ℕ) → noted_exit all n ≡ get_or exits n 0
  exit_read n =
      ap (λ (i : ℕ). get_or all i 0) (let q : exit_note n ≡ names_most + (nodes_most + (nodes_most + n)) = omega arith in q)
      ∙ get_past e.names (e.hidden ++ notes) names_most (nodes_most + (nodes_most + n)) sizes.0
      ∙ get_past e.hidden notes nodes_most (nodes_most + n) sizes.1
      ∙ get_past entries exits nodes_most n entries-long

  -- a word stored in one of the arrays
  pub name_stored : (hs : List ℕ) (x v : ℕ) → x < names_most → set (e.names ++ (hs ++ notes)) x v ≡ set e.names x v ++ (hs ++ notes)
  name_stored hs x v l = let z = sizes.0 in set-append_left e.names (hs ++ notes) x v (omega arith)

  hidden_stored : (j v : ℕ) → j < nodes_most → set all (hidden_place j) v ≡ e.names ++ (set e.hidden j v ++ notes)
  hidden_stored j v l =
      let z = sizes.1 in
      set_past e.names (e.hidden ++ notes) names_most j v sizes.0
      ∙ ap (λ (r : List ℕ). e.names ++ r) (set-append_left e.hidden notes j v (omega arith))

  entry_stored : (n v : ℕ) → n < nodes_most → set all (entry_note n) v ≡ e.names ++ (e.hidden ++ (set entries n v ++ exits))
  entry_stored n v l =
      let z = entries-long in
      ap (λ (i : ℕ). set all i v) (let q : entry_note n ≡ names_most + (nodes_most + n) = omega arith in q)
      ∙ set_past e.names (e.hidden ++ notes) names_most (nodes_most + n) v sizes.0
      ∙ ap (λ (r : List ℕ). e.names ++ r) (set_past e.hidden notes nodes_most n v sizes.1 ∙ ap (λ (r : List ℕ). e.hidden ++ r) (set-append_left entries exits n v (omega arith)))

  exit_stored : (es : List ℕ) (n v : ℕ) → length es ≡ nodes_most → set (e.names ++ (e.hidden ++ (es ++ exits))) (exit_note n) v ≡ e.names ++ (e.hidden ++ (es ++ set exits n v))
  exit_stored es n v l =
      ap (λ (i : ℕ). set (e.names ++ (e.hidden ++ (es ++ exits))) i v) (let q : exit_note n ≡ names_most + (nodes_most + (nodes_most + n)) = omega arith in q)
      ∙ set_past e.names (e.hidden ++ (es ++ exits)) names_most (nodes_most + (nodes_most + n)) v sizes.0
      ∙ ap (λ (r : List ℕ). e.names ++ r) (set_past e.hidden (es ++ exits) nodes_most (nodes_most + n) v sizes.1 ∙ ap (λ (r : List ℕ). e.hidden ++ r) (set_past es exits nodes_most n v l))

  -- the methods' steps, on the words as they were seen
  module _ (env : List ℕ) (seen : all ≡ env) where
    pub bound-is : (x j d : ℕ) → x < names_most → j < nodes_most → set e.names x (j + 1) ++ (set e.hidden j (get_or e.names x d) ++ notes) ≡ bound env x j
    unfolding bound
    bound-is x j d l m =
        sym
        (ap (λ (r : List ℕ). bound r x j) (sym seen)
        ∙ ap (λ (v : ℕ). set (set all (hidden_place j) v) x (j + 1)) (name_read x d l)
        ∙ ap (λ (r : List ℕ). set r x (j + 1)) (hidden_stored j (get_or e.names x d) m)
        ∙ name_stored (set e.hidden j (get_or e.names x d)) x (j + 1) l)

    stored-is : (n v w : ℕ) → n < nodes_most → e.names ++ (e.hidden ++ (set entries n v ++ set exits n w)) ≡ noted env n v w
    unfolding noted
    stored-is n v w l =
        sym
        (ap (λ (r : List ℕ). noted r n v w) (sym seen)
        ∙ ap (λ (r : List ℕ). set r (exit_note n) w) (entry_stored n v l)
        ∙ exit_stored (set entries n v) n w (length-set entries n v ∙ entries-long))

    pub noted-is : (n : ℕ) (m : Note) → n < nodes_most → e.names ++ (e.hidden ++ (map (λ (i : Note). i.entry) (set e.notes n m) ++ map (λ (i : Note). i.exit) (set e.notes n m))) ≡ noted env n m.entry m.exit
    noted-is n m l = rw (map-set (λ (i : Note). i.entry) e.notes n m, map-set (λ (i : Note). i.exit) e.notes n m) (stored-is n m.entry m.exit l)

    -- what was noted is read
    pub entry-is : (n : ℕ) (d : Note) → n < nodes_most → (get_or e.notes n d).entry ≡ noted_entry env n
    entry-is n d l =
        let z = sizes.2 in
        sym (ap (λ (r : List ℕ). noted_entry r n) (sym seen) ∙ entry_read n l ∙ get_or-map (λ (i : Note). i.entry) e.notes n d 0 (omega arith))

    pub exit-is : (n : ℕ) (d : Note) → n < nodes_most → (get_or e.notes n d).exit ≡ noted_exit env n
    exit-is n d l =
        let z = sizes.2 in
        sym (ap (λ (r : List ℕ). noted_exit r n) (sym seen) ∙ exit_read n ∙ get_or-map (λ (i : Note). i.exit) e.notes n d 0 (omega arith))

    pub restored-is : (x j d : ℕ) → x < names_most → j < nodes_most → set e.names x (get_or e.hidden j d) ++ (e.hidden ++ notes) ≡ set env x (hidden env j)
    restored-is x j d l m =
        sym
        (ap (λ (r : List ℕ). set r x (hidden r j)) (sym seen)
        ∙ ap (λ (v : ℕ). set all x v) (hidden_read j d m)
        ∙ name_stored e.hidden x (get_or e.hidden j d) l)
