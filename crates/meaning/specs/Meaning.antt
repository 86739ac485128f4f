-- What names mean along a rule, by the tree alone, without scopes and tables: an environment says which node a name stands for.
-- A node is met in an environment and leaves one; a branch block and a match case leave the one that they found.
use Rattle.std.specs.Prelude.{Bool, ◌&&◌, ℕ, zero, suc, eqb}
use Rattle.std.proofs.Math.Bool.{true, false, not}
use mathlib.Core.List.{List, [], ◌∷◌, ◌++◌}
use Rattle.std.proofs.Math.Option.{Option, none as nothing, some}
use Rattle.ast.specs.Image.{kind_at, name_of}
use Rattle.ast.specs.Kinds.{outer, inner, plain, term, ident, head, head_member, member, case, if_var, defined_then, arg}
use Rattle.ast.specs.Rules.{Rule, module_rules}
use Rattle.ast.specs.Tree.{Tree, node, block, Trees, none, ◌◂◌}
use Rattle.error.specs.Kinds.{introduced_in_then, defined_not_new, pattern_not_fresh, asked}
use Rattle.rows.specs.Rows.{Row, row, when}

-- the node that each name stands for
abbrev pub Env : Type 0
Env = ℕ → Option ℕ

-- what an IdentTerm does at its place: an ordinary term, an if-var, a defined-then variable (with the environment before the
-- atom's term), or a name that introduces nothing: an app head's or a member's
pub data Part : Type 0 where
  occurs declares names : Part
  defines : Env → Part

-- the part of what stands below an app head of this shape
unfoldable pub head_part : List ℕ → Part
head_part [] = occurs
head_part (zero ∷ _) = names
head_part (suc c ∷ _) = occurs

-- the number of the first of some trees, and the trees below it
unfoldable pub subject : Trees → Option ℕ
subject none = nothing
subject (block ts ◂ us) = nothing
subject (node i k c sh ts ◂ us) = some i

unfoldable pub inside : Trees → Trees
inside none = none
inside (block ts ◂ us) = none
inside (node i k c sh ts ◂ us) = ts

-- the first is a node of kind k
unfoldable pub first_is : ℕ → Trees → Bool
first_is k none = false
first_is k (block ts ◂ us) = false
first_is k (node i l c sh ts ◂ us) = eqb l k

-- the IdentTerm of a Term or an AppHead of case Ident, by its shape and what stands below it
unfoldable pub ident_of : List ℕ → Trees → Option ℕ
unfolding subject
ident_of [] ts = nothing
ident_of (zero ∷ sh) ts = subject ts
ident_of (suc c ∷ sh) ts = nothing

-- the kinds of nodes
module _ (kind : ℕ → ℕ) where
  unfoldable pub is_a : ℕ → Option ℕ → Bool
  is_a k nothing = false
  is_a k (some n) = eqb (kind n) k

  -- a Var or a Const
  unfoldable pub is_value : Option ℕ → Bool
  unfolding is_a
  is_value o = elim (is_a 13 o) [ true ↦ true | false ↦ is_a 5 o ]

  -- the row of an occurrence: the Term or AppHead, and the Var that its name stands for
  unfoldable pub mark : ℕ → Option ℕ → List Row
  mark o nothing = []
  mark o (some i) = elim (eqb (kind i) 13) [ true ↦ row o i ∷ [] | false ↦ [] ]

-- the node n stands for its name from here on
unfoldable pub with : (ℕ → ℕ) → ℕ → Env → Env
with name n env x = elim (eqb (name n) x) [ true ↦ some n | false ↦ env x ]

-- the names and the kinds of nodes
module _ (name kind : ℕ → ℕ) where
  -- the IdentTerm introduces its name: an ident term unless the name stands for a Var or a Const, an if-var unless for a Var, a
  -- defined-then variable unless for a Var before the atom's term
  unfoldable pub introduces : Part → ℕ → Env → Bool
  unfolding is_a is_value
  introduces occurs i env = not (is_value kind (env (name i)))
  introduces declares i env = not (is_a kind 13 (env (name i)))
  introduces (defines before) i env = not (is_a kind 13 (before (name i)))
  introduces names i env = false

  unfoldable pub meet_ident : Part → ℕ → Env → Env
  unfolding introduces with
  meet_ident p i env = elim (introduces p i env) [ true ↦ with name i env | false ↦ env ]

  -- the environment that a tree leaves
  unfoldable mutual
    unfolding meet_ident head_part

    pub meet : Part → Tree → Env → Env
    meet p (block ts) env = env
    meet p (node n k (outer o) sh ts) env = env
    meet p (node n k (inner plain) sh ts) env = meet_seq occurs ts env
    meet p (node n k (inner term) sh ts) env = meet_seq p ts env
    meet p (node n k (inner ident) sh ts) env = meet_ident p n env
    meet p (node n k (inner head) sh ts) env = meet_seq (head_part sh) ts env
    meet p (node n k (inner member) sh ts) env = meet_then names ts env
    meet p (node n k (inner head_member) sh ts) env = meet_then names ts env
    meet p (node n k (inner case) sh ts) env = env
    meet p (node n k (inner if_var) sh ts) env = meet_then declares ts env
    meet p (node n k (inner defined_then) sh ts) env = meet_then (defines env) ts env
    meet p (node n k (inner arg) sh ts) env = env

    pub meet_seq : Part → Trees → Env → Env
    meet_seq p none env = env
    meet_seq p (u ◂ us) env = meet_seq p us (meet p u env)

    -- the first for itself, then the others in the given part
    pub meet_then : Part → Trees → Env → Env
    meet_then p none env = env
    meet_then p (u ◂ us) env = meet_seq p us (meet occurs u env)

  -- the variable occurrences of a tree with their bindings, in the list's order; `o` is the node above
  unfoldable mutual
    unfolding meet_seq mark head_part

    pub marks : Part → ℕ → Tree → Env → List Row
    marks p o (block ts) env = marks_seq occurs o ts env
    marks p o (node n k (outer c) sh ts) env = []
    marks p o (node n k (inner plain) sh ts) env = marks_seq occurs n ts env
    marks p o (node n k (inner term) sh ts) env = marks_seq p n ts env
    marks p o (node n k (inner ident) sh ts) env = mark kind o (meet_ident p n env (name n))
    marks p o (node n k (inner head) sh ts) env = marks_seq (head_part sh) n ts env
    marks p o (node n k (inner member) sh ts) env = marks_first n ts env
    marks p o (node n k (inner head_member) sh ts) env = marks_first n ts env
    marks p o (node n k (inner case) sh ts) env = marks_seq occurs n ts env
    marks p o (node n k (inner if_var) sh ts) env = marks_then declares n ts env
    marks p o (node n k (inner defined_then) sh ts) env = marks_back (defines env) n ts env
    marks p o (node n k (inner arg) sh ts) env = []

    pub marks_seq : Part → ℕ → Trees → Env → List Row
    marks_seq p o none env = []
    marks_seq p o (u ◂ us) env = marks p o u env ++ marks_seq p o us (meet p u env)

    pub marks_then : Part → ℕ → Trees → Env → List Row
    marks_then p o none env = []
    marks_then p o (u ◂ us) env = marks occurs o u env ++ marks_seq p o us (meet occurs u env)

    -- a defined-then's variable before its term
    pub marks_back : Part → ℕ → Trees → Env → List Row
    marks_back p o none env = []
    marks_back p o (u ◂ us) env = marks_seq p o us (meet occurs u env) ++ marks occurs o u env

    -- the first alone: member names are no occurrences
    pub marks_first : ℕ → Trees → Env → List Row
    marks_first o none env = []
    marks_first o (u ◂ us) env = marks occurs o u env

  -- the name of an IdentTerm, if there is one, stands for a node of kind k
  unfoldable pub stands_for : ℕ → Option ℕ → Env → Bool
  unfolding is_a
  stands_for k nothing env = false
  stands_for k (some i) env = is_a kind k (env (name i))

  -- row 2, at the variable of a defined-then: it is a Var before the atom
  unfoldable pub not_new : Tree → Env → List Row
  unfolding stands_for subject
  not_new (block ts) env = []
  not_new (node n k c sh ts) env = when (stands_for 13 (subject ts) env) (row defined_not_new n)

  unfoldable pub not_new_all : Trees → Env → List Row
  unfolding not_new
  not_new_all none env = []
  not_new_all (u ◂ us) env = not_new u env ++ not_new_all us env

  -- row 3, at an ident argument of a pattern: it is a Var where it is met
  unfoldable pub not_fresh : Tree → Env → List Row
  unfolding stands_for ident_of
  not_fresh (block ts) env = []
  not_fresh (node n k c sh ts) env = when (stands_for 13 (ident_of sh ts) env) (row pattern_not_fresh n)

  unfoldable pub not_fresh_all : Trees → Env → List Row
  unfolding not_fresh meet
  not_fresh_all none env = []
  not_fresh_all (u ◂ us) env = not_fresh u env ++ not_fresh_all us (meet occurs u env)

  -- the head of an application is an ident that stands for a Ctor
  unfoldable pub is_ctor_head : Tree → Env → Bool
  unfolding stands_for ident_of
  is_ctor_head (block ts) env = false
  is_ctor_head (node n k c sh ts) env = stands_for 9 (ident_of sh ts) env

  -- rows 3 of an application: its head, then its TermList
  unfoldable pub app_faults : Trees → Env → List Row
  unfolding is_ctor_head not_fresh_all inside
  app_faults none env = []
  app_faults (h ◂ us) env = elim (is_ctor_head h env) [ true ↦ not_fresh_all (inside us) env | false ↦ [] ]

  -- rows 3 of a match case, whose first child is the pattern: a Term of case App
  unfoldable pub pattern_faults : Trees → Env → List Row
  unfolding app_faults inside first_is
  pattern_faults ts env = elim (first_is 14 (inside ts)) [ true ↦ app_faults (inside (inside ts)) env | false ↦ [] ]

  -- rows 1, 2 and 3 of a tree, in check_bindings' order; whether rows 1 are asked for, and the node above
  unfoldable mutual
    unfolding asked introduces not_new_all pattern_faults head_part meet_seq when

    pub faults : Bool → Part → ℕ → Tree → Env → List Row
    faults a p o (block ts) env = faults_seq a occurs o ts env
    faults a p o (node n k (outer c) sh ts) env = []
    faults a p o (node n k (inner plain) sh ts) env = faults_seq (asked k a) occurs n ts env
    faults a p o (node n k (inner term) sh ts) env = faults_seq a p n ts env
    faults a p o (node n k (inner ident) sh ts) env = when (a && introduces p n env) (row introduced_in_then o)
    faults a p o (node n k (inner head) sh ts) env = faults_seq a (head_part sh) n ts env
    faults a p o (node n k (inner head_member) sh ts) env = faults_first a n ts env
    faults a p o (node n k (inner member) sh ts) env = faults_first a n ts env
    faults a p o (node n k (inner case) sh ts) env = pattern_faults ts env ++ faults_seq a occurs n ts env
    faults a p o (node n k (inner if_var) sh ts) env = []
    faults a p o (node n k (inner defined_then) sh ts) env = faults_defined a n ts env
    faults a p o (node n k (inner arg) sh ts) env = []

    pub faults_seq : Bool → Part → ℕ → Trees → Env → List Row
    faults_seq a p o none env = []
    faults_seq a p o (u ◂ us) env = faults a p o u env ++ faults_seq a p o us (meet p u env)

    -- the first alone: member names introduce nothing
    pub faults_first : Bool → ℕ → Trees → Env → List Row
    faults_first a o none env = []
    faults_first a o (u ◂ us) env = faults a occurs o u env

    -- a defined-then: row 2 at its variable, which has no row 1, then the rows of its term
    pub faults_defined : Bool → ℕ → Trees → Env → List Row
    faults_defined a o none env = []
    faults_defined a o (u ◂ us) env = not_new_all us env ++ faults a occurs o u env

  -- of a rule, from its outer meaning on
  unfoldable pub rule_marks : Rule → List Row
  unfolding marks_seq
  rule_marks r = marks_seq occurs 0 r.statements r.meaning

  unfoldable pub rule_faults : Rule → List Row
  unfolding faults_seq
  rule_faults r = faults_seq false occurs 0 r.statements r.meaning

  -- of some rules, one after another
  unfoldable pub marks_of : List Rule → List Row
  unfolding rule_marks
  marks_of [] = []
  marks_of (r ∷ rs) = rule_marks r ++ marks_of rs

  unfoldable pub faults_of : List Rule → List Row
  unfolding rule_faults
  faults_of [] = []
  faults_of (r ∷ rs) = rule_faults r ++ faults_of rs

module _ (img : List ℕ) where
  -- the occurrence list of a module, and its plain error rows, by meanings
  unfoldable pub marks_in : List Row
  unfolding marks_of module_rules
  marks_in = marks_of (name_of img) (kind_at img) (module_rules img)

  unfoldable pub faults_in : List Row
  unfolding faults_of module_rules
  faults_in = faults_of (name_of img) (kind_at img) (module_rules img)
