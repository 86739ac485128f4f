-- The occurrence list, read in the table that resolving leaves, is the one that meanings give by the tree alone.
use mathlib.Core.Path.{◌≡◌, refl, sym, ◌∙◌, ap, ap₂, subst}
use mathlib.Core.Logic.{inl, inr}
use mathlib.Core.Bool.{Bool, true, false}
use mathlib.Core.List.{List, [], ◌∷◌, ◌++◌, append-nil}
use mathlib.Core.Option.{Option, none as nothing, some}
use Prim.Native.Nat.{ℕ, zero, suc}
use lib.Dec.{eqb}
use Rattle.ast.specs.Image.{kind_at, name_of}
use Rattle.ast.specs.Kinds.{outer, inner, plain, term, ident, head, head_member, member, case, if_var, defined_then, arg}
use Rattle.ast.specs.Tests.{verdict}
use Rattle.ast.specs.Tree.{Tree, node, block, Trees, none, ◌◂◌}
use Rattle.rows.specs.Rows.{Row, row}
use Rattle.scopes.specs.Resolve.{walked, counted}
use Rattle.scopes.specs.Walk.{done}
use Rattle.table.specs.State.{Walked}
use Rattle.table.specs.Table.{Table, lookup, exit_at}
use Rattle.occurrences.specs.Occurrences.{listed, rows_for, rule_rows, all_rows, occurrence_rows}
use Rattle.ast.specs.Rules.{Rule, module_rules}
use Rattle.occurrences.specs.Spots.{Spot, spots, spots_seq, spots_back, spots_first, rule_spots}
use Rattle.sight.specs.Sight.{In}
use Rattle.sight.proofs.Resolving.{resolved}
use Rattle.sight.proofs.Steps.{IdentOnly, Body, Bodies, Members}
use Rattle.meaning.specs.Meaning.{Env, Part, occurs, declares, defines, names, meet_ident, meet, mark, marks, marks_seq, marks_then, marks_back, marks_first, rule_marks, marks_of, marks_in}
use Rattle.meaning.specs.Recorded.{Reads}
use Rattle.meaning.proofs.Told.{defines-bodies, meets, meets_seq, Told, ToldSeq, ToldThen}
use Rattle.meaning.proofs.Rules.{rules-told}

module _ (img : List ℕ) (T : Table) where
  listed-append : (n : ℕ) (o : Option ℕ) (l k : List Row) → listed img T n o l ++ k ≡ listed img T n o (l ++ k)
  unfolding listed
  listed-append n nothing l k = refl
  listed-append n (some i) l k = go (eqb (kind_at img i) 13)
    where
      go : (b : Bool) → elim b [ true ↦ row n i ∷ l | false ↦ l ] ++ k ≡ elim b [ true ↦ row n i ∷ (l ++ k) | false ↦ l ++ k ]
      go true = refl
      go false = refl

  rows_append : (l k : List Spot) → rows_for img T (l ++ k) ≡ rows_for img T l ++ rows_for img T k
  unfolding rows_for
  rows_append [] k = refl
  rows_append (s ∷ l) k =
      let o = lookup img T (exit_at img T.words s.node) (name_of img s.ident) in
      ap (listed img T s.node o) (rows_append l k) ∙ sym (listed-append s.node o (rows_for img T l) (rows_for img T k))

  listed-mark : (n : ℕ) (o : Option ℕ) → listed img T n o [] ≡ mark (kind_at img) n o
  unfolding listed mark
  listed-mark n nothing = refl
  listed-mark n (some i) = refl

  abbrev marks_at : Part → ℕ → Tree → Env → List Row
  marks_at p o u env = marks (name_of img) (kind_at img) p o u env

  abbrev marks_all : Part → ℕ → Trees → Env → List Row
  marks_all p o us env = marks_seq (name_of img) (kind_at img) p o us env

  -- the one child is an IdentTerm
  lone-marks : (p : Part) (n : ℕ) (ts : Trees) → IdentOnly img ts → (env : Env) → Reads img T (exit_at img T.words n) (meets_seq img T p ts env)
      → rows_for img T (spots_seq n ts) ≡ marks_all p n ts env
  unfolding spots marks meet rows_for
  lone-marks p n ts h env =
      subst (λ (us : Trees). Reads img T (exit_at img T.words n) (meets_seq img T p us env) → rows_for img T (spots_seq n us) ≡ marks_all p n us env) (sym h.only)
      (λ r.
      let o = meet_ident (name_of img) (kind_at img) p h.i env (name_of img h.i) in
      ap (λ x. listed img T n x []) (r (name_of img h.i)) ∙ listed-mark n o ∙ sym (append-nil (mark (kind_at img) n o)))

  mutual
    unfolding spots marks Told Body rows_for

    pub marks-are : (u : Tree) → Body img u → (p : Part) (o : ℕ) (env : Env) → Told img T p u env → rows_for img T (spots o u) ≡ marks_at p o u env
    marks-are (block ts) h p o env t = marks-along ts h occurs o env t
    marks-are (node n k (outer c) sh ts) h p o env t = absurd h
    marks-are (node n k (inner plain) sh ts) h p o env t = marks-along ts h occurs n env t.1
    marks-are (node n k (inner term) sh ts) h p o env t =
        elim h.1 [ inl i ↦ lone-marks p n ts i env t.0.exit | inr b ↦ marks-along ts b p n env t.1 ]
    marks-are (node n k (inner ident) sh ts) h p o env t = absurd h
    marks-are (node n k (inner head) [] ts) h p o env t = absurd h
    marks-are (node n k (inner head) (zero ∷ sh) ts) h p o env t = lone-marks names n ts h.1 env t.0.exit
    marks-are (node n k (inner head) (suc c ∷ sh) ts) h p o env t = marks-along ts h occurs n env t.1
    marks-are (node n k (inner head_member) sh ts) h p o env t = marks-first ts h n env t
    marks-are (node n k (inner member) sh ts) h p o env t = marks-first ts h n env t.1
    marks-are (node n k (inner case) sh ts) h p o env t = marks-along ts h occurs n env t.1
    marks-are (node n k (inner if_var) sh ts) h p o env t = marks-then ts h declares n env t.1
    marks-are (node n k (inner defined_then) sh ts) h p o env t = marks-back ts (defines-bodies img ts h) (defines env) n env t.1
    marks-are (node n k (inner arg) sh ts) h p o env t = absurd h

    pub marks-along : (us : Trees) → Bodies img us → (p : Part) (o : ℕ) (env : Env) → ToldSeq img T p us env → rows_for img T (spots_seq o us) ≡ marks_all p o us env
    marks-along none h p o env t = refl
    marks-along (u ◂ us) h p o env t =
        rows_append (spots o u) (spots_seq o us) ∙ ap₂ ◌++◌ (marks-are u h.0 p o env t.0) (marks-along us h.1 p o (meets img T p u env) t.1)

    marks-then : (us : Trees) → Bodies img us → (p : Part) (o : ℕ) (env : Env) → ToldThen img T p us env
        → rows_for img T (spots_seq o us) ≡ marks_then (name_of img) (kind_at img) p o us env
    marks-then none h p o env t = refl
    marks-then (u ◂ us) h p o env t =
        rows_append (spots o u) (spots_seq o us) ∙ ap₂ ◌++◌ (marks-are u h.0 occurs o env t.0) (marks-along us h.1 p o (meets img T occurs u env) t.1)

    marks-back : (us : Trees) → Bodies img us → (p : Part) (o : ℕ) (env : Env) → ToldThen img T p us env
        → rows_for img T (spots_back o us) ≡ marks_back (name_of img) (kind_at img) p o us env
    marks-back none h p o env t = refl
    marks-back (u ◂ us) h p o env t =
        rows_append (spots_seq o us) (spots o u) ∙ ap₂ ◌++◌ (marks-along us h.1 p o (meets img T occurs u env) t.1) (marks-are u h.0 occurs o env t.0)

    marks-first : (us : Trees) → Members img us → (o : ℕ) (env : Env) → ToldThen img T names us env → rows_for img T (spots_first o us) ≡ marks_first (name_of img) (kind_at img) o us env
    marks-first none h o env t = refl
    marks-first (u ◂ us) h o env t = marks-are u h.0 occurs o env t.0

  -- of the rules of a module
  rules-marks : (rs : List Rule) → ((r : Rule) → In r rs → Bodies img r.statements × ToldSeq img T occurs r.statements r.meaning)
      → all_rows img T rs ≡ marks_of (name_of img) (kind_at img) rs
  unfolding all_rows rule_rows rule_spots marks_of rule_marks
  rules-marks [] f = refl
  rules-marks (r ∷ rs) f =
      ap₂ ◌++◌ (let g = f r (inl refl) in marks-along r.statements g.0 occurs 0 r.meaning g.1) (rules-marks rs (λ q i. f q (inr i)))

-- what the table says and what the tree says
pub by-meaning : (img tab : List ℕ) (e : Walked) → verdict img ≡ 0 → walked img tab ≡ done e → occurrence_rows img (counted img e.table) ≡ marks_in img
unfolding occurrence_rows marks_in
by-meaning img tab e accepted q =
    rules-marks img (counted img e.table) (module_rules img)
    (λ r i. (((resolved img tab e accepted q).walks r i).1.body, rules-told img tab e accepted q r i))
