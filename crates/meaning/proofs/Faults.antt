-- The plain error rows, read in the table that resolving leaves, are those that meanings give by the tree alone.
use mathlib.Core.Path.{◌≡◌, refl, sym, ◌∙◌, ap, ap₂, subst}
use mathlib.Core.Logic.{◌⊎◌, inl, inr, ◌≢◌}
use mathlib.Core.Bool.{Bool, true, false, ◌&&◌, ◌||◌, not, and-false, false≢true}
use mathlib.Core.List.{List, [], ◌∷◌, ◌++◌, append-nil, append_assoc}
use mathlib.Core.Option.{Option, none as nothing, some}
use Prim.Native.Nat.{ℕ, zero, suc}
use native.Mathlib.Decide.{ℕ_discrete}
use native.Mathlib.Omega.{arith}
use borrow.Author.Tests.{eq-eqb, ne_eqb, not-true}
use lib.Dec.{T, eqb, eqb→eq}
use Rattle.ast.specs.Declarations.{or_else}
use Rattle.ast.specs.Image.{last, kind_at, name_of}
use Rattle.ast.specs.Kinds.{Class, outer, inner, root, decl, signature, rule, enum, model, plain, term, ident, head, head_member, member, case, if_var, defined_then, arg, kinds, kind_of}
use Rattle.ast.specs.Tests.{verdict}
use Rattle.ast.specs.Tree.{Tree, node, block, Trees, none, ◌◂◌}
use Rattle.ast.proofs.Accepted.{formed, last-below}
use Rattle.ast.proofs.Unfold.{tree_of}
use Rattle.ast.proofs.Vars.{and_both, Everywhere, EverywhereAll}
use Rattle.rows.specs.Rows.{Row, row, when}
use Rattle.error.specs.Kinds.{introduced_in_then, defined_not_new, pattern_not_fresh, asked}
use Rattle.scopes.specs.Resolve.{walked, counted}
use Rattle.ast.proofs.Bools.{not_equal}
use Rattle.scopes.specs.Walk.{done}
use Rattle.table.specs.State.{Walked}
use Rattle.table.specs.Table.{Table, lookup, is_var, entry_at, at_entry, at_exit}
use Rattle.bindings.specs.Errors.{same_node, introduces, introduced_row, defined_row, defined_rows, arg_row, arg_rows, list_rows, is_ctor, app_rows, pattern_rows, rows_of, rows_seq, rows_first, rows_defined, decl_rows, decls_rows, plain_rows}
use Rattle.ast.specs.Rules.{Rule, says_all, rules, rules_all, rules_of, module_rules}
use Rattle.sight.specs.Sight.{In}
use Rattle.sight.proofs.Lists.{Decl, Decls}
use Rattle.sight.proofs.Members.{in_left, in_right}
use Rattle.sight.proofs.Steps.{IdentOnly, Body, Bodies, Members}
use Rattle.sight.proofs.Verdict.{root-of}
use Rattle.meaning.specs.Meaning.{Env, Part, occurs, declares, names, defines, head_part, subject, inside, first_is, ident_of, is_a, is_value, with, meet_ident, meet, stands_for, not_new, not_new_all, not_fresh, not_fresh_all, is_ctor_head, app_faults, pattern_faults, faults, faults_seq, faults_first, faults_defined, rule_faults, faults_of, faults_in}
use Rattle.meaning.specs.Meaning as meaning
use Rattle.meaning.specs.Recorded.{Reads, Around}
use Rattle.meaning.proofs.Told.{defines-bodies, is-kind, meets, meets_seq, Told, ToldSeq, ToldThen}
use Rattle.meaning.proofs.Rules.{rules-told}
use Rattle.meaning.proofs.Shaped.{Kinds, KindsAll, kinds_all-map, suits, NotBlock, AtMostOne, AppKids, Shaped, ShapedAt, module-shaped}

-- what `suits` says
no-defined : (k : ℕ) → k ≢ 29 → (l : ℕ) → T (suits k l) → l ≢ 34
no-defined k f l t e = f (eqb→eq k 29 (and_both (eqb k 29) _ (subst (λ j. T (suits k j)) e t)).0)

-- no DefinedThenAtom stands below a node but a ThenAtom
calm : (k : ℕ) → k ≢ 29 → (ts : Trees) → KindsAll (λ l. T (suits k l)) ts → KindsAll (λ l. l ≢ 34) ts
calm k f ts h = kinds_all-map (no-defined k f) ts h

quiet : {k : ℕ} {c : Class} {ts : Trees} → Shaped k c ts → T (not (eqb k 29)) → KindsAll (λ l. l ≢ 34) ts
quiet {k} {c} {ts} s t = calm k (not_equal 29 t) ts s.kids

module _ (img : List ℕ) (T₀ : Table) where
  abbrev name : ℕ → ℕ
  name = name_of img

  abbrev kind : ℕ → ℕ
  kind = kind_at img

  -- the class of a node of a known kind opens what the table tells
  as-class : (c d : Class) → c ≡ d → (n k : ℕ) (sh : List ℕ) (ts : Trees) (env : Env) → Told img T₀ occurs (node n k c sh ts) env → Told img T₀ occurs (node n k d sh ts) env
  as-class c d e n k sh ts env t = subst (λ (x : Class). Told img T₀ occurs (node n k x sh ts) env) e t

  is-var : (s : ℕ) (env : Env) → Reads img T₀ s env → (x : ℕ) → is_var img (lookup img T₀ s x) ≡ is_a kind 13 (env x)
  is-var s env r x = is-kind img 13 (lookup img T₀ s x) ∙ ap (is_a kind 13) (r x)

  -- row 1 -----------------------------------------------------------------------------------------------------------------
  -- the parts of IdentTerms at which row 1 is asked for: all but a defined-then's variable
  abbrev Plainly : Part → Type 0
  Plainly occurs = Unit {0}
  Plainly declares = Unit {0}
  Plainly names = Unit {0}
  Plainly (defines before) = ⊥

  -- what stands for a name after an IdentTerm that introduces it, or before one that does not
  abbrev after : Bool → ℕ → Option ℕ → Option ℕ
  after b i o = elim b [ true ↦ some i | false ↦ o ]

  -- the name is a Var after the IdentTerm, and not that one before it
  abbrev new : Option ℕ → Option ℕ → Bool
  new x o = is_a kind 13 x && not (same_node x o)

  same-twice : (o : Option ℕ) → new o o ≡ false
  unfolding is_a same_node
  same-twice nothing = refl
  same-twice (some j) = ap (λ (b : Bool). eqb (kind j) 13 && not b) (eq-eqb j j refl) ∙ and-false (eqb (kind j) 13)

  -- an IdentTerm that introduces its name is no node that the name stood for: that one is no Var
  unlike : (i : ℕ) (o : Option ℕ) → kind i ≡ 13 → is_a kind 13 o ≡ false → new (some i) o ≡ true
  unfolding is_a same_node
  unlike i nothing k f = ap (λ (b : Bool). b && true) (eq-eqb (kind i) 13 k)
  unlike i (some j) k f =
      ap (λ (b : Bool). b && not (eqb i j)) (eq-eqb (kind i) 13 k)
      ∙ ap not (ne_eqb i j (λ q. let z = sym f ∙ ap (λ m. eqb (kind m) 13) (sym q) ∙ eq-eqb (kind i) 13 k in absurd (false≢true z)))

  value-var : (o : Option ℕ) → is_value kind o ≡ false → is_a kind 13 o ≡ false
  unfolding is_value
  value-var o f = go (is_a kind 13 o) f
    where
      go : (b : Bool) → elim b as (λ _. Bool) [ true ↦ true | false ↦ is_a kind 5 o ] ≡ false → b ≡ false
      go true q = absurd (false≢true (sym q))
      go false q = refl

  new_is : (b : Bool) (i : ℕ) (o : Option ℕ) → kind i ≡ 13 → (b ≡ true → is_a kind 13 o ≡ false) → new (after b i o) o ≡ b
  new_is true i o k f = unlike i o k (f refl)
  new_is false i o k f = same-twice o

  -- what its name stands for after an IdentTerm
  ident-left : (p : Part) (i : ℕ) (env : Env) → meet_ident name kind p i env (name i) ≡ after (meaning.introduces name kind p i env) i (env (name i))
  unfolding meet_ident with
  ident-left p i env = go (meaning.introduces name kind p i env)
    where
      go : (b : Bool) → (elim b as (λ _. Env) [ true ↦ with name i env | false ↦ env ]) (name i) ≡ after b i (env (name i))
      go true = ap (λ (b : Bool). elim b as (λ _. Option ℕ) [ true ↦ some i | false ↦ env (name i) ]) (eq-eqb (name i) (name i) refl)
      go false = refl

  introduces-unlike : (p : Part) → Plainly p → (i : ℕ) (env : Env) → meaning.introduces name kind p i env ≡ true → is_a kind 13 (env (name i)) ≡ false
  unfolding meaning.introduces
  introduces-unlike occurs h i env q = value-var (env (name i)) (not-true _ q)
  introduces-unlike declares h i env q = not-true _ q
  introduces-unlike names h i env q = absurd (false≢true q)
  introduces-unlike (defines before) h i env q = absurd h

  -- 'introduces its name', read off the table as the Rust does, is the walk's own introducing
  pub introduces-is : (p : Part) → Plainly p → (o i : ℕ) (env : Env) → kind i ≡ 13 → Around img T₀ o env (meet_ident name kind p i env)
      → introduces img T₀ o i ≡ meaning.introduces name kind p i env
  unfolding introduces
  introduces-is p s o i env k h =
      let b = meaning.introduces name kind p i env in
      ap (λ (c : Bool). c && not (same_node (at_exit img T₀ o i) (at_entry img T₀ o i))) (is-kind img 13 (at_exit img T₀ o i))
      ∙ ap₂ new (h.exit (name i) ∙ ident-left p i env) (h.entry (name i))
      ∙ new_is b i (env (name i)) k (introduces-unlike p s i env)

  lone-faults : (a : Bool) (p : Part) → Plainly p → (n : ℕ) (ts : Trees) → IdentOnly img ts → (env : Env)
      → Around img T₀ n env (meets_seq img T₀ p ts env) → rows_seq img T₀ a n ts ≡ faults_seq name kind a p n ts env
  unfolding rows_of introduced_row faults meet
  lone-faults a p s n ts h env =
      subst (λ (us : Trees). Around img T₀ n env (meets_seq img T₀ p us env) → rows_seq img T₀ a n us ≡ faults_seq name kind a p n us env) (sym h.only)
      (λ r. ap (λ (b : Bool). when (a && b) (row introduced_in_then n) ++ []) (introduces-is p s n h.i env h.kind r))

  -- an app head's ident introduces nothing, so it has no row
  head-faults : (a : Bool) (n : ℕ) (ts : Trees) → IdentOnly img ts → (env : Env) → [] ≡ faults_seq name kind a names n ts env
  unfolding faults meaning.introduces
  head-faults a n ts h env =
      subst (λ (us : Trees). [] ≡ faults_seq name kind a names n us env) (sym h.only) (ap (λ (b : Bool). when b (row introduced_in_then n) ++ []) (sym (and-false a)))

  -- row 2 -----------------------------------------------------------------------------------------------------------------
  defined-is : (o : ℕ) (env : Env) → Reads img T₀ (entry_at img T₀.words o) env → (u : Tree) → defined_row img T₀ o u ≡ not_new name kind u env
  unfolding defined_row not_new stands_for subject
  defined-is o env r (block ts) = refl
  defined-is o env r (node n k c sh none) = refl
  defined-is o env r (node n k c sh (block ts ◂ us)) = refl
  defined-is o env r (node n k c sh (node i l d sh2 ts ◂ us)) = ap (λ (b : Bool). when b (row defined_not_new n)) (is-var _ env r (name i))

  defineds-are : (o : ℕ) (env : Env) → Reads img T₀ (entry_at img T₀.words o) env → (us : Trees) → defined_rows img T₀ o us ≡ not_new_all name kind us env
  unfolding defined_rows not_new_all
  defineds-are o env r none = refl
  defineds-are o env r (u ◂ us) = ap₂ ◌++◌ (defined-is o env r u) (defineds-are o env r us)

  -- row 3 -----------------------------------------------------------------------------------------------------------------
  arg_is : (u : Tree) → Kinds (λ k. k ≡ 12) u → Everywhere ShapedAt u → (env : Env) → Told img T₀ occurs u env → arg_row img T₀ u ≡ not_fresh name kind u env
  unfolding arg_row not_fresh stands_for ident_of Kinds Everywhere Told kind_of kinds
  arg_is (block ts) q s env t = refl
  arg_is (node n k c [] ts) q s env t = refl
  arg_is (node n k c (suc x ∷ sh) ts) q s env t = refl
  arg_is (node n k c (zero ∷ sh) none) q s env t = refl
  arg_is (node n k c (zero ∷ sh) (block ts ◂ us)) q s env t = refl
  arg_is (node n k c (zero ∷ sh) (node i l d sh2 ts ◂ us)) q s env t =
      let e : c ≡ inner term = s.0.0.class ∙ ap (λ j. (kind_of j).class) q in
      let a = (as-class c (inner term) e n k (zero ∷ sh) (node i l d sh2 ts ◂ us) env t).0 in
      ap (λ (b : Bool). when b (row pattern_not_fresh n)) (is-var _ env a.entry (name i))

  args_are : (us : Trees) → KindsAll (λ k. k ≡ 12) us → EverywhereAll ShapedAt us → (env : Env) → ToldSeq img T₀ occurs us env → arg_rows img T₀ us ≡ not_fresh_all name kind us env
  unfolding arg_rows not_fresh_all Kinds Everywhere Told
  args_are none q s env t = refl
  args_are (u ◂ us) q s env t = ap₂ ◌++◌ (arg_is u q.0 s.0 env t.0) (args_are us q.1 s.1 (meets img T₀ occurs u env) t.1)

  -- below a TermList are Terms
  only-terms : (l : ℕ) → T (suits 22 l) → l ≡ 12
  only-terms l t =
      let a = (and_both (not (eqb l 34) || false) _ t).1 in
      let b = (and_both (not (eqb l 14) || false) _ a).1 in
      eqb→eq l 12 (and_both (eqb l 12) _ b).0

  list-is : (u : Tree) (us : Trees) → Kinds (λ k. k ≡ 22) u → Everywhere ShapedAt u → (env : Env) → Told img T₀ occurs u env
      → list_rows img T₀ (u ◂ us) ≡ not_fresh_all name kind (inside (u ◂ us)) env
  unfolding list_rows inside not_fresh_all Kinds Everywhere Told kind_of kinds
  list-is (block ts) us q s env t = refl
  list-is (node n k c sh ts) us q s env t =
      let e : c ≡ inner plain = s.0.0.class ∙ ap (λ j. (kind_of j).class) q in
      let a = (as-class c (inner plain) e n k sh ts env t).1 in
      args_are ts (kinds_all-map only-terms ts (subst (λ j. KindsAll (λ l. T (suits j l)) ts) q s.0.0.kids)) s.1 env a

  -- an app head's ident leaves the environment
  lone-names : (ts : Trees) → IdentOnly img ts → (env : Env) → meets_seq img T₀ names ts env ≡ env
  unfolding meet meet_ident meaning.introduces
  lone-names ts h env = subst (λ (us : Trees). meets_seq img T₀ names us env ≡ env) (sym h.only) refl

  app-is : (ts : Trees) → AppKids ts → Bodies img ts → EverywhereAll ShapedAt ts → (env : Env) → ToldSeq img T₀ occurs ts env → app_rows img T₀ ts ≡ app_faults name kind ts env
  unfolding app_rows is_ctor app_faults is_ctor_head stands_for ident_of AppKids Kinds Everywhere Told Body kind_of kinds meet head_part
  app-is none q b s env t = absurd q
  app-is (block hs ◂ us) q b s env t = refl
  app-is (node n k c [] hs ◂ us) q b s env t = refl
  app-is (node n k c (suc x ∷ sh) hs ◂ us) q b s env t = refl
  app-is (node n k c (zero ∷ sh) none ◂ us) q b s env t = refl
  app-is (node n k c (zero ∷ sh) (block ts ◂ vs) ◂ us) q b s env t = refl
  app-is (node n k c (zero ∷ sh) (node i l d sh2 ts ◂ vs) ◂ none) q b s env t = absurd q
  app-is (node n k c (zero ∷ sh) (node i l d sh2 ts ◂ vs) ◂ (w ◂ us)) q b s env t =
      let hs = node i l d sh2 ts ◂ vs in
      let e : c ≡ inner head = s.0.0.0.class ∙ ap (λ j. (kind_of j).class) q.0 in
      let o : IdentOnly img hs = (subst (λ (x : Class). Body img (node n k x (zero ∷ sh) hs)) e b.0).1 in
      let m : meets_seq img T₀ names hs env ≡ env = lone-names hs o env in
      let r = subst (λ (x : Class). Told img T₀ occurs (node n k x (zero ∷ sh) hs) env × Told img T₀ occurs w (meets img T₀ occurs (node n k x (zero ∷ sh) hs) env)) e (t.0, t.1.0) in
      ap₂ (λ (x : Bool) (y : List Row). elim x as (λ _. List Row) [ true ↦ y | false ↦ [] ])
      (is-kind img 9 (at_exit img T₀ n i) ∙ ap (is_a kind 9) (r.0.0.exit (name i) ∙ ap (λ (g : Env). g (name i)) m))
      (list-is w us q.1 s.1.0 env (subst (Told img T₀ occurs w) m r.1))

  picks : (b : Bool) (l k : List Row) → (T b → l ≡ k) → ◌≡◌ {A = List Row} (elim b [ true ↦ l | false ↦ [] ]) (elim b [ true ↦ k | false ↦ [] ])
  picks true l k f = f tt
  picks false l k f = refl

  -- a plain node below a Term is no IdentTerm
  plain-bodies : (m l : ℕ) (d : Class) (sh : List ℕ) (ts vs : Trees) → d ≡ inner plain → IdentOnly img (node m l d sh ts ◂ vs) ⊎ Bodies img (node m l d sh ts ◂ vs) → Bodies img ts
  unfolding Body
  plain-bodies m l d sh ts vs e (inl o) = let f = o.only in let z : ◌≡◌ {A = ℕ} 0 1 = cc in absurd (omega arith)
  plain-bodies m l d sh ts vs e (inr b) = subst (λ (x : Class). Body img (node m l x sh ts)) e b.0

  pattern-is : (ts : Trees) → Bodies img ts → EverywhereAll ShapedAt ts → (env : Env) → ToldSeq img T₀ occurs ts env → pattern_rows img T₀ ts ≡ pattern_faults name kind ts env
  unfolding pattern_rows pattern_faults inside first_is Everywhere Told Body Kinds kind_of kinds
  pattern-is none b s env t = refl
  pattern-is (block ts ◂ us) b s env t = refl
  pattern-is (node n k c sh none ◂ us) b s env t = refl
  pattern-is (node n k c sh (block ts ◂ vs) ◂ us) b s env t = refl
  pattern-is (node n k c sh (node m l d sh2 ts ◂ vs) ◂ us) b s env t =
      picks (eqb l 14) (app_rows img T₀ ts) (app_faults name kind ts env)
      (λ q.
      let l14 = eqb→eq l 14 q in
      let us = node m l d sh2 ts ◂ vs in
      let k12 : k ≡ 12 = eqb→eq k 12 (and_both (eqb k 12) _ (subst (λ j. T (suits k j)) l14 s.0.0.0.kids.0)).0 in
      let e : c ≡ inner term = s.0.0.0.class ∙ ap (λ j. (kind_of j).class) k12 in
      let e' : d ≡ inner plain = s.0.1.0.0.0.class ∙ ap (λ j. (kind_of j).class) l14 in
      let g = (as-class c (inner term) e n k sh us env t.0).1.0 in
      let h = (subst (λ (x : Class). Body img (node n k x sh us)) e b.0).1 in
      app-is ts (s.0.1.0.0.1.app l14) (plain-bodies m l d sh2 ts vs e' h) s.0.1.0.1 env (as-class d (inner plain) e' m l sh2 ts env g).1)

  -- trees -----------------------------------------------------------------------------------------------------------------
  -- a DefinedThenAtom is entered with its atom o, and none stands in a block
  unfoldable Opens : ℕ → Env → Tree → Type 0
  unfolding KindsAll
  Opens o env (node n k c sh ts) = k ≡ 34 → Reads img T₀ (entry_at img T₀.words o) env
  Opens o env (block ts) = KindsAll (λ l. l ≢ 34) ts

  calm-opens : (o : ℕ) (env : Env) (u : Tree) → Kinds (λ l. l ≢ 34) u → Opens o env u
  unfolding Opens Kinds
  calm-opens o env (node n k c sh ts) h = λ e. absurd (h e)
  calm-opens o env (block ts) h = h

  one-opens : (o : ℕ) (env : Env) (u : Tree) → NotBlock u → Reads img T₀ (entry_at img T₀.words o) env → Opens o env u
  unfolding Opens NotBlock
  one-opens o env (node n k c sh ts) h r = λ e. r
  one-opens o env (block ts) h r = absurd h

  mutual
    unfolding rows_of faults Told Body Everywhere Kinds Opens AtMostOne head_part meet

    -- the node above matters to IdentTerms alone
    faults-are : (u : Tree) → Body img u → Everywhere ShapedAt u → (a : Bool) (p : Part) → Plainly p → (o o' : ℕ) (env : Env) → Opens o env u → Told img T₀ p u env
        → rows_of img T₀ a o u ≡ faults name kind a p o' u env
    faults-are (block ts) h s a p q o o' env c t = faults-along ts h s c a occurs tt o o' env t
    faults-are (node n k (outer d) sh ts) h s a p q o o' env c t = refl
    faults-are (node n k (inner plain) sh ts) h s a p q o o' env c t =
        elim (ℕ_discrete k 29) [
          | yes e ↦ faults-one ts h s.1 (s.0.1.atom e) (asked k a) n env t.0.entry t.1
          | no f ↦ faults-along ts h s.1 (calm k f ts s.0.0.kids) (asked k a) occurs tt n n env t.1
        ]
    faults-are (node n k (inner term) sh ts) h s a p q o o' env c t =
        elim h.1 [
          | inl i ↦ lone-faults a p q n ts i env t.0
          | inr b ↦ faults-along ts b s.1 (quiet s.0.0 s.0.0.back) a p q n n env t.1
        ]
    faults-are (node n k (inner ident) sh ts) h s a p q o o' env c t = absurd h
    faults-are (node n k (inner head) [] ts) h s a p q o o' env c t = absurd h
    faults-are (node n k (inner head) (zero ∷ sh) ts) h s a p q o o' env c t = head-faults a n ts h.1 env
    faults-are (node n k (inner head) (suc x ∷ sh) ts) h s a p q o o' env c t =
        faults-along ts h s.1 (quiet s.0.0 s.0.0.back) a occurs tt n n env t.1
    faults-are (node n k (inner head_member) sh ts) h s a p q o o' env c t =
        faults-first ts h s.1 (quiet s.0.0 s.0.0.back) a n env t
    faults-are (node n k (inner member) sh ts) h s a p q o o' env c t =
        faults-first ts h s.1 (quiet s.0.0 s.0.0.back) a n env t.1
    faults-are (node n k (inner case) sh ts) h s a p q o o' env c t =
        ap₂ ◌++◌ (pattern-is ts h s.1 env t.1) (faults-along ts h s.1 (quiet s.0.0 s.0.0.back) a occurs tt n n env t.1)
    faults-are (node n k (inner if_var) sh ts) h s a p q o o' env c t = refl
    faults-are (node n k (inner defined_then) sh ts) h s a p q o o' env c t =
        let e = eqb→eq k 34 s.0.0.back in
        faults-defined ts (defines-bodies img ts h) s.1 (calm k (λ z. omega arith) ts s.0.0.kids) a o n env (c e) t.1
    faults-are (node n k (inner arg) sh ts) h s a p q o o' env c t = refl

    faults-along : (us : Trees) → Bodies img us → EverywhereAll ShapedAt us → KindsAll (λ l. l ≢ 34) us → (a : Bool) (p : Part) → Plainly p → (o o' : ℕ) (env : Env)
        → ToldSeq img T₀ p us env → rows_seq img T₀ a o us ≡ faults_seq name kind a p o' us env
    faults-along none h s c a p q o o' env t = refl
    faults-along (u ◂ us) h s c a p q o o' env t =
        ap₂ ◌++◌ (faults-are u h.0 s.0 a p q o o' env (calm-opens o env u c.0) t.0)
        (faults-along us h.1 s.1 c.1 a p q o o' (meets img T₀ p u env) t.1)

    faults-one : (us : Trees) → Bodies img us → EverywhereAll ShapedAt us → AtMostOne us → (a : Bool) (o : ℕ) (env : Env) → Reads img T₀ (entry_at img T₀.words o) env
        → ToldSeq img T₀ occurs us env → rows_seq img T₀ a o us ≡ faults_seq name kind a occurs o us env
    faults-one none h s m a o env r t = refl
    faults-one (u ◂ none) h s m a o env r t = ap (λ (l : List Row). l ++ []) (faults-are u h.0 s.0 a occurs tt o o env (one-opens o env u m r) t.0)
    faults-one (u ◂ (v ◂ us)) h s m a o env r t = absurd m

    faults-first : (us : Trees) → Members img us → EverywhereAll ShapedAt us → KindsAll (λ l. l ≢ 34) us → (a : Bool) (o : ℕ) (env : Env) → ToldThen img T₀ names us env
        → rows_first img T₀ a o us ≡ faults_first name kind a o us env
    faults-first none h s c a o env t = refl
    faults-first (u ◂ us) h s c a o env t = faults-are u h.0 s.0 a occurs tt o o env (calm-opens o env u c.0) t.0

    faults-defined : (us : Trees) → Bodies img us → EverywhereAll ShapedAt us → KindsAll (λ l. l ≢ 34) us → (a : Bool) (at o : ℕ) (env : Env)
        → Reads img T₀ (entry_at img T₀.words at) env → ToldThen img T₀ (defines env) us env → rows_defined img T₀ a at o us ≡ faults_defined name kind a o us env
    faults-defined none h s c a at o env r t = refl
    faults-defined (u ◂ us) h s c a at o env r t = ap₂ ◌++◌ (defineds-are at env r us) (faults-are u h.0 s.0 a occurs tt o o env (calm-opens o env u c.0) t.0)

  -- declarations ----------------------------------------------------------------------------------------------------------
  faults-append : (rs qs : List Rule) → faults_of name kind (rs ++ qs) ≡ faults_of name kind rs ++ faults_of name kind qs
  unfolding faults_of
  faults-append [] qs = refl
  faults-append (r ∷ rs) qs =
      let l = rule_faults name kind r in
      ap (λ (k : List Row). l ++ k) (faults-append rs qs) ∙ sym (append_assoc l (faults_of name kind rs) (faults_of name kind qs))

  -- an EnumDecl has CtorDecls alone
  only-ctors : (l : ℕ) → T (suits 7 l) → l ≡ 9
  only-ctors l t =
      let a = (and_both (not (eqb l 34) || false) _ t).1 in
      let b = (and_both (not (eqb l 14) || false) _ a).1 in
      eqb→eq l 9 (and_both (eqb l 9) _ b).0

  no-module : (k l : ℕ) → T (suits k l) → l ≢ 0
  no-module k l t =
      let a = (and_both (not (eqb l 34) || eqb k 29) _ t).1 in
      let b = (and_both (not (eqb l 14) || eqb k 12) _ a).1 in
      let c = (and_both (not (eqb k 22) || eqb l 12) _ b).1 in
      not_equal 0 (and_both (not (eqb k 7) || eqb l 9) _ c).1

  ctor-rules : (m : Env) (u : Tree) → Kinds (λ l. l ≡ 9) u → Everywhere ShapedAt u → rules img m u ≡ []
  unfolding rules Kinds Everywhere kind_of kinds
  ctor-rules m (block ts) q s = refl
  ctor-rules m (node n k c sh ts) q s =
      subst (λ (d : Class). rules img m (node n k d sh ts) ≡ []) (sym (s.0.0.class ∙ ap (λ j. (kind_of j).class) q)) refl

  ctors-rules : (m : Env) (us : Trees) → KindsAll (λ l. l ≡ 9) us → EverywhereAll ShapedAt us → rules_all img m us ≡ []
  unfolding rules Kinds Everywhere
  ctors-rules m none q s = refl
  ctors-rules m (u ◂ us) q s = ap₂ ◌++◌ (ctor-rules m u q.0 s.0) (ctors-rules m us q.1 s.1)

  -- the table tells of these rules
  abbrev Tells : List Rule → Type 0
  Tells rs = (r : Rule) → In r rs → ToldSeq img T₀ occurs r.statements r.meaning

  mutual
    unfolding decl_rows rules faults_of rule_faults Everywhere Kinds Decl

    decl-faults : (u : Tree) → Decl img u → Everywhere ShapedAt u → Kinds (λ l. l ≢ 0) u → (m : Env) → Tells (rules img m u) → decl_rows img T₀ u ≡ faults_of name kind (rules img m u)
    decl-faults (block ts) d s z m t = refl
    decl-faults (node n k (inner i) sh ts) d s z m t = refl
    decl-faults (node n k (outer root) sh ts) d s z m t = absurd (z (eqb→eq k 0 s.0.0.back))
    decl-faults (node n k (outer decl) sh ts) d s z m t = decls-faults ts d s.1 (kinds_all-map (no-module k) ts s.0.0.kids) m t
    decl-faults (node n k (outer signature) sh ts) d s z m t = refl
    decl-faults (node n k (outer rule) sh ts) d s z m t =
        faults-along ts d.1 s.1 (quiet s.0.0 s.0.0.back) false occurs tt n 0 m (t (record { statements = ts; meaning = m }) (inl refl))
        ∙ sym (append-nil (faults_seq name kind false occurs 0 ts m))
    decl-faults (node n k (outer enum) sh ts) d s z m t =
        let q = eqb→eq k 7 s.0.0.back in
        ap (faults_of name kind) (sym (ctors-rules m ts (kinds_all-map only-ctors ts (subst (λ j. KindsAll (λ l. T (suits j l)) ts) q s.0.0.kids)) s.1))
    decl-faults (node n k (outer model) sh ts) d s z m t =
        decls-faults ts d.1 s.1 (kinds_all-map (no-module k) ts s.0.0.kids) (λ x. or_else (says_all img ts x) (m x)) t

    decls-faults : (us : Trees) → Decls img us → EverywhereAll ShapedAt us → KindsAll (λ l. l ≢ 0) us → (m : Env) → Tells (rules_all img m us)
        → decls_rows img T₀ us ≡ faults_of name kind (rules_all img m us)
    decls-faults none d s z m t = refl
    decls-faults (u ◂ us) d s z m t =
        ap₂ ◌++◌ (decl-faults u d.0 s.0 z.0 m (λ r i. t r (in_left r (rules img m u) (rules_all img m us) i)))
        (decls-faults us d.1 s.1 z.1 m (λ r i. t r (in_right r (rules img m u) (rules_all img m us) i)))
        ∙ sym (faults-append (rules img m u) (rules_all img m us))

  -- the module's tree
  abbrev DeclsBelow : Tree → Type 0
  DeclsBelow (node n k c sh ts) = Decls img ts
  DeclsBelow (block ts) = Unit {0}

  module-faults : (n k : ℕ) (sh : List ℕ) (ts : Trees) → Everywhere ShapedAt (node n k (outer root) sh ts) → Decls img ts → Tells (rules_of img (node n k (outer root) sh ts))
      → decl_rows img T₀ (node n k (outer root) sh ts) ≡ faults_of name kind (rules_of img (node n k (outer root) sh ts))
  unfolding decl_rows rules_of Everywhere
  module-faults n k sh ts s d t = decls-faults ts d s.1 (kinds_all-map (no-module k) ts s.0.0.kids) (says_all img ts) t

-- what the table says and what the tree says
pub faults-by-meaning : (img tab : List ℕ) (e : Walked) → verdict img ≡ 0 → walked img tab ≡ done e → plain_rows img (counted img e.table) ≡ faults_in img
unfolding plain_rows faults_in module_rules kind_of kinds
faults-by-meaning img tab e accepted q =
    let f = formed img accepted in
    let r = root-of img accepted in
    subst (λ (u : Tree). Everywhere ShapedAt u → DeclsBelow img (counted img e.table) u → Tells img (counted img e.table) (rules_of img u)
    → decl_rows img (counted img e.table) u ≡ faults_of (name_of img) (kind_at img) (rules_of img u))
    (sym (tree_of img f (last img) (last-below img accepted) 0 f.root))
    (λ s d t. module-faults img (counted img e.table) (last img) 0 _ _ s d t)
    (module-shaped img accepted) (subst (DeclsBelow img (counted img e.table)) (sym r.is) r.decls) (rules-told img tab e accepted q)
