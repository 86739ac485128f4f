-- Entering the names of a declaration list: what each function over it is handed, and hands on.
use mathlib.Core.Path.{◌≡◌, refl, sym, ap, subst, ◌∙◌}
use mathlib.Core.Bool.{Bool, true, false, false≢true}
use mathlib.Core.List.{List, [], ◌∷◌, ◌++◌, append-nil}
use mathlib.Core.Option.{Option, none as nothing, some}
use Prim.Native.Nat.{ℕ, zero, suc, ◌+◌, ◌<◌, ◌≤◌}
use native.Mathlib.Omega.{arith}
use native.Mathlib.Nat.{add-zero}
use lib.Dec.{T, eqb}
use lib.ListN.{length, get_or, set, drop, length-append}
use lib.Seq.{get_or-set_same}
use Rattle.std.specs.Prelude.{Ok, Err, IsErrAnd}
use Rattle.error.specs.declared.SymbolDeclaredTwice.{SymbolDeclaredTwice}
use Rattle.ast.specs.Declarations.{rule_node, declared, declared_all}
use Rattle.ast.specs.Image.{nodes, kind_at, field, name_of}
use Rattle.ast.specs.Is.{Is, Run, kind_by}
use Rattle.ast.specs.Items.{items, below}
use Rattle.ast.specs.Kinds.{Class, outer, inner, root, decl, signature, rule, enum, model, Field, name, opt_name, child, opt_child, list, lists, cases, no_child, Kind, kinds, kind_of}
use Rattle.ast.specs.Named.{arg_decl_list_kind, decl_kind, ctor_decl_kind, enum_decl_kind, model_decl_kind, rule_decl_kind, stmt_kind}
use Rattle.ast.specs.Rows.{fields_at}
use Rattle.ast.specs.Tests.{verdict}
use Rattle.ast.specs.Tree.{Tree, node, Trees, none, ◌◂◌, ordered, tree_at, size}
use Rattle.ast.proofs.Acceptance.{name_below, opt-name-below}
use Rattle.ast.proofs.Accepted.{sized}
use Rattle.ast.proofs.Bools.{true-is}
use Rattle.ast.proofs.ByKind.{low-kind}
use Rattle.ast.proofs.Row.{append, append-none, Child, FormedFields, next, node_of}
use Rattle.ast.proofs.Shapes.{row, tree_of, child-is, case-kids, case-one, case-child, run-tail}
use Rattle.ast.proofs.RowNames.{opt-word}
use Rattle.ast.proofs.Small.{Smalls, tree-small, items-small}
use Rattle.ast.proofs.Vars.{every-kind}
use Rattle.ast.proofs.Words.{name-plain}
use Rattle.typed.specs.RowShapes.{Listed as ListedAt}
use Rattle.typed.specs.declared.nodes.NodeList.{NodeList}
use Rattle.typed.specs.declared.nodes.CtorDeclId.{CtorDeclId}
use Rattle.typed.specs.declared.items.Items.{Items}
use Rattle.typed.specs.Items.{Others, trees_of}
use Rattle.typed.proofs.Lists.{Within, Taken, taken, begun, begun-row, none-left, row-short}
use Rattle.table.specs.Layout.{table_length}
use Rattle.table.specs.State.{Walked, own_symbol, marked}
use Rattle.table.specs.Table.{Found, found_node, find, find_from, mark}
use Rattle.table.proofs.Kept.{past, mark-past, mark-length, symbol-past}
use Rattle.table.specs.declared.ScopeId.{ScopeId}
use Rattle.environment.specs.Asked.{asked}
use Rattle.environment.specs.Builder.{Keeps, walked_of}
use Rattle.environment.specs.declared.ScopeBuilder.{ScopeBuilder}
use Rattle.environment.specs.Stands.{Opens, Named}
use Rattle.environment.proofs.Asking.{loud_fields, quiet, quiet_at}
use Rattle.environment.proofs.Laws.{opens-left}
use Rattle.environment.proofs.Steps.{keeps_same, keeps-then}
use Rattle.scopes.specs.Walk.{Listed, done, twice, recorded, enter_name, and_then, enter_names, mark_all, enter_all, visit}
use Rattle.scopes.specs.Promises.{Declared, listed_of, enter, ent, ents, vis, Seen, Entering, Naming, Entered, Enters, MayEnter, MayWalkAll, Signature, Stamped}
use Rattle.scopes.proofs.Adds.{named, Went, done-same, twice-done, name_in, enter-in}
use Rattle.scopes.proofs.Entering.{and-nothing, enter-first, enter-own}
use Rattle.scopes.proofs.Stamping.{seen_start, seen_none, seen-stamp, seen-symbol, seen-marked}

-- fields that start with a name that is no option
plainly : List Field → Bool
plainly [] = false
plainly (name ∷ fs) = true
plainly (opt_name ∷ fs) = false
plainly (child k ∷ fs) = false
plainly (opt_child k ∷ fs) = false
plainly (list k ∷ fs) = false
plainly (lists k ∷ fs) = false
plainly (cases ks ∷ fs) = false

-- no name is asked for at a node with such fields
plain_quiet : (fs : List Field) → plainly fs ≡ true → loud_fields fs ≡ false
unfolding plainly loud_fields
plain_quiet [] h = refl
plain_quiet (name ∷ fs) h = refl
plain_quiet (opt_name ∷ fs) h = refl
plain_quiet (child k ∷ fs) h = refl
plain_quiet (opt_child k ∷ fs) h = refl
plain_quiet (list k ∷ fs) h = refl
plain_quiet (lists k ∷ fs) h = refl
plain_quiet (cases ks ∷ fs) h = absurd (false≢true h)

plain-first : (fs : List Field) → plainly fs ≡ true → (gs : List Field) × (fs ≡ name ∷ gs)
unfolding plainly
plain-first [] h = absurd (false≢true h)
plain-first (name ∷ fs) h = (fs, refl)
plain-first (opt_name ∷ fs) h = absurd (false≢true h)
plain-first (child k ∷ fs) h = absurd (false≢true h)
plain-first (opt_child k ∷ fs) h = absurd (false≢true h)
plain-first (list k ∷ fs) h = absurd (false≢true h)
plain-first (lists k ∷ fs) h = absurd (false≢true h)
plain-first (cases ks ∷ fs) h = absurd (false≢true h)

-- a signature has such fields: one computed check of the table of kinds
signs : Class → List Field → Bool
signs (inner i) fs = true
signs (outer root) fs = true
signs (outer decl) fs = true
signs (outer signature) fs = plainly fs
signs (outer rule) fs = true
signs (outer enum) fs = true
signs (outer model) fs = true

signing : ℕ → Kind → Bool
signing k kd = signs kd.class kd.fields

every-signing : (k : ℕ) → k ≤ 40 → T (signing k (kind_of k))
unfolding signing signs plainly kinds
every-signing k l = every-kind signing tt k l

-- what `?` hands back
pub handed-on : (o : Declared) (t : SymbolDeclaredTwice) → IsErrAnd o (λ y. y ≡ t) → o ≡ Err t
handed-on (Ok a) t h = absurd h
handed-on (Err u) t h = ap Err h

module _ (img : List ℕ) where
  -- before a call --------------------------------------------------------------------------------------------------------
  pub entering-less : {seen env : List ℕ} {a m : ℕ} {e : Walked} → a ≤ m → Entering img seen env m e → Entering img seen env a e
  entering-less h p = record { accepted = p.accepted; live = p.live; room = (let r = p.room in omega arith); long = p.long; stamps = p.stamps; opens = p.opens }

  pub entering-marked : {seen env new : List ℕ} {n m : ℕ} {e f : Walked} → f ≡ marked img n e.scope e → n < nodes img → asked img n ≡ nothing → new ≡ env → Entering img seen env m e → Entering img seen new m f
  unfolding marked mark
  entering-marked {seen} {env} {new} {n} {m} {e} {f} q l a v p =
      subst (Entering img seen new m) (sym q)
      (record {
        accepted = p.accepted;
        live = p.live;
        room = p.room;
        long = (let y = mark-length img n e.scope e.scope e.table in let z = p.long in omega arith);
        stamps = seen-marked img e.scope e l p.stamps;
        opens = opens-left img e.scope l a refl v p.opens;
      })

  pub entering-next : {Q : Walked → Type 0} {seen vs env en : List ℕ} {a m : ℕ} {e f : Walked} → Entering img seen env (a + m) e → Went img Q 0 a e f → Seen img vs f → Opens img f en → Entering img vs en m f
  entering-next p w s o =
      record {
        accepted = p.accepted;
        live = (let y = w.same in let z = p.live in omega arith);
        room = (let y = w.symbols in let z = p.room in omega arith);
        long = (let y = w.long in let z = p.long in omega arith);
        stamps = s;
        opens = o;
      }

  -- after a call ---------------------------------------------------------------------------------------------------------
  pub past-marked : (n cur : ℕ) (e : Walked) {f : Walked} → f ≡ marked img n cur e → n < nodes img → past img f.table ≡ past img e.table
  unfolding marked
  past-marked n cur e q l = ap (λ (g : Walked). past img g.table) q ∙ mark-past img n cur e.scope e.table l

  -- the same, told of another list and from an earlier table
  pub enters-as : {l k : Listed} {us ws seen env : List ℕ} {g : Walked} {r : Declared} → l ≡ k → drop (table_length (nodes img)) us ≡ drop (table_length (nodes img)) ws
      → Entered img l us r seen env g → Entered img k ws r seen env g
  enters-as q h p = record { same = p.same ∙ q; stamps = λ f d. p.stamps f (q ∙ d); opens = λ f d. p.opens f (q ∙ d); passed = p.passed ∙ h }

  -- a name, as its row has it ------------------------------------------------------------------------------------------------
  plain-named : (n : ℕ) {x : ℕ} → verdict img ≡ 0 → n < nodes img → plainly (fields_at img n) ≡ true → x ≡ field img n 0 → Named img n x
  unfolding plainly kind_of fields_at
  plain-named n {x} a l h q =
      let (gs, e) = plain-first (fields_at img n) h in
      let b = name_below img a n l gs e in
      let c = (sized img a).few_names in
      let w : x ≡ name_of img n = q ∙ sym (name-plain img n (λ r. false≢true (sym (ap (λ (k : ℕ). plainly (kind_of k).fields) r) ∙ h)) (λ r. false≢true (sym (ap (λ (k : ℕ). plainly (kind_of k).fields) r) ∙ h))) in
      record { is = w; below = omega arith }

  sig-plain : {n : ℕ} → Signature img n → plainly (fields_at img n) ≡ true
  unfolding signing signs fields_at
  sig-plain {n} s = true-is _ (subst (λ (c : Class). T (signs c (fields_at img n))) s.class (every-signing (kind_at img n) (low-kind img s.accepted n s.below)))

  pub sig-name : {n x : ℕ} → Signature img n → x ≡ field img n 0 → Named img n x
  sig-name s q = plain-named _ s.accepted s.below (sig-plain s) q

  pub enum-name : {n x : ℕ} → Is img (kind_of enum_decl_kind) n → x ≡ field img n 0 → Named img n x
  unfolding plainly kind_of fields_at
  enum-name is q = plain-named _ is.accepted is.below (ap (λ (k : Kind). plainly k.fields) is.kind) q

  pub model-name : {n x : ℕ} → Is img (kind_of model_decl_kind) n → x ≡ field img n 0 → Named img n x
  unfolding plainly kind_of fields_at
  model-name is q = plain-named _ is.accepted is.below (ap (λ (k : Kind). plainly k.fields) is.kind) q

  pub rule-name : {n x : ℕ} → Is img (kind_of rule_decl_kind) n → suc x ≡ field img n 0 → Named img n x
  unfolding kind_of fields_at
  rule-name {n} is q =
      let f : fields_at img n ≡ opt_name ∷ list stmt_kind ∷ [] = ap (λ (k : Kind). k.fields) is.kind in
      let w = opt-word img n (list stmt_kind ∷ []) f (low-kind img is.accepted n is.below) in
      let b = opt-name-below img is.accepted n is.below (list stmt_kind ∷ []) f (λ z. absurd (omega arith)) in
      let c = (sized img is.accepted).few_names in
      record { is = omega arith; below = omega arith }

  -- no name is asked for at a declaration
  pub sig-quiet : {n : ℕ} → Signature img n → asked img n ≡ nothing
  unfolding fields_at
  sig-quiet {n} s = quiet_at img n (kind_at img n) (plain_quiet (fields_at img n) (sig-plain s)) refl

  pub rule-quiet : {n : ℕ} → Is img (kind_of rule_decl_kind) n → asked img n ≡ nothing
  unfolding kind_of loud_fields
  rule-quiet is = quiet img refl is

  enum-quiet : {n : ℕ} → Is img (kind_of enum_decl_kind) n → asked img n ≡ nothing
  unfolding kind_of loud_fields
  enum-quiet is = quiet img refl is

  decl-quiet : {n : ℕ} → Is img (kind_of decl_kind) n → asked img n ≡ nothing
  unfolding kind_of loud_fields
  decl-quiet is = quiet img refl is

  -- one name -------------------------------------------------------------------------------------------------------------
  found_here : (n : ℕ) (e : Walked) {x : ℕ} {o : Option ℕ} → x ≡ name_of img n → find img e.table e.scope x ≡ o → find img e.table e.scope (name_of img n) ≡ o
  found_here n e q p = ap (find img e.table e.scope) (sym q) ∙ p

  enter-new : (n : ℕ) (e : Walked) (x : ℕ) → x ≡ name_of img n → find img e.table e.scope x ≡ nothing → enter_name img n e ≡ done (own_symbol img n e)
  unfolding enter_name named
  enter-new n e x q p = ap (named img n e) (found_here n e q p)

  enter-twice : (n : ℕ) (e : Walked) (x : ℕ) (a : Found) → x ≡ name_of img n → some a ≡ find_from img e.table.symbols e.table.words 0 e.scope x
      → enter_name img n e ≡ twice x a.node n
  unfolding enter_name named find
  enter-twice n e x a q p = ap (named img n e) (found_here n e q (sym (ap found_node p))) ∙ ap (λ (y : ℕ). twice y a.node n) (sym q)

  module _ {seen env : List ℕ} {e : Walked} (p : Entering img seen env 1 e) (n x : ℕ) (name-is : Named img n x) where
    -- the scope does not have it: its stamp was not there, or no row is found
    pub free_new : {us : List ℕ} {b : Bool} → Stamped seen x e.scope b us → b ≡ true → find img e.table e.scope x ≡ nothing
    unfolding find
    free_new t q = let (a, l, d) = t.new q in ap found_node (seen_none img x p.stamps l a)

    pub free-old : nothing ≡ find_from img e.table.symbols e.table.words 0 e.scope x → find img e.table e.scope x ≡ nothing
    unfolding find
    free-old o = ap found_node (sym o)

    pub few : e.table.symbols < nodes img
    few = let z = p.room in omega arith

    entered : {us en : List ℕ} {g : Walked} → find img e.table e.scope x ≡ nothing → g ≡ own_symbol img n e → Opens img g en
        → Seen img us (own_symbol img n e) → Entered img (enter_name img n e) e.table.words (Ok tt) us en g
    unfolding own_symbol
    entered {us} {en} h q o s =
        let d = enter-new n e x name-is.is h in
        record {
          same = ap done q ∙ sym d;
          stamps = λ f t. subst (Seen img us) (done-same (own_symbol img n e) f (sym d ∙ t)) s;
          opens = λ f t. subst (λ (k : Walked). Opens img k en) (q ∙ done-same (own_symbol img n e) f (sym d ∙ t)) o;
          passed = ap (λ (f : Walked). past img f.table) q ∙ symbol-past img e.scope n e.table few;
        }

    -- its stamp was not there
    pub enters-new : {us en : List ℕ} {b : Bool} {g : Walked} → Stamped seen x e.scope b us → b ≡ true → g ≡ own_symbol img n e → Opens img g en
        → Entered img (enter_name img n e) e.table.words (Ok tt) us en g
    enters-new {us} {en} {b} t q h o =
        let (z, l, d) = t.new q in
        entered (free_new t q) h o
        (subst (λ (vs : List ℕ). Seen img vs (own_symbol img n e)) (sym d)
        (seen-symbol img n e few p.long (λ k. ap (λ (y : ℕ). get_or (set seen x (suc e.scope)) y 0) (sym name-is.is) ∙ get_or-set_same seen x (suc e.scope) 0 l) (seen-stamp img x p.stamps)))

    -- it was there, but the scope does not have the name
    pub enters-old : {us en : List ℕ} {b : Bool} {g : Walked} → Stamped seen x e.scope b us → b ≡ false
        → nothing ≡ find_from img e.table.symbols e.table.words 0 e.scope x → g ≡ own_symbol img n e → Opens img g en
        → Entered img (enter_name img n e) e.table.words (Ok tt) us en g
    enters-old {us} {en} {b} t q z h o =
        let (y, d) = t.old q in
        entered (free-old z) h o
        (subst (λ (vs : List ℕ). Seen img vs (own_symbol img n e)) (sym d)
        (seen-symbol img n e few p.long (λ k. ap (λ (m : ℕ). get_or seen m 0) (sym name-is.is) ∙ y) p.stamps))

    -- the scope has it
    pub enters-twice : {us en : List ℕ} (f : Found) (t : SymbolDeclaredTwice) → t.name ≡ x → t.first.0 ≡ f.node → some f ≡ find_from img e.table.symbols e.table.words 0 e.scope x → t.second.0 ≡ n
        → Entered img (enter_name img n e) e.table.words (Err t) us en e
    enters-twice f t m a o q =
        let g = enter-twice n e x f name-is.is o ∙ ap (λ (y : ℕ). twice x y n) (sym a) in
        record {
          same = ap (λ (y : ℕ). twice y t.first.0 t.second.0) m ∙ ap (twice x t.first.0) q ∙ sym g;
          stamps = λ f d. absurd (twice-done x t.first.0 n f (sym g ∙ d));
          opens = λ f d. absurd (twice-done x t.first.0 n f (sym g ∙ d));
          passed = refl;
        }

  -- what follows a name, or a declaration -----------------------------------------------------------------------------------
  pub and-done : (f : Walked) (g : Walked → Listed) (l : Listed) → l ≡ done f → and_then img l g ≡ g f
  unfolding and_then
  and-done f g l h = ap (λ (m : Listed). and_then img m g) h

  pub and-stop : (x a b : ℕ) (g : Walked → Listed) (l : Listed) → l ≡ twice x a b → and_then img l g ≡ twice x a b
  unfolding and_then
  and-stop x a b g l h = ap (λ (m : Listed). and_then img m g) h

  -- what is entered, where the code went on, and where it stopped
  pub entered-as : {l : Listed} {ws us en : List ℕ} {g : Walked} {r : Declared} {a : Unit {0}} → r ≡ Ok a → Entered img l ws r us en g → l ≡ done g
  entered-as {g = g} d h = sym h.same ∙ ap (λ (o : Declared). listed_of o g) d

  pub stopped-as : {l : Listed} {ws us en : List ℕ} {g : Walked} {r : Declared} (t : SymbolDeclaredTwice) → r ≡ Err t → Entered img l ws r us en g → l ≡ twice t.name t.first.0 t.second.0
  stopped-as {g = g} t d h = sym h.same ∙ ap (λ (o : Declared). listed_of o g) d

  -- a name declared twice: nothing is entered
  stopped : {l : Listed} {ws us en : List ℕ} {g : Walked} {o : Declared} (t : SymbolDeclaredTwice) → l ≡ twice t.name t.first.0 t.second.0 → o ≡ Err t
      → past img g.table ≡ drop (table_length (nodes img)) ws → Entered img l ws o us en g
  stopped {g = g} t q z p =
      record {
        same = ap (λ (o : Declared). listed_of o g) z ∙ sym q;
        stamps = λ k d. absurd (twice-done t.name t.first.0 t.second.0 k (sym q ∙ d));
        opens = λ k d. absurd (twice-done t.name t.first.0 t.second.0 k (sym q ∙ d));
        passed = p;
      }

  -- a declaration by its kind ------------------------------------------------------------------------------------------------
  pub signed : {fs : List Field} {n : ℕ} → Is img (kind_by (outer signature) fs) n → Signature img n
  signed is = record { accepted = is.accepted; below = is.below; class = ap (λ (k : Kind). k.class) is.kind }

  pub sig-enter : {n : ℕ} (e : Walked) → Signature img n → (enter img (tree_at img n) e ≡ enter_name img n (marked img n e.scope e)) × (ent (tree_at img n) ≡ 1)
  unfolding enter declared recorded enter_names mark_all node_of
  sig-enter {n} e s =
      let is : Is img (kind_by (outer signature) (kind_of (kind_at img n)).fields) n = record { accepted = s.accepted; below = s.below; kind = ap (λ (c : Class). kind_by c (kind_of (kind_at img n)).fields) s.class } in
      subst (λ (u : Tree). (enter img u e ≡ enter_name img n (marked img n e.scope e)) × (ent u ≡ 1)) (sym (tree_of img is)) (and-nothing img (enter_name img n (marked img n e.scope e)), refl)

  pub sig-enters : {n : ℕ} (e : Walked) {f g : Walked} {us en : List ℕ} {r : Declared} → Signature img n → f ≡ marked img n e.scope e → Entered img (enter_name img n f) f.table.words r us en g
      → Entered img (enter img (tree_at img n) e) e.table.words r us en g
  sig-enters {n} e s q h = enters-as (ap (enter_name img n) q ∙ sym (sig-enter e s).0) (past-marked n e.scope e q s.below) h

  pub model-enter : {n : ℕ} (e : Walked) → Is img (kind_of model_decl_kind) n → (enter img (tree_at img n) e ≡ enter_name img n e) × (ent (tree_at img n) ≡ 1)
  unfolding enter declared recorded enter_names mark_all node_of kind_of
  model-enter {n} e is = subst (λ (u : Tree). (enter img u e ≡ enter_name img n e) × (ent u ≡ 1)) (sym (tree_of img is)) (and-nothing img (enter_name img n e), refl)

  -- the shape of a rule's row, by the word of its name
  abbrev rule_shape : ℕ → ℕ → List ℕ
  rule_shape n x = elim x [ zero ↦ 0 | suc m ↦ 1 ] ∷ field img n 1 ∷ []

  rule-enter : {n : ℕ} (e : Walked) → Is img (kind_of rule_decl_kind) n
      → (enter img (tree_at img n) e ≡ enter_names img (rule_node (rule_shape n (field img n 0)) n) (marked img n e.scope e)) × (declared (tree_at img n) ≡ rule_node (rule_shape n (field img n 0)) n)
  unfolding enter declared recorded mark_all node_of kind_of
  rule-enter {n} e is =
      subst (λ (u : Tree). (enter img u e ≡ enter_names img (rule_node (rule_shape n (field img n 0)) n) (marked img n e.scope e)) × (declared u ≡ rule_node (rule_shape n (field img n 0)) n))
      (sym (tree_of img is)) (refl, refl)

  pub rule-unnamed : {n : ℕ} (e : Walked) → Is img (kind_of rule_decl_kind) n → field img n 0 ≡ 0 → enter img (tree_at img n) e ≡ done (marked img n e.scope e)
  unfolding enter_names rule_node
  rule-unnamed {n} e is z = (rule-enter e is).0 ∙ ap (λ (x : ℕ). enter_names img (rule_node (rule_shape n x) n) (marked img n e.scope e)) z

  pub rule-named : {n x : ℕ} (e : Walked) → Is img (kind_of rule_decl_kind) n → suc x ≡ field img n 0 → (enter img (tree_at img n) e ≡ enter_name img n (marked img n e.scope e)) × (ent (tree_at img n) ≡ 1)
  unfolding enter_names rule_node
  rule-named {n} e is q =
      let r = rule-enter e is in (
        r.0 ∙ ap (λ (y : ℕ). enter_names img (rule_node (rule_shape n y) n) (marked img n e.scope e)) (sym q) ∙ and-nothing img (enter_name img n (marked img n e.scope e)),
        ap length (r.1 ∙ ap (λ (y : ℕ). rule_node (rule_shape n y) n) (sym q)),
      )

  pub rule-enters : {n x : ℕ} (e : Walked) {f g : Walked} {us en : List ℕ} {r : Declared} → Is img (kind_of rule_decl_kind) n → suc x ≡ field img n 0 → f ≡ marked img n e.scope e
      → Entered img (enter_name img n f) f.table.words r us en g → Entered img (enter img (tree_at img n) e) e.table.words r us en g
  rule-enters {n} e is w q h = enters-as (ap (enter_name img n) q ∙ sym (rule-named e is w).0) (past-marked n e.scope e q is.below) h

  pub rule-entering : {seen env : List ℕ} {n x : ℕ} {e : Walked} → Is img (kind_of rule_decl_kind) n → suc x ≡ field img n 0 → Entering img seen env (ent (tree_at img n)) e → Entering img seen env 1 e
  rule-entering {e = e} is q p = entering-less (let z = (rule-named e is q).1 in omega arith) p

  -- how many names they may add
  abbrev nowhere : Walked
  nowhere = record { scope = 0; table = record { words = []; scopes = 0; symbols = 0 } }

  pub model-ent : {n : ℕ} → Is img (kind_of model_decl_kind) n → ent (tree_at img n) ≡ 1
  model-ent is = (model-enter nowhere is).1

  -- an unnamed rule is only marked
  pub rule-passes : {seen env new : List ℕ} {m n : ℕ} {e f : Walked} → Is img (kind_of rule_decl_kind) n → Entering img seen env m e → field img n 0 ≡ 0
      → f ≡ marked img n e.scope e → new ≡ env → Entered img (enter img (tree_at img n) e) e.table.words (Ok tt) seen new f
  rule-passes {seen} {env} {new} {m} {n} {e} is p z q v =
      let g = rule-unnamed e is z in
      let r = entering-marked refl is.below (rule-quiet is) v p in
      record {
        same = ap done q ∙ sym g;
        stamps = λ f d. subst (Seen img seen) (done-same (marked img n e.scope e) f (sym g ∙ d)) r.stamps;
        opens = λ f d. subst (λ (k : Walked). Opens img k new) (done-same (marked img n e.scope e) f (sym g ∙ d)) r.opens;
        passed = past-marked n e.scope e q is.below;
      }

  -- a list: what is left of it ----------------------------------------------------------------------------------------------
  ents-more : (u : Tree) (us : Trees) → ents (u ◂ us) ≡ ent u + ents us
  unfolding declared
  ents-more u us = length-append (declared u) (declared_all us)

  enter-none : (e : Walked) → enter_all img none e ≡ done e
  unfolding enter_all declared recorded enter_names mark_all
  enter-none e = refl

  module _ {T : Type 0} where
    within-small : {k n : ℕ} {s : Items T} → Within img k n s → Smalls (nodes img) (trees_of s)
    within-small {s = s} w =
        subst (λ (i : List ℕ). Smalls (nodes img) (items i s.left.list.node.0 s.left.list.count s.left.list.first)) (sym w.image) (items-small img s.left.list.node.0 s.left.list.count s.left.list.first)

    -- the walk stands at f: what entering the names that are left gives is the whole, l; ws are the words that it began with
    pub record EnterRest (seen env : List ℕ) (k n : ℕ) (l : Listed) (ws : List ℕ) (s : Items T) (f : Walked) : Type 0 where
      pub within : Within img k n s
      pub entering : Entering img seen env (ents (trees_of s)) f
      pub passed : past img f.table ≡ drop (table_length (nodes img)) ws
      pub left : l ≡ enter_all img (trees_of s) f

  -- an enum: its own name, then its constructors' -----------------------------------------------------------------------------
  ctor-is : {n i c : ℕ} → Is img (kind_of enum_decl_kind) n → i < field img n 1 → c ≡ field img n (2 + i) → Is img (kind_by (outer signature) (name ∷ child arg_decl_list_kind ∷ [])) c
  unfolding FormedFields next kind_of
  ctor-is {n} {i} {c} is l q =
      let h : Child img n ctor_decl_kind (field img n (2 + i)) = (row img is).1.0 i l in
      subst (Is img (kind_by (outer signature) (name ∷ child arg_decl_list_kind ∷ []))) (sym q) (child-is img is h)

  enum-enter : {n : ℕ} (e : Walked) → Is img (kind_of enum_decl_kind) n
      → (enter img (tree_at img n) e ≡ and_then img (enter_name img n (marked img n e.scope e)) (enter_all img (items img n (field img n 1) 2))) × (ent (tree_at img n) ≡ suc (ents (items img n (field img n 1) 2)))
  unfolding enter declared recorded node_of kind_of
  enum-enter {n} e is =
      let a = append-none (items img n (field img n 1) 2) in
      subst (λ (us : Trees). (enter img (tree_at img n) e ≡ and_then img (enter_name img n (marked img n e.scope e)) (enter_all img us)) × (ent (tree_at img n) ≡ suc (ents us))) a
      (subst (λ (u : Tree). (enter img u e ≡ and_then img (enter_name img n (marked img n e.scope e)) (enter_all img (append (items img n (field img n 1) 2) none))) × (ent u ≡ suc (ents (append (items img n (field img n 1) 2) none))))
      (sym (tree_of img is)) (enter-own img n (append (items img n (field img n 1) 2) none) (subst (Smalls (nodes img)) (sym a) (items-small img n (field img n 1) 2)) e, refl))

  sig-ents : (n c j : ℕ) → ((i : ℕ) → i < c → Signature img (field img n (j + i))) → ents (items img n c j) ≡ c
  unfolding declared items
  sig-ents n zero j h = refl
  sig-ents n (suc c) j h =
      let l = length-append (declared (tree_at img (field img n j))) (declared_all (items img n c (j + 1))) in
      let a : ent (tree_at img (field img n j)) ≡ 1 = (sig-enter nowhere (subst (λ (x : ℕ). Signature img (field img n x)) (add-zero j) (h 0 (omega arith)))).1 in
      let b = sig-ents n c (j + 1) (λ i l. subst (λ (x : ℕ). Signature img (field img n x)) (let q : j + suc i ≡ j + 1 + i = omega arith in q) (h (suc i) (omega arith))) in
      omega arith

  ctor-ents : {n : ℕ} → Is img (kind_of enum_decl_kind) n → ents (items img n (field img n 1) 2) ≡ field img n 1
  ctor-ents {n} is = sig-ents n (field img n 1) 2 (λ i l. signed (ctor-is {i = i} is l refl))

  pub sig-entering : {seen env : List ℕ} {n : ℕ} {e : Walked} → Signature img n → Entering img seen env (ent (tree_at img n)) e → Entering img seen env 1 e
  sig-entering {e = e} s p = entering-less (let z = (sig-enter e s).1 in omega arith) p

  pub enum-ent : {n : ℕ} → Is img (kind_of enum_decl_kind) n → ent (tree_at img n) ≡ 1 + field img n 1
  enum-ent {n} is = let a = (enum-enter nowhere is).1 in let c = ctor-ents is in omega arith

  pub ctor-run : {n : ℕ} → Is img (kind_of enum_decl_kind) n → Run img ctor_decl_kind n 2 (field img n 1)
  unfolding next kind_of
  ctor-run is = run-tail img is refl refl

  -- a Decl: what its declaration is -----------------------------------------------------------------------------------------
  abbrev pub decl_kinds : List ℕ
  decl_kinds = 2 ∷ 3 ∷ 4 ∷ 5 ∷ 6 ∷ 7 ∷ 8 ∷ []

  pub record DeclOf (k n d : ℕ) : Type 0 where
    pub low : d < n
    pub is : Is img (kind_of k) d
    pub tree : tree_at img n ≡ node n (kind_at img n) (outer decl) (field img n 0 ∷ []) (tree_at img d ◂ none)

  decl-tree : {n : ℕ} → Is img (kind_of decl_kind) n → tree_at img n ≡ node n (kind_at img n) (outer decl) (field img n 0 ∷ []) (below (tree_at img n))
  unfolding node_of kind_of
  decl-tree {n} is = subst (λ (u : Tree). u ≡ node n (kind_at img n) (outer decl) (field img n 0 ∷ []) (below u)) (sym (tree_of img is)) refl

  pub decl_of : {n d : ℕ} → Is img (kind_of decl_kind) n → (c : ℕ) → c ≡ field img n 0 → d ≡ field img n 1 → eqb (get_or decl_kinds c no_child) no_child ≡ false → DeclOf (get_or decl_kinds c no_child) n d
  unfolding kind_of ordered
  decl_of {n} {d} is c q r s =
      let h = case-child img (outer decl) decl_kinds is c d q r s in
      record {
        low = h.below;
        is = child-is img is h;
        tree =
            decl-tree is
            ∙ ap (λ (ts : Trees). node n (kind_at img n) (outer decl) (field img n 0 ∷ []) ts) (case-kids img (outer decl) decl_kinds is (λ ts. refl) c q ∙ case-one img decl_kinds n c s ∙ ap (λ (x : ℕ). tree_at img x ◂ none) (sym r));
      }

  module _ {k n d : ℕ} (o : DeclOf k n d) where
    pub decl-entered : (e : Walked) → enter img (tree_at img n) e ≡ enter img (tree_at img d) (marked img n e.scope e)
    unfolding enter declared recorded mark_all
    decl-entered e =
        ap (λ (u : Tree). enter img u e) o.tree
        ∙ ap (λ (ds : List ℕ). enter_names img ds (mark_all img (recorded (tree_at img d) ++ []) (marked img n e.scope e))) (append-nil (declared (tree_at img d)))
        ∙ ap (λ (ns : List ℕ). enter_names img (declared (tree_at img d)) (mark_all img ns (marked img n e.scope e))) (append-nil (recorded (tree_at img d)))

    pub decl-visited : (e : Walked) → visit img (tree_at img n) e ≡ visit img (tree_at img d) e
    unfolding visit
    decl-visited e = ap (λ (u : Tree). visit img u e) o.tree ∙ and-nothing img (visit img (tree_at img d) e)

    pub decl-ent : ent (tree_at img n) ≡ ent (tree_at img d) + 0
    unfolding declared
    decl-ent = ap ent o.tree ∙ length-append (declared (tree_at img d)) []

    pub decl-vis : vis (tree_at img n) ≡ vis (tree_at img d) + 0
    unfolding vis
    decl-vis = ap vis o.tree

    pub decl-size : size (tree_at img n) ≡ suc (size (tree_at img d) + 0)
    unfolding size
    decl-size = ap size o.tree

  -- the declaration entered, after its Decl is marked; i is the image then
  pub record DeclEnter (i seen env : List ℕ) (k n d : ℕ) (e f : Walked) : Type 0 where
    pub is : Is i (kind_of k) d
    pub entering : Entering i seen env (ent (tree_at i d)) f
    pub enters : {us en : List ℕ} {g : Walked} {r : Declared} → Entered i (enter i (tree_at i d) f) f.table.words r us en g → Entered img (enter img (tree_at img n) e) e.table.words r us en g

  pub decl_enter : {seen env new : List ℕ} {k n d : ℕ} {e f : Walked} → DeclOf k n d → Is img (kind_of decl_kind) n → Entering img seen env (ent (tree_at img n)) e → f ≡ marked img n e.scope e → new ≡ env → DeclEnter img seen new k n d e f
  decl_enter {n = n} {d} {e} o is p q v =
      record {
        is = o.is;
        entering = entering-marked q is.below (decl-quiet is) v (entering-less (let z = decl-ent o in omega arith) p);
        enters = λ h. enters-as (ap (enter img (tree_at img d)) q ∙ sym (decl-entered o e)) (past-marked n e.scope e q is.below) h;
      }

-- what entering a signature asks, and that of its name
pub sig-asked : {fs : List Field} {seen : List ℕ} {n x : ℕ} {b : ScopeBuilder} {s : ScopeId} → Is b.image.now (kind_by (outer signature) fs) n → x ≡ field b.image.now n 0
    → Entering b.image.now seen b.env.now (ent (tree_at b.image.now n)) (walked_of b s) → Signature b.image.now n × Naming seen x n b s
sig-asked {b = b} is q p = let t = signed b.image.now is in (t, record { name = sig-name b.image.now t q; entering = sig-entering b.image.now t p })

-- the names of a list that is given
abbrev pub names_of : NodeList → ScopeBuilder → ScopeId → Listed
names_of l b s = enter_all b.image.now (items b.image.now l.node.0 l.count l.first) (walked_of b s)

-- a loop over the declarations of a list: it began with the builder b, and stands in the scope s of b'
module _ {T : Type 0} where
  pub record EnterLeft (seen : List ℕ) (k n : ℕ) (l : Listed) (it : Items T) (b : ScopeBuilder) (s : ScopeId) (b' : ScopeBuilder) : Type 0 where
    pub keeps : Keeps b b'
    pub rest : EnterRest b'.image.now seen b'.env.now k n l b.table.now it (walked_of b' s)

  -- the next of them, and what is left after it
  pub record EnterItem (seen : List ℕ) (k n x : ℕ) (l : Listed) (t : Items T) (b : ScopeBuilder) (s : ScopeId) (b' : ScopeBuilder) : Type 0 where
    pub is : Is b'.image.now (kind_of k) x
    pub entering : Entering b'.image.now seen b'.env.now (ent (tree_at b'.image.now x)) (walked_of b' s)
    pub more : {us : List ℕ} {c : ScopeBuilder} {r : Declared} {a : Unit {0}} → r ≡ Ok a → Keeps b' c → Enters (enter b'.image.now (tree_at b'.image.now x)) b' s r us c → EnterLeft us k n l t b s c
    pub stop : {us en : List ℕ} {g : Walked} {r : Declared} (y : SymbolDeclaredTwice) → r ≡ Err y → Entered b'.image.now (enter b'.image.now (tree_at b'.image.now x) (walked_of b' s)) b'.table.now r us en g
        → {o : Declared} → o ≡ Err y → Entered b.image.now l b.table.now o us en g

  pub enter_item : {seen : List ℕ} {k n x : ℕ} {l : Listed} {it t : Items T} {b b' : ScopeBuilder} {s : ScopeId} → EnterLeft seen k n l it b s b'
      → Others it t × (x ≡ field it.image.now it.left.list.node.0 it.left.list.first) → EnterItem seen k n x l t b s b'
  enter_item {seen} {k} {n} {x} {l} {it} {t} {b} {b'} {s} w steps =
      record {
        is = o.is;
        entering = entering-less img (let z = few in omega arith) p.entering;
        more = λ {us} {c} d v h.
            let g = walked_of c s in
            let q = entered-as img d h in
            let u = (enter-in img (tree_at img x) (tree-small img x) f).went g q in
            record {
              keeps = keeps-then w.keeps v;
              rest =
                  subst (λ (i : List ℕ). EnterRest i us c.env.now k n l b.table.now t g) (sym v.image)
                  (record {
                    within = o.rest;
                    entering = entering-next img (subst (λ (y : ℕ). Entering img seen b'.env.now y f) few p.entering) u (h.stamps g q) (h.opens g q);
                    passed = h.passed ∙ p.passed;
                    left = whole ∙ and-done img g (enter_all img (trees_of t)) _ q;
                  });
            };
        stop = λ {us} {en} {g} y d h {o} z.
            subst (λ (i : List ℕ). Entered i l b.table.now o us en g) w.keeps.image
            (stopped img y (whole ∙ and-stop img y.name y.first.0 y.second.0 (enter_all img (trees_of t)) _ (stopped-as img y d h)) z (h.passed ∙ p.passed));
      }
    where
      img : List ℕ
      img = b'.image.now

      f : Walked
      f = walked_of b' s

      p : EnterRest img seen b'.env.now k n l b.table.now it f
      p = w.rest

      o : Taken img k n x it t
      o = taken p.within steps.0 steps.1

      few : ents (trees_of it) ≡ ent (tree_at img x) + ents (trees_of t)
      few = ap ents o.trees ∙ ents-more img (tree_at img x) (trees_of t)

      whole : l ≡ and_then img (enter img (tree_at img x) f) (enter_all img (trees_of t))
      whole = p.left ∙ ap (λ (us : Trees). enter_all img us f) o.trees ∙ enter-first img (tree_at img x) (trees_of t) (within-small img o.rest) f

  pub enter-ended : {seen : List ℕ} {k n : ℕ} {l : Listed} {it : Items T} {b b' : ScopeBuilder} {s : ScopeId} → EnterLeft seen k n l it b s b' → it.left.list.count ≡ 0
      → Entered b.image.now l b.table.now (Ok tt) seen b'.env.now (walked_of b' s)
  enter-ended {seen} {l = l} {it} {b} {b'} {s} w z =
      let img = b'.image.now in
      let g = walked_of b' s in
      let p = w.rest in
      let h = p.left ∙ ap (λ (us : Trees). enter_all img us g) (none-left it z) ∙ enter-none img g in
      subst (λ (i : List ℕ). Entered i l b.table.now (Ok tt) seen b'.env.now g) w.keeps.image
      (record {
        same = sym h;
        stamps = λ f d. subst (Seen img seen) (done-same g f (sym h ∙ d)) p.entering.stamps;
        opens = λ f d. subst (λ (k : Walked). Opens img k b'.env.now) (done-same g f (sym h ∙ d)) p.entering.opens;
        passed = p.passed;
      })

  pub names-begin : {seen : List ℕ} {l : NodeList} {b : ScopeBuilder} {s : ScopeId} {u start : Items T} → MayWalkAll l b s → start ≡ u → (u.image.now ≡ b.image.now) × (u.left.list ≡ l)
      → EnterLeft seen decl_kind l.node.0 (names_of l b s) start b s b
  names-begin {seen} {l} {b} {s} (p, o) e h =
      let img = b.image.now in
      let f = walked_of b s in
      let a = begun e refl p.run h in
      record {
        keeps = keeps_same b;
        rest = record {
          within = a.within;
          entering =
              subst (λ (us : Trees). Entering img seen b.env.now (ents us) f) a.trees
              (record {
                accepted = p.run.accepted;
                live = (let z = p.newest in let y = p.fits.scopes in omega arith);
                room = (let y = p.fits.symbols in omega arith);
                long = p.fits.kept.rising.long;
                stamps = seen_start img seen f p.fresh;
                opens = o;
              });
          passed = refl;
          left = ap (λ (us : Trees). enter_all img us f) a.trees;
        };
      }

-- an enum, after its node is marked: what its own name asks, and its constructors
pub record EnumEnter (seen : List ℕ) (n : ℕ) (l : NodeList) (b : ScopeBuilder) (s : ScopeId) (b' : ScopeBuilder) : Type 0 where
  pub name : {x : ℕ} → x ≡ field b'.image.now n 0 → Named b'.image.now n x
  pub own : Entering b'.image.now seen b'.env.now 1 (walked_of b' s)
  pub short : l.first + l.count ≤ 8193
  pub stop : {us en : List ℕ} {g : Walked} {r : Declared} (y : SymbolDeclaredTwice) → r ≡ Err y → Entered b'.image.now (enter_name b'.image.now n (walked_of b' s)) b'.table.now r us en g
      → {o : Declared} → o ≡ Err y → Entered b.image.now (enter b.image.now (tree_at b.image.now n) (walked_of b s)) b.table.now o us en g
  pub begins : {us : List ℕ} {c : ScopeBuilder} {r : Declared} {a : Unit {0}} {u start : Items CtorDeclId} → r ≡ Ok a → Keeps b' c → Enters (enter_name b'.image.now n) b' s r us c
      → start ≡ u → (u.image.now ≡ c.image.now) × (u.left.list ≡ l) → EnterLeft us ctor_decl_kind n (enter b.image.now (tree_at b.image.now n) (walked_of b s)) start b s c

pub enum_enter : {seen : List ℕ} {n : ℕ} {l : NodeList} {b b' : ScopeBuilder} {s : ScopeId} → Keeps b b' → MayEnter (kind_of enum_decl_kind) n seen b s → walked_of b' s ≡ marked b.image.now n s.0 (walked_of b s)
    → b'.env.now ≡ b.env.now → ListedAt b'.image.now n 1 l → EnumEnter seen n l b s b'
enum_enter {seen} {n} {l} {b} {b'} {s} keeps (is, p) q v a =
    record {
      name = λ {x} h. subst (λ (i : List ℕ). Named i n x) (sym k) (enum-name img is (h ∙ ap (λ (i : List ℕ). field i n 0) k));
      own = subst (λ (i : List ℕ). Entering i seen b'.env.now 1 f) (sym k) (entering-less img (omega arith) both);
      short = row-short img list (ctor-run img is);
      stop = λ y d h z.
          let o = at-first h in
          stopped img y (whole ∙ and-stop img y.name y.first.0 y.second.0 (enter_all img ts) _ (stopped-as img y d o)) z (o.passed ∙ past-marked img n e.scope e q is.below);
      begins = λ {us} {c} {start = start} d y h x m.
          let g = walked_of c s in
          let o = at-first h in
          let w = entered-as img d o in
          let j = y.image ∙ k in
          let r = begun-row x list (ctor-run img is) (m.0 ∙ j, m.1) in
          let z : Entering img us c.env.now (field img n 1) g = entering-next img both ((name_in img n f).went g w) (o.stamps g w) (o.opens g w) in
          record {
            keeps = keeps-then keeps y;
            rest =
                subst (λ (i : List ℕ). EnterRest i us c.env.now ctor_decl_kind n (enter img (tree_at img n) e) b.table.now start g) (sym j)
                (record {
                  within = r.within;
                  entering = subst (λ (vs : Trees). Entering img us c.env.now (ents vs) g) r.trees (subst (λ (i : ℕ). Entering img us c.env.now i g) (sym (ctor-ents img is)) z);
                  passed = o.passed ∙ past-marked img n e.scope e q is.below;
                  left = whole ∙ and-done img g (enter_all img ts) _ w ∙ ap (λ (vs : Trees). enter_all img vs g) r.trees;
                });
          };
    }
  where
    img : List ℕ
    img = b.image.now

    k : b'.image.now ≡ img
    k = keeps.image

    e : Walked
    e = walked_of b s

    f : Walked
    f = walked_of b' s

    list : ListedAt img n 1 l
    list = subst (λ (i : List ℕ). ListedAt i n 1 l) k a

    ts : Trees
    ts = items img n (field img n 1) 2

    both : Entering img seen b'.env.now (1 + field img n 1) f
    both = entering-marked img q is.below (enum-quiet img is) v (subst (λ (m : ℕ). Entering img seen b.env.now m e) (enum-ent img is) p)

    whole : enter img (tree_at img n) e ≡ and_then img (enter_name img n f) (enter_all img ts)
    whole = (enum-enter img e is).0 ∙ ap (λ (g : Walked). and_then img (enter_name img n g) (enter_all img ts)) (sym q)

    at-first : {us en : List ℕ} {g : Walked} {r : Declared} → Entered b'.image.now (enter_name b'.image.now n f) f.table.words r us en g → Entered img (enter_name img n f) f.table.words r us en g
    at-first {us} {en} {g} {r} h = subst (λ (i : List ℕ). Entered i (enter_name i n f) f.table.words r us en g) k h
