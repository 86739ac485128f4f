-- What the environment says where an ident is walked, and where a node is left at which no name is asked for.
use mathlib.Core.Path.{◌≡◌, refl, sym, ap, subst, ◌∙◌}
use mathlib.Core.Bool.{Bool, true, false}
use mathlib.Core.Logic.{⊎_elim}
use mathlib.Core.List.{List, [], ◌∷◌}
use mathlib.Core.Option.{Option, none, some}
use Prim.Native.Nat.{ℕ, suc, ◌<◌}
use native.Mathlib.Omega.{arith}
use lib.Dec.{eqb}
use lib.ListN.{get_or}
use types.Run.{OneOf}
use denote.Enum.Declared.{tag_of}
use Rattle.ast.specs.Image.{nodes, field, name_of}
use Rattle.ast.specs.Is.{Is, kind_by}
use Rattle.ast.specs.Kinds.{inner, plain, child, no_child, kind_of}
use Rattle.ast.specs.Tree.{tree_at}
use Rattle.ast.proofs.Shapes.{head_kinds, term_kinds}
use Rattle.ast.proofs.Small.{tree-small}
use Rattle.typed.specs.Nodes.{term_at}
use Rattle.typed.specs.RowShapes.{Two}
use Rattle.typed.specs.declared.nodes.Term.{Term}
use Rattle.typed.specs.contracts.nodes.Term as TermCode
use Rattle.table.specs.Table.{Found, found_node, found, lookup, is_var, mark, new_scope, new_symbol}
use Rattle.ast.specs.declared.NodeId.{NodeId}
use Rattle.typed.proofs.Enums.{Cased, term-number}
use Rattle.table.specs.State.{Walked, introduce, child_scope, own_symbol, marked, unmarked}
use Rattle.environment.specs.Layout.{names_most, standing}
use Rattle.environment.specs.Asked.{asked}
use Rattle.environment.specs.Stands.{told, Tells, Stands, Named, Asking}
use Rattle.environment.proofs.Asking.{loud_fields, quiet, quiet-term, quiet-head, quiet_then, asked-term, asked-head, asked-then, ident-named}
use Rattle.environment.proofs.Laws.{left, left-bare, Older, tells-later}
use Rattle.ordered.specs.Walk.{Role, occurs, declares, names, defines, walk_ident, walk}
use Rattle.ordered.specs.Promises.{asks, from, over, inside, unless, Ends, Few, Ready, Variable, Defining}
use Rattle.ordered.proofs.Steps.{ident-step, name-step, one, two, member_of, term-whole, term-wild, plain-whole, head-whole, head-case, term-wrapped, head-wrapped, head-ident}
use Rattle.ordered.proofs.Lists.{in_member, member-whole}
use Rattle.ordered.proofs.Atoms.{plain-wrapped, var-ident, var-other, Defined, defined_of}
use Rattle.ordered.proofs.Paths.{walk-older}

module _ (img : List ℕ) where
  -- a node left at which no name is asked for
  pub ends-left : {n : ℕ} (c : ℕ) {a b f g : Walked} {env env' : List ℕ} → n < nodes img → asked img n ≡ none → a ≡ marked img n c b → g ≡ marked img n c f → env' ≡ env → Ends img b f env → Ends img a g env'
  ends-left {n} c {g = g} l q w s k h = record { same = s ∙ ap (marked img n c) h.same ∙ sym w; stands = left img c l q s k h.stands }

  -- one walk after another
  pub ends-then : {f g : Walked} (h : Walked → Walked) {b : Walked} {env : List ℕ} → f ≡ b → Ends img (h f) g env → Ends img (h b) g env
  ends-then h q e = record { same = e.same ∙ ap h q; stands = e.stands }

  -- nodes with one child, and with two
  pub one-ends : {k n c : ℕ} {e f g : Walked} {env env' : List ℕ} → Ready img (kind_by (inner plain) (child k ∷ [])) n e → c ≡ field img n 0 → Ends img (over img c e) f env
      → g ≡ marked img n e.scope f → env' ≡ env → Ends img (over img n e) g env'
  unfolding loud_fields
  one-ends {e = e} p q h w k = ends-left e.scope p.is.below (quiet img refl p.is) (one img p q).whole w k h

  pub two_ends : {k l n c d : ℕ} {e f g h : Walked} {env env' env'' : List ℕ} → Ready img (kind_by (inner plain) (child k ∷ child l ∷ [])) n e → c ≡ field img n 0 → d ≡ field img n 1
      → Ends img (over img c e) f env → Ends img (over img d f) g env' → h ≡ marked img n e.scope g → env'' ≡ env' → Ends img (over img n e) h env''
  unfolding loud_fields
  two_ends {d = d} {e} p q q2 a b w k = ends-left e.scope p.is.below (quiet img refl p.is) (two img p q q2).whole w k (ends-then (over img d) a.same b)

  -- a term that is no ident, after what is below it
  pub other-ends : {n : ℕ} {e f g : Walked} {env env' : List ℕ} → Ready img (kind_of 12) n e → (field img n 0 ≡ 0 → ⊥) → Ends img (inside img occurs n e) f env → g ≡ marked img n e.scope f → env' ≡ env → Ends img (over img n e) g env'
  other-ends {e = e} p z h w k = ends-left e.scope p.is.below (quiet-term img p.is z) (term-whole img e p.is) w k h

  -- a wildcard: of Ident and Wildcard it is the other
  pub wild-ends : {n : ℕ} {e : Walked} {env : List ℕ} {t : Term} → Is img (kind_of 12) n → (field img n 0 ≡ 0 → ⊥) → t ≡ term_at img n → OneOf (0 ∷ 1 ∷ []) (tag_of TermCode.the_type t) → Stands img e env → Ends img (inside img occurs n e) e env
  wild-ends {n} {e} {t = t} is z q h s = record { same = sym (term-wild img occurs e is one); stands = s }
    where
      one : 1 ≡ field img n 0
      one = ⊎_elim (λ (i : tag_of TermCode.the_type t ≡ 0). absurd (z (sym (term-number img is q) ∙ i))) (λ (i : tag_of TermCode.the_type t ≡ 1). sym i ∙ term-number img is q) h

  -- a term that wraps a child
  pub term-ends : {n c : ℕ} {i : NodeId} {e f g : Walked} {env env' : List ℕ} → Ready img (kind_of 12) n e → Cased img n (suc c) i → eqb (get_or term_kinds (suc c) no_child) no_child ≡ false
      → Ends img (over img i.0 e) f env → g ≡ marked img n e.scope f → env' ≡ env → Ends img (over img n e) g env'
  term-ends p q s h =
      other-ends p (λ z. let y = q.number in omega arith) (record { same = h.same ∙ sym (term-wrapped img p q s).inner; stands = h.stands })

  -- an app head that wraps a child which is walked as itself
  pub head-ends : {n c : ℕ} {i : NodeId} {e f g : Walked} {env env' : List ℕ} → Ready img (kind_of 15) n e → Cased img n (suc c) i → eqb (get_or head_kinds (suc c) no_child) no_child ≡ false
      → Ends img (over img i.0 e) f env → g ≡ marked img n e.scope f → env' ≡ env → Ends img (over img n e) g env'
  head-ends {n} {e = e} p q s h w k =
      ends-left e.scope p.is.below (quiet-head img p.is (λ z. let y = q.number in omega arith))
      (head-whole img e p.is ∙ ap (marked img n e.scope) (head-wrapped img p q s).inner) w k h

  -- no name is asked for at an IdentTerm
  pub ident-quiet : {i : ℕ} → Is img (kind_of 13) i → asked img i ≡ none
  unfolding kind_of loud_fields
  ident-quiet is = quiet img refl is

  -- a name that introduces nothing
  pub name-ends : {c : ℕ} {e f : Walked} {env env' : List ℕ} → Is img (kind_of 13) c → f ≡ marked img c e.scope e → env' ≡ env → Stands img e env → Ends img (walk img names (tree_at img c) e) f env'
  name-ends {e = e} is w k s = ends-left e.scope is.below (ident-quiet is) (name-step img e is) w k (record { same = refl; stands = s })

  pub member-ends : {n c d : ℕ} {e f g h : Walked} {env env' env'' : List ℕ} → Ready img (kind_of 17) n e → c ≡ field img n 0 → d ≡ field img n 1 → Ends img (over img c e) f env
      → g ≡ marked img d f.scope f → env' ≡ env → h ≡ marked img n e.scope g → env'' ≡ env' → Ends img (over img n e) h env''
  unfolding kind_of loud_fields
  member-ends {d = d} {e} {f} p q q2 a w k w2 k2 =
      let o = member_of img p q q2 in
      ends-left e.scope p.is.below (quiet img refl p.is) o.whole w2 k2
      (ends-left f.scope o.second.below (ident-quiet o.second) (ap (λ (v : Walked). marked img d v.scope v) (sym a.same)) w k (record { same = refl; stands = a.stands }))

  pub head-member-ends : {n : ℕ} {e g h : Walked} {env env' : List ℕ} → Ready img (kind_of 16) n e → Ends img (in_member img n e) g env → h ≡ unmarked img n g → env' ≡ env → Ends img (over img n e) h env'
  unfolding kind_of loud_fields
  head-member-ends {n} {e} p b w k =
      record {
        same = w ∙ ap (unmarked img n) b.same ∙ sym (member-whole img e p.is);
        stands = left-bare img p.is.below (quiet img refl p.is) w k b.stands;
      }

  -- an ident that is known, and one that is not
  pub known-ends : {b : Bool} (i : ℕ) {e : Walked} {env : List ℕ} → b ≡ true → Stands img e env → Ends img (unless img b i e) e env
  unfolding unless
  known-ends i {e} q s = record { same = sym (ap (λ (v : Bool). unless img v i e) q); stands = s }

  pub new-ends : {b : Bool} (i : ℕ) (e : Walked) {f : Walked} {env : List ℕ} → b ≡ false → f ≡ introduce img i e → Stands img f env → Ends img (unless img b i e) f env
  unfolding unless
  new-ends i e q w s = record { same = w ∙ sym (ap (λ (v : Bool). unless img v i e) q); stands = s }

  pub new-few : {b : Bool} (i : ℕ) (e : Walked) → b ≡ false → Few img (unless img b i e).table → (e.table.scopes < nodes img) × (e.table.symbols < nodes img)
  unfolding unless introduce child_scope own_symbol new_scope new_symbol
  new-few i e q f =
      let h = subst (λ (v : Bool). Few img (unless img v i e).table) q f in
      let k = h.scopes in let y = h.symbols in
      (omega arith, omega arith)

  ident-is : (r : Role) (i : ℕ) (e : Walked) → walk_ident img r i e ≡ unless img (asks img r (lookup img e.table (from r e) (name_of img i))) i e
  unfolding walk_ident unless
  ident-is occurs i e = refl
  ident-is declares i e = refl
  ident-is (defines b) i e = refl
  ident-is names i e = refl

  pub unless-is : {b : Bool} {i x : ℕ} (r : Role) (e : Walked) → Named img i x → b ≡ asks img r (lookup img e.table (from r e) x) → unless img b i e ≡ walk_ident img r i e
  unless-is {b} {i} r e n q = ap (λ (v : Bool). unless img v i e) (q ∙ ap (λ (y : ℕ). asks img r (lookup img e.table (from r e) y)) n.is) ∙ sym (ident-is r i e)

  -- the word of a name, where the walk stands
  pub word-tells : {x w : ℕ} {e : Walked} {env : List ℕ} → Stands img e env → x < names_most → w ≡ standing env x → Tells img e.table w (found img e.table e.scope x)
  word-tells {x} {e = e} s l q = subst (λ (v : ℕ). Tells img e.table v (found img e.table e.scope x)) (sym q) (s.here x l)

  -- and after the walk over the tree of a node
  pub older : (r : Role) (n : ℕ) {e f : Walked} {env : List ℕ} → Few img f.table → Stands img e env → f ≡ walk img r (tree_at img n) e → Older img e.table f.table
  older r n {e} k s z =
      subst (λ (g : Walked). Older img e.table g.table) (sym z) (walk-older img r (tree_at img n) e (tree-small img n) (subst (λ (g : Walked). Few img g.table) z k) s)

  pub record Later (x w : ℕ) (e f : Walked) : Type 0 where
    pub live : e.scope < f.table.scopes
    pub tells : Tells img f.table w (found img f.table e.scope x)

  pub later : {x w : ℕ} (r : Role) (n : ℕ) {e f : Walked} {env : List ℕ} → Few img f.table → Stands img e env → x < names_most → w ≡ standing env x → f ≡ walk img r (tree_at img n) e → Later x w e f
  later {x} r n k s l q z =
      let o = older r n k s z in
      let a = o.scopes in let b = s.live in
      record { live = omega arith; tells = tells-later img x o s.live (word-tells s l q) }

  -- the ident i of the node n, at which its name x is asked for; what is walked of n from e, where the ident is bound unless b
  pub record Ident (r : Role) (n i x : ℕ) (b : Bool) (e whole : Walked) : Type 0 where
    pub node : n < nodes img
    pub asks : asked img n ≡ some x
    pub is : Is img (kind_of 13) i
    pub named : Named img i x
    pub few : Few img (unless img b i e).table
    pub step : marked img i e.scope (unless img b i e) ≡ walk img r (tree_at img i) e
    pub all : whole ≡ marked img n e.scope (marked img i e.scope (unless img b i e))

  -- the name of a term's ident, and of an app head's
  pub var-below : {r : Role} {n i x : ℕ} {e : Walked} → Variable img r n e → Two img n 0 i → x ≡ field img i 0 → x < names_most
  var-below p t q = (ident-named img (var-ident img p t.first t.second).is q).below

  pub head-below : {n i x : ℕ} {e : Walked} → Ready img (kind_of 15) n e → Two img n 0 i → x ≡ field img i 0 → x < names_most
  head-below {e = e} p t q = (ident-named img (head-case img {e = e} names p.is 0 t.first t.second refl).is q).below

  -- of a term, in its role
  pub ident_of : {r : Role} {n i x : ℕ} {b : Bool} {e : Walked} → Variable img r n e → Two img n 0 i → x ≡ field img i 0 → b ≡ asks img r (lookup img e.table (from r e) x)
      → Ident r n i x b e (walk img r (tree_at img n) e)
  ident_of {r} {n} {i} {x} {b} {e} p t q k =
      let v = var-ident img p t.first t.second in
      let h = ident-named img v.is q in
      let u = unless-is r e h k in
      let m = marked img i e.scope in
      record {
        node = p.is.below;
        asks = asked-term img i p.is t.first t.second ∙ ap some (sym h.is);
        is = v.is;
        named = h;
        few = subst (λ (f : Walked). Few img f.table) (sym u) v.room.few;
        step = ap m u ∙ sym (ident-step img r e v.is);
        all = v.whole ∙ ap (λ (f : Walked). marked img n e.scope (m f)) (sym u);
      }

  -- the same where the role asks from where the walk stands, by the word of the name
  pub ident_here : {r : Role} {n i x w : ℕ} {b : Bool} {e : Walked} {env : List ℕ} → Variable img r n e → Two img n 0 i → x ≡ field img i 0 → from r e ≡ e.scope → Stands img e env → w ≡ standing env x
      → b ≡ asks img r (found_node (told img e.table.words w)) → Ident r n i x b e (walk img r (tree_at img n) e)
  unfolding lookup
  ident_here {r} {x = x} {e = e} p t q z s l k =
      let v = var-ident img p t.first t.second in
      let h = word-tells s (ident-named img v.is q).below l in
      ident_of p t q (k ∙ ap (λ (o : Option Found). asks img r (found_node o)) h.is ∙ ap (λ (y : ℕ). asks img r (lookup img e.table y x)) (sym z))

  -- of an app head
  pub ident_head : {n i x : ℕ} {e : Walked} {env : List ℕ} → Ready img (kind_of 15) n e → Two img n 0 i → x ≡ field img i 0 → Stands img e env → Ident names n i x true e (over img n e)
  unfolding unless
  ident_head {n} {i} {e = e} p t q s =
      let is = (head-case img {e = e} names p.is 0 t.first t.second refl).is in
      let h = ident-named img is q in
      record {
        node = p.is.below;
        asks = asked-head img i p.is t.first t.second ∙ ap some (sym h.is);
        is = is;
        named = h;
        few = record { scopes = s.says.scopes; symbols = s.says.symbols };
        step = sym (name-step img e is);
        all = head-whole img e p.is ∙ ap (marked img n e.scope) (head-ident img e p.is t.first t.second);
      }

  -- what the node is left with, after its ident; and where its walk ends
  pub ident-asking : {r : Role} {n i x w : ℕ} {b : Bool} {e f g a : Walked} {env env' env'' : List ℕ} → Ident r n i x b e a → Stands img e env → w ≡ standing env x → Ends img (unless img b i e) f env'
      → g ≡ marked img i e.scope f → env'' ≡ env' → Asking img n x w e.scope g env''
  unfolding marked mark
  ident-asking {r} {i = i} {b = b} {e} {f} {g} o s q h z p =
      let y = z ∙ ap (marked img i e.scope) h.same in
      let k : Few img g.table = subst (λ (v : Walked). Few img v.table) (sym y) (record { scopes = o.few.scopes; symbols = o.few.symbols }) in
      let l = later r i k s o.named.below q (y ∙ o.step) in
      record {
        stands = left img e.scope o.is.below (ident-quiet o.is) z p h.stands;
        node = o.node;
        is = o.asks;
        below = o.named.below;
        live = l.live;
        tells = l.tells;
      }

  pub ident-ends : {r : Role} {n i x : ℕ} {b : Bool} {e f g k a : Walked} {env env' : List ℕ} → Ident r n i x b e a → Ends img (unless img b i e) f env → g ≡ marked img i e.scope f
      → k ≡ marked img n e.scope g → Stands img k env' → Ends img a k env'
  ident-ends {n = n} {i} {e = e} o h z y s = record { same = y ∙ ap (marked img n e.scope) (z ∙ ap (marked img i e.scope) h.same) ∙ sym o.all; stands = s }

  -- a term as a variable that occurs
  pub as-variable : {n : ℕ} {e : Walked} → Ready img (kind_of 12) n e → Variable img occurs n e
  as-variable p = record { is = p.is; room = p.room }

  -- a ThenAtom of another case than Defined
  pub then-ends : {n c : ℕ} {i : NodeId} {e f g : Walked} {env env' : List ℕ} → Ready img (kind_of 29) n e → Cased img n c i → (c ≡ 1 → ⊥) → eqb (get_or (30 ∷ 34 ∷ 31 ∷ []) c no_child) no_child ≡ false
      → Ends img (over img i.0 e) f env → g ≡ marked img n e.scope f → env' ≡ env → Ends img (over img n e) g env'
  unfolding kind_of
  then-ends {n} {e = e} p q y s h w k =
      ends-left e.scope p.is.below (quiet_then img p.is (λ z. y (q.number ∙ z))) (plain-whole img e p.is ∙ ap (marked img n e.scope) (plain-wrapped img p q s).inner) w k h

  -- a variable that is no ident, walked as any term
  pub var-ends : {r : Role} {n : ℕ} {e f : Walked} {env : List ℕ} → Variable img r n e → (field img n 0 ≡ 0 → ⊥) → Ends img (over img n e) f env → Ends img (walk img r (tree_at img n) e) f env
  var-ends p z h = record { same = h.same ∙ sym (var-other img p z).1; stands = h.stands }

  -- a ThenAtom of case Defined: the atom n, its defined-then id, whose term is d ------------------------------------------
  pub record DefinedAtom (n id d : ℕ) (e : Walked) : Type 0 where
    pub ready : Ready img (kind_of 34) id e
    pub parts : Defined img id d e
    pub whole : over img n e ≡ marked img n e.scope (over img id e)

  pub defined_atom : {n id d : ℕ} {e : Walked} → Ready img (kind_of 29) n e → Two img n 1 id → d ≡ field img id 1 → DefinedAtom n id d e
  unfolding kind_of
  defined_atom {n} {id} {e = e} p t q =
      let o = plain-wrapped img {i = record { 0 = id }} p (record { number = t.first; child = t.second }) refl in
      record { ready = o.ready; parts = defined_of img o.ready q; whole = plain-whole img e p.is ∙ ap (marked img n e.scope) o.inner }

  -- the name of its variable
  pub defining-below : {n id v d i x : ℕ} {e : Walked} → Ready img (kind_of 29) n e → Defining img n id v d i → x ≡ field img i 0 → x < names_most
  defining-below {v = v} p g q = var-below ((defined_atom p g.defined g.terms.second).parts.second v (sym g.terms.first)) g.named q

  -- the atom left, where its name is asked for, and where none is
  pub atom-asked : {n id d : ℕ} {e f g : Walked} {env env' : List ℕ} → DefinedAtom n id d e → Ends img (over img id e) f env → g ≡ marked img n e.scope f → Stands img g env' → Ends img (over img n e) g env'
  atom-asked {n} {e = e} o h w s = record { same = w ∙ ap (marked img n e.scope) h.same ∙ sym o.whole; stands = s }

  pub atom-quiet : {n id d : ℕ} {e f g : Walked} {env env' : List ℕ} → DefinedAtom n id d e → Is img (kind_of 29) n → asked img n ≡ none → Ends img (over img id e) f env → g ≡ marked img n e.scope f → env' ≡ env → Ends img (over img n e) g env'
  atom-quiet {e = e} o is q h w k = ends-left e.scope is.below q o.whole w k h

  -- the defined-then left: after its term, if it has no variable, and after its variable
  defined-quiet : {id : ℕ} → Is img (kind_of 34) id → asked img id ≡ none
  unfolding kind_of loud_fields
  defined-quiet is = quiet img refl is

  pub absent-ends : {n id d : ℕ} {e f g : Walked} {env env' : List ℕ} → DefinedAtom n id d e → field img id 0 ≡ 0 → Ends img (over img d e) f env → g ≡ marked img id e.scope f → env' ≡ env → Ends img (over img id e) g env'
  absent-ends {e = e} o z h w k = ends-left e.scope o.ready.is.below (defined-quiet o.ready.is) (o.parts.whole z) w k h

  pub given-ends : {n id d : ℕ} (v : ℕ) {e f g h : Walked} {env env' env'' : List ℕ} → DefinedAtom n id d e → suc v ≡ field img id 0 → Ends img (over img d e) f env
      → Ends img (walk img (defines e.scope) (tree_at img v) f) g env' → h ≡ marked img id e.scope g → env'' ≡ env' → Ends img (over img id e) h env''
  given-ends v {e = e} o q a b w k =
      ends-left e.scope o.ready.is.below (defined-quiet o.ready.is) (o.parts.whole2 v (sym q)) w k (ends-then (walk img (defines e.scope) (tree_at img v)) a.same b)

  -- its variable, from where the term's walk ends
  pub given-variable : {n id d : ℕ} (v : ℕ) {e f : Walked} {env : List ℕ} → DefinedAtom n id d e → suc v ≡ field img id 0 → Ends img (over img d e) f env → Variable img (defines e.scope) v f
  given-variable v {e} o q h = subst (Variable img (defines e.scope) v) (sym h.same) (o.parts.second v (sym q))

  -- an ident, with the word w that its name has before the term is walked
  pub defining_ident : {n id v d i x w : ℕ} {b : Bool} {e f : Walked} {env env' : List ℕ} → Ready img (kind_of 29) n e → Defining img n id v d i → x ≡ field img i 0 → Stands img e env → w ≡ standing env x
      → b ≡ is_var img (found_node (told img f.table.words w)) → Ends img (over img d e) f env' → Ident (defines e.scope) v i x b f (walk img (defines e.scope) (tree_at img v) f)
  unfolding lookup
  defining_ident {v = v} {d} {x = x} {w} {e = e} {f} p g q s l k h =
      let o = defined_atom p g.defined g.terms.second in
      let u = given-variable v o g.terms.first h in
      let t = word-tells s (ident-named img (var-ident img u g.named.first g.named.second).is q).below l in
      let y = older occurs d (subst (λ (c : Walked). Few img c.table) (sym h.same) o.parts.first.room.few) s h.same in
      ident_of u g.named q (k ∙ ap (λ (o : Option Found). is_var img (found_node o)) (y.rows w t.row ∙ t.is ∙ sym (y.lookups e.scope x s.live)))

  -- what the atom is left with
  pub defining-asking : {n id v d i x w : ℕ} {b : Bool} {e f h a : Walked} {env env' : List ℕ} → Ready img (kind_of 29) n e → Defining img n id v d i → Ident (defines e.scope) v i x b f a → Stands img e env → w ≡ standing env x
      → Ends img (over img id e) h env' → Asking img n x w e.scope h env'
  defining-asking {id = id} {v} {i = i} p g u s l h =
      let o = defined_atom p g.defined g.terms.second in
      let y = later occurs id (subst (λ (c : Walked). Few img c.table) (sym h.same) o.ready.room.few) s u.named.below l h.same in
      record {
        stands = h.stands;
        node = p.is.below;
        is = asked-then img id v i p.is g.defined.first g.defined.second g.terms.first g.named.first g.named.second ∙ ap some (sym u.named.is);
        below = u.named.below;
        live = y.live;
        tells = y.tells;
      }
