-- What the environment's words say after a walk over nodes of a rule is what `meet` makes of what they said before: one equation more for
-- each walker's contract, under the contract's own hypotheses. The walkers of arguments, which are no part of a rule, have none.
use mathlib.Core.Path.{◌≡◌, refl, sym, ◌∙◌, ap, subst}
use mathlib.Core.List.{List, [], ◌∷◌}
use Prim.Native.Nat.{ℕ, zero, suc, ◌+◌, ◌<◌}
use native.Mathlib.Nat.{add-zero}
use native.Mathlib.Omega.{arith}
use lib.Dec.{T}
use Rattle.ast.specs.Image.{nodes, kind_at, name_of, field}
use Rattle.ast.specs.Is.{Is, kind_by, one_term, two_terms}
use Rattle.ast.specs.Items.{items, blocks, below}
use Rattle.ast.specs.Kinds.{inner, plain, Field, Kind, kind_of}
use Rattle.ast.specs.Named.{term_kind, app_term_kind, app_head_kind, app_head_member_kind, term_member_kind, term_list_kind, type_expr_kind, pred_expr_kind, if_atom_kind, then_atom_kind, pred_atom_kind, var_if_atom_kind, match_case_kind, stmt_kind, if_stmt_kind, then_stmt_kind, branch_stmt_kind, match_stmt_kind}
use Rattle.ast.specs.Tree.{Tree, Trees, none, ◌◂◌, tree_at}
use Rattle.ast.proofs.Row.{append-none, node_of}
use Rattle.ast.proofs.Shapes.{tree_of, run-item}
use Rattle.ast.proofs.Small.{Small, Smalls, tree-small, items-small}
use Rattle.ast.proofs.Vars.{check_all}
use Rattle.table.specs.State.{Walked, marked}
use Rattle.table.specs.Table.{found_node, lookup}
use Rattle.table.proofs.Finds.{lookup-node}
use Rattle.table.proofs.Frame.{mark-found}
use Rattle.environment.specs.Layout.{names_most, standing}
use Rattle.environment.specs.Stands.{told, Stands}
use Rattle.ordered.specs.Promises.{over, inside, rest, Ends, Few, Ready, Variable, ReadyRun}
use Rattle.ordered.specs.Walk.{Role, walk, walk_seq}
use Rattle.ordered.specs.Walk as walking
use Rattle.ordered.proofs.Ends.{ends_as}
use Rattle.ordered.proofs.Grows.{stays}
use Rattle.ordered.proofs.Idents.{other-ends}
use Rattle.ordered.proofs.Lists.{rest-start}
use Rattle.ordered.proofs.Steps.{part_room, plain-whole}
use Rattle.sight.proofs.Counting.{numbers-small}
use Rattle.sight.proofs.Moves.{walks-along, framed}
use Rattle.sight.proofs.Steps.{Body, Bodies}
use Rattle.sight.proofs.Verdict.{in_body, body_of}
use Rattle.meaning.specs.Meaning.{Env, Part, occurs, declares, meet, meet_seq}
use Rattle.meaning.proofs.Told.{At, Alike, as-occurs, as-declares, rule-met}

module _ (img : List ℕ) where
  -- by name, the words of env say what m does
  abbrev pub Say : Walked → List ℕ → Env → Type 0
  Say e env m = (x : ℕ) → x < names_most → found_node (told img e.table.words (standing env x)) ≡ m x

  -- what names stand for where a walk stands
  abbrev pub stands_for : Walked → Env
  stands_for e x = lookup img e.table e.scope x

  pub words-say : {e : Walked} {env : List ℕ} → Stands img e env → Say e env (stands_for e)
  words-say s x l = lookup-node img _ _ _ (s.here x l).is

  -- trees of a rule, in a role
  pub words-meet : {r : Role} {p : Part} (ts : Trees) → Bodies img ts → Smalls (nodes img) ts → (e : Walked) {f : Walked} {v w : List ℕ}
      → Alike img (walk_seq img r ts e).table e.table.scopes r p → Few img (walk_seq img r ts e).table
      → Stands img e v → Ends img (walk_seq img r ts e) f w → Say f w (meet_seq (name_of img) (kind_at img) p ts (stands_for e))
  words-meet {r} {p} ts b small e {f} {v} {w} q few s h x l =
      lookup-node img _ _ _ (h.stands.here x l).is ∙ ap (λ (g : Walked). stands_for g x) h.same ∙ met.reads x
    where
      met : At img (walk_seq img r ts e).table (meet_seq (name_of img) (kind_at img) p ts (stands_for e)) (walk_seq img r ts e)
      met =
          let n<N = numbers-small (nodes img) ts small in
          let g = framed img (walks-along img r ts e) (few.scopes, few.symbols) n<N s.says.kept s.live in
          rule-met img (walk_seq img r ts e).table ⊥ ts b e q
          (record { sane = s.says.kept; inside = s.live; reads = λ y. g.later.lookups e.scope y s.live })
          (record { few = (few.scopes, few.symbols); small = n<N; lookups = λ r y k. refl; distinct = λ c. absurd c; entries = λ c. absurd c; exits = λ c. absurd c })

  -- a node: walk_stmt, walk_term and the others
  pub walker-meets : {kd : Kind} {n : ℕ} {e f : Walked} {v w : List ℕ} → T (in_body kd) → Ready img kd n e → Stands img e v
      → Ends img (over img n e) f w → Say f w (meet (name_of img) (kind_at img) occurs (tree_at img n) (stands_for e))
  unfolding walk meet Body Small
  walker-meets {n = n} {e} b p s h = words-meet (tree_at img n ◂ none) (body_of p.is b, tt) (tree-small img n, tt) e as-occurs p.room.few s h

  -- the term of a variable: walk_var_term
  pub variable-meets : {n : ℕ} {e f : Walked} {v w : List ℕ} → Variable img walking.declares n e → Stands img e v
      → Ends img (walk img walking.declares (tree_at img n) e) f w → Say f w (meet (name_of img) (kind_at img) declares (tree_at img n) (stands_for e))
  unfolding walk meet Body Small in_body kind_of
  variable-meets {n} {e} p s h = words-meet (tree_at img n ◂ none) (body_of p.is tt, tt) (tree-small img n, tt) e as-declares p.room.few s h

  -- a run of children: walk_stmt_block
  items-bodies : (k n c j : ℕ) → T (in_body (kind_of k)) → ((i : ℕ) → i < c → Is img (kind_of k) (field img n (j + i))) → Bodies img (items img n c j)
  unfolding items Body
  items-bodies k n zero j b h = tt
  items-bodies k n (suc c) j b h = (
    body_of (subst (λ (i : ℕ). Is img (kind_of k) (field img n i)) (add-zero j) (h 0 (omega arith))) b,
    items-bodies k n c (j + 1) b (λ i l. let q : j + suc i ≡ j + 1 + i = omega arith in rw q at (h (suc i) (omega arith))),
  )

  pub run-meets : {k n j count : ℕ} {e f : Walked} {v w : List ℕ} → T (in_body (kind_of k)) → ReadyRun img k n j count e → Stands img e v
      → Ends img (rest img walking.occurs n j count 0 e) f w → Say f w (meet_seq (name_of img) (kind_at img) occurs (items img n count j) (stands_for e))
  run-meets {k} {n} {j} {count} {e} b p s h =
      let q = rest-start img walking.occurs n j count e in
      words-meet (items img n count j) (items-bodies k n count j b (λ i l. (run-item img p.run l refl).1)) (items-small img n count j) e as-occurs
      (subst (λ (g : Walked). Few img g.table) (sym q) p.room.few) s (ends_as img q h)

  -- what is below a plain node: walk_stmt_case and the like
  below_plain : {fs : List Field} {n : ℕ} → Is img (kind_by (inner plain) fs) n → T (in_body (kind_by (inner plain) fs))
      → Bodies img (below (tree_at img n)) × Smalls (nodes img) (below (tree_at img n))
  unfolding node_of Body Small
  below_plain {n = n} is b =
      subst (λ (u : Tree). Body img u × Small (nodes img) u → Bodies img (below u) × Smalls (nodes img) (below u)) (sym (tree_of img is))
      (λ h. (h.0, h.1.1)) (body_of is b, tree-small img n)

  pub case-meets : {fs : List Field} {n : ℕ} {e f : Walked} {v w : List ℕ} → T (in_body (kind_by (inner plain) fs)) → Ready img (kind_by (inner plain) fs) n e → Stands img e v
      → Ends img (inside img walking.occurs n e) f w → Say f w (meet_seq (name_of img) (kind_at img) occurs (below (tree_at img n)) (stands_for e))
  case-meets {n = n} {e} b p s h =
      let d = below_plain p.is b in
      words-meet (below (tree_at img n)) d.0 d.1 e as-occurs
      (part_room img p (plain-whole img e p.is) (stays (inside img walking.occurs n e))).few s h

  -- what is below a term that is no ident: walk_term_case. The term's own mark alters no lookup
  pub term-meets : {n : ℕ} {e f : Walked} {v w : List ℕ} → Ready img (kind_of term_kind) n e → (field img n 0 ≡ 0 → ⊥) → Stands img e v
      → Ends img (inside img walking.occurs n e) f w → Say f w (meet (name_of img) (kind_at img) occurs (tree_at img n) (stands_for e))
  unfolding marked in_body kind_of
  term-meets {n} {e} {f} p z s h x l =
      let k = other-ends img p z h refl refl in
      ap found_node ((h.stands.here x l).is ∙ sym (mark-found img n e.scope f.scope f.table p.is.below f.scope x) ∙ sym (k.stands.here x l).is)
      ∙ walker-meets tt p s k x l

  -- the blocks of a branch: walk_blocks
  below-blocks : {n : ℕ} → Is img (kind_of branch_stmt_kind) n → below (tree_at img n) ≡ blocks img n (field img n 0) 1
  unfolding node_of kind_of
  below-blocks is = ap below (tree_of img is) ∙ append-none _

  pub blocks-meet : {n : ℕ} {e f : Walked} {v w : List ℕ} → Ready img (kind_of branch_stmt_kind) n e → Stands img e v
      → Ends img (walk_seq img walking.occurs (blocks img n (field img n 0) 1) e) f w → Say f w (meet_seq (name_of img) (kind_at img) occurs (blocks img n (field img n 0) 1) (stands_for e))
  unfolding in_body kind_of
  blocks-meet {e = e} {f} {w = w} p s =
      subst (λ (us : Trees). Ends img (walk_seq img walking.occurs us e) f w → Say f w (meet_seq (name_of img) (kind_at img) occurs us (stands_for e))) (below-blocks p.is) (case-meets tt p s)

-- the kinds of the walkers' contracts and of the nodes in their arms; those of arguments and IdentTerms are none of them
abbrev walker_kinds : List Kind
walker_kinds =
    one_term ∷ two_terms ∷ kind_of term_kind ∷ kind_of app_term_kind ∷ kind_of app_head_kind ∷ kind_of app_head_member_kind ∷ kind_of term_member_kind ∷ kind_of term_list_kind
    ∷ kind_of type_expr_kind ∷ kind_of pred_expr_kind ∷ kind_of if_atom_kind ∷ kind_of then_atom_kind ∷ kind_of pred_atom_kind ∷ kind_of var_if_atom_kind ∷ kind_of match_case_kind
    ∷ kind_of stmt_kind ∷ kind_of if_stmt_kind ∷ kind_of then_stmt_kind ∷ kind_of branch_stmt_kind ∷ kind_of match_stmt_kind ∷ []

pub walkers-in-body : T (check_all (λ i kd. in_body kd) walker_kinds)
unfolding in_body kind_of
walkers-in-body = tt
