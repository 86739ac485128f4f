-- Document 01's Once, on what the call leaves: for every image and table for which it gives no refusal, where no module or model list
-- declares one name twice. If it answers a lone occurrence, that is the first in the list's order whose binding stands once in its
-- rule, a Term whose own IdentTerm is its binding; if it answers "ok", every binding stands twice or more.
use mathlib.Core.Path.{◌≡◌, refl, sym, ◌∙◌, ap, ap₂, subst}
use mathlib.Core.Logic.{◌⊎◌, inl, inr}
use mathlib.Core.Bool.{Bool, true, false}
use mathlib.Core.List.{List, [], ◌∷◌, ◌++◌}
use mathlib.Core.Option.{Option, none as nothing, some}
use Prim.Native.Nat.{ℕ, ◌≤◌}
use native.Mathlib.Omega.{arith}
use lib.Dec.{leb}
use borrow.Author.Tests.{leb-true}
use Rattle.ast.specs.Answer.{result, other}
use Rattle.ast.specs.Image.{name_of}
use Rattle.ast.specs.Rules.{Rule, module_rules}
use Rattle.rows.specs.Rows.{Row, row}
use Rattle.scopes.specs.Calls.{test_rows, rows_call}
use Rattle.scopes.specs.Resolve.{test_table, walked, counted, Way, answer_by, table_by, Outcome, table_call}
use Rattle.scopes.specs.Twice.{declared_twice}
use Rattle.scopes.specs.Walk.{done}
use Rattle.scopes.proofs.Calls.{way_fills}
use Rattle.scopes.proofs.Resolving.{table-accepted}
use Rattle.scopes.proofs.Single.{single-done}
use Rattle.table.specs.State.{Walked}
use Rattle.table.specs.Table.{Table, lookup, exit_at}
use Rattle.occurrences.specs.Occurrences.{rule_rows, all_rows, occurrence_rows, occurrences, times_bound, lone_in, lone, rows_by_rule, lone_answer, once}
use Rattle.sight.specs.Sight.{Place, In}
use Rattle.sight.specs.Listing.{RuleRows, Shared, NoLone, FirstLone, Unrefused}
use Rattle.sound.specs.Sound.{table_in}
use Rattle.sight.proofs.Answering.{passes}
use Rattle.sight.proofs.Demand.{list}
use Rattle.sight.proofs.Leaving.{list-is}
use Rattle.sight.proofs.LoneTerm.{bound-in, lone_row, lone_is}
use Rattle.sight.proofs.Resolving.{resolved, left-table}
use Rattle.sight.proofs.RowLaws.{rule-rows}
use Rattle.sight.proofs.WholeModule.{WalkOf}

-- the rows before the first lone one
record Split (all left : List Row) (w : Row) : Type 0 where
  before : List Row
  after : List Row
  split : left ≡ before ++ (w ∷ after)
  none_before : (v : Row) → In v before → 2 ≤ times_bound v.right all

none-lone : (all left : List Row) → lone_in all left ≡ nothing → (v : Row) → In v left → 2 ≤ times_bound v.right all
unfolding lone_in
none-lone all [] e v i = absurd i
none-lone all (x ∷ left) e v i = go (leb 2 (times_bound x.right all)) refl (λ q. none-lone all left q v) e i
  where
    go : (c : Bool) → leb 2 (times_bound x.right all) ≡ c → (lone_in all left ≡ nothing → In v left → 2 ≤ times_bound v.right all)
        → ◌≡◌ {A = Option Row} (elim c [ true ↦ lone_in all left | false ↦ some x ]) nothing → In v (x ∷ left) → 2 ≤ times_bound v.right all
    go true p r q (inl z) = subst (λ (u : Row). 2 ≤ times_bound u.right all) (sym z) (leb-true 2 (times_bound x.right all) p)
    go true p r q (inr j) = r q j
    go false p r q j = let z : ◌≡◌ {A = ℕ} 0 1 = cc in absurd (omega arith)

first-lone-row : (all left : List Row) (w : Row) → lone_in all left ≡ some w → Split all left w
unfolding lone_in
first-lone-row all [] w e = let z : ◌≡◌ {A = ℕ} 0 1 = cc in absurd (omega arith)
first-lone-row all (x ∷ left) w e = go (leb 2 (times_bound x.right all)) refl (first-lone-row all left w) e
  where
    go : (c : Bool) → leb 2 (times_bound x.right all) ≡ c → (lone_in all left ≡ some w → Split all left w)
        → elim c [ true ↦ lone_in all left | false ↦ some x ] ≡ some w → Split all (x ∷ left) w
    go true p r q =
        let s = r q in
        record {
          before = x ∷ s.before;
          after = s.after;
          split = ap (λ (l : List Row). x ∷ l) s.split;
          none_before = λ v i.
              elim i [
                | inl z ↦ subst (λ (u : Row). 2 ≤ times_bound u.right all) (sym z) (leb-true 2 (times_bound x.right all) p)
                | inr j ↦ s.none_before v j
              ];
        }
    go false p r q =
        let z : x ≡ w = cc in
        record { before = []; after = left; split = ap (λ (v : Row). v ∷ left) z; none_before = λ v i. absurd i }

module _ (img : List ℕ) (t : Table) where
  abbrev rows_in : Rule → List Row
  rows_in r = rule_rows img t r

  -- the first lone row of the rule r, with no rule before it
  here-lone : (r : Rule) (rs : List Rule) → WalkOf img r t → (w : Row) → lone_in (rows_in r) (rows_in r) ≡ some w → FirstLone img rows_in (r ∷ rs) w
  here-lone r rs walk w e =
      let s = first-lone-row (rows_in r) (rows_in r) w e in
      let k = lone_row (rows_in r) (rows_in r) w e in
      let k₁ = k.1 in
      let b = bound-in w.right w (rows_in r) k.0 refl in
      let l = lone_is img t r walk w e in
      record {
        earlier = [];
        own = r;
        later = rs;
        rules = refl;
        before = s.before;
        after = s.after;
        split = s.split;
        none_earlier = λ q i. absurd i;
        none_before = s.none_before;
        once = omega arith;
        place = l.place;
        here = l.here;
        occurs = l.occurs;
        node = l.node;
        ident = l.binding;
        term = l.term;
      }

  -- a rule more before it
  there-lone : (r : Rule) (rs : List Rule) (w : Row) → lone_in (rows_in r) (rows_in r) ≡ nothing → FirstLone img rows_in rs w → FirstLone img rows_in (r ∷ rs) w
  there-lone r rs w e f =
      record {
        earlier = r ∷ f.earlier;
        own = f.own;
        later = f.later;
        rules = ap (λ (l : List Rule). r ∷ l) f.rules;
        before = f.before;
        after = f.after;
        split = f.split;
        none_earlier = more;
        none_before = f.none_before;
        once = f.once;
        place = f.place;
        here = f.here;
        occurs = f.occurs;
        node = f.node;
        ident = f.ident;
        term = f.term;
      }
    where
      more : NoLone img rows_in (r ∷ f.earlier)
      more q (inl z) = subst (λ (y : Rule). Shared img rows_in y (rows_in y)) (sym z) (none-lone (rows_in r) (rows_in r) e)
      more q (inr i) = f.none_earlier q i

  first_of : (rs : List Rule) → ((r : Rule) → In r rs → WalkOf img r t) → (w : Row) → lone (rows_by_rule img t rs) ≡ some w → FirstLone img rows_in rs w
  unfolding lone rows_by_rule
  first_of [] walks w e = let z : ◌≡◌ {A = ℕ} 0 1 = cc in absurd (omega arith)
  first_of (r ∷ rs) walks w e = go (lone_in (rows_in r) (rows_in r)) refl (first_of rs (λ q i. walks q (inr i)) w) e
    where
      go : (o : Option Row) → lone_in (rows_in r) (rows_in r) ≡ o → (lone (rows_by_rule img t rs) ≡ some w → FirstLone img rows_in rs w)
          → elim o [ nothing ↦ lone (rows_by_rule img t rs) | some v ↦ some v ] ≡ some w → FirstLone img rows_in (r ∷ rs) w
      go nothing p f q = there-lone r rs w p (f q)
      go (some v) p f q = here-lone r rs (walks r (inl refl)) w (p ∙ q)

  none_of : (rs : List Rule) → lone (rows_by_rule img t rs) ≡ nothing → NoLone img rows_in rs
  unfolding lone rows_by_rule
  none_of [] e r i = absurd i
  none_of (r ∷ rs) e q i = go (lone_in (rows_in r) (rows_in r)) refl (λ h. none_of rs h q) e i
    where
      go : (o : Option Row) → lone_in (rows_in r) (rows_in r) ≡ o → (lone (rows_by_rule img t rs) ≡ nothing → In q rs → Shared img rows_in q (rows_in q))
          → ◌≡◌ {A = Option Row} (elim o [ nothing ↦ lone (rows_by_rule img t rs) | some v ↦ some v ]) nothing → In q (r ∷ rs) → Shared img rows_in q (rows_in q)
      go nothing p f h (inl z) = subst (λ (y : Rule). Shared img rows_in y (rows_in y)) (sym z) (none-lone (rows_in r) (rows_in r) p)
      go nothing p f h (inr j) = f h j
      go (some v) p f h j = let z : ◌≡◌ {A = ℕ} 0 1 = cc in absurd (omega arith)

module _ (img tab : List ℕ) where
  -- what the call leaves: its answer and the table's words
  abbrev pub left : Outcome
  left = once img tab

  abbrev pub table : Table
  table = table_in img left.table

  -- the binding: the node that lookup of its name gives, in the table, at the exit of the occurrence's node
  abbrev pub binding : Place → Option ℕ
  binding p = lookup img table (exit_at img left.table p.node) (name_of img p.ident)

  -- the rows of a rule, as Occurrences lists them
  abbrev pub rows : Rule → List Row
  rows r = rule_rows img table r

  module _ (unrefused : Unrefused left.answer) (single : declared_twice img ≡ false) where
    tested : test_table img tab ≡ 0
    unfolding once table_call
    tested = passes img tab _ (test_table img tab) unrefused

    -- the walk comes to its end
    ended : (e : Walked) × (walked img tab ≡ done e)
    ended = single-done img tab tested single

    table_is : table ≡ counted img ended.0.table
    unfolding once table_call table_by
    table_is = ap (λ (w : Way). table_in img (table_by img tab w)) (way_fills img tab tested ended.1) ∙ left-table img tab tested ended.1

    answer-is : left.answer ≡ lone_answer (lone (rows_by_rule img table (module_rules img)))
    unfolding once table_call answer_by
    answer-is =
        ap (answer_by (λ t. lone_answer (lone (rows_by_rule img t (module_rules img))))) (way_fills img tab tested ended.1)
        ∙ ap (λ (t : Table). lone_answer (lone (rows_by_rule img t (module_rules img)))) (sym table_is)

    walks : (r : Rule) → In r (module_rules img) → WalkOf img r table
    walks r i = subst (WalkOf img r) (sym table_is) ((resolved img tab ended.0 (table-accepted img tab tested) ended.1).walks r i)

    -- they list the variable occurrences of the rule, in the list's order, each with its binding, and nothing else
    pub rows_are : (r : Rule) → In r (module_rules img) → RuleRows img binding r (rows r)
    rows_are r i = rule-rows img table r (walks r i)

    -- one after another they are what Occurrences lists, in whatever rows it is lent
    pub rows-listed : (lent : List ℕ) → Unrefused (occurrences img tab lent).answer → list img tab lent ≡ all_rows img table (module_rules img)
    unfolding occurrences rows_call occurrence_rows
    rows-listed lent u =
        list-is img tab lent (passes img tab _ (test_rows img tab lent) u) ended.0 ended.1 ∙ ap (λ (t : Table). all_rows img t (module_rules img)) (sym table_is)

    -- a lone occurrence: the first one
    pub lone-first : (n b : ℕ) → left.answer ≡ other n b → FirstLone img rows (module_rules img) (row n b)
    unfolding lone_answer
    lone-first n b e = go (lone (rows_by_rule img table (module_rules img))) refl (sym answer-is ∙ e)
      where
        go : (o : Option Row) → lone (rows_by_rule img table (module_rules img)) ≡ o → lone_answer o ≡ other n b → FirstLone img rows (module_rules img) (row n b)
        go nothing p q = let z : ◌≡◌ {A = ℕ} 0 1 = cc in absurd (omega arith)
        go (some w) p q =
            let x : w.left ≡ n = cc in
            let y : w.right ≡ b = cc in
            first_of img table (module_rules img) walks (row n b) (p ∙ ap some (ap₂ row x y))

    -- "ok": there is none
    pub ok-none : left.answer ≡ result 0 0 → NoLone img rows (module_rules img)
    unfolding lone_answer
    ok-none e = go (lone (rows_by_rule img table (module_rules img))) refl (sym answer-is ∙ e)
      where
        go : (o : Option Row) → lone (rows_by_rule img table (module_rules img)) ≡ o → lone_answer o ≡ result 0 0 → NoLone img rows (module_rules img)
        go nothing p q = none_of img table (module_rules img) p
        go (some w) p q = let z : ◌≡◌ {A = ℕ} 0 1 = cc in absurd (omega arith)

    -- it answers one of the two
    pub answers : (left.answer ≡ result 0 0) ⊎ ((n : ℕ) × ((b : ℕ) × (left.answer ≡ other n b)))
    unfolding lone_answer
    answers = go (lone (rows_by_rule img table (module_rules img))) refl
      where
        go : (o : Option Row) → lone (rows_by_rule img table (module_rules img)) ≡ o → (left.answer ≡ result 0 0) ⊎ ((n : ℕ) × ((b : ℕ) × (left.answer ≡ other n b)))
        go nothing p = inl (answer-is ∙ ap lone_answer p)
        go (some w) p = inr (w.left, (w.right, answer-is ∙ ap lone_answer p))
